-- Reading as a machine that takes one token after the other: for each place between two tokens, what a token does there.
use Rattle.std.proofs.Common.{◌++◌, ℕ, List, [], ◌∷◌, length, Result, Ok, Err, Bool}
use Rattle.std.specs.Prelude.{if◌then◌else◌, nat_le, not, ◌&&◌, codes}
use Rattle.std.specs.Str.{bytes_eq}
use Rattle.ds_lex.specs.declared.token.Sort.{Sort}
use Rattle.ds_lex.specs.declared.token.Sort.TheVariants as sort
use Rattle.ds_lex.specs.declared.refusal.Refusal.{Refusal}
use Rattle.ds_lex.specs.declared.refusal.Refusal.TheVariants as refusal
use Rattle.ds_lex.specs.Lexemes.{Lexeme}
use Rattle.ds_lex.specs.Reading.{refuse, is_sort}
use Rattle.config_read.specs.declared.fault.ConfigWhy.{ConfigWhy}
use Rattle.config_read.specs.declared.fault.ConfigWhy.TheVariants as why
use Rattle.config_read.specs.declared.config.Node.{Node}
use Rattle.config_read.specs.Spelled.{content, is_quoted, has_node}
use Rattle.config_read.specs.Reading.{is_name, is_name0, with_pool, with_scratch}

-- what may come next, and the node of which entries were read
pub data Stand : Type 0 where
  Begin : Stand
  FirstNode : Stand
  NextNode : Stand
  NodeName : Stand
  Open : List ℕ → Stand
  Inside : Node → Stand
  Fast : Node → Stand
  FirstPool : Node → Stand
  MorePools : Node → Stand
  Kind : Node → Stand
  Path : Lexeme → Node → Stand
  Braces : Node → Stand
  BraceWord : Node → Stand
  BraceFirst : Node → Stand
  BraceMore : Node → Stand
  End : Stand

abbrev pub Step : Type 0
Step = Result (List Node × Stand) ConfigWhy

abbrev pub new_node : List ℕ → Node
new_node name = record { name = name; pools = []; scratch = [] }

abbrev pub to : List Node → Stand → Step
to nodes stand = Ok (nodes, stand)

abbrev pub if_word : List ℕ → Lexeme → Step → Step
if_word word t next = if bytes_eq t.bytes word then next else Err why.Syntax

abbrev pub if_sort : Sort → Lexeme → Step → Step
if_sort s t next = if is_sort s t.sort then next else Err why.Syntax

-- The names, their number and that they are new are looked at where `strict` says so.
abbrev pub node_step : Bool → List Node → Lexeme → Step
node_step strict ns t = if_word (codes "node") t (if strict && nat_le 64 (length ns) then Err why.TooMany else to ns NodeName)

abbrev pub name_step : Bool → List Node → Lexeme → Step
name_step strict ns t = if strict && not (is_name (content t)) then Err why.Name else if strict && has_node ns (content t) then Err why.DoubleNode else to ns (Open (content t))

abbrev pub inside_step : List Node → Node → Lexeme → Step
inside_step ns node t =
    if bytes_eq t.bytes (codes "}") then to (ns ++ node ∷ []) NextNode
    else if bytes_eq t.bytes (codes "fastname") then to ns (Fast node)
    else if bytes_eq t.bytes (codes "pools") then to ns (FirstPool node)
    else if bytes_eq t.bytes (codes "resource") then to ns (Kind node)
    else Err why.Syntax

abbrev pub pool_step : Bool → List Node → Node → Lexeme → Step
pool_step strict ns node t = if strict && not (is_name0 (content t)) then Err why.Name else to ns (MorePools (with_pool node (content t)))

abbrev pub path_step : Bool → List Node → Lexeme → Node → Lexeme → Step
path_step strict ns kind node t =
    if bytes_eq kind.bytes (codes "scratchdisk") then (if strict && not (is_name0 (content t)) then Err why.Name else to ns (Braces (with_scratch node (content t)))) else to ns (Braces node)

abbrev pub step : Bool → List Node → Stand → Lexeme → Step
step strict ns Begin t = if_word (codes "{") t (to ns FirstNode)
step strict ns FirstNode t = node_step strict ns t
step strict ns NextNode t = if bytes_eq t.bytes (codes "}") then to ns End else node_step strict ns t
step strict ns NodeName t = if_sort sort.Quoted t (name_step strict ns t)
step strict ns (Open name) t = if_word (codes "{") t (to ns (Inside (new_node name)))
step strict ns (Inside node) t = inside_step ns node t
step strict ns (Fast node) t = if_sort sort.Quoted t (to ns (Inside node))
step strict ns (FirstPool node) t = if_sort sort.Quoted t (pool_step strict ns node t)
step strict ns (MorePools node) t = if is_quoted t then pool_step strict ns node t else inside_step ns node t
step strict ns (Kind node) t = if_sort sort.Word t (to ns (Path t node))
step strict ns (Path kind node) t = if_sort sort.Quoted t (path_step strict ns kind node t)
step strict ns (Braces node) t = if bytes_eq t.bytes (codes "{") then to ns (BraceWord node) else inside_step ns node t
step strict ns (BraceWord node) t = if_word (codes "pools") t (to ns (BraceFirst node))
step strict ns (BraceFirst node) t = if_sort sort.Quoted t (to ns (BraceMore node))
step strict ns (BraceMore node) t = if is_quoted t then to ns (BraceMore node) else if_word (codes "}") t (to ns (Inside node))
step strict ns End t = Err why.Syntax

abbrev pub Run : Type 0
Run = Result (List Node) (Refusal ConfigWhy)

abbrev pub behind : {A : Type 0} → Lexeme → Step → (List Node → Stand → Result A (Refusal ConfigWhy)) → Result A (Refusal ConfigWhy)
behind t (Err w) next = refuse t w
behind t (Ok x) next = next x.0 x.1

-- where no token is left
abbrev pub last : List Node → Stand → Run
last ns End = Ok ns
last ns Begin = Err refusal.AtEnd
last ns FirstNode = Err refusal.AtEnd
last ns NextNode = Err refusal.AtEnd
last ns NodeName = Err refusal.AtEnd
last ns (Open name) = Err refusal.AtEnd
last ns (Inside node) = Err refusal.AtEnd
last ns (Fast node) = Err refusal.AtEnd
last ns (FirstPool node) = Err refusal.AtEnd
last ns (MorePools node) = Err refusal.AtEnd
last ns (Kind node) = Err refusal.AtEnd
last ns (Path kind node) = Err refusal.AtEnd
last ns (Braces node) = Err refusal.AtEnd
last ns (BraceWord node) = Err refusal.AtEnd
last ns (BraceFirst node) = Err refusal.AtEnd
last ns (BraceMore node) = Err refusal.AtEnd

abbrev pub run : Bool → List Node → Stand → List Lexeme → Run
run strict ns stand [] = last ns stand
run strict ns stand (t ∷ ts) = behind t (step strict ns stand t) (λ ms next. run strict ms next ts)
