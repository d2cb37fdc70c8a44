-- A configuration read from left to right: each line of a reader is one cause, in the order of the text.
use Rattle.std.specs.Prelude.{◌≡◌, ℕ, zero, suc, List, [], ◌∷◌, ◌++◌, length, Bool, ◌&&◌, nat_le, if◌then◌else◌, Option, Some, None, Result, Ok, Err, codes}
use Rattle.std.specs.List.{list_all, list_any}
use Rattle.std.specs.Str.{bytes_eq}
use Rattle.ds_value.specs.Names.{is_name_byte}
use Rattle.ds_lex.specs.declared.token.Mode.TheVariants.{Inner}
use Rattle.ds_lex.specs.declared.token.Sort.TheVariants as sort
use Rattle.ds_lex.specs.declared.lexeme.End.{End}
use Rattle.ds_lex.specs.declared.lexeme.End.TheVariants as end
use Rattle.ds_lex.specs.declared.refusal.Stop.{Stop}
use Rattle.ds_lex.specs.declared.refusal.Refusal.{Refusal}
use Rattle.ds_lex.specs.declared.refusal.Refusal.TheVariants as refusal
use Rattle.ds_lex.specs.Lexemes.{Lexeme, place_of, limited_text}
use Rattle.ds_lex.specs.Reading.{◌>>=◌, refuse, token_at, expect_at, sort_at, accept_at, finish_at, Fails}
use Rattle.config_read.specs.declared.fault.ConfigWhy.{ConfigWhy}
use Rattle.config_read.specs.declared.fault.ConfigWhy.TheVariants as why
use Rattle.config_read.specs.declared.fault.ConfigFault.{ConfigFault}
use Rattle.config_read.specs.declared.fault.ConfigFault.TheVariants as fault
use Rattle.config_read.specs.declared.config.Node.{Node}
use Rattle.config_read.specs.declared.config.Config.{Config}
use Rattle.config_read.specs.Pools.{is_default}
use Rattle.config_read.specs.Spelled.{content, is_quoted, has_node}

-- a reader's answer: a value and the tokens behind it
abbrev pub Read : Type 0 → Type 0
Read A = Result (A × List Lexeme) (Refusal ConfigWhy)

abbrev pub is_name0 : List ℕ → Bool
is_name0 bytes = nat_le (length bytes) 255 && list_all is_name_byte bytes

abbrev pub is_name : List ℕ → Bool
is_name bytes = nat_le 1 (length bytes) && is_name0 bytes

abbrev pub quoted_at : List Lexeme → Read Lexeme
quoted_at ts = sort_at sort.Quoted why.Syntax ts

-- a QUOTED, where one comes
abbrev pub maybe_quoted : List Lexeme → Option Lexeme × List Lexeme
maybe_quoted [] = (None, [])
maybe_quoted (t ∷ ts) = if is_quoted t then (Some t, ts) else (None, t ∷ ts)

-- what may be empty and is a name
abbrev pub named0 : Lexeme → Result (List ℕ) (Refusal ConfigWhy)
named0 t = if is_name0 (content t) then Ok (content t) else refuse t why.Name

-- the name of a further node
unfoldable pub named : List Node → Lexeme → Result (List ℕ) (Refusal ConfigWhy)
named nodes t = do
  good ← if is_name (content t) then Ok t else refuse t why.Name
  if has_node nodes (content t) then refuse t why.DoubleNode else Ok (content t)

abbrev pub with_pool : Node → List ℕ → Node
with_pool node pool = record node { pools = node.pools ++ pool ∷ [] }

abbrev pub with_scratch : Node → List ℕ → Node
with_scratch node path = record node { scratch = node.scratch ++ path ∷ [] }

abbrev pub pool_named : Node → Lexeme → Result Node (Refusal ConfigWhy)
pool_named node t = named0 t >>= λ pool. Ok (with_pool node pool)

-- the further pools of the node
abbrev pub more_pools_at : Node → List Lexeme → Read Node
more_pools_at node [] = Ok (node, [])
more_pools_at node (t ∷ ts) = if is_quoted t then (pool_named node t >>= λ more. more_pools_at more ts) else Ok (node, t ∷ ts)

unfoldable pub pools_at : Node → List Lexeme → Read Node
pools_at node ts = do
  first ← quoted_at ts
  more ← pool_named node first.0
  more_pools_at more first.1

-- what stands behind the QUOTED at the front
abbrev pub behind_quoted : List Lexeme → List Lexeme
behind_quoted [] = []
behind_quoted (t ∷ ts) = if is_quoted t then behind_quoted ts else t ∷ ts

-- the pools of a resource, which aren't used, behind their bracket
unfoldable pub unused_at : List Lexeme → Read (Unit {0})
unused_at ts = do
  word ← expect_at (codes "pools") why.Syntax ts
  first ← quoted_at word.1
  end ← expect_at (codes "}") why.Syntax (behind_quoted first.1)
  Ok (tt, end.1)

-- a resource's path
abbrev pub with_path : Node → Lexeme → Lexeme → Result Node (Refusal ConfigWhy)
with_path node kind path = if bytes_eq kind.bytes (codes "scratchdisk") then (named0 path >>= λ name. Ok (with_scratch node name)) else Ok node

-- the pools of a resource, where they come
unfoldable pub braces_at : Node → List Lexeme → Read Node
braces_at node ts =
    if (accept_at (codes "{") ts).0 then (unused_at (accept_at (codes "{") ts).1 >>= λ x. Ok (node, x.1)) else Ok (node, (accept_at (codes "{") ts).1)

unfoldable pub resource_at : Node → List Lexeme → Read Node
resource_at node ts = do
  kind ← sort_at sort.Word why.Syntax ts
  path ← quoted_at kind.1
  more ← with_path node kind.0 path.0
  braces_at more path.1

unfoldable pub fastname_at : Node → List Lexeme → Read Node
fastname_at node ts = do
  q ← quoted_at ts
  Ok (node, q.1)

-- an entry of a node, which adds to it
unfoldable pub entry_at : Node → List Lexeme → Read Node
entry_at node ts = do
  word ← token_at ConfigWhy ts
  if bytes_eq word.0.bytes (codes "fastname") then fastname_at node word.1 else if bytes_eq word.0.bytes (codes "pools") then pools_at node word.1 else if bytes_eq word.0.bytes (codes "resource") then resource_at node word.1 else refuse word.0 why.Syntax

-- what `one` reads, as often as it comes before the end; n is at least the number of tokens
unfoldable pub until_closed : {A : Type 0} → (A → List Lexeme → Read A) → ℕ → A → List Lexeme → Read A
until_closed one zero x ts = Err refusal.AtEnd
until_closed one (suc n) x ts =
    if (accept_at (codes "}") ts).0 then Ok (x, (accept_at (codes "}") ts).1) else (one x ts >>= λ y. until_closed one n y.0 y.1)

-- the entries of a node up to its end
abbrev pub entries_at : Node → List Lexeme → Read Node
entries_at node ts = until_closed entry_at (length ts) node ts

-- a node behind these nodes
unfoldable pub node_at : List Node → List Lexeme → Read Node
node_at nodes ts = do
  word ← expect_at (codes "node") why.Syntax ts
  room ← if nat_le 64 (length nodes) then refuse word.0 why.TooMany else Ok word
  name ← quoted_at word.1
  new ← named nodes name.0
  begin ← expect_at (codes "{") why.Syntax name.1
  entries_at (record { name = new; pools = []; scratch = [] }) begin.1

unfoldable pub further_node_at : List Node → List Lexeme → Read (List Node)
further_node_at nodes ts = do
  x ← node_at nodes ts
  Ok (nodes ++ x.0 ∷ [], x.1)

-- further nodes up to the end of the configuration
abbrev pub nodes_at : List Node → List Lexeme → Read (List Node)
nodes_at nodes ts = until_closed further_node_at (length ts) nodes ts

-- all the tokens of a text
unfoldable pub text_at : List Lexeme → Result (List Node) (Refusal ConfigWhy)
text_at ts = do
  begin ← expect_at (codes "{") why.Syntax ts
  first ← further_node_at [] begin.1
  nodes ← nodes_at first.0 first.1
  finished ← finish_at why.Syntax nodes.1
  Ok nodes.0

-- a cause with its place
pub record Fault : Type 0 where
  pub at : ℕ
  pub why : ConfigWhy

-- the cause behind the last token
abbrev pub end_why : End → ConfigWhy
end_why (end.Text at) = why.Syntax
end_why (end.NoToken at) = why.Token
end_why (end.Limit at) = why.TooLong

abbrev pub fault_of : End → Refusal ConfigWhy → Fault
fault_of end refusal.AtEnd = record { at = place_of end; why = end_why end }
fault_of end (refusal.At at why) = record { at = at; why = why }

-- nodes that were read, where the text ends behind them
abbrev pub ended : List Node → End → Result Config Fault
ended nodes (end.Text at) = if list_any is_default nodes then Ok (record { nodes = nodes }) else Err (record { at = at; why = why.NoDefault })
ended nodes (end.NoToken at) = Err (record { at = at; why = why.Token })
ended nodes (end.Limit at) = Err (record { at = at; why = why.TooLong })

abbrev pub settled : Result (List Node) (Refusal ConfigWhy) → End → Result Config Fault
settled (Ok nodes) end = ended nodes end
settled (Err r) end = Err (fault_of end r)

unfoldable pub config_of : List ℕ → Result Config Fault
config_of bytes = settled (text_at (limited_text Inner bytes).lexemes) (limited_text Inner bytes).end

-- what was answered is what is read, unless memory ran out
abbrev pub Answers : Result Config ConfigFault → Result Config Fault → Type 0
Answers (Ok config) read = read ≡ Ok config
Answers (Err (fault.Bad at why)) read = read ≡ Err (record { at = at; why = why })
Answers (Err fault.Memory) read = Unit {0}

-- what a call answered that leaves this behind, and the tokens on which it stands
abbrev pub Adds : {A : Type 0} → Result (Unit {0}) (Stop ConfigWhy) → A → List Lexeme → Read A → Type 0
Adds (Ok u) more left read = read ≡ Ok (more, left)
Adds (Err e) more left read = Fails e read

-- the same of a call that reads no token
abbrev pub Makes : {A : Type 0} → Result (Unit {0}) (Stop ConfigWhy) → A → Result A (Refusal ConfigWhy) → Type 0
Makes (Ok u) more read = read ≡ Ok more
Makes (Err e) more read = Fails e read
