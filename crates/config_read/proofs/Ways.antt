-- From each place the machine can come to an end.
use Rattle.std.proofs.Common.{◌≡◌, ◌≢◌, ◌≤◌, ◌<◌, ◌+◌, ◌-◌, ◌++◌, ℕ, suc, List, [], ◌∷◌, length, get_or, Ok, Err, Bool, true, false, refl, sym, ap, ◌∙◌, arith}
use Rattle.std.specs.Prelude.{if◌then◌else◌, not, ◌&&◌, ◌||◌, ◌==◌, codes}
use Rattle.std.specs.List.{AllByRecursion, list_all}
use Rattle.std.specs.Str.{bytes_eq}
use Rattle.std.proofs.Math.Seq.{get_or-append_seam, take-append_seam}
use Rattle.std.proofs.lemmas.List.{append_assoc, length-append}
use Rattle.std.proofs.lemmas.Bool.{le-leb, lt-leb, and_from, or_from, and_parts, false_from_ne_true, eqb-true, eq-eqb}
use Rattle.std.proofs.lemmas.Slice.Eq.{bytes_eq-Decides}
use Rattle.ds_value.specs.Names.{is_name_byte}
use Rattle.ds_lex.specs.declared.token.Sort.TheVariants as sort
use Rattle.ds_lex.specs.Lexemes.{Lexeme}
use Rattle.ds_lex.specs.Pieces.{begins_with, opens_quoted}
use Rattle.config_read.specs.declared.fault.ConfigWhy.TheVariants as why
use Rattle.config_read.specs.declared.config.Node.{Node}
use Rattle.config_read.specs.Spelled.{content, is_quoted, has_node}
use Rattle.config_read.specs.Reading.{is_name, with_scratch}
use Rattle.config_read.proofs.Machine.{Stand, new_node, to, behind, run}
use Rattle.config_read.proofs.Machine.Stand.{Begin, FirstNode, NextNode, NodeName, Open, Inside, Fast, FirstPool, MorePools, Kind, Path, Braces, BraceWord, BraceFirst, BraceMore, End}
use Rattle.config_read.proofs.Giving.{IsToken}
use Rattle.config_read.proofs.Causes.{Valid}

-- a letter other than this
abbrev other : ℕ → ℕ
other c = if c == 97 then 98 else 97

other_by : (b : Bool) (c : ℕ) → (b ≡ true → c ≡ 97) → (c ≡ 97 → b ≡ true) → c ≢ (if b then 98 else 97)
other_by true c f g h = let a = f refl in omega arith
other_by false c f g h = let a = g h in cc

differs : (c : ℕ) → c ≢ other c
differs c = other_by (c == 97) c (λ e. eqb-true c 97 e) (λ e. eq-eqb c 97 e)

-- a name that differs in its i-th letter from the i-th of these, counted from i
abbrev fresh : ℕ → List Node → List ℕ
fresh i [] = 97 ∷ []
fresh i (n ∷ ns) = other (get_or n.name i 0) ∷ fresh (i + 1) ns

moved : (front : List ℕ) (c : ℕ) (rest : List ℕ) → front ++ c ∷ rest ≡ (front ++ c ∷ []) ++ rest
moved front c rest = sym (append_assoc front (c ∷ []) rest)

fresh_behind : (front : List ℕ) (ns : List Node) → has_node ns (front ++ fresh (length front) ns) ≡ false
fresh_behind front [] = refl
fresh_behind front (n ∷ ns) =
    let c = other (get_or n.name (length front) 0) in
    or_from _ _
    (false_from_ne_true _ (λ e.
    let same = (bytes_eq-Decides n.name (front ++ c ∷ fresh (length front + 1) ns)).0 e in
    differs (get_or n.name (length front) 0) (ap (λ xs. get_or xs (length front) 0) same ∙ get_or-append_seam front c (fresh (length front + 1) ns) 0)))
    (ap (λ xs. has_node ns xs) (moved front c (fresh (length front + 1) ns) ∙ ap (λ k. (front ++ c ∷ []) ++ fresh k ns) (sym (length-append front (c ∷ [])))) ∙ fresh_behind (front ++ c ∷ []) ns)

new_name : (ns : List Node) → has_node ns (fresh 0 ns) ≡ false
new_name ns = fresh_behind [] ns

fresh_length : (i : ℕ) (ns : List Node) → length (fresh i ns) ≡ length ns + 1
fresh_length i [] = refl
fresh_length i (n ∷ ns) = omega (arith, fresh_length (i + 1) ns)

letter : (b : Bool) → is_name_byte (if b then 98 else 97) ≡ true
letter true = refl
letter false = refl

fresh_letters : (i : ℕ) (ns : List Node) → list_all is_name_byte (fresh i ns) ≡ true
fresh_letters i [] = refl
fresh_letters i (n ∷ ns) = and_from _ _ (letter (get_or n.name i 0 == 97)) (fresh_letters (i + 1) ns)

fresh_name : (ns : List Node) → length ns < 64 → is_name (fresh 0 ns) ≡ true
fresh_name ns h =
    let k = fresh_length 0 ns in
    let some : 1 ≤ length (fresh 0 ns) = omega (arith, k) in
    let short : length (fresh 0 ns) ≤ 255 = omega (arith, k) in
    and_from _ _ (le-leb _ _ some) (and_from _ _ (le-leb _ _ short) (fresh_letters 0 ns))

-- tokens
abbrev sign : List ℕ → Lexeme
sign bytes = record { at = 0; sort = sort.Sign; bytes = bytes }

abbrev word : List ℕ → Lexeme
word bytes = record { at = 0; sort = sort.Word; bytes = bytes }

abbrev quote : List ℕ → Lexeme
quote bytes = record { at = 0; sort = sort.Quoted; bytes = 34 ∷ (bytes ++ 34 ∷ []) }

inside_quotes : (bytes : List ℕ) → content (quote bytes) ≡ bytes
inside_quotes bytes =
    let k : length (34 ∷ (bytes ++ 34 ∷ [])) - 1 ≡ suc (length bytes) = omega (arith, length-append bytes (34 ∷ [])) in
    rw k (take-append_seam bytes (34 ∷ []))

abbrev is_token : Lexeme → Bool
is_token t = not (is_quoted t) || begins_with opens_quoted t.bytes

token_by : (q b : Bool) → (not q || b) ≡ true → q ≡ true → b ≡ true
token_by true b h e = h
token_by false b h e = cc

are_tokens : (ts : List Lexeme) → list_all is_token ts ≡ true → AllByRecursion IsToken ts
are_tokens [] h = tt
are_tokens (t ∷ ts) h =
    let p = and_parts _ _ h in
    (token_by (is_quoted t) (begins_with opens_quoted t.bytes) p.0, are_tokens ts p.1)

pub record Way (b : Bool) (ns : List Node) (s : Stand) : Type 0 where
  pub more : List Lexeme
  pub proper : AllByRecursion IsToken more
  pub nodes : List Node
  pub taken : run b ns s more ≡ Ok nodes

by : (b : Bool) (ns : List Node) (s : Stand) (more : List Lexeme) (nodes : List Node) → list_all is_token more ≡ true → run b ns s more ≡ Ok nodes → Way b ns s
by b ns s more nodes p t = record { more = more; proper = are_tokens more p; nodes = nodes; taken = t }

abbrev begin : Lexeme
begin = sign (codes "{")

abbrev end : Lexeme
end = sign (codes "}")

abbrev empty : Lexeme
empty = quote []

abbrev node_word : Lexeme
node_word = word (codes "node")

-- the node with an empty scratch path, where it is one
abbrev with_empty : Bool → Node → Node
with_empty true node = with_scratch node []
with_empty false node = node

path_taken : (c b : Bool) (ns : List Node) (node : Node) → behind empty (if c then (if b && false then Err why.Name else to ns (Braces (with_scratch node []))) else to ns (Braces node)) (λ ms next. run b ms next (end ∷ end ∷ [])) ≡ Ok (ns ++ with_empty c node ∷ [])
path_taken true true ns node = refl
path_taken true false ns node = refl
path_taken false b ns node = refl

name_taken : (ns : List Node) → length ns < 64 → run true ns NodeName (quote (fresh 0 ns) ∷ begin ∷ end ∷ end ∷ []) ≡ Ok (ns ++ new_node (fresh 0 ns) ∷ [])
name_taken ns h = rw (inside_quotes (fresh 0 ns), fresh_name ns h, new_name ns) refl

node_taken : (ns : List Node) → length ns < 64 → run true ns FirstNode (node_word ∷ quote (fresh 0 ns) ∷ begin ∷ end ∷ end ∷ []) ≡ Ok (ns ++ new_node (fresh 0 ns) ∷ [])
node_taken ns h = rw (lt-leb 64 (length ns) h) (name_taken ns h)

-- by the grammar alone
pub way : (ns : List Node) (s : Stand) → Way false ns s
way ns Begin = by false ns Begin (begin ∷ node_word ∷ empty ∷ begin ∷ end ∷ end ∷ []) _ refl refl
way ns FirstNode = by false ns FirstNode (node_word ∷ empty ∷ begin ∷ end ∷ end ∷ []) _ refl refl
way ns NextNode = by false ns NextNode (end ∷ []) _ refl refl
way ns NodeName = by false ns NodeName (empty ∷ begin ∷ end ∷ end ∷ []) _ refl refl
way ns (Open name) = by false ns (Open name) (begin ∷ end ∷ end ∷ []) _ refl refl
way ns (Inside node) = by false ns (Inside node) (end ∷ end ∷ []) _ refl refl
way ns (Fast node) = by false ns (Fast node) (empty ∷ end ∷ end ∷ []) _ refl refl
way ns (FirstPool node) = by false ns (FirstPool node) (empty ∷ end ∷ end ∷ []) _ refl refl
way ns (MorePools node) = by false ns (MorePools node) (end ∷ end ∷ []) _ refl refl
way ns (Kind node) = by false ns (Kind node) (word (codes "disk") ∷ empty ∷ end ∷ end ∷ []) _ refl refl
way ns (Path kind node) = by false ns (Path kind node) (empty ∷ end ∷ end ∷ []) _ refl (path_taken (bytes_eq kind.bytes (codes "scratchdisk")) false ns node)
way ns (Braces node) = by false ns (Braces node) (end ∷ end ∷ []) _ refl refl
way ns (BraceWord node) = by false ns (BraceWord node) (word (codes "pools") ∷ empty ∷ end ∷ end ∷ end ∷ []) _ refl refl
way ns (BraceFirst node) = by false ns (BraceFirst node) (empty ∷ end ∷ end ∷ end ∷ []) _ refl refl
way ns (BraceMore node) = by false ns (BraceMore node) (end ∷ end ∷ end ∷ []) _ refl refl
way ns End = by false ns End [] ns refl refl

-- with names
pub good_way : (ns : List Node) (s : Stand) → Valid ns s → Way true ns s
good_way ns Begin v = by true ns Begin (begin ∷ node_word ∷ quote (fresh 0 ns) ∷ begin ∷ end ∷ end ∷ []) _ refl (node_taken ns v)
good_way ns FirstNode v = by true ns FirstNode (node_word ∷ quote (fresh 0 ns) ∷ begin ∷ end ∷ end ∷ []) _ refl (node_taken ns v)
good_way ns NextNode v = by true ns NextNode (end ∷ []) _ refl refl
good_way ns NodeName v = by true ns NodeName (quote (fresh 0 ns) ∷ begin ∷ end ∷ end ∷ []) _ refl (name_taken ns v)
good_way ns (Open name) v = by true ns (Open name) (begin ∷ end ∷ end ∷ []) _ refl refl
good_way ns (Inside node) v = by true ns (Inside node) (end ∷ end ∷ []) _ refl refl
good_way ns (Fast node) v = by true ns (Fast node) (empty ∷ end ∷ end ∷ []) _ refl refl
good_way ns (FirstPool node) v = by true ns (FirstPool node) (empty ∷ end ∷ end ∷ []) _ refl refl
good_way ns (MorePools node) v = by true ns (MorePools node) (end ∷ end ∷ []) _ refl refl
good_way ns (Kind node) v = by true ns (Kind node) (word (codes "disk") ∷ empty ∷ end ∷ end ∷ []) _ refl refl
good_way ns (Path kind node) v = by true ns (Path kind node) (empty ∷ end ∷ end ∷ []) _ refl (path_taken (bytes_eq kind.bytes (codes "scratchdisk")) true ns node)
good_way ns (Braces node) v = by true ns (Braces node) (end ∷ end ∷ []) _ refl refl
good_way ns (BraceWord node) v = by true ns (BraceWord node) (word (codes "pools") ∷ empty ∷ end ∷ end ∷ end ∷ []) _ refl refl
good_way ns (BraceFirst node) v = by true ns (BraceFirst node) (empty ∷ end ∷ end ∷ end ∷ []) _ refl refl
good_way ns (BraceMore node) v = by true ns (BraceMore node) (end ∷ end ∷ end ∷ []) _ refl refl
good_way ns End v = by true ns End [] ns refl refl
