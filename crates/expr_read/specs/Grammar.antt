-- Expressions, and which tokens spell them:
--   or    = and { "||" and }          and  = cmp { "&&" cmp }
--   cmp   = sum [ ("=="|"!="|"<"|"<="|">"|">=") sum ]
--   sum   = prod { ("+"|"-") prod }   prod = unary { ("*"|"/"|"%") unary }
--   unary = ("-"|"!") unary | atom
--   atom  = NUMBER | QUOTED | WORD | WORD "(" [ or { "," or } ] ")" | "(" or ")"
-- The depth of an atom is the number of brackets open at it and of signs whose operand holds it; it is at most 64.
use Rattle.std.specs.Prelude.{◌≡◌, ◌≤◌, ℕ, zero, suc, List, [], ◌∷◌, length, Some, None}
use Rattle.ds_lex.specs.declared.token.Mode.TheVariants.{Inner}
use Rattle.ds_lex.specs.Lexemes.{lexed_text}
use Rattle.ds_lex.specs.Phrases.{Phrase, nothing, ◌~◌, ◌<|>◌}
use Rattle.expr_read.specs.declared.fault.ExprFault.{ExprFault}
use Rattle.expr_read.specs.declared.fault.ExprFault.TheVariants as fault
use Rattle.expr_read.specs.declared.tree.Prefix.{Prefix}
use Rattle.expr_read.specs.declared.tree.Link.{Link}
use Rattle.expr_read.specs.declared.tree.Expr.{Expr}
use Rattle.expr_read.specs.declared.tree.Expr.TheVariants as made
use Rattle.expr_read.specs.declared.what.What.{What}
use Rattle.expr_read.specs.declared.what.What.TheVariants as what
use Rattle.expr_read.specs.declared.what.Level.{Level}
use Rattle.expr_read.specs.declared.what.Level.TheVariants as level
use Rattle.expr_read.specs.Marks.{what_of, prefix_of}
use Rattle.expr_read.specs.Reading.{link_by, chained, content}

abbrev pub Form : Type 1
Form = Expr → Phrase

-- this bracket or comma
abbrev pub mark : What → Phrase
mark w [] rest = ⊥
mark w (t ∷ ts) rest = (what_of t ≡ w) × (ts ≡ rest)

-- ---- signs between operands

-- a sign of the level
abbrev pub link_phrase : Level → Link → Phrase
link_phrase l link [] rest = ⊥
link_phrase l link (t ∷ ts) rest = (link_by l t.at (what_of t) ≡ Some link) × (ts ≡ rest)

abbrev pub links_phrase : Level → Form → List (Link × Expr) → Phrase
links_phrase l operand [] = nothing
links_phrase l operand (x ∷ xs) = link_phrase l x.0 ~ operand x.1 ~ links_phrase l operand xs

-- a comparison has one sign at most
abbrev pub MayStand : Level → List (Link × Expr) → Type 0
MayStand level.Compare links = length links ≤ 1
MayStand l links = Unit {0}

-- an operand, or several with signs of the level between them
abbrev pub chain_form : Level → Form → Form
chain_form l operand e ts rest = (first : Expr) × (links : List (Link × Expr)) × (e ≡ chained first links) × MayStand l links × (operand first ~ links_phrase l operand links) ts rest

abbrev pub product_form : Form → Form
product_form unary = chain_form level.Product unary

abbrev pub sum_form : Form → Form
sum_form unary = chain_form level.Sum (product_form unary)

abbrev pub comparison_form : Form → Form
comparison_form unary = chain_form level.Compare (sum_form unary)

abbrev pub and_form : Form → Form
and_form unary = chain_form level.And (comparison_form unary)

abbrev pub or_form : Form → Form
or_form unary = chain_form level.Or (and_form unary)

-- ---- operands

abbrev pub number_form : Form
number_form e [] rest = ⊥
number_form e (t ∷ ts) rest = (what_of t ≡ what.Number) × (e ≡ made.Number t.at t.bytes) × (ts ≡ rest)

abbrev pub quoted_form : Form
quoted_form e [] rest = ⊥
quoted_form e (t ∷ ts) rest = (what_of t ≡ what.Quoted) × (e ≡ made.Quoted t.at (content t.bytes)) × (ts ≡ rest)

abbrev pub column_form : Form
column_form e [] rest = ⊥
column_form e (t ∷ ts) rest = (what_of t ≡ what.Word) × (e ≡ made.Column t.at t.bytes) × (ts ≡ rest)

abbrev pub further_args : Form → List Expr → Phrase
further_args inner [] = nothing
further_args inner (e ∷ es) = mark what.Comma ~ inner e ~ further_args inner es

-- none, or some with commas between them
abbrev pub args_phrase : Form → List Expr → Phrase
args_phrase inner [] = nothing
args_phrase inner (e ∷ es) = inner e ~ further_args inner es

abbrev pub call_form : Form → Form
call_form inner e [] rest = ⊥
call_form inner e (t ∷ ts) rest = (what_of t ≡ what.Word) × (args : List Expr) × (e ≡ made.Call t.at t.bytes args) × (mark what.Open ~ args_phrase inner args ~ mark what.Close) ts rest

abbrev pub bracket_form : Form → Form
bracket_form inner e = mark what.Open ~ inner e ~ mark what.Close

abbrev pub signed_form : Form → Form
signed_form operand e [] rest = ⊥
signed_form operand e (t ∷ ts) rest = (sign : Prefix) × (of : Expr) × (prefix_of (what_of t) ≡ Some sign) × (e ≡ made.Signed t.at sign of) × operand of ts rest

abbrev pub no_form : Form
no_form e ts rest = ⊥

abbrev pub unary_by : Form → Form → Form
unary_by operand inner e = signed_form operand e <|> (bracket_form inner e <|> (call_form inner e <|> (number_form e <|> (quoted_form e <|> column_form e))))

-- inside it at most n brackets and signs are open at an atom
unfoldable pub unary_form : ℕ → Form
unary_form zero = unary_by no_form no_form
unary_form (suc n) = unary_by (unary_form n) (or_form (unary_form n))

-- all of the bytes are tokens, and these spell the expression
pub record IsSpelled (bytes : List ℕ) (e : Expr) : Type 0 where
  pub whole : (lexed_text Inner bytes).bad ≡ None
  pub tokens : or_form (unary_form 64) e (lexed_text Inner bytes).lexemes []

-- what is refused spells none
abbrev pub SpellsNone : ExprFault → List ℕ → Type 0
SpellsNone (fault.Syntax at) bytes = (e : Expr) → IsSpelled bytes e → ⊥
SpellsNone fault.Memory bytes = Unit {0}
