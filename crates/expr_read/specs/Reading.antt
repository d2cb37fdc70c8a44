-- An expression read from left to right. A reader gives an expression and the tokens behind it, or the tokens that are left
-- where no expression goes on.
use Rattle.std.specs.Prelude.{◌≡◌, ℕ, zero, suc, ◌-◌, List, [], ◌∷◌, ◌++◌, length, take, drop, Bool, true, false, if◌then◌else◌, Option, Some, None, Result, Ok, Err}
use Rattle.ds_lex.specs.declared.token.Mode.TheVariants.{Inner}
use Rattle.ds_lex.specs.Lexemes.{Lexeme, lexed_text}
use Rattle.ds_lex.specs.Reading.{◌>>=◌, next_place}
use Rattle.expr_read.specs.declared.fault.ExprFault.{ExprFault}
use Rattle.expr_read.specs.declared.fault.ExprFault.TheVariants as fault
use Rattle.expr_read.specs.declared.tree.Infix.{Infix}
use Rattle.expr_read.specs.declared.tree.Prefix.{Prefix}
use Rattle.expr_read.specs.declared.tree.Prefix.TheVariants as before
use Rattle.expr_read.specs.declared.tree.Link.{Link}
use Rattle.expr_read.specs.declared.tree.Expr.{Expr}
use Rattle.expr_read.specs.declared.tree.Expr.TheVariants as made
use Rattle.expr_read.specs.declared.tree.Infix.TheVariants as sign
use Rattle.expr_read.specs.declared.what.What.{What}
use Rattle.expr_read.specs.declared.what.What.TheVariants as what
use Rattle.expr_read.specs.declared.what.Level.{Level}
use Rattle.expr_read.specs.declared.what.Level.TheVariants as level
use Rattle.expr_read.specs.declared.halt.Halt.{Halt}
use Rattle.expr_read.specs.declared.halt.Halt.TheVariants as halt
use Rattle.expr_read.specs.Marks.{what_of, joins}

abbrev pub Read : Type 0 → Type 0
Read A = Result (A × List Lexeme) (List Lexeme)

abbrev pub Reader : Type 0
Reader = List Lexeme → Read Expr

-- A call did what the reader does, unless memory ran out: where nothing goes on it left the tokens from there.
abbrev pub Moves : {X : Type 0} → Result X Halt → List Lexeme → Read X → Type 0
Moves (Ok x) left read = read ≡ Ok (x, left)
Moves (Err halt.Stuck) left read = read ≡ Err left
Moves (Err halt.Memory) left read = Unit {0}

-- the tokens behind the first
abbrev pub behind : List Lexeme → List Lexeme
behind [] = []
behind (t ∷ ts) = ts

-- ---- signs between operands

abbrev pub link_if : Bool → ℕ → Infix → Option Link
link_if true at s = Some (record { at = at; sign = s })
link_if false at s = None

abbrev pub link_by : Level → ℕ → What → Option Link
link_by l at (what.Sign s) = link_if (joins l s) at s
link_by l at w = None

-- the sign of the level that comes, if one does
abbrev pub link_at : Level → List Lexeme → Option Link
link_at l [] = None
link_at l (t ∷ ts) = link_by l t.at (what_of t)

abbrev pub behind_link : {X : Type 0} → Option Link → X → (Link → X) → X
behind_link None last next = last
behind_link (Some link) last next = next link

-- further operands, at most so many, each behind a sign of the level
unfoldable pub links_at : ℕ → Level → Reader → List (Link × Expr) → List Lexeme → Read (List (Link × Expr))
links_at zero l operand found ts = Ok (found, ts)
links_at (suc k) l operand found ts =
    behind_link (link_at l ts) (Ok (found, ts)) (λ link. operand (behind ts) >>= λ x. links_at k l operand (found ++ (link, x.0) ∷ []) x.1)

-- a comparison has one sign at most
abbrev pub most_links : Level → ℕ → ℕ
most_links level.Compare n = 1
most_links l n = n

abbrev pub chained : Expr → List (Link × Expr) → Expr
chained first [] = first
chained first (link ∷ links) = made.Chain first (link ∷ links)

unfoldable pub chain_from : Level → Reader → Reader
chain_from l operand ts = do
  first ← operand ts
  links ← links_at (most_links l (length first.1)) l operand [] first.1
  Ok (chained first.0 links.0, links.1)

abbrev pub product_at : Reader → Reader
product_at unary = chain_from level.Product unary

abbrev pub sum_at : Reader → Reader
sum_at unary = chain_from level.Sum (product_at unary)

abbrev pub comparison_at : Reader → Reader
comparison_at unary = chain_from level.Compare (sum_at unary)

abbrev pub and_at : Reader → Reader
and_at unary = chain_from level.And (comparison_at unary)

abbrev pub or_at : Reader → Reader
or_at unary = chain_from level.Or (and_at unary)

-- ---- brackets

abbrev pub closes : What → Bool
closes what.Close = true
closes w = false

abbrev pub opens : What → Bool
opens what.Open = true
opens w = false

abbrev pub is_comma : What → Bool
is_comma what.Comma = true
is_comma w = false

-- what the next token is
abbrev pub next_what : List Lexeme → What
next_what [] = what.Other
next_what (t ∷ ts) = what_of t

-- a closing bracket
abbrev pub close_at : List Lexeme → Read (Unit {0})
close_at ts = if closes (next_what ts) then Ok (tt, behind ts) else Err ts

-- what stands before a closing bracket
abbrev pub closed : {X : Type 0} → X × List Lexeme → Read X
closed x = close_at x.1 >>= λ y. Ok (x.0, y.1)

-- whether a comma comes, which is passed over then
abbrev pub comma_at : List Lexeme → Bool × List Lexeme
comma_at ts = if is_comma (next_what ts) then (true, behind ts) else (false, ts)

-- behind an argument: further ones behind a comma, or the closing bracket
abbrev pub after_arg : List Expr → Bool × List Lexeme → (List Lexeme → Read (List Expr)) → Read (List Expr)
after_arg found (true, ts) more = more ts
after_arg found (false, ts) more = closed (found, ts)

-- arguments up to the closing bracket; n is at least the number of tokens
unfoldable pub args_at : ℕ → Reader → List Expr → List Lexeme → Read (List Expr)
args_at zero inner found ts = Err ts
args_at (suc n) inner found ts =
    inner ts >>= λ x. after_arg (found ++ x.0 ∷ []) (comma_at x.1) (λ us. args_at n inner (found ++ x.0 ∷ []) us)

unfoldable pub call_from : Reader → List Lexeme → Read (List Expr)
call_from inner ts = if closes (next_what ts) then Ok ([], behind ts) else args_at (length ts) inner [] ts

-- a column, or a call where a bracket follows
unfoldable pub named_from : Reader → Lexeme → List Lexeme → Read Expr
named_from inner t ts =
    if opens (next_what ts) then (call_from inner (behind ts) >>= λ x. Ok (made.Call t.at t.bytes x.0, x.1)) else Ok (made.Column t.at t.bytes, ts)

-- ---- operands

-- what stands between the quotes
abbrev pub content : List ℕ → List ℕ
content bytes = drop 1 (take (length bytes - 1) bytes)

-- no bracket or sign may be opened
abbrev pub nothing_at : Reader
nothing_at ts = Err ts

-- a sign, which comes, and its operand
abbrev pub signed_by : Reader → Prefix → ℕ → Reader
signed_by operand s at ts = operand (behind ts) >>= λ x. Ok (made.Signed at s x.0, x.1)

-- brackets, of which the first comes
abbrev pub bracket_by : Reader → Reader
bracket_by inner ts = inner (behind ts) >>= closed

-- what begins with the token t
abbrev pub begun : (Prefix → ℕ → Reader) → Reader → Reader → What → Lexeme → List Lexeme → Read Expr
begun signed bracket inner what.Number t ts = Ok (made.Number t.at t.bytes, ts)
begun signed bracket inner what.Quoted t ts = Ok (made.Quoted t.at (content t.bytes), ts)
begun signed bracket inner what.Word t ts = named_from inner t ts
begun signed bracket inner what.Open t ts = bracket (t ∷ ts)
begun signed bracket inner what.Not t ts = signed before.Not t.at (t ∷ ts)
begun signed bracket inner (what.Sign sign.Minus) t ts = signed before.Minus t.at (t ∷ ts)
begun signed bracket inner w t ts = Err (t ∷ ts)

abbrev pub unary_from : (Prefix → ℕ → Reader) → Reader → Reader → Reader
unary_from signed bracket inner [] = Err []
unary_from signed bracket inner (t ∷ ts) = begun signed bracket inner (what_of t) t ts

-- a unary expression inside which at most n brackets and signs are open at an atom
unfoldable pub unary_at : ℕ → Reader
unary_at zero = unary_from (λ s at. nothing_at) nothing_at nothing_at
unary_at (suc n) = unary_from (signed_by (unary_at n)) (bracket_by (or_at (unary_at n))) (or_at (unary_at n))

-- the same by what it begins with
unfoldable pub signed_at : ℕ → Prefix → ℕ → Reader
signed_at zero s at = nothing_at
signed_at (suc n) s at = signed_by (unary_at n) s at

unfoldable pub bracket_at : ℕ → Reader
bracket_at zero = nothing_at
bracket_at (suc n) = bracket_by (or_at (unary_at n))

unfoldable pub inner_at : ℕ → Reader
inner_at zero = nothing_at
inner_at (suc n) = or_at (unary_at n)

-- the operands of a level, and what they make
abbrev pub part_at : ℕ → Level → Reader
part_at n level.Or = and_at (unary_at n)
part_at n level.And = comparison_at (unary_at n)
part_at n level.Compare = sum_at (unary_at n)
part_at n level.Sum = product_at (unary_at n)
part_at n level.Product = unary_at n

abbrev pub chain_at : ℕ → Level → Reader
chain_at n l = chain_from l (part_at n l)

-- all the tokens
abbrev pub nothing_left : Expr → List Lexeme → Result Expr (List Lexeme)
nothing_left e [] = Ok e
nothing_left e (t ∷ ts) = Err (t ∷ ts)

unfoldable pub whole_at : ℕ → List Lexeme → Result Expr (List Lexeme)
whole_at n ts = chain_at n level.Or ts >>= λ x. nothing_left x.0 x.1

-- where the tokens end: at a place where none begins, or else at the end of the text
abbrev pub end_place : Option ℕ → ℕ → ℕ
end_place None len = len
end_place (Some at) len = at

-- what is read of a text with these tokens
abbrev pub settled : Option ℕ → ℕ → Result Expr (List Lexeme) → Result Expr ℕ
settled bad len (Err left) = Err (next_place (end_place bad len) left)
settled None len (Ok e) = Ok e
settled (Some at) len (Ok e) = Err at

-- how many brackets and signs may be open at an atom
abbrev pub most_open : ℕ
most_open = 64

unfoldable pub expr_of : List ℕ → Result Expr ℕ
expr_of text = settled (lexed_text Inner text).bad (length text) (whole_at most_open (lexed_text Inner text).lexemes)

-- What was answered is what is read, unless memory ran out.
abbrev pub Answers : Result Expr ExprFault → Result Expr ℕ → Type 0
Answers (Ok e) read = read ≡ Ok e
Answers (Err (fault.Syntax at)) read = read ≡ Err at
Answers (Err fault.Memory) read = Unit {0}

-- what a call answered that left these tokens
abbrev pub Ends : Result Expr Halt → List Lexeme → Result Expr (List Lexeme) → Type 0
Ends (Ok e) left read = read ≡ Ok e
Ends (Err halt.Stuck) left read = read ≡ Err left
Ends (Err halt.Memory) left read = Unit {0}
