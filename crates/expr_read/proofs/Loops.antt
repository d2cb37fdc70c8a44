-- Steps of the loops that read signs with operands, and arguments.
use Rattle.std.proofs.Common.{◌≡◌, ◌≢◌, ℕ, zero, suc, ◌-◌, List, [], ◌∷◌, ◌++◌, Bool, true, false, Some, None, Ok, Err, refl, ◌∙◌, arith}
use Rattle.ds_lex.specs.Lexemes.{Lexeme}
use Rattle.ds_lex.specs.Reading.{◌>>=◌}
use Rattle.expr_read.specs.declared.halt.Halt.{Halt}
use Rattle.expr_read.specs.declared.halt.Halt.TheVariants as halt
use Rattle.expr_read.specs.declared.tree.Link.{Link}
use Rattle.expr_read.specs.declared.tree.Expr.{Expr}
use Rattle.expr_read.specs.declared.what.Level.{Level}
use Rattle.expr_read.specs.Reading.{Read, Reader, Moves, behind, link_at, behind_link, links_at, comma_at, after_arg, closed, args_at}

pub halts_bind : {X Y : Type 0} (e : Halt) (left : List Lexeme) (read : Read X) (f : X × List Lexeme → Read Y) → Moves {X = X} (Err e) left read → Moves {X = Y} (Err e) left (read >>= f)
halts_bind halt.Stuck left read f h = rw h refl
halts_bind halt.Memory left read f h = tt

pub links_none : (k : ℕ) (l : Level) (op : Reader) (found : List (Link × Expr)) (ts : List Lexeme) → k ≡ 0 → links_at k l op found ts ≡ Ok (found, ts)
unfolding links_at
links_none zero l op found ts h = refl
links_none (suc k) l op found ts h = absurd (omega arith)

pub links_more : (k : ℕ) (l : Level) (op : Reader) (found : List (Link × Expr)) (ts : List Lexeme) → k ≢ 0
    → links_at k l op found ts ≡ behind_link (link_at l ts) (Ok (found, ts)) (λ link. op (behind ts) >>= λ x. links_at (k - 1) l op (found ++ (link, x.0) ∷ []) x.1)
unfolding links_at
links_more zero l op found ts h = absurd (h refl)
links_more (suc k) l op found ts h = let e : suc k - 1 ≡ k = omega arith in rw e refl

pub links_last : (k : ℕ) (l : Level) (op : Reader) (found : List (Link × Expr)) (ts : List Lexeme) → k ≢ 0 → link_at l ts ≡ None → links_at k l op found ts ≡ Ok (found, ts)
links_last k l op found ts h n = links_more k l op found ts h ∙ rw n refl

pub links_next : (k : ℕ) (l : Level) (op : Reader) (found : List (Link × Expr)) (ts us : List Lexeme) (link : Link) (e : Expr) → k ≢ 0 → link_at l ts ≡ Some link → op (behind ts) ≡ Ok (e, us)
    → links_at k l op found ts ≡ links_at (k - 1) l op (found ++ (link, e) ∷ []) us
links_next k l op found ts us link e h s o = links_more k l op found ts h ∙ rw (s, o) refl

pub links_halt : (k : ℕ) (l : Level) (op : Reader) (found : List (Link × Expr)) (ts us : List Lexeme) (link : Link) (e : Halt) → k ≢ 0 → link_at l ts ≡ Some link → Moves {X = Expr} (Err e) us (op (behind ts))
    → Moves {X = List (Link × Expr)} (Err e) us (links_at k l op found ts)
links_halt k l op found ts us link e h s m = rw (links_more k l op found ts h, s) (halts_bind e us (op (behind ts)) _ m)

pub args_none : (n : ℕ) (inner : Reader) (found : List Expr) (ts : List Lexeme) → n ≡ 0 → args_at n inner found ts ≡ Err ts
unfolding args_at
args_none zero inner found ts h = refl
args_none (suc n) inner found ts h = absurd (omega arith)

pub args_more : (n : ℕ) (inner : Reader) (found : List Expr) (ts : List Lexeme) → n ≢ 0
    → args_at n inner found ts ≡ (inner ts >>= λ x. after_arg (found ++ x.0 ∷ []) (comma_at x.1) (λ us. args_at (n - 1) inner (found ++ x.0 ∷ []) us))
unfolding args_at
args_more zero inner found ts h = absurd (h refl)
args_more (suc n) inner found ts h = let e : suc n - 1 ≡ n = omega arith in rw e refl

pub args_next : (n : ℕ) (inner : Reader) (found : List Expr) (ts us vs : List Lexeme) (e : Expr) → n ≢ 0 → inner ts ≡ Ok (e, us) → (let r : Bool × List Lexeme = (true, vs) in r) ≡ comma_at us
    → args_at n inner found ts ≡ args_at (n - 1) inner (found ++ e ∷ []) vs
args_next n inner found ts us vs e h o s = args_more n inner found ts h ∙ rw (o, ← s) refl

pub args_last : (n : ℕ) (inner : Reader) (found : List Expr) (ts us vs : List Lexeme) (e : Expr) → n ≢ 0 → inner ts ≡ Ok (e, us) → (let r : Bool × List Lexeme = (false, vs) in r) ≡ comma_at us
    → args_at n inner found ts ≡ closed (found ++ e ∷ [], vs)
args_last n inner found ts us vs e h o s = args_more n inner found ts h ∙ rw (o, ← s) refl

pub args_halt : (n : ℕ) (inner : Reader) (found : List Expr) (ts us : List Lexeme) (e : Halt) → n ≢ 0 → Moves {X = Expr} (Err e) us (inner ts)
    → Moves {X = List Expr} (Err e) us (args_at n inner found ts)
args_halt n inner found ts us e h m = rw (args_more n inner found ts h) (halts_bind e us (inner ts) _ m)
