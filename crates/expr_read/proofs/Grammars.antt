-- The grammar of expressions and their reading agree.
use Rattle.std.proofs.Common.{◌≡◌, ℕ, zero, suc, List, Bool, true, false, Ok, refl, sym, ap, subst, ◌∙◌}
use Rattle.std.specs.Prelude.{◌||◌}
use Rattle.ds_lex.specs.Lexemes.{Lexeme}
use Rattle.ds_lex.specs.Reading.{◌>>=◌}
use Rattle.expr_read.specs.declared.tree.Infix.TheVariants as sign
use Rattle.expr_read.specs.declared.tree.Expr.{Expr}
use Rattle.expr_read.specs.declared.tree.Expr.TheVariants as made
use Rattle.expr_read.specs.declared.what.What.{What}
use Rattle.expr_read.specs.declared.what.What.TheVariants as what
use Rattle.expr_read.specs.declared.what.Level.{Level}
use Rattle.expr_read.specs.declared.what.Level.TheVariants as level
use Rattle.expr_read.specs.Marks.{what_of}
use Rattle.expr_read.specs.Reading.{Read, Reader, link_by, opens, closed, nothing_at, signed_by, bracket_by, unary_at, or_at, and_at, comparison_at, sum_at, product_at}
use Rattle.expr_read.specs.Grammar.{Form, unary_form, no_form, or_form}
use Rattle.expr_read.proofs.Chains.{goes_on, is_some_link, Reads, parts, made_of, chain_reads}
use Rattle.expr_read.proofs.Units.{Ends, InnerReads, opens_token, unary_reads, closed_is, closed_reads, close_stops}

-- ---- which tokens go on with a level

abbrev pub go_product : Lexeme → Bool
go_product t = goes_on opens_token level.Product t

abbrev pub go_sum : Lexeme → Bool
go_sum t = goes_on go_product level.Sum t

abbrev pub go_comparison : Lexeme → Bool
go_comparison t = goes_on go_sum level.Compare t

abbrev pub go_and : Lexeme → Bool
go_and t = goes_on go_comparison level.And t

abbrev pub go_or : Lexeme → Bool
go_or t = goes_on go_and level.Or t

-- what the sign of a level goes on with, by what the token is
abbrev pub links : Level → ℕ → What → Bool
links l at w = is_some_link (link_by l at w)

pub apart_product : (at : ℕ) (w : What) → links level.Product at w ≡ true → opens w ≡ false
apart_product at (what.Sign s) h = refl
apart_product at w h = absurd cc

pub apart_sum : (at : ℕ) (w : What) → links level.Sum at w ≡ true → (opens w || links level.Product at w) ≡ false
apart_sum at (what.Sign sign.Plus) h = refl
apart_sum at (what.Sign sign.Minus) h = refl
apart_sum at w h = absurd cc

pub apart_comparison : (at : ℕ) (w : What) → links level.Compare at w ≡ true → ((opens w || links level.Product at w) || links level.Sum at w) ≡ false
apart_comparison at (what.Sign sign.Equal) h = refl
apart_comparison at (what.Sign sign.NotEqual) h = refl
apart_comparison at (what.Sign sign.Less) h = refl
apart_comparison at (what.Sign sign.LessEqual) h = refl
apart_comparison at (what.Sign sign.Greater) h = refl
apart_comparison at (what.Sign sign.GreaterEqual) h = refl
apart_comparison at w h = absurd cc

pub apart_and : (at : ℕ) (w : What) → links level.And at w ≡ true → (((opens w || links level.Product at w) || links level.Sum at w) || links level.Compare at w) ≡ false
apart_and at (what.Sign sign.And) h = refl
apart_and at w h = absurd cc

pub apart_or : (at : ℕ) (w : What) → links level.Or at w ≡ true → ((((opens w || links level.Product at w) || links level.Sum at w) || links level.Compare at w) || links level.And at w) ≡ false
apart_or at (what.Sign sign.Or) h = refl
apart_or at w h = absurd cc

-- ---- levels

pub or_reads : (F : Form) (R : Reader) → Reads F opens_token R → Reads (or_form F) go_or (or_at R)
or_reads F R r =
    let product = chain_reads level.Product F opens_token R (λ t. apart_product t.at (what_of t)) r in
    let sum = chain_reads level.Sum _ go_product (product_at R) (λ t. apart_sum t.at (what_of t)) product in
    let comparison = chain_reads level.Compare _ go_sum (sum_at R) (λ t. apart_comparison t.at (what_of t)) sum in
    let conjunction = chain_reads level.And _ go_comparison (comparison_at R) (λ t. apart_and t.at (what_of t)) comparison in
    chain_reads level.Or _ go_and (and_at R) (λ t. apart_or t.at (what_of t)) conjunction

pub ends_go : Ends go_or
ends_go = record {
  close = λ t h. rw h refl;
  comma = λ t h. rw h refl;
}

no_reads : Reads no_form go_or nothing_at
no_reads = record {
  sound = λ ts e rest h. absurd cc;
  all = λ e ts rest h g. absurd h;
  takes = λ e ts rest h. absurd h;
  begins = λ e ts rest h. absurd h;
}

-- no sign and no bracket is read
none_inside : InnerReads no_form no_form (λ s at. nothing_at) nothing_at
none_inside = record {
  signed_sound = λ s at t ts e rest h. absurd cc;
  signed_all = λ s at t of ts rest h g. absurd h;
  bracket_sound = λ t ts e rest h. absurd cc;
  bracket_all = λ t e ts rest h. absurd h.1;
}

inside : (F : Form) (R : Reader) → Reads F opens_token R → InnerReads F (or_form F) (signed_by R) (bracket_by (or_at R))
inside F R r =
    let o = or_reads F R r in
    record {
      signed_sound = λ s at t ts e rest h.
          let m = made_of (R ts) (λ x. Ok (made.Signed at s x.0, x.1)) e rest h in
          let p = parts (made.Signed at s m.value, m.left) e rest m.second in
          (m.value, sym p.first, subst (λ (us : List Lexeme). F m.value ts us) p.second (r.sound ts m.value m.left m.first));
      signed_all = λ s at t of ts rest h g. ap (λ (v : Read Expr). v >>= λ x. Ok (made.Signed at s x.0, x.1)) (r.all of ts rest h g);
      bracket_sound = λ t ts e rest h.
          let m = made_of (or_at R ts) closed e rest h in
          let k = closed_is m.value e m.left rest m.second in
          (m.left, subst (λ (x : Expr). or_form F x ts m.left) k.0 (o.sound ts m.value m.left m.first), k.1);
      bracket_all = λ t e ts rest h.
          ap (λ (v : Read Expr). v >>= closed) (o.all e ts h.0 h.1 (close_stops go_or ends_go h.0 rest h.2)) ∙ closed_reads e h.0 rest h.2;
    }

pub unary_form_reads : (n : ℕ) → Reads (unary_form n) opens_token (unary_at n)
unfolding unary_form unary_at
unary_form_reads zero = unary_reads no_form no_form go_or nothing_at (λ s at. nothing_at) nothing_at no_reads ends_go (λ e ts rest h. absurd h) none_inside
unary_form_reads (suc n) =
    let r = unary_form_reads n in
    unary_reads (unary_form n) (or_form (unary_form n)) go_or (or_at (unary_at n)) (signed_by (unary_at n)) (bracket_by (or_at (unary_at n))) (or_reads (unary_form n) (unary_at n) r) ends_go r.takes (inside (unary_form n) (unary_at n) r)
