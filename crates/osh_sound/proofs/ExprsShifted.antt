-- Tokens that spell an expression spell one at other places too.
use Rattle.std.proofs.Common.{◌≡◌, inl, inr, ℕ, zero, suc, List, [], ◌∷◌, length, Bool, true, false, Some, refl, sym, ap, ◌∙◌, subst, arith}
use Rattle.ds_lex.specs.Lexemes.{Lexeme}
use Rattle.expr_read.specs.declared.tree.Infix.{Infix}
use Rattle.expr_read.specs.declared.tree.Link.{Link}
use Rattle.expr_read.specs.declared.tree.Expr.{Expr}
use Rattle.expr_read.specs.declared.tree.Expr.TheVariants as made
use Rattle.expr_read.specs.declared.what.What.{What}
use Rattle.expr_read.specs.declared.what.What.TheVariants as what
use Rattle.expr_read.specs.declared.what.Level.{Level}
use Rattle.expr_read.specs.declared.what.Level.TheVariants as level
use Rattle.expr_read.specs.Marks.{what_of, what_by, prefix_of, joins}
use Rattle.expr_read.specs.Reading.{link_by, link_if, chained, content}
use Rattle.expr_read.specs.Grammar.{Form, mark, links_phrase, MayStand, chain_form, or_form, number_form, quoted_form, column_form, further_args, args_phrase, call_form, bracket_form, signed_form, no_form, unary_by, unary_form}
use Rattle.osh_sound.proofs.KeptTokens.{Shifts, Shifted}

same_what : (d e : ℕ) (t u : Lexeme) → Shifts d e t u → what_of t ≡ what_of u
same_what d e t u s = ap (λ k. what_by k t.bytes) s.0 ∙ ap (what_by u.sort) s.1

-- some expression that the form spells stands there too
pub record Spells (d e : ℕ) (F : Form) (us : List Lexeme) (rest : List Lexeme) : Type 0 where
  pub expr : Expr
  pub left : List Lexeme
  pub same : Shifted d e rest left
  pub spelled : F expr us left

pub record Moves (d e : ℕ) (F : Form) : Type 0 where
  pub moves : (x : Expr) (ts rest us : List Lexeme) → F x ts rest → Shifted d e ts us → Spells d e F us rest

mark_moves : (d e : ℕ) (w : What) (ts rest us : List Lexeme) → mark w ts rest → Shifted d e ts us → (left : List Lexeme) × Shifted d e rest left × mark w us left
mark_moves d e w [] rest us h s = absurd h
mark_moves d e w (t ∷ ts) rest [] h s = absurd s
mark_moves d e w (t ∷ ts) rest (u ∷ us) h s = (us, subst (λ (xs : List Lexeme). Shifted d e xs us) h.1 s.1, (sym (same_what d e t u s.0) ∙ h.0, refl))

-- ---- signs between operands

link_at_by : (l : Level) (place : ℕ) (b : Bool) (at : ℕ) (i : Infix) (link : Link) → link_if b at i ≡ Some link → (other : Link) × (link_if b place i ≡ Some other)
link_at_by l place true at i link h = (record { at = place; sign = i }, refl)
link_at_by l place false at i link h = absurd cc

link_moves : (l : Level) (at place : ℕ) (w : What) (link : Link) → link_by l at w ≡ Some link → (other : Link) × (link_by l place w ≡ Some other)
link_moves l at place (what.Sign i) link h = link_at_by l place (joins l i) at i link h
link_moves l at place w link h = absurd cc

pub record LinksMoved (d e : ℕ) (l : Level) (F : Form) (links : List (Link × Expr)) (us rest : List Lexeme) : Type 0 where
  pub others : List (Link × Expr)
  pub many : length others ≡ length links
  pub left : List Lexeme
  pub same : Shifted d e rest left
  pub spelled : links_phrase l F others us left

links_move : (d e : ℕ) (l : Level) (F : Form) → Moves d e F → (links : List (Link × Expr)) (ts rest us : List Lexeme) → links_phrase l F links ts rest → Shifted d e ts us → LinksMoved d e l F links us rest
links_move d e l F m [] ts rest us h s = record { others = []; many = refl; left = us; same = subst (λ (xs : List Lexeme). Shifted d e xs us) h s; spelled = refl }
links_move d e l F m (x ∷ links) [] rest us h s = absurd h.1
links_move d e l F m (x ∷ links) (t ∷ ts) rest [] h s = absurd s
links_move d e l F m (x ∷ links) (t ∷ ts) rest (u ∷ us) h s =
    let first = h.1 in
    let other = link_moves l t.at u.at (what_of t) x.0 first.0 in
    let named : link_by l u.at (what_of u) ≡ Some other.0 = ap (link_by l u.at) (sym (same_what d e t u s.0)) ∙ other.1 in
    let operand = h.2 in
    let y = m.moves x.1 h.0 operand.0 us operand.1 (subst (λ (xs : List Lexeme). Shifted d e xs us) first.1 s.1) in
    let more = links_move d e l F m links operand.0 rest y.left operand.2 y.same in
    record { others = (other.0, y.expr) ∷ more.others; many = ap suc more.many; left = more.left; same = more.same; spelled = (us, (named, refl), (y.left, y.spelled, more.spelled)) }

may_stand : (l : Level) (links others : List (Link × Expr)) → length others ≡ length links → MayStand l links → MayStand l others
may_stand level.Compare links others e h = omega arith
may_stand l links others e h = tt

chain_moves : (d e : ℕ) (l : Level) (F : Form) → Moves d e F → Moves d e (chain_form l F)
chain_moves d e l F m = record {
  moves = λ x ts rest us h s. (
      let all = h.4 in
      let first = m.moves h.0 ts all.0 us all.1 s in
      let links = links_move d e l F m h.1 all.0 rest first.left all.2 first.same in
      record { expr = chained first.expr links.others; left = links.left; same = links.same; spelled = (first.expr, links.others, refl, may_stand l h.1 links.others links.many h.3, (first.left, first.spelled, links.spelled)) });
}

or_moves : (d e : ℕ) (F : Form) → Moves d e F → Moves d e (or_form F)
or_moves d e F m = chain_moves d e level.Or _ (chain_moves d e level.And _ (chain_moves d e level.Compare _ (chain_moves d e level.Sum _ (chain_moves d e level.Product F m))))

-- ---- operands

no_moves : (d e : ℕ) → Moves d e no_form
no_moves d e = record { moves = λ x ts rest us h s. absurd h }

pub record ArgsMoved (d e : ℕ) (P : List Expr → List Lexeme → List Lexeme → Type 0) (us rest : List Lexeme) : Type 0 where
  pub args : List Expr
  pub left : List Lexeme
  pub same : Shifted d e rest left
  pub spelled : P args us left

further_move : (d e : ℕ) (F : Form) → Moves d e F → (args : List Expr) (ts rest us : List Lexeme) → further_args F args ts rest → Shifted d e ts us → ArgsMoved d e (further_args F) us rest
further_move d e F m [] ts rest us h s = record { args = []; left = us; same = subst (λ (xs : List Lexeme). Shifted d e xs us) h s; spelled = refl }
further_move d e F m (x ∷ args) ts rest us h s =
    let comma = mark_moves d e what.Comma ts h.0 us h.1 s in
    let operand = h.2 in
    let y = m.moves x h.0 operand.0 comma.0 operand.1 comma.1 in
    let more = further_move d e F m args operand.0 rest y.left operand.2 y.same in
    record { args = y.expr ∷ more.args; left = more.left; same = more.same; spelled = (comma.0, comma.2, (y.left, y.spelled, more.spelled)) }

args_move : (d e : ℕ) (F : Form) → Moves d e F → (args : List Expr) (ts rest us : List Lexeme) → args_phrase F args ts rest → Shifted d e ts us → ArgsMoved d e (args_phrase F) us rest
args_move d e F m [] ts rest us h s = record { args = []; left = us; same = subst (λ (xs : List Lexeme). Shifted d e xs us) h s; spelled = refl }
args_move d e F m (x ∷ args) ts rest us h s =
    let y = m.moves x ts h.0 us h.1 s in
    let more = further_move d e F m args h.0 rest y.left h.2 y.same in
    record { args = y.expr ∷ more.args; left = more.left; same = more.same; spelled = (y.left, y.spelled, more.spelled) }

signed_moves : (d e : ℕ) (F : Form) → Moves d e F → (x : Expr) (ts rest us : List Lexeme) → signed_form F x ts rest → Shifted d e ts us → Spells d e (signed_form F) us rest
signed_moves d e F m x [] rest us h s = absurd h
signed_moves d e F m x (t ∷ ts) rest [] h s = absurd s
signed_moves d e F m x (t ∷ ts) rest (u ∷ us) h s =
    let y = m.moves h.1 ts rest us h.4 s.1 in
    record { expr = made.Signed u.at h.0 y.expr; left = y.left; same = y.same; spelled = (h.0, y.expr, ap prefix_of (sym (same_what d e t u s.0)) ∙ h.2, refl, y.spelled) }

bracket_moves : (d e : ℕ) (F : Form) → Moves d e F → (x : Expr) (ts rest us : List Lexeme) → bracket_form F x ts rest → Shifted d e ts us → Spells d e (bracket_form F) us rest
bracket_moves d e F m x ts rest us h s =
    let open_mark = mark_moves d e what.Open ts h.0 us h.1 s in
    let inner = h.2 in
    let y = m.moves x h.0 inner.0 open_mark.0 inner.1 open_mark.1 in
    let close_mark = mark_moves d e what.Close inner.0 rest y.left inner.2 y.same in
    record { expr = y.expr; left = close_mark.0; same = close_mark.1; spelled = (open_mark.0, open_mark.2, (y.left, y.spelled, close_mark.2)) }

call_moves : (d e : ℕ) (F : Form) → Moves d e F → (x : Expr) (ts rest us : List Lexeme) → call_form F x ts rest → Shifted d e ts us → Spells d e (call_form F) us rest
call_moves d e F m x [] rest us h s = absurd h
call_moves d e F m x (t ∷ ts) rest [] h s = absurd s
call_moves d e F m x (t ∷ ts) rest (u ∷ us) h s =
    let all = h.3 in
    let open_mark = mark_moves d e what.Open ts all.0 us all.1 s.1 in
    let inner = all.2 in
    let args = args_move d e F m h.1 all.0 inner.0 open_mark.0 inner.1 open_mark.1 in
    let close_mark = mark_moves d e what.Close inner.0 rest args.left inner.2 args.same in
    record { expr = made.Call u.at u.bytes args.args; left = close_mark.0; same = close_mark.1; spelled = (sym (same_what d e t u s.0) ∙ h.0, args.args, refl, (open_mark.0, open_mark.2, (args.left, args.spelled, close_mark.2))) }

number_moves : (d e : ℕ) (x : Expr) (ts rest us : List Lexeme) → number_form x ts rest → Shifted d e ts us → Spells d e number_form us rest
number_moves d e x [] rest us h s = absurd h
number_moves d e x (t ∷ ts) rest [] h s = absurd s
number_moves d e x (t ∷ ts) rest (u ∷ us) h s = record { expr = made.Number u.at u.bytes; left = us; same = subst (λ (xs : List Lexeme). Shifted d e xs us) h.2 s.1; spelled = (sym (same_what d e t u s.0) ∙ h.0, refl, refl) }

quoted_moves : (d e : ℕ) (x : Expr) (ts rest us : List Lexeme) → quoted_form x ts rest → Shifted d e ts us → Spells d e quoted_form us rest
quoted_moves d e x [] rest us h s = absurd h
quoted_moves d e x (t ∷ ts) rest [] h s = absurd s
quoted_moves d e x (t ∷ ts) rest (u ∷ us) h s = record { expr = made.Quoted u.at (content u.bytes); left = us; same = subst (λ (xs : List Lexeme). Shifted d e xs us) h.2 s.1; spelled = (sym (same_what d e t u s.0) ∙ h.0, refl, refl) }

column_moves : (d e : ℕ) (x : Expr) (ts rest us : List Lexeme) → column_form x ts rest → Shifted d e ts us → Spells d e column_form us rest
column_moves d e x [] rest us h s = absurd h
column_moves d e x (t ∷ ts) rest [] h s = absurd s
column_moves d e x (t ∷ ts) rest (u ∷ us) h s = record { expr = made.Column u.at u.bytes; left = us; same = subst (λ (xs : List Lexeme). Shifted d e xs us) h.2 s.1; spelled = (sym (same_what d e t u s.0) ∙ h.0, refl, refl) }

by_form : (d e : ℕ) (F G : Form) (us rest : List Lexeme) → ((y : Expr) (left : List Lexeme) → F y us left → G y us left) → Spells d e F us rest → Spells d e G us rest
by_form d e F G us rest f y = record { expr = y.expr; left = y.left; same = y.same; spelled = f y.expr y.left y.spelled }

unary_by_moves : (d e : ℕ) (F G : Form) → Moves d e F → Moves d e G → Moves d e (unary_by F G)
unary_by_moves d e F G m n = record { moves = λ x ts rest us h s. by x ts rest us s h }
  where
    by : (x : Expr) (ts rest us : List Lexeme) → Shifted d e ts us → unary_by F G x ts rest → Spells d e (unary_by F G) us rest
    by x ts rest us s h =
        elim h [
          | inl a ↦ by_form d e (signed_form F) (unary_by F G) us rest (λ y left k. inl k) (signed_moves d e F m x ts rest us a s)
          | inr h ↦ elim h [
            | inl a ↦ by_form d e (bracket_form G) (unary_by F G) us rest (λ y left k. inr (inl k)) (bracket_moves d e G n x ts rest us a s)
            | inr h ↦ elim h [
              | inl a ↦ by_form d e (call_form G) (unary_by F G) us rest (λ y left k. inr (inr (inl k))) (call_moves d e G n x ts rest us a s)
              | inr h ↦ elim h [
                | inl a ↦ by_form d e number_form (unary_by F G) us rest (λ y left k. inr (inr (inr (inl k)))) (number_moves d e x ts rest us a s)
                | inr h ↦ elim h [
                  | inl a ↦ by_form d e quoted_form (unary_by F G) us rest (λ y left k. inr (inr (inr (inr (inl k))))) (quoted_moves d e x ts rest us a s)
                  | inr a ↦ by_form d e column_form (unary_by F G) us rest (λ y left k. inr (inr (inr (inr (inr k))))) (column_moves d e x ts rest us a s)
                ]
              ]
            ]
          ]
        ]

unary_moves : (d e n : ℕ) → Moves d e (unary_form n)
unfolding unary_form
unary_moves d e zero = unary_by_moves d e no_form no_form (no_moves d e) (no_moves d e)
unary_moves d e (suc n) = unary_by_moves d e (unary_form n) (or_form (unary_form n)) (unary_moves d e n) (or_moves d e (unary_form n) (unary_moves d e n))

-- all of the tokens, at other places
pub shifted_spells : (d e n : ℕ) (x : Expr) (ts us : List Lexeme) → or_form (unary_form n) x ts [] → Shifted d e ts us → (y : Expr) × or_form (unary_form n) y us []
shifted_spells d e n x ts us h s = by ((or_moves d e (unary_form n) (unary_moves d e n)).moves x ts [] us h s)
  where
    ended : (y : Expr) (left : List Lexeme) → Shifted d e [] left → or_form (unary_form n) y us left → or_form (unary_form n) y us []
    ended y [] s k = k
    ended y (u ∷ left) s k = absurd s

    by : Spells d e (or_form (unary_form n)) us [] → (y : Expr) × or_form (unary_form n) y us []
    by r = (r.expr, ended r.expr r.left r.same r.spelled)
