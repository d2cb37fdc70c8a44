-- A text spells one expression, or has one first place from which no expression goes on.
use Rattle.std.proofs.Common.{◌≡◌, ℕ, List, [], ◌∷◌, ◌++◌, None, sym, ap, subst, ◌∙◌, append_assoc, inl, inr}
use Rattle.std.proofs.lemmas.List.{append-nil}
use Rattle.ds_lex.specs.declared.token.Mode.TheVariants.{Inner}
use Rattle.ds_lex.specs.Lexemes.{Lexeme, LexedText, lexed_text}
use Rattle.expr_read.specs.declared.tree.Expr.{Expr}
use Rattle.expr_read.specs.First.{Spells, Begins, StopsAt, IsFirst}
use Rattle.expr_read.specs.FirstLaws.{FaultyIsNone, OneFirstFault}

begins_front : (a b : List Lexeme) → Begins (a ++ b) → Begins a
begins_front a b h = record { more = b ++ h.more; expr = h.expr; spelled = subst (λ (ts : List Lexeme). Spells ts h.expr) (append_assoc a b h.more) h.spelled }

begins_whole : (ts : List Lexeme) (e : Expr) → Spells ts e → Begins ts
begins_whole ts e s = record { more = []; expr = e; spelled = subst (λ (us : List Lexeme). Spells us e) (sym (append-nil ts)) s }

-- tokens with which no expression goes on begin none
stuck_none : (ts : List Lexeme) (at : ℕ) → StopsAt ts at → Begins ts → ⊥
stuck_none ts at s b =
    let group : ts ≡ (s.before ++ s.token ∷ []) ++ s.behind = s.tokens ∙ sym (append_assoc s.before (s.token ∷ []) s.behind) in
    s.stuck (begins_front (s.before ++ s.token ∷ []) s.behind (subst Begins group b))

spells_none : (text : LexedText) (len at : ℕ) (e : Expr) → IsFirst text len at → text.bad ≡ None → Spells text.lexemes e → ⊥
spells_none text len at e (inl a) g s = stuck_none text.lexemes at a (begins_whole text.lexemes e s)
spells_none text len at e (inr b) g s = b.unfinished g e s

pub faulty_is_none : FaultyIsNone
faulty_is_none bytes at e f s = spells_none (lexed_text Inner bytes) _ at e f s.whole s.tokens

-- where two tokens stand in the same list: at one place, or the one before the other
data Sides (a : List Lexeme) (t : Lexeme) (b : List Lexeme) (u : Lexeme) : Type 0 where
  Same : t ≡ u → Sides a t b u
  Before : (x : List Lexeme) → b ≡ (a ++ t ∷ []) ++ x → Sides a t b u
  Behind : (x : List Lexeme) → a ≡ (b ++ u ∷ []) ++ x → Sides a t b u

heads : (t u : Lexeme) (xs ys : List Lexeme) → t ∷ xs ≡ u ∷ ys → (t ≡ u) × (xs ≡ ys)
heads t u xs ys h = (cc, cc)

further : (v : Lexeme) (a : List Lexeme) (t : Lexeme) (b : List Lexeme) (u : Lexeme) → Sides a t b u → Sides (v ∷ a) t (v ∷ b) u
further v a t b u (Same f) = Same f
further v a t b u (Before x e) = Before x (ap (λ (xs : List Lexeme). v ∷ xs) e)
further v a t b u (Behind x e) = Behind x (ap (λ (xs : List Lexeme). v ∷ xs) e)

sides : (a : List Lexeme) (t : Lexeme) (xs b : List Lexeme) (u : Lexeme) (ys : List Lexeme) → a ++ t ∷ xs ≡ b ++ u ∷ ys → Sides a t b u
sides [] t xs [] u ys h = Same (heads t u xs ys h).0
sides [] t xs (v ∷ b) u ys h = Before b (ap (λ (w : Lexeme). w ∷ b) (sym (heads t v xs (b ++ u ∷ ys) h).0))
sides (v ∷ a) t xs [] u ys h = Behind a (ap (λ (w : Lexeme). w ∷ a) (heads v u (a ++ t ∷ xs) ys h).0)
sides (v ∷ a) t xs (w ∷ b) u ys h =
    let k = heads v w (a ++ t ∷ xs) (b ++ u ∷ ys) h in
    subst (λ (y : Lexeme). Sides (v ∷ a) t (y ∷ b) u) k.0 (further v a t b u (sides a t xs b u ys k.1))

-- before a token that can be gone on behind none is stuck
not_before : (ts : List Lexeme) (at : ℕ) (s : StopsAt ts at) (b x : List Lexeme) → b ≡ (s.before ++ s.token ∷ []) ++ x → Begins b → ⊥
not_before ts at s b x e g = s.stuck (begins_front (s.before ++ s.token ∷ []) x (subst Begins e g))

one_stop_by : (ts : List Lexeme) (at place : ℕ) (s : StopsAt ts at) (r : StopsAt ts place) → Sides s.before s.token r.before r.token → at ≡ place
one_stop_by ts at place s r (Same f) = s.place ∙ (ap (λ (u : Lexeme). u.at) f ∙ sym r.place)
one_stop_by ts at place s r (Before x e) = absurd (not_before ts at s r.before x e r.begun)
one_stop_by ts at place s r (Behind x e) = absurd (not_before ts place r s.before x e s.begun)

one_first : (text : LexedText) (len at place : ℕ) → IsFirst text len at → IsFirst text len place → at ≡ place
one_first text len at place (inl s) (inl r) = one_stop_by text.lexemes at place s r (sides s.before s.token s.behind r.before r.token r.behind (sym s.tokens ∙ r.tokens))
one_first text len at place (inl s) (inr b) = absurd (stuck_none text.lexemes at s b.begun)
one_first text len at place (inr b) (inl r) = absurd (stuck_none text.lexemes place r b.begun)
one_first text len at place (inr b) (inr c) = b.place ∙ sym c.place

pub one_first_fault : OneFirstFault
one_first_fault bytes at place f g = one_first (lexed_text Inner bytes) _ at place f g
