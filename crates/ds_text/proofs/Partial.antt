-- A row is read value by value.
use Rattle.std.proofs.Common.{◌≡◌, ◌<◌, ◌+◌, ◌++◌, ◌∷◌, [], ℕ, List, length, drop, get_or, refl, sym, ap, ◌∙◌, append_assoc, append-nil, subst}
use Rattle.std.proofs.lemmas.List.{drop_more}
use Rattle.ds_value.specs.declared.value.Value.{Value}

-- the item at a place, and those behind it
pub item_more : {X : Type 0} (xs : List X) (i : ℕ) (x : X) → i < length xs → x ≡ get_or xs i x → drop i xs ≡ x ∷ drop (i + 1) xs
item_more xs i x h is = drop_more xs i x h ∙ ap (λ y. y ∷ drop (i + 1) xs) (sym is)

-- the first values of a row were read: those that are still to come make up the whole with them, and no others do
pub record ReadsSoFar (whole now : List Value → Type 0) (row : List Value) : Type 0 where
  pub goes_on : (vs : List Value) → now vs → whole (row ++ vs)
  pub back : (ws : List Value) → whole ws → (vs : List Value) × (ws ≡ row ++ vs) × now vs

-- of the values to come the first is v
pub record IsNext (now later : List Value → Type 0) (v : Value) : Type 0 where
  pub goes_on : (vs : List Value) → later vs → now (v ∷ vs)
  pub back : (ws : List Value) → now ws → (vs : List Value) × (ws ≡ v ∷ vs) × later vs

pub start : (whole : List Value → Type 0) → ReadsSoFar whole whole []
start whole = record { goes_on = λ vs s. s; back = λ ws s. (ws, refl, s) }

pub next : (whole now later : List Value → Type 0) (row : List Value) (v : Value) → IsNext now later v → ReadsSoFar whole now row → ReadsSoFar whole later (row ++ v ∷ [])
next whole now later row v n r = record {
  goes_on = λ vs s. subst whole (sym (append_assoc row (v ∷ []) vs)) (r.goes_on (v ∷ vs) (n.goes_on vs s));
  back = λ ws s.
      let b = r.back ws s in
      let m = n.back b.0 b.2 in
      (m.0, b.1 ∙ (ap (λ l. row ++ l) m.1 ∙ sym (append_assoc row (v ∷ []) m.0)), m.2);
}

pub none : (whole now : List Value → Type 0) (row : List Value) → ((vs : List Value) → now vs → ⊥) → ReadsSoFar whole now row → (ws : List Value) → whole ws → ⊥
none whole now row never r ws s = let b = r.back ws s in never b.0 b.2

pub all : (whole now : List Value → Type 0) (row : List Value) → now [] → ReadsSoFar whole now row → whole row
all whole now row end r = subst whole (append-nil row) (r.goes_on [] end)
