-- The first place at which a test passes, and the places of the rows.
use Rattle.std.proofs.Common.{◌≡◌, ◌∙◌, sym, ap, Bool, true, false, List, [], ◌∷◌, ℕ, zero, suc, ◌+◌, ◌≤◌, ◌<◌, length, get_or, drop, Option, Some, None, ◌==◌, ◌&&◌, refl, cond, slice_get, arith}
use Rattle.std.proofs.lemmas.Bool.{eqb-true}
use Rattle.std.proofs.lemmas.List.{drop_all}
use Rattle.std.proofs.lemmas.Option.{slice_get-get_or}
use Rattle.std.specs.Prelude.{IsSomeAnd}
use Rattle.std.specs.List.{position_from}
use Rattle.expr_table.specs.declared.entry.Entry.{Entry}
use Rattle.expr_table.specs.declared.entry.FnName.{FnName}
use Rattle.expr_table.specs.declared.entry.Shape.{Shape}
use Rattle.expr_table.specs.TableRows.{rows, row_with, shapes, has, Has, AreDistinct}
use Rattle.expr_table.proofs.Names.{has_is, both}

pub none_passes : (p : Entry → Bool) (k : ℕ) (es : List Entry) → position_from p k es ≡ None → (i : ℕ) (e : Entry) → slice_get es i ≡ Some e → p e ≡ true → ⊥
none_passes p k [] none i e at test = cc
none_passes p k (x ∷ es) none zero e at test = let same : e ≡ x = cc in let passes : p x ≡ true = rw same at test in let found : position_from p k (x ∷ es) ≡ Some k = rw passes refl in cc
none_passes p k (x ∷ es) none (suc i) e at test =
    elim (p x) as (λ v. cond v (Some k) (position_from p (k + 1) es) ≡ None → ⊥) [ true ↦ λ h. cc | false ↦ λ h. none_passes p (k + 1) es h i e at test ] none

pub none_left : (p : Entry → Bool) (es : List Entry) (i : ℕ) → length es ≤ i → position_from p i (drop i es) ≡ position_from p 0 es → position_from p 0 es ≡ None
none_left p es i past same = sym same ∙ ap (position_from p i) (drop_all i es past)

pub found_here : (name : FnName) (args : List Shape) (es read : List Entry) (i : ℕ) (d : Entry) → read ≡ es → i < length read → has name args (get_or read i d) ≡ true → IsSomeAnd (slice_get es i) (Has name args)
found_here name args es read i d same within test = let at = slice_get-get_or read i d within in rw (← same) (rw at ((has_is name args (get_or read i d)).0 test))

-- whether each row is the first that has its name and arguments
is_own : Option ℕ → ℕ → Bool
is_own None i = false
is_own (Some n) i = n == i

are_own : ℕ → List Entry → Bool
are_own k [] = true
are_own k (e ∷ es) = is_own (row_with rows e.name (shapes e)) k && are_own (k + 1) es

all_own : are_own 0 rows ≡ true
unfolding are_own is_own
all_own = refl

own : (o : Option ℕ) (i : ℕ) → is_own o i ≡ true → o ≡ Some i
unfolding is_own
own None i test = cc
own (Some n) i test = ap Some (eqb-true n i test)

own_at : (k : ℕ) (es : List Entry) (i : ℕ) (e : Entry) → are_own k es ≡ true → slice_get es i ≡ Some e → row_with rows e.name (shapes e) ≡ Some (k + i)
unfolding are_own
own_at k [] i e all at = cc
own_at k (x ∷ es) zero e all at = let same : x ≡ e = cc in let place = own _ k (both _ _ all).0 in rw (← same) (place ∙ ap Some (omega arith))
own_at k (x ∷ es) (suc i) e all at = own_at (k + 1) es i e (both _ _ all).1 at ∙ ap Some (omega arith)

pub rows_distinct : AreDistinct rows
rows_distinct i j d e first second h =
    let place = own_at 0 rows i d all_own first in
    let other = own_at 0 rows j e all_own second in
    let same : Some (0 + j) ≡ Some (0 + i) = sym other ∙ rw (h.0, h.1) place in
    let k : 0 + j ≡ 0 + i = cc in omega arith
