-- At its end, a loop over a list that it owns has had all of it.
use Rattle.std.proofs.Common.{◌≡◌, ◌<◌, get_or, Some, sym, ap, ◌∙◌, List, map-id, length, Option, None}
use Rattle.std.specs.Iterator.{Yields}
use Rattle.std.specs.Vec.Iter.{into_iter_items, into_iter_steps}
use Rattle.std.specs.declared.vec.IntoIter.{IntoIter}
use Rattle.std.proofs.lemmas.Iterator.Consumers.{YieldsList-end, YieldsList-turn}
use Rattle.std.proofs.lemmas.Iterator.Adapters.{YieldsList-from_vec}

pub had_all : {A Z : Type 0} (s : IntoIter A Z) (all xs : List A) (t : IntoIter A Z) → into_iter_items s ≡ all → Yields (into_iter_steps {X = A} {Z = Z}) s xs t → (r : Option A) (u : IntoIter A Z) → r ≡ None → into_iter_steps t r u → xs ≡ all
had_all s all xs t e y r u none step = sym (map-id xs) ∙ (YieldsList-end (YieldsList-from_vec {s = s} all e (s.rest.ok.0 ∙ ap length e)) xs t y r u none step).0

-- and in it, each item is one of all
pub is_next : {A Z : Type 0} (s : IntoIter A Z) (all xs : List A) (t : IntoIter A Z) → into_iter_items s ≡ all → Yields (into_iter_steps {X = A} {Z = Z}) s xs t → (r : Option A) (u : IntoIter A Z) (x : A) → r ≡ Some x → into_iter_steps t r u → (length xs < length all) × (x ≡ get_or all (length xs) x)
is_next s all xs t e y r u x some step = YieldsList-turn (YieldsList-from_vec {s = s} all e (s.rest.ok.0 ∙ ap length e)) xs t y r u x some step
