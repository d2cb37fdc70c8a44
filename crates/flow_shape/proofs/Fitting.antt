-- All operators fit where those of a whole order do.
use Rattle.std.proofs.Common.{◌≡◌, ◌==◌, ◌||◌, ◌∷◌, [], ℕ, List, Bool, true, false, refl, subst, length}
use Rattle.std.specs.List.{AllByRecursion}
use Rattle.std.proofs.lemmas.Bool.{eqb-true}
use Rattle.ds_schema.specs.declared.schema.Field.{Field}
use Rattle.flow_graph.specs.declared.flow.Flow.{Flow}
use Rattle.flow_shape.specs.Lowest.{HasNone}
use Rattle.flow_shape.specs.Links.{AreWithin, IsOrder, OnCycle, is_done}
use Rattle.flow_shape.specs.Refusals.{chart_of, Fits, AllFit}
use Rattle.flow_shape.proofs.Stuck.{whole_order}

done_by : (b : Bool) (P : ℕ → Type 0) (x j : ℕ) (r : Bool) → (x == j) ≡ b → (b || r) ≡ true → P x → (r ≡ true → P j) → P j
done_by true P x j r e d p go = subst P (eqb-true x j e) p
done_by false P x j r e d p go = go d

pub all_done : (P : ℕ → Type 0) (order : List ℕ) (j : ℕ) → AllByRecursion P order → is_done order j ≡ true → P j
all_done P [] j a d = cc
all_done P (x ∷ order) j a d = done_by (x == j) P x j (is_done order j) refl d a.0 (all_done P order j a.1)

pub all_fit : (flow : Flow) (schemas : List (List Field)) (order : List ℕ) → IsOrder (length flow.ops) flow.links order → AreWithin (length flow.ops) flow.links → HasNone (length flow.ops) (OnCycle flow.links)
    → length schemas ≡ length flow.links → AllByRecursion (Fits (chart_of flow schemas)) order → AllFit (chart_of flow schemas)
all_fit flow schemas order f w none len fit = record {
  each_link = len;
  fits = λ o h. all_done (Fits (chart_of flow schemas)) order o fit (whole_order (length flow.ops) flow.links order f w none o h);
}
