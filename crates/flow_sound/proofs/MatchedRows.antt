-- Merges, changes and funnels whose inputs are as they must be.
use Rattle.std.proofs.Common.{◌≡◌, ◌≤◌, ℕ, zero, suc, true, false, List, [], ◌∷◌, length, get_or, refl, arith}
use Rattle.std.specs.List.{list_all}
use Rattle.ds_schema.specs.declared.schema.Field.{Field}
use Rattle.ds_schema.specs.Schemas.{row_fits}
use Rattle.op_base.specs.Columns.{Row}
use Rattle.op_base.specs.Lists.{joined}
use Rattle.op_base.specs.Meanings.{input}
use Rattle.op_base.proofs.All.{both_true}
use Rattle.op_base.proofs.RowLists.{by_key_all}
use Rattle.shape_base.specs.Fields.{first_fields}
use Rattle.shape_base.specs.Naming.{has_keys}
use Rattle.shape_base.proofs.Held.{keys_lie}
use Rattle.flow_sound.specs.Fitting.{RowsFit}
use Rattle.flow_sound.specs.Matched.{ChangesFit, EachInputFits, FunnelsFit, MergesFit}
use Rattle.flow_sound.proofs.ByKeys.{Come}
use Rattle.flow_sound.proofs.Matching.{alike_fit, alike_long, all_alike, all_have, capture_fits, capture_fits_on, capture_long, inputs_alike, joined_fit, merge_fits, merge_fits_on, merge_long, merge_shaped, merge_widths}

pub input_at : (ins : List (List Field)) (inputs : List (List Row)) → EachInputFits ins inputs → (i : ℕ) → RowsFit (get_or ins i []) (input i inputs)
input_at [] [] h i = tt
input_at [] (rows ∷ inputs) h i = absurd h
input_at (fields ∷ ins) [] h i = absurd h
input_at (fields ∷ ins) (rows ∷ inputs) h zero = h.0
input_at (fields ∷ ins) (rows ∷ inputs) h (suc i) = input_at ins inputs h.1 i

all_come : (ins : List (List Field)) (inputs : List (List Row)) → EachInputFits ins inputs → Come ins inputs
all_come [] [] h = tt
all_come [] (rows ∷ inputs) h = absurd h
all_come (fields ∷ ins) [] h = absurd h
all_come (fields ∷ ins) (rows ∷ inputs) h = (h.0, all_come ins inputs h.1)

pub no_more : (ins : List (List Field)) (inputs : List (List Row)) → EachInputFits ins inputs → length inputs ≤ length ins
no_more [] [] h = omega arith
no_more [] (rows ∷ inputs) h = absurd h
no_more (fields ∷ ins) [] h = absurd h
no_more (fields ∷ ins) (rows ∷ inputs) h = let more = no_more ins inputs h.1 in omega (arith, more)

pub merges_fit : MergesFit
merges_fit key keeps_bad rejects ins none = (
  (merge_widths key keeps_bad ins, merge_shaped key keeps_bad rejects ins (all_have key ins none), λ q l. merge_long key keeps_bad ins q l),
  λ q p inputs h. (merge_fits key keeps_bad rejects ins q inputs (all_come ins inputs h), merge_fits_on key keeps_bad rejects ins q inputs (all_come ins inputs h)),
)

pub changes_fit : ChangesFit
changes_fit key values keeps_copy before after keyed same = (
  (λ q. length (Rattle.keyed_shape.specs.Matched.capture_fields before), (refl, keys_lie before key has, λ q. capture_long before), λ q l. refl),
  λ q p inputs h. (capture_fits key values keeps_copy before q inputs (both inputs h), capture_fits_on key values keeps_copy before q inputs (both inputs h)),
)
  where
    has : has_keys before key ≡ true
    has = (both_true (has_keys before key) (list_all (λ fields. has_keys fields key) (after ∷ [])) (all_have key (before ∷ (after ∷ [])) keyed)).0

    both : (inputs : List (List Row)) → EachInputFits (before ∷ (after ∷ [])) inputs → Come (before ∷ (before ∷ [])) inputs
    both [] h = absurd h
    both (rows ∷ []) h = absurd h.1
    both (rows ∷ (more ∷ inputs)) h = (h.0, (alike_fit before (before ∷ (after ∷ [])) 1 more (all_alike (before ∷ (after ∷ [])) same) (omega arith) h.1.0, tt))

pub funnels_fit : FunnelsFit
funnels_fit true keys ins same = (
  (λ q. length (first_fields ins), λ q. alike_long (first_fields ins) ins (all_alike ins same), λ q l. refl),
  λ q p inputs h. let all = joined_fit (first_fields ins) inputs (inputs_alike (first_fields ins) ins inputs (all_alike ins same) (no_more ins inputs h) (input_at ins inputs h)) in (all, all),
)
funnels_fit false [] ins same = (
  (λ q. length (first_fields ins), λ q. alike_long (first_fields ins) ins (all_alike ins same), λ q l. refl),
  λ q p inputs h. let all = joined_fit (first_fields ins) inputs (inputs_alike (first_fields ins) ins inputs (all_alike ins same) (no_more ins inputs h) (input_at ins inputs h)) in (all, all),
)
funnels_fit false (k ∷ keys) ins same = (
  (λ q. length (first_fields ins), λ q. alike_long (first_fields ins) ins (all_alike ins same), λ q l. refl),
  λ q p inputs h. let all = by_key_all (k ∷ keys) (λ same. same) (λ P rows all. all) (λ (r : Row). row_fits (first_fields ins) r ≡ true) (joined inputs) (joined_fit (first_fields ins) inputs (inputs_alike (first_fields ins) ins inputs (all_alike ins same) (no_more ins inputs h) (input_at ins inputs h))) in (all, all),
)
