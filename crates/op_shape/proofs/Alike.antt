-- The first cause at a modify and at a group, by options and fields that are equal to theirs.
use Rattle.std.proofs.Common.{◌≡◌, ◌++◌, ◌∷◌, [], ℕ, List, Bool, Option, sym, ap, ◌∙◌}
use Rattle.ds_schema.specs.declared.schema.Field.{Field}
use Rattle.flow_graph.specs.declared.op_kind.AggSpec.{AggSpec}
use Rattle.flow_graph.specs.declared.op_kind.OpKind.{OpKind}
use Rattle.flow_graph.specs.declared.op_kind.OpKind.TheVariants as kind
use Rattle.shape_base.specs.declared.fault.ShapeWhy.{ShapeWhy}
use Rattle.shape_base.specs.Causes.{first_cause}
use Rattle.op_shape.specs.Columns.{columns_cause, kept_fields, modified_fields}
use Rattle.keyed_shape.specs.Keyed.{group_fields, result_causes}
use Rattle.shape_base.specs.Fields.{first_fields}
use Rattle.shape_base.specs.Naming.{key_cause}
use Rattle.op_shape.specs.Options.{option_causes, output_causes, renames_cause}
use Rattle.shape_base.specs.Widths.{fields_cause}

abbrev group_first : List (List ℕ × Bool) → List AggSpec → List Field → Option ShapeWhy
group_first key results fields = first_cause ((key_cause key fields ∷ result_causes results fields) ++ (fields_cause (group_fields key results fields) ∷ []))

pub group_alike : (k : OpKind) (ins : List (List Field)) (key own_key : List (List ℕ × Bool)) (hash : Bool) (results own_results : List AggSpec) (fields : List Field) → k ≡ kind.Group own_key hash own_results → key ≡ own_key → results ≡ own_results → fields ≡ first_fields ins
    → group_first key results fields ≡ first_cause (option_causes k ins ++ output_causes k ins)
group_alike k ins key own_key hash results own_results fields e f g h =
    ap (λ x. group_first x results fields) f ∙ (ap (λ x. group_first own_key x fields) g ∙ (ap (group_first own_key own_results) h ∙ ap (λ x. first_cause (option_causes x ins ++ output_causes x ins)) (sym e)))

abbrev modify_first : List (List ℕ) → List (List ℕ) → List (List ℕ × List ℕ) → List Field → Option ShapeWhy
modify_first keep drop rename fields = first_cause (columns_cause keep fields ∷ (columns_cause drop fields ∷ (renames_cause rename (kept_fields keep drop fields) ∷ (fields_cause (modified_fields keep drop rename fields) ∷ []))))

pub modify_alike : (k : OpKind) (ins : List (List Field)) (keep own_keep drop own_drop : List (List ℕ)) (rename own_rename : List (List ℕ × List ℕ)) (fields : List Field) → k ≡ kind.Modify own_keep own_drop own_rename → keep ≡ own_keep → drop ≡ own_drop → rename ≡ own_rename → fields ≡ first_fields ins
    → modify_first keep drop rename fields ≡ first_cause (option_causes k ins ++ output_causes k ins)
modify_alike k ins keep own_keep drop own_drop rename own_rename fields e f g h i =
    ap (λ x. modify_first x drop rename fields) f ∙ (ap (λ x. modify_first own_keep x rename fields) g ∙ (ap (λ x. modify_first own_keep own_drop x fields) h ∙ (ap (modify_first own_keep own_drop own_rename) i ∙ ap (λ x. first_cause (option_causes x ins ++ output_causes x ins)) (sym e))))
