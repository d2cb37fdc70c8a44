-- The forms of files and the columns that they are for.
use Rattle.std.proofs.Common.{◌≡◌, ◌++◌, ◌==◌, not, ℕ, Bool, true, false, List, [], ◌∷◌, length, map, Option, Some, None, refl}
use Rattle.std.specs.List.{AllByRecursion}
use Rattle.std.proofs.lemmas.Bool.{eqb-true}
use Rattle.ds_schema.specs.declared.schema.Field.{Field}
use Rattle.ds_text.specs.Forms.{FormFits, IsDelimiter, IsWidth}
use Rattle.flow_graph.specs.Charts.{Chart, links_into, op_at}
use Rattle.flow_graph.specs.declared.op_kind.OpKind.{OpKind}
use Rattle.flow_graph.specs.declared.op_kind.OpKind.TheVariants as kind
use Rattle.shape_base.specs.declared.fault.ShapeWhy.TheVariants as why
use Rattle.shape_base.specs.Causes.{cause_if, first_cause}
use Rattle.op_shape.specs.Options.{option_causes, output_causes, widths_cause}
use Rattle.shape_base.proofs.Firsts.{none_both}
use Rattle.flow_shape.specs.Refusals.{Fits, input_cause, inputs_at}
use Rattle.flow_rules.specs.Exports.{input_of}
use Rattle.osh_ends.specs.FlowFiles.{fields_of, form}

-- the form of an operator's file suits the columns of its rows
abbrev pub FormSuits : Chart → ℕ → OpKind → Type 0
FormSuits c o (kind.Import file schema delim fixed reject) = FormFits schema (form delim fixed)
FormSuits c o (kind.Export file delim fixed) = FormFits (fields_of c (input_of c o)) (form delim fixed)
FormSuits c o k = Unit {0}

none_stands : (x : Bool) → first_cause (cause_if (not x) why.Schemas ∷ []) ≡ None → x ≡ true
none_stands true h = refl
none_stands false h = absurd cc

-- a form that records can have, with a width for each column
pub form_fits : (fields : List Field) (delim : ℕ) (fixed : Option (List ℕ)) → IsDelimiter delim → ((widths : List ℕ) → fixed ≡ Some widths → AllByRecursion IsWidth widths) → first_cause (widths_cause fixed fields ∷ []) ≡ None → FormFits fields (form delim fixed)
form_fits fields delim None d w e = d
form_fits fields delim (Some widths) d w e = record { one_each = eqb-true (length widths) (length fields) (none_stands (length widths == length fields) e); each = w widths refl }

-- nothing is wrong at the options of an operator that fits
pub options_sound : (c : Chart) (o : ℕ) → Fits c o → first_cause (option_causes (op_at c o).kind (inputs_at c o)) ≡ None
options_sound c o f =
    let k = (op_at c o).kind in
    let ins = inputs_at c o in
    (none_both (option_causes k ins) (output_causes k ins) (none_both (map (input_cause c o) (links_into c o)) (option_causes k ins ++ output_causes k ins) f.sound).1).0
