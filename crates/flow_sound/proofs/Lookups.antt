-- Lookups of a shaped flow: what the law of flows asks of them, and their rows.
use mathlib.Core.Path.{fun_ext}
use Rattle.std.proofs.Common.{◌≡◌, ◌+◌, ◌&&◌, ℕ, zero, suc, Bool, true, List, [], ◌∷◌, ◌++◌, length, length-append, map, flat_map, refl, sym, ap, ap₂, ◌∙◌}
use Rattle.std.proofs.lemmas.List.{length-map}
use Rattle.ds_schema.specs.declared.schema.Field.{Field}
use Rattle.ds_schema.specs.Rows.{cols, has, sub, val}
use Rattle.ds_schema.specs.Schemas.{row_fits}
use Rattle.op_base.specs.declared.missing.Missing.{Missing}
use Rattle.op_base.specs.declared.missing.Missing.TheVariants as missing
use Rattle.op_base.specs.Columns.{Row, all_columns, no_row, only, pairs_of}
use Rattle.op_base.specs.Meanings.{Looking, if_continues, if_rejected, looked_row}
use Rattle.op_base.proofs.All.{all_filter}
use Rattle.op_base.proofs.ColumnLaws.{length-range_with}
use Rattle.op_lookup.specs.Looked.{missing_fault, others_of}
use Rattle.op_lookup.proofs.Finding.{own-values-stay}
use Rattle.flow_graph.specs.Charts.{main_passes}
use Rattle.flow_graph.specs.Forms.{looked_passing}
use Rattle.flow_graph.specs.Operators.{lookup, result}
use Rattle.flow_graph.specs.RowRules.{at_op}
use Rattle.shape_base.specs.Naming.{key_columns}
use Rattle.shape_base.specs.Fields.{made_or_rejected}
use Rattle.keyed_shape.specs.Keyed.{continues, is_key, field_named, lookup_fields, main_field, nullable_if, other_fields}
use Rattle.flow_sound.proofs.ByKeys.{Come}
use Rattle.flow_sound.proofs.Joins.{each_given, others_long}
use Rattle.flow_sound.proofs.Picking.{Widens, may_be_null, no_others_fit, others_fit, rows_beside, widened_fits}
use Rattle.flow_sound.proofs.Working.{Fit, fits_long}

-- a lookup by these keys of rows of some fields in a reference of others
abbrev pub looking_up : ℕ → Missing → List (List ℕ × Bool) → (main reference : List Field) → Looking
looking_up o missing key main reference = record {
  main_keys = key_columns main key;
  reference_keys = key_columns reference key;
  main = all_columns (length main);
  others = others_of (cols (key_columns reference key)) (length reference);
  missing = missing;
  fault = λ row. at_op o (missing_fault row);
}

-- ---- what is asked of a lookup

pub passes_as : (k : Looking) (width : ℕ) → k.main ≡ all_columns width → looked_passing k ≡ main_passes width
passes_as k width e = fun_ext same
  where
    same : (q : ℕ) → looked_passing k q ≡ main_passes width q
    same zero = ap (λ cs. only (pairs_of cs (all_columns (length cs)))) e ∙ ap (λ n. only (pairs_of (all_columns width) (all_columns n))) (length-range_with 0 width)
    same (suc q) = refl

pub lookup_long : (o : ℕ) (m : Missing) (key : List (List ℕ × Bool)) (main reference : List Field) → let k = looking_up o m key main reference in length (lookup_fields key m main reference) ≡ length k.main + length k.others
lookup_long o m key main reference =
    length-append (map (main_field key reference) main) (map (nullable_if (continues m)) (other_fields key reference))
    ∙ ap₂ (λ a b. a + b) (length-map main (main_field key reference) ∙ sym (length-range_with 0 (length main))) (others_long (continues m) key reference)

-- ---- rows

module _ (o : ℕ) (m : Missing) (key : List (List ℕ × Bool)) (main reference : List Field) where
  abbrev k : Looking
  k = looking_up o m key main reference

  abbrev outs : ℕ → List Field
  outs q = made_or_rejected (lookup_fields key m main reference) main q

  wider : Widens (main_field key reference)
  wider f v e = may_be_null (is_key key f.name && (field_named reference f.name).nullable) f v e

  own_fits : (a : Row) → row_fits main a ≡ true → row_fits (map (main_field key reference) main) (val k.main a) ≡ true
  own_fits a e =
      ap (λ n. row_fits (map (main_field key reference) main) (val (all_columns n) a)) (sym (fits_long main a e))
      ∙ ap (row_fits (map (main_field key reference) main)) (own-values-stay a)
      ∙ widened_fits (main_field key reference) wider main a e

  found_fits : (a b : Row) → row_fits main a ≡ true → row_fits reference b ≡ true → row_fits (lookup_fields key m main reference) (val k.main a ++ val k.others b) ≡ true
  found_fits a b e f = rows_beside (map (main_field key reference) main) (map (nullable_if (continues m)) (other_fields key reference)) (val k.main a) (val k.others b) (own_fits a e) (others_fit (continues m) key reference b f)

  missing_fits : (a : Row) → row_fits main a ≡ true → continues m ≡ true → row_fits (lookup_fields key m main reference) (val k.main a ++ val k.others no_row) ≡ true
  missing_fits a e c = rows_beside (map (main_field key reference) main) (map (nullable_if (continues m)) (other_fields key reference)) (val k.main a) (val k.others no_row) (own_fits a e) (no_others_fit (continues m) key reference c)

  if_goes_on : (n : Missing) (fields : List Field) (r : Row) → (continues n ≡ true → row_fits fields r ≡ true) → Fit fields (if_continues n r)
  if_goes_on missing.Continue fields r h = (h refl, tt)
  if_goes_on missing.Drop fields r h = tt
  if_goes_on missing.Fail fields r h = tt
  if_goes_on missing.Reject fields r h = tt

  if_refused : (n : Missing) (fields : List Field) (r : Row) → row_fits fields r ≡ true → Fit fields (if_rejected n r)
  if_refused missing.Continue fields r h = tt
  if_refused missing.Drop fields r h = tt
  if_refused missing.Fail fields r h = tt
  if_refused missing.Reject fields r h = (h, tt)

  looked_fits : (q : ℕ) (a : Row) (found : List Row) → row_fits main a ≡ true → Fit reference found → Fit (outs q) (looked_row k q a found)
  looked_fits zero a [] e h = if_goes_on m (lookup_fields key m main reference) (val k.main a ++ val k.others no_row) (missing_fits a e)
  looked_fits zero a (b ∷ found) e h = (found_fits a b e h.0, tt)
  looked_fits (suc q) a [] e h = if_refused m main a e
  looked_fits (suc q) a (b ∷ found) e h = tt

  all_looked : (q : ℕ) (mains references : List Row) → Fit main mains → Fit reference references → Fit (outs q) (flat_map (λ a. looked_row k q a (sub (cols k.reference_keys) (val (cols k.main_keys) a) references)) mains)
  all_looked q mains references h g =
      each_given (outs q) (λ a. looked_row k q a (sub (cols k.reference_keys) (val (cols k.main_keys) a) references)) (λ a. row_fits main a ≡ true)
      (λ a e. looked_fits q a (sub (cols k.reference_keys) (val (cols k.main_keys) a) references) e (all_filter (λ (r : Row). row_fits reference r ≡ true) (has (cols k.reference_keys) (val (cols k.main_keys) a)) references g)) mains h

  pub lookup_fits : (q : ℕ) (inputs : List (List Row)) → Come (main ∷ (reference ∷ [])) inputs → Fit (outs q) (result (lookup k) q inputs)
  lookup_fits q [] h = tt
  lookup_fits q (mains ∷ []) h = all_looked q mains [] h.0 tt
  lookup_fits q (mains ∷ (references ∷ inputs)) h = all_looked q mains references h.0 h.1.0
