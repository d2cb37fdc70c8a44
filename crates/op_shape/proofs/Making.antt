-- What a transform sets and a modify keeps are fields.
use Rattle.std.proofs.Common.{◌≡◌, ◌<◌, ◌∷◌, [], ℕ, List, Bool, true, false, cond, length, map}
use Rattle.std.specs.List.{AllByRecursion}
use Rattle.std.specs.Str.{bytes_eq}
use Rattle.ds_schema.specs.declared.schema.Field.{Field}
use Rattle.ds_schema.specs.Schemas.{IsField, IsFieldName}
use Rattle.flow_graph.specs.declared.op_kind.SetSpec.{SetSpec}
use Rattle.shape_base.specs.Fields.{field_at}
use Rattle.op_shape.specs.Columns.{kept_columns, new_name, renamed, modified_fields, put_field, set_fields}
use Rattle.shape_base.specs.Naming.{has_columns}
use Rattle.op_shape.proofs.Keeping.{kept_within}
use Rattle.shape_base.proofs.Making.{at_each}

-- ---- set fields are fields

put_each : (new : Field) (fields : List Field) → IsField new → AllByRecursion IsField fields → AllByRecursion IsField (put_field new fields)
put_each new [] n a = (n, tt)
put_each new (f ∷ fields) n a = go (bytes_eq f.name new.name) (put_each new fields n a.1)
  where
    go : (b : Bool) → AllByRecursion IsField (put_field new fields) → AllByRecursion IsField (cond b (new ∷ fields) (f ∷ put_field new fields))
    go true h = (n, a.1)
    go false h = (a.0, h)

pub set_each : (set : List SetSpec) (fields : List Field) → AllByRecursion (λ (s : SetSpec). IsField s.field) set → AllByRecursion IsField fields → AllByRecursion IsField (set_fields fields set)
set_each [] fields n a = a
set_each (s ∷ set) fields n a = set_each set (put_field s.field fields) n.1 (put_each s.field fields n.0 a)

-- ---- and so are kept ones under new names

new_each : (rename : List (List ℕ × List ℕ)) (name : List ℕ) → AllByRecursion (λ (p : List ℕ × List ℕ). IsFieldName (p.0)) rename → IsFieldName name → IsFieldName (new_name rename name)
new_each [] name n h = h
new_each (p ∷ rename) name n h = go (bytes_eq (p.1) name) (new_each rename name n.1 h)
  where
    go : (b : Bool) → IsFieldName (new_name rename name) → IsFieldName (cond b (p.0) (new_name rename name))
    go true k = n.0
    go false k = k

renamed_each : (rename : List (List ℕ × List ℕ)) (fields : List Field) (cols : List ℕ) → AllByRecursion (λ (p : List ℕ × List ℕ). IsFieldName (p.0)) rename → AllByRecursion IsField fields
    → AllByRecursion (λ c. c < length fields) cols → AllByRecursion IsField (map (renamed rename) (map (field_at fields) cols))
renamed_each rename fields [] n a w = tt
renamed_each rename fields (c ∷ cols) n a w =
    let here : IsField (field_at fields c) = at_each fields c _ a w.0 in
    ((new_each rename (field_at fields c).name n here.0, here.1), renamed_each rename fields cols n a w.1)

pub modified_each : (keep drop : List (List ℕ)) (rename : List (List ℕ × List ℕ)) (fields : List Field) → has_columns fields keep ≡ true → AllByRecursion (λ (p : List ℕ × List ℕ). IsFieldName (p.0)) rename → AllByRecursion IsField fields
    → AllByRecursion IsField (modified_fields keep drop rename fields)
modified_each keep drop rename fields h n a = renamed_each rename fields (kept_columns keep drop fields) n a (kept_within keep drop fields h)
