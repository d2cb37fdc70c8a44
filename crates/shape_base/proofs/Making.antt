-- Fields at which nothing is wrong are a schema.
use Rattle.std.proofs.Common.{◌≡◌, ◌≤◌, ◌<◌, ◌∷◌, [], not, ℕ, zero, suc, List, false, None, sym, arith, length, get_or, nat_le}
use Rattle.std.specs.List.{AllByRecursion}
use Rattle.std.specs.Str.{bytes_eq}
use Rattle.std.proofs.lemmas.Bool.{and_parts, leb-true, or_parts}
use Rattle.std.proofs.lemmas.Slice.Eq.{bytes_eq-Decides}
use Rattle.ds_schema.specs.declared.schema.Field.{Field}
use Rattle.ds_schema.specs.Schemas.{IsField, IsSchema, AreDistinct}
use Rattle.shape_base.specs.declared.fault.ShapeWhy.TheVariants as why
use Rattle.shape_base.specs.Causes.{cause_if}
use Rattle.shape_base.specs.Naming.{has_column}
use Rattle.shape_base.specs.Widths.{fields_cause, has_double, is_narrow}
use Rattle.shape_base.proofs.Firsts.{none_head}
use Rattle.shape_base.proofs.Held.{held, unheld}

other_name : (a b : List ℕ) → bytes_eq b a ≡ false → a ≡ b → ⊥
other_name a b h e = cc (h, (bytes_eq-Decides b a).1 (sym e))

names_apart : (name : List ℕ) (fields : List Field) → has_column fields name ≡ false → AllByRecursion (λ (g : Field). name ≡ g.name → ⊥) fields
names_apart name [] h = tt
names_apart name (f ∷ fields) h = let parts = or_parts (bytes_eq f.name name) (has_column fields name) h in (other_name name f.name parts.0, names_apart name fields parts.1)

all_apart : (fields : List Field) → has_double fields ≡ false → AreDistinct fields
all_apart [] h = tt
all_apart (f ∷ fields) h = let parts = or_parts (has_column fields f.name) (has_double fields) h in (names_apart f.name fields parts.0, all_apart fields parts.1)

pub narrow : (fields : List Field) → fields_cause fields ≡ None → (1 ≤ length fields) × (length fields ≤ 256)
narrow fields e =
    let both = none_head (cause_if (has_double fields) why.Double) _ e in
    let one = none_head (cause_if (not (is_narrow fields)) why.Wide) [] both.1 in
    let parts = and_parts (nat_le 1 (length fields)) _ (held (is_narrow fields) why.Wide one.0) in
    let more = and_parts (nat_le (length fields) 256) _ parts.1 in
    (leb-true 1 (length fields) parts.0, leb-true (length fields) 256 more.0)

pub made_schema : (fields : List Field) → AllByRecursion IsField fields → fields_cause fields ≡ None → IsSchema fields
made_schema fields a e =
    let size = narrow fields e in
    record {
      some = size.0;
      few = size.1;
      each = a;
      distinct = all_apart fields (unheld (has_double fields) why.Double (none_head (cause_if (has_double fields) why.Double) _ e).0);
    }

pub at_each : (fields : List Field) (c : ℕ) (d : Field) → AllByRecursion IsField fields → c < length fields → IsField (get_or fields c d)
at_each [] c d a h = absurd (omega arith)
at_each (f ∷ fields) zero d a h = a.0
at_each (f ∷ fields) (suc c) d a h = at_each fields c d a.1 (omega arith)
