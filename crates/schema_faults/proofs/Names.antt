-- Names that a further field may have, by the reader's test.
use Rattle.std.proofs.Common.{◌≡◌, ℕ, List, [], ◌∷◌, Bool, true, false, length, refl, sym, ◌∙◌}
use Rattle.std.specs.Prelude.{◌||◌, not}
use Rattle.std.specs.Str.{bytes_eq}
use Rattle.std.specs.List.{AllByRecursion}
use Rattle.std.specs.Cmp.{first_so, second_so}
use Rattle.std.proofs.lemmas.Bool.{not-true, le-leb}
use Rattle.ds_lex.proofs.Readers.{same_bytes, bytes_same}
use Rattle.ds_schema.specs.declared.schema.Field.{Field}
use Rattle.ds_schema.specs.Schemas.{IsFieldName}
use Rattle.ds_schema.specs.SchemaReading.{is_field_name, has_field}
use Rattle.ds_schema.proofs.FieldNames.{field_name}
use Rattle.ds_schema.proofs.FieldReaders.{is_free}
use Rattle.schema_faults.specs.Places.{IsFree}

named_so : (bytes : List ℕ) → IsFieldName bytes → is_field_name bytes ≡ true
named_so bytes h = rw (le-leb (length bytes) 64 h.short, h.begun, h.each) refl

neither : (a b : Bool) → (a || b) ≡ false → (a ≡ false) × (b ≡ false)
neither true b h = absurd cc
neither false b h = (refl, h)

unequal : (a b : List ℕ) → bytes_eq a b ≡ false → a ≡ b → ⊥
unequal a b h e = let k : true ≡ false = sym (bytes_same a b e) ∙ h in absurd cc

unequal_by : (a b : List ℕ) (t : Bool) → bytes_eq a b ≡ t → (a ≡ b → ⊥) → bytes_eq a b ≡ false
unequal_by a b true e differ = absurd (differ (same_bytes a b e))
unequal_by a b false e differ = e

differs_so : (fields : List Field) (name : List ℕ) → has_field fields name ≡ false → AllByRecursion (λ f. f.name ≡ name → ⊥) fields
differs_so [] name h = tt
differs_so (f ∷ fields) name h = let n = neither (bytes_eq f.name name) (has_field fields name) h in (unequal f.name name n.0, differs_so fields name n.1)

pub none_has : (fields : List Field) (name : List ℕ) → AllByRecursion (λ f. f.name ≡ name → ⊥) fields → has_field fields name ≡ false
none_has [] name h = refl
none_has (f ∷ fields) name h = rw (unequal_by f.name name (bytes_eq f.name name) refl h.0) (none_has fields name h.1)

pub free_so : (fields : List Field) (name : List ℕ) → is_free fields name ≡ true → IsFree fields name
free_so fields name h = record {
  named = field_name name (first_so (is_field_name name) (not (has_field fields name)) h);
  differs = differs_so fields name (not-true (has_field fields name) (second_so (is_field_name name) (not (has_field fields name)) h));
}

pub so_free : (fields : List Field) (name : List ℕ) → IsFree fields name → is_free fields name ≡ true
so_free fields name h = rw (named_so name h.named, none_has fields name h.differs) refl

pub not_free : (fields : List Field) (name : List ℕ) → is_free fields name ≡ false → IsFree fields name → ⊥
not_free fields name h free = let k : true ≡ false = sym (so_free fields name free) ∙ h in absurd cc
