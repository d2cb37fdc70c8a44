-- What is a name, as a test and as a fact.
use Rattle.std.proofs.Common.{◌≡◌, ℕ, List, Option, Some, None, true, refl}
use Rattle.std.specs.Prelude.{if◌then◌else◌, Result, Ok, Err, IfOk}
use Rattle.ds_value.specs.declared.memory.NoMemory.{NoMemory}
use Rattle.std.specs.Option.{SomeIff}
use Rattle.std.proofs.lemmas.List.Sums.{AllPass-from_list_all, list_all-from_AllPass}
use Rattle.std.proofs.lemmas.Bool.{leb-true, le-leb, and_parts, and_from, false_from_ne_true}
use Rattle.ds_value.specs.Names.{IsName, is_name_byte}
use Rattle.ds_schema.specs.ColumnReading.{is_name}

pub name_tested : (bytes : List ℕ) → IsName bytes → is_name bytes ≡ true
name_tested bytes n = and_from _ _ (le-leb _ _ n.some) (and_from _ _ (le-leb _ _ n.short) (list_all-from_AllPass is_name_byte bytes n.each))

pub tested_name : (bytes : List ℕ) → is_name bytes ≡ true → IsName bytes
tested_name bytes t =
    let a = and_parts _ _ t in
    let b = and_parts _ _ a.1 in
    record { some = leb-true _ _ a.0; short = leb-true _ _ b.0; each = AllPass-from_list_all is_name_byte bytes b.1 }

pub name_found : (name : Option (List ℕ)) (bytes : List ℕ) → SomeIff name (IsName bytes) bytes → name ≡ (if is_name bytes then Some bytes else None)
name_found None bytes s = rw (false_from_ne_true (is_name bytes) (λ e. s (tested_name bytes e))) refl
name_found (Some n) bytes s = rw (name_tested bytes s.0, s.1) refl

pub found_name : (r : Result (Option (List ℕ)) NoMemory) (bytes : List ℕ) → IfOk r (λ name. SomeIff name (IsName bytes) bytes) → IfOk r (λ name. name ≡ (if is_name bytes then Some bytes else None))
found_name (Ok name) bytes s = name_found name bytes s
found_name (Err e) bytes s = tt
