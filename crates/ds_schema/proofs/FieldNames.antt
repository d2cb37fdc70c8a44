-- A field's name is a name.
use Rattle.std.proofs.Common.{◌≡◌, ◌≤◌, ℕ, List, [], ◌∷◌, true, length, arith, refl}
use Rattle.std.specs.Prelude.{◌&&◌, nat_le}
use Rattle.std.specs.List.{list_all}
use Rattle.std.specs.Cmp.{first_so, second_so}
use Rattle.std.proofs.lemmas.Bool.{leb-true}
use Rattle.std.proofs.lemmas.Bool.Decides.{nat_tests}
use Rattle.std.proofs.lemmas.List.Sums.{AllPass-from_list_all}
use Rattle.ds_value.specs.Names.{IsName, is_name_byte}
use Rattle.ds_lex.specs.Pieces.{begins_with, opens_word, is_opt_byte}
use Rattle.ds_schema.specs.Schemas.{IsFieldName}
use Rattle.ds_schema.specs.SchemaReading.{is_field_name}

pub field_name : (bytes : List ℕ) → is_field_name bytes ≡ true → IsFieldName bytes
field_name bytes h =
    let rest = second_so (nat_le (length bytes) 64) (begins_with opens_word bytes && list_all is_opt_byte bytes) h in
    record {
      short = leb-true (length bytes) 64 (first_so (nat_le (length bytes) 64) (begins_with opens_word bytes && list_all is_opt_byte bytes) h);
      begun = first_so (begins_with opens_word bytes) (list_all is_opt_byte bytes) rest;
      each = second_so (begins_with opens_word bytes) (list_all is_opt_byte bytes) rest;
    }

name_byte : (b : ℕ) → is_opt_byte b ≡ true → is_name_byte b ≡ true
name_byte b h = grind (arith, nat_tests)

name_bytes : (bytes : List ℕ) → list_all is_opt_byte bytes ≡ true → list_all is_name_byte bytes ≡ true
name_bytes [] h = refl
name_bytes (b ∷ bytes) h = rw (name_byte b (first_so (is_opt_byte b) (list_all is_opt_byte bytes) h)) (name_bytes bytes (second_so (is_opt_byte b) (list_all is_opt_byte bytes) h))

not_empty : (bytes : List ℕ) → begins_with opens_word bytes ≡ true → 1 ≤ length bytes
not_empty [] h = absurd cc
not_empty (b ∷ bytes) h = omega arith

pub name_of_field : (bytes : List ℕ) → IsFieldName bytes → IsName bytes
name_of_field bytes h = record {
  some = not_empty bytes h.begun;
  short = omega (arith, h.short);
  each = AllPass-from_list_all is_name_byte bytes (name_bytes bytes h.each);
}
