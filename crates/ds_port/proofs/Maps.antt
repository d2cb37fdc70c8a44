-- A map of files gives what was put into it last.
use Rattle.std.proofs.Common.{◌≡◌, ◌≢◌, ℕ, Bool, true, false, cond, List, refl, ap, ◌∙◌}
use Rattle.std.specs.Prelude.{Some, None}
use Rattle.std.specs.Ordering.{nat_cmp, eq_by_cmp, is_eq}
use Rattle.std.specs.declared.cmp.Ordering.{Ordering}
use Rattle.std.specs.declared.cmp.Ordering.TheVariants.{Less, Equal, Greater}
use Rattle.std.specs.Cmp.{eq_by_cmp_equiv}
use Rattle.std.specs.Cmp.Lexicographic.{slice_cmp, nat_list_cmp_total}
use Rattle.std.specs.FinMap.{get-insert, get-empty}
use Rattle.std.proofs.lemmas.Map.Lookups.{exact_bytes}
use Rattle.ds_port.specs.FileMap.{FileMap, file_at, with_file, no_files, MapLaws}

abbrev same_name : List ℕ → List ℕ → Bool
same_name q k = eq_by_cmp (slice_cmp nat_cmp) q k

after_put : (files : FileMap) (name bytes q : List ℕ) → file_at (with_file files name bytes) q ≡ cond (same_name q name) (Some bytes) (file_at files q)
after_put files name bytes q = get-insert nat_list_cmp_total files name bytes q

equal_names : (q k : List ℕ) (r : Ordering) → slice_cmp nat_cmp q k ≡ r → is_eq r ≡ true → q ≡ k
equal_names q k Less is e = cc
equal_names q k Equal is e = exact_bytes q k is
equal_names q k Greater is e = cc

by_test : (files : FileMap) (name bytes q : List ℕ) (b : Bool) → same_name q name ≡ b → q ≢ name → file_at (with_file files name bytes) q ≡ file_at files q
by_test files name bytes q true is other = absurd (other (equal_names q name (slice_cmp nat_cmp q name) refl is))
by_test files name bytes q false is other = after_put files name bytes q ∙ ap (λ b. cond b (Some bytes) (file_at files q)) is

pub put_changes_no_other : (files : FileMap) (name bytes other : List ℕ) → other ≢ name → file_at (with_file files name bytes) other ≡ file_at files other
put_changes_no_other files name bytes other differs = by_test files name bytes other (same_name other name) refl differs

pub put_is_found : (files : FileMap) (name bytes : List ℕ) → file_at (with_file files name bytes) name ≡ Some bytes
put_is_found files name bytes = after_put files name bytes name ∙ ap (λ b. cond b (Some bytes) (file_at files name)) ((eq_by_cmp_equiv nat_list_cmp_total).refl name)

pub none_at_first : (name : List ℕ) → file_at no_files name ≡ None
none_at_first name = get-empty (slice_cmp nat_cmp) name

pub map_laws : MapLaws
map_laws = record { none = none_at_first; put = put_is_found; others = put_changes_no_other }
