-- The first file of a list under a name.
use Rattle.std.proofs.Common.{◌≡◌, ℕ, suc, ◌+◌, ◌<◌, ◌≤◌, length, drop, get_or, add-one, drop-cons, List, ◌∷◌, sym, ap, ◌∙◌}
use Rattle.std.specs.Prelude.{Some, None}
use Rattle.std.proofs.lemmas.List.{drop_all}
use Rattle.ds_port.specs.FileMap.{file_at, files_of_list}
use Rattle.ds_port.proofs.Maps.{none_at_first, put_is_found, put_changes_no_other}

next : (files : List (List ℕ × List ℕ)) (i : ℕ) (item : List ℕ × List ℕ) → i < length files → item ≡ get_or files i item → drop i files ≡ item ∷ drop (i + 1) files
next files i item inside is = rw (add-one) (drop-cons files i item inside ∙ ap (λ e. e ∷ drop (suc i) files) (sym is))

pub found_here : (files : List (List ℕ × List ℕ)) (i : ℕ) (item : List ℕ × List ℕ) (name : List ℕ) → i < length files → item ≡ get_or files i item → item.0 ≡ name → file_at (files_of_list (drop i files)) name ≡ Some item.1
found_here files i item name inside is same = ap (λ l. file_at (files_of_list l) name) (next files i item inside is) ∙ ap (λ n. file_at (files_of_list (item ∷ drop (i + 1) files)) n) (sym same) ∙ put_is_found (files_of_list (drop (i + 1) files)) item.0 item.1

pub not_here : (files : List (List ℕ × List ℕ)) (i : ℕ) (item : List ℕ × List ℕ) (name : List ℕ) → i < length files → item ≡ get_or files i item → (item.0 ≡ name → ⊥) → file_at (files_of_list (drop i files)) name ≡ file_at (files_of_list (drop (i + 1) files)) name
not_here files i item name inside is other = ap (λ l. file_at (files_of_list l) name) (next files i item inside is) ∙ put_changes_no_other (files_of_list (drop (i + 1) files)) item.0 item.1 name (λ e. other (sym e))

pub none_left : (files : List (List ℕ × List ℕ)) (i : ℕ) (name : List ℕ) → length files ≤ i → file_at (files_of_list (drop i files)) name ≡ None
none_left files i name past = ap (λ l. file_at (files_of_list l) name) (drop_all i files past) ∙ none_at_first name
