-- What loops over lists of columns, keys and states add, step by step.
use Rattle.std.proofs.Common.{Bool, List, None, Option, Some, ap, ap₂, arith, cond, drop, false, get_or, length, not, refl, suc, sym, true, zero, ℕ, ◌&&◌, ◌+◌, ◌<◌, ◌≤◌, ◌==◌, ◌≡◌, ◌∷◌, ◌++◌, ◌∙◌, [], add-one, append-nil, append_assoc}
use Rattle.std.proofs.Math.Seq.{drop-cons}
use Rattle.std.proofs.lemmas.List.{drop_all}
use Rattle.ds_schema.specs.Rows.{cols}
use Rattle.ds_schema.specs.declared.key.Key.{Key}
use Rattle.op_base.specs.Columns.{Pairs, column_in, is_in, pairs_of}
use Rattle.op_base.specs.Keyed.{get_keys, without}
use Rattle.op_base.specs.RowOperators.{not_set}
use Rattle.flow_graph.specs.declared.state.Spot.{Spot}
use Rattle.flow_graph.specs.declared.state.State.{State}
use Rattle.flow_derive.specs.Derive.{agree_sets, all_agree_in, all_at_place, agrees_in, both_sets, carried, carried_place, carried_sort, first_keys, key_if, key_places, places, same_list, same_place, with_column}

pub from_place : {X : Type 0} (xs : List X) (i : ℕ) (d : X) → i < length xs → drop i xs ≡ get_or xs i d ∷ drop (i + 1) xs
from_place xs i d h = rw add-one (drop-cons xs i d h)

pub keys_there : (keys : List (List Key)) (i : ℕ) (d : List Key) → i < length keys → get_or keys i d ≡ get_keys keys i
keys_there [] i d h = absurd (omega arith)
keys_there (K ∷ keys) zero d h = refl
keys_there (K ∷ keys) (suc i) d h = keys_there keys i d (omega arith)

pub keys_beyond : (keys : List (List Key)) (i : ℕ) → length keys ≤ i → get_keys keys i ≡ []
keys_beyond [] i h = refl
keys_beyond (K ∷ keys) zero h = absurd (omega arith)
keys_beyond (K ∷ keys) (suc i) h = keys_beyond keys i (omega arith)

pub pairs_step : (cs ds : List ℕ) (i : ℕ) → i < length cs → i < length ds → pairs_of (drop i cs) (drop i ds) ≡ (get_or cs i 0, get_or ds i 0) ∷ pairs_of (drop (i + 1) cs) (drop (i + 1) ds)
pairs_step cs ds i h k = ap₂ pairs_of (from_place cs i 0 h) (from_place ds i 0 k)

pairs_none : (cs : List ℕ) → pairs_of cs [] ≡ []
pairs_none [] = refl
pairs_none (c ∷ cs) = refl

pub pairs_end : (cs ds : List ℕ) (i : ℕ) → i ≡ length ds → pairs_of (drop i cs) (drop i ds) ≡ []
pairs_end cs ds i e = ap (pairs_of (drop i cs)) (drop_all i ds (omega arith)) ∙ pairs_none (drop i cs)

pub column_step : (m : Pairs) (c : ℕ) (i : ℕ) (d : ℕ × ℕ) → i < length m → column_in (drop i m) c ≡ cond ((get_or m i d).0 == c) (Some ((get_or m i d).1)) (column_in (drop (i + 1) m) c)
column_step m c i d h = ap (λ es. column_in es c) (from_place m i d h)

-- a list in front of one that there may be
abbrev pub onto : List ℕ → Option (List ℕ) → Option (List ℕ)
onto xs None = None
onto xs (Some ys) = Some (xs ++ ys)

onto_column : (xs : List ℕ) (d : ℕ) (ys : Option (List ℕ)) → onto xs (with_column (Some d) ys) ≡ onto (xs ++ d ∷ []) ys
onto_column xs d None = refl
onto_column xs d (Some ys) = ap Some (sym (append_assoc xs (d ∷ []) ys))

pub carried_start : (ys : Option (List ℕ)) → onto [] ys ≡ ys
carried_start None = refl
carried_start (Some ys) = refl

carried_from : (m : Pairs) (cs : List ℕ) (i : ℕ) → i < length cs → carried m (drop i cs) ≡ with_column (column_in m (get_or cs i 0)) (carried m (drop (i + 1) cs))
carried_from m cs i h = ap (carried m) (from_place cs i 0 h)

pub carried_more : (m : Pairs) (cs xs : List ℕ) (i d : ℕ) → i < length cs → column_in m (get_or cs i 0) ≡ Some d → onto xs (carried m (drop i cs)) ≡ onto (xs ++ d ∷ []) (carried m (drop (i + 1) cs))
carried_more m cs xs i d h e = ap (onto xs) (carried_from m cs i h ∙ ap (λ o. with_column o (carried m (drop (i + 1) cs))) e) ∙ onto_column xs d (carried m (drop (i + 1) cs))

pub carried_none : (m : Pairs) (cs xs : List ℕ) (i : ℕ) → i < length cs → column_in m (get_or cs i 0) ≡ None → onto xs (carried m (drop i cs)) ≡ None
carried_none m cs xs i h e = ap (onto xs) (carried_from m cs i h ∙ ap (λ o. with_column o (carried m (drop (i + 1) cs))) e)

pub carried_end : (xs : List ℕ) → onto xs (Some []) ≡ Some xs
carried_end xs = ap Some (append-nil xs)

-- keys
pub first_step : (keys : List Key) (n i : ℕ) (d : Key) → i < length keys → first_keys n (drop i keys) ≡ record { col = n; desc = (get_or keys i d).desc } ∷ first_keys (suc n) (drop (i + 1) keys)
first_step keys n i d h = ap (first_keys n) (from_place keys i d h)

pub sort_from : (m : Pairs) (keys : List Key) (i : ℕ) (d : Key) → i < length keys → carried_sort m (drop i keys) ≡ key_if (column_in m (get_or keys i d).col) (get_or keys i d).desc (carried_sort m (drop (i + 1) keys))
sort_from m keys i d h = ap (carried_sort m) (from_place keys i d h)

pub without_step : (keys old : List Key) (i : ℕ) (d : Key) → i < length old → without keys (drop i old) ≡ cond (not (is_in (get_or old i d).col (cols keys))) (get_or old i d ∷ without keys (drop (i + 1) old)) (without keys (drop (i + 1) old))
without_step keys old i d h = ap (without keys) (from_place old i d h)

-- lists of columns
pub list_step : (cs ds : List ℕ) (i : ℕ) → i < length cs → i < length ds → same_list (drop i cs) (drop i ds) ≡ ((get_or cs i 0 == get_or ds i 0) && same_list (drop (i + 1) cs) (drop (i + 1) ds))
list_step cs ds i h k = ap₂ same_list (from_place cs i 0 h) (from_place ds i 0 k)

-- lists of any length
pub list_apart : (cs ds : List ℕ) → (length cs ≡ length ds → ⊥) → same_list cs ds ≡ false
list_apart [] [] h = absurd (h refl)
list_apart [] (d ∷ ds) h = refl
list_apart (c ∷ cs) [] h = refl
list_apart (c ∷ cs) (d ∷ ds) h = ap (λ b. (c == d) && b) (list_apart cs ds (λ e. h (omega arith))) ∙ and_false (c == d)
  where
    and_false : (b : Bool) → (b && false) ≡ false
    and_false true = refl
    and_false false = refl

-- places and states
pub at_place_step : (p : Spot) (qs : List Spot) (i : ℕ) (d : Spot) → i < length qs → all_at_place p (drop i qs) ≡ (same_place (get_or qs i d) p && all_at_place p (drop (i + 1) qs))
at_place_step p qs i d h = ap (all_at_place p) (from_place qs i d h)

pub places_step : (states : List State) (i : ℕ) (d : State) → i < length states → places (drop i states) ≡ (get_or states i d).place ∷ places (drop (i + 1) states)
places_step states i d h = ap places (from_place states i d h)

pub key_places_step : (keys : List (List Key)) (H : List Key) (states : List State) (i : ℕ) (k : List Key) (d : State) → i < length keys → i < length states →
    key_places (drop i keys) H (drop i states) ≡ carried_place (pairs_of (cols (get_or keys i k)) (cols H)) (get_or states i d).place ∷ key_places (drop (i + 1) keys) H (drop (i + 1) states)
key_places_step keys H states i k d h g = ap₂ (λ ks ss. key_places ks H ss) (from_place keys i k h) (from_place states i d g)

key_places_none : (keys : List (List Key)) (H : List Key) → key_places keys H [] ≡ []
key_places_none [] H = refl
key_places_none (k ∷ keys) H = refl

pub key_places_end : (keys : List (List Key)) (H : List Key) (states : List State) (i : ℕ) → i ≡ length states → key_places (drop i keys) H (drop i states) ≡ []
key_places_end keys H states i e = ap (key_places (drop i keys) H) (drop_all i states (omega arith)) ∙ key_places_none (drop i keys) H

pub agree_step : (keys : List (List Key)) (states : List State) (i : ℕ) (k : List Key) (d : State) → i < length keys → i < length states →
    all_agree_in (drop i keys) (drop i states) ≡ (agrees_in (cols (get_or keys i k)) (get_or states i d).agree && all_agree_in (drop (i + 1) keys) (drop (i + 1) states))
agree_step keys states i k d h g = ap₂ all_agree_in (from_place keys i k h) (from_place states i d g)

agree_none : (keys : List (List Key)) → all_agree_in keys [] ≡ true
agree_none [] = refl
agree_none (k ∷ keys) = refl

pub agree_end : (keys : List (List Key)) (states : List State) (i : ℕ) → i ≡ length states → all_agree_in (drop i keys) (drop i states) ≡ true
agree_end keys states i e = ap (all_agree_in (drop i keys)) (drop_all i states (omega arith)) ∙ agree_none (drop i keys)

sets_from : (states : List State) (i : ℕ) (d : State) → i < length states → agree_sets (drop i states) ≡ both_sets (get_or states i d).agree (agree_sets (drop (i + 1) states))
sets_from states i d h = ap agree_sets (from_place states i d h)

onto_sets : (xs G : List ℕ) (U : Option (List ℕ)) → onto xs (both_sets (Some G) U) ≡ onto (xs ++ G) U
onto_sets xs G None = refl
onto_sets xs G (Some U) = ap Some (sym (append_assoc xs G U))

pub sets_more : (states : List State) (xs G : List ℕ) (i : ℕ) (d : State) → i < length states → (get_or states i d).agree ≡ Some G → onto xs (agree_sets (drop i states)) ≡ onto (xs ++ G) (agree_sets (drop (i + 1) states))
sets_more states xs G i d h e = ap (onto xs) (sets_from states i d h ∙ ap (λ o. both_sets o (agree_sets (drop (i + 1) states))) e) ∙ onto_sets xs G (agree_sets (drop (i + 1) states))

pub sets_none : (states : List State) (xs : List ℕ) (i : ℕ) (d : State) → i < length states → (get_or states i d).agree ≡ None → onto xs (agree_sets (drop i states)) ≡ None
sets_none states xs i d h e = ap (onto xs) (sets_from states i d h ∙ ap (λ o. both_sets o (agree_sets (drop (i + 1) states))) e)

pub not_set_step : (targets cs : List ℕ) (i : ℕ) → i < length cs → not_set targets (drop i cs) ≡ cond (cond (is_in (get_or cs i 0) targets) false true) (get_or cs i 0 ∷ not_set targets (drop (i + 1) cs)) (not_set targets (drop (i + 1) cs))
not_set_step targets cs i h = ap (not_set targets) (from_place cs i 0 h)
