-- Sorts, one row for each key, and sources keep what their states say.
use Rattle.std.proofs.Common.{Bool, IsPermutation, List, None, Option, Some, ap, append-nil, arith, cond, false, flat_map, get_or, inl, length, map, mod-lt, refl, subst, suc, sym, true, ℕ, ◌≡◌, ◌≢◌, ◌<◌, ◌∷◌, ◌++◌, ◌∙◌, ◌==◌, []}
use Rattle.std.proofs.lemmas.Bool.Decides.{nat_tests}
use Rattle.std.proofs.lemmas.List.{length-map}
use Rattle.std.proofs.lemmas.List.Sorted.{IsPermutation-refl}
use Rattle.std.specs.List.{AllByRecursion, range_with_len}
use Rattle.std.specs.Ordering.{is_lt}
use Rattle.ds_schema.specs.Rows.{cols, row_cmp}
use Rattle.ds_schema.specs.declared.key.Key.{Key}
use Rattle.flow_graph.specs.Parts.{Agree}
use Rattle.ds_place.specs.Places.{hash_number, modulus_number}
use Rattle.flow_graph.specs.Runs.{arranged_if}
use Rattle.flow_graph.specs.Shapes.{DeclaredAt}
use Rattle.flow_graph.specs.States.{AgreeIf, Common, Holds, LiesAt}
use Rattle.ds_place.specs.declared.place.Place.{Place}
use Rattle.ds_place.specs.declared.place.Place.TheVariants.{Hash, Modulus}
use Rattle.flow_graph.specs.declared.state.State.{State}
use Rattle.flow_derive.specs.Derive.{agrees_in, declared_state, read_state, solo_state, sorted_state}
use Rattle.op_base.specs.Columns.{Lies, Row}
use Rattle.op_base.specs.Keyed.{arranged, by_key}
use Rattle.op_base.specs.Lists.{IsArranged, joined}
use Rattle.op_base.specs.Meanings.{Segment, one_row}
use Rattle.flow_graph.proofs.PartLaws.{agree_bag, agree_through, placed_agree}
use Rattle.flow_graph.proofs.StateLaws.{each_part, each_sorted, holds_plain, lies_map, map_shift, modulus_below, plain_holds, sort_common}
use Rattle.flow_rules.proofs.NeedTypes.{AgreesIn, NotEntire, SortedBy}
use Rattle.flow_rules.proofs.RouteOps.{all_any, any_sorted}
use Rattle.op_base.proofs.ColumnLaws.{lies_true}
use Rattle.op_base.proofs.KeyLaws.{sub_by_key}
use Rattle.op_base.proofs.KeySorts.{one_nothing, one_row_all, one_selects, one_sorted}
use Rattle.op_base.proofs.RowLists.{by_key_all}
use Rattle.flow_graph.specs.declared.state.Spot.TheVariants as spot

pub solo_read : (rows : List Row) → Holds solo_state (rows ∷ []) rows
solo_read rows = (record { bag = subst (λ xs. IsPermutation xs rows) (sym (append-nil rows)) (Rattle.std.proofs.lemmas.List.Sorted.IsPermutation-refl rows); agree = λ v. inl (refl, tt); sorted = ((any rows, tt), any rows) }, refl)
  where
    any : (xs : List Row) → IsArranged (row_cmp []) xs
    any [] = tt
    any (x ∷ xs) = (all xs, any xs)
      where
        all : (ys : List Row) → AllByRecursion (λ y. is_lt (row_cmp [] y x) ≡ false) ys
        all [] = tt
        all (y ∷ ys) = (refl, all ys)

pub sorted_holds : (sorts : Option (List Key)) (s : State) (parts : List (List Row)) (whole : List Row) → s.place ≢ spot.Entire → Holds s parts whole → Holds (sorted_state sorts s) (map (arranged_if sorts) parts) (arranged_if sorts whole)
sorted_holds None s parts whole e h = subst (λ ps. Holds s ps whole) (sym (Rattle.std.proofs.lemmas.List.map-id parts)) h
sorted_holds (Some keys) s parts whole e h =
    let k = holds_plain s.place s parts whole e h in
    plain_holds s.place (sorted_state (Some keys) s) (map (arranged keys) parts) (arranged keys whole) e (sort_common keys s parts whole k.0) (lies_map s.place (arranged keys) (by_key_all keys (λ same. same) (λ P xs a. a)) parts k.1)

-- remdup
pub remdup_holds : (last : Bool) (keys : List Key) (s : State) (parts : List (List Row)) (whole : List Row) → NotEntire s → AgreesIn keys s → SortedBy keys s → Holds s parts whole →
    Holds (record { agree = cond (agrees_in (cols keys) s.agree) s.agree None; place = s.place; sort = s.sort }) (map (by_key keys (one_row last)) parts) (by_key keys (one_row last) whole)
remdup_holds last keys s parts whole e a b h =
    plain_holds s.place (record { agree = cond (agrees_in (cols keys) s.agree) s.agree None; place = s.place; sort = s.sort }) (map f parts) (f whole) e (both s.agree refl) (lies_map s.place f (by_key_all keys (one_row last) (one_row_all last)) parts c.1)
  where
    f : List Row → List Row
    f = by_key keys (one_row last)

    c : Common s parts whole × LiesAt s.place parts
    c = holds_plain s.place s parts whole e h

    up : (xs : List Row) → IsArranged (row_cmp s.sort) (f xs)
    up xs = subst (λ ks. IsArranged (row_cmp ks) (f xs)) (sym b.1) (one_sorted last keys b.0 xs)

    both : (o : Option (List ℕ)) → s.agree ≡ o → Common (record { agree = cond (agrees_in (cols keys) s.agree) s.agree None; place = s.place; sort = s.sort }) (map f parts) (f whole)
    both None g = let q : agrees_in (cols keys) None ≡ true = subst (λ x. agrees_in (cols keys) x ≡ true) g a in cc
    both (Some G) g =
        let l : Lies G (cols keys) = lies_true G (cols keys) (subst (λ x. agrees_in (cols keys) x ≡ true) g a) in
        let k : Agree G (map f parts) (f whole) = agree_through G f (one_nothing last keys) (sub_by_key keys G (one_row last) l (one_selects last G)) parts whole (subst (λ x. AgreeIf x parts whole) g c.0.agree) in
        record {
          bag = agree_bag G (map f parts) (f whole) k;
          agree = subst (λ x. AgreeIf x (map f parts) (f whole)) (sym (ap (λ t. cond t s.agree None) a ∙ g)) k;
          sorted = (each_sorted _ _ f (λ xs u. up xs) parts c.0.sorted.0, up whole);
        }

-- import
pub import_holds : (rows : List Row) (degree : ℕ) → degree ≡ 1 → Holds solo_state (map (λ p. rows) (range_with_len 0 degree)) rows
import_holds rows degree e = subst (λ n. Holds solo_state (map (λ p. rows) (range_with_len 0 n)) rows) (sym e) (solo_read rows)

-- dsread
segment_rows : List Segment → List (List Row)
segment_rows segments = map (λ (s : Segment). s.rows) segments

flat_segments : {Y : Type 0} (f : Segment → List Y) (segments : List Segment) → flat_map f segments ≡ joined (map f segments)
flat_segments f [] = refl
flat_segments f (s ∷ segments) = ap (λ ys. f s ++ ys) (flat_segments f segments)

read_many : (declared : Option Place) (parts : List (List Row)) → 0 < length parts → DeclaredAt declared parts → Holds (declared_state declared) parts (joined parts)
read_many (Some (Hash K)) parts l d =
    (record { bag = IsPermutation-refl (joined parts); agree = placed_agree K (hash_number (length parts)) parts (λ v. mod-lt _ l) d; sorted = (all_any parts, any_sorted (joined parts)) }, d)
read_many (Some (Modulus c)) parts l d =
    (record { bag = IsPermutation-refl (joined parts); agree = placed_agree (c ∷ []) (modulus_number (length parts)) parts (λ v. modulus_below (length parts) v l) d; sorted = (all_any parts, any_sorted (joined parts)) }, d)
read_many None parts l d = (record { bag = IsPermutation-refl (joined parts); agree = tt; sorted = (all_any parts, any_sorted (joined parts)) }, tt)

read_parts : (declared : Option Place) (segments : List Segment) → 0 < length segments → DeclaredAt declared (map (λ (u : Segment). u.rows) segments) → Holds (read_state (length segments) declared) (map (λ (u : Segment). u.rows) segments) (joined (map (λ (u : Segment). u.rows) segments))
read_parts declared [] l d = absurd (omega arith)
read_parts declared (s ∷ []) l d = subst (λ xs. Holds (read_state 1 declared) (s.rows ∷ []) xs) (sym (append-nil s.rows)) (solo_read s.rows)
read_parts declared (s ∷ (t ∷ segments)) l d = subst (λ b. Holds (cond b solo_state (declared_state declared)) parts (joined parts)) (sym (many (length segments))) (read_many declared parts (omega arith) d)
  where
    parts : List (List Row)
    parts = map (λ (u : Segment). u.rows) (s ∷ (t ∷ segments))

    many : (n : ℕ) → (suc (suc n) == 1) ≡ false
    many n = grind (arith, nat_tests)

pub read_holds : (declared : Option Place) (segments : List Segment) (degree : ℕ) → degree ≡ length segments → 0 < length segments → DeclaredAt declared (map (λ (u : Segment). u.rows) segments) →
    Holds (read_state (length segments) declared) (map (λ p. get_or (map (λ (u : Segment). u.rows) segments) p []) (range_with_len 0 degree)) (flat_map (λ (u : Segment). u.rows) segments)
read_holds declared segments degree e l d =
    let parts = map (λ (u : Segment). u.rows) segments in
    let len : degree ≡ length parts = e ∙ sym (Rattle.std.proofs.lemmas.List.length-map segments (λ (u : Segment). u.rows)) in
    subst (λ n. Holds (read_state (length segments) declared) (map (λ p. get_or parts p []) (range_with_len 0 n)) (flat_map (λ (u : Segment). u.rows) segments)) (sym len)
    (subst (λ ps. Holds (read_state (length segments) declared) ps (flat_map (λ (u : Segment). u.rows) segments)) (sym (each_part (λ (rows : List Row). rows) parts ∙ Rattle.std.proofs.lemmas.List.map-id parts))
    (subst (Holds (read_state (length segments) declared) parts) (sym (flat_segments (λ (u : Segment). u.rows) segments)) (read_parts declared segments l d)))

each_any : {X : Type 0} (parts : List (List X)) → map (λ p. get_or parts p []) (range_with_len 0 (length parts)) ≡ parts
each_any [] = refl
each_any (xs ∷ parts) = ap (λ ys. xs ∷ ys) (map_shift (λ p. get_or (xs ∷ parts) p []) 0 (length parts) ∙ each_any parts)

pub read_faults : (segments : List Segment) (degree : ℕ) → degree ≡ length segments → joined (map (λ p. get_or (map (λ (u : Segment). u.faults) segments) p []) (range_with_len 0 degree)) ≡ flat_map (λ (u : Segment). u.faults) segments
read_faults segments degree e =
    let parts = map (λ (u : Segment). u.faults) segments in
    let len : degree ≡ length parts = e ∙ sym (Rattle.std.proofs.lemmas.List.length-map segments (λ (u : Segment). u.faults)) in
    ap (λ n. joined (map (λ p. get_or parts p []) (range_with_len 0 n))) len ∙ ap joined (each_any parts) ∙ sym (flat_segments (λ (u : Segment). u.faults) segments)
