-- Operators that work row by row, and lookup, keep what their states say.
use Rattle.std.proofs.Common.{Bool, IsPermutation, List, None, Option, Some, ap, ap₂, arith, cond, false, flat_map, get_or, inl, inr, length, map, refl, subst, suc, sym, true, zero, ℕ, ◌≡◌, ◌≢◌, ◌+◌, ◌<◌, ◌≤◌, ◌∷◌, ◌++◌, ◌∙◌, ◌==◌, []}
use Rattle.std.proofs.lemmas.Bool.Decides.{nat_tests}
use Rattle.std.proofs.lemmas.List.{length-map}
use Rattle.std.specs.List.{AllByRecursion, range_with_len}
use Rattle.ds_schema.specs.Rows.{cols, has, row_cmp, sub, val, ways}
use Rattle.ds_schema.specs.declared.key.Key.{Key}
use Rattle.ds_value.specs.declared.value.Value.{Value}
use Rattle.flow_graph.specs.Forms.{looked_passing}
use Rattle.flow_graph.specs.Shapes
use Rattle.flow_graph.specs.Parts.{Agree, PlacedFrom}
use Rattle.ds_place.specs.Places.{hash_number, modulus_number}
use Rattle.flow_graph.specs.Shapes.{Carries, Wide}
use Rattle.flow_graph.specs.States.{AgreeIf, Common, Holds, HoldsIn, LiesAt}
use Rattle.ds_place.specs.declared.place.Place.TheVariants.{Hash, Modulus}
use Rattle.flow_graph.specs.declared.state.Spot.{Spot}
use Rattle.flow_graph.specs.declared.state.State.{State}
use Rattle.flow_derive.specs.Derive.{carried, carried_agree, carried_place, carried_sort, kept_place, passed_state, hashed_if, key_if, modulus_if}
use Rattle.op_base.specs.Columns.{Passing, everything, only, Lies, Pairs, Row, all_columns, column_in, no_row, pairs_of}
use Rattle.op_base.specs.Lists.{IsArranged, OneHolds, joined}
use Rattle.op_base.specs.Meanings.{Looking, if_continues, if_rejected, looked_fault, looked_row}
use Rattle.op_base.specs.declared.fault.Fault.{Fault}
use Rattle.op_base.specs.declared.missing.Missing.{Missing}
use Rattle.flow_graph.proofs.Holders.{one_at}
use Rattle.flow_graph.proofs.PartLaws.{AtMostOne, Passes, parts_all, rows_agree, rows_bag, rows_placed, rows_sorted}
use Rattle.flow_graph.proofs.PassingColumns.{carries_same}
use Rattle.flow_graph.proofs.StateLaws.{each_part, each_sorted, holds_plain, plain_holds}
use Rattle.flow_rules.proofs.MeetLaws.{agree_in, carried_plain, known_key_place}
use Rattle.flow_rules.proofs.NeedTypes.{AgreesIn, NotEntire, ReferenceAt, key_place}
use Rattle.flow_rules.proofs.Passing.{IsKnown, carried_val, column_val, num, part_at, placed_by_key}
use Rattle.op_base.proofs.All.{all_map, flat_agree_all}
use Rattle.op_base.proofs.ColumnLaws.{length-range_with, lies_self, picked}
use Rattle.op_base.proofs.KeySorts.{arranged_first, short_arranged}
use Rattle.op_base.proofs.Orders.{has_val}
use Rattle.flow_graph.specs.declared.state.Spot.TheVariants as spot
use Rattle.op_base.specs.declared.missing.Missing.TheVariants as missing

-- a rule on rows of one width, and nothing of others
guarded : ℕ → (Row → List Row) → Row → List Row
guarded w g r = cond (length r == w) (g r) []

guard_same : (w : ℕ) (g : Row → List Row) (xs : List Row) → AllByRecursion (Wide w) xs → flat_map (guarded w g) xs ≡ flat_map g xs
unfolding guarded
guard_same w g [] h = refl
guard_same w g (r ∷ xs) h = ap₂ (λ b ys. cond b (g r) [] ++ ys) (yes (length r) h.0) (guard_same w g xs h.1)
  where
    yes : (n : ℕ) → n ≡ w → (n == w) ≡ true
    yes n e = grind (arith, nat_tests)

guard_parts : (w : ℕ) (g : Row → List Row) (parts : List (List Row)) → AllByRecursion (AllByRecursion (Wide w)) parts → map (flat_map (guarded w g)) parts ≡ map (flat_map g) parts
guard_parts w g [] h = refl
guard_parts w g (rows ∷ parts) h = ap₂ (λ a b. a ∷ b) (guard_same w g rows h.0) (guard_parts w g parts h.1)

guard_all : (w : ℕ) (g : Row → List Row) (P : Row → Row → Type 0) → ((r : Row) → Wide w r → AllByRecursion (P r) (g r)) → (r : Row) → AllByRecursion (P r) (guarded w g r)
unfolding guarded
guard_all w g P h r = go (length r == w) refl
  where
    go : (b : Bool) → (length r == w) ≡ b → AllByRecursion (P r) (cond b (g r) [])
    go true e = h r (let f : length r ≡ w = grind (arith, nat_tests) in f)
    go false e = tt

guard_one : (w : ℕ) (g : Row → List Row) → ((r : Row) → length (g r) ≤ 1) → AtMostOne (guarded w g)
unfolding guarded
guard_one w g h r R = go (length r == w)
  where
    go : (b : Bool) → IsArranged R (cond b (g r) [])
    go true = short_arranged R (g r) (h r)
    go false = tt

-- the keys that pass are a prefix
sort_split : (m : Pairs) (keys : List Key) → (K : List Key) × (rest : List Key) × (keys ≡ K ++ rest) × (ways K ≡ ways (carried_sort m keys)) × ((r y : Row) → Carries m r y → val (cols (carried_sort m keys)) y ≡ val (cols K) r)
sort_split m [] = ([], [], refl, refl, λ r y h. refl)
sort_split m (k ∷ keys) = go (sort_split m keys) (column_in m k.col) refl
  where
    go : ((K : List Key) × (rest : List Key) × (keys ≡ K ++ rest) × (ways K ≡ ways (carried_sort m keys)) × ((r y : Row) → Carries m r y → val (cols (carried_sort m keys)) y ≡ val (cols K) r)) → (a : Option ℕ) → column_in m k.col ≡ a →
        (K : List Key) × (rest : List Key) × (k ∷ keys ≡ K ++ rest) × (ways K ≡ ways (key_if a k.desc (carried_sort m keys))) × ((r y : Row) → Carries m r y → val (cols (key_if a k.desc (carried_sort m keys))) y ≡ val (cols K) r)
    go s None e = ([], k ∷ keys, refl, refl, λ r y h. refl)
    go s (Some d) e = (k ∷ s.0, s.1, ap (λ ks. k ∷ ks) s.2, ap (λ ds. k.desc ∷ ds) s.3, λ r y h. ap₂ (λ a b. a ∷ b) (column_val m r y k.col d e h) (s.4 r y h))

-- what passes, from rules that carry it
carried_passes : (m : Pairs) (g : Row → List Row) → ((r : Row) → AllByRecursion (Carries m r) (g r)) → (C D : List ℕ) → carried m C ≡ Some D → Passes C D g
carried_passes m g h C D e r = all_map (Carries m r) (λ y. val D y ≡ val C r) (λ y k. carried_val m r y C D e k) (g r) (h r)

rows_lie : (m : Pairs) (g : Row → List Row) → ((r : Row) → AllByRecursion (Carries m r) (g r)) → (p : Spot) (parts : List (List Row)) → LiesAt p parts → LiesAt (carried_place m p) (map (flat_map g) parts)
rows_lie m g h spot.Solo parts l = length-map parts (flat_map g) ∙ l
rows_lie m g h (spot.Placed (Hash C)) parts l = go (carried m C) refl
  where
    go : (a : Option (List ℕ)) → carried m C ≡ a → LiesAt (hashed_if a) (map (flat_map g) parts)
    go None e = tt
    go (Some D) e = subst (λ n. PlacedFrom (λ r. hash_number n (val D r)) 0 (map (flat_map g) parts)) (sym (length-map parts (flat_map g))) (rows_placed C D (hash_number (length parts)) g (carried_passes m g h C D e) 0 parts l)
rows_lie m g h (spot.Placed (Modulus c)) parts l = go (column_in m c) refl
  where
    go : (a : Option ℕ) → column_in m c ≡ a → LiesAt (modulus_if a) (map (flat_map g) parts)
    go None e = tt
    go (Some d) e =
        subst (λ n. PlacedFrom (λ r. modulus_number n (val (d ∷ []) r)) 0 (map (flat_map g) parts)) (sym (length-map parts (flat_map g)))
        (rows_placed (c ∷ []) (d ∷ []) (modulus_number (length parts)) g (λ r. all_map (Carries m r) (λ y. val (d ∷ []) y ≡ val (c ∷ []) r) (λ y k. ap (λ x. x ∷ []) (column_val m r y c d e k)) (g r) (h r)) 0 parts l)
rows_lie m g h spot.Entire parts l = tt
rows_lie m g h spot.None parts l = tt

rows_agree_if : (m : Pairs) (g : Row → List Row) → ((r : Row) → AllByRecursion (Carries m r) (g r)) → (agree : Option (List ℕ)) (parts : List (List Row)) (whole : List Row) → AgreeIf agree parts whole → AgreeIf (carried_agree m agree) (map (flat_map g) parts) (flat_map g whole)
rows_agree_if m g h None parts whole a = tt
rows_agree_if m g h (Some G) parts whole a = go (carried m G) refl
  where
    go : (o : Option (List ℕ)) → carried m G ≡ o → AgreeIf o (map (flat_map g) parts) (flat_map g whole)
    go None e = tt
    go (Some D) e = rows_agree G D g parts whole (carried_passes m g h G D e) a

abbrev carried_state : Pairs → State → State
carried_state m s = record { agree = carried_agree m s.agree; place = carried_place m s.place; sort = carried_sort m s.sort }

plain_rows : (m : Pairs) (g : Row → List Row) → ((r : Row) → AllByRecursion (Carries m r) (g r)) → AtMostOne g → (s : State) (parts : List (List Row)) (whole : List Row) → NotEntire s → Holds s parts whole → Holds (carried_state m s) (map (flat_map g) parts) (flat_map g whole)
plain_rows m g h one s parts whole e holds =
    plain_holds (carried_place m s.place) (carried_state m s) (map (flat_map g) parts) (flat_map g whole) (carried_plain m s.place)
    (record { bag = rows_bag g parts whole k.0.bag; agree = rows_agree_if m g h s.agree parts whole k.0.agree; sorted = (each_sorted _ _ (flat_map g) (λ xs up. sorts xs up) parts k.0.sorted.0, sorts whole k.0.sorted.1) }) (rows_lie m g h s.place parts k.1)
  where
    k : Common s parts whole × LiesAt s.place parts
    k = holds_plain s.place s parts whole e holds

    sorts : (xs : List Row) → IsArranged (row_cmp s.sort) xs → IsArranged (row_cmp (carried_sort m s.sort)) (flat_map g xs)
    sorts xs up =
        let c = sort_split m s.sort in
        rows_sorted (c.0) (carried_sort m s.sort) g c.3 (λ r. all_map (Carries m r) (λ y. val (cols (carried_sort m s.sort)) y ≡ val (cols (c.0)) r) (λ y q. c.4 r y q) (g r) (h r)) one xs
        (arranged_first (c.0) (c.1) xs (subst (λ ks. IsArranged (row_cmp ks) xs) c.2 up))

kept_is : (m : Pairs) (p : Spot) → p ≢ spot.Entire → carried_place m p ≡ kept_place m p
kept_is m spot.Solo e = refl
kept_is m (spot.Placed place) e = refl
kept_is m spot.Entire e = absurd (e refl)
kept_is m spot.None e = refl

-- rows that are handed on as they are
same_val : (C : List ℕ) (g : Row → List Row) → ((r : Row) → AllByRecursion (λ y. y ≡ r) (g r)) → Passes C C g
same_val C g h r = all_map (λ y. y ≡ r) (λ y. val C y ≡ val C r) (λ y e. ap (val C) e) (g r) (h r)

same_lie : (g : Row → List Row) → ((r : Row) → AllByRecursion (λ y. y ≡ r) (g r)) → (p : Spot) (parts : List (List Row)) → LiesAt p parts → LiesAt p (map (flat_map g) parts)
same_lie g h spot.Solo parts l = length-map parts (flat_map g) ∙ l
same_lie g h (spot.Placed (Hash C)) parts l = subst (λ n. PlacedFrom (λ r. hash_number n (val C r)) 0 (map (flat_map g) parts)) (sym (length-map parts (flat_map g))) (rows_placed C C (hash_number (length parts)) g (same_val C g h) 0 parts l)
same_lie g h (spot.Placed (Modulus c)) parts l = subst (λ n. PlacedFrom (λ r. modulus_number n (val (c ∷ []) r)) 0 (map (flat_map g) parts)) (sym (length-map parts (flat_map g))) (rows_placed (c ∷ []) (c ∷ []) (modulus_number (length parts)) g (same_val (c ∷ []) g h) 0 parts l)
same_lie g h spot.Entire parts l = tt
same_lie g h spot.None parts l = tt

same_agree : (g : Row → List Row) → ((r : Row) → AllByRecursion (λ y. y ≡ r) (g r)) → (agree : Option (List ℕ)) (parts : List (List Row)) (whole : List Row) → AgreeIf agree parts whole → AgreeIf agree (map (flat_map g) parts) (flat_map g whole)
same_agree g h None parts whole a = tt
same_agree g h (Some G) parts whole a = rows_agree G G g parts whole (same_val G g h) a

same_rows : (g : Row → List Row) → ((r : Row) → AllByRecursion (λ y. y ≡ r) (g r)) → AtMostOne g → (s : State) (parts : List (List Row)) (whole : List Row) → NotEntire s → Holds s parts whole → Holds s (map (flat_map g) parts) (flat_map g whole)
same_rows g h one s parts whole e holds =
    let k = holds_plain s.place s parts whole e holds in
    plain_holds s.place s (map (flat_map g) parts) (flat_map g whole) e
    (record { bag = rows_bag g parts whole k.0.bag; agree = same_agree g h s.agree parts whole k.0.agree; sorted = (each_sorted _ _ (flat_map g) (λ xs up. rows_sorted s.sort s.sort g refl (same_val (cols s.sort) g h) one xs up) parts k.0.sorted.0, rows_sorted s.sort s.sort g refl (same_val (cols s.sort) g h) one whole k.0.sorted.1) })
    (same_lie g h s.place parts k.1)

passing_rows : (m : Passing) (g : Row → List Row) → ((r : Row) → AllByRecursion (Shapes.Passes m r) (g r)) → AtMostOne g → (s : State) (parts : List (List Row)) (whole : List Row) → NotEntire s → Holds s parts whole → Holds (passed_state m s) (map (flat_map g) parts) (flat_map g whole)
passing_rows everything g h one s parts whole e holds = same_rows g h one s parts whole e holds
passing_rows (only m) g h one s parts whole e holds =
    subst (λ p. Holds (record { agree = carried_agree m s.agree; place = p; sort = carried_sort m s.sort }) (map (flat_map g) parts) (flat_map g whole)) (kept_is m s.place e) (plain_rows m g h one s parts whole e holds)

-- The state of an operator that works row by row, on rows of one width.
pub rows_hold : (m : Passing) (w : ℕ) (g : Row → List Row) → ((r : Row) → Wide w r → AllByRecursion (Shapes.Passes m r) (g r)) → ((r : Row) → length (g r) ≤ 1) → (s : State) (parts : List (List Row)) (whole : List Row) →
    NotEntire s → AllByRecursion (Wide w) whole → Holds s parts whole → Holds (passed_state m s) (map (flat_map g) parts) (flat_map g whole)
rows_hold m w g h one s parts whole e wide holds =
    let k = holds_plain s.place s parts whole e holds in
    subst (λ xs. Holds (passed_state m s) (map (flat_map g) parts) xs) (guard_same w g whole wide)
    (subst (λ ps. Holds (passed_state m s) ps (flat_map (guarded w g) whole)) (guard_parts w g parts (parts_all (Wide w) parts whole k.0.bag wide))
    (passing_rows m (guarded w g) (guard_all w g (Shapes.Passes m) h) (guard_one w g one) s parts whole e holds))

entire_at : (s : State) (parts : List (List Row)) (whole : List Row) (p : ℕ) → p < length parts → AllByRecursion (λ rows. Common s (rows ∷ []) whole) parts → Common s (get_or parts p [] ∷ []) whole
entire_at s [] whole p l h = absurd (omega arith)
entire_at s (rows ∷ parts) whole zero l h = h.0
entire_at s (rows ∷ parts) whole (suc p) l h = entire_at s parts whole p (omega arith) h.1

one_part : (K : List ℕ) (rows whole : List Row) → Agree K (rows ∷ []) whole → (v : List Value) → sub K v rows ≡ sub K v whole
one_part K rows whole a v = go (a v)
  where
    go : OneHolds (sub K v rows ∷ []) (sub K v whole) → sub K v rows ≡ sub K v whole
    go (inl h) = h.0
    go (inr h) = absurd h.1

always_rows : {P : Row → Type 0} → ((r : Row) → P r) → (rows : List Row) → AllByRecursion P rows
always_rows h [] = tt
always_rows h (r ∷ rows) = (h r, always_rows h rows)

pub looked_same : (k : Looking) (s t : State) (A B : List (List Row)) (SA SB : List Row) (degree p : ℕ) → NotEntire s → AgreesIn k.reference_keys t → ReferenceAt k s t → Holds s A SA → Holds t B SB → length A ≡ degree → length B ≡ degree → p < degree →
    AllByRecursion (λ a. sub (cols k.reference_keys) (val (cols k.main_keys) a) (get_or B p []) ≡ sub (cols k.reference_keys) (val (cols k.main_keys) a) SB) (get_or A p [])
looked_same k s t A B SA SB degree p e a (inl f) h i la lb l =
    let c = entire_at t B SB p (omega arith) (subst (λ q. HoldsIn q t B SB) f i) in
    always_rows (λ r. one_part (cols k.reference_keys) (get_or B p []) SB (agree_in (cols k.reference_keys) t.agree (get_or B p [] ∷ []) SB a c.agree) (val (cols k.main_keys) r)) (get_or A p [])
looked_same k s t A B SA SB degree p e a (inr f) h i la lb l =
    let known = known_key_place k.reference_keys t.place f.0 in
    let plain : t.place ≢ spot.Entire = λ q. subst (λ z. IsKnown (key_place k.reference_keys z)) q known in
    let cb = holds_plain t.place t B SB plain i in
    let ca = holds_plain s.place s A SA e h in
    let kp = key_place k.reference_keys t.place in
    let pb = placed_by_key k.reference_keys t.place degree B known lb cb.1 in
    let pa = subst (λ q. PlacedFrom (λ r. num q degree (val (cols k.main_keys) r)) 0 A) (sym f.1) (placed_by_key k.main_keys s.place degree A (subst IsKnown f.1 known) la ca.1) in
    all_map (λ r. num kp degree (val (cols k.main_keys) r) ≡ 0 + p) (λ r. sub (cols k.reference_keys) (val (cols k.main_keys) r) (get_or B p []) ≡ sub (cols k.reference_keys) (val (cols k.main_keys) r) SB)
    (λ r g. let v = val (cols k.main_keys) r in
    one_at (λ x. num kp degree (val (cols k.reference_keys) x)) (has (cols k.reference_keys) v) p (λ x u. ap (num kp degree) (has_val (cols k.reference_keys) v x u) ∙ g ∙ omega arith) 0 p B SB (omega arith) (omega arith) pb
    (agree_in (cols k.reference_keys) t.agree B SB a cb.0.agree v))
    (get_or A p []) (part_at (λ r. num kp degree (val (cols k.main_keys) r)) 0 p A pa)

range_agree : {Y : Type 0} (f g : ℕ → Y) (n k top : ℕ) → n + k ≤ top → ((p : ℕ) → p < top → f p ≡ g p) → map f (range_with_len n k) ≡ map g (range_with_len n k)
range_agree f g n zero top l h = refl
range_agree f g n (suc k) top l h = ap₂ (λ a b. a ∷ b) (h n (omega arith)) (range_agree f g (n + 1) k top (omega arith) h)

-- whatever is given for a main row and what it finds
pub looked_parts : {Y : Type 0} (give : Row → List Row → List Y) (k : Looking) (s t : State) (A B : List (List Row)) (SA SB : List Row) (degree : ℕ) → NotEntire s → AgreesIn k.reference_keys t → ReferenceAt k s t → Holds s A SA → Holds t B SB → length A ≡ degree → length B ≡ degree →
    map (λ p. flat_map (λ a. give a (sub (cols k.reference_keys) (val (cols k.main_keys) a) (get_or B p []))) (get_or A p [])) (range_with_len 0 degree) ≡ map (flat_map (λ a. give a (sub (cols k.reference_keys) (val (cols k.main_keys) a) SB))) A
looked_parts {Y} give k s t A B SA SB degree e a r h i la lb =
    range_agree (λ p. flat_map (λ x. give x (find x (get_or B p []))) (get_or A p [])) (λ p. flat_map (λ x. give x (find x SB)) (get_or A p [])) 0 degree degree (omega arith)
    (λ p l. flat_agree_all (λ x. give x (find x (get_or B p []))) (λ x. give x (find x SB)) (get_or A p []) (all_map (λ x. find x (get_or B p []) ≡ find x SB) (λ x. give x (find x (get_or B p [])) ≡ give x (find x SB)) (λ x f. ap (give x) f) (get_or A p []) (looked_same k s t A B SA SB degree p e a r h i la lb l)))
    ∙ subst (λ n. map (λ p. flat_map (λ x. give x (find x SB)) (get_or A p [])) (range_with_len 0 n) ≡ map (flat_map (λ x. give x (find x SB))) A) la (each_part (flat_map (λ x. give x (find x SB))) A)
  where
    find : Row → List Row → List Row
    find x rows = sub (cols k.reference_keys) (val (cols k.main_keys) x) rows

-- what passes a lookup
own : (w : ℕ) (r x : Row) → Lies (all_columns w) (all_columns w) → val (all_columns w) (val (all_columns w) r ++ x) ≡ val (all_columns w) r
own w r x l = picked w (all_columns w) r x l

pub looked_passes : (k : Looking) (w : ℕ) → k.main ≡ all_columns w → (q : ℕ) (r : Row) (found : List Row) → AllByRecursion (Shapes.Passes (looked_passing k q) r) (looked_row k q r found)
looked_passes k w e zero r found = go found
  where
    main : (x : List Value) → Carries (pairs_of k.main (all_columns (length k.main))) r (val k.main r ++ x)
    main x = carries_same k.main (all_columns (length k.main)) r (val k.main r ++ x)
        (subst (λ cs. val cs r ≡ val (all_columns (length cs)) (val cs r ++ x)) (sym e) (subst (λ n. val (all_columns w) r ≡ val (all_columns n) (val (all_columns w) r ++ x)) (sym (length-range_with 0 w)) (sym (own w r x (lies_self (all_columns w))))))

    absent : (o : Missing) (x : List Value) → AllByRecursion (Carries (pairs_of k.main (all_columns (length k.main))) r) (if_continues o (val k.main r ++ x))
    absent missing.Continue x = (main x, tt)
    absent missing.Drop x = tt
    absent missing.Fail x = tt
    absent missing.Reject x = tt

    go : (rows : List Row) → AllByRecursion (Carries (pairs_of k.main (all_columns (length k.main))) r) (looked_row k zero r rows)
    go [] = absent k.missing (val k.others no_row)
    go (b ∷ bs) = (main (val k.others b), tt)
looked_passes k w e (suc q) r found = go found
  where
    absent : (o : Missing) → AllByRecursion (λ y. y ≡ r) (if_rejected o r)
    absent missing.Continue = tt
    absent missing.Drop = tt
    absent missing.Fail = tt
    absent missing.Reject = (refl, tt)

    go : (rows : List Row) → AllByRecursion (λ y. y ≡ r) (looked_row k (suc q) r rows)
    go [] = absent k.missing
    go (b ∷ bs) = tt

pub looked_one : (k : Looking) (q : ℕ) (r : Row) (found : List Row) → length (looked_row k q r found) ≤ 1
looked_one k zero r [] = absent k.missing
  where
    absent : (o : Missing) → length (if_continues o (val k.main r ++ val k.others no_row)) ≤ 1
    absent missing.Continue = omega arith
    absent missing.Drop = omega arith
    absent missing.Fail = omega arith
    absent missing.Reject = omega arith
looked_one k zero r (b ∷ bs) = omega arith
looked_one k (suc q) r [] = absent k.missing
  where
    absent : (o : Missing) → length (if_rejected o r) ≤ 1
    absent missing.Continue = omega arith
    absent missing.Drop = omega arith
    absent missing.Fail = omega arith
    absent missing.Reject = omega arith
looked_one k (suc q) r (b ∷ bs) = omega arith

-- The state of a lookup's outputs.
pub lookup_holds : (k : Looking) (q w : ℕ) (s t : State) (A B : List (List Row)) (SA SB : List Row) (degree : ℕ) → k.main ≡ all_columns w → AllByRecursion (Wide w) SA → NotEntire s → AgreesIn k.reference_keys t → ReferenceAt k s t → Holds s A SA → Holds t B SB → length A ≡ degree → length B ≡ degree →
    Holds (passed_state (looked_passing k q) s) (map (λ p. flat_map (λ a. looked_row k q a (sub (cols k.reference_keys) (val (cols k.main_keys) a) (get_or B p []))) (get_or A p [])) (range_with_len 0 degree)) (flat_map (λ a. looked_row k q a (sub (cols k.reference_keys) (val (cols k.main_keys) a) SB)) SA)
lookup_holds k q w s t A B SA SB degree m wide e a r h i la lb =
    subst (λ ps. Holds (passed_state (looked_passing k q) s) ps (flat_map give SA)) (sym (looked_parts (looked_row k q) k s t A B SA SB degree e a r h i la lb))
    (rows_hold (looked_passing k q) w give (λ x wx. looked_passes k w m q x (find x)) (λ x. looked_one k q x (find x)) s A SA e wide h)
  where
    find : Row → List Row
    find x = sub (cols k.reference_keys) (val (cols k.main_keys) x) SB

    give : Row → List Row
    give x = looked_row k q x (find x)

pub lookup_faults : (k : Looking) (s t : State) (A B : List (List Row)) (SA SB : List Row) (degree : ℕ) → NotEntire s → AgreesIn k.reference_keys t → ReferenceAt k s t → Holds s A SA → Holds t B SB → length A ≡ degree → length B ≡ degree →
    IsPermutation (joined (map (λ p. flat_map (λ a. looked_fault k a (sub (cols k.reference_keys) (val (cols k.main_keys) a) (get_or B p []))) (get_or A p [])) (range_with_len 0 degree))) (flat_map (λ a. looked_fault k a (sub (cols k.reference_keys) (val (cols k.main_keys) a) SB)) SA)
lookup_faults k s t A B SA SB degree e a r h i la lb =
    subst (λ ps. IsPermutation (joined ps) (flat_map give SA)) (sym (looked_parts (looked_fault k) k s t A B SA SB degree e a r h i la lb)) (rows_bag give A SA (holds_plain s.place s A SA e h).0.bag)
  where
    give : Row → List Fault
    give x = looked_fault k x (sub (cols k.reference_keys) (val (cols k.main_keys) x) SB)
