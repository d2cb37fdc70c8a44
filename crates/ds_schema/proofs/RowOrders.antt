-- The order of rows by a key list is total, and ties rows whose keys' columns have the same values.
use Rattle.std.proofs.Common.{◌≡◌, ℕ, suc, Bool, true, false, List, [], ◌∷◌, ◌++◌, refl, sym, ap, ap₂, ◌∙◌, subst, length}
use Rattle.std.specs.declared.cmp.Ordering.{Ordering}
use Rattle.std.specs.declared.cmp.Ordering.TheVariants.{Less, Equal, Greater}
use Rattle.std.specs.Bool.{IsTrue}
use Rattle.std.specs.Ordering.{ordering_reverse, ordering_then, is_eq}
use Rattle.std.specs.Cmp.{IsTotalOrder}
use Rattle.std.specs.Cmp.Lexicographic.{slice_cmp}
use Rattle.std.proofs.lemmas.Cmp.{on_total, back_total, lists_total, tied_itself, alike_right}
use Rattle.std.proofs.lemmas.Map.Lookups.{CmpEqualImpliesEq}
use Rattle.ds_value.specs.declared.value.Value.{Value}
use Rattle.ds_value.specs.Values.{value_cmp}
use Rattle.ds_value.proofs.Orders.{value_total, value_exact, then_equal, exact_lists, equal_from_is}
use Rattle.ds_schema.specs.declared.key.Key.{Key}
use Rattle.ds_schema.specs.Rows.{at, cols, val, turned_cmp, vals_cmp, ways, way, ways_behind, row_cmp, has}

pub has_val : (cs : List ℕ) (v : List Value) (r : List Value) → has cs v r ≡ true → val cs r ≡ v
has_val cs v r e = exact_lists value_cmp value_exact (val cs r) v (equal_from_is (slice_cmp value_cmp (val cs r) v) e)

pub val_has : (cs : List ℕ) (v : List Value) (r : List Value) → val cs r ≡ v → has cs v r ≡ true
val_has cs v r e = subst (λ w. is_eq (slice_cmp value_cmp (val cs r) w) ≡ true) e (ap is_eq (tied_itself (lists_total value_total) (val cs r)))

pub val-append : (cs ds : List ℕ) (r : List Value) → val (cs ++ ds) r ≡ val cs r ++ val ds r
val-append [] ds r = refl
val-append (c ∷ cs) ds r = ap (λ vs. at r c ∷ vs) (val-append cs ds r)

pub length-val : (cs : List ℕ) (r : List Value) → length (val cs r) ≡ length cs
length-val [] r = refl
length-val (c ∷ cs) r = ap suc (length-val cs r)

pub turned_total : (b : Bool) → IsTotalOrder (turned_cmp b)
turned_total false = value_total
turned_total true = back_total value_total

then_reverse : (c d : Ordering) → ordering_then (ordering_reverse c) (ordering_reverse d) ≡ ordering_reverse (ordering_then c d)
then_reverse Less d = refl
then_reverse Equal d = refl
then_reverse Greater d = refl

vals_antisymm : (ds : List Bool) (v w : List Value) → vals_cmp ds v w ≡ ordering_reverse (vals_cmp ds w v)
vals_antisymm ds [] [] = refl
vals_antisymm ds [] (b ∷ w) = refl
vals_antisymm ds (a ∷ v) [] = refl
vals_antisymm ds (a ∷ v) (b ∷ w) = ap₂ ordering_then ((turned_total (way ds)).antisymm a b) (vals_antisymm (ways_behind ds) v w) ∙ then_reverse (turned_cmp (way ds) b a) (vals_cmp (ways_behind ds) w v)

vals_congr : (ds : List Bool) (v w u : List Value) → vals_cmp ds v w ≡ Equal → vals_cmp ds v u ≡ vals_cmp ds w u
vals_congr ds [] [] u e = refl
vals_congr ds [] (b ∷ w) u e = cc
vals_congr ds (a ∷ v) [] u e = cc
vals_congr ds (a ∷ v) (b ∷ w) [] e = refl
vals_congr ds (a ∷ v) (b ∷ w) (c ∷ u) e =
    let k = then_equal (turned_cmp (way ds) a b) (vals_cmp (ways_behind ds) v w) e in
    ap₂ ordering_then ((turned_total (way ds)).congr a b c k.0) (vals_congr (ways_behind ds) v w u k.1)

vals_trans : (ds : List Bool) (v w u : List Value) → vals_cmp ds v w ≡ Less → vals_cmp ds w u ≡ Less → vals_cmp ds v u ≡ Less
vals_trans ds [] [] u e f = cc
vals_trans ds [] (b ∷ w) [] e f = cc
vals_trans ds [] (b ∷ w) (c ∷ u) e f = refl
vals_trans ds (a ∷ v) [] u e f = cc
vals_trans ds (a ∷ v) (b ∷ w) [] e f = cc
vals_trans ds (a ∷ v) (b ∷ w) (c ∷ u) e f = go (turned_cmp (way ds) a b) refl (turned_cmp (way ds) b c) refl e f (vals_trans (ways_behind ds) v w u)
  where
    o : IsTotalOrder (turned_cmp (way ds))
    o = turned_total (way ds)

    go : (p : Ordering) → turned_cmp (way ds) a b ≡ p → (q : Ordering) → turned_cmp (way ds) b c ≡ q →
        ordering_then p (vals_cmp (ways_behind ds) v w) ≡ Less → ordering_then q (vals_cmp (ways_behind ds) w u) ≡ Less →
        (vals_cmp (ways_behind ds) v w ≡ Less → vals_cmp (ways_behind ds) w u ≡ Less → vals_cmp (ways_behind ds) v u ≡ Less) →
        ordering_then (turned_cmp (way ds) a c) (vals_cmp (ways_behind ds) v u) ≡ Less
    go Less s Less t g h rec = ap (λ x. ordering_then x (vals_cmp (ways_behind ds) v u)) (o.trans a b c s t)
    go Less s Equal t g h rec = ap (λ x. ordering_then x (vals_cmp (ways_behind ds) v u)) (sym (alike_right o b c a t) ∙ s)
    go Less s Greater t g h rec = cc
    go Equal s Less t g h rec = ap (λ x. ordering_then x (vals_cmp (ways_behind ds) v u)) (o.congr a b c s ∙ t)
    go Equal s Equal t g h rec = ap (λ x. ordering_then x (vals_cmp (ways_behind ds) v u)) (o.congr a b c s ∙ t) ∙ rec g h
    go Equal s Greater t g h rec = cc
    go Greater s q t g h rec = cc

pub vals_total : (ds : List Bool) → IsTotalOrder (vals_cmp ds)
vals_total ds = record { antisymm = vals_antisymm ds; trans = vals_trans ds; congr = vals_congr ds }

pub row_total : (keys : List Key) → IsTotalOrder (row_cmp keys)
row_total keys = on_total (val (cols keys)) (vals_total (ways keys))

turned_exact : (b : Bool) → CmpEqualImpliesEq (turned_cmp b)
turned_exact false x y e = value_exact x y e
turned_exact true x y e = sym (value_exact y x e)

pub vals_exact : (ds : List Bool) → CmpEqualImpliesEq (vals_cmp ds)
vals_exact ds [] [] h = refl
vals_exact ds [] (b ∷ w) h = cc
vals_exact ds (a ∷ v) [] h = cc
vals_exact ds (a ∷ v) (b ∷ w) h =
    let k = then_equal (turned_cmp (way ds) a b) (vals_cmp (ways_behind ds) v w) h in
    ap₂ (λ x y. x ∷ y) (turned_exact (way ds) a b k.0) (vals_exact (ways_behind ds) v w k.1)

-- rows that tie have the same values in the keys' columns
pub row_tie : (keys : List Key) (r s : List Value) → row_cmp keys r s ≡ Equal → val (cols keys) r ≡ val (cols keys) s
row_tie keys r s e = vals_exact (ways keys) (val (cols keys) r) (val (cols keys) s) e

both_ways_true : (a b : Bool) → (a ≡ true → b ≡ true) → (b ≡ true → a ≡ true) → a ≡ b
both_ways_true true b f g = sym (f refl)
both_ways_true false true f g = g refl
both_ways_true false false f g = refl

-- the rows of a key's values are those that tie with it
pub has_is_tie : (keys : List Key) (s r : List Value) → has (cols keys) (val (cols keys) s) r ≡ is_eq (row_cmp keys r s)
has_is_tie keys s r = both_ways_true (has (cols keys) (val (cols keys) s) r) (is_eq (row_cmp keys r s))
    (λ e. subst (λ v. is_eq (vals_cmp (ways keys) v (val (cols keys) s)) ≡ true) (sym (has_val (cols keys) (val (cols keys) s) r e)) (ap is_eq (tied_itself (vals_total (ways keys)) (val (cols keys) s))))
    (λ e. val_has (cols keys) (val (cols keys) s) r (row_tie keys r s (equal_from_is (row_cmp keys r s) e)))

-- rows with the same values in the keys' columns tie
pub val_tie : (keys : List Key) (r s : List Value) → val (cols keys) r ≡ val (cols keys) s → row_cmp keys r s ≡ Equal
val_tie keys r s e = subst (λ v. vals_cmp (ways keys) (val (cols keys) r) v ≡ Equal) e (tied_itself (vals_total (ways keys)) (val (cols keys) r))

ties : (o : Ordering) → (IsTrue (is_eq o) → o ≡ Equal) × (o ≡ Equal → IsTrue (is_eq o))
ties Less = (λ h. cc, λ e. cc)
ties Equal = (λ h. refl, λ e. refl)
ties Greater = (λ h. cc, λ e. cc)

-- two rows tie exactly where the values in the keys' columns are the same
pub tie_is_val : (keys : List Key) (r s : List Value) → (IsTrue (is_eq (row_cmp keys r s)) → val (cols keys) r ≡ val (cols keys) s) × (val (cols keys) r ≡ val (cols keys) s → IsTrue (is_eq (row_cmp keys r s)))
tie_is_val keys r s =
    let t = ties (row_cmp keys r s) in
    (λ h. row_tie keys r s (t.0 h), λ e. t.1 (val_tie keys r s e))
