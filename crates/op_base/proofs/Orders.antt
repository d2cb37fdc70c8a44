-- The orders of values and rows are total, and tell apart what differs.
use Rattle.std.proofs.Common.{Bool, List, ap, ap₂, arith, false, length, refl, subst, suc, sym, true, ℕ, ◌≡◌, ◌∷◌, ◌++◌, ◌∙◌, []}
use Rattle.std.proofs.lemmas.Cmp.{alike_right, back_total, int_cmp_total, lists_total, nat_cmp_total, nat_list_cmp_total, on_total, then_total, tied_itself}
use Rattle.std.proofs.lemmas.Map.Lookups.{CmpEqualImpliesEq, exact_bytes, exact_signed, exact_unsigned}
use Rattle.std.specs.Cmp.{IsTotalOrder}
use Rattle.std.specs.Cmp.Lexicographic.{slice_cmp}
use Rattle.std.specs.Ordering.{int_cmp, is_eq, nat_cmp, ordering_reverse, ordering_then}
use Rattle.std.specs.declared.cmp.Ordering.{Ordering}
use Rattle.std.specs.declared.cmp.Ordering.TheVariants.{Equal, Greater, Less}
use Rattle.ds_schema.specs.Rows.{at, cols, has, row_cmp, turned_cmp, val, vals_cmp, way, ways, ways_behind}
use Rattle.ds_schema.specs.declared.key.Key.{Key}
use Rattle.ds_value.specs.Values.{letters, number, value_cmp, variant}
use Rattle.ds_value.specs.declared.value.Value.{Value}
use Rattle.ds_value.specs.declared.value.Value.TheVariants.{Date, Dec, Int, Null, Text, UInt}
use Rattle.op_base.specs.Columns.{Row}

pub value_total : IsTotalOrder value_cmp
value_total = then_total (on_total variant nat_cmp_total) (then_total (on_total number int_cmp_total) (on_total letters nat_list_cmp_total))

pub then_equal : (o p : Ordering) → ordering_then o p ≡ Equal → (o ≡ Equal) × (p ≡ Equal)
then_equal Less p e = cc
then_equal Equal p e = (refl, e)
then_equal Greater p e = cc

value_parts : (a b : Value) → variant a ≡ variant b → number a ≡ number b → letters a ≡ letters b → a ≡ b
value_parts Null Null e f g = refl
value_parts (Int m) (Int n) e f g = ap Int f
value_parts (UInt m) (UInt n) e f g = cc
value_parts (Dec m) (Dec n) e f g = ap Dec f
value_parts (Text s) (Text t) e f g = ap Text g
value_parts (Date m) (Date n) e f g = ap Date f
value_parts a b e f g = absurd (omega arith)

pub value_exact : CmpEqualImpliesEq value_cmp
value_exact a b e =
    let h = then_equal (nat_cmp (variant a) (variant b)) (ordering_then (int_cmp (number a) (number b)) (slice_cmp nat_cmp (letters a) (letters b))) e in
    let k = then_equal (int_cmp (number a) (number b)) (slice_cmp nat_cmp (letters a) (letters b)) h.1 in
    value_parts a b (exact_unsigned (variant a) (variant b) h.0) (exact_signed (number a) (number b) k.0) (exact_bytes (letters a) (letters b) k.1)

pub exact_lists : {K : Type 0} (R : K → K → Ordering) → CmpEqualImpliesEq R → CmpEqualImpliesEq (slice_cmp R)
exact_lists R h [] [] e = refl
exact_lists R h [] (y ∷ ys) e = cc
exact_lists R h (x ∷ xs) [] e = cc
exact_lists R h (x ∷ xs) (y ∷ ys) e =
    let k = then_equal (R x y) (slice_cmp R xs ys) e in
    ap₂ (λ a b. a ∷ b) (h x y k.0) (exact_lists R h xs ys k.1)

pub equal_from_is : (o : Ordering) → is_eq o ≡ true → o ≡ Equal
equal_from_is Less e = cc
equal_from_is Equal e = refl
equal_from_is Greater e = cc

pub has_val : (cs : List ℕ) (v : List Value) (r : Row) → has cs v r ≡ true → val cs r ≡ v
has_val cs v r e = exact_lists value_cmp value_exact (val cs r) v (equal_from_is (slice_cmp value_cmp (val cs r) v) e)

pub val_has : (cs : List ℕ) (v : List Value) (r : Row) → val cs r ≡ v → has cs v r ≡ true
val_has cs v r e = subst (λ w. is_eq (slice_cmp value_cmp (val cs r) w) ≡ true) e (ap is_eq (tied_itself (lists_total value_total) (val cs r)))

pub val-append : (cs ds : List ℕ) (r : Row) → val (cs ++ ds) r ≡ val cs r ++ val ds r
val-append [] ds r = refl
val-append (c ∷ cs) ds r = ap (λ vs. at r c ∷ vs) (val-append cs ds r)

pub length-val : (cs : List ℕ) (r : Row) → length (val cs r) ≡ length cs
length-val [] r = refl
length-val (c ∷ cs) r = ap suc (length-val cs r)

pub turned_total : (b : Bool) → IsTotalOrder (turned_cmp b)
turned_total false = value_total
turned_total true = back_total value_total

then_reverse : (c d : Ordering) → ordering_then (ordering_reverse c) (ordering_reverse d) ≡ ordering_reverse (ordering_then c d)
then_reverse Less d = refl
then_reverse Equal d = refl
then_reverse Greater d = refl

vals_antisymm : (ds : List Bool) (v w : List Value) → vals_cmp ds v w ≡ ordering_reverse (vals_cmp ds w v)
vals_antisymm ds [] [] = refl
vals_antisymm ds [] (b ∷ w) = refl
vals_antisymm ds (a ∷ v) [] = refl
vals_antisymm ds (a ∷ v) (b ∷ w) = ap₂ ordering_then ((turned_total (way ds)).antisymm a b) (vals_antisymm (ways_behind ds) v w) ∙ then_reverse (turned_cmp (way ds) b a) (vals_cmp (ways_behind ds) w v)

vals_congr : (ds : List Bool) (v w u : List Value) → vals_cmp ds v w ≡ Equal → vals_cmp ds v u ≡ vals_cmp ds w u
vals_congr ds [] [] u e = refl
vals_congr ds [] (b ∷ w) u e = cc
vals_congr ds (a ∷ v) [] u e = cc
vals_congr ds (a ∷ v) (b ∷ w) [] e = refl
vals_congr ds (a ∷ v) (b ∷ w) (c ∷ u) e =
    let k = then_equal (turned_cmp (way ds) a b) (vals_cmp (ways_behind ds) v w) e in
    ap₂ ordering_then ((turned_total (way ds)).congr a b c k.0) (vals_congr (ways_behind ds) v w u k.1)

vals_trans : (ds : List Bool) (v w u : List Value) → vals_cmp ds v w ≡ Less → vals_cmp ds w u ≡ Less → vals_cmp ds v u ≡ Less
vals_trans ds [] [] u e f = cc
vals_trans ds [] (b ∷ w) [] e f = cc
vals_trans ds [] (b ∷ w) (c ∷ u) e f = refl
vals_trans ds (a ∷ v) [] u e f = cc
vals_trans ds (a ∷ v) (b ∷ w) [] e f = cc
vals_trans ds (a ∷ v) (b ∷ w) (c ∷ u) e f = go (turned_cmp (way ds) a b) refl (turned_cmp (way ds) b c) refl e f (vals_trans (ways_behind ds) v w u)
  where
    o : IsTotalOrder (turned_cmp (way ds))
    o = turned_total (way ds)

    go : (p : Ordering) → turned_cmp (way ds) a b ≡ p → (q : Ordering) → turned_cmp (way ds) b c ≡ q →
        ordering_then p (vals_cmp (ways_behind ds) v w) ≡ Less → ordering_then q (vals_cmp (ways_behind ds) w u) ≡ Less →
        (vals_cmp (ways_behind ds) v w ≡ Less → vals_cmp (ways_behind ds) w u ≡ Less → vals_cmp (ways_behind ds) v u ≡ Less) →
        ordering_then (turned_cmp (way ds) a c) (vals_cmp (ways_behind ds) v u) ≡ Less
    go Less s Less t g h rec = ap (λ x. ordering_then x (vals_cmp (ways_behind ds) v u)) (o.trans a b c s t)
    go Less s Equal t g h rec = ap (λ x. ordering_then x (vals_cmp (ways_behind ds) v u)) (sym (alike_right o b c a t) ∙ s)
    go Less s Greater t g h rec = cc
    go Equal s Less t g h rec = ap (λ x. ordering_then x (vals_cmp (ways_behind ds) v u)) (o.congr a b c s ∙ t)
    go Equal s Equal t g h rec = ap (λ x. ordering_then x (vals_cmp (ways_behind ds) v u)) (o.congr a b c s ∙ t) ∙ rec g h
    go Equal s Greater t g h rec = cc
    go Greater s q t g h rec = cc

pub vals_total : (ds : List Bool) → IsTotalOrder (vals_cmp ds)
vals_total ds = record { antisymm = vals_antisymm ds; trans = vals_trans ds; congr = vals_congr ds }

pub row_total : (keys : List Key) → IsTotalOrder (row_cmp keys)
row_total keys = on_total (val (cols keys)) (vals_total (ways keys))

turned_exact : (b : Bool) → CmpEqualImpliesEq (turned_cmp b)
turned_exact false x y e = value_exact x y e
turned_exact true x y e = sym (value_exact y x e)

pub vals_exact : (ds : List Bool) → CmpEqualImpliesEq (vals_cmp ds)
vals_exact ds [] [] h = refl
vals_exact ds [] (b ∷ w) h = cc
vals_exact ds (a ∷ v) [] h = cc
vals_exact ds (a ∷ v) (b ∷ w) h =
    let k = then_equal (turned_cmp (way ds) a b) (vals_cmp (ways_behind ds) v w) h in
    ap₂ (λ x y. x ∷ y) (turned_exact (way ds) a b k.0) (vals_exact (ways_behind ds) v w k.1)

-- rows that tie have the same values in the keys' columns
pub row_tie : (keys : List Key) (r s : Row) → row_cmp keys r s ≡ Equal → val (cols keys) r ≡ val (cols keys) s
row_tie keys r s e = vals_exact (ways keys) (val (cols keys) r) (val (cols keys) s) e

both_ways_true : (a b : Bool) → (a ≡ true → b ≡ true) → (b ≡ true → a ≡ true) → a ≡ b
both_ways_true true b f g = sym (f refl)
both_ways_true false true f g = g refl
both_ways_true false false f g = refl

-- the rows of a key's values are those that tie with it
pub has_is_tie : (keys : List Key) (s r : Row) → has (cols keys) (val (cols keys) s) r ≡ is_eq (row_cmp keys r s)
has_is_tie keys s r = both_ways_true (has (cols keys) (val (cols keys) s) r) (is_eq (row_cmp keys r s))
    (λ e. subst (λ v. is_eq (vals_cmp (ways keys) v (val (cols keys) s)) ≡ true) (sym (has_val (cols keys) (val (cols keys) s) r e)) (ap is_eq (tied_itself (vals_total (ways keys)) (val (cols keys) s))))
    (λ e. val_has (cols keys) (val (cols keys) s) r (row_tie keys r s (equal_from_is (row_cmp keys r s) e)))
