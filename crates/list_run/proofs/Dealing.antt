-- What dealing row by row, and producer by producer, leaves in each list.
use Rattle.std.proofs.Common.{◌≡◌, ◌≢◌, ◌⊎◌, inl, inr, ℕ, zero, suc, ◌+◌, ◌<◌, ◌%◌, ◌==◌, Bool, true, false, cond, refl, sym, ap, ap₂, ◌∙◌, subst, List, [], ◌∷◌, ◌++◌, length, get_or, set, replicate, map, append-nil, append_assoc, arith}
use Rattle.std.specs.List.{range_with_len}
use Rattle.std.proofs.Math.Nat.{mod-add-mod}
use Rattle.std.proofs.lemmas.Bool.Decides.{eqb_tells}
use Rattle.std.proofs.lemmas.List.{get_or-set_other, get_or-set_same, length-set, ext_get_or}
use Rattle.std.proofs.lemmas.List.FromFn.{length-map-range_with_len, get_or-map-range_with_len}
use Rattle.std.proofs.lemmas.Grind.{flat_map-append}
use Rattle.op_base.specs.Columns.{Row}
use Rattle.op_base.specs.Lists.{Interleaves, joined}
use Rattle.op_base.proofs.Interleavings.{joined_interleaves}
use Rattle.flow_graph.specs.Destinations.{lane, lanes_to, SentFrom}
use Rattle.list_run.specs.Dealt.{Deals, Dealt, dealt}

-- a lane of one more row
lane-more : {X : Type 0} (goes : ℕ → X → ℕ) (j t : ℕ) (xs : List X) (x : X) → lane goes j t (xs ++ x ∷ []) ≡ lane goes j t xs ++ cond (goes (t + length xs) x == j) (x ∷ []) []
lane-more goes j t [] x = ap (λ n. cond (goes n x == j) (x ∷ []) []) (same t)
  where
    same : (t : ℕ) → t ≡ t + 0
    same t = omega arith
lane-more {X} goes j t (y ∷ xs) x = go (goes t y == j) (lane-more goes j (suc t) xs x ∙ ap (λ n. lane goes j (suc t) xs ++ cond (goes n x == j) (x ∷ []) []) (later t (length xs)))
  where
    later : (t n : ℕ) → suc t + n ≡ t + suc n
    later t n = omega arith

    last : List X
    last = cond (goes (t + suc (length xs)) x == j) (x ∷ []) []

    go : (b : Bool) → lane goes j (suc t) (xs ++ x ∷ []) ≡ lane goes j (suc t) xs ++ last → cond b (y ∷ lane goes j (suc t) (xs ++ x ∷ [])) (lane goes j (suc t) (xs ++ x ∷ [])) ≡ cond b (y ∷ lane goes j (suc t) xs) (lane goes j (suc t) xs) ++ last
    go true h = ap (λ zs. y ∷ zs) h
    go false h = h

pub Deals-none : (goes : ℕ → Row → ℕ) (old : List (List Row)) → Deals goes [] old old
Deals-none goes old = record { count = refl; each = λ j l. sym (append-nil (get_or old j [])) }

pub Deals-more : (goes : ℕ → Row → ℕ) (rows : List Row) (row : Row) (old mid : List (List Row)) (k : ℕ) → goes (length rows) row ≡ k → k < length mid → Deals goes rows old mid → Deals goes (rows ++ row ∷ []) old (set mid k (get_or mid k [] ++ row ∷ []))
Deals-more goes rows row old mid k way below d = record {
  count = length-set mid k (get_or mid k [] ++ row ∷ []) ∙ d.count;
  each = λ j l. go j l (eqb_tells k j);
}
  where
    lanes : (j : ℕ) (b : Bool) → (k == j) ≡ b → lane goes j 0 (rows ++ row ∷ []) ≡ lane goes j 0 rows ++ cond b (row ∷ []) []
    lanes j b e = lane-more goes j 0 rows row ∙ ap (λ b. lane goes j 0 rows ++ cond b (row ∷ []) []) (ap (λ n. goes n row == j) (omega arith) ∙ ap (λ n. n == j) way ∙ e)

    go : (j : ℕ) → j < length old → (((k == j) ≡ true) × (k ≡ j)) ⊎ (((k == j) ≡ false) × (k ≢ j)) → get_or (set mid k (get_or mid k [] ++ row ∷ [])) j [] ≡ get_or old j [] ++ lane goes j 0 (rows ++ row ∷ [])
    go j l (inl e) =
        ap (λ i. get_or (set mid k (get_or mid k [] ++ row ∷ [])) i []) (sym e.1) ∙ get_or-set_same mid k (get_or mid k [] ++ row ∷ []) [] below
        ∙ ap (λ i. get_or mid i [] ++ row ∷ []) e.1 ∙ ap (λ t. t ++ row ∷ []) (d.each j l)
        ∙ append_assoc (get_or old j []) (lane goes j 0 rows) (row ∷ [])
        ∙ ap (λ t. get_or old j [] ++ t) (sym (lanes j true e.0))
    go j l (inr e) =
        get_or-set_other mid k j (get_or mid k [] ++ row ∷ []) [] (λ f. e.1 (sym f)) ∙ d.each j l
        ∙ ap (λ t. get_or old j [] ++ t) (sym (lanes j false e.0 ∙ append-nil (lane goes j 0 rows)))

-- one more producer
lanes-more : {X : Type 0} (goes : ℕ → ℕ → X → ℕ) (j p : ℕ) (lists : List (List X)) (xs : List X) → lanes_to goes j p (lists ++ xs ∷ []) ≡ lanes_to goes j p lists ++ lane (goes (p + length lists)) j 0 xs ∷ []
lanes-more goes j p [] xs = ap (λ n. lane (goes n) j 0 xs ∷ []) (same p)
  where
    same : (p : ℕ) → p ≡ p + 0
    same p = omega arith
lanes-more goes j p (ys ∷ lists) xs = ap (λ t. lane (goes p) j 0 ys ∷ t) (lanes-more goes j (suc p) lists xs ∙ ap (λ n. lanes_to goes j (suc p) lists ++ lane (goes n) j 0 xs ∷ []) (later p (length lists)))
  where
    later : (p n : ℕ) → suc p + n ≡ p + suc n
    later p n = omega arith

none_at : (n j : ℕ) → get_or {A = List Row} (replicate n []) j [] ≡ []
none_at zero j = refl
none_at (suc n) zero = refl
none_at (suc n) (suc j) = none_at n j

none_long : (n : ℕ) → length {A = List Row} (replicate n []) ≡ n
none_long zero = refl
none_long (suc n) = ap (λ m. suc m) (none_long n)

pub Dealt-none : (goes : ℕ → ℕ → Row → ℕ) (n : ℕ) → Dealt goes [] n (replicate n [])
Dealt-none goes n = record { count_is = none_long n; each = λ j l. none_at n j }

same_lane : {X : Type 0} (f g : ℕ → X → ℕ) → ((t : ℕ) (x : X) → f t x ≡ g t x) → (j t : ℕ) (xs : List X) → lane f j t xs ≡ lane g j t xs
same_lane f g h j t [] = refl
same_lane f g h j t (x ∷ xs) = ap₂ (λ n ys. cond (n == j) (x ∷ ys) ys) (h t x) (same_lane f g h j (suc t) xs)

pub Dealt-more : (goes : ℕ → ℕ → Row → ℕ) (way : ℕ → Row → ℕ) (sent : List (List Row)) (rows : List Row) (n : ℕ) (old new : List (List Row)) → ((t : ℕ) (r : Row) → way t r ≡ goes (length sent) t r) → Dealt goes sent n old → Deals way rows old new → Dealt goes (sent ++ rows ∷ []) n new
Dealt-more goes way sent rows n old new same d s = record {
  count_is = s.count ∙ d.count_is;
  each = λ j l.
      s.each j (subst (λ m. j < m) (sym d.count_is) l)
      ∙ ap₂ (λ a b. a ++ b) (d.each j l) (same_lane way (goes (length sent)) same j 0 rows ∙ sym (append-nil (lane (goes (length sent)) j 0 rows)))
      ∙ sym (flat_map-append (λ xs. xs) (lanes_to goes j 0 sent) (lane (goes (length sent)) j 0 rows ∷ []))
      ∙ ap joined (sym (lanes-more goes j 0 sent rows ∙ ap (λ p. lanes_to goes j 0 sent ++ lane (goes p) j 0 rows ∷ []) (plain (length sent))));
}
  where
    plain : (n : ℕ) → 0 + n ≡ n
    plain n = omega arith

-- what is dealt is sent
sent_from : {X : Type 0} (goes : ℕ → ℕ → X → ℕ) (sent : List (List X)) (n : ℕ) (got : List (List X)) → ((i : ℕ) → i < length got → get_or got i [] ≡ joined (lanes_to goes (n + i) 0 sent)) → SentFrom goes n sent got
sent_from goes sent n [] h = tt
sent_from goes sent n (xs ∷ got) h = (
  subst (Interleaves (lanes_to goes n 0 sent)) (sym (h 0 (omega arith) ∙ ap (λ m. joined (lanes_to goes m 0 sent)) (same n))) (joined_interleaves (lanes_to goes n 0 sent)),
  sent_from goes sent (suc n) got (λ i l. h (suc i) (omega (arith, l)) ∙ ap (λ m. joined (lanes_to goes m 0 sent)) (later n i)),
)
  where
    same : (n : ℕ) → n + 0 ≡ n
    same n = omega arith

    later : (n i : ℕ) → n + suc i ≡ suc n + i
    later n i = omega arith

pub Dealt-is : (goes : ℕ → ℕ → Row → ℕ) (sent : List (List Row)) (n : ℕ) (got : List (List Row)) → Dealt goes sent n got → got ≡ dealt goes n sent
Dealt-is goes sent n got d = ext_get_or [] got (dealt goes n sent) (d.count_is ∙ sym (length-map-range_with_len (λ j. joined (lanes_to goes j 0 sent)) 0 n))
    (λ i l. let k : i < n = subst (λ m. i < m) d.count_is l in d.each i k ∙ sym (get_or-map-range_with_len (λ j. joined (lanes_to goes j 0 sent)) 0 n i i [] k (plain i)))
  where
    plain : (i : ℕ) → 0 + i ≡ i
    plain i = omega arith

pub dealt_long : (goes : ℕ → ℕ → Row → ℕ) (sent : List (List Row)) (n : ℕ) → length (dealt goes n sent) ≡ n
dealt_long goes sent n = length-map-range_with_len (λ j. joined (lanes_to goes j 0 sent)) 0 n

pub dealt_sent : (goes : ℕ → ℕ → Row → ℕ) (sent : List (List Row)) (n : ℕ) → SentFrom goes 0 sent (dealt goes n sent)
dealt_sent goes sent n = sent_from goes sent 0 (dealt goes n sent) (λ i l. get_or-map-range_with_len (λ j. joined (lanes_to goes j 0 sent)) 0 n i (0 + i) [] (subst (λ m. i < m) (dealt_long goes sent n) l) refl)

same_lanes : {X : Type 0} (f g : ℕ → ℕ → X → ℕ) → ((p t : ℕ) (x : X) → f p t x ≡ g p t x) → (j p : ℕ) (lists : List (List X)) → lanes_to f j p lists ≡ lanes_to g j p lists
same_lanes f g h j p [] = refl
same_lanes f g h j p (xs ∷ lists) = ap₂ (λ a b. a ∷ b) (same_lane (f p) (g p) (h p) j 0 xs) (same_lanes f g h j (suc p) lists)

pub map_same : {X Y : Type 0} (f g : X → Y) → ((x : X) → f x ≡ g x) → (xs : List X) → map f xs ≡ map g xs
map_same f g h [] = refl
map_same f g h (x ∷ xs) = ap₂ (λ a b. a ∷ b) (h x) (map_same f g h xs)

pub dealt_same : (f g : ℕ → ℕ → Row → ℕ) → ((p t : ℕ) (x : Row) → f p t x ≡ g p t x) → (n : ℕ) (sent : List (List Row)) → dealt f n sent ≡ dealt g n sent
dealt_same f g h n sent = map_same (λ j. joined (lanes_to f j 0 sent)) (λ j. joined (lanes_to g j 0 sent)) (λ j. ap joined (same_lanes f g h j 0 sent)) (range_with_len 0 n)

-- turns
pub turn-next : (at first n count : ℕ) → at ≡ (first + n) % count → (at + 1) % count ≡ (first + (n + 1)) % count
turn-next at first n count e = ap (λ a. (a + 1) % count) e ∙ mod-add-mod (first + n) count 1 ∙ ap (λ m. m % count) (omega arith)

pub turn_way : (first p count t : ℕ) → first ≡ p % count → (first + t) % count ≡ (p + t) % count
turn_way first p count t e = ap (λ a. (a + t) % count) e ∙ mod-add-mod p count t
