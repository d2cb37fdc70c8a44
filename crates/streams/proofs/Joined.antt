-- What a join emits is one function of its port lists.
use Rattle.std.proofs.Common.{◌≡◌, ℕ, zero, suc, ◌+◌, ◌<◌, ◌≤◌, ◌==◌, Bool, true, false, not, ◌||◌, cond, ◌⊎◌, inl, inr, refl, sym, ap, ap₂, ◌∙◌, subst, List, [], ◌∷◌, ◌++◌, length, append_assoc, append-nil, length-append, arith, Option, Some, None}
use Rattle.std.specs.declared.cmp.Ordering.{Ordering}
use Rattle.streams.specs.Streams.{Item, row, end, Feed, Out, has_end, rows, items_of, ended, rows_of, emits, FedAfter, whole, Gives}
use Rattle.streams.specs.Operators.{front_run, behind_run, Side, has_other, run_complete, Two, both_complete, least_first, Round, rest_of, then_round, rounds, waiting_rows, all_rounds, side_with, two_with, after, join_machine, join_stream}
use Rattle.streams.proofs.Basics.{and_true, and_left, and_right, or_right}
use Rattle.streams.proofs.Machines.{least_is, after-append, join_is}
use Rattle.streams.proofs.StreamLaws.{true_false, items-append, emits-append, eq_true, eq_false, rows-whole}

module _ {X F : Type 0} (same : X → X → Bool) (itself : (x : X) → same x x ≡ true) (alike : (k x y : X) → same k x ≡ true → same x y ≡ same k y) (cmp : X → X → Ordering) (rule : List X → List X → List (Out X F)) where
  front-append : (p : X → Bool) (xs ys : List X) → has_other p xs ≡ true → front_run p (xs ++ ys) ≡ front_run p xs
  front-append p [] ys h = let e : false ≡ true = h in cc
  front-append p (x ∷ xs) ys h = go (p x) refl (front-append p xs ys)
    where
      go : (b : Bool) → p x ≡ b → (has_other p xs ≡ true → front_run p (xs ++ ys) ≡ front_run p xs) → cond (p x) (x ∷ front_run p (xs ++ ys)) [] ≡ cond (p x) (x ∷ front_run p xs) []
      go true e ih = ap (λ t. cond (p x) (x ∷ t) []) (ih (sym (ap (λ b. not b || has_other p xs) e) ∙ h))
      go false e ih = ap (λ b. cond b (x ∷ front_run p (xs ++ ys)) []) e ∙ sym (ap (λ b. cond b (x ∷ front_run p xs) []) e)

  behind-append : (p : X → Bool) (xs ys : List X) → has_other p xs ≡ true → behind_run p (xs ++ ys) ≡ behind_run p xs ++ ys
  behind-append p [] ys h = let e : false ≡ true = h in cc
  behind-append p (x ∷ xs) ys h = go (p x) refl (behind-append p xs ys)
    where
      go : (b : Bool) → p x ≡ b → (has_other p xs ≡ true → behind_run p (xs ++ ys) ≡ behind_run p xs ++ ys) → cond (p x) (behind_run p (xs ++ ys)) (x ∷ (xs ++ ys)) ≡ cond (p x) (behind_run p xs) (x ∷ xs) ++ ys
      go true e ih = ap (λ b. cond b (behind_run p (xs ++ ys)) (x ∷ (xs ++ ys))) e ∙ ih (sym (ap (λ b. not b || has_other p xs) e) ∙ h) ∙ ap (λ b. cond b (behind_run p xs) (x ∷ xs) ++ ys) (sym e)
      go false e ih = ap (λ b. cond b (behind_run p (xs ++ ys)) (x ∷ (xs ++ ys))) e ∙ ap (λ b. cond b (behind_run p xs) (x ∷ xs) ++ ys) (sym e)

  other-append : (p : X → Bool) (xs ys : List X) → has_other p xs ≡ true → has_other p (xs ++ ys) ≡ true
  other-append p [] ys h = let e : false ≡ true = h in cc
  other-append p (x ∷ xs) ys h = go (not (p x)) h (other-append p xs ys)
    where
      go : (b : Bool) → (b || has_other p xs) ≡ true → (has_other p xs ≡ true → has_other p (xs ++ ys) ≡ true) → (b || has_other p (xs ++ ys)) ≡ true
      go true h ih = refl
      go false h ih = ih h

  other-alike : (p q : X → Bool) (xs : List X) → ((y : X) → p y ≡ q y) → has_other p xs ≡ has_other q xs
  other-alike p q [] h = refl
  other-alike p q (x ∷ xs) h = ap₂ (λ a b. not a || b) (h x) (other-alike p q xs h)

  -- a complete run on a port that is open has a row of another value behind it, whatever value is taken off
  complete_open : (s : Side X) → s.over ≡ false → run_complete same s.over s.rows ≡ true → (k : X) → has_other (same k) s.rows ≡ true
  complete_open s o c k = go s.rows (sym (ap (λ b. run_complete same b s.rows) o) ∙ c)
    where
      go : (rows : List X) → run_complete same false rows ≡ true → has_other (same k) rows ≡ true
      go [] c = absurd (let e : false ≡ true = c in cc)
      go (x ∷ xs) c = by (same k x) refl
        where
          by : (b : Bool) → same k x ≡ b → (not (same k x) || has_other (same k) xs) ≡ true
          by true e = or_right (not (same k x)) (sym (other-alike (same x) (same k) xs (λ y. alike k x y e)) ∙ c)
          by false e = ap (λ b. not b || has_other (same k) xs) e

  -- one more item on an open port whose first run is complete changes nothing of that run
  pub side_complete : (s : Side X) (item : Item X) → s.over ≡ false → run_complete same s.over s.rows ≡ true → run_complete same (side_with s item).over (side_with s item).rows ≡ true
  side_complete s end o c = go s.rows
    where
      go : (rows : List X) → run_complete same true rows ≡ true
      go [] = refl
      go (x ∷ xs) = refl
  side_complete s (row y) o c = go s.rows c
    where
      go : (rows : List X) → run_complete same s.over rows ≡ true → run_complete same s.over (rows ++ y ∷ []) ≡ true
      go [] c = absurd (true_false c o)
      go (x ∷ xs) c = or_right s.over (other-append (same x) xs (y ∷ []) (sym (ap (λ b. b || has_other (same x) xs) o) ∙ c))

  pub side_front : (s : Side X) (item : Item X) (k : X) → s.over ≡ false → run_complete same s.over s.rows ≡ true → front_run (same k) (side_with s item).rows ≡ front_run (same k) s.rows
  side_front s end k o c = refl
  side_front s (row y) k o c = front-append (same k) s.rows (y ∷ []) (complete_open s o c k)

  pub side_behind : (s : Side X) (item : Item X) (k : X) → s.over ≡ false → run_complete same s.over s.rows ≡ true →
      ◌≡◌ {A = Side X} (record { rows = behind_run (same k) (side_with s item).rows; over = (side_with s item).over }) (side_with (record { rows = behind_run (same k) s.rows; over = s.over }) item)
  side_behind s end k o c = refl
  side_behind s (row y) k o c = ap (λ z. record { rows = z; over = s.over }) (behind-append (same k) s.rows (y ∷ []) (complete_open s o c k))

  abbrev stop_at : Two X → Round X F
  stop_at s = record { outs = []; left = s }

  abbrev ruled : X → Two X → List (Out X F)
  ruled k s = rule (front_run (same k) s.left.rows) (front_run (same k) s.right.rows)

  abbrev body : ℕ → Two X → Option X → Round X F
  body n s o = elim o as (λ _. Round X F) [ None ↦ stop_at s | Some k ↦ then_round (ruled k s) (rounds same cmp rule n (rest_of (same k) s)) ]

  least_case : (s : Two X) → ((least_first cmp s.left.rows s.right.rows ≡ None) × (s.left.rows ≡ []) × (s.right.rows ≡ [])) ⊎ ((k : X) × (least_first cmp s.left.rows s.right.rows ≡ Some k) × (waiting_rows (rest_of (same k) s) < waiting_rows s))
  least_case s = least_is same itself cmp rule s.left.rows s.right.rows

  -- with more fuel than rows wait, rounds are the same
  rounds_more : (n : ℕ) (s : Two X) → waiting_rows s ≤ n → rounds same cmp rule (suc n) s ≡ rounds same cmp rule n s
  rounds_more zero s h = go (both_complete same s) (least_case s)
    where
      go : (b : Bool) → ((least_first cmp s.left.rows s.right.rows ≡ None) × (s.left.rows ≡ []) × (s.right.rows ≡ [])) ⊎ ((k : X) × (least_first cmp s.left.rows s.right.rows ≡ Some k) × (waiting_rows (rest_of (same k) s) < waiting_rows s)) → cond b (body zero s (least_first cmp s.left.rows s.right.rows)) (stop_at s) ≡ stop_at s
      go false l = refl
      go true (inl none) = ap (body zero s) none.0
      go true (inr r) = absurd (omega (arith, r.2, h))
  rounds_more (suc n) s h = go (both_complete same s) (least_case s) (λ k lt. rounds_more n (rest_of (same k) s) (omega (arith, lt, h)))
    where
      go : (b : Bool) → ((least_first cmp s.left.rows s.right.rows ≡ None) × (s.left.rows ≡ []) × (s.right.rows ≡ [])) ⊎ ((k : X) × (least_first cmp s.left.rows s.right.rows ≡ Some k) × (waiting_rows (rest_of (same k) s) < waiting_rows s)) →
          ((k : X) → waiting_rows (rest_of (same k) s) < waiting_rows s → rounds same cmp rule (suc n) (rest_of (same k) s) ≡ rounds same cmp rule n (rest_of (same k) s)) →
          cond b (body (suc n) s (least_first cmp s.left.rows s.right.rows)) (stop_at s) ≡ cond b (body n s (least_first cmp s.left.rows s.right.rows)) (stop_at s)
      go false l ih = refl
      go true (inl none) ih = ap (body (suc n) s) none.0 ∙ sym (ap (body n s) none.0)
      go true (inr r) ih = ap (body (suc n) s) r.1 ∙ ap (then_round (ruled r.0 s)) (ih r.0 r.2) ∙ sym (ap (body n s) r.1)

  pub rounds_enough : (n : ℕ) (s : Two X) → waiting_rows s ≤ n → rounds same cmp rule n s ≡ all_rounds same cmp rule s
  rounds_enough zero s h = let e : 0 ≡ waiting_rows s = omega (arith, h) in ap (λ n. rounds same cmp rule n s) e
  rounds_enough (suc n) s h = go (le_or (waiting_rows s) n h) (rounds_enough n s)
    where
      le_or : (w n : ℕ) → w ≤ suc n → (w ≤ n) ⊎ (suc n ≡ w)
      le_or w n h = grind arith

      go : (waiting_rows s ≤ n) ⊎ (suc n ≡ waiting_rows s) → (waiting_rows s ≤ n → rounds same cmp rule n s ≡ all_rounds same cmp rule s) → rounds same cmp rule (suc n) s ≡ all_rounds same cmp rule s
      go (inl le) ih = rounds_more n s le ∙ ih le
      go (inr e) ih = ap (λ n. rounds same cmp rule n s) e

  -- rounds only take rows off
  rounds_shrink : (n : ℕ) (s : Two X) → waiting_rows (rounds same cmp rule n s).left ≤ waiting_rows s
  rounds_shrink zero s = omega arith
  rounds_shrink (suc n) s = go (both_complete same s) (least_case s) (λ k. rounds_shrink n (rest_of (same k) s))
    where
      go : (b : Bool) → ((least_first cmp s.left.rows s.right.rows ≡ None) × (s.left.rows ≡ []) × (s.right.rows ≡ [])) ⊎ ((k : X) × (least_first cmp s.left.rows s.right.rows ≡ Some k) × (waiting_rows (rest_of (same k) s) < waiting_rows s)) →
          ((k : X) → waiting_rows (rounds same cmp rule n (rest_of (same k) s)).left ≤ waiting_rows (rest_of (same k) s)) → waiting_rows (cond b (body n s (least_first cmp s.left.rows s.right.rows)) (stop_at s)).left ≤ waiting_rows s
      go false l ih = omega arith
      go true (inl none) ih = subst (λ o. waiting_rows (body n s o).left ≤ waiting_rows s) (sym none.0) (omega arith)
      go true (inr r) ih = subst (λ o. waiting_rows (body n s o).left ≤ waiting_rows s) (sym r.1) (let i = ih r.0 in omega (arith, i, r.2))

  -- one more item on a side: the left one where b
  abbrev with_item : Bool → Two X → Item X → Two X
  with_item b s item = cond b (record { left = side_with s.left item; right = s.right }) (record { left = s.left; right = side_with s.right item })

  abbrev Open : Bool → Two X → Type 0
  Open b s = cond b s.left.over s.right.over ≡ false

  abbrev adds : Item X → ℕ
  adds (row x) = 1
  adds end = 0

  side_adds : (s : Side X) (item : Item X) → length (side_with s item).rows ≡ length s.rows + adds item
  side_adds s (row x) = length-append s.rows (x ∷ [])
  side_adds s end = omega arith

  with_adds : (b : Bool) (s : Two X) (item : Item X) → waiting_rows (with_item b s item) ≡ waiting_rows s + adds item
  with_adds true s item = let e = side_adds s.left item in omega (arith, e)
  with_adds false s item = let e = side_adds s.right item in omega (arith, e)

  with_complete : (b : Bool) (s : Two X) (item : Item X) → Open b s → both_complete same s ≡ true → both_complete same (with_item b s item) ≡ true
  with_complete true s item o c = and_true (side_complete s.left item o (and_left _ (run_complete same s.right.over s.right.rows) c)) (and_right (run_complete same s.left.over s.left.rows) _ c)
  with_complete false s item o c = and_true (and_left _ (run_complete same s.right.over s.right.rows) c) (side_complete s.right item o (and_right (run_complete same s.left.over s.left.rows) _ c))

  with_rest : (b : Bool) (s : Two X) (item : Item X) (k : X) → Open b s → both_complete same s ≡ true → rest_of (same k) (with_item b s item) ≡ with_item b (rest_of (same k) s) item
  with_rest true s item k o c = ap (λ (z : Side X). record { left = z; right = record { rows = behind_run (same k) s.right.rows; over = s.right.over } }) (side_behind s.left item k o (and_left _ (run_complete same s.right.over s.right.rows) c))
  with_rest false s item k o c = ap (λ (z : Side X). record { left = record { rows = behind_run (same k) s.left.rows; over = s.left.over }; right = z }) (side_behind s.right item k o (and_right (run_complete same s.left.over s.left.rows) _ c))

  with_ruled : (b : Bool) (s : Two X) (item : Item X) (k : X) → Open b s → both_complete same s ≡ true → ruled k (with_item b s item) ≡ ruled k s
  with_ruled true s item k o c = ap (λ z. rule z (front_run (same k) s.right.rows)) (side_front s.left item k o (and_left _ (run_complete same s.right.over s.right.rows) c))
  with_ruled false s item k o c = ap (λ z. rule (front_run (same k) s.left.rows) z) (side_front s.right item k o (and_right (run_complete same s.left.over s.left.rows) _ c))

  -- a complete run on an open side isn't empty
  open_rows : (s : Side X) → s.over ≡ false → run_complete same s.over s.rows ≡ true → s.rows ≡ [] → ⊥
  open_rows s o c e = true_false (sym (ap (run_complete same s.over) e) ∙ c) o

  least_left : (a b ys : List X) → (a ≡ [] → ⊥) → least_first cmp (a ++ ys) b ≡ least_first cmp a b
  least_left [] b ys n = absurd (n refl)
  least_left (x ∷ a) [] ys n = refl
  least_left (x ∷ a) (y ∷ b) ys n = refl

  least_right : (a b ys : List X) → (b ≡ [] → ⊥) → least_first cmp a (b ++ ys) ≡ least_first cmp a b
  least_right a [] ys n = absurd (n refl)
  least_right [] (y ∷ b) ys n = refl
  least_right (x ∷ a) (y ∷ b) ys n = refl

  with_least : (b : Bool) (s : Two X) (item : Item X) → Open b s → both_complete same s ≡ true → least_first cmp (with_item b s item).left.rows (with_item b s item).right.rows ≡ least_first cmp s.left.rows s.right.rows
  with_least true s end o c = refl
  with_least false s end o c = refl
  with_least true s (row x) o c = least_left s.left.rows s.right.rows (x ∷ []) (open_rows s.left o (and_left _ (run_complete same s.right.over s.right.rows) c))
  with_least false s (row x) o c = least_right s.left.rows s.right.rows (x ∷ []) (open_rows s.right o (and_right (run_complete same s.left.over s.left.rows) _ c))

  not_empty : (b : Bool) (s : Two X) → Open b s → both_complete same s ≡ true → s.left.rows ≡ [] → s.right.rows ≡ [] → ⊥
  not_empty true s o c l r = open_rows s.left o (and_left _ (run_complete same s.right.over s.right.rows) c) l
  not_empty false s o c l r = open_rows s.right o (and_right (run_complete same s.left.over s.left.rows) _ c) r

  -- rounds before an item and rounds after it are the rounds with it
  pub rounds_on : (n : ℕ) (b : Bool) (s : Two X) (item : Item X) → Open b s → waiting_rows (with_item b s item) ≤ n →
      rounds same cmp rule n (with_item b s item) ≡ then_round (rounds same cmp rule n s).outs (rounds same cmp rule n (with_item b (rounds same cmp rule n s).left item))
  rounds_on zero b s item o h = refl
  rounds_on (suc n) b s item o h = go (both_complete same s) refl (least_case s) (λ k le. rounds_on n b (rest_of (same k) s) item (rest_open b k o) le)
    where
      rest_open : (b : Bool) (k : X) → Open b s → Open b (rest_of (same k) s)
      rest_open true k o = o
      rest_open false k o = o

      Goal : Round X F → Type 0
      Goal r = rounds same cmp rule (suc n) (with_item b s item) ≡ then_round r.outs (rounds same cmp rule (suc n) (with_item b r.left item))

      go : (c : Bool) → both_complete same s ≡ c → ((least_first cmp s.left.rows s.right.rows ≡ None) × (s.left.rows ≡ []) × (s.right.rows ≡ [])) ⊎ ((k : X) × (least_first cmp s.left.rows s.right.rows ≡ Some k) × (waiting_rows (rest_of (same k) s) < waiting_rows s)) →
          ((k : X) → waiting_rows (with_item b (rest_of (same k) s) item) ≤ n → rounds same cmp rule n (with_item b (rest_of (same k) s) item) ≡ then_round (rounds same cmp rule n (rest_of (same k) s)).outs (rounds same cmp rule n (with_item b (rounds same cmp rule n (rest_of (same k) s)).left item))) →
          rounds same cmp rule (suc n) (with_item b s item) ≡ then_round (rounds same cmp rule (suc n) s).outs (rounds same cmp rule (suc n) (with_item b (rounds same cmp rule (suc n) s).left item))
      go false c l ih = ap (λ (r : Round X F). then_round r.outs (rounds same cmp rule (suc n) (with_item b r.left item))) (sym (ap (λ t. cond t (body n s (least_first cmp s.left.rows s.right.rows)) (stop_at s)) c))
      go true c (inl none) ih = absurd (not_empty b s o c none.1 none.2)
      go true c (inr (k, is, lt)) ih =
          let w : Two X = with_item b s item in
          let r : Two X = rest_of (same k) s in
          let inside : Round X F = rounds same cmp rule n r in
          let fits : waiting_rows (with_item b r item) ≤ n = (let x = with_adds b r item in let y = with_adds b s item in omega (arith, x, y, lt, h)) in
          let left_fits : waiting_rows (with_item b inside.left item) ≤ n = (let x = with_adds b inside.left item in let y = with_adds b r item in let z = rounds_shrink n r in omega (arith, x, y, z, fits)) in
          let lhs : rounds same cmp rule (suc n) w ≡ then_round (ruled k s) (rounds same cmp rule n (with_item b r item)) =
          ap (λ t. cond t (body n w (least_first cmp w.left.rows w.right.rows)) (stop_at w)) (with_complete b s item o c) ∙ ap (body n w) (with_least b s item o c ∙ is)
          ∙ ap₂ (λ u v. then_round u (rounds same cmp rule n v)) (with_ruled b s item k o c) (with_rest b s item k o c) in
          let rhs : rounds same cmp rule (suc n) s ≡ then_round (ruled k s) inside = ap (λ t. cond t (body n s (least_first cmp s.left.rows s.right.rows)) (stop_at s)) c ∙ ap (body n s) is in
          lhs ∙ ap (then_round (ruled k s)) (ih k fits)
          ∙ ap (λ z. record { outs = z; left = (rounds same cmp rule n (with_item b inside.left item)).left }) (sym (append_assoc (ruled k s) inside.outs (rounds same cmp rule n (with_item b inside.left item)).outs))
          ∙ ap (then_round (ruled k s ++ inside.outs)) (sym (rounds_more n (with_item b inside.left item) left_fits))
          ∙ ap (λ (z : Round X F). then_round z.outs (rounds same cmp rule (suc n) (with_item b z.left item))) (sym rhs)

  abbrev sides : List (Feed X) → Two X
  sides feeds = record { left = record { rows = rows_of 0 feeds; over = ended 0 feeds }; right = record { rows = rows_of 1 feeds; over = ended 1 feeds } }

  abbrev M : List (Feed X) → Two X
  M feeds = after (join_machine same cmp rule) (join_machine same cmp rule).start feeds

  rows-snoc : (items : List (Item X)) (item : Item X) → ◌≡◌ {A = Side X} (record { rows = rows (items ++ item ∷ []); over = has_end (items ++ item ∷ []) }) (side_with (record { rows = rows items; over = has_end items }) item)
  rows-snoc [] (row x) = refl
  rows-snoc [] end = refl
  rows-snoc (row y ∷ items) (row x) = ap (λ (z : Side X). record { rows = y ∷ z.rows; over = z.over }) (rows-snoc items (row x))
  rows-snoc (row y ∷ items) end = ap (λ (z : Side X). record { rows = y ∷ z.rows; over = z.over }) (rows-snoc items end)
  rows-snoc (end ∷ items) (row x) = ap (λ (z : Side X). record { rows = z.rows; over = true }) (rows-snoc items (row x))
  rows-snoc (end ∷ items) end = ap (λ (z : Side X). record { rows = z.rows; over = true }) (rows-snoc items end)

  side_here : (i : ℕ) (feeds : List (Feed X)) (f : Feed X) → f.port ≡ i → ◌≡◌ {A = Side X} (record { rows = rows_of i (feeds ++ f ∷ []); over = ended i (feeds ++ f ∷ []) }) (side_with (record { rows = rows_of i feeds; over = ended i feeds }) f.item)
  side_here i feeds f e = ap (λ z. record { rows = rows z; over = has_end z }) (items-append i feeds (f ∷ []) ∙ ap (λ b. items_of i feeds ++ cond b (f.item ∷ []) []) (eq_true f.port i e)) ∙ rows-snoc (items_of i feeds) f.item

  side_there : (i : ℕ) (feeds : List (Feed X)) (f : Feed X) → (f.port ≡ i → ⊥) → ◌≡◌ {A = Side X} (record { rows = rows_of i (feeds ++ f ∷ []); over = ended i (feeds ++ f ∷ []) }) (record { rows = rows_of i feeds; over = ended i feeds })
  side_there i feeds f n = ap (λ z. record { rows = rows z; over = has_end z }) (items-append i feeds (f ∷ []) ∙ ap (λ b. items_of i feeds ++ cond b (f.item ∷ []) []) (eq_false f.port i n) ∙ append-nil (items_of i feeds))

  abbrev FromLists : List (Feed X) → Type 0
  FromLists feeds = (M feeds ≡ (all_rounds same cmp rule (sides feeds)).left) × (emits (join_stream same cmp rule) feeds ≡ (all_rounds same cmp rule (sides feeds)).outs)

  one_side : (b : Bool) (feeds : List (Feed X)) (f : Feed X) → FromLists feeds → Open b (sides feeds) → sides (feeds ++ f ∷ []) ≡ with_item b (sides feeds) f.item → ((s : Two X) → two_with s f ≡ with_item b s f.item) → FromLists (feeds ++ f ∷ [])
  one_side b feeds f from o now with_f =
      let s : Two X = sides feeds in
      let n : ℕ = waiting_rows (with_item b s f.item) in
      let before : Round X F = all_rounds same cmp rule s in
      let enough : rounds same cmp rule n s ≡ before = rounds_enough n s (let e = with_adds b s f.item in omega (arith, e)) in
      let next : Round X F = all_rounds same cmp rule (with_item b before.left f.item) in
      let all_is : all_rounds same cmp rule (sides (feeds ++ f ∷ [])) ≡ then_round before.outs next =
      ap (all_rounds same cmp rule) now ∙ rounds_on n b s f.item o (omega arith) ∙ ap (λ (r : Round X F). then_round r.outs (rounds same cmp rule n (with_item b r.left f.item))) enough
      ∙ ap (then_round before.outs) (rounds_enough n (with_item b before.left f.item) (let x = with_adds b s f.item in let y = with_adds b before.left f.item in let z = rounds_shrink (waiting_rows s) s in omega (arith, x, y, z))) in
      let fed : all_rounds same cmp rule (two_with (M feeds) f) ≡ next = ap (all_rounds same cmp rule) (with_f (M feeds) ∙ ap (λ z. with_item b z f.item) from.0) in (
        after-append (join_machine same cmp rule) (join_machine same cmp rule).start feeds (f ∷ []) ∙ ap (λ (r : Round X F). r.left) fed ∙ ap (λ (r : Round X F). r.left) (sym all_is),
        emits-append (join_stream same cmp rule) [] feeds (f ∷ []) ∙ ap₂ (λ u v. u ++ v) from.1 (append-nil _ ∙ ap (λ (r : Round X F). r.outs) fed) ∙ ap (λ (r : Round X F). r.outs) (sym all_is),
      )

  list_step : (feeds : List (Feed X)) (f : Feed X) → FromLists feeds → (join_stream same cmp rule).wants feeds f.port ≡ true → FromLists (feeds ++ f ∷ [])
  list_step feeds f from w = go f.port refl ((join_is same itself cmp rule).opens feeds f.port w)
    where
      go : (i : ℕ) → f.port ≡ i → (f.port < 2) × (ended f.port feeds ≡ false) → FromLists (feeds ++ f ∷ [])
      go zero e o = one_side true feeds f from (ap (λ z. ended z feeds) (sym e) ∙ o.1)
          (ap₂ (λ (u v : Side X). record { left = u; right = v }) (side_here 0 feeds f e) (side_there 1 feeds f (λ q. absurd (omega (arith, e, q)))))
          (λ s. ap (λ b. cond b (record { left = side_with s.left f.item; right = s.right }) (cond (f.port == 1) (record { left = s.left; right = side_with s.right f.item }) s)) (eq_true f.port 0 e))
      go (suc zero) e o = one_side false feeds f from (ap (λ z. ended z feeds) (sym e) ∙ o.1)
          (ap₂ (λ (u v : Side X). record { left = u; right = v }) (side_there 0 feeds f (λ q. absurd (omega (arith, e, q)))) (side_here 1 feeds f e))
          (λ s. ap₂ (λ b c. cond b (record { left = side_with s.left f.item; right = s.right }) (cond c (record { left = s.left; right = side_with s.right f.item }) s)) (eq_false f.port 0 (λ q. absurd (omega (arith, e, q)))) (eq_true f.port 1 e))
      go (suc (suc i)) e o = absurd (omega (arith, e, o.0))

  lists_from_feeds : (done feeds : List (Feed X)) → FromLists done → FedAfter (join_stream same cmp rule) done feeds → FromLists (done ++ feeds)
  lists_from_feeds done [] from h = subst FromLists (sym (append-nil done)) from
  lists_from_feeds done (f ∷ feeds) from h = subst FromLists (append_assoc done (f ∷ []) feeds) (lists_from_feeds (done ++ f ∷ []) feeds (list_step done f from h.0) h.1)

  -- what a join gives: rounds over the whole lists
  pub join_gives : (lists : ℕ → List X) (outs : List (Out X F)) → Gives (join_stream same cmp rule) lists outs →
      outs ≡ (all_rounds same cmp rule (record { left = record { rows = lists 0; over = true }; right = record { rows = lists 1; over = true } })).outs
  join_gives lists outs g =
      sym g.made ∙ (lists_from_feeds [] g.feeds (refl, refl) g.fed).1 ∙ ap₂ (λ (u v : Side X). (all_rounds same cmp rule (record { left = u; right = v })).outs) (side_is 0 (g.taken 0 (omega arith))) (side_is 1 (g.taken 1 (omega arith)))
    where
      ends : (xs : List X) → has_end (whole xs) ≡ true
      ends [] = refl
      ends (x ∷ xs) = ends xs

      side_is : (i : ℕ) → items_of i g.feeds ≡ whole (lists i) → ◌≡◌ {A = Side X} (record { rows = rows_of i g.feeds; over = ended i g.feeds }) (record { rows = lists i; over = true })
      side_is i e = ap (λ z. record { rows = rows z; over = has_end z }) e ∙ ap₂ (λ u v. record { rows = u; over = v }) (rows-whole (lists i)) (ends (lists i))
