-- Joins and merges as streams.
use Rattle.std.proofs.Common.{◌≡◌, ℕ, zero, suc, ◌+◌, ◌<◌, ◌≤◌, ◌==◌, Bool, true, false, not, ◌&&◌, ◌||◌, cond, ◌⊎◌, inl, inr, refl, sym, ap, ap₂, ◌∙◌, subst, List, [], ◌∷◌, ◌++◌, length, append_assoc, append-nil, arith, Option, Some, None}
use Rattle.std.specs.declared.cmp.Ordering.{Ordering}
use Rattle.std.specs.Ordering.{is_lt, is_gt}
use Rattle.std.proofs.lemmas.Bool.Decides.{eqb_tells}
use Rattle.streams.specs.Lists.{is_empty}
use Rattle.streams.specs.Streams.{Item, row, end, Feed, Out, has_end, items_of, ended, all_ended, FedAfter, Fed, IsStream, IsSingle, AtMostOne, IsCollector}
use Rattle.streams.specs.Operators.{picks, by_number, Machine, after, front_run, behind_run, Side, run_complete, Two, both_complete, least_first, Round, rest_of, then_round, rounds, waiting_rows, side_with, two_with, run_asks, join_machine, join_stream, Waiting, set_at, waiting_with, merge_asks, Front, better, best_of, merge_ready, without_front, front_outs, merge_machine, merge_stream}
use Rattle.streams.proofs.Basics.{and_true, and_left, and_right, or_right}
use Rattle.streams.proofs.StreamLaws.{eq_true, eq_false, all_at, all_from, all_or, not_all, true_false}
use Rattle.streams.proofs.Picks.{not_true, not_false, picks_open, picks_some, picks_single}

pub after-append : {S X F : Type 0} (m : Machine S X F) (s : S) (xs ys : List (Feed X)) → after m s (xs ++ ys) ≡ after m (after m s xs) ys
after-append m s [] ys = refl
after-append m s (x ∷ xs) ys = after-append m (m.next s x) xs ys

or_false : (a b : Bool) → (a || b) ≡ false → a ≡ false
or_false true b h = h
or_false false b h = refl

or_false_true : (b : Bool) → (b || false) ≡ b
or_false_true true = refl
or_false_true false = refl

or_assoc : (a b c : Bool) → ((a || b) || c) ≡ (a || (b || c))
or_assoc true b c = refl
or_assoc false b c = refl

module _ {X F : Type 0} (same : X → X → Bool) (itself : (x : X) → same x x ≡ true) (cmp : X → X → Ordering) (rule : List X → List X → List (Out X F)) where
  -- what rounds leave: a run that isn't complete, or nothing
  abbrev Stuck : Two X → Type 0
  Stuck s = (both_complete same s ≡ false) ⊎ ((s.left.over ≡ true) × (s.right.over ≡ true))

  -- nothing is left of two sides that are complete
  empty_stuck : (s : Two X) → s.left.rows ≡ [] → s.right.rows ≡ [] → Stuck s
  empty_stuck s l r = go s.left.over refl s.right.over refl
    where
      both : (a b : Bool) → s.left.over ≡ a → s.right.over ≡ b → both_complete same s ≡ (a && b)
      both a b e f = ap₂ (λ x y. x && y) (ap (run_complete same s.left.over) l ∙ e) (ap (run_complete same s.right.over) r ∙ f)

      go : (a : Bool) → s.left.over ≡ a → (b : Bool) → s.right.over ≡ b → Stuck s
      go true e true f = inr (e, f)
      go true e false f = inl (both true false e f)
      go false e b f = inl (both false b e f)

  pub shorter_or : (p : X → Bool) (xs : List X) → length (behind_run p xs) ≤ length xs
  shorter_or p [] = omega arith
  shorter_or p (x ∷ xs) = go (p x) (shorter_or p xs)
    where
      go : (b : Bool) → length (behind_run p xs) ≤ length xs → length (cond b (behind_run p xs) (x ∷ xs)) ≤ suc (length xs)
      go true h = omega (arith, h)
      go false h = omega arith

  shorter : (x : X) (xs : List X) → length (behind_run (same x) (x ∷ xs)) < length (x ∷ xs)
  shorter x xs = subst (λ b. length (cond b (behind_run (same x) xs) (x ∷ xs)) < suc (length xs)) (sym (itself x)) (let h = shorter_or (same x) xs in omega (arith, h))

  -- the least of the first rows is the first of a side, or both are empty
  pub least_is : (a b : List X) → ((least_first cmp a b ≡ None) × (a ≡ []) × (b ≡ [])) ⊎ ((k : X) × (least_first cmp a b ≡ Some k) × (length (behind_run (same k) a) + length (behind_run (same k) b) < length a + length b))
  least_is [] [] = inl (refl, refl, refl)
  least_is [] (b ∷ more) = inr (b, refl, let h = shorter b more in omega (arith, h))
  least_is (a ∷ rest) [] = inr (a, refl, let h = shorter a rest in omega (arith, h))
  least_is (a ∷ rest) (b ∷ more) = go (is_gt (cmp a b))
    where
      go : (t : Bool) → ((cond t (Some b) (Some a) ≡ None) × (a ∷ rest ≡ []) × (b ∷ more ≡ [])) ⊎ ((k : X) × (cond t (Some b) (Some a) ≡ Some k) × (length (behind_run (same k) (a ∷ rest)) + length (behind_run (same k) (b ∷ more)) < length (a ∷ rest) + length (b ∷ more)))
      go true = inr (b, refl, let h = shorter b more in let j = shorter_or (same b) (a ∷ rest) in omega (arith, h, j))
      go false = inr (a, refl, let h = shorter a rest in let j = shorter_or (same a) (b ∷ more) in omega (arith, h, j))

  pub no_rows : (xs : List X) → length xs ≤ 0 → xs ≡ []
  no_rows [] h = refl
  no_rows (x ∷ xs) h = absurd (omega arith)

  rounds_stuck : (n : ℕ) (s : Two X) → waiting_rows s ≤ n → Stuck (rounds same cmp rule n s).left
  rounds_stuck zero s h = empty_stuck s (no_rows s.left.rows (omega arith)) (no_rows s.right.rows (omega arith))
  rounds_stuck (suc n) s h = go (both_complete same s) refl (least_is s.left.rows s.right.rows) (λ k lt. rounds_stuck n (rest_of (same k) s) (omega (arith, lt)))
    where
      Body : Option X → Round X F
      Body o = elim o as (λ _. Round X F) [ None ↦ record { outs = []; left = s } | Some k ↦ then_round (rule (front_run (same k) s.left.rows) (front_run (same k) s.right.rows)) (rounds same cmp rule n (rest_of (same k) s)) ]

      go : (b : Bool) → both_complete same s ≡ b → ((least_first cmp s.left.rows s.right.rows ≡ None) × (s.left.rows ≡ []) × (s.right.rows ≡ [])) ⊎ ((k : X) × (least_first cmp s.left.rows s.right.rows ≡ Some k) × (length (behind_run (same k) s.left.rows) + length (behind_run (same k) s.right.rows) < length s.left.rows + length s.right.rows)) →
          ((k : X) → length (behind_run (same k) s.left.rows) + length (behind_run (same k) s.right.rows) < length s.left.rows + length s.right.rows → Stuck (rounds same cmp rule n (rest_of (same k) s)).left) → Stuck (rounds same cmp rule (suc n) s).left
      go false e least rest = subst (λ b. Stuck (cond b (Body (least_first cmp s.left.rows s.right.rows)) (record { outs = []; left = s })).left) (sym e) (inl e)
      go true e (inl none) rest = subst (λ b. Stuck (cond b (Body (least_first cmp s.left.rows s.right.rows)) (record { outs = []; left = s })).left) (sym e) (subst (λ o. Stuck (Body o).left) (sym none.0) (empty_stuck s none.1 none.2))
      go true e (inr some) rest = subst (λ b. Stuck (cond b (Body (least_first cmp s.left.rows s.right.rows)) (record { outs = []; left = s })).left) (sym e) (subst (λ o. Stuck (Body o).left) (sym some.1) (rest some.0 some.2))

  -- rounds don't change what has ended
  pub rounds_over : (n : ℕ) (s : Two X) → ((rounds same cmp rule n s).left.left.over ≡ s.left.over) × ((rounds same cmp rule n s).left.right.over ≡ s.right.over)
  rounds_over zero s = (refl, refl)
  rounds_over (suc n) s = go (both_complete same s) (least_first cmp s.left.rows s.right.rows) (λ k. rounds_over n (rest_of (same k) s))
    where
      Body : Option X → Round X F
      Body o = elim o as (λ _. Round X F) [ None ↦ record { outs = []; left = s } | Some k ↦ then_round (rule (front_run (same k) s.left.rows) (front_run (same k) s.right.rows)) (rounds same cmp rule n (rest_of (same k) s)) ]

      go : (b : Bool) (o : Option X) → ((k : X) → ((rounds same cmp rule n (rest_of (same k) s)).left.left.over ≡ s.left.over) × ((rounds same cmp rule n (rest_of (same k) s)).left.right.over ≡ s.right.over)) →
          ((cond b (Body o) (record { outs = []; left = s })).left.left.over ≡ s.left.over) × ((cond b (Body o) (record { outs = []; left = s })).left.right.over ≡ s.right.over)
      go false o rest = (refl, refl)
      go true None rest = (refl, refl)
      go true (Some k) rest = rest k

  abbrev M : Machine (Two X) X F
  M = join_machine same cmp rule

  side_over : (s : Side X) (item : Item X) (b : Bool) → (side_with s item).over ≡ (s.over || has_end (item ∷ []))
  side_over s (row x) b = sym (or_false_true s.over)
  side_over s end b = sym (or_right s.over refl)

  two_over : (s : Two X) (f : Feed X) → ((two_with s f).left.over ≡ (s.left.over || has_end (items_of 0 (f ∷ [])))) × ((two_with s f).right.over ≡ (s.right.over || has_end (items_of 1 (f ∷ []))))
  two_over s f = go (eqb_tells f.port 0) (eqb_tells f.port 1)
    where
      go : (((f.port == 0) ≡ true) × (f.port ≡ 0)) ⊎ (((f.port == 0) ≡ false) × (f.port ≡ 0 → ⊥)) → (((f.port == 1) ≡ true) × (f.port ≡ 1)) ⊎ (((f.port == 1) ≡ false) × (f.port ≡ 1 → ⊥)) →
          ((two_with s f).left.over ≡ (s.left.over || has_end (items_of 0 (f ∷ [])))) × ((two_with s f).right.over ≡ (s.right.over || has_end (items_of 1 (f ∷ []))))
      go (inl a) (inl b) = let n : ◌≡◌ {A = ℕ} 0 1 = sym a.1 ∙ b.1 in absurd (omega (arith, n))
      go (inl a) (inr b) = (
        ap (λ t. (cond t (record { left = side_with s.left f.item; right = s.right }) (cond (f.port == 1) (record { left = s.left; right = side_with s.right f.item }) s)).left.over) a.0 ∙ side_over s.left f.item true ∙ ap (λ t. s.left.over || has_end (cond t (f.item ∷ []) [])) (sym a.0),
        ap (λ t. (cond t (record { left = side_with s.left f.item; right = s.right }) (cond (f.port == 1) (record { left = s.left; right = side_with s.right f.item }) s)).right.over) a.0 ∙ sym (or_false_true s.right.over) ∙ ap (λ t. s.right.over || has_end (cond t (f.item ∷ []) [])) (sym b.0),
      )
      go (inr a) (inl b) = (
        ap₂ (λ t u. (cond t (record { left = side_with s.left f.item; right = s.right }) (cond u (record { left = s.left; right = side_with s.right f.item }) s)).left.over) a.0 b.0 ∙ sym (or_false_true s.left.over) ∙ ap (λ t. s.left.over || has_end (cond t (f.item ∷ []) [])) (sym a.0),
        ap₂ (λ t u. (cond t (record { left = side_with s.left f.item; right = s.right }) (cond u (record { left = s.left; right = side_with s.right f.item }) s)).right.over) a.0 b.0 ∙ side_over s.right f.item true ∙ ap (λ t. s.right.over || has_end (cond t (f.item ∷ []) [])) (sym b.0),
      )
      go (inr a) (inr b) = (
        ap₂ (λ t u. (cond t (record { left = side_with s.left f.item; right = s.right }) (cond u (record { left = s.left; right = side_with s.right f.item }) s)).left.over) a.0 b.0 ∙ sym (or_false_true s.left.over) ∙ ap (λ t. s.left.over || has_end (cond t (f.item ∷ []) [])) (sym a.0),
        ap₂ (λ t u. (cond t (record { left = side_with s.left f.item; right = s.right }) (cond u (record { left = s.left; right = side_with s.right f.item }) s)).right.over) a.0 b.0 ∙ sym (or_false_true s.right.over) ∙ ap (λ t. s.right.over || has_end (cond t (f.item ∷ []) [])) (sym b.0),
      )

  has_end-first : (i : ℕ) (f : Feed X) (feeds : List (Feed X)) → has_end (items_of i (f ∷ feeds)) ≡ (has_end (items_of i (f ∷ [])) || has_end (items_of i feeds))
  has_end-first i f feeds = go (f.port == i) f.item
    where
      go : (b : Bool) (item : Item X) → has_end (cond b (item ∷ items_of i feeds) (items_of i feeds)) ≡ (has_end (cond b (item ∷ []) []) || has_end (items_of i feeds))
      go true (row x) = refl
      go true end = refl
      go false item = refl

  after_over : (s : Two X) (feeds : List (Feed X)) → ((after M s feeds).left.over ≡ (s.left.over || ended 0 feeds)) × ((after M s feeds).right.over ≡ (s.right.over || ended 1 feeds))
  after_over s [] = (sym (or_false_true s.left.over), sym (or_false_true s.right.over))
  after_over s (f ∷ feeds) =
      let ih = after_over (M.next s f) feeds in
      let o = rounds_over (waiting_rows (two_with s f)) (two_with s f) in
      let t = two_over s f in (
        ih.0 ∙ ap (λ b. b || ended 0 feeds) (o.0 ∙ t.0) ∙ or_assoc s.left.over _ _ ∙ ap (λ b. s.left.over || b) (sym (has_end-first 0 f feeds)),
        ih.1 ∙ ap (λ b. b || ended 1 feeds) (o.1 ∙ t.1) ∙ or_assoc s.right.over _ _ ∙ ap (λ b. s.right.over || b) (sym (has_end-first 1 f feeds)),
      )

  after_stuck : (s : Two X) (feeds : List (Feed X)) → Stuck s → Stuck (after M s feeds)
  after_stuck s [] h = h
  after_stuck s (f ∷ feeds) h = after_stuck (M.next s f) feeds (rounds_stuck (waiting_rows (two_with s f)) (two_with s f) (omega arith))

  not_over : (over : Bool) (xs : List X) → run_complete same over xs ≡ false → over ≡ false
  not_over over [] h = h
  not_over over (x ∷ xs) h = or_false over _ h

  pub join_is : IsStream (join_stream same cmp rule)
  join_is = record {
    some = omega arith;
    opens = λ feeds i w.
        let o = picks_open 2 by_number (run_asks same (after M M.start feeds)) i w in
        (o.0, still feeds i o.0 o.1);
    hungry = λ feeds fed. go feeds (after_stuck M.start feeds (inl refl));
  }
    where
      still : (feeds : List (Feed X)) (i : ℕ) → i < 2 → run_asks same (after M M.start feeds) i ≡ true → ended i feeds ≡ false
      still feeds zero lt a = sym (after_over M.start feeds).0 ∙ not_over _ (after M M.start feeds).left.rows (not_true _ a)
      still feeds (suc zero) lt a = sym (after_over M.start feeds).1 ∙ not_over _ (after M M.start feeds).right.rows (not_true _ a)
      still feeds (suc (suc i)) lt a = absurd (omega arith)

      side : (feeds : List (Feed X)) (a b : Bool) → run_complete same (after M M.start feeds).left.over (after M M.start feeds).left.rows ≡ a → run_complete same (after M M.start feeds).right.over (after M M.start feeds).right.rows ≡ b → (a && b) ≡ false → (i : ℕ) × ((join_stream same cmp rule).wants feeds i ≡ true)
      side feeds false b e f h = picks_some 2 by_number (run_asks same (after M M.start feeds)) 0 (omega arith) (ap not e)
      side feeds true false e f h = picks_some 2 by_number (run_asks same (after M M.start feeds)) 1 (omega arith) (ap not f)
      side feeds true true e f h = absurd (let n : true ≡ false = h in cc)

      go : (feeds : List (Feed X)) → Stuck (after M M.start feeds) → ((i : ℕ) × ((join_stream same cmp rule).wants feeds i ≡ true)) ⊎ (all_ended (join_stream same cmp rule) feeds ≡ true)
      go feeds (inl h) = inl (side feeds _ _ refl refl h)
      go feeds (inr h) = inr (and_true (sym (after_over M.start feeds).1 ∙ h.1) (and_true (sym (after_over M.start feeds).0 ∙ h.0) refl))

  pub join_single : IsSingle (join_stream same cmp rule)
  join_single feeds i j = picks_single 2 by_number (run_asks same (after M M.start feeds)) (λ a b la lb e. e) i j

eq_flip : (a b : ℕ) → (a == b) ≡ (b == a)
eq_flip a b = elim (eqb_tells a b) [ inl t ↦ t.0 ∙ sym (eq_true b a (sym t.1)) | inr t ↦ t.0 ∙ sym (eq_false b a (λ e. t.1 (sym e))) ]

pub set_at-case : {A : Type 0} (P : A → Type 0) (f : ℕ → A) (i : ℕ) (v : A) (j : ℕ) → (j ≡ i → P v) → ((j ≡ i → ⊥) → P (f j)) → P (set_at f i v j)
set_at-case {A} P f i v j here there = by (eqb_tells j i)
  where
    by : (((j == i) ≡ true) × (j ≡ i)) ⊎ (((j == i) ≡ false) × (j ≡ i → ⊥)) → P (set_at f i v j)
    by (inl e) = subst (λ b. P (cond b v (f j))) (sym e.0) (here e.1)
    by (inr e) = subst (λ b. P (cond b v (f j))) (sym e.0) (there e.1)

pub none_is : {X : Type 0} (xs : List X) → is_empty xs ≡ true → xs ≡ []
none_is [] h = refl
none_is (x ∷ xs) h = let e : false ≡ true = h in cc

module _ {X : Type 0} (F : Type 0) (n : ℕ) (some : 0 < n) (cmp : X → X → Ordering) where
  abbrev MM : Machine (Waiting X) X F
  MM = merge_machine n cmp

  -- the least front among k lists, or all are empty
  pub best_is : (k : ℕ) (rows : ℕ → List X) → ((best_of cmp k rows ≡ None) × ((j : ℕ) → j < k → rows j ≡ [])) ⊎ ((b : Front X) × (best_of cmp k rows ≡ Some b) × (b.port < k) × (rows b.port ≡ b.row ∷ b.rest))
  best_is zero rows = inl (refl, λ j lt. absurd (omega arith))
  best_is (suc k) rows = go (rows k) refl (best_is k rows)
    where
      below : (j k : ℕ) → j < suc k → (j ≡ k → ⊥) → j < k
      below j k lt ne = grind arith

      go : (xs : List X) → rows k ≡ xs → ((best_of cmp k rows ≡ None) × ((j : ℕ) → j < k → rows j ≡ [])) ⊎ ((b : Front X) × (best_of cmp k rows ≡ Some b) × (b.port < k) × (rows b.port ≡ b.row ∷ b.rest)) →
          ((better cmp (best_of cmp k rows) k (rows k) ≡ None) × ((j : ℕ) → j < suc k → rows j ≡ [])) ⊎ ((b : Front X) × (better cmp (best_of cmp k rows) k (rows k) ≡ Some b) × (b.port < suc k) × (rows b.port ≡ b.row ∷ b.rest))
      go [] e (inl none) = inl (ap₂ (λ o xs. better cmp o k xs) none.0 e, λ j lt. elim (eqb_tells j k) [ inl t ↦ ap rows t.1 ∙ e | inr t ↦ none.1 j (below j k lt t.1) ])
      go [] e (inr r) = inr (r.0, ap₂ (λ o xs. better cmp o k xs) r.1 e, omega (arith, r.2), r.3)
      go (x ∷ xs) e (inl none) = inr (record { port = k; row = x; rest = xs }, ap₂ (λ o ys. better cmp o k ys) none.0 e, omega arith, e)
      go (x ∷ xs) e (inr r) = by (is_lt (cmp x r.0.row)) refl
        where
          by : (t : Bool) → is_lt (cmp x r.0.row) ≡ t → ((better cmp (best_of cmp k rows) k (rows k) ≡ None) × ((j : ℕ) → j < suc k → rows j ≡ [])) ⊎ ((b : Front X) × (better cmp (best_of cmp k rows) k (rows k) ≡ Some b) × (b.port < suc k) × (rows b.port ≡ b.row ∷ b.rest))
          by true f = inr (record { port = k; row = x; rest = xs }, ap₂ (λ o ys. better cmp o k ys) r.1 e ∙ ap (λ b. cond b (Some (record { port = k; row = x; rest = xs })) (Some r.0)) f, omega arith, e)
          by false f = inr (r.0, ap₂ (λ o ys. better cmp o k ys) r.1 e ∙ ap (λ b. cond b (Some (record { port = k; row = x; rest = xs })) (Some r.0)) f, omega (arith, r.2), r.3)

  pub front_over : (s : Waiting X) (b : Bool) (o : Option (Front X)) (i : ℕ) → (cond b (without_front s o) s).over i ≡ s.over i
  front_over s false o i = refl
  front_over s true None i = refl
  front_over s true (Some f) i = refl

  with_over : (s : Waiting X) (f : Feed X) (i : ℕ) → (waiting_with s f.port f.item).over i ≡ (s.over i || has_end (items_of i (f ∷ [])))
  with_over s f i = go f.item
    where
      go : (item : Item X) → (waiting_with s f.port item).over i ≡ (s.over i || has_end (cond (f.port == i) (item ∷ []) []))
      go (row x) = sym (or_false_true (s.over i)) ∙ ap (λ b. s.over i || b) (none (f.port == i))
        where
          none : (b : Bool) → false ≡ has_end (cond b (row x ∷ []) [])
          none true = refl
          none false = refl
      go end = elim (eqb_tells f.port i) [
        | inl t ↦ ap (λ b. cond b true (s.over i)) (eq_true i f.port (sym t.1)) ∙ sym (or_right (s.over i) (ap (λ b. has_end {X = X} (cond b (end ∷ []) [])) t.0))
        | inr t ↦ ap (λ b. cond b true (s.over i)) (eq_false i f.port (λ e. t.1 (sym e))) ∙ sym (ap (λ b. s.over i || has_end {X = X} (cond b (end ∷ []) [])) t.0 ∙ or_false_true (s.over i))
      ]

  last_first : (i : ℕ) (f : Feed X) (feeds : List (Feed X)) → has_end (items_of i (f ∷ feeds)) ≡ (has_end (items_of i (f ∷ [])) || has_end (items_of i feeds))
  last_first i f feeds = go (f.port == i) f.item
    where
      go : (b : Bool) (item : Item X) → has_end (cond b (item ∷ items_of i feeds) (items_of i feeds)) ≡ (has_end (cond b (item ∷ []) []) || has_end (items_of i feeds))
      go true (row x) = refl
      go true end = refl
      go false item = refl

  pub merge_over : (s : Waiting X) (feeds : List (Feed X)) (i : ℕ) → (after MM s feeds).over i ≡ (s.over i || ended i feeds)
  merge_over s [] i = sym (or_false_true (s.over i))
  merge_over s (f ∷ feeds) i =
      merge_over (MM.next s f) feeds i
      ∙ ap (λ b. b || ended i feeds) (front_over (waiting_with s f.port f.item) (merge_ready n (waiting_with s f.port f.item)) (best_of cmp n (waiting_with s f.port f.item).rows) i ∙ with_over s f i)
      ∙ or_assoc (s.over i) _ _ ∙ ap (λ b. s.over i || b) (sym (last_first i f feeds))

  -- an ended port has no row waiting, and no port has two
  pub record Bare (s : Waiting X) : Type 0 where
    pub bare : (i : ℕ) → s.over i ≡ true → s.rows i ≡ []
    pub few : (i : ℕ) → length (s.rows i) < 2

  abbrev Asks : Waiting X → Type 0
  Asks s = (merge_ready n s ≡ false) ⊎ ((i : ℕ) → i < n → s.over i ≡ true)

  pub with_bare : (s : Waiting X) (f : Feed X) → Bare s → s.over f.port ≡ false → s.rows f.port ≡ [] → Bare (waiting_with s f.port f.item)
  with_bare s f h o r = go f.item
    where
      go : (item : Item X) → Bare (waiting_with s f.port item)
      go (row x) = record {
        bare = λ i ov. set_at-case (λ v. v ≡ []) s.rows f.port (s.rows f.port ++ x ∷ []) i (λ e. absurd (true_false ov (ap s.over e ∙ o))) (λ _. h.bare i ov);
        few = λ i. set_at-case (λ v. length v < 2) s.rows f.port (s.rows f.port ++ x ∷ []) i (λ e. subst (λ v. length (v ++ x ∷ []) < 2) (sym r) (omega arith)) (λ _. h.few i);
      }
      go end = record {
        bare = λ i ov. elim (eqb_tells i f.port) [ inl t ↦ ap s.rows t.1 ∙ r | inr t ↦ h.bare i (ap (λ b. cond b true (s.over i)) (sym t.0) ∙ ov) ];
        few = h.few;
      }

  none_asks : (s : Waiting X) → merge_ready n s ≡ true → ((j : ℕ) → j < n → s.rows j ≡ []) → (i : ℕ) → i < n → s.over i ≡ true
  none_asks s ready empty i lt = go (s.over i) refl (not_true (merge_asks s i) (all_at n (λ i. not (merge_asks s i)) ready i lt))
    where
      go : (b : Bool) → s.over i ≡ b → merge_asks s i ≡ false → b ≡ true
      go true e h = refl
      go false e h = absurd (true_false (ap₂ (λ o r. not o && is_empty r) e (empty i lt)) h)

  short_rest : (x : X) (xs : List X) → length (x ∷ xs) < 2 → xs ≡ []
  short_rest x [] h = refl
  short_rest x (y ∷ ys) h = absurd (omega arith)

  pub front_kept : (s : Waiting X) → Bare s → merge_ready n s ≡ true → Bare (without_front s (best_of cmp n s.rows)) × Asks (without_front s (best_of cmp n s.rows))
  front_kept s h ready = go (best_is n s.rows)
    where
      go : ((best_of cmp n s.rows ≡ None) × ((j : ℕ) → j < n → s.rows j ≡ [])) ⊎ ((b : Front X) × (best_of cmp n s.rows ≡ Some b) × (b.port < n) × (s.rows b.port ≡ b.row ∷ b.rest)) → Bare (without_front s (best_of cmp n s.rows)) × Asks (without_front s (best_of cmp n s.rows))
      go (inl none) = subst (λ o. Bare (without_front s o) × Asks (without_front s o)) (sym none.0) (h, inr (none_asks s ready none.1))
      go (inr (b, is, lt, front)) =
          let rest : b.rest ≡ [] = short_rest b.row b.rest (subst (λ v. length v < 2) front (h.few b.port)) in
          let still : s.over b.port ≡ false = open_if (s.over b.port) refl (λ ov. cc_cons (sym (h.bare b.port ov) ∙ front)) in
          let asks : merge_asks (without_front s (Some b)) b.port ≡ true = and_true (ap not still) (ap is_empty (set_at-case (λ v. v ≡ []) s.rows b.port b.rest b.port (λ _. rest) (λ ne. absurd (ne refl)))) in
          subst (λ o. Bare (without_front s o) × Asks (without_front s o)) (sym is) (
            record {
              bare = λ i ov. set_at-case (λ v. v ≡ []) s.rows b.port b.rest i (λ _. rest) (λ _. h.bare i ov);
              few = λ i. set_at-case (λ v. length v < 2) s.rows b.port b.rest i (λ _. subst (λ v. length v < 2) (sym rest) (omega arith)) (λ _. h.few i);
            },
            inl (not_all n (λ i. not (merge_asks (without_front s (Some b)) i)) b.port lt (ap not asks)),
          )
        where
          cc_cons : {x : X} {xs : List X} → [] ≡ x ∷ xs → ⊥
          cc_cons e = cc

          open_if : (t : Bool) → s.over b.port ≡ t → (s.over b.port ≡ true → ⊥) → t ≡ false
          open_if true e no_way = absurd (no_way e)
          open_if false e no_way = refl

  pub step_kept : (s : Waiting X) (f : Feed X) → Bare s → picks n by_number (merge_asks s) f.port ≡ true → Bare (MM.next s f) × Asks (MM.next s f)
  step_kept s f h w =
      let o = picks_open n by_number (merge_asks s) f.port w in
      let t : Waiting X = waiting_with s f.port f.item in
      go (merge_ready n t) refl (with_bare s f h (not_true _ (and_left _ _ o.1)) (none_is _ (and_right _ _ o.1)))
    where
      go : (b : Bool) → merge_ready n (waiting_with s f.port f.item) ≡ b → Bare (waiting_with s f.port f.item) →
          Bare (cond b (without_front (waiting_with s f.port f.item) (best_of cmp n (waiting_with s f.port f.item).rows)) (waiting_with s f.port f.item)) × Asks (cond b (without_front (waiting_with s f.port f.item) (best_of cmp n (waiting_with s f.port f.item).rows)) (waiting_with s f.port f.item))
      go true ready bare = front_kept (waiting_with s f.port f.item) bare ready
      go false ready bare = (bare, inl ready)

  kept_after : (done feeds : List (Feed X)) → Bare (after MM MM.start done) × Asks (after MM MM.start done) → FedAfter (merge_stream {F = F} n cmp) done feeds → Bare (after MM MM.start (done ++ feeds)) × Asks (after MM MM.start (done ++ feeds))
  kept_after done [] h fed = subst (λ F. Bare (after MM MM.start F) × Asks (after MM MM.start F)) (sym (append-nil done)) h
  kept_after done (f ∷ feeds) h fed =
      subst (λ F. Bare (after MM MM.start F) × Asks (after MM MM.start F)) (append_assoc done (f ∷ []) feeds)
      (kept_after (done ++ f ∷ []) feeds (subst (λ s. Bare s × Asks s) (sym (after-append MM MM.start done (f ∷ []))) (step_kept (after MM MM.start done) f h.0 fed.0)) fed.1)

  pub kept : (feeds : List (Feed X)) → Fed (merge_stream {F = F} n cmp) feeds → Bare (after MM MM.start feeds) × Asks (after MM MM.start feeds)
  kept feeds fed = kept_after [] feeds (record { bare = λ i ov. refl; few = λ i. omega arith }, inl (not_all n (λ i. false) 0 some refl)) fed

  pub merge_is : IsStream (merge_stream {F = F} n cmp)
  merge_is = record {
    some = some;
    opens = λ feeds i w. let o = picks_open n by_number (merge_asks (after MM MM.start feeds)) i w in (o.0, sym (merge_over MM.start feeds i) ∙ not_true _ (and_left _ _ o.1));
    hungry = λ feeds fed. go feeds (kept feeds fed).1;
  }
    where
      go : (feeds : List (Feed X)) → Asks (after MM MM.start feeds) → ((i : ℕ) × ((merge_stream {F = F} n cmp).wants feeds i ≡ true)) ⊎ (all_ended (merge_stream {F = F} n cmp) feeds ≡ true)
      go feeds (inr over) = inr (all_from n (λ i. ended i feeds) (λ i lt. sym (merge_over MM.start feeds i) ∙ over i lt))
      go feeds (inl asks) = inl (found (all_or n (λ i. not (merge_asks (after MM MM.start feeds) i))))
        where
          found : ((k : ℕ) × (k < n) × (not (merge_asks (after MM MM.start feeds) k) ≡ false)) ⊎ (merge_ready n (after MM MM.start feeds) ≡ true) → (i : ℕ) × ((merge_stream {F = F} n cmp).wants feeds i ≡ true)
          found (inl r) = picks_some n by_number (merge_asks (after MM MM.start feeds)) r.0 r.1 (not_false _ r.2)
          found (inr h) = absurd (true_false h asks)

  pub merge_single : IsSingle (merge_stream {F = F} n cmp)
  merge_single feeds i j = picks_single n by_number (merge_asks (after MM MM.start feeds)) (λ a b la lb e. e) i j

  one_front : (b : Bool) (o : Option (Front X)) → AtMostOne {F = F} (cond b (front_outs o) [])
  one_front true None = tt
  one_front true (Some f) = refl
  one_front false o = tt

  pub merge_collector : IsCollector (merge_stream {F = F} n cmp)
  merge_collector = record {
    stream = merge_is;
    slim = λ feeds f fed w. one_front (merge_ready n (waiting_with (after MM MM.start feeds) f.port f.item)) (best_of cmp n (waiting_with (after MM MM.start feeds) f.port f.item).rows);
    ends_bare = λ feeds f fed w h.
        let s : Waiting X = after MM MM.start feeds in
        let t : Waiting X = waiting_with s f.port f.item in
        let o = picks_open n by_number (merge_asks s) f.port w in
        let bare : Bare t = with_bare s f (kept feeds fed).0 (not_true _ (and_left _ _ o.1)) (none_is _ (and_right _ _ o.1)) in
        let over : (i : ℕ) → i < n → t.over i ≡ true = λ i lt.
        sym (front_over t (merge_ready n t) (best_of cmp n t.rows) i) ∙ ap (λ z. z.over i) (sym (after-append MM MM.start feeds (f ∷ []))) ∙ merge_over MM.start (feeds ++ f ∷ []) i ∙ all_at n (λ i. ended i (feeds ++ f ∷ [])) h i lt in
        ap (λ x. cond (merge_ready n t) (front_outs x) []) (empty_best t.rows (λ i lt. bare.bare i (over i lt))) ∙ either (merge_ready n t);
  }
    where
      either : (b : Bool) → cond {A = List (Out X F)} b [] [] ≡ []
      either true = refl
      either false = refl

      empty_best : (rows : ℕ → List X) → ((i : ℕ) → i < n → rows i ≡ []) → best_of cmp n rows ≡ None
      empty_best rows empty = elim (best_is n rows) [ inl none ↦ none.0 | inr r ↦ (let e : [] ≡ r.0.row ∷ r.0.rest = sym (empty r.0.port r.2) ∙ r.3 in cc) ]
