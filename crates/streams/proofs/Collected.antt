-- What the ordered and the merge collector give of whole lists.
use Rattle.std.proofs.Common.{◌≡◌, ℕ, zero, suc, ◌+◌, ◌<◌, ◌≤◌, ◌==◌, Bool, true, false, not, ◌&&◌, cond, ◌⊎◌, inl, inr, refl, sym, ap, ap₂, ◌∙◌, subst, List, [], ◌∷◌, ◌++◌, append_assoc, append-nil, arith, get_or, set, Option, Some, None}
use Rattle.std.specs.declared.cmp.Ordering.{Ordering}
use Rattle.std.specs.declared.cmp.Ordering.TheVariants.{Less}
use Rattle.std.specs.Ordering.{is_lt}
use Rattle.std.proofs.lemmas.Bool.Decides.{eqb_tells}
use Rattle.streams.specs.Streams.{Item, row, end, Feed, Out, Stream, has_end, rows, items_of, ended, rows_of, emits_after, emits, FedAfter, Fed, whole, Gives, IsStream, rows_out}
use Rattle.streams.specs.Lists.{IsLeast, Merges, IsOrder, lists_from, joined_from, is_empty}
use Rattle.streams.specs.Operators.{by_number, passing, any_stream, round_robin_stream, ordered_stream, after, Waiting, set_at, waiting_with, merge_asks, Front, better, best_of, merge_ready, without_front, front_outs, merge_machine, merge_stream}
use Rattle.streams.specs.Laws.{CollectorsFit, Decided}
use Rattle.streams.proofs.StreamLaws.{fed-more, items-append, eq_true, eq_false, all_at, true_false, rows-whole, decided}
use Rattle.streams.proofs.Picks.{not_true, picks_open, least_rank}
use Rattle.streams.proofs.Collectors.{any_is, any_collector, ordered_collector, ordered_single, round_robin_collector, round_robin_single, gives_interleaving, empty_lists, length-lists, list_there, same_lists, list_set}
use Rattle.streams.proofs.Machines.{after-append, front_over, set_at-case, merge_over, kept, best_is, merge_is, merge_single, merge_collector}

-- nothing is fed on a port that has ended
pub none_after : {X F : Type 0} (operator : Stream X F) → IsStream operator → (done feeds : List (Feed X)) → FedAfter operator done feeds → (i : ℕ) → ended i done ≡ true → items_of i feeds ≡ []
none_after {X} operator is done [] h i e = refl
none_after {X} operator is done (f ∷ feeds) h i e = elim (eqb_tells f.port i) [
  | inl t ↦ absurd (true_false e (ap (λ z. ended z done) (sym t.1) ∙ (is.opens done f.port h.0).1))
  | inr t ↦ ap (λ b. cond b (f.item ∷ items_of i feeds) (items_of i feeds)) t.0 ∙ none_after operator is (done ++ f ∷ []) feeds h.1 i (ap has_end (items-append i done (f ∷ [])) ∙ left (items_of i done) (items_of i (f ∷ [])) e)
]
  where
    left : (xs ys : List (Item X)) → has_end xs ≡ true → has_end (xs ++ ys) ≡ true
    left [] ys h = absurd (let e : false ≡ true = h in cc)
    left (row x ∷ xs) ys h = left xs ys h
    left (end ∷ xs) ys h = refl

-- the ordered collector
joined-same : {X : Type 0} (a b : ℕ → List X) (p k : ℕ) → ((i : ℕ) → p ≤ i → a i ≡ b i) → joined_from a p k ≡ joined_from b p k
joined-same a b p zero h = refl
joined-same a b p (suc k) h = ap₂ (λ x y. x ++ y) (h p (omega arith)) (joined-same a b (suc p) k (λ i le. h i (omega arith)))

-- the first row of the first list that has one
joined-first : {X : Type 0} (a b : ℕ → List X) (x : X) (i p k : ℕ) → p ≤ i → i < p + k → ((j : ℕ) → j < i → a j ≡ []) → ((j : ℕ) → (j ≡ i → ⊥) → a j ≡ b j) → a i ≡ x ∷ b i → joined_from a p k ≡ x ∷ joined_from b p k
joined-first a b x i p zero le lt none others here = absurd (omega arith)
joined-first {X} a b x i p (suc k) le lt none others here = go (eqb_tells i p) (λ n. joined-first a b x i (suc p) k (above i p le n) (omega arith) none others here)
  where
    above : (i p : ℕ) → p ≤ i → (i ≡ p → ⊥) → suc p ≤ i
    above i p le n = grind arith

    go : (((i == p) ≡ true) × (i ≡ p)) ⊎ (((i == p) ≡ false) × (i ≡ p → ⊥)) → ((i ≡ p → ⊥) → joined_from a (suc p) k ≡ x ∷ joined_from b (suc p) k) → a p ++ joined_from a (suc p) k ≡ x ∷ (b p ++ joined_from b (suc p) k)
    go (inl t) rest = ap₂ (λ u v. u ++ v) (subst (λ z. a z ≡ x ∷ b z) t.1 here) (joined-same a b (suc p) k (λ j l. others j (λ e. bad j i p l t.1 e)))
      where
        bad : (j i p : ℕ) → suc p ≤ j → i ≡ p → j ≡ i → ⊥
        bad j i p l t e = omega (arith, l, t, e)
    go (inr t) rest = ap₂ (λ u v. u ++ v) (none p (lower i p le t.1)) (rest t.1) ∙ ap (λ u. x ∷ (u ++ joined_from b (suc p) k)) (sym (none p (lower i p le t.1)) ∙ others p (λ e. t.1 (sym e)))
      where
        lower : (i p : ℕ) → p ≤ i → (i ≡ p → ⊥) → p < i
        lower i p le n = grind arith

ordered_joined : {X : Type 0} (F : Type 0) (n : ℕ) → 0 < n → (done feeds : List (Feed X)) → FedAfter (ordered_stream {F = F} n) done feeds → rows_out (emits_after (ordered_stream {F = F} n) done feeds) ≡ joined_from (λ i. rows_of i feeds) 0 n
ordered_joined {X} F n some done [] h = sym (nothing 0 n)
  where
    nothing : (p k : ℕ) → joined_from {X = X} (λ i. []) p k ≡ []
    nothing p zero = refl
    nothing p (suc k) = nothing (suc p) k
ordered_joined {X} F n some done (f ∷ feeds) h = go f.item refl (ordered_joined F n some (done ++ f ∷ []) feeds h.1)
  where
    o : (f.port < n) × (not (ended f.port done) ≡ true)
    o = picks_open n by_number (λ i. not (ended i done)) f.port h.0

    over : (j : ℕ) → j < f.port → ended j done ≡ true
    over j lt = by (ended j done) refl
      where
        by : (b : Bool) → ended j done ≡ b → b ≡ true
        by true e = refl
        by false e = let l : f.port ≤ j = least_rank n by_number (λ i. not (ended i done)) f.port j h.0 (omega (arith, lt, o.0)) (ap not e) in absurd (omega (arith, l, lt))

    none_there : (j : ℕ) → j < f.port → rows_of j (f ∷ feeds) ≡ []
    none_there j lt = ap rows (none_after (ordered_stream {F = F} n) (ordered_collector n some).stream done (f ∷ feeds) h j (over j lt))

    go : (item : Item X) → f.item ≡ item → rows_out (emits_after (ordered_stream {F = F} n) (done ++ f ∷ []) feeds) ≡ joined_from (λ i. rows_of i feeds) 0 n → rows_out (passing f.item ++ emits_after (ordered_stream {F = F} n) (done ++ f ∷ []) feeds) ≡ joined_from (λ i. rows_of i (f ∷ feeds)) 0 n
    go end e ih = ap (λ z. rows_out (passing z ++ emits_after (ordered_stream {F = F} n) (done ++ f ∷ []) feeds)) e ∙ ih ∙ sym (joined-same (λ i. rows_of i (f ∷ feeds)) (λ i. rows_of i feeds) 0 n (λ i le. ap (λ z. rows (cond (f.port == i) (z ∷ items_of i feeds) (items_of i feeds))) e ∙ skip (f.port == i) i))
      where
        skip : (b : Bool) (i : ℕ) → rows (cond b (end ∷ items_of i feeds) (items_of i feeds)) ≡ rows_of i feeds
        skip true i = refl
        skip false i = refl
    go (row x) e ih = ap (λ z. rows_out (passing z ++ emits_after (ordered_stream {F = F} n) (done ++ f ∷ []) feeds)) e ∙ ap (λ t. x ∷ t) ih
        ∙ sym (joined-first (λ i. rows_of i (f ∷ feeds)) (λ i. rows_of i feeds) x f.port 0 n (omega arith) (omega (arith, o.0)) none_there
        (λ j ne. ap (λ b. rows (cond b (f.item ∷ items_of j feeds) (items_of j feeds))) (eq_false f.port j (λ q. ne (sym q))))
        (ap₂ (λ b z. rows (cond b (z ∷ items_of f.port feeds) (items_of f.port feeds))) (eq_true f.port f.port refl) e))

ordered_gives : {X F : Type 0} (n : ℕ) → 0 < n → (lists : ℕ → List X) (outs : List (Out X F)) → Gives (ordered_stream n) lists outs → rows_out outs ≡ joined_from lists 0 n
ordered_gives {X} {F} n some lists outs g = ap rows_out (sym g.made) ∙ ordered_joined F n some [] g.feeds g.fed ∙ below_same (λ i. rows_of i g.feeds) lists 0 n (λ i lt. ap rows (g.taken i (omega arith)) ∙ rows-whole (lists i))
  where
    below_same : (a b : ℕ → List X) (p k : ℕ) → ((i : ℕ) → i < p + k → a i ≡ b i) → joined_from a p k ≡ joined_from b p k
    below_same a b p zero h = refl
    below_same a b p (suc k) h = ap₂ (λ x y. x ++ y) (h p (omega arith)) (below_same a b (suc p) k (λ i lt. h i (omega arith)))

-- the merge collector
module _ {X : Type 0} (F : Type 0) (n : ℕ) (some : 0 < n) (cmp : X → X → Ordering) (order : IsOrder cmp) where
  -- the least front is least among all fronts
  best_least : (k : ℕ) (rows : ℕ → List X) (b : Front X) → best_of cmp k rows ≡ Some b → (b.port < k) × ((j : ℕ) (y : X) (ys : List X) → j < k → rows j ≡ y ∷ ys → (is_lt (cmp y b.row) ≡ false) × (j < b.port → cmp b.row y ≡ Less))
  best_least zero rows b e = let no_way : None ≡ Some b = e in cc
  best_least (suc k) rows b e = go (rows k) refl (best_of cmp k rows) refl e (best_least k rows)
    where
      below : (j k : ℕ) → j < suc k → (j ≡ k → ⊥) → j < k
      below j k lt ne = grind arith

      cons_is : {x y : X} {xs ys : List X} → x ∷ xs ≡ y ∷ ys → y ≡ x
      cons_is {x} {y} h = sym (ap (λ l. elim l as (λ _. X) [ [] ↦ x | z ∷ zs ↦ z ]) h)

      some_is : {c d : Front X} → Some c ≡ Some d → c ≡ d
      some_is {c} {d} h = ap (λ o. elim o as (λ _. Front X) [ None ↦ c | Some z ↦ z ]) h

      go : (xs : List X) → rows k ≡ xs → (o : Option (Front X)) → best_of cmp k rows ≡ o → better cmp (best_of cmp k rows) k (rows k) ≡ Some b →
          ((c : Front X) → best_of cmp k rows ≡ Some c → (c.port < k) × ((j : ℕ) (y : X) (ys : List X) → j < k → rows j ≡ y ∷ ys → (is_lt (cmp y c.row) ≡ false) × (j < c.port → cmp c.row y ≡ Less))) →
          (b.port < suc k) × ((j : ℕ) (y : X) (ys : List X) → j < suc k → rows j ≡ y ∷ ys → (is_lt (cmp y b.row) ≡ false) × (j < b.port → cmp b.row y ≡ Less))
      go [] er None eo e ih = let no_way : None ≡ Some b = sym (ap₂ (λ o xs. better cmp o k xs) eo er) ∙ e in cc
      go [] er (Some c) eo e ih =
          let same : c ≡ b = some_is (sym (ap₂ (λ o xs. better cmp o k xs) eo er) ∙ e) in
          let r = ih b (eo ∙ ap (λ z. Some z) same) in
          (omega (arith, r.0), λ j y ys lt front. elim (eqb_tells j k) [ inl t ↦ (let bad : [] ≡ y ∷ ys = sym er ∙ ap rows (sym t.1) ∙ front in cc) | inr t ↦ r.1 j y ys (below j k lt t.1) front ])
      go (x ∷ xs) er None eo e ih =
          let same : record { port = k; row = x; rest = xs } ≡ b = some_is (sym (ap₂ (λ o zs. better cmp o k zs) eo er) ∙ e) in
          subst (λ (c : Front X). (c.port < suc k) × ((j : ℕ) (y : X) (ys : List X) → j < suc k → rows j ≡ y ∷ ys → (is_lt (cmp y c.row) ≡ false) × (j < c.port → cmp c.row y ≡ Less))) same (
            omega arith,
            λ j y ys lt front. elim (eqb_tells j k) [
              | inl t ↦ (let is_x : y ≡ x = cons_is (sym er ∙ ap rows (sym t.1) ∙ front) in (ap (λ z. is_lt (cmp z x)) is_x ∙ order.itself x, λ l. absurd (omega (arith, l, t.1))))
              | inr t ↦ (let empty : rows j ≡ [] = none_before k rows eo j (below j k lt t.1) in let bad : [] ≡ y ∷ ys = sym empty ∙ front in cc)
            ],
          )
        where
          none_before : (k : ℕ) (rows : ℕ → List X) → best_of cmp k rows ≡ None → (j : ℕ) → j < k → rows j ≡ []
          none_before k rows e j lt = elim (best_is F n some cmp k rows) [ inl none ↦ none.1 j lt | inr r ↦ (let bad : None ≡ Some r.0 = sym e ∙ r.1 in cc) ]
      go (x ∷ xs) er (Some c) eo e ih = by (is_lt (cmp x c.row)) refl
        where
          by : (t : Bool) → is_lt (cmp x c.row) ≡ t → (b.port < suc k) × ((j : ℕ) (y : X) (ys : List X) → j < suc k → rows j ≡ y ∷ ys → (is_lt (cmp y b.row) ≡ false) × (j < b.port → cmp b.row y ≡ Less))
          by true lt =
              let same : record { port = k; row = x; rest = xs } ≡ b = some_is (sym (ap₂ (λ o zs. better cmp o k zs) eo er ∙ ap (λ t. cond t (Some (record { port = k; row = x; rest = xs })) (Some c)) lt) ∙ e) in
              let r = ih c eo in
              subst (λ (d : Front X). (d.port < suc k) × ((j : ℕ) (y : X) (ys : List X) → j < suc k → rows j ≡ y ∷ ys → (is_lt (cmp y d.row) ≡ false) × (j < d.port → cmp d.row y ≡ Less))) same (
                omega arith,
                λ j y ys l front. elim (eqb_tells j k) [
                  | inl t ↦ (let is_x : y ≡ x = cons_is (sym er ∙ ap rows (sym t.1) ∙ front) in (ap (λ z. is_lt (cmp z x)) is_x ∙ order.itself x, λ q. absurd (omega (arith, q, t.1))))
                  | inr t ↦ (let less : cmp x y ≡ Less = order.below x c.row y lt (r.1 j y ys (below j k l t.1) front).0 in (order.one_way x y less, λ q. less))
                ],
              )
          by false lt =
              let same : c ≡ b = some_is (sym (ap₂ (λ o zs. better cmp o k zs) eo er ∙ ap (λ t. cond t (Some (record { port = k; row = x; rest = xs })) (Some c)) lt) ∙ e) in
              let r = ih c eo in
              subst (λ (d : Front X). (d.port < suc k) × ((j : ℕ) (y : X) (ys : List X) → j < suc k → rows j ≡ y ∷ ys → (is_lt (cmp y d.row) ≡ false) × (j < d.port → cmp d.row y ≡ Less))) same (
                omega (arith, r.0),
                λ j y ys l front. elim (eqb_tells j k) [
                  | inl t ↦ (let is_x : y ≡ x = cons_is (sym er ∙ ap rows (sym t.1) ∙ front) in (ap (λ z. is_lt (cmp z c.row)) is_x ∙ lt, λ q. absurd (omega (arith, q, t.1, r.0))))
                  | inr t ↦ r.1 j y ys (below j k l t.1) front
                ],
              )

  abbrev MM : Stream X F
  MM = merge_stream n cmp

  abbrev state : List (Feed X) → Waiting X
  state feeds = after (merge_machine {F = F} n cmp) (merge_machine {F = F} n cmp).start feeds

  -- what waits and what is still to be fed, port by port
  abbrev to_come : (ℕ → List X) → List (Feed X) → ℕ → List X
  to_come waiting feeds i = waiting i ++ rows_of i feeds

  same_come : (s : Waiting X) (f : Feed X) (feeds : List (Feed X)) (i : ℕ) → to_come (waiting_with s f.port f.item).rows feeds i ≡ to_come s.rows (f ∷ feeds) i
  same_come s f feeds i = go f.item
    where
      go : (item : Item X) → to_come (waiting_with s f.port item).rows feeds i ≡ s.rows i ++ rows (cond (f.port == i) (item ∷ items_of i feeds) (items_of i feeds))
      go (row x) = elim (eqb_tells f.port i) [
        | inl t ↦ ap (λ b. cond b (s.rows f.port ++ x ∷ []) (s.rows i) ++ rows_of i feeds) (eq_true i f.port (sym t.1)) ∙ append_assoc (s.rows f.port) (x ∷ []) (rows_of i feeds) ∙ ap (λ z. s.rows z ++ (x ∷ rows_of i feeds)) t.1
            ∙ ap (λ b. s.rows i ++ rows (cond b (row x ∷ items_of i feeds) (items_of i feeds))) (sym t.0)
        | inr t ↦ ap (λ b. cond b (s.rows f.port ++ x ∷ []) (s.rows i) ++ rows_of i feeds) (eq_false i f.port (λ e. t.1 (sym e))) ∙ ap (λ b. s.rows i ++ rows (cond b (row x ∷ items_of i feeds) (items_of i feeds))) (sym t.0)
      ]
      go end = ap (λ z. s.rows i ++ z) (skip (f.port == i))
        where
          skip : (b : Bool) → rows_of i feeds ≡ rows (cond b (end ∷ items_of i feeds) (items_of i feeds))
          skip true = refl
          skip false = refl

  beyond : (lists : ℕ → List X) (p k i : ℕ) → k ≤ i → get_or (lists_from lists p k) i [] ≡ []
  beyond lists p zero i l = refl
  beyond lists p (suc k) zero l = absurd (omega arith)
  beyond lists p (suc k) (suc i) l = beyond lists (suc p) k i (omega arith)

  front_is : (rows : ℕ → List X) (c : Front X) → best_of cmp n rows ≡ Some c → rows c.port ≡ c.row ∷ c.rest
  front_is rows c e = elim (best_is F n some cmp n rows) [ inl none ↦ (let bad : None ≡ Some c = sym none.0 ∙ e in cc) | inr r ↦ subst (λ (d : Front X). rows d.port ≡ d.row ∷ d.rest) (some_is (sym r.1 ∙ e)) r.3 ]
    where
      some_is : {c d : Front X} → Some c ≡ Some d → c ≡ d
      some_is {c} {d} h = ap (λ o. elim o as (λ _. Front X) [ None ↦ c | Some z ↦ z ]) h

  -- where every port that hasn't ended has a row, the least front is least of all that is to come
  least_of_all : (t : Waiting X) (done feeds : List (Feed X)) (c : Front X) → FedAfter MM done feeds → ((i : ℕ) → t.over i ≡ ended i done) → merge_ready n t ≡ true → best_of cmp n t.rows ≡ Some c → IsLeast cmp (lists_from (to_come t.rows feeds) 0 n) c.port c.row
  least_of_all t done feeds c h overs ready best j y rest e = elim (lt_or j n) [ inr ge ↦ (let bad : [] ≡ y ∷ rest = sym (beyond (to_come t.rows feeds) 0 n j ge) ∙ e in cc) | inl lt ↦ go (t.rows j) refl lt (sym (list_there (to_come t.rows feeds) 0 n j lt ∙ ap (to_come t.rows feeds) (omega arith)) ∙ e) ]
    where
      lt_or : (j n : ℕ) → (j < n) ⊎ (n ≤ j)
      lt_or j n = grind arith

      head_is : {x y : X} {xs ys : List X} → x ∷ xs ≡ y ∷ ys → x ≡ y
      head_is {x} {y} h = ap (λ l. elim l as (λ _. X) [ [] ↦ x | z ∷ zs ↦ z ]) h

      go : (xs : List X) → t.rows j ≡ xs → j < n → t.rows j ++ rows_of j feeds ≡ y ∷ rest → (is_lt (cmp y c.row) ≡ false) × (j < c.port → cmp c.row y ≡ Less)
      go (z ∷ zs) er lt front = (best_least n t.rows c best).1 j y zs lt (er ∙ ap (λ w. w ∷ zs) (head_is (sym (ap (λ l. l ++ rows_of j feeds) er) ∙ front)))
      go [] er lt front =
          let over : ended j done ≡ true = sym (overs j) ∙ by (t.over j) refl in
          let bad : [] ≡ y ∷ rest = sym (ap rows (none_after MM (merge_is F n some cmp) done feeds h j over)) ∙ sym (ap (λ l. l ++ rows_of j feeds) er) ∙ front in cc
        where
          by : (b : Bool) → t.over j ≡ b → b ≡ true
          by true e = refl
          by false e = absurd (true_false (ap₂ (λ o r. not o && is_empty r) e er) (not_true _ (all_at n (λ i. not (merge_asks t i)) ready j lt)))

  merged : (done feeds : List (Feed X)) → Fed MM done → FedAfter MM done feeds → ((i : ℕ) → i < n → ended i (done ++ feeds) ≡ true) → Merges cmp (lists_from (to_come (state done).rows feeds) 0 n) (rows_out (emits_after MM done feeds))
  merged done [] fd h over = empty_lists (to_come (state done).rows []) 0 n (λ i lt. append-nil ((state done).rows i) ∙ (kept F n some cmp done fd).0.bare i (merge_over F n some cmp (merge_machine {F = F} n cmp).start done i ∙ ap (ended i) (sym (append-nil done)) ∙ over i (omega (arith, lt))))
  merged done (f ∷ feeds) fd h over =
      let done_f : List (Feed X) = done ++ f ∷ [] in
      let s : Waiting X = state done in
      let t : Waiting X = waiting_with s f.port f.item in
      let ih : Merges cmp (lists_from (to_come (state done_f).rows feeds) 0 n) (rows_out (emits_after MM done_f feeds)) =
      merged done_f feeds (fed-more MM [] done f fd h.0) h.1 (λ i lt. ap (ended i) (append_assoc done (f ∷ []) feeds) ∙ over i lt) in
      let now : state done_f ≡ (merge_machine {F = F} n cmp).next s f = after-append (merge_machine {F = F} n cmp) (merge_machine {F = F} n cmp).start done (f ∷ []) in
      let overs : (i : ℕ) → t.over i ≡ ended i done_f = λ i. sym (front_over F n some cmp t (merge_ready n t) (best_of cmp n t.rows) i) ∙ ap (λ z. z.over i) (sym now) ∙ merge_over F n some cmp (merge_machine {F = F} n cmp).start done_f i in
      subst (λ ls. Merges cmp ls (rows_out (cond (merge_ready n t) (front_outs (best_of cmp n t.rows)) [] ++ emits_after MM done_f feeds))) (same_lists (to_come t.rows feeds) (to_come s.rows (f ∷ feeds)) 0 n (λ i le lt. same_come s f feeds i))
      (go done_f t h.1 overs (merge_ready n t) refl (best_of cmp n t.rows) refl (subst (λ z. Merges cmp (lists_from (to_come z.rows feeds) 0 n) (rows_out (emits_after MM done_f feeds))) now ih))
    where
      go : (done_f : List (Feed X)) (t : Waiting X) → FedAfter MM done_f feeds → ((i : ℕ) → t.over i ≡ ended i done_f) → (b : Bool) → merge_ready n t ≡ b → (o : Option (Front X)) → best_of cmp n t.rows ≡ o →
          Merges cmp (lists_from (to_come (cond b (without_front t o) t).rows feeds) 0 n) (rows_out (emits_after MM done_f feeds)) →
          Merges cmp (lists_from (to_come t.rows feeds) 0 n) (rows_out (cond b (front_outs o) [] ++ emits_after MM done_f feeds))
      go done_f t h overs false ready o best m = m
      go done_f t h overs true ready None best m = m
      go done_f t h overs true ready (Some c) best m = (
        c.port,
        c.rest ++ rows_of c.port feeds,
        subst (λ k. c.port < k) (sym (length-lists (to_come t.rows feeds) 0 n)) (best_least n t.rows c best).0,
        list_there (to_come t.rows feeds) 0 n c.port (best_least n t.rows c best).0 ∙ ap (to_come t.rows feeds) (omega arith) ∙ ap (λ l. l ++ rows_of c.port feeds) (front_is t.rows c best),
        least_of_all t done_f feeds c h overs ready best,
        subst (λ ls. Merges cmp ls (rows_out (emits_after MM done_f feeds)))
            (sym (ap (set (lists_from (to_come t.rows feeds) 0 n) c.port) (rest_is t c) ∙ list_set (to_come t.rows feeds) (to_come (set_at t.rows c.port c.rest) feeds) 0 n c.port (best_least n t.rows c best).0
            (λ j lj ne. ap (λ v. v ++ rows_of j feeds) (set_at-case (λ v. t.rows j ≡ v) t.rows c.port c.rest j (λ e. absurd (ne (omega (arith, e)))) (λ _. refl))))) m,
      )
        where
          rest_is : (t : Waiting X) (c : Front X) → c.rest ++ rows_of c.port feeds ≡ to_come (set_at t.rows c.port c.rest) feeds (0 + c.port)
          rest_is t c = ap (λ v. v ++ rows_of c.port feeds) (set_at-case (λ v. c.rest ≡ v) t.rows c.port c.rest c.port (λ _. refl) (λ ne. absurd (ne refl))) ∙ ap (to_come (set_at t.rows c.port c.rest) feeds) (omega arith)

  pub merge_gives : (lists : ℕ → List X) (outs : List (Out X F)) → Gives MM lists outs → Merges cmp (lists_from lists 0 n) (rows_out outs)
  merge_gives lists outs g =
      subst (λ o. Merges cmp (lists_from lists 0 n) (rows_out o)) g.made
      (subst (λ ls. Merges cmp ls (rows_out (emits MM g.feeds))) (same_lists (to_come (λ i. []) g.feeds) lists 0 n (λ i le lt. ap rows (g.taken i (omega arith)) ∙ rows-whole (lists i)))
      (merged [] g.feeds tt g.fed (λ i lt. ap has_end (g.taken i lt) ∙ ends (lists i))))
    where
      ends : (xs : List X) → has_end (whole xs) ≡ true
      ends [] = refl
      ends (x ∷ xs) = ends xs

pub collectors_fit : (X F : Type 0) → CollectorsFit X F
collectors_fit X F = record {
  any = λ n some. (any_collector n some, λ lists outs g. gives_interleaving (any_stream n) (any_is n some) (λ feeds f. refl) lists outs g);
  round_robin = λ n some. (round_robin_collector n some, round_robin_single F n, λ lists outs g. gives_interleaving (round_robin_stream n) (round_robin_collector n some).stream (λ feeds f. refl) lists outs g);
  ordered = λ n some. (ordered_collector n some, ordered_single F n, ordered_gives n some);
  merge = λ n some cmp. (merge_collector F n some cmp, merge_single F n some cmp, λ order lists outs g. merge_gives F n some cmp order lists outs g);
}

pub all-decided : {X F : Type 0} → Decided X F
all-decided operator is single lists outs more g h = decided operator is single lists outs more g h
