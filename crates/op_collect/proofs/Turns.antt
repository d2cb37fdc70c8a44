-- What the round robin stream gives of whole lists: one row of each in turn.
use Rattle.std.proofs.Common.{◌≡◌, ℕ, zero, suc, ◌+◌, ◌-◌, ◌<◌, ◌≤◌, ◌==◌, Bool, true, false, not, cond, ◌⊎◌, inl, inr, refl, sym, ap, ap₂, ◌∙◌, subst, List, [], ◌∷◌, ◌++◌, map, take, drop, append_assoc, arith}
use Rattle.std.specs.List.{flat_map}
use Rattle.std.specs.Prelude.{nat_lt}
use Rattle.std.proofs.lemmas.Bool.{lt-ltb, ltb-true, le-ltb, ltb-false}
use Rattle.std.proofs.lemmas.Bool.Decides.{eqb_tells}
use Rattle.streams.specs.Lists.{lists_from}
use Rattle.streams.specs.Streams.{Item, row, end, Feed, Out, rows, items_of, ended, rows_of, rows_out, emits_after, FedAfter, Gives}
use Rattle.streams.specs.Operators.{picks, from_turn, turn_after, passing, set_at, round_robin_stream}
use Rattle.streams.proofs.Collected.{none_after}
use Rattle.streams.proofs.Collectors.{empty_lists, same_lists}
use Rattle.streams.proofs.Machines.{set_at-case}
use Rattle.streams.proofs.Picks.{picks_open, least_rank}
use Rattle.streams.proofs.StreamLaws.{eq_true, eq_false, rows-whole, rows_out-append}
use Rattle.op_base.specs.declared.fault.Fault.{Fault}
use Rattle.op_base.specs.Columns.{Row}
use Rattle.op_base.specs.Lists.{rounds, longest, in_turn}
use Rattle.op_base.specs.Standing.{RowStream}
use Rattle.op_base.proofs.Interleavings.{interleaves_nothing, turns_interleave}
use Rattle.op_base.proofs.StandingLaws.{ended-end}
use Rattle.op_collect.specs.AreStreams.{round_is}
use Rattle.op_collect.proofs.Standing.{before_turn, from_then}
use Rattle.op_collect.proofs.Wanted.{turn_more}

-- The first row of each list, then the same of what is left
dropped_none : (ls : List (List Row)) → longest ls ≡ 0 → longest (map (drop 1) ls) ≡ 0
dropped_none [] e = refl
dropped_none ([] ∷ ls) e = let h = dropped_none ls (omega (arith, e)) in omega (arith, h)
dropped_none ((x ∷ xs) ∷ ls) e = absurd (omega (arith, e))

no_heads : (ls : List (List Row)) → longest ls ≡ 0 → flat_map (take 1) ls ≡ []
no_heads [] e = refl
no_heads ([] ∷ ls) e = no_heads ls (omega (arith, e))
no_heads ((x ∷ xs) ∷ ls) e = absurd (omega (arith, e))

dropped_one : (ls : List (List Row)) → longest (map (drop 1) ls) ≡ longest ls - 1
dropped_one [] = refl
dropped_one ([] ∷ ls) = let h = dropped_one ls in omega (arith, h)
dropped_one ((x ∷ xs) ∷ ls) = let h = dropped_one ls in omega (arith, h)

in_turn_first : (ls : List (List Row)) → in_turn ls ≡ flat_map (take 1) ls ++ in_turn (map (drop 1) ls)
in_turn_first ls = go (longest ls) refl
  where
    go : (m : ℕ) → longest ls ≡ m → rounds (longest ls) ls ≡ flat_map (take 1) ls ++ rounds (longest (map (drop 1) ls)) (map (drop 1) ls)
    go zero e = ap (λ k. rounds k ls) e ∙ sym (ap₂ (λ xs k. xs ++ rounds k (map (drop 1) ls)) (no_heads ls e) (dropped_none ls e))
    go (suc m) e =
        let d = dropped_one ls in
        let same : m ≡ longest (map (drop 1) ls) = omega (arith, d, e) in
        ap (λ k. rounds k ls) e ∙ ap (λ k. flat_map (take 1) ls ++ rounds k (map (drop 1) ls)) same

map_lists : (f : List Row → List Row) (r : ℕ → List Row) (p k : ℕ) → map f (lists_from r p k) ≡ lists_from (λ i. f (r i)) p k
map_lists f r p zero = refl
map_lists f r p (suc k) = ap (λ ls. f (r p) ∷ ls) (map_lists f r (suc p) k)

-- Rows to come: those of ports that had their turn in this round wait for the next one
abbrev heads : (ℕ → List Row) → ℕ → ℕ → List Row
heads r p k = flat_map (take 1) (lists_from r p k)

abbrev cut : ℕ → (ℕ → List Row) → ℕ → List Row
cut t r i = cond (nat_lt i t) (r i) (drop 1 (r i))

module _ (n : ℕ) where
  -- from port t on, of which there are k more
  abbrev to_come : ℕ → ℕ → (ℕ → List Row) → List Row
  to_come t k r = heads r t k ++ in_turn (lists_from (cut t r) 0 n)

  come_same : (t k : ℕ) (a b : ℕ → List Row) → t + k ≡ n → ((i : ℕ) → i < n → a i ≡ b i) → to_come t k a ≡ to_come t k b
  come_same t k a b e h = ap₂ (λ xs ls. flat_map (take 1) xs ++ in_turn ls) (same_lists a b t k (λ i le lt. h i (omega (arith, e, lt)))) (same_lists (cut t a) (cut t b) 0 n (λ i le lt. ap (λ xs. cond (nat_lt i t) xs (drop 1 xs)) (h i (omega (arith, lt)))))

  -- port t has its turn
  turn_taken : (t k : ℕ) (r : ℕ → List Row) → t + suc k ≡ n → to_come t (suc k) r ≡ take 1 (r t) ++ to_come (suc t) k (set_at r t (drop 1 (r t)))
  turn_taken t k r e =
      ap₂ (λ xs ls. (take 1 (r t) ++ flat_map (take 1) xs) ++ in_turn ls) (same_lists r later (suc t) k (λ i le lt. other i (λ q. absurd (omega (arith, q, le))))) (same_lists (cut t r) (cut (suc t) later) 0 n (λ i le lt. cuts i (eqb_tells i t)))
      ∙ append_assoc (take 1 (r t)) (heads later (suc t) k) (in_turn (lists_from (cut (suc t) later) 0 n))
    where
      later : ℕ → List Row
      later = set_at r t (drop 1 (r t))

      other : (i : ℕ) → (i ≡ t → ⊥) → r i ≡ later i
      other i ne = set_at-case (λ v. r i ≡ v) r t (drop 1 (r t)) i (λ q. absurd (ne q)) (λ _. refl)

      here : later t ≡ drop 1 (r t)
      here = set_at-case (λ v. v ≡ drop 1 (r t)) r t (drop 1 (r t)) t (λ _. refl) (λ ne. absurd (ne refl))

      past : (i : ℕ) → t ≤ i → (i ≡ t → ⊥) → suc t ≤ i
      past i le ne = grind arith

      apart : (i : ℕ) → (i ≡ t → ⊥) → (b : Bool) → nat_lt i t ≡ b → nat_lt i t ≡ nat_lt i (suc t)
      apart i ne true q = q ∙ sym (lt-ltb i (suc t) (let l : i < t = ltb-true i t q in omega (arith, l)))
      apart i ne false q = q ∙ sym (le-ltb i (suc t) (past i (ltb-false i t q) ne))

      cuts : (i : ℕ) → (((i == t) ≡ true) × (i ≡ t)) ⊎ (((i == t) ≡ false) × (i ≡ t → ⊥)) → cut t r i ≡ cut (suc t) later i
      cuts i (inl q) = subst (λ j. cut t r j ≡ cut (suc t) later j) (sym q.1)
          (ap (λ b. cond b (r t) (drop 1 (r t))) (le-ltb t t (omega arith)) ∙ sym here ∙ sym (ap (λ b. cond b (later t) (drop 1 (later t))) (lt-ltb t (suc t) (omega arith))))
      cuts i (inr q) = ap₂ (λ b xs. cond b xs (drop 1 xs)) (apart i q.1 (nat_lt i t) refl) (other i q.1)

  -- a port without rows is skipped, and so are several
  skip_one : (t k : ℕ) (r : ℕ → List Row) → t + suc k ≡ n → r t ≡ [] → to_come t (suc k) r ≡ to_come (suc t) k r
  skip_one t k r e none =
      turn_taken t k r e ∙ ap (λ xs. take 1 xs ++ to_come (suc t) k (set_at r t (drop 1 (r t)))) none
      ∙ come_same (suc t) k (set_at r t (drop 1 (r t))) r (omega (arith, e)) (λ i lt. set_at-case (λ v. v ≡ r i) r t (drop 1 (r t)) i (λ q. ap (drop 1) none ∙ sym none ∙ ap r (sym q)) (λ _. refl))

  skip_to : (d t k : ℕ) (r : ℕ → List Row) → t + (d + k) ≡ n → ((i : ℕ) → t ≤ i → i < t + d → r i ≡ []) → to_come t (d + k) r ≡ to_come (t + d) k r
  skip_to zero t k r e none =
      let a : 0 + k ≡ k = omega arith in
      let b : t ≡ t + 0 = omega arith in
      ap₂ (λ z w. to_come z w r) b a
  skip_to (suc d) t k r e none =
      let a : suc d + k ≡ suc (d + k) = omega arith in
      let b : suc t + d ≡ t + suc d = omega arith in
      let here : t + suc (d + k) ≡ n = omega (arith, e) in
      let there : suc t + (d + k) ≡ n = omega (arith, e) in
      ap (λ z. to_come t z r) a ∙ skip_one t (d + k) r here (none t (omega arith) (omega arith)) ∙ skip_to d (suc t) k r there (λ i le lt. none i (omega (arith, le)) (omega (arith, lt))) ∙ ap (λ z. to_come z k r) b

  -- a new round
  first_round : (r : ℕ → List Row) → to_come 0 n r ≡ in_turn (lists_from r 0 n)
  first_round r = sym (in_turn_first (lists_from r 0 n) ∙ ap (λ ls. heads r 0 n ++ in_turn ls) (map_lists (drop 1) r 0 n ∙ same_lists (λ i. drop 1 (r i)) (cut 0 r) 0 n (λ i le lt. sym (ap (λ b. cond b (r i) (drop 1 (r i))) (le-ltb i 0 (omega arith))))))

  wrap : (r : ℕ → List Row) → to_come n 0 r ≡ to_come 0 n r
  wrap r = ap in_turn (same_lists (cut n r) r 0 n (λ i le lt. ap (λ b. cond b (r i) (drop 1 (r i))) (lt-ltb i n (omega (arith, lt))))) ∙ sym (first_round r)

  -- the ports from t on, then those before p, have no rows: port p is next
  next_is : (t p k l : ℕ) (r : ℕ → List Row) → t + k ≡ n → p + suc l ≡ n → (t ≤ p) ⊎ (p < t) → ((i : ℕ) → t ≤ i → i < n → (t ≤ p → i < p) → r i ≡ []) → ((i : ℕ) → p < t → i < p → r i ≡ []) → to_come t k r ≡ to_come p (suc l) r
  next_is t p k l r e f (inl le) from front = straight (p - t) (omega (arith, le))
    where
      straight : (d : ℕ) → t + d ≡ p → to_come t k r ≡ to_come p (suc l) r
      straight d q =
          let long : k ≡ d + suc l = omega (arith, e, f, q) in
          let fits : t + (d + suc l) ≡ n = omega (arith, f, q) in
          ap (λ z. to_come t z r) long ∙ skip_to d t (suc l) r fits (λ i ti ip. from i ti (omega (arith, f, q, ip)) (λ _. omega (arith, q, ip))) ∙ ap (λ z. to_come z (suc l) r) q
  next_is t p k l r e f (inr lt) from front =
      let long : k ≡ k + 0 = omega arith in
      let fits : t + (k + 0) ≡ n = omega (arith, e) in
      let again : 0 + (p + suc l) ≡ n = omega (arith, f) in
      let at_p : 0 + p ≡ p = omega arith in
      ap (λ z. to_come t z r) long ∙ skip_to k t 0 r fits (λ i ti ik. from i ti (omega (arith, e, ik)) (λ le. absurd (omega (arith, le, lt)))) ∙ ap (λ z. to_come z 0 r) e ∙ wrap r ∙ ap (λ z. to_come 0 z r) (sym f)
      ∙ skip_to p 0 (suc l) r again (λ i zi ip. front i lt (omega (arith, ip))) ∙ ap (λ z. to_come z (suc l) r) at_p

module _ (n : ℕ) (some : 0 < n) where
  abbrev S : RowStream
  S = round_robin_stream n

  -- what an item gives, and what it leaves to come
  one_item : (done feeds : List (Feed Row)) (f : Feed Row) → FedAfter S done (f ∷ feeds) → (item : Item Row) → f.item ≡ item →
      (rows_out {F = Fault} (passing f.item) ≡ take 1 (rows_of f.port (f ∷ feeds))) × (drop 1 (rows_of f.port (f ∷ feeds)) ≡ rows_of f.port feeds)
  one_item done feeds f h item e = subst (λ (xs : List Row). (rows_out {F = Fault} (passing f.item) ≡ take 1 xs) × (drop 1 xs ≡ rows_of f.port feeds)) (sym (ap (λ b. rows (cond b (f.item ∷ items_of f.port feeds) (items_of f.port feeds))) (eq_true f.port f.port refl))) (go item e)
    where
      go : (item : Item Row) → f.item ≡ item → (rows_out {F = Fault} (passing f.item) ≡ take 1 (rows (f.item ∷ items_of f.port feeds))) × (drop 1 (rows (f.item ∷ items_of f.port feeds)) ≡ rows_of f.port feeds)
      go (row x) e = subst (λ i. (rows_out {F = Fault} (passing i) ≡ take 1 (rows (i ∷ items_of f.port feeds))) × (drop 1 (rows (i ∷ items_of f.port feeds)) ≡ rows_of f.port feeds)) (sym e) (refl, refl)
      go end e =
          let over : ended f.port (done ++ f ∷ []) ≡ true = ap (λ i. ended f.port (done ++ record { port = f.port; item = i } ∷ [])) e ∙ ended-end f.port done in
          let none : rows_of f.port feeds ≡ [] = ap rows (none_after S (round_is n some) (done ++ f ∷ []) feeds h.1 f.port over) in
          subst (λ i. (rows_out {F = Fault} (passing i) ≡ take 1 (rows (i ∷ items_of f.port feeds))) × (drop 1 (rows (i ∷ items_of f.port feeds)) ≡ rows_of f.port feeds)) (sym e) (ap (take 1) (sym none), ap (drop 1) none ∙ sym none)

  other_ports : (feeds : List (Feed Row)) (f : Feed Row) (i : ℕ) → (i ≡ f.port → ⊥) → rows_of i (f ∷ feeds) ≡ rows_of i feeds
  other_ports feeds f i ne = ap (λ b. rows (cond b (f.item ∷ items_of i feeds) (items_of i feeds))) (eq_false f.port i (λ e. ne (sym e)))

  nothing_left : (t k : ℕ) → to_come n t k (λ i. []) ≡ []
  nothing_left t k = ap₂ (λ xs ys. xs ++ ys) (heads_none t k) (interleaves_nothing empties (in_turn empties) (empty_lists (cut t (λ i. [])) 0 n (λ i lt. either (nat_lt i t))) (turns_interleave empties))
    where
      empties : List (List Row)
      empties = lists_from (cut t (λ i. [])) 0 n

      heads_none : (p j : ℕ) → heads (λ i. []) p j ≡ []
      heads_none p zero = refl
      heads_none p (suc j) = heads_none (suc p) j

      either : (b : Bool) → cond {A = List Row} b [] [] ≡ []
      either true = refl
      either false = refl

  turns : (done feeds : List (Feed Row)) (t k : ℕ) → t + k ≡ n → turn_after 0 done ≡ t → FedAfter S done feeds → rows_out (emits_after S done feeds) ≡ to_come n t k (λ i. rows_of i feeds)
  turns done [] t k e is h = sym (nothing_left t k)
  turns done (f ∷ feeds) t k e is h =
      rows_out-append (passing f.item) (emits_after S (done ++ f ∷ []) feeds)
      ∙ ap₂ (λ xs ys. xs ++ ys) item.0 (turns (done ++ f ∷ []) feeds (suc p) l (omega (arith, rest)) (turn_more 0 done f) h.1 ∙ sym (come_same n (suc p) l (set_at all p (drop 1 (all p))) (λ i. rows_of i feeds) (omega (arith, rest)) left))
      ∙ sym (turn_taken n p l all (rest)) ∙ sym (next_is n t p k l all e rest side from front)
    where
      p : ℕ
      p = f.port

      all : ℕ → List Row
      all i = rows_of i (f ∷ feeds)

      item : (rows_out {F = Fault} (passing f.item) ≡ take 1 (all p)) × (drop 1 (all p) ≡ rows_of p feeds)
      item = one_item done feeds f h f.item refl

      asks : ℕ → Bool
      asks i = not (ended i done)

      wanted : picks n (from_turn n t) asks p ≡ true
      wanted = subst (λ z. picks n (from_turn n z) asks p ≡ true) is h.0

      there : p < n
      there = (picks_open n (from_turn n t) asks p wanted).0

      l : ℕ
      l = n - suc p

      rest : p + suc l ≡ n
      rest = omega (arith, there)

      left : (i : ℕ) → i < n → set_at all p (drop 1 (all p)) i ≡ rows_of i feeds
      left i lt = set_at-case (λ v. v ≡ rows_of i feeds) all p (drop 1 (all p)) i (λ q. item.1 ∙ ap (λ z. rows_of z feeds) (sym q)) (λ ne. other_ports feeds f i ne)

      -- a port before p in turn has ended
      before : (i : ℕ) → i < n → from_turn n t i < from_turn n t p → all i ≡ []
      before i lt less = ap rows (none_after S (round_is n some) done (f ∷ feeds) h i (by (ended i done) refl))
        where
          by : (b : Bool) → ended i done ≡ b → b ≡ true
          by true q = refl
          by false q = absurd (let m : from_turn n t p ≤ from_turn n t i = least_rank n (from_turn n t) asks p i wanted lt (ap not q) in omega (arith, m, less))

      side : (t ≤ p) ⊎ (p < t)
      side = grind arith

      ranked : (i j a b : ℕ) → from_turn n t i ≡ a → from_turn n t j ≡ b → a < b → from_turn n t i < from_turn n t j
      ranked i j a b q s lt = omega (arith, q, s, lt)

      from : (i : ℕ) → t ≤ i → i < n → (t ≤ p → i < p) → all i ≡ []
      from i le lt below = before i lt (by side)
        where
          by : (t ≤ p) ⊎ (p < t) → from_turn n t i < from_turn n t p
          by (inl tp) = ranked i p i p (from_then n t i le) (from_then n t p tp) (below tp)
          by (inr pt) = ranked i p i (n + p) (from_then n t i le) (before_turn n t p pt) (omega (arith, lt))

      front : (i : ℕ) → p < t → i < p → all i ≡ []
      front i pt ip = before i (omega (arith, ip, there)) (ranked i p (n + i) (n + p) (before_turn n t i (omega (arith, pt, ip))) (before_turn n t p pt) (omega (arith, ip)))

  pub round_gives : (lists : ℕ → List Row) (outs : List (Out Row Fault)) → Gives S lists outs → rows_out outs ≡ in_turn (lists_from lists 0 n)
  round_gives lists outs g =
      let all : 0 + n ≡ n = omega arith in
      ap rows_out (sym g.made) ∙ turns [] g.feeds 0 n all refl g.fed ∙ come_same n 0 n (λ i. rows_of i g.feeds) lists all (λ i lt. ap rows (g.taken i lt) ∙ rows-whole (lists i)) ∙ first_round n lists
