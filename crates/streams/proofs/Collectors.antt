-- Collectors that pass each row at once, operators with one port, and lookup.
use Rattle.std.proofs.Common.{◌≡◌, ℕ, zero, suc, ◌+◌, ◌<◌, ◌≤◌, ◌==◌, Bool, true, false, not, cond, inl, inr, refl, sym, ap, ap₂, ◌∙◌, subst, List, [], ◌∷◌, ◌++◌, length, arith, get_or, set}
use Rattle.std.specs.List.{AllByRecursion}
use Rattle.std.proofs.lemmas.Bool.{lt-ltb, ltb-true}
use Rattle.streams.specs.Streams.{Item, row, end, Feed, Out, Stream, has_end, rows, items_of, ended, rows_of, all_ended, emits_after, emits, FedAfter, Gives, IsStream, IsSingle, AtMostOne, IsCollector, rows_out}
use Rattle.streams.specs.Lists.{AllEmpty, Interleaves, lists_from}
use Rattle.streams.specs.Plans.{WantsAll}
use Rattle.streams.specs.Operators.{by_number, from_turn, turn_after, second_first, passing, any_stream, ordered_stream, round_robin_stream, one_wanted, rowwise, at_end, remdup_stream, run_stream, lookup_stream}
use Rattle.streams.proofs.Basics.{and_true, and_left, and_right}
use Rattle.streams.proofs.StreamLaws.{all_or, items-append, eq_true, eq_false, all_at, true_false, rows-whole}
use Rattle.streams.proofs.Picks.{not_true, picks_single, turn_inj, second_inj, open_stream}

passing_slim : {X : Type 0} (F : Type 0) (item : Item X) → AtMostOne (passing {F = F} item)
passing_slim F (row x) = refl
passing_slim F end = tt

not_row_end : {X F : Type 0} (c : Stream X F) → IsStream c → (feeds : List (Feed X)) (f : Feed X) → c.wants feeds f.port ≡ true → all_ended c (feeds ++ f ∷ []) ≡ true → (item : Item X) → f.item ≡ item → passing {F = F} item ≡ []
not_row_end c is feeds f w h end e = refl
not_row_end c is feeds f w h (row x) e =
    let o = is.opens feeds f.port w in
    let now : items_of f.port (feeds ++ f ∷ []) ≡ items_of f.port feeds ++ row x ∷ [] = items-append f.port feeds (f ∷ []) ∙ ap₂ (λ b i. items_of f.port feeds ++ cond b (i ∷ []) []) (eq_true f.port f.port refl) e in
    absurd (true_false (all_at c.ports (λ i. ended i (feeds ++ f ∷ [])) h f.port o.0) (ap has_end now ∙ no_more (items_of f.port feeds) o.1))
  where
    no_more : (items : List (Item _)) → has_end items ≡ false → has_end (items ++ row x ∷ []) ≡ false
    no_more [] h = refl
    no_more (row y ∷ items) h = no_more items h
    no_more (end ∷ items) h = let e : true ≡ false = h in cc

-- what passes each row at once is a collector
pub passing_collector : {X F : Type 0} (c : Stream X F) → IsStream c → ((feeds : List (Feed X)) (f : Feed X) → c.gives feeds f ≡ passing f.item) → IsCollector c
passing_collector {X} {F} c is each = record {
  stream = is;
  slim = λ feeds f fed w. subst AtMostOne (sym (each feeds f)) (passing_slim F f.item);
  ends_bare = λ feeds f fed w h. each feeds f ∙ not_row_end c is feeds f w h f.item refl;
}

pub any_is : {X F : Type 0} (n : ℕ) → 0 < n → IsStream (any_stream {X = X} {F = F} n)
any_is n some = record {
  some = some;
  opens = λ feeds i w. (ltb-true _ _ (and_left _ _ w), not_true _ (and_right _ _ w));
  hungry = λ feeds fed. elim (all_or n (λ i. ended i feeds)) [ inr h ↦ inr h | inl r ↦ inl (r.0, and_true (lt-ltb _ _ r.1) (ap not r.2)) ];
}

pub any_collector : {X F : Type 0} (n : ℕ) → 0 < n → IsCollector (any_stream {X = X} {F = F} n)
any_collector n some = passing_collector (any_stream n) (any_is n some) (λ feeds f. refl)

pub any_all : {X : Type 0} (F : Type 0) (n : ℕ) → WantsAll (any_stream {X = X} {F = F} n)
any_all F n feeds i lt h = and_true (lt-ltb _ _ lt) (ap not h)

pub ordered_collector : {X F : Type 0} (n : ℕ) → 0 < n → IsCollector (ordered_stream {X = X} {F = F} n)
ordered_collector n some = passing_collector (ordered_stream n) (open_stream (ordered_stream n) some (λ feeds. by_number) (λ feeds i. refl)) (λ feeds f. refl)

pub ordered_single : {X : Type 0} (F : Type 0) (n : ℕ) → IsSingle (ordered_stream {X = X} {F = F} n)
ordered_single F n feeds i j = picks_single n by_number (λ i. not (ended i feeds)) (λ a b la lb e. e) i j

pub round_robin_collector : {X F : Type 0} (n : ℕ) → 0 < n → IsCollector (round_robin_stream {X = X} {F = F} n)
round_robin_collector n some = passing_collector (round_robin_stream n) (open_stream (round_robin_stream n) some (λ feeds. from_turn n (turn_after 0 feeds)) (λ feeds i. refl)) (λ feeds f. refl)

pub round_robin_single : {X : Type 0} (F : Type 0) (n : ℕ) → IsSingle (round_robin_stream {X = X} {F = F} n)
round_robin_single F n feeds i j = picks_single n (from_turn n (turn_after 0 feeds)) (λ i. not (ended i feeds)) (turn_inj n (turn_after 0 feeds)) i j

pub lookup_is : {X F : Type 0} (rule : X → List X → List (Out X F)) → IsStream (lookup_stream rule)
lookup_is rule = open_stream (lookup_stream rule) (omega arith) (λ feeds. second_first) (λ feeds i. refl)

pub lookup_single : {X F : Type 0} (rule : X → List X → List (Out X F)) → IsSingle (lookup_stream rule)
lookup_single rule feeds i j = picks_single 2 second_first (λ i. not (ended i feeds)) second_inj i j

-- operators with one port
zero_below : (i : ℕ) → i < 1 → i ≡ 0
zero_below i lt = omega arith

pub one_port : {X F : Type 0} (operator : Stream X F) → operator.ports ≡ 1 → ((feeds : List (Feed X)) (i : ℕ) → operator.wants feeds i ≡ one_wanted feeds i) → IsStream operator
one_port operator one is = record {
  some = subst (λ n. 0 < n) (sym one) (omega arith);
  opens = λ feeds i w.
      let h : one_wanted feeds i ≡ true = sym (is feeds i) ∙ w in
      let lt : i < 1 = ltb-true _ _ (and_left _ _ h) in
      (subst (λ n. i < n) (sym one) lt, ap (λ z. ended z feeds) (zero_below i lt) ∙ not_true _ (and_right _ _ h));
  hungry = λ feeds fed. elim (all_or operator.ports (λ i. ended i feeds)) [
    | inr h ↦ inr h
    | inl r ↦ inl (0, is feeds 0 ∙ and_true refl (ap not (ap (λ z. ended z feeds) (sym (zero_below r.0 (subst (λ n. r.0 < n) one r.1))) ∙ r.2)))
  ];
}

pub one_single : {X F : Type 0} (operator : Stream X F) → ((feeds : List (Feed X)) (i : ℕ) → operator.wants feeds i ≡ one_wanted feeds i) → IsSingle operator
one_single operator is feeds i j h k = zero_below i (ltb-true _ _ (and_left _ _ (sym (is feeds i) ∙ h))) ∙ sym (zero_below j (ltb-true _ _ (and_left _ _ (sym (is feeds j) ∙ k))))

pub rowwise_is : {X F : Type 0} (g : X → List (Out X F)) → IsStream (rowwise g)
rowwise_is g = one_port (rowwise g) refl (λ feeds i. refl)

pub at_end_is : {X F : Type 0} (f : List X → List (Out X F)) → IsStream (at_end f)
at_end_is f = one_port (at_end f) refl (λ feeds i. refl)

pub remdup_is : {X F : Type 0} (same : X → X → Bool) → IsStream (remdup_stream {F = F} same)
remdup_is same = one_port (remdup_stream same) refl (λ feeds i. refl)

pub run_is : {X F : Type 0} (same : X → X → Bool) (rule : List X → List (Out X F)) → IsStream (run_stream same rule)
run_is same rule = one_port (run_stream same rule) refl (λ feeds i. refl)

pub run_single : {X F : Type 0} (same : X → X → Bool) (rule : List X → List (Out X F)) → IsSingle (run_stream same rule)
run_single same rule = one_single (run_stream same rule) (λ feeds i. refl)

pub remdup_single : {X : Type 0} (F : Type 0) (same : X → X → Bool) → IsSingle (remdup_stream {F = F} same)
remdup_single F same = one_single (remdup_stream {F = F} same) (λ feeds i. refl)

pub at_end_single : {X F : Type 0} (f : List X → List (Out X F)) → IsSingle (at_end f)
at_end_single f = one_single (at_end f) (λ feeds i. refl)

pub rowwise_single : {X F : Type 0} (g : X → List (Out X F)) → IsSingle (rowwise g)
rowwise_single g = one_single (rowwise g) (λ feeds i. refl)

-- What passes each row at once gives an interleaving of the port lists.
pub empty_lists : {X : Type 0} (lists : ℕ → List X) (p k : ℕ) → ((i : ℕ) → i < p + k → lists i ≡ []) → AllEmpty (lists_from lists p k)
empty_lists lists p zero h = tt
empty_lists lists p (suc k) h = (h p (omega arith), empty_lists lists (suc p) k (λ i lt. h i (omega arith)))

pub length-lists : {X : Type 0} (lists : ℕ → List X) (p k : ℕ) → length (lists_from lists p k) ≡ k
length-lists lists p zero = refl
length-lists lists p (suc k) = ap suc (length-lists lists (suc p) k)

pub list_there : {X : Type 0} (lists : ℕ → List X) (p k i : ℕ) → i < k → get_or (lists_from lists p k) i [] ≡ lists (p + i)
list_there lists p zero i l = absurd (omega arith)
list_there lists p (suc k) zero l = ap lists (omega arith)
list_there lists p (suc k) (suc i) l = list_there lists (suc p) k i (omega arith) ∙ ap lists (omega arith)

pub same_lists : {X : Type 0} (a b : ℕ → List X) (p k : ℕ) → ((i : ℕ) → p ≤ i → i < p + k → a i ≡ b i) → lists_from a p k ≡ lists_from b p k
same_lists a b p zero h = refl
same_lists a b p (suc k) h = ap₂ (λ x y. x ∷ y) (h p (omega arith) (omega arith)) (same_lists a b (suc p) k (λ i le lt. h i (omega arith) (omega arith)))

pub list_set : {X : Type 0} (a b : ℕ → List X) (p k i : ℕ) → i < k → ((j : ℕ) → j < p + k → (j ≡ p + i → ⊥) → a j ≡ b j) → set (lists_from a p k) i (b (p + i)) ≡ lists_from b p k
list_set a b p zero i l h = absurd (omega arith)
list_set a b p (suc k) zero l h = ap₂ (λ x y. x ∷ y) (ap b (omega arith)) (same_lists a b (suc p) k (λ j le lt. h j (omega arith) (λ e. absurd (omega arith))))
list_set a b p (suc k) (suc i) l h = ap₂ (λ x y. x ∷ y) (h p (omega arith) (λ e. absurd (omega arith))) (ap (λ z. set (lists_from a (suc p) k) i (b z)) (omega arith) ∙ list_set a b (suc p) k i (omega arith) (λ j lt n. h j (omega arith) (λ e. n (omega arith))))

-- the rows of feeds interleave those of each port
pub passed_interleave : {X F : Type 0} (c : Stream X F) (n : ℕ) → ((feeds : List (Feed X)) (f : Feed X) → c.gives feeds f ≡ passing f.item) →
    (done feeds : List (Feed X)) → AllByRecursion (λ (f : Feed X). f.port < n) feeds → Interleaves (lists_from (λ i. rows_of i feeds) 0 n) (rows_out (emits_after c done feeds))
passed_interleave c n each done [] h = empty_lists (λ i. []) 0 n (λ i lt. refl)
passed_interleave {X} c n each done (f ∷ feeds) h =
    subst (λ outs. Interleaves (lists_from (λ i. rows_of i (f ∷ feeds)) 0 n) (rows_out (outs ++ emits_after c (done ++ f ∷ []) feeds))) (sym (each done f)) (go f.item (passed_interleave c n each (done ++ f ∷ []) feeds h.1))
  where
    go : (item : Item X) → Interleaves (lists_from (λ i. rows_of i feeds) 0 n) (rows_out (emits_after c (done ++ f ∷ []) feeds)) →
        Interleaves (lists_from (λ i. rows (cond (f.port == i) (item ∷ items_of i feeds) (items_of i feeds))) 0 n) (rows_out (passing item ++ emits_after c (done ++ f ∷ []) feeds))
    go end k = subst (λ ls. Interleaves ls (rows_out (emits_after c (done ++ f ∷ []) feeds))) (same_lists (λ i. rows_of i feeds) (λ i. rows (cond (f.port == i) (end ∷ items_of i feeds) (items_of i feeds))) 0 n (λ i le lt. skip i (f.port == i))) k
      where
        skip : (i : ℕ) (b : Bool) → rows_of i feeds ≡ rows (cond b (end ∷ items_of i feeds) (items_of i feeds))
        skip i true = refl
        skip i false = refl
    go (row x) k = (
      f.port,
      rows_of f.port feeds,
      subst (λ m. f.port < m) (sym (length-lists here 0 n)) h.0,
      list_there here 0 n f.port h.0 ∙ ap here (omega arith) ∙ ap (λ b. rows (cond b (row x ∷ items_of f.port feeds) (items_of f.port feeds))) (eq_true f.port f.port refl),
      subst (λ ls. Interleaves ls (rows_out (emits_after c (done ++ f ∷ []) feeds)))
          (sym (ap (λ z. set (lists_from here 0 n) f.port (rows_of z feeds)) (omega arith) ∙ list_set here (λ i. rows_of i feeds) 0 n f.port h.0 (λ j lt other. ap (λ b. rows (cond b (row x ∷ items_of j feeds) (items_of j feeds))) (eq_false f.port j (λ e. other (omega arith)))))) k,
    )
      where
        here : ℕ → List X
        here i = rows (cond (f.port == i) (row x ∷ items_of i feeds) (items_of i feeds))

fed_ports : {X F : Type 0} (c : Stream X F) → IsStream c → (done feeds : List (Feed X)) → FedAfter c done feeds → AllByRecursion (λ (f : Feed X). f.port < c.ports) feeds
fed_ports c is done [] h = tt
fed_ports c is done (f ∷ feeds) h = ((is.opens done f.port h.0).0, fed_ports c is (done ++ f ∷ []) feeds h.1)

-- what a collector that passes each row at once gives is an interleaving of its lanes
pub gives_interleaving : {X F : Type 0} (c : Stream X F) → IsStream c → ((feeds : List (Feed X)) (f : Feed X) → c.gives feeds f ≡ passing f.item) → (lists : ℕ → List X) (outs : List (Out X F)) → Gives c lists outs →
    Interleaves (lists_from lists 0 c.ports) (rows_out outs)
gives_interleaving c is each lists outs g =
    subst (λ o. Interleaves (lists_from lists 0 c.ports) (rows_out o)) g.made
    (subst (λ ls. Interleaves ls (rows_out (emits c g.feeds))) (same_lists (λ i. rows_of i g.feeds) lists 0 c.ports (λ i le lt. ap rows (g.taken i (omega arith)) ∙ rows-whole (lists i)))
    (passed_interleave c c.ports each [] g.feeds (fed_ports c is [] g.feeds g.fed)))
