-- Lists that are fed, each on its port, on the way and at their ends.
use Rattle.std.proofs.Common.{◌≡◌, ℕ, zero, suc, ◌+◌, ◌<◌, ◌≤◌, ◌==◌, Bool, true, false, not, cond, Option, Some, None, refl, sym, ap, ◌∙◌, subst, inl, inr, List, [], ◌∷◌, ◌++◌, map, length, get_or, set, append_assoc, append-nil, arith, position}
use Rattle.std.specs.Prelude.{nat_lt}
use Rattle.std.specs.List.{position_from, sum_by, list_all}
use Rattle.std.proofs.lemmas.Bool.Decides.{eqb_tells}
use Rattle.std.proofs.lemmas.List.{get_or-set_same, get_or-set_other, length-set}
use Rattle.std.proofs.lemmas.List.Quantifiers.{position-Some}
use Rattle.std.proofs.lemmas.List.Sums.{sum_by-set}
use Rattle.std.proofs.lemmas.Iterator.Adapters.{position_from-zero}
use Rattle.streams.specs.Lists.{is_empty}
use Rattle.streams.specs.Streams.{Item, row, end, Feed, has_end, rows, items_of, rows_of, ended, all_ended, FedAfter, Fed, whole, IsStream}
use Rattle.streams.proofs.Basics.{and_left, and_right, and_true}
use Rattle.streams.proofs.StreamLaws.{items-append, fed-more, eq_false, all_at, all_from}
use Rattle.op_base.specs.declared.operator.Want.TheVariants.{Any}
use Rattle.op_base.specs.declared.emit.Emit.{Emit}
use Rattle.op_base.specs.Columns.{Row}
use Rattle.op_base.specs.Standing.{RowStream, MayFeed, Answers}
use Rattle.op_base.proofs.Adding.{Adds-none}
use Rattle.op_base.proofs.ListFeeds.{adds_more}
use Rattle.run_ports.specs.Driving.{AreLeft, FeedsFirst, HasFed, IsFeeding, Picks, PicksNext, feed_of}
use Rattle.run_ports.specs.PortLists.{AreBegun, SuitsLists, list_of}

-- A port has ended where nothing is left of its list.
ended_left : (items left : List (Item Row)) (xs : List Row) → items ++ left ≡ whole xs → has_end items ≡ is_empty left
ended_left [] left [] e = sym (ap is_empty e)
ended_left [] left (x ∷ xs) e = sym (ap is_empty e)
ended_left (row y ∷ items) left [] e = let d : row y ∷ (items ++ left) ≡ end ∷ [] = e in cc
ended_left (row y ∷ items) left (x ∷ xs) e = let d : row y ∷ (items ++ left) ≡ row x ∷ whole xs = e in ended_left items left xs (cc)
ended_left (end ∷ items) left [] e = let d : end ∷ (items ++ left) ≡ end ∷ [] = e in sym (none items (cc))
  where
    none : (items : List (Item Row)) → items ++ left ≡ [] → is_empty left ≡ true
    none [] f = ap is_empty f
    none (i ∷ items) f = cc
ended_left (end ∷ items) left (x ∷ xs) e = let d : end ∷ (items ++ left) ≡ row x ∷ whole xs = e in cc

nothing : {X : Type 0} (xs : List X) → is_empty xs ≡ true → xs ≡ []
nothing [] e = refl
nothing (x ∷ xs) e = cc

-- What is fed is one item more of its port.
more_items : (feeds : List (Feed Row)) (port : ℕ) (item : Item Row) (i : ℕ) → items_of i (feeds ++ feed_of port item ∷ []) ≡ items_of i feeds ++ cond (port == i) (item ∷ []) []
more_items feeds port item i = items-append i feeds (feed_of port item ∷ [])

pub all_left : (lists : List (List Row)) → AreLeft (list_of lists) (map whole lists) []
all_left [] i lt = absurd (omega arith)
all_left (xs ∷ lists) zero lt = refl
all_left (xs ∷ lists) (suc i) lt = all_left lists i (omega arith)

pub less_left : (lists : ℕ → List Row) (left : List (List (Item Row))) (feeds : List (Feed Row)) (port : ℕ) (item : Item Row) (rest : List (Item Row)) → port < length left → get_or left port [] ≡ item ∷ rest → AreLeft lists left feeds →
    AreLeft lists (set left port rest) (feeds ++ feed_of port item ∷ [])
less_left lists left feeds port item rest lt first h i below = elim (eqb_tells port i) [ inl t ↦ here t.0 t.1 | inr t ↦ there t.0 t.1 ]
  where
    within : i < length left
    within = let e = length-set left port rest in omega (arith, e, below)

    here : (port == i) ≡ true → port ≡ i → items_of i (feeds ++ feed_of port item ∷ []) ++ get_or (set left port rest) i [] ≡ whole (lists i)
    here b e =
        ap (λ t. t ++ get_or (set left port rest) i []) (more_items feeds port item i ∙ ap (λ b. items_of i feeds ++ cond b (item ∷ []) []) b)
        ∙ ap (λ t. (items_of i feeds ++ item ∷ []) ++ t) (ap (λ k. get_or (set left port rest) k []) (sym e) ∙ get_or-set_same left port rest [] lt)
        ∙ append_assoc (items_of i feeds) (item ∷ []) rest ∙ ap (λ t. items_of i feeds ++ t) (sym first ∙ ap (λ k. get_or left k []) e) ∙ h i within

    there : (port == i) ≡ false → (port ≡ i → ⊥) → items_of i (feeds ++ feed_of port item ∷ []) ++ get_or (set left port rest) i [] ≡ whole (lists i)
    there b n =
        ap (λ t. t ++ get_or (set left port rest) i []) (more_items feeds port item i ∙ ap (λ b. items_of i feeds ++ cond b (item ∷ []) []) b ∙ append-nil (items_of i feeds))
        ∙ ap (λ t. items_of i feeds ++ t) (get_or-set_other left port i rest [] (λ e. n (sym e))) ∙ h i within

pub fewer_left : (left : List (List (Item Row))) (port : ℕ) (item : Item Row) (rest : List (Item Row)) → port < length left → get_or left port [] ≡ item ∷ rest → sum_by length (set left port rest) < sum_by length left
fewer_left left port item rest lt first = let e = sum_by-set length left port rest [] lt in let f : length (get_or left port []) ≡ suc (length rest) = ap length first in omega (arith, e, f)

-- Ports behind the last are fed nothing.
unfed : (s : RowStream) → IsStream s → (done feeds : List (Feed Row)) (i : ℕ) → FedAfter s done feeds → s.ports ≤ i → items_of i feeds ≡ []
unfed s is done [] i fed le = refl
unfed s is done (f ∷ feeds) i fed le = ap (λ b. cond b (f.item ∷ items_of i feeds) (items_of i feeds)) (eq_false f.port i other) ∙ unfed s is (done ++ f ∷ []) feeds i fed.1 le
  where
    other : f.port ≡ i → ⊥
    other e = let o = (is.opens done f.port fed.0).0 in omega (arith, o, e, le)

-- an operator that is fed such lists
module _ (s : RowStream) (is : IsStream s) (lists : ℕ → List Row) (left : List (List (Item Row))) (ports : s.ports ≡ length left) where
  pub are_begun : (feeds : List (Feed Row)) → Fed s feeds → AreLeft lists left feeds → AreBegun lists feeds
  are_begun feeds fed h i = go (nat_lt i (length left)) refl
    where
      go : (b : Bool) → nat_lt i (length left) ≡ b → (rest : List (Item Row)) × (items_of i feeds ++ rest ≡ whole (lists i))
      go true e = (get_or left i [], h i (grind (arith, e)))
      go false e = (whole (lists i), ap (λ t. t ++ whole (lists i)) (unfed s is [] feeds i fed (grind (arith, e, ports))))

  ended_at : (feeds : List (Feed Row)) → AreLeft lists left feeds → (i : ℕ) → i < length left → ended i feeds ≡ is_empty (get_or left i [])
  ended_at feeds h i lt = ended_left (items_of i feeds) (get_or left i []) (lists i) (h i lt)

  -- a port that is wanted has something left
  pub open_left : (feeds : List (Feed Row)) → AreLeft lists left feeds → (port : ℕ) → s.wants feeds port ≡ true → (port < length left) × (is_empty (get_or left port []) ≡ false)
  open_left feeds h port w =
      let o = is.opens feeds port w in
      let lt : port < length left = subst (λ n. port < n) ports o.0 in
      (lt, sym (ended_at feeds h port lt) ∙ o.1)

  -- once all have ended, all was fed
  pub all_taken : (feeds : List (Feed Row)) → AreLeft lists left feeds → all_ended s feeds ≡ true → (i : ℕ) → i < s.ports → items_of i feeds ≡ whole (lists i)
  all_taken feeds h all i lt =
      let within : i < length left = subst (λ n. i < n) ports lt in
      let e = nothing (get_or left i []) (sym (ended_at feeds h i within) ∙ all_at s.ports (λ j. ended j feeds) all i lt) in
      sym (append-nil (items_of i feeds)) ∙ ap (λ t. items_of i feeds ++ t) (sym e) ∙ h i within

  -- of any ports the least is picked
  pub picks_least : (feeds : List (Feed Row)) → AreLeft lists left feeds → Answers Any s feeds → (port : Option ℕ) → port ≡ position (λ items. not (is_empty items)) left → Picks s feeds port
  picks_least feeds h any None e = all_from s.ports (λ j. ended j feeds) (λ i lt. let within : i < length left = subst (λ n. i < n) ports lt in ended_at feeds h i within ∙ none_open 0 left (sym (position_from-zero (λ items. not (is_empty items)) left) ∙ sym e) i within)
    where
      none_open : (k : ℕ) (left : List (List (Item Row))) → position_from (λ items. not (is_empty items)) k left ≡ None → (i : ℕ) → i < length left → is_empty (get_or left i []) ≡ true
      none_open k [] e i lt = absurd (omega arith)
      none_open k ([] ∷ left) e zero lt = refl
      none_open k ([] ∷ left) e (suc i) lt = none_open (k + 1) left e i (omega arith)
      none_open k ((x ∷ xs) ∷ left) e i lt = let d : Some k ≡ None = e in cc
  picks_least feeds h any (Some port) e =
      let p = position-Some (λ items. not (is_empty items)) left port [] (sym e) in
      any.0 port ∙ and_true (subst (λ n. nat_lt port n ≡ true) (sym ports) (lt_true p.0)) (ap not (ended_at feeds h port p.0) ∙ p.1)
    where
      lt_true : {a b : ℕ} → a < b → nat_lt a b ≡ true
      lt_true lt = grind arith

-- Where each row of a list passes a test, so does each that was fed.
each_row : (p : Row → Bool) (items rest : List (Item Row)) (xs : List Row) → items ++ rest ≡ whole xs → list_all p xs ≡ true → list_all p (rows items) ≡ true
each_row p [] rest xs e h = refl
each_row p (row y ∷ items) rest [] e h = let d : row y ∷ (items ++ rest) ≡ end ∷ [] = e in cc
each_row p (row y ∷ items) rest (x ∷ xs) e h =
    let d : row y ∷ (items ++ rest) ≡ row x ∷ whole xs = e in
    let first : y ≡ x = cc in
    and_true (ap p first ∙ and_left (p x) (list_all p xs) h) (each_row p items rest xs (cc) (and_right (p x) (list_all p xs) h))
each_row p (end ∷ items) rest [] e h = let d : end ∷ (items ++ rest) ≡ end ∷ [] = e in none items (cc)
  where
    none : (items : List (Item Row)) → items ++ rest ≡ [] → list_all p (rows items) ≡ true
    none [] f = refl
    none (i ∷ items) f = cc
each_row p (end ∷ items) rest (x ∷ xs) e h = let d : end ∷ (items ++ rest) ≡ row x ∷ whole xs = e in cc

pub each_begun : (p : Row → Bool) (lists : ℕ → List Row) (feeds : List (Feed Row)) (i : ℕ) → AreBegun lists feeds → list_all p (lists i) ≡ true → list_all p (rows_of i feeds) ≡ true
each_begun p lists feeds i begun h = each_row p (items_of i feeds) (begun i).0 (lists i) (begun i).1 h

-- an input that is read at its port
pub read_at : (left : List (List (Item Row))) (port : ℕ) (items : List (Item Row)) → port < length left → items ≡ get_or left port items → get_or left port [] ≡ items
read_at [] port items lt e = absurd (omega arith)
read_at (xs ∷ left) zero items lt e = sym e
read_at (xs ∷ left) (suc port) items lt e = read_at left port items (omega arith) e

pub taken_first : (s : RowStream) (Old New : List (Feed Row) → Type 0) (left : List (List (Item Row))) (port : ℕ) (items rest : List (Item Row)) (a b : Emit) → port < length left → items ≡ get_or left port items → FeedsFirst s Old New port items rest a b → sum_by length (set left port rest) < sum_by length left
taken_first s Old New left port items rest a b lt e f = fewer_left left port f.item rest lt (read_at left port items lt e ∙ f.taken)

-- an operator on its way, and the port that is picked
module _ (s : RowStream) (is : IsStream s) (lists : ℕ → List Row) (Old : List (Feed Row) → Type 0) (left : List (List (Item Row))) (a b : Emit) (ports : s.ports ≡ length left) (h : IsFeeding s Old lists left a b) (port : ℕ) (t : RowStream) (same : t ≡ s) (seen : List (List (Item Row))) (is_seen : seen ≡ left) (picked : PicksNext t Old seen (Some port)) where
  wanted : s.wants h.feeds port ≡ true
  wanted = subst (λ (z : RowStream). PicksNext z Old left (Some port)) same (subst (λ z. PicksNext t Old z (Some port)) is_seen picked) lists h.feeds ports h.stands h.left_is

  pub picked_open : (port < length left) × (is_empty (get_or left port []) ≡ false)
  picked_open = open_left s is lists left ports h.feeds h.left_is port wanted

  more_left : (item : Item Row) (rest : List (Item Row)) → get_or left port [] ≡ item ∷ rest → AreLeft lists (set left port rest) (h.feeds ++ feed_of port item ∷ [])
  more_left item rest first = less_left lists left h.feeds port item rest picked_open.0 first h.left_is

  more_fed : (item : Item Row) → Fed s (h.feeds ++ feed_of port item ∷ [])
  more_fed item = fed-more s [] h.feeds (feed_of port item) h.fed wanted

  -- what was read of its input
  module _ (items : List (Item Row)) (read : items ≡ get_or left port items) where
    pub items_open : is_empty items ≡ false
    items_open = ap is_empty (sym (read_at left port items picked_open.0 read)) ∙ picked_open.1

    pub may_feed : (suits others : List (Feed Row) → Bool) → others ≡ suits → SuitsLists s suits lists → (item : Item Row) (rest : List (Item Row)) → items ≡ item ∷ rest → MayFeed t others Old (feed_of port item)
    may_feed suits others e suited item rest first =
        let at : get_or left port [] ≡ item ∷ rest = read_at left port items picked_open.0 read ∙ first in
        subst (λ (z : RowStream). MayFeed z others Old (feed_of port item)) (sym same) (subst (λ z. MayFeed s z Old (feed_of port item)) (sym e) (record {
          feeds = h.feeds;
          stands = h.stands;
          wanted = wanted;
          suited = suited (h.feeds ++ feed_of port item ∷ []) (more_fed item) (are_begun s is lists (set left port rest) (ports ∙ sym (length-set left port rest)) (h.feeds ++ feed_of port item ∷ []) (more_fed item) (more_left item rest at));
        }))

    pub feeds_more : (New : List (Feed Row) → Type 0) (rest : List (Item Row)) (c : Emit) → FeedsFirst t Old New port items rest b c → IsFeeding s New lists (set left port rest) a c
    feeds_more New rest c f = record {
      feeds = h.feeds ++ feed_of port f.item ∷ [];
      stands = f.stands h.feeds h.stands;
      fed = more_fed f.item;
      left_is = more_left f.item rest (read_at left port items picked_open.0 read ∙ f.taken);
      emitted = adds_more s t h.feeds (feed_of port f.item) a b c same h.emitted (f.emits h.feeds h.stands);
    }

-- an operator that has been fed all
pub has_fed : (s t : RowStream) → IsStream s → (lists : ℕ → List Row) (Stands : List (Feed Row) → Type 0) (left seen : List (List (Item Row))) (a b : Emit) → s.ports ≡ length left → IsFeeding s Stands lists left a b → t ≡ s → seen ≡ left → PicksNext t Stands seen None → HasFed s Stands lists a b
has_fed s t is lists Stands left seen a b ports h same is_seen picked =
    let all = subst (λ (z : RowStream). PicksNext z Stands left None) same (subst (λ z. PicksNext t Stands z None) is_seen picked) lists h.feeds ports h.stands h.left_is in
    record {
      feeds = h.feeds;
      stands = h.stands;
      fed = h.fed;
      taken = all_taken s is lists left ports h.feeds h.left_is all;
      ended = all;
      emitted = h.emitted;
    }

pub feeds_none : (s : RowStream) (lists : List (List Row)) (Stands : List (Feed Row) → Type 0) (a : Emit) → Stands [] → IsFeeding s Stands (list_of lists) (map whole lists) a a
feeds_none s lists Stands a h = record {
  feeds = [];
  stands = h;
  fed = tt;
  left_is = all_left lists;
  emitted = Adds-none a;
}
