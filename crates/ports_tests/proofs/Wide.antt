-- Lists of rows of one width suit an operator whose rows all have that width.
use Rattle.std.proofs.Common.{◌≡◌, ℕ, zero, suc, ◌==◌, Bool, true, false, ◌&&◌, if◌then◌else◌, refl, sym, ap, ◌∙◌, subst, List, [], ◌∷◌, ◌++◌, length, get_or, append-nil, append_assoc}
use Rattle.std.specs.List.{list_all}
use Rattle.streams.specs.Streams.{Feed, Item, row, end, Fed, items_of, whole}
use Rattle.streams.proofs.Basics.{and_left, and_right, and_true}
use Rattle.streams.proofs.StreamLaws.{eq_true}
use Rattle.op_base.specs.Columns.{Row}
use Rattle.op_base.specs.Standing.{RowStream, end_feed, row_feed}
use Rattle.op_join.specs.Joining.{join_suits}
use Rattle.op_join.proofs.TestFeeds.{suits_end, suits_row}
use Rattle.op_match.specs.Suiting.{row_suits, WideSuit}
use Rattle.run_ports.specs.PortLists.{AreBegun, SuitsLists, list_of}

abbrev item_suits : ℕ → Item Row → Bool
item_suits w (row r) = row_suits w r
item_suits w end = true

whole_suits : (w : ℕ) (rows : List Row) → list_all (row_suits w) rows ≡ true → list_all (item_suits w) (whole rows) ≡ true
whole_suits w [] h = refl
whole_suits w (r ∷ rows) h = and_true (and_left (row_suits w r) (list_all (row_suits w) rows) h) (whole_suits w rows (and_right (row_suits w r) (list_all (row_suits w) rows) h))

front_suits : (w : ℕ) (items rest : List (Item Row)) → list_all (item_suits w) (items ++ rest) ≡ true → list_all (item_suits w) items ≡ true
front_suits w [] rest h = refl
front_suits w (x ∷ items) rest h = and_true (and_left (item_suits w x) (list_all (item_suits w) (items ++ rest)) h) (front_suits w items rest (and_right (item_suits w x) (list_all (item_suits w) (items ++ rest)) h))

each_suits : (w : ℕ) (lists : List (List Row)) (i : ℕ) → list_all (list_all (row_suits w)) lists ≡ true → list_all (row_suits w) (list_of lists i) ≡ true
each_suits w [] i h = refl
each_suits w (rows ∷ lists) zero h = and_left (list_all (row_suits w) rows) (list_all (list_all (row_suits w)) lists) h
each_suits w (rows ∷ lists) (suc i) h = each_suits w lists i (and_right (list_all (row_suits w) rows) (list_all (list_all (row_suits w)) lists) h)

-- what suits on each port
abbrev PortsSuit : ℕ → List (Feed Row) → Type 0
PortsSuit w feeds = (i : ℕ) → list_all (item_suits w) (items_of i feeds) ≡ true

first_suits : (w : ℕ) (f : Feed Row) (feeds : List (Feed Row)) → PortsSuit w (f ∷ feeds) → item_suits w f.item ≡ true
first_suits w f feeds h =
    let here : list_all (item_suits w) (f.item ∷ items_of f.port feeds) ≡ true = subst (λ (b : Bool). list_all (item_suits w) (if b then f.item ∷ items_of f.port feeds else items_of f.port feeds) ≡ true) (eq_true f.port f.port refl) (h f.port) in
    and_left (item_suits w f.item) (list_all (item_suits w) (items_of f.port feeds)) here

rest_suits : (w : ℕ) (f : Feed Row) (feeds : List (Feed Row)) → PortsSuit w (f ∷ feeds) → PortsSuit w feeds
rest_suits w f feeds h i = go (f.port == i) (h i)
  where
    go : (b : Bool) → list_all (item_suits w) (if b then f.item ∷ items_of i feeds else items_of i feeds) ≡ true → list_all (item_suits w) (items_of i feeds) ≡ true
    go true k = and_right (item_suits w f.item) (list_all (item_suits w) (items_of i feeds)) k
    go false k = k

module _ (w : ℕ) (suits : List (Feed Row) → Bool) (wide : WideSuit w suits) where
  one_more : (done : List (Feed Row)) (port : ℕ) (x : Item Row) → item_suits w x ≡ true → suits done ≡ true → suits (done ++ record { port = port; item = x } ∷ []) ≡ true
  one_more done port (row r) k s = wide.more port r done k s
  one_more done port end k s = wide.over port done s

  all_more : (done feeds : List (Feed Row)) → PortsSuit w feeds → suits done ≡ true → suits (done ++ feeds) ≡ true
  all_more done [] h s = ap suits (append-nil done) ∙ s
  all_more done (f ∷ feeds) h s =
      sym (ap suits (append_assoc done (f ∷ []) feeds)) ∙ all_more (done ++ f ∷ []) feeds (rest_suits w f feeds h) (one_more done f.port f.item (first_suits w f feeds h) s)

  pub lists_suit : (stream : RowStream) (lists : List (List Row)) → list_all (list_all (row_suits w)) lists ≡ true → SuitsLists stream suits (list_of lists)
  lists_suit stream lists h feeds fed begun = all_more [] feeds (λ i. front_suits w (items_of i feeds) (begun i).0 (ap (list_all (item_suits w)) (begun i).1 ∙ whole_suits w (list_of lists i) (each_suits w lists i h))) wide.none

pub joins_wide : (w : ℕ) → WideSuit w (join_suits w w)
joins_wide w = record { none = refl; more = λ port r feeds s f. suits_row w port r feeds s f; over = λ port feeds f. suits_end w port feeds f }
