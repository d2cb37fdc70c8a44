-- What suits a join when one more item is fed.
use Rattle.std.proofs.Common.{◌≡◌, ℕ, zero, suc, Bool, true, ◌&&◌, refl, sym, ap, ◌∙◌, List, [], ◌∷◌, ◌++◌, get_or, length}
use Rattle.std.specs.List.{list_all}
use Rattle.streams.specs.Streams.{Feed, rows_of}
use Rattle.streams.proofs.Basics.{and_left, and_right, and_true}
use Rattle.streams.proofs.StreamLaws.{eq_true}
use Rattle.op_base.specs.Columns.{Row, is_short}
use Rattle.op_base.specs.Feeds.{fed}
use Rattle.op_base.specs.Standing.{end_feed, row_feed}
use Rattle.op_runs.proofs.Ports.{port_rows-end, port_rows-row}
use Rattle.op_join.specs.Joining.{join_suits, row_suits}

all_more : (p : Row → Bool) (xs : List Row) (x : Row) → list_all p xs ≡ true → p x ≡ true → list_all p (xs ++ x ∷ []) ≡ true
all_more p [] x h k = and_true k refl
all_more p (y ∷ xs) x h k = and_true (and_left (p y) (list_all p xs) h) (all_more p xs x (and_right (p y) (list_all p xs) h) k)

abbrev Suit : ℕ → List (List Row) → Bool
Suit w lists = list_all (row_suits w) (get_or lists 0 []) && list_all (row_suits w) (get_or lists 1 [])

suit_fed : (w port : ℕ) (r : Row) (xs ys : List Row) → row_suits w r ≡ true → Suit w (xs ∷ (ys ∷ [])) ≡ true → Suit w (fed port r (xs ∷ (ys ∷ []))) ≡ true
suit_fed w zero r xs ys s h = and_true (all_more (row_suits w) xs r (and_left (list_all (row_suits w) xs) (list_all (row_suits w) ys) h) s) (and_right (list_all (row_suits w) xs) (list_all (row_suits w) ys) h)
suit_fed w (suc zero) r xs ys s h = and_true (and_left (list_all (row_suits w) xs) (list_all (row_suits w) ys) h) (all_more (row_suits w) ys r (and_right (list_all (row_suits w) xs) (list_all (row_suits w) ys) h) s)
suit_fed w (suc (suc port)) r xs ys s h = h

pub suits_row : (w port : ℕ) (r : Row) (feeds : List (Feed Row)) → row_suits w r ≡ true → join_suits w w feeds ≡ true → join_suits w w (feeds ++ row_feed port r ∷ []) ≡ true
suits_row w port r feeds s h = ap (Suit w) (port_rows-row 2 port r feeds) ∙ suit_fed w port r (rows_of 0 feeds) (rows_of 1 feeds) s h

pub suits_end : (w port : ℕ) (feeds : List (Feed Row)) → join_suits w w feeds ≡ true → join_suits w w (feeds ++ end_feed port ∷ []) ≡ true
suits_end w port feeds h = ap (Suit w) (port_rows-end 2 port feeds) ∙ h

pub suits_is : (w : ℕ) (values r : Row) (short : Bool) → values ≡ r → length values ≡ w → short ≡ list_all is_short values → short ≡ row_suits w r
suits_is w values r short e l s = s ∙ sym (ap (λ t. t && list_all is_short values) (eq_true (length values) w l)) ∙ ap (row_suits w) e
