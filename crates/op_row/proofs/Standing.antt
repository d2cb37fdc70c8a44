-- What an operator by rows keeps of what it was fed: whether its port has ended.
use Rattle.std.proofs.Common.{◌≡◌, ℕ, Bool, true, refl, sym, ap, ◌∙◌, List, [], ◌∷◌, ◌++◌, zero, suc, arith}
use Rattle.std.specs.List.{All, list_all}
use Rattle.std.proofs.lemmas.Bool.{ltb-true}
use Rattle.std.proofs.lemmas.List.Folds.{list_all-append}
use Rattle.streams.specs.Streams.{Feed, ended, rows_of}
use Rattle.streams.specs.Operators.{one_wanted}
use Rattle.streams.proofs.Basics.{and_left, and_right, and_true}
use Rattle.ds_schema.specs.Rows.{InWidth}
use Rattle.op_base.specs.Columns.{Row}
use Rattle.op_base.specs.Standing.{row_feed, end_feed}
use Rattle.op_base.specs.WholeLists.{list_feeds, SuitsEach}
use Rattle.op_base.proofs.StandingLaws.{ended-row, ended-end, rows_of-row, rows_of-end, one_port_fed}
use Rattle.op_row.specs.ByRow.{each_row, has_columns}

pub over-row : (over : Bool) (feeds : List (Feed Row)) (port : ℕ) (r : Row) → over ≡ ended 0 feeds → over ≡ ended 0 (feeds ++ row_feed port r ∷ [])
over-row over feeds port r e = e ∙ sym (ended-row 0 feeds port r)

pub over-end : (done feeds : List (Feed Row)) (port : ℕ) → one_wanted done port ≡ true → true ≡ ended 0 (feeds ++ end_feed port ∷ [])
over-end done feeds port w = sym (ended-end 0 feeds) ∙ ap (λ p. ended 0 (feeds ++ end_feed p ∷ [])) (sym (one_port_fed done port w))

-- the row that is fed suits
pub last_suits : (p : Row → Bool) (feeds : List (Feed Row)) (port : ℕ) (r : Row) → one_wanted feeds port ≡ true → each_row p (feeds ++ row_feed port r ∷ []) ≡ true → p r ≡ true
last_suits p feeds port r w h =
    let here : each_row p (feeds ++ row_feed 0 r ∷ []) ≡ true = ap (λ q. each_row p (feeds ++ row_feed q r ∷ [])) (sym (one_port_fed feeds port w)) ∙ h in
    and_left _ _ (and_right _ _ (sym (list_all-append p (rows_of 0 feeds) (r ∷ [])) ∙ ap (list_all p) (sym (rows_of-row 0 feeds r)) ∙ here))

in_width : (cols : List ℕ) (r : Row) → has_columns cols r ≡ true → All (InWidth r) cols
in_width [] r h k d lt = absurd (omega arith)
in_width (c ∷ cols) r h zero d lt = ltb-true _ _ (and_left _ _ h)
in_width (c ∷ cols) r h (suc k) d lt = in_width cols r (and_right _ _ h) k d (omega arith)

pub columns_there : (cols : List ℕ) (feeds : List (Feed Row)) (port : ℕ) (r : Row) → one_wanted feeds port ≡ true → each_row (has_columns cols) (feeds ++ row_feed port r ∷ []) ≡ true → All (InWidth r) cols
columns_there cols feeds port r w h = in_width cols r (last_suits (has_columns cols) feeds port r w h)

-- rows that all suit, as a whole list
suits_after : (p : Row → Bool) (done : List (Feed Row)) (rows : List Row) → each_row p done ≡ true → list_all p rows ≡ true → SuitsEach (each_row p) done (list_feeds rows)
suits_after p done [] h k = (ap (list_all p) (rows_of-end 0 0 done) ∙ h, tt)
suits_after p done (r ∷ rows) h k =
    let one : each_row p (done ++ row_feed 0 r ∷ []) ≡ true = ap (list_all p) (rows_of-row 0 done r) ∙ list_all-append p (rows_of 0 done) (r ∷ []) ∙ and_true h (and_true (and_left _ _ k) refl) in
    (one, suits_after p (done ++ row_feed 0 r ∷ []) rows one (and_right _ _ k))

pub rows_suit : (p : Row → Bool) (rows : List Row) → list_all p rows ≡ true → SuitsEach (each_row p) [] (list_feeds rows)
rows_suit p rows h = suits_after p [] rows refl h
