-- What suits an operator of which all rows have one width.
use Rattle.std.specs.Prelude.{◌≡◌, ℕ, ◌==◌, Bool, true, ◌&&◌, List, [], ◌∷◌, ◌++◌, length}
use Rattle.std.specs.List.{list_all}
use Rattle.streams.specs.Streams.{Feed}
use Rattle.op_base.specs.Columns.{Row, is_short}
use Rattle.op_base.specs.Standing.{end_feed, row_feed}

-- a row has this width, and no text is too long
abbrev pub row_suits : ℕ → Row → Bool
row_suits width r = (length r == width) && list_all is_short r

-- feeds go on to suit as long as the rows have this width and no text is too long
pub record WideSuit (width : ℕ) (suits : List (Feed Row) → Bool) : Type 0 where
  pub none : suits [] ≡ true
  pub more : (port : ℕ) (r : Row) (feeds : List (Feed Row)) → row_suits width r ≡ true → suits feeds ≡ true → suits (feeds ++ row_feed port r ∷ []) ≡ true
  pub over : (port : ℕ) (feeds : List (Feed Row)) → suits feeds ≡ true → suits (feeds ++ end_feed port ∷ []) ≡ true
