-- What is promised of what a sink got, by the state of its link.
use Rattle.std.specs.Prelude.{ℕ, cond, List, [], ◌∷◌, Option, Some, None}
use Rattle.op_base.specs.Columns.{Row, all_columns, lies}
use Rattle.flow_graph.specs.declared.state.State.{State}
use Rattle.flow_graph.specs.Parts.{Agree, Bag}

pub data Grade : Type 0 where
  exact : Grade
  by : List ℕ → Grade
  bag : Grade

-- exact for no columns, bag for all columns
abbrev pub set_grade : ℕ → List ℕ → Grade
set_grade width [] = exact
set_grade width (c ∷ G) = cond (lies (all_columns width) (c ∷ G)) bag (by (c ∷ G))

-- the grade of an agree set, or of none, on a link with this number of columns
abbrev pub agree_grade : ℕ → Option (List ℕ) → Grade
agree_grade width None = bag
agree_grade width (Some G) = set_grade width G

abbrev pub grade : ℕ → State → Grade
grade width s = agree_grade width s.agree

-- what came in the partitions, against the whole
abbrev pub Meets : Grade → List (List Row) → List Row → Type 0
Meets exact parts whole = Agree [] parts whole
Meets (by G) parts whole = Agree G parts whole
Meets bag parts whole = Bag parts whole
