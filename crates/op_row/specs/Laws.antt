-- What an operator by rows gives of a whole list: what it means.
use Rattle.std.specs.Prelude.{◌≡◌, ℕ, ◌<◌, ◌≤◌, List, []}
use Rattle.std.specs.List.{flat_map}
use Rattle.streams.specs.Streams.{Out, Gives, on, faults_out}
use Rattle.op_base.specs.declared.fault.Fault.{Fault}
use Rattle.op_base.specs.Columns.{Row}
use Rattle.op_base.specs.RowOperators.{RowRule}
use Rattle.op_row.specs.ByRow.{by_row}

-- on each output, in the list's order, what the rule makes of each row for it; the faults of each row likewise
pub record Means (rule : RowRule) (outs : ℕ) (rows : List Row) (given : List (Out Row Fault)) : Type 0 where
  pub rows_are : (q : ℕ) → q < outs → on q given ≡ flat_map (rule.rows q) rows
  pub no_more : (q : ℕ) → outs ≤ q → on q given ≡ []
  pub faults_are : faults_out given ≡ flat_map rule.faults rows

abbrev pub RowsAlone : Type 0
RowsAlone = (rule : RowRule) (outs : ℕ) (lists : ℕ → List Row) (given : List (Out Row Fault)) → Gives (by_row rule outs) lists given → Means rule outs (lists 0) given
