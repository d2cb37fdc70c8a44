-- An operator by rows wants its one port until it has ended.
use Rattle.std.specs.Prelude.{ℕ}
use mathlib.Core.Path.{refl}
use Rattle.streams.specs.Streams.{IsStream}
use Rattle.streams.proofs.Collectors.{one_port}
use Rattle.op_base.specs.RowOperators.{RowRule}
use Rattle.op_row.specs.ByRow.{by_row}

pub by_row_is : (rule : RowRule) (outs : ℕ) → IsStream (by_row rule outs)
by_row_is rule outs = one_port (by_row rule outs) refl (λ feeds i. refl)
