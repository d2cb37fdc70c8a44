-- A join wants one of its two ports until both have ended.
use Rattle.std.proofs.Common.{arith}
use Rattle.streams.specs.Streams.{IsStream}
use Rattle.ds_schema.specs.Rows.{ways}
use Rattle.op_base.specs.Meanings.{Join}
use Rattle.op_runs.proofs.Settled.{keyed_is}
use Rattle.op_join.specs.Joining.{join_outs, join_stream, key_columns}

pub join_is : (j : Join) → IsStream (join_stream j)
join_is j = keyed_is (ways j.left_keys) (key_columns j) (join_outs j) (omega arith)
