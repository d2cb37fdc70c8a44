-- The streams of collectors, by the routes of the links that they collect.
use Rattle.std.specs.Prelude.{ℕ, Bool, true, false}
use Rattle.streams.specs.Operators.{any_stream, ordered_stream, round_robin_stream, merge_stream}
use Rattle.ds_schema.specs.Rows.{row_cmp}
use Rattle.op_base.specs.Standing.{RowStream}
use Rattle.flow_graph.specs.declared.route.Route.{Route}
use Rattle.flow_graph.specs.declared.route.Route.TheVariants as route

-- How the rows of n producers become one list, into a sequential consumer or not: in any order, in turn, one producer after another, or merged by keys.
abbrev pub collector_stream : Route → Bool → ℕ → RowStream
collector_stream route.Same seq n = any_stream n
collector_stream route.RoundRobin false n = any_stream n
collector_stream route.RoundRobin true n = round_robin_stream n
collector_stream route.Entire seq n = any_stream n
collector_stream (route.Hash columns) seq n = any_stream n
collector_stream (route.Modulus column) seq n = any_stream n
collector_stream route.Any seq n = any_stream n
collector_stream route.Ordered seq n = ordered_stream n
collector_stream (route.Merge keys) seq n = merge_stream n (row_cmp keys)
