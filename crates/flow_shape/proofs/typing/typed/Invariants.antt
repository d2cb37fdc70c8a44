use Rattle.std.proofs.Common.{◌≡◌, length, take}
use Rattle.std.specs.List.{AllByRecursion}
use Rattle.flow_shape.specs.Refusals.{chart_of, Fits}
use Rattle.flow_shape.proofs.typing.typed.Given as goal

abbrev pub invariant-loop-op : goal.invariant-loop-op
invariant-loop-op l = record {
  len : length l.schemas.items ≡ length l.flow.links;
  fit : AllByRecursion (Fits (chart_of l.flow l.schemas.items)) (take l.op-index l.order);
}
