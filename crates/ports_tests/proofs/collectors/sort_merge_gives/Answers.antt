use Rattle.std.proofs.Common.{ap, refl, ◌∙◌}
use Rattle.op_base.specs.Standing.{RowStream}
use Rattle.ports_tests.proofs.collectors.sort_merge_gives.Goals as goal

pub gives-requires-clause-stands : goal.gives-requires-clause-stands
gives-requires-clause-stands c = c.in_ok-op.ensures.stands

pub gives-requires-clause-ports : goal.gives-requires-clause-ports
gives-requires-clause-ports c = ap (λ (s : RowStream). s.ports) c.in_ok-op.ensures.stream ∙ c.in_ok-n.ensures.count

pub gives-requires-clause-suits : goal.gives-requires-clause-suits
gives-requires-clause-suits c = λ feeds fed begun. refl
