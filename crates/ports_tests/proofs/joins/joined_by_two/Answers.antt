use Rattle.std.proofs.Common.{ap, arith, subst, sym, ◌∙◌}
use Rattle.ds_schema.specs.Rows.{ways}
use Rattle.op_base.specs.Standing.{RowStream}
use Rattle.op_join.specs.Joining.{AreBelow}
use Rattle.op_match.specs.Suiting.{WideSuit}
use Rattle.ports_tests.proofs.Wide.{joins_wide}
use Rattle.ports_tests.proofs.joins.joined_by_two.Goals as goal

pub join-requires-clause-ways : goal.join-requires-clause-ways
join-requires-clause-ways c = ap ways c.in_ok-lefts.ensures ∙ sym (ap ways c.in_ok-rights.ensures)

pub join-requires-clause-left : goal.join-requires-clause-left
join-requires-clause-left c = subst (AreBelow 3) (sym c.in_ok-lefts.ensures) (omega arith, (omega arith, tt))

pub join-requires-clause-right : goal.join-requires-clause-right
join-requires-clause-right c = subst (AreBelow 3) (sym c.in_ok-rights.ensures) (omega arith, (omega arith, tt))

pub emitted-requires-clause-stands : goal.emitted-requires-clause-stands
emitted-requires-clause-stands c = c.in_ok-op.ensures.stands

pub emitted-requires-clause-ports : goal.emitted-requires-clause-ports
emitted-requires-clause-ports c = ap (λ (s : RowStream). s.ports) c.in_ok-op.ensures.stream

pub emitted-requires-clause-wide : goal.emitted-requires-clause-wide
emitted-requires-clause-wide c = subst (WideSuit 3) (sym c.in_ok-op.ensures.suits) (joins_wide 3)
