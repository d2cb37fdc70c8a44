use Rattle.std.proofs.Common.{sym, subst}
use Rattle.std.specs.List.{AllByRecursion}
use Rattle.op_base.proofs.All.{all_append}
use Rattle.op_group.proofs.Fixtures.{IsNumbers}
use Rattle.op_tests.proofs.groups.rows.Goals as goal

pub loop-key-preserved : goal.loop-key-preserved
loop-key-preserved c = subst (AllByRecursion IsNumbers) (sym c.in_ok-push.ensures.items) (all_append IsNumbers c.loop-key.rows.items _ c.loop-key.invariant ((c.in_ok-row.ensures.0, _, c.in_ok-row.ensures.1, c.in_ok-row.ensures.2), tt))
