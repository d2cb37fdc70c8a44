use Rattle.std.proofs.Common.{◌+◌, ◌||◌, ap, drop, sym, ◌∙◌}
use Rattle.std.proofs.lemmas.List.{take_rest}
use Rattle.op_shape.specs.Columns.{set_names, stand_twice}
use Rattle.op_shape.proofs.Putting.{twice_next}
use Rattle.op_shape.proofs.setting.has_two.Goals as goal

pub returns-then-is_set : goal.returns-then-is_set
returns-then-is_set c =
    let next = twice_next c.args.sets.now c.loop-i.i c.index-sets-i.result c.loop-i-test.true c.index-sets-i.is in
    let found = rw (take_rest c.args.sets.now (c.loop-i.i + 1)) at c.if-is_set.ensures in
    sym (sym c.loop-i.invariant ∙ (next ∙ ap (λ b. b || stand_twice (set_names (drop (c.loop-i.i + 1) c.args.sets.now))) (sym found)))

pub loop-i-preserved : goal.loop-i-preserved
loop-i-preserved c =
    let next = twice_next c.args.sets.now c.loop-i.i c.index-sets-i.result c.loop-i-test.true c.index-sets-i.is in
    let found = rw (take_rest c.args.sets.now (c.loop-i.i + 1)) at c.if-is_set.ensures in
    sym (next ∙ ap (λ b. b || stand_twice (set_names (drop (c.loop-i.i + 1) c.args.sets.now))) (sym found)) ∙ c.loop-i.invariant
