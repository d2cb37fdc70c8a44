use Rattle.std.proofs.Common.{cond, List, [], map, subst, ◌∙◌}
use Rattle.streams.specs.Streams.{sends}
use Rattle.op_base.specs.Columns.{Row}
use Rattle.op_base.specs.Emits.{Adds}
use Rattle.op_join.specs.Joining.{keeps_right}
use Rattle.op_join.specs.Waiting.{meant, right_row}
use Rattle.op_join.proofs.Taking.{takes_right}
use Rattle.op_join.proofs.joiner.Join.take_right.Goals as goal

pub returns-clause-taken : goal.returns-clause-taken
returns-clause-taken c =
    let P : List Row → Type 0 = λ rows. Adds c.args.emit.now c.send_rights.new.emit (map (sends 0) (cond (keeps_right c.args.self.now.layout.kind) (map (right_row (meant c.args.self.now.layout)) rows) [])) in
    (takes_right c.args.self.now c.args.emit.now c.send_rights.new.emit c.requires.sound c.take_run.new.self c.requires.turn
    (record { run = c.in_ok-rights.ensures.rest; next = c.in_ok-rights.ensures.next; over = c.in_ok-rights.ensures.over })
    (subst P (c.as_slice.ensures.value ∙ c.in_ok-rights.ensures.run) c.in_ok-send_rights.ensures)).0

pub returns-clause-fewer : goal.returns-clause-fewer
returns-clause-fewer c =
    let P : List Row → Type 0 = λ rows. Adds c.args.emit.now c.send_rights.new.emit (map (sends 0) (cond (keeps_right c.args.self.now.layout.kind) (map (right_row (meant c.args.self.now.layout)) rows) [])) in
    (takes_right c.args.self.now c.args.emit.now c.send_rights.new.emit c.requires.sound c.take_run.new.self c.requires.turn
    (record { run = c.in_ok-rights.ensures.rest; next = c.in_ok-rights.ensures.next; over = c.in_ok-rights.ensures.over })
    (subst P (c.as_slice.ensures.value ∙ c.in_ok-rights.ensures.run) c.in_ok-send_rights.ensures)).1
