use Rattle.std.proofs.Common.{List, map, subst, ◌∙◌}
use Rattle.std.specs.List.{flat_map}
use Rattle.streams.specs.Streams.{sends}
use Rattle.op_base.specs.Columns.{Row}
use Rattle.op_base.specs.Emits.{Adds}
use Rattle.op_join.specs.Waiting.{meant, left_row}
use Rattle.op_join.proofs.Taking.{takes_both}
use Rattle.op_join.proofs.joiner.Join.take_both.Goals as goal

pub returns-clause-taken : goal.returns-clause-taken
returns-clause-taken c =
    let P : List Row → List Row → Type 0 = λ ys xs. Adds c.args.emit.now c.send_matched.new.emit (map (sends 0) (flat_map (λ a. map (λ b. left_row (meant c.args.self.now.layout) b a) ys) xs)) in
    (takes_both c.args.self.now c.args.emit.now c.send_matched.new.emit c.requires.sound c.take_run.new.self c.take_run-2.new.self c.requires.turn
    (record { run = c.in_ok-lefts.ensures.rest; next = c.in_ok-lefts.ensures.next; over = c.in_ok-lefts.ensures.over })
    (record { run = c.in_ok-rights.ensures.rest; next = c.in_ok-rights.ensures.next; over = c.in_ok-rights.ensures.over })
    (subst (P c.args.self.now.right.run.items) (c.as_slice.ensures.value ∙ c.in_ok-lefts.ensures.run) (subst (λ ys. P ys c.as_slice.result.now) (c.as_slice-2.ensures.value ∙ c.in_ok-rights.ensures.run) c.in_ok-send_matched.ensures))).0

pub returns-clause-fewer : goal.returns-clause-fewer
returns-clause-fewer c =
    let P : List Row → List Row → Type 0 = λ ys xs. Adds c.args.emit.now c.send_matched.new.emit (map (sends 0) (flat_map (λ a. map (λ b. left_row (meant c.args.self.now.layout) b a) ys) xs)) in
    (takes_both c.args.self.now c.args.emit.now c.send_matched.new.emit c.requires.sound c.take_run.new.self c.take_run-2.new.self c.requires.turn
    (record { run = c.in_ok-lefts.ensures.rest; next = c.in_ok-lefts.ensures.next; over = c.in_ok-lefts.ensures.over })
    (record { run = c.in_ok-rights.ensures.rest; next = c.in_ok-rights.ensures.next; over = c.in_ok-rights.ensures.over })
    (subst (P c.args.self.now.right.run.items) (c.as_slice.ensures.value ∙ c.in_ok-lefts.ensures.run) (subst (λ ys. P ys c.as_slice.result.now) (c.as_slice-2.ensures.value ∙ c.in_ok-rights.ensures.run) c.in_ok-send_matched.ensures))).1
