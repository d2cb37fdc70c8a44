use Rattle.std.proofs.Common.{◌∙◌}
use Rattle.op_match.specs.Capturing.{capture_rule}
use Rattle.op_match.proofs.Standing.{may_add, row_emits, row_stands}
use Rattle.op_match.proofs.Told.{due_same, stream_same, suits_same}
use Rattle.op_match.proofs.captures.CaptureOperator.feed.Goals as goal

pub add-requires-clause-sound : goal.add-requires-clause-sound
add-requires-clause-sound c = c.requires.stands.sound

pub add-requires-clause-wanted : goal.add-requires-clause-wanted
add-requires-clause-wanted c = may_add c.args.self.now.sides.list.items (capture_rule c.args.self.now) c.requires.feeds c.requires.stands c.args.port c.requires.wanted

pub settle-requires : goal.settle-requires
settle-requires c = c.in_ok-add.ensures.sound

pub returns-clause-stream : goal.returns-clause-stream
returns-clause-stream c = stream_same c.args.self.now c.settle.new.self (c.in_ok-settle.ensures.keys ∙ c.in_ok-add.ensures.keys) c.in_ok-settle.ensures.changes

pub returns-clause-suits : goal.returns-clause-suits
returns-clause-suits c = suits_same c.args.self.now c.settle.new.self (c.in_ok-settle.ensures.keys ∙ c.in_ok-add.ensures.keys) c.in_ok-settle.ensures.changes

pub returns-clause-stands : goal.returns-clause-stands
returns-clause-stands c = λ feeds stands.
    row_stands (capture_rule c.args.self.now) c.args.self.now.sides.list.items c.add.new.self.list.items c.args.port c.args.row feeds c.requires.feeds c.requires.stands c.requires.wanted c.in_ok-add.ensures.keys c.in_ok-add.ensures.ends c.in_ok-add.ensures.rows stands
    c.settle.new.self.sides.list.items c.in_ok-settle.ensures.sound c.in_ok-settle.ensures.keys c.in_ok-settle.ensures.ends c.in_ok-settle.ensures.rows

pub returns-clause-emits : goal.returns-clause-emits
returns-clause-emits c = λ feeds stands.
    row_emits (capture_rule c.args.self.now) c.args.self.now.sides.list.items c.add.new.self.list.items c.args.port c.args.row feeds c.requires.feeds c.requires.stands c.requires.wanted c.in_ok-add.ensures.keys c.in_ok-add.ensures.ends c.in_ok-add.ensures.rows stands
    c.args.emit.now c.settle.new.emit (due_same c.args.self.now c.add.new.self.list.items c.args.emit.now c.settle.new.emit c.in_ok-add.ensures.keys c.in_ok-settle.ensures.emits)
