use Rattle.std.proofs.Common.{◌∙◌}
use Rattle.op_match.specs.Capturing.{capture_rule}
use Rattle.op_match.proofs.Standing.{end_emits, end_stands, may_add}
use Rattle.op_match.proofs.Told.{due_same, stream_same, suits_same}
use Rattle.op_match.proofs.captures.CaptureOperator.end.Goals as goal

pub close-requires-clause-sound : goal.close-requires-clause-sound
close-requires-clause-sound c = c.requires.stands.sound

pub close-requires-clause-wanted : goal.close-requires-clause-wanted
close-requires-clause-wanted c = may_add c.args.self.now.sides.list.items (capture_rule c.args.self.now) c.requires.feeds c.requires.stands c.args.port c.requires.wanted

pub settle-requires : goal.settle-requires
settle-requires c = c.close.ensures.sound

pub returns-clause-stream : goal.returns-clause-stream
returns-clause-stream c = stream_same c.args.self.now c.settle.new.self (c.in_ok-settle.ensures.keys ∙ c.close.ensures.keys) c.in_ok-settle.ensures.changes

pub returns-clause-suits : goal.returns-clause-suits
returns-clause-suits c = suits_same c.args.self.now c.settle.new.self (c.in_ok-settle.ensures.keys ∙ c.close.ensures.keys) c.in_ok-settle.ensures.changes

pub returns-clause-stands : goal.returns-clause-stands
returns-clause-stands c = λ feeds stands.
    end_stands (capture_rule c.args.self.now) c.args.self.now.sides.list.items c.close.new.self.list.items c.args.port feeds c.close.ensures.keys c.close.ensures.ends c.close.ensures.rows stands
    c.settle.new.self.sides.list.items c.in_ok-settle.ensures.sound c.in_ok-settle.ensures.keys c.in_ok-settle.ensures.ends c.in_ok-settle.ensures.rows

pub returns-clause-emits : goal.returns-clause-emits
returns-clause-emits c = λ feeds stands.
    end_emits (capture_rule c.args.self.now) c.args.self.now.sides.list.items c.close.new.self.list.items c.args.port feeds c.close.ensures.keys c.close.ensures.ends c.close.ensures.rows stands
    c.args.emit.now c.settle.new.emit (due_same c.args.self.now c.close.new.self.list.items c.args.emit.now c.settle.new.emit c.close.ensures.keys c.in_ok-settle.ensures.emits)
