use Rattle.op_join.proofs.Standing.{end_emits, end_stands, may_add, sound_of}
use Rattle.op_join.proofs.joiner.JoinOperator.end.Goals as goal

pub close-requires-clause-sound : goal.close-requires-clause-sound
close-requires-clause-sound c = sound_of c.args.self.now c.requires.feeds c.requires.stands

pub close-requires-clause-wanted : goal.close-requires-clause-wanted
close-requires-clause-wanted c = may_add c.args.self.now c.requires.feeds c.args.port c.requires.stands c.requires.wanted

pub settle-requires : goal.settle-requires
settle-requires c = c.close.ensures.sound

pub returns-clause-stands : goal.returns-clause-stands
returns-clause-stands c = λ feeds stands.
    end_stands c.args.self.now c.close.new.self c.settle.new.self c.args.port feeds c.close.ensures.layout c.close.ensures.ends c.close.ensures.rows
    c.in_ok-settle.ensures.sound c.in_ok-settle.ensures.layout c.in_ok-settle.ensures.ends c.in_ok-settle.ensures.rows stands

pub returns-clause-emits : goal.returns-clause-emits
returns-clause-emits c = λ feeds stands.
    end_emits c.args.self.now c.close.new.self c.args.emit.now c.settle.new.emit c.args.port feeds c.close.ensures.layout c.close.ensures.ends c.close.ensures.rows c.in_ok-settle.ensures.emits stands
