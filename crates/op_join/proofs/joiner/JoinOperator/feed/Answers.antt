use Rattle.op_join.proofs.Standing.{may_add, row_emits, row_stands, sound_of}
use Rattle.op_join.proofs.joiner.JoinOperator.feed.Goals as goal

pub add-requires-clause-sound : goal.add-requires-clause-sound
add-requires-clause-sound c = sound_of c.args.self.now c.requires.feeds c.requires.stands

pub add-requires-clause-wanted : goal.add-requires-clause-wanted
add-requires-clause-wanted c = may_add c.args.self.now c.requires.feeds c.args.port c.requires.stands c.requires.wanted

pub settle-requires : goal.settle-requires
settle-requires c = c.in_ok-add.ensures.sound

pub returns-clause-stands : goal.returns-clause-stands
returns-clause-stands c = λ feeds stands.
    row_stands c.args.self.now c.add.new.self c.settle.new.self c.args.port c.args.row feeds c.requires.feeds c.requires.stands c.requires.wanted c.in_ok-add.ensures.layout c.in_ok-add.ensures.ends c.in_ok-add.ensures.rows
    c.in_ok-settle.ensures.sound c.in_ok-settle.ensures.layout c.in_ok-settle.ensures.ends c.in_ok-settle.ensures.rows stands

pub returns-clause-emits : goal.returns-clause-emits
returns-clause-emits c = λ feeds stands.
    row_emits c.args.self.now c.add.new.self c.args.emit.now c.settle.new.emit c.args.port c.args.row feeds c.requires.feeds c.requires.stands c.requires.wanted c.in_ok-add.ensures.layout c.in_ok-add.ensures.ends c.in_ok-add.ensures.rows c.in_ok-settle.ensures.emits stands
