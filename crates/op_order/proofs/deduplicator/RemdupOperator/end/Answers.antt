use Rattle.std.proofs.Common.{ap, sym, ◌∙◌, subst}
use Rattle.std.specs.Prelude.{option_to_list}
use Rattle.streams.specs.Streams.{rows_of}
use Rattle.op_base.specs.Emits.{Adds}
use Rattle.op_base.proofs.StandingLaws.{one_port_fed}
use Rattle.op_order.proofs.Standing.{RemdupStands-end, remdup_open, run_row-end}
use Rattle.op_order.proofs.deduplicator.RemdupOperator.end.Goals as goal

pub returns-clause-stands : goal.returns-clause-stands
returns-clause-stands c = λ feeds stands. RemdupStands-end _ feeds c.args._port (one_port_fed c.requires.feeds c.args._port c.requires.wanted)

pub returns-clause-emits : goal.returns-clause-emits
returns-clause-emits c = λ feeds stands.
    let open_now = remdup_open _ _ c.requires.feeds c.args._port c.requires.stands c.requires.wanted in
    subst (Adds c.args.emit.now c.emit_newest.new.emit)
    (sym (run_row-end c.args.self.now.keys c.args.self.now.last c.take-before.result (rows_of 0 feeds) (ap option_to_list c.take-before.ensures.value ∙ stands.newest_is open_now))) c.in_ok-emit_newest.ensures
