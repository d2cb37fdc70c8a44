use Rattle.std.proofs.Common.{List, subst}
use Rattle.streams.specs.Streams.{Out}
use Rattle.op_base.specs.declared.fault.Fault.{Fault}
use Rattle.op_base.specs.Columns.{Row}
use Rattle.op_base.specs.Emits.{Adds}
use Rattle.op_lookup.proofs.Feeding.{main_port, stands-reference, stands-main, main_there, main_short, reference_width, reference_short}
use Rattle.op_lookup.proofs.Finding.{main_gives, told_key}
use Rattle.op_lookup.proofs.looker.LookupOperator.feed.Goals as goal

pub keep_reference-requires-clause-width : goal.keep_reference-requires-clause-width
keep_reference-requires-clause-width c = reference_width c.args.self.now.columns.main.items c.args.self.now.columns.width c.requires.feeds c.args.port c.args.row c.requires.suited c.if-port-eq1.true

pub keep_reference-requires-clause-short : goal.keep_reference-requires-clause-short
keep_reference-requires-clause-short c = reference_short c.args.self.now.columns.main.items c.args.self.now.columns.width c.requires.feeds c.args.port c.args.row c.requires.suited c.if-port-eq1.true

pub send_main-requires-clause-there : goal.send_main-requires-clause-there
send_main-requires-clause-there c = main_there c.args.self.now.columns.main.items c.args.self.now.columns.width c.requires.feeds c.args.port c.args.row c.requires.suited (main_port c.requires.feeds c.args.port c.requires.wanted c.if-port-eq1.false)

pub send_main-requires-clause-short : goal.send_main-requires-clause-short
send_main-requires-clause-short c = main_short c.args.self.now.columns.main.items c.args.self.now.columns.width c.requires.feeds c.args.port c.args.row c.requires.suited (main_port c.requires.feeds c.args.port c.requires.wanted c.if-port-eq1.false)

pub returns-in_ok-keep_reference-clause-stands : goal.returns-in_ok-keep_reference-clause-stands
returns-in_ok-keep_reference-clause-stands c = λ feeds stands.
    let short = reference_short c.args.self.now.columns.main.items c.args.self.now.columns.width c.requires.feeds c.args.port c.args.row c.requires.suited c.if-port-eq1.true in
    stands-reference c.args.self.now.columns.reference.items c.args.self.now.columns.others.items _ _ _ _ feeds c.args.port c.args.row c.if-port-eq1.true c.in_ok-keep_reference.ensures.kept (told_key c.args.self.now.columns.reference.items c.args.row short c.in_ok-keep_reference.ensures.held) stands

pub returns-in_ok-send_main-clause-stands : goal.returns-in_ok-send_main-clause-stands
returns-in_ok-send_main-clause-stands c = λ feeds stands. stands-main c.args.self.now.columns.reference.items c.args.self.now.columns.others.items _ _ _ feeds c.args.port c.args.row c.if-port-eq1.false stands

pub returns-in_ok-send_main-clause-emits : goal.returns-in_ok-send_main-clause-emits
returns-in_ok-send_main-clause-emits c = λ feeds stands.
    let columns = c.args.self.now.columns in
    let none = main_port c.requires.feeds c.args.port c.requires.wanted c.if-port-eq1.false in
    let short = main_short columns.main.items columns.width c.requires.feeds c.args.port c.args.row c.requires.suited none in
    let P : List (Out Row Fault) → Type 0 = λ outs. Adds c.args.emit.now c.send_main.new.emit outs in
    subst P (main_gives columns.main.items columns.reference.items columns.others.items columns.width c.args.self.now.missing c.args.self.now.table.entries c.args.self.now.main_over c.args.self.now.reference_over feeds c.args.port c.args.row none columns.others_are (told_key columns.main.items c.args.row short c.in_ok-send_main.ensures.held) stands) c.in_ok-send_main.ensures.sent
