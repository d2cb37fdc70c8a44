use Rattle.std.proofs.Common.{◌∙◌, List, map, subst, sym}
use Rattle.ds_port.specs.Causes.{Rose}
use Rattle.op_base.specs.Columns.{Row}
use Rattle.flow_outputs.specs.Outputs.{file_from}
use Rattle.osh_ends.specs.Ends.{files_of}
use Rattle.osh_ends.specs.Reports.{fault_report, report}
use Rattle.run_finish.specs.Written.{ComeAt}
use Rattle.run_finish.proofs.Closing.{come, delivered_from, refused_from, rose_later, runs_done, runs_faulty}
use Rattle.run_finish.proofs.finish.finish_run.Goals as goal

pub returns-in-None-clause-ends : goal.returns-in-None-clause-ends
returns-in-None-clause-ends g c = λ tells states e r.
    let files = g.F.Files.holds c.args.files.now in
    let shaped = c.args.shaped.now in
    let choices = c.args.choices.now in
    let ran = c.args.ran.now in
    let old = c.args.tally in
    let new = c.write_sinks.new.tally in
    let at : ComeAt shaped c.as_slice-sinks.result.now r.run.got = subst (λ (sinks : List (List (List Row))). ComeAt shaped sinks r.run.got) (sym c.as_slice-sinks.ensures) (come files shaped states choices ran old r) in
    delivered_from files (g.F.Files.holds c.write_sinks.new.files) (g.F.Files.holds c.deliver.new.files) shaped c.args.nodes states choices g.O.Sink.tells (g.O.Sink.held c.args.out.now) (g.O.Sink.held c.deliver.new.out) (Rose (g.F.Files.faults c.write_sinks.new.files) (g.F.Files.faults c.deliver.new.files)) (Rose (g.F.Files.faults c.args.files.now) (g.F.Files.faults c.deliver.new.files)) (Rose (g.O.Sink.faults c.args.out.now) (g.O.Sink.faults c.deliver.new.out))
    (files_of shaped r.run.got) (map (λ o. file_from (g.F.Output.Sink.name o) (g.F.Output.Sink.held o)) c.in-Ok.outputs.items) (report shaped states choices c.args.nodes r.whole) c.deliver.result
    c.write_sinks.ensures.same (c.in-Ok.ensures.files tells r.run.got at)
    (rose_later (g.F.Files.faults c.args.files.now) (g.F.Files.faults c.write_sinks.new.files) (g.F.Files.faults c.deliver.new.files) c.write_sinks.ensures.cause.later)
    (runs_done files shaped states choices c.args.nodes ran old new r (c.in-Ok.ensures.tallied files r.ops r.run.got r.meaning.ops_are at) c.in-None.is)
    (c.deliver.ensures.delivers tells states r.whole e (c.as_slice-counts.ensures ∙ r.counts))

pub returns-clause-ends : goal.returns-clause-ends
returns-clause-ends g c = λ tells states e r.
    let files = g.F.Files.holds c.args.files.now in
    let shaped = c.args.shaped.now in
    let choices = c.args.choices.now in
    let ran = c.args.ran.now in
    let old = c.args.tally in
    let new = c.write_sinks.new.tally in
    let at : ComeAt shaped c.as_slice-sinks.result.now r.run.got = subst (λ (sinks : List (List (List Row))). ComeAt shaped sinks r.run.got) (sym c.as_slice-sinks.ensures) (come files shaped states choices ran old r) in
    refused_from files (g.F.Files.holds c.write_sinks.new.files) (g.F.Files.holds c.refuse.new.files) shaped c.args.nodes states choices g.O.Sink.tells (g.O.Sink.held c.args.out.now) (g.O.Sink.held c.refuse.new.out) (Rose (g.F.Files.faults c.args.files.now) (g.F.Files.faults c.refuse.new.files)) (Rose (g.O.Sink.faults c.args.out.now) (g.O.Sink.faults c.refuse.new.out))
    (fault_report shaped states choices c.args.nodes new.faults c.in-Some.least) c.refuse.result
    c.write_sinks.ensures.same
    (runs_faulty files shaped states choices c.args.nodes ran old new r c.in-Some.least (c.in-Ok.ensures.tallied files r.ops r.run.got r.meaning.ops_are at) c.in-Some.is)
    (c.refuse.ensures.refuses states e)
