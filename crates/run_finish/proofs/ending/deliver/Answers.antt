use Rattle.std.proofs.Common.{◌∙◌, map}
use Rattle.ds_port.specs.Causes.{Rose}
use Rattle.flow_outputs.specs.Outputs.{file_from}
use Rattle.osh_ends.specs.Reports.{report}
use Rattle.run_finish.proofs.Closing.{delivers_text}
use Rattle.run_finish.proofs.ending.deliver.Goals as goal

pub returns-clause-delivers : goal.returns-clause-delivers
returns-clause-delivers g c = λ tells states whole e h.
    delivers_text (g.F.Files.holds c.args.files.now) (g.F.Files.holds c.make_files.new.files) (map (λ o. file_from (g.F.Output.Sink.name o) (g.F.Output.Sink.held o)) c.args.outputs.items) g.O.Sink.tells (g.O.Sink.held c.args.out.now) (g.O.Sink.held c.make_files.new.out)
    c.as_slice.result.now (report c.args.shaped.now states c.args.choices.now c.args.nodes whole)
    (Rose (g.F.Files.faults c.args.files.now) (g.F.Files.faults c.make_files.new.files)) (Rose (g.O.Sink.faults c.args.out.now) (g.O.Sink.faults c.make_files.new.out)) c.make_files.result
    (c.as_slice.ensures ∙ c.in-Ok.ensures states whole e h) (c.make_files.ensures.delivers tells)
