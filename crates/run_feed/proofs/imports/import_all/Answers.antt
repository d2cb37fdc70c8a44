use Rattle.std.proofs.Common.{IsTrue}
use Rattle.run_feed.proofs.Settling.{told_inputs}
use Rattle.run_feed.proofs.imports.import_all.Goals as goal

pub returns-clause-told : goal.returns-clause-told
returns-clause-told g c = λ tells.
    let sources = g.met.F.Files.inputs_tell tells in
    let files = g.F.Files.holds c.args.files.now in
    c.rows_by_link-sources.ensures.told sources files
    (told_inputs (IsTrue g.F.Files.tells) (IsTrue g.F.Input.Source.tells) tells g.F.Input.Source.rest files c.args.shaped.now.flow.ops c.args.inputs.by_operator.items c.requires.inputs)
