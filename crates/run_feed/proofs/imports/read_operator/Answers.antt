use Rattle.std.proofs.Common.{IsTrue}
use Rattle.flow_files.specs.declared.import.Imported.{Imported}
use Rattle.run_feed.proofs.Reading.{reads_file}
use Rattle.run_feed.proofs.imports.read_operator.Goals as goal

pub returns-in_ok-form-in-Import-clause-told : goal.returns-in_ok-form-in-Import-clause-told
returns-in_ok-form-in-Import-clause-told g c = λ tells files.
    let import = c.in-Import in
    reads_file (IsTrue g.S.Source.tells) g.S.Source.rest (λ (m : Imported). m.rows) (λ (m : Imported). m.rejected) files c.args.op c.args.kind.now import.file import.schema import.delim import.fixed import.reject c.in_ok-form-in-Import.form c.args.input.now c.import_file.result _ _
    import.is c.in_ok-form-in-Import.ensures tells (c.import_file.ensures.told tells)
