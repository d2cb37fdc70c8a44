use Rattle.flow_files.specs.declared.import.Imported.{Imported}
use Rattle.run_feed.proofs.Rows.{made_of_lines, made_suit}
use Rattle.run_feed.proofs.imports.import_file.Goals as goal

pub returns-clause-fit : goal.returns-clause-fit
returns-clause-fit g c = made_suit (λ (m : Imported). m.rows) c.args.schema.now _ c.as_slice-fields.ensures.schema.each c.import_rows-source.ensures.fit

pub returns-clause-lines : goal.returns-clause-lines
returns-clause-lines g c = made_of_lines (λ (m : Imported). m.rejected) _ c.import_rows-source.ensures.lines
