use Rattle.std.proofs.Common.{refl, sym, ap, subst}
use Rattle.std.proofs.lemmas.List.{append-nil}
use Rattle.std.specs.Prelude.{Result, Ok, Err, OnOk}
use Rattle.ds_text.specs.declared.fault.RecordFault.{RecordFault}
use Rattle.ds_text.specs.Records.{SpellsRow, SpellsNoRow}
use Rattle.op_base.specs.Meanings.{good, bad}
use Rattle.flow_files.specs.Lines.{line_row, bad_record}
use Rattle.flow_files.proofs.Growing.{same}
use Rattle.flow_files.proofs.import.take_line.Goals as goal

pub returns-in_ok-push-in-Ok-clause-takes : goal.returns-in_ok-push-in-Ok-clause-takes
returns-in_ok-push-in-Ok-clause-takes c = record {
  item = good c.in-Ok.row;
  is = subst (λ l. SpellsRow c.args.form.now c.args.schema.now l c.in-Ok.row) c.as_slice.ensures c.in-Ok.ensures.found;
  number = refl;
  adds = record { rows = c.in_ok-push-in-Ok.ensures.items; rejected = sym (append-nil c.args.run.now.rejected.items); faults = same c.args.tally.now };
}

on_ok : {T E : Type 0} (P Q : Type 0) (r : Result T E) → (P → Q) → OnOk r P → OnOk r Q
on_ok P Q (Ok x) f p = f p
on_ok P Q (Err e) f p = tt

pub returns-in-Err-Bad-clause-takes : goal.returns-in-Err-Bad-clause-takes
returns-in-Err-Bad-clause-takes c =
    let line = c.args.run.now.line in
    on_ok _ _ c.take_bad.result (λ adds. record {
      item = bad (line_row line) (bad_record c.args.op c.args.run.now.number line);
      is = (subst (λ l. SpellsNoRow c.args.form.now c.args.schema.now l) c.as_slice.ensures (c.in-Err-Bad.ensures.bad (ap (λ (f : RecordFault). Err f) c.in-Err-Bad.field-0-is)), refl, refl);
      number = c.take_bad.ensures.number;
      adds = adds;
    }) c.take_bad.ensures.adds
