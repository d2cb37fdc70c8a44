use Rattle.std.proofs.Common.{◌≡◌, ◌<◌, length, ap, arith, Err}
use Rattle.std.proofs.lemmas.List.{drop_more}
use Rattle.ds_text.specs.declared.fault.RecordFault.TheVariants.{Bad}
use Rattle.ds_text.proofs.Partial.{item_more}
use Rattle.ds_text.proofs.FieldWriting.{same_length, fits_here}
use Rattle.ds_text.proofs.ColumnWriting.{column_step, column_wide}
use Rattle.ds_text.proofs.write_columns.write_columns.Goals as goal

pub bounds-row-i : goal.bounds-row-i
bounds-row-i c = omega (arith, same_length c.args.fields.now c.args.row.now c.requires.fits, c.loop-i-test.true)

pub write_column-requires-clause-fits : goal.write_column-requires-clause-fits
write_column-requires-clause-fits c = fits_here c.args.fields.now c.args.row.now c.loop-i.i _ _ c.requires.fits c.loop-i-test.true c.index-fields-i.is c.index-row-i.is

pub returns-in-Err-clause-bad : goal.returns-in-Err-clause-bad
returns-in-Err-clause-bad c = λ e.
    let same : c.in-Err.fault ≡ Bad = cc e in
    let in_widths : c.loop-i.i < length c.args.widths.now = omega (arith, c.requires.widths, c.loop-i-test.true) in
    let in_row : c.loop-i.i < length c.args.row.now = omega (arith, same_length c.args.fields.now c.args.row.now c.requires.fits, c.loop-i-test.true) in
    column_wide c.args.fields.now c.args.widths.now c.args.row.now c.loop-i.i _ _ c.index-fields-i.result _ c.index-row-i.result
    (item_more c.args.fields.now c.loop-i.i c.index-fields-i.result c.loop-i-test.true c.index-fields-i.is) (drop_more c.args.widths.now c.loop-i.i 0 in_widths)
    (item_more c.args.row.now c.loop-i.i c.index-row-i.result in_row c.index-row-i.is) (c.in-Err.ensures.bad (ap Err same)) c.loop-i.invariant

pub loop-i-preserved : goal.loop-i-preserved
loop-i-preserved c =
    let in_widths : c.loop-i.i < length c.args.widths.now = omega (arith, c.requires.widths, c.loop-i-test.true) in
    let in_row : c.loop-i.i < length c.args.row.now = omega (arith, same_length c.args.fields.now c.args.row.now c.requires.fits, c.loop-i-test.true) in
    column_step c.args.fields.now c.args.widths.now c.args.row.now c.loop-i.i _ _ _ c.index-fields-i.result _ c.index-row-i.result
    (item_more c.args.fields.now c.loop-i.i c.index-fields-i.result c.loop-i-test.true c.index-fields-i.is) (drop_more c.args.widths.now c.loop-i.i 0 in_widths)
    (item_more c.args.row.now c.loop-i.i c.index-row-i.result in_row c.index-row-i.is) c.in-Ok.ensures.ok c.in-Ok.ensures.narrow c.loop-i.invariant
