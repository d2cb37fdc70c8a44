use Rattle.std.proofs.Common.{◌<◌, length, arith}
use Rattle.ds_text.proofs.Partial.{item_more}
use Rattle.ds_text.proofs.FieldWriting.{same_length, fits_here, field_step}
use Rattle.ds_text.proofs.write_fields.write_fields.Goals as goal

pub bounds-row-i : goal.bounds-row-i
bounds-row-i c = omega (arith, same_length c.args.fields.now c.args.row.now c.requires.fits, c.loop-i-test.true)

pub write_field-requires-clause-fits : goal.write_field-requires-clause-fits
write_field-requires-clause-fits c = fits_here c.args.fields.now c.args.row.now c.loop-i.i _ _ c.requires.fits c.loop-i-test.true c.index-fields-i.is c.index-row-i.is

pub loop-i-preserved : goal.loop-i-preserved
loop-i-preserved c =
    let within : c.loop-i.i < length c.args.row.now = omega (arith, same_length c.args.fields.now c.args.row.now c.requires.fits, c.loop-i-test.true) in
    field_step c.args.delimiter c.loop-i.i c.args.fields.now c.args.row.now c.index-fields-i.result c.index-row-i.result c.loop-i.into c.separate.new.into c.write_field.new.into _
    (item_more c.args.fields.now c.loop-i.i c.index-fields-i.result c.loop-i-test.true c.index-fields-i.is) (item_more c.args.row.now c.loop-i.i c.index-row-i.result within c.index-row-i.is)
    c.in_ok-separate.ensures c.in_ok-write_field.ensures c.loop-i.invariant
