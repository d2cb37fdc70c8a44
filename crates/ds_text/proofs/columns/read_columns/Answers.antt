use Rattle.std.proofs.Common.{◌≡◌, ◌≤◌, ◌<◌, length, Err, ap, ◌∙◌, sym, arith}
use Rattle.std.proofs.lemmas.List.{drop_more}
use Rattle.ds_text.specs.declared.fault.RecordFault.TheVariants.{Bad}
use Rattle.ds_text.proofs.Partial.{item_more}
use Rattle.ds_text.proofs.ColumnRows.{more_columns, no_column, longer, whole_line}
use Rattle.ds_text.proofs.ColumnLaws.{fixed_spells, spells_fixed}
use Rattle.ds_text.proofs.columns.read_columns.Goals as goal

pub returns-in-Err-column_value-clause-bad : goal.returns-in-Err-column_value-clause-bad
returns-in-Err-column_value-clause-bad c = λ e us s.
    let same : c.in-Err-column_value.fault ≡ Bad = cc e in
    let within : c.loop-i.i < length c.args.widths.now = omega (arith, c.requires.widths, c.loop-i-test.true) in
    no_column _ _ _ _ _ _ _ _ (item_more c.args.fields.now c.loop-i.i c.index-fields-i.result c.loop-i-test.true c.index-fields-i.is) (drop_more c.args.widths.now c.loop-i.i 0 within)
    (rw c.cut.ensures.front at (c.in-Err-column_value.ensures.bad (ap Err same))) c.loop-i.invariant us (spells_fixed _ _ _ us s)

pub loop-i-preserved : goal.loop-i-preserved
loop-i-preserved c =
    let within : c.loop-i.i < length c.args.widths.now = omega (arith, c.requires.widths, c.loop-i-test.true) in
    rw (c.cut.ensures.back, c.in-Ok-push.ensures.items)
    (more_columns _ _ _ _ _ _ _ _ _ (item_more c.args.fields.now c.loop-i.i c.index-fields-i.result c.loop-i-test.true c.index-fields-i.is) (drop_more c.args.widths.now c.loop-i.i 0 within)
    (rw c.cut.ensures.front at c.in-Ok-column_value.ensures.found) c.loop-i.invariant)

pub returns-then-not-is_empty-clause-bad : goal.returns-then-not-is_empty-clause-bad
returns-then-not-is_empty-clause-bad c = λ _ us s.
    let within : length c.args.widths.now ≤ c.loop-i.i = omega (arith, c.requires.widths, c.loop-i-test.false) in
    longer _ _ _ _ _ _ c.loop-i-test.false within (sym c.is_empty.ensures ∙ c.if-not-is_empty.true) c.loop-i.invariant us (spells_fixed _ _ _ us s)

pub returns-clause-found : goal.returns-clause-found
returns-clause-found c =
    let within : length c.args.widths.now ≤ c.loop-i.i = omega (arith, c.requires.widths, c.loop-i-test.false) in
    fixed_spells _ _ _ _ (whole_line _ _ _ _ _ _ c.loop-i-test.false within (sym c.is_empty.ensures ∙ c.if-not-is_empty.false) c.loop-i.invariant)
