use Rattle.std.proofs.Common.{◌≡◌, ℕ, List, ◌∷◌, [], length, map, ap, sym, ◌∙◌, subst}
use Rattle.streams.specs.Streams.{Out, sends}
use Rattle.op_base.specs.declared.fault.Fault.{Fault}
use Rattle.op_base.specs.Columns.{Row, all_columns}
use Rattle.op_base.specs.RowOperators.{cell}
use Rattle.op_base.specs.Emits.{Adds}
use Rattle.op_row.specs.Expressed.{AreTargets, input_fields, targets, width_after}
use Rattle.op_row.proofs.Transformed.{fits_length, values_length, all_may, set_given}
use Rattle.op_row.proofs.transforming.send_set.Goals as goal

pub set_values-requires : goal.set_values-requires
set_values-requires c = all_may c.args.row c.args.sets.now c.requires.sets c.requires.fits

pub set_row-requires-clause-columns : goal.set_row-requires-clause-columns
set_row-requires-clause-columns c =
    let P : ℕ → Type 0 = λ n. AreTargets n (targets c.args.sets.now) in
    subst P (fits_length (input_fields c.args.sets.now) c.args.row c.requires.fits) c.requires.sets.columns

pub set_row-requires-clause-same : goal.set_row-requires-clause-same
set_row-requires-clause-same c = values_length c.args.row c.args.sets.now c.in-Ok.values (c.in-Ok.ensures (λ e. cc))

pub returns-in_ok-send-in-Ok : goal.returns-in_ok-send-in-Ok
returns-in_ok-send-in-Ok c =
    let sets = c.args.sets.now in
    let P : List (Out Row Fault) → Type 0 = λ outs. Adds c.args.emit.now c.send.new.self outs in
    let wide : length (input_fields sets) ≡ length c.args.row = fits_length (input_fields sets) c.args.row c.requires.fits in
    subst P
    (ap (λ r. sends 0 r ∷ []) (c.in_ok-row-in-Ok.ensures ∙ ap (λ n. map (cell (targets sets) c.in-Ok.values c.args.row) (all_columns (width_after n (targets sets)))) (sym wide)) ∙ set_given sets c.args.reject c.args.row c.in-Ok.values (c.in-Ok.ensures (λ e. cc)))
    c.in_ok-send-in-Ok.ensures.ok
