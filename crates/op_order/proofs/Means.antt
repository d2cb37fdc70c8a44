-- On sorted rows, what remdup gives is one row for each key value.
use Rattle.std.proofs.Common.{◌≡◌, ℕ, Bool, true, false, refl, sym, ap, ◌∙◌, List, [], ◌∷◌, ◌++◌, map}
use Rattle.std.specs.List.{flat_map}
use Rattle.streams.specs.Streams.{Out, sends, Gives}
use Rattle.streams.specs.Operators.{first_outs, last_outs}
use Rattle.streams.specs.Lists.{runs_of}
use Rattle.streams.proofs.OperatorLaws.{operators_give}
use Rattle.ds_schema.specs.declared.key.Key.{Key}
use Rattle.ds_schema.specs.Rows.{row_cmp}
use Rattle.op_base.specs.declared.fault.Fault.{Fault}
use Rattle.op_base.specs.Columns.{Row}
use Rattle.op_base.specs.Keyed.{by_key, arranged}
use Rattle.op_base.specs.Lists.{IsArranged}
use Rattle.op_base.specs.Meanings.{one_row}
use Rattle.op_base.proofs.Orders.{row_total}
use Rattle.op_base.proofs.KeyLaws.{by_key_ranks}
use Rattle.op_base.proofs.RunLaws.{by_runs}
use Rattle.op_base.proofs.SortedInputs.{by_key_arranged}
use Rattle.op_order.specs.Ordered.{same_key, remdup_stream}
use Rattle.op_order.specs.Laws.{TsortArranges, RemdupKeepsOne, RemdupSeesNoSort}

pub tsort-arranges : TsortArranges
tsort-arranges keys lists outs g = ((operators_give Row Fault).at_end (λ rows. map (sends 0) (arranged keys rows))).1 lists outs g

-- each run's row is sent
sent_rows : (f : List Row → List Row) (give : List Row → List (Out Row Fault)) → ((run : List Row) → give run ≡ map (sends 0) (f run)) → (runs : List (List Row)) → flat_map give runs ≡ map (sends 0) (flat_map f runs)
sent_rows f give h [] = refl
sent_rows f give h (run ∷ runs) = ap (λ t. t ++ flat_map give runs) (h run) ∙ ap (λ t. map (sends 0) (f run) ++ t) (sent_rows f give h runs) ∙ sym (Rattle.streams.proofs.StreamLaws.map-append (sends 0) (f run) (flat_map f runs))

first_is : (run : List Row) → first_outs {F = Fault} run ≡ map (sends 0) (one_row false run)
first_is [] = refl
first_is (r ∷ run) = refl

last_is : (run : List Row) → last_outs {F = Fault} run ≡ map (sends 0) (one_row true run)
last_is [] = refl
last_is (r ∷ []) = refl
last_is (r ∷ (s ∷ run)) = last_is (s ∷ run)

one_each : (keys : List Key) (last : Bool) (rows : List Row) → IsArranged (row_cmp keys) rows → flat_map (one_row last) (runs_of (same_key keys) rows) ≡ by_key keys (one_row last) rows
one_each keys last rows up = by_runs (row_total keys) (one_row last) rows up ∙ sym (by_key_ranks keys (one_row last) rows)

-- of any list, one row of each run
pub remdup_outs : (keys : List Key) (last : Bool) (lists : ℕ → List Row) (outs : List (Out Row Fault)) → Gives (remdup_stream keys last) lists outs → outs ≡ map (sends 0) (flat_map (one_row last) (runs_of (same_key keys) (lists 0)))
remdup_outs keys false lists outs g = ((operators_give Row Fault).remdup (same_key keys)).1 lists outs g ∙ sent_rows (one_row false) first_outs first_is (runs_of (same_key keys) (lists 0))
remdup_outs keys true lists outs g = ((operators_give Row Fault).run (same_key keys) last_outs).1 lists outs g ∙ sent_rows (one_row true) last_outs last_is (runs_of (same_key keys) (lists 0))

pub remdup-keeps-one : RemdupKeepsOne
remdup-keeps-one keys last lists outs up g = remdup_outs keys last lists outs g ∙ ap (map (sends 0)) (one_each keys last (lists 0) up)

pub remdup-sees-no-sort : RemdupSeesNoSort
remdup-sees-no-sort keys last rows = by_key_arranged keys (one_row last) rows
