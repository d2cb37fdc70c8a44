use Rattle.std.proofs.Common.{◌≡◌, ◌<◌, ◌∙◌, refl, sym, ap, subst, List, ℕ, get_or}
use Rattle.op_base.specs.Columns.{Row}
use Rattle.flow_graph.specs.declared.op_kind.OpKind.{OpKind}
use Rattle.flow_graph.specs.declared.flow.OpSpec.{OpSpec}
use Rattle.flow_graph.specs.declared.parts.OpParts.{OpParts}
use Rattle.flow_graph.specs.Charts.{op_at, no_op, parts_of}
use Rattle.list_run.specs.declared.held.Held.{Held}
use Rattle.list_run.specs.Found.{Grows, found_by}
use Rattle.list_run.specs.Held.{inputs_of, out_on, outputs, waits, worked_at}
use Rattle.flow_ops.specs.Kinds.{widths_into}
use Rattle.list_run.specs.Worked.{AreMade, CanWork, IsWorked}
use Rattle.list_run.proofs.Links.{same_at}
use Rattle.list_run.proofs.Puts.{put_sent}
use Rattle.list_run.proofs.Splitting.{some_output}
use Rattle.list_run.proofs.Steps.{may_as}
use Rattle.list_run.proofs.Suiting.{can_work}
use Rattle.list_run.proofs.run.work_on.Goals as goal

-- what is said of the operator as it is read
as_read : (P : OpKind → OpParts → List ℕ → List (List (List Row)) → Type 0) (k k' : OpKind) (parts parts' : OpParts) (widths widths' : List ℕ) (inputs inputs' : List (List (List Row))) → k' ≡ k → parts' ≡ parts → widths' ≡ widths → inputs' ≡ inputs → P k' parts' widths' inputs' → P k parts widths inputs
as_read P k k' parts parts' widths widths' inputs inputs' a b c d h = subst (λ i. P k parts widths i) d (subst (λ w. P k parts w inputs') c (subst (λ p. P k p widths' inputs') b (subst (λ x. P x parts' widths' inputs') a h)))

pub work_on_each-requires-clause-worked : goal.work_on_each-requires-clause-worked
work_on_each-requires-clause-worked c =
    let chart = c.args.shaped.now in
    let op = c.args.op in
    let spec = ap (λ os. get_or os op c.index-as_slice-op.result) (c.as_slice.ensures ∙ ap (λ f. f.ops) c.flow.ensures) ∙ same_at chart.flow.ops op c.index-as_slice-op.result no_op c.requires.op in
    subst IsWorked (sym (ap (λ (s : OpSpec). s.kind) spec)) c.requires.worked

pub work_on_each-requires-clause-can : goal.work_on_each-requires-clause-can
work_on_each-requires-clause-can c =
    let chart = c.args.shaped.now in
    let op = c.args.op in
    let spec = ap (λ os. get_or os op c.index-as_slice-op.result) (c.as_slice.ensures ∙ ap (λ f. f.ops) c.flow.ensures) ∙ same_at chart.flow.ops op c.index-as_slice-op.result no_op c.requires.op in
    as_read CanWork _ _ _ _ _ _ _ _ (sym (ap (λ (s : OpSpec). s.kind) spec)) (sym c.parts-parts.ensures) (sym (c.deref.ensures.value ∙ c.in_ok-widths.ensures)) (sym c.in_ok-inputs.ensures.inputs)
    (can_work chart op (op_at chart op).kind c.requires.shape c.requires.op refl c.requires.built c.requires.worked (waits c.args.held.now) c.requires.fits)

pub send_outputs-requires-clause-outs : goal.send_outputs-requires-clause-outs
send_outputs-requires-clause-outs c = subst (λ n. 0 < n) (sym c.in_ok-outs.ensures.made.0) (some_output _)

pub send_outputs-requires-clause-may : goal.send_outputs-requires-clause-may
send_outputs-requires-clause-may c =
    let chart = c.args.shaped.now in
    let op = c.args.op in
    let outs = c.in_ok-outs.outs.items in
    let spec = ap (λ os. get_or os op c.index-as_slice-op.result) (c.as_slice.ensures ∙ ap (λ f. f.ops) c.flow.ensures) ∙ same_at chart.flow.ops op c.index-as_slice-op.result no_op c.requires.op in
    let made = as_read (λ k parts widths inputs. AreMade op k parts widths inputs outs) (op_at chart op).kind _ (parts_of chart op) _ (widths_into chart op) _ (inputs_of chart op (waits c.args.held.now)) _ (ap (λ (s : OpSpec). s.kind) spec) c.parts-parts.ensures (c.deref.ensures.value ∙ c.in_ok-widths.ensures) c.in_ok-inputs.ensures.inputs c.in_ok-outs.ensures.made in
    may_as chart c.args.nodes op (worked_at chart op c.args.held.now) (out_on chart outs) (λ l e. sym (made.1 _)) c.requires.may

pub returns : goal.returns
returns c =
    let chart = c.args.shaped.now in
    let op = c.args.op in
    let outs = c.in_ok-outs.outs.items in
    let spec = ap (λ os. get_or os op c.index-as_slice-op.result) (c.as_slice.ensures ∙ ap (λ f. f.ops) c.flow.ensures) ∙ same_at chart.flow.ops op c.index-as_slice-op.result no_op c.requires.op in
    let made = as_read (λ k parts widths inputs. AreMade op k parts widths inputs outs) (op_at chart op).kind _ (parts_of chart op) _ (widths_into chart op) _ (inputs_of chart op (waits c.args.held.now)) _ (ap (λ (s : OpSpec). s.kind) spec) c.parts-parts.ensures (c.deref.ensures.value ∙ c.in_ok-widths.ensures) c.in_ok-inputs.ensures.inputs c.in_ok-outs.ensures.made in
    let found = as_read (λ k parts widths inputs. Grows c.args.held.now.tally c.work_on_each.new.tally (found_by op k parts widths inputs)) (op_at chart op).kind _ (parts_of chart op) _ (widths_into chart op) _ (inputs_of chart op (waits c.args.held.now)) _ (ap (λ (s : OpSpec). s.kind) spec) c.parts-parts.ensures (c.deref.ensures.value ∙ c.in_ok-widths.ensures) c.in_ok-inputs.ensures.inputs c.in_ok-outs.ensures.found in
    let mid : Held = record { waiting = c.take_inputs.new.waiting; counts = c.args.held.now.counts; sinks = c.args.held.now.sinks; tally = c.work_on_each.new.tally } in
    record {
      mid = mid;
      others = c.in_ok-inputs.ensures.others;
      counts = refl;
      sinks = refl;
      found = found;
      puts = put_sent chart c.args.nodes (outputs chart op) (out_on chart outs) (worked_at chart op c.args.held.now) mid c.send_outputs.new.held (λ l. made.1 _) c.in_ok-send_outputs.ensures;
    }
