use Rattle.std.proofs.Common.{◌≡◌, ℕ, inl, inr, None, ◌∙◌, ◌∷◌, [], refl, ap, sym, subst, List, length, get_or}
use Rattle.op_base.specs.Columns.{Row}
use Rattle.flow_graph.specs.declared.op_kind.OpKind.{OpKind}
use Rattle.flow_graph.specs.declared.flow.OpSpec.{OpSpec}
use Rattle.flow_graph.specs.declared.op_kind.OpKind.TheVariants as kind
use Rattle.flow_graph.specs.Charts.{no_op, op_at, keys_at, cols_at, first_width, links_into, kind_form}
use Rattle.flow_graph.specs.FlowShape.{FormPorts}
use Rattle.list_run.specs.Found.{found_by}
use Rattle.list_run.specs.Held.{made_at, sent_by, sent_on, waits, worked_at}
use Rattle.flow_rules.specs.Exports.{IsExport}
use Rattle.list_run.specs.Runnable.{IsBuilt}
use Rattle.list_run.proofs.Links.{same_at}
use Rattle.list_run.proofs.Inputs.{one_member, only_input, ports_at}
use Rattle.list_run.proofs.Steps.{Makes, Passes, Quiet, copy_passes, copy_quiet, import_sent, may_as, pass_sent, passes, remdup_passes, remdup_quiet, step_export, tsort_passes, tsort_quiet, work_sent, works}
use Rattle.list_run.proofs.run.run_operator.Goals as goal

pub send_sources-requires-clause-may : goal.send_sources-requires-clause-may
send_sources-requires-clause-may c =
    let chart = c.args.shaped.now in
    let op = c.args.op in
    let spec : op_at chart op ≡ get_or c.as_slice.result.now op c.index-as_slice-op.result = sym (ap (λ os. get_or os op c.index-as_slice-op.result) (c.as_slice.ensures ∙ ap (λ f. f.ops) c.flow.ensures) ∙ same_at chart.flow.ops op c.index-as_slice-op.result no_op c.requires.op) in
    let known = ap (λ (s : OpSpec). s.kind) spec ∙ c.in-Import.is in
    may_as chart c.args.nodes op (sent_on chart (waits c.args.held.now) (λ i. get_or c.args.sources.now.items i [])) (λ l. get_or c.args.sources.now.items l [] ∷ [])
    (λ l e. import_sent chart op l (waits c.args.held.now) (λ i. get_or c.args.sources.now.items i []) (λ parts widths q inputs rows. ap (λ k. sent_by op k parts widths q inputs rows) known) e) c.requires.may

pub returns-in-Export : goal.returns-in-Export
returns-in-Export c =
    let chart = c.args.shaped.now in
    let op = c.args.op in
    let spec : op_at chart op ≡ get_or c.as_slice.result.now op c.index-as_slice-op.result = sym (ap (λ os. get_or os op c.index-as_slice-op.result) (c.as_slice.ensures ∙ ap (λ f. f.ops) c.flow.ensures) ∙ same_at chart.flow.ops op c.index-as_slice-op.result no_op c.requires.op) in
    let known = ap (λ (s : OpSpec). s.kind) spec ∙ c.in-Export.is in
    let input = only_input chart op (ports_at chart c.requires.shape op c.requires.op _ known) in
    step_export chart c.args.nodes op c.args.sources.now.items c.args.held.now c.keep.new.held c.requires.room c.requires.op (subst (IsBuilt chart op) known c.requires.built) (λ parts widths inputs. sym (ap (λ k. found_by op k parts widths inputs) known)) input.1 c.keep.ensures.waiting c.keep.ensures.counts c.keep.ensures.sinks c.keep.ensures.tally

pub pass_on-requires-clause-input : goal.pass_on-requires-clause-input
pass_on-requires-clause-input c =
    let chart = c.args.shaped.now in
    let op = c.args.op in
    let spec : op_at chart op ≡ get_or c.as_slice.result.now op c.index-as_slice-op.result = sym (ap (λ os. get_or os op c.index-as_slice-op.result) (c.as_slice.ensures ∙ ap (λ f. f.ops) c.flow.ensures) ∙ same_at chart.flow.ops op c.index-as_slice-op.result no_op c.requires.op) in
    let known = ap (λ (s : OpSpec). s.kind) spec in
    let input = λ (k : OpKind) (e : (op_at chart op).kind ≡ k) (f : FormPorts (kind_form k (keys_at chart op) (cols_at chart op) (get_or chart.stored op None) (first_width chart op)) (length (links_into chart op)) → length (links_into chart op) ≡ 1).
    (only_input chart op (f (ports_at chart c.requires.shape op c.requires.op k e))).1 in
    elim c.in-Copy.is [
      | inl e ↦ input kind.Copy (known ∙ e) (λ n. n)
      | inr t ↦ elim t [ inl e ↦ input (kind.Tsort e.0) (known ∙ e.1) (λ n. n) | inr e ↦ input (kind.Remdup e.0 e.1) (known ∙ e.2) (λ n. n) ]
    ]

pub pass_on-requires-clause-may : goal.pass_on-requires-clause-may
pass_on-requires-clause-may c =
    let chart = c.args.shaped.now in
    let op = c.args.op in
    let spec : op_at chart op ≡ get_or c.as_slice.result.now op c.index-as_slice-op.result = sym (ap (λ os. get_or os op c.index-as_slice-op.result) (c.as_slice.ensures ∙ ap (λ f. f.ops) c.flow.ensures) ∙ same_at chart.flow.ops op c.index-as_slice-op.result no_op c.requires.op) in
    let known = ap (λ (s : OpSpec). s.kind) spec in
    let held = c.args.held.now in
    let given : ℕ → List Row = λ i. get_or c.args.sources.now.items i [] in
    let may = λ (k : OpKind) (e : (op_at chart op).kind ≡ k) (f : FormPorts (kind_form k (keys_at chart op) (cols_at chart op) (get_or chart.stored op None) (first_width chart op)) (length (links_into chart op)) → length (links_into chart op) ≡ 1) (m : Makes op k) (p : Passes op k).
    may_as chart c.args.nodes op (sent_on chart (waits held) given) (λ l. made_at chart op held) (λ l from. pass_sent chart op l k held given e m p (one_member (links_into chart op) (f (ports_at chart c.requires.shape op c.requires.op k e))) from) c.requires.may in
    elim c.in-Copy.is [
      | inl e ↦ may kind.Copy (known ∙ e) (λ n. n) (λ parts widths q inputs rows. refl) (copy_passes op)
      | inr t ↦ elim t [
        | inl e ↦ may (kind.Tsort e.0) (known ∙ e.1) (λ n. n) (λ parts widths q inputs rows. refl) (tsort_passes op e.0)
        | inr e ↦ may (kind.Remdup e.0 e.1) (known ∙ e.2) (λ n. n) (λ parts widths q inputs rows. refl) (remdup_passes op e.0 e.1)
      ]
    ]

pub returns-in_ok-pass_on-in-Copy : goal.returns-in_ok-pass_on-in-Copy
returns-in_ok-pass_on-in-Copy c =
    let chart = c.args.shaped.now in
    let op = c.args.op in
    let spec : op_at chart op ≡ get_or c.as_slice.result.now op c.index-as_slice-op.result = sym (ap (λ os. get_or os op c.index-as_slice-op.result) (c.as_slice.ensures ∙ ap (λ f. f.ops) c.flow.ensures) ∙ same_at chart.flow.ops op c.index-as_slice-op.result no_op c.requires.op) in
    let known = ap (λ (s : OpSpec). s.kind) spec in
    let pass = λ (k : OpKind) (e : (op_at chart op).kind ≡ k) (f : FormPorts (kind_form k (keys_at chart op) (cols_at chart op) (get_or chart.stored op None) (first_width chart op)) (length (links_into chart op)) → length (links_into chart op) ≡ 1) (m : Makes op k) (p : Passes op k) (q : Quiet op k) (h : IsExport k → ⊥).
    passes chart c.args.nodes op c.args.sources.now.items c.args.held.now c.pass_on.new.held k e m p q h (one_member (links_into chart op) (f (ports_at chart c.requires.shape op c.requires.op k e))) c.in_ok-pass_on-in-Copy.ensures in
    elim c.in-Copy.is [
      | inl e ↦ pass kind.Copy (known ∙ e) (λ n. n) (λ parts widths q inputs rows. refl) (copy_passes op) (copy_quiet op) (λ x. x)
      | inr t ↦ elim t [
        | inl e ↦ pass (kind.Tsort e.0) (known ∙ e.1) (λ n. n) (λ parts widths q inputs rows. refl) (tsort_passes op e.0) (tsort_quiet op e.0) (λ x. x)
        | inr e ↦ pass (kind.Remdup e.0 e.1) (known ∙ e.2) (λ n. n) (λ parts widths q inputs rows. refl) (remdup_passes op e.0 e.1) (remdup_quiet op e.0 e.1) (λ x. x)
      ]
    ]

pub work_on-requires-clause-may : goal.work_on-requires-clause-may
work_on-requires-clause-may c =
    let chart = c.args.shaped.now in
    let op = c.args.op in
    let spec : op_at chart op ≡ get_or c.as_slice.result.now op c.index-as_slice-op.result = sym (ap (λ os. get_or os op c.index-as_slice-op.result) (c.as_slice.ensures ∙ ap (λ f. f.ops) c.flow.ensures) ∙ same_at chart.flow.ops op c.index-as_slice-op.result no_op c.requires.op) in
    let known = ap (λ (s : OpSpec). s.kind) spec in
    let held = c.args.held.now in
    let given : ℕ → List Row = λ i. get_or c.args.sources.now.items i [] in
    let may = λ (k : OpKind) (e : (op_at chart op).kind ≡ k) (m : Makes op k). may_as chart c.args.nodes op (sent_on chart (waits held) given) (worked_at chart op held) (λ l from. work_sent chart op l k held given e m from) c.requires.may in
    elim c.in-Filter.is [
      | inl e ↦ may (kind.Filter e.0 e.1) (known ∙ e.2) (λ parts widths q inputs rows. refl)
      | inr t ↦ elim t [
        | inl e ↦ may (kind.Transform e.0 e.1) (known ∙ e.2) (λ parts widths q inputs rows. refl)
        | inr u ↦ elim u [
          | inl e ↦ may (kind.Modify e.0 e.1 e.2) (known ∙ e.3) (λ parts widths q inputs rows. refl)
          | inr v ↦ elim v [
            | inl e ↦ may (kind.Switch e.0 e.1 e.2) (known ∙ e.3) (λ parts widths q inputs rows. refl)
            | inr w ↦ elim w [
              | inl e ↦ may (kind.Group e.0 e.1 e.2) (known ∙ e.3) (λ parts widths q inputs rows. refl)
              | inr x ↦ elim x [
                | inl e ↦ may (kind.InnerJoin e.0) (known ∙ e.1) (λ parts widths q inputs rows. refl)
                | inr y ↦ elim y [
                  | inl e ↦ may (kind.LeftOuterJoin e.0) (known ∙ e.1) (λ parts widths q inputs rows. refl)
                  | inr z ↦ elim z [
                    | inl e ↦ may (kind.RightOuterJoin e.0) (known ∙ e.1) (λ parts widths q inputs rows. refl)
                    | inr a ↦ elim a [
                      | inl e ↦ may (kind.FullOuterJoin e.0) (known ∙ e.1) (λ parts widths q inputs rows. refl)
                      | inr e ↦ may (kind.Lookup e.0 e.1) (known ∙ e.2) (λ parts widths q inputs rows. refl)
                    ]
                  ]
                ]
              ]
            ]
          ]
        ]
      ]
    ]

pub returns-in_ok-work_on-in-Filter : goal.returns-in_ok-work_on-in-Filter
returns-in_ok-work_on-in-Filter c =
    let chart = c.args.shaped.now in
    let op = c.args.op in
    let spec : op_at chart op ≡ get_or c.as_slice.result.now op c.index-as_slice-op.result = sym (ap (λ os. get_or os op c.index-as_slice-op.result) (c.as_slice.ensures ∙ ap (λ f. f.ops) c.flow.ensures) ∙ same_at chart.flow.ops op c.index-as_slice-op.result no_op c.requires.op) in
    let known = ap (λ (s : OpSpec). s.kind) spec in
    let work = λ (k : OpKind) (e : (op_at chart op).kind ≡ k) (m : Makes op k) (h : IsExport k → ⊥). works chart c.args.nodes op c.args.sources.now.items c.args.held.now c.work_on.new.held k e m h c.in_ok-work_on-in-Filter.ensures in
    elim c.in-Filter.is [
      | inl e ↦ work (kind.Filter e.0 e.1) (known ∙ e.2) (λ parts widths q inputs rows. refl) (λ x. x)
      | inr t ↦ elim t [
        | inl e ↦ work (kind.Transform e.0 e.1) (known ∙ e.2) (λ parts widths q inputs rows. refl) (λ x. x)
        | inr u ↦ elim u [
          | inl e ↦ work (kind.Modify e.0 e.1 e.2) (known ∙ e.3) (λ parts widths q inputs rows. refl) (λ x. x)
          | inr v ↦ elim v [
            | inl e ↦ work (kind.Switch e.0 e.1 e.2) (known ∙ e.3) (λ parts widths q inputs rows. refl) (λ x. x)
            | inr w ↦ elim w [
              | inl e ↦ work (kind.Group e.0 e.1 e.2) (known ∙ e.3) (λ parts widths q inputs rows. refl) (λ x. x)
              | inr x ↦ elim x [
                | inl e ↦ work (kind.InnerJoin e.0) (known ∙ e.1) (λ parts widths q inputs rows. refl) (λ x. x)
                | inr y ↦ elim y [
                  | inl e ↦ work (kind.LeftOuterJoin e.0) (known ∙ e.1) (λ parts widths q inputs rows. refl) (λ x. x)
                  | inr z ↦ elim z [
                    | inl e ↦ work (kind.RightOuterJoin e.0) (known ∙ e.1) (λ parts widths q inputs rows. refl) (λ x. x)
                    | inr a ↦ elim a [
                      | inl e ↦ work (kind.FullOuterJoin e.0) (known ∙ e.1) (λ parts widths q inputs rows. refl) (λ x. x)
                      | inr e ↦ work (kind.Lookup e.0 e.1) (known ∙ e.2) (λ parts widths q inputs rows. refl) (λ x. x)
                    ]
                  ]
                ]
              ]
            ]
          ]
        ]
      ]
    ]
