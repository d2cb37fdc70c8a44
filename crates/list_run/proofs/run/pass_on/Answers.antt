use Rattle.std.proofs.Common.{◌∙◌, [], refl, ap, subst, List, map, get_or, set}
use Rattle.std.proofs.lemmas.List.{get_or-set_other}
use Rattle.ds_schema.specs.declared.key.Key.{Key}
use Rattle.op_base.specs.Columns.{Row}
use Rattle.flow_graph.specs.declared.op_kind.OpKind.{OpKind}
use Rattle.flow_graph.specs.declared.flow.OpSpec.{OpSpec}
use Rattle.flow_graph.specs.declared.parts.OpParts.{OpParts}
use Rattle.flow_graph.specs.Charts.{link_at, op_at, no_op, keys_at}
use Rattle.list_run.specs.declared.held.Held.{Held}
use Rattle.list_run.specs.Held.{Puts, outputs}
use Rattle.list_run.specs.Made.{made}
use Rattle.flow_rules.specs.Exports.{input_of}
use Rattle.list_run.proofs.Links.{same_at}
use Rattle.list_run.proofs.Tallying.{still}
use Rattle.list_run.proofs.run.pass_on.Goals as goal

pub returns : goal.returns
returns c =
    let chart = c.args.shaped.now in
    let olds = c.args.held.now.waiting.items in
    let op = c.args.op in
    let ops = c.as_slice.ensures ∙ ap (λ f. f.ops) c.flow.ensures in
    let spec = ap (λ os. get_or os op c.index-as_slice-op.result) ops ∙ same_at chart.flow.ops op c.index-as_slice-op.result no_op c.requires.op in
    let kind = ap (λ (s : OpSpec). s.kind) spec in
    let keys = ap (λ (p : OpParts). p.keys) c.parts.ensures in
    let got = c.take_at-got.ensures.list ∙ ap (λ i. get_or olds i []) c.input_of.ensures in
    let sent = c.in_ok-made.ensures
    ∙ ap (λ (k : OpKind). map (made k c.parts.result.now.keys) c.take_at-got.result) kind
    ∙ ap (λ (ks : List (List Key)). map (made (op_at chart op).kind ks) c.take_at-got.result) keys
    ∙ ap (map (made (op_at chart op).kind (keys_at chart op))) got in
    let mid : Held = record { waiting = c.take_at-got.new.lists; counts = c.args.held.now.counts; sinks = c.args.held.now.sinks; tally = c.args.held.now.tally } in
    record {
      mid = mid;
      others = λ l k. ap (λ (ls : List (List (List Row))). get_or ls l []) (c.take_at-got.ensures.rest ∙ ap (λ i. set olds i []) c.input_of.ensures) ∙ get_or-set_other olds (input_of chart op) l [] [] (λ e. k (ap (λ i. (link_at chart i).to) e ∙ c.requires.input));
      counts = refl;
      sinks = refl;
      found = still c.args.held.now.tally c.args.held.now.tally refl;
      puts = subst (λ (s : List (List Row)). Puts chart c.args.nodes (outputs chart op) (λ l. s) mid c.send.new.held) sent c.in_ok-send.ensures;
    }
