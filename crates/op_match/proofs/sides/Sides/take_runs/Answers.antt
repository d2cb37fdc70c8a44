use Rattle.std.proofs.Common.{◌≡◌, ◌≤◌, ◌<◌, ◌∙◌, List, sym, subst, ap, length, get_or}
use Rattle.std.specs.Vec.{with_items}
use Rattle.std.proofs.lemmas.List.{with_items_is}
use Rattle.ds_schema.specs.Rows.{cols}
use Rattle.op_base.specs.Feeds.{front}
use Rattle.op_match.specs.declared.side.Side.{Side}
use Rattle.op_match.specs.Waiting.{side_rows, CutTo, IsReady}
use Rattle.op_match.proofs.Pieces.{all_there}
use Rattle.op_match.proofs.Taking.{at_long, cut_all, cut_length, cut_next, cut_none, still_there, taken_all, taken_more}
use Rattle.op_match.proofs.sides.Sides.take_runs.Goals as goal

pub loop-side-init : goal.loop-side-init
loop-side-init c = record {
  cut = subst (CutTo c.args.key.now 0 c.args.self.now.list.items) (sym c.deref_mut-side-items.ensures.value) (cut_none c.args.key.now c.args.self.now.list.items);
  taken = c.in_ok-runs.ensures.items;
}

pub take_run-requires-clause-key : goal.take_run-requires-clause-key
take_run-requires-clause-key c =
    let L : List Side = c.args.self.now.list.items in
    let lt : c.loop-side.side-index < length L = subst (λ (xs : List Side). c.loop-side.side-index < length xs) c.deref_mut-side-items.ensures.value c.loop-side-test.true in
    let same : get_or c.loop-side.side-items c.loop-side.side-index c.side-item.result ≡ get_or L c.loop-side.side-index c.side-item.result = still_there c.args.key.now c.loop-side.side-index L c.loop-side.side-items c.side-item.result lt c.loop-side.invariant.cut in
    ap (λ (s : Side). length s.keys) same ∙ sym (at_long L c.loop-side.side-index c.side-item.result lt c.requires.sound) ∙ c.requires.key

pub take_run-requires-clause-ready : goal.take_run-requires-clause-ready
take_run-requires-clause-ready c =
    let L : List Side = c.args.self.now.list.items in
    let lt : c.loop-side.side-index < length L = subst (λ (xs : List Side). c.loop-side.side-index < length xs) c.deref_mut-side-items.ensures.value c.loop-side-test.true in
    let same : get_or c.loop-side.side-items c.loop-side.side-index c.side-item.result ≡ get_or L c.loop-side.side-index c.side-item.result = still_there c.args.key.now c.loop-side.side-index L c.loop-side.side-items c.side-item.result lt c.loop-side.invariant.cut in
    subst IsReady (sym same) (all_there IsReady L c.loop-side.side-index c.side-item.result lt c.requires.sound.ready)

pub loop-side-preserved : goal.loop-side-preserved
loop-side-preserved c =
    let L : List Side = c.args.self.now.list.items in
    let lt : c.loop-side.side-index < length L = subst (λ (xs : List Side). c.loop-side.side-index < length xs) c.deref_mut-side-items.ensures.value c.loop-side-test.true in
    let same : get_or c.loop-side.side-items c.loop-side.side-index c.side-item.result ≡ get_or L c.loop-side.side-index c.side-item.result = still_there c.args.key.now c.loop-side.side-index L c.loop-side.side-items c.side-item.result lt c.loop-side.invariant.cut in
    record {
      cut = cut_next c.args.key.now c.loop-side.side-index L c.loop-side.side-items c.side-item.result c.take_run.new.self lt c.loop-side.invariant.cut c.in_ok-take_run.ensures.cut;
      taken = taken_more c.args.key.now L c.loop-side.side-index c.side-item.result c.loop-side.runs.items c.push.new.self.items _ lt c.loop-side.invariant.taken (c.in_ok-take_run.ensures.run ∙ ap (λ (s : Side). front (cols s.keys) c.args.key.now (side_rows s)) same) c.in_ok-push.ensures.items;
    }

pub returns-clause-runs : goal.returns-clause-runs
returns-clause-runs c =
    let L : List Side = c.args.self.now.list.items in
    taken_all c.args.key.now L c.loop-side.side-index c.loop-side.runs.items (subst (λ (xs : List Side). length xs ≤ c.loop-side.side-index) c.deref_mut-side-items.ensures.value c.loop-side-test.false) c.loop-side.invariant.taken

pub returns-clause-rest : goal.returns-clause-rest
returns-clause-rest c =
    let L : List Side = c.args.self.now.list.items in
    let long : length c.loop-side.side-items ≡ c.args.self.now.list.len = cut_length c.args.key.now c.loop-side.side-index L c.loop-side.side-items c.loop-side.invariant.cut ∙ sym c.args.self.now.list.ok.0 in
    subst (CutTo c.args.key.now (length L) L) (sym (with_items_is c.args.self.now.list c.loop-side.side-items long))
    (cut_all c.args.key.now c.loop-side.side-index L c.loop-side.side-items (subst (λ (xs : List Side). length xs ≤ c.loop-side.side-index) c.deref_mut-side-items.ensures.value c.loop-side-test.false) c.loop-side.invariant.cut)
