use Rattle.std.proofs.Common.{◌≡◌, ◌<◌, map, ap, sym, subst, ◌∙◌, length}
use Rattle.std.proofs.lemmas.Result.{IfOk-weaker}
use Rattle.ds_schema.specs.Rows.{row_cmp}
use Rattle.op_base.specs.declared.emit.Sent.{Sent}
use Rattle.op_collect.specs.Merged.{merged}
use Rattle.run_collect.proofs.Collected.{merge_given}
use Rattle.run_collect.proofs.collect.merge_lists.Goals as goal

pub returns : goal.returns
returns c =
    let count : c.len.result ≡ length c.args.lists = c.len.ensures ∙ c.into_vec-lists.result.ok.0 ∙ ap length c.into_vec-lists.ensures in
    IfOk-weaker c.rows_of.result (λ rows. rows ≡ map (λ (s : Sent). s.row) c.in_ok-emit.emit.sent) (λ rows. rows ≡ merged (row_cmp c.args.keys) c.args.lists)
    (λ rows are. merge_given c.args.lists c.into_vec-lists.result.items _ c.in_ok-emit.emit rows are c.args.keys c.len.result (subst (λ n. 0 < n) (sym count) c.requires.some) count c.into_vec-lists.ensures c.in_ok-op.ensures.stream c.in_ok-emit.ensures) c.rows_of.ensures
