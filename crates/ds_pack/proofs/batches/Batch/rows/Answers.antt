use Rattle.std.proofs.Common.{◌≤◌, ◌∙◌, ap, length, subst, List}
use Rattle.ds_value.specs.declared.value.Value.{Value}
use Rattle.ds_pack.specs.Batches.{packed_rows}
use Rattle.ds_pack.proofs.batches.Batch.rows.Goals as goal

pub returns-clause-rows : goal.returns-clause-rows
returns-clause-rows c = c.unpack_rows.ensures c.args.self c.requires (c.as_slice.ensures ∙ (c.self.invariant.whole ∙ ap packed_rows c.self.view_is))

pub returns-clause-some : goal.returns-clause-some
returns-clause-some c = subst (λ (rows : List (List Value)). 1 ≤ length rows) c.self.view_is c.self.invariant.some
