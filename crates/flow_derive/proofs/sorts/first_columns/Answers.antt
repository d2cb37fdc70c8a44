use Rattle.std.proofs.Common.{ap, arith, ◌≡◌, ◌^◌, ◌≤◌, length}
use Rattle.flow_derive.proofs.KeyLists.{few_keys}
use Rattle.flow_derive.proofs.sorts.first_columns.Goals as goal

pub overflow_cast-i : goal.overflow_cast-i
overflow_cast-i c =
    let few : length c.args.keys.now ≤ 2 ^ 32 = few_keys c.args.keys.now c.args.columns.now (2 ^ 32) c.as_slice-key-items.ensures.differ c.requires (λ i. let h = c.type_inv.columns i in omega arith) in
    let same : length c.as_slice-key-items.result.now ≡ length c.args.keys.now = ap length c.as_slice-key-items.ensures.keys in
    omega arith
