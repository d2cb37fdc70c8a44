use Rattle.std.proofs.Common.{rules}
use Rattle.std.proofs.Common.{arith}
use Rattle.std.proofs.lemmas.Grind.{common_steps}
use Rattle.ds_expr.specs.declared.node.Node.{the_lemmas}
use Rattle.ds_expr.proofs.Evals.{args_row, args_typed, args_in_range, value_in_range, chain_joins, next_operand, next_joins, ok_known, all_known, join_next, join_fault}
use Rattle.ds_expr.proofs.evaluating.+evaluation.Goals as goal

pub call-choose-requires : goal.call-choose-requires
call-choose-requires t c = (search rules, (args_typed _ _ _ c.requires.typed, (args_row _ _ _ c.requires.typed, (c.requires.schema, c.requires.row))))

pub call-all-requires : goal.call-all-requires
call-all-requires t c = (search rules, (args_typed _ _ _ c.requires.typed, (c.requires.schema, c.requires.row)))

pub call-use_row-requires-clause-row : goal.call-use_row-requires-clause-row
call-use_row-requires-clause-row t c = args_row _ _ _ c.requires.typed

pub call-use_row-requires-clause-range : goal.call-use_row-requires-clause-range
call-use_row-requires-clause-range t c = rw c.as_slice.ensures (args_in_range _ _ _ _ _ c.requires.schema c.requires.row c.requires.typed (all_known _ _ c.in_ok-values.ensures))

pub join-use_row-requires-clause-range : goal.join-use_row-requires-clause-range
join-use_row-requires-clause-range t c = (c.requires.left, (value_in_range _ _ _ _ c.requires.schema c.requires.row c.requires.typed (ok_known _ _ c.in_ok-right.ensures), tt))

pub join_all-join-requires : goal.join_all-join-requires
join_all-join-requires t c = (first_of (search (rules, the_lemmas), grind (arith, common_steps, the_lemmas), search (rules, the_lemmas, common_steps)), next_operand _ _ _ _ c.loop-used-item.result _ c.loop-used-test.true c.loop-used-item.is c.requires.schema c.requires.row c.loop-used.invariant.typed)

pub join_all-returns-in-Err : goal.join_all-returns-in-Err
join_all-returns-in-Err t c = join_fault _ _ _ c.loop-used-item.result _ _ _ c.loop-used-test.true c.loop-used-item.is c.in-Err.ensures c.loop-used.invariant.rest

pub join_all-loop-used-preserved : goal.join_all-loop-used-preserved
join_all-loop-used-preserved t c =
    let e = ok_known _ _ c.in-Ok.ensures in
    record {
      rest = join_next _ _ _ c.loop-used-item.result _ _ _ c.loop-used-test.true c.loop-used-item.is e c.loop-used.invariant.rest;
      typed = next_joins _ _ _ _ c.loop-used-item.result _ _ c.loop-used-test.true c.loop-used-item.is c.requires.schema c.requires.row c.loop-used.invariant.typed e;
    }

pub branch-use_row-requires-clause-range : goal.branch-use_row-requires-clause-range
branch-use_row-requires-clause-range t c = (tt, (value_in_range _ _ _ _ c.requires.schema c.requires.row c.requires.typed (ok_known _ _ c.in_ok-value.ensures), (tt, tt)))

pub branch-use_row-requires-else-test-clause-range : goal.branch-use_row-requires-else-test-clause-range
branch-use_row-requires-else-test-clause-range t c = (tt, (tt, (value_in_range _ _ _ _ c.requires.schema c.requires.row c.requires.typed (ok_known _ _ c.in_ok-value.ensures), tt)))

pub node-join_all-requires : goal.node-join_all-requires
node-join_all-requires t c =
    (first_of (search rules, search (rules, the_lemmas)), (chain_joins _ _ _ _ _ _ _ _ c.requires.schema c.requires.row c.requires.typed c.in-Chain.is c.get.ensures c.as_slice-in-Chain.ensures (ok_known _ _ c.in_ok-left-in-Chain.ensures), (c.requires.schema, c.requires.row)))
