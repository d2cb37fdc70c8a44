use Rattle.std.proofs.Common.{◌≡◌, [], map, drop}
use Rattle.ds_expr.specs.Typed.{JoinsFrom}
use Rattle.ds_expr.specs.Values.{value_in, values, valued_link, all_joined}
use Rattle.ds_expr.proofs.evaluating.+evaluation.Given as goal

abbrev pub invariant-all-loop-arg : goal.invariant-all-loop-arg
invariant-all-loop-arg l = values l.found (map (value_in l.row) (drop l.arg-index l.args)) ≡ values [] (map (value_in l.row) l.args)

abbrev pub invariant-join_all-loop-used : goal.invariant-join_all-loop-used
invariant-join_all-loop-used l = record {
  rest : all_joined l.left (map (valued_link l.row) (drop l.used-index l.links)) ≡ all_joined l.fn.first (map (valued_link l.row) l.links);
  typed : JoinsFrom l.fields (drop l.used-index l.links) l.left;
}
