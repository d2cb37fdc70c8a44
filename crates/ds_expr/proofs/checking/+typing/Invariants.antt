use Rattle.std.proofs.Common.{◌≡◌, map, drop}
use Rattle.ds_expr.specs.Typing.{typed_args, typed_of, typed_link, typed_links, begin, chain_of, no_nodes, AreSound, IsSound}
use Rattle.ds_expr.proofs.checking.+typing.Given as goal

abbrev pub invariant-args-loop-expr : goal.invariant-args-loop-expr
invariant-args-loop-expr l = record {
  rest : typed_args l.found (map (typed_of l.schema) (drop l.expr-index l.exprs)) ≡ typed_args no_nodes (map (typed_of l.schema) l.exprs);
  sound : AreSound l.schema l.found;
}

abbrev pub invariant-links-loop-link : goal.invariant-links-loop-link
invariant-links-loop-link l = record {
  rest : typed_links l.joined (map (typed_link l.schema) (drop l.link-index l.more)) ≡ typed_links (begin l.fn.first) (map (typed_link l.schema) l.more);
  sound : IsSound l.schema (chain_of l.joined);
}
