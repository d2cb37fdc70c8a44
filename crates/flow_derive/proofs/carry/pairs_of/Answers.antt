use Rattle.std.proofs.Common.{ap, sym, ◌++◌, ◌∙◌, append-nil}
use Rattle.flow_derive.proofs.CodeSteps.{pairs_end}
use Rattle.flow_derive.proofs.carry.pairs_of.Goals as goal

pub returns-then-i-others : goal.returns-then-i-others
returns-then-i-others c = sym (append-nil c.loop-i.pairs.items) ∙ ap (λ m. c.loop-i.pairs.items ++ m) (sym (pairs_end c.args.columns.now c.args.others.now c.loop-i.i c.if-i-others.true)) ∙ c.loop-i.invariant.rest
