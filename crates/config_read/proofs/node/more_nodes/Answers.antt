use Rattle.std.proofs.Common.{◌∙◌, sym, ap, length, arith}
use Rattle.std.proofs.lemmas.Result.{err_from_is_err_and}
use Rattle.config_read.specs.Reading.{further_node_at}
use Rattle.config_read.proofs.Fronts.{node_fewer, not_accepted}
use Rattle.config_read.proofs.Loops.{node_begins, closes, fails, goes_on}
use Rattle.config_read.proofs.node.more_nodes.Goals as goal

pub loop-alloc-smaller : goal.loop-alloc-smaller
loop-alloc-smaller c =
    let less = node_fewer _ _ _ _ c.in_ok-further_node.ensures in
    let long = ap length (not_accepted _ c.loop-alloc.cursor c.accept.new.self (rw c.loop-alloc-test.true at c.accept.ensures)) in
    omega (arith, less, long)

pub loop-alloc-preserved : goal.loop-alloc-preserved
loop-alloc-preserved c =
    sym (goes_on further_node_at c.loop-alloc.nodes c.further_node.new.nodes c.loop-alloc.cursor c.accept.new.self c.further_node.new.cursor node_fewer node_begins (rw c.loop-alloc-test.true at c.accept.ensures) c.in_ok-further_node.ensures) ∙ c.loop-alloc.invariant

pub returns-in_err-further_node : goal.returns-in_err-further_node
returns-in_err-further_node c =
    let p = err_from_is_err_and c.from_residual.result c.from_residual.ensures.1 in
    rw (p.1, p.2, ← c.loop-alloc.invariant) (fails further_node_at c.loop-alloc.nodes c.loop-alloc.cursor c.accept.new.self _ node_begins (rw c.loop-alloc-test.true at c.accept.ensures) c.in_err-further_node.ensures)

pub returns : goal.returns
returns c = sym c.loop-alloc.invariant ∙ closes further_node_at c.loop-alloc.nodes c.loop-alloc.cursor c.accept.new.self (rw c.loop-alloc-test.false at c.accept.ensures)
