use Rattle.std.proofs.Common.{sym, ◌∙◌}
use Rattle.config_read.proofs.Names.{named_some, named_double, named_none}
use Rattle.config_read.proofs.quoted.named.Goals as goal

pub returns-then-has_node : goal.returns-then-has_node
returns-then-has_node c =
    rw c.refuse.ensures (named_double _ _ c.in-Ok-Some.name (rw c.content.ensures at (rw c.in-Ok-Some.field-0-is at c.in-Ok-Some.ensures)) (sym (rw c.content-in-Ok-Some.ensures at c.has_node.ensures) ∙ c.if-has_node.true))

pub returns-else-has_node : goal.returns-else-has_node
returns-else-has_node c =
    named_some _ _ _ (rw c.content.ensures at (rw c.in-Ok-Some.field-0-is at c.in-Ok-Some.ensures)) (sym (rw c.content-in-Ok-Some.ensures at c.has_node.ensures) ∙ c.if-has_node.false)

pub returns-in-Ok-None : goal.returns-in-Ok-None
returns-in-Ok-None c = rw c.refuse-in-Ok-None.ensures (named_none _ _ (rw c.content.ensures at (rw c.in-Ok-None.field-0-is at c.in-Ok-None.ensures)))
