use Rattle.std.proofs.Common.{sym, ◌∙◌}
use Rattle.ds_expr.proofs.Sound.{join_sound}
use Rattle.ds_expr.proofs.checking.join.Goals as goal

pub returns-clause-sound : goal.returns-clause-sound
returns-clause-sound c =
    join_sound c.args.schema.now c.infix_name.result c.args.left c.args.right c.in-Some.found c.push.new.self c.requires.left c.requires.right (sym c.in_ok-found.ensures ∙ c.in-Some.is) c.in_ok-push.ensures.ok
