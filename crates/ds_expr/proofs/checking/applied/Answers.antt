use Rattle.std.proofs.Common.{sym, ◌∙◌, ap}
use Rattle.ds_expr.specs.Typing.{use_of}
use Rattle.ds_expr.proofs.Sound.{call_sound}
use Rattle.ds_expr.proofs.checking.applied.Goals as goal

pub returns-in-Some-clause-sound : goal.returns-in-Some-clause-sound
returns-in-Some-clause-sound c =
    call_sound c.args.schema.now c.args.name c.args.args c.in-Some.found c.requires (sym c.in-Some.is ∙ (c.in_ok-use_of.ensures ∙ ap (use_of c.args.name) c.as_slice.ensures))
