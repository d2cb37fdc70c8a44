use Rattle.std.proofs.Common.{rules, sym, ◌∙◌, FitsSigned, w32}
use Rattle.std.proofs.lemmas.Int.{to_z-of_z}
use Rattle.ds_expr.proofs.Sound.{date_sound}
use Rattle.ds_expr.proofs.checking.date.Goals as goal

pub returns-in-Some-2-clause-sound : goal.returns-in-Some-2-clause-sound
returns-in-Some-2-clause-sound c =
    let fits : FitsSigned w32 c.in-Some-2.day = search rules in
    rw (c.date_node.ensures, to_z-of_z w32 c.in-Some-2.day fits) (date_sound _ _ c.in-Some-2.day (sym c.in-Some-2.is ∙ c.in_ok-date_literal.ensures.value))
