use Rattle.std.proofs.Common.{MatchOption, subst, sym, ◌∙◌}
use Rattle.flow_derive.specs.LinkStates.{AreStates}
use Rattle.flow_rules.specs.Verdicts.{IsVerdict, NoneMisses, infer_regains}
use Rattle.flow_rules.proofs.Refusals.{accepted}
use Rattle.flow_rules.proofs.checker.infer.Goals as goal

pub returns-in_ok-choices-in-None : goal.returns-in_ok-choices-in-None
returns-in_ok-choices-in-None c =
    let none : NoneMisses infer_regains c.args.shaped.now c.as_slice.result.now = subst (λ o. MatchOption o (NoneMisses infer_regains c.args.shaped.now c.as_slice.result.now) (λ v. IsVerdict c.args.shaped.now v)) c.in-None.is c.in_ok-refused.ensures in
    accepted c.args.shaped.now c.from_vec.result c.from_vec-in-None.result (subst (AreStates infer_regains c.args.shaped.now) (sym c.from_vec.ensures) c.in_ok-states.ensures) (c.from_vec-in-None.ensures ∙ c.in_ok-choices-in-None.ensures) (subst (NoneMisses infer_regains c.args.shaped.now) (c.as_slice.ensures.value ∙ sym c.from_vec.ensures) none)
