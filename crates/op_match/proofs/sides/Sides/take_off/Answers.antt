use Rattle.std.proofs.Common.{◌∙◌, refl, sym}
use Rattle.op_match.proofs.Taking.{key_long, none_still, open_still, took_round}
use Rattle.op_match.proofs.sides.Sides.take_off.Goals as goal

pub returns-then-not-are_complete : goal.returns-then-not-are_complete
returns-then-not-are_complete c = (open_still c.args.self.now.list.items c.requires (sym c.are_complete.ensures ∙ c.if-not-are_complete.true), refl)

pub take_runs-requires-clause-key : goal.take_runs-requires-clause-key
take_runs-requires-clause-key c = key_long c.args.self.now.list.items c.in-Some.key c.requires (sym c.in-Some.is ∙ c.in_ok-least_key.ensures)

pub returns-in-None : goal.returns-in-None
returns-in-None c = (none_still c.args.self.now.list.items c.requires (sym c.in-None.is ∙ c.in_ok-least_key.ensures), refl)

pub returns-in_ok-take_runs-in-Some : goal.returns-in_ok-take_runs-in-Some
returns-in_ok-take_runs-in-Some c =
    took_round c.args.self.now.list.items c.take_runs.new.self.list.items c.in_ok-take_runs-in-Some.field-0.items c.in-Some.key c.requires (sym c.are_complete.ensures ∙ c.if-not-are_complete.false)
    (sym c.in-Some.is ∙ c.in_ok-least_key.ensures) c.in_ok-take_runs-in-Some.ensures.runs c.in_ok-take_runs-in-Some.ensures.rest
