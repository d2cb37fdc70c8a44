use Rattle.std.proofs.Common.{List, Bool, Some, None, false, get_or, subst}
use Rattle.op_collect.specs.Standing.{IsFirst}
use Rattle.op_collect.proofs.Standing.{round_wants, round_wraps, round_done}
use Rattle.op_collect.proofs.in_turn.RoundOperator.wants.Goals as goal

pub returns-in-Some : goal.returns-in-Some
returns-in-Some c = λ feeds stands.
    let self = c.args.self.now in
    round_wants self.ports self.some self.over.items self.each self.turn self.within c.in-Some.port
    (subst (λ (l : List Bool). IsFirst (λ i. get_or l i false) self.turn self.ports (Some c.in-Some.port)) c.as_slice-over.ensures.value c.in-Some.ensures) feeds stands

pub returns-in-Some-first_open : goal.returns-in-Some-first_open
returns-in-Some-first_open c = λ feeds stands.
    let self = c.args.self.now in
    round_wraps self.ports self.some self.over.items self.each self.turn self.within c.in-Some-first_open.port
    (subst (λ (l : List Bool). IsFirst (λ i. get_or l i false) self.turn self.ports None) c.as_slice-over.ensures.value c.in-None.ensures)
    (subst (λ (l : List Bool). IsFirst (λ i. get_or l i false) 0 self.turn (Some c.in-Some-first_open.port)) c.as_slice-over.ensures.value c.in-Some-first_open.ensures) feeds stands

pub returns-in-None-first_open : goal.returns-in-None-first_open
returns-in-None-first_open c = λ feeds stands.
    let self = c.args.self.now in
    round_done self.ports self.some self.over.items self.each self.turn self.within
    (subst (λ (l : List Bool). IsFirst (λ i. get_or l i false) self.turn self.ports None) c.as_slice-over.ensures.value c.in-None.ensures)
    (subst (λ (l : List Bool). IsFirst (λ i. get_or l i false) 0 self.turn None) c.as_slice-over.ensures.value c.in-None-first_open.ensures) feeds stands
