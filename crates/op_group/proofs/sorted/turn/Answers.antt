use Rattle.std.proofs.Common.{◌≡◌, [], Option, List, sym, subst, ◌∙◌, true, false}
use Rattle.op_group.specs.declared.sorted.Run.{Run}
use Rattle.op_group.specs.Runs.{IsRun, RunStands}
use Rattle.op_group.proofs.GiveLaws.{aggs_there}
use Rattle.op_group.proofs.RunKept.{turn_none, turn_same, turn_other}
use Rattle.op_group.proofs.sorted.turn.Goals as goal

pub new-requires : goal.new-requires
new-requires c = aggs_there c.args.keys.now c.args.aggs.now c.args.row c.requires.suits

pub new-requires-in-Some : goal.new-requires-in-Some
new-requires-in-Some c = aggs_there c.args.keys.now c.args.aggs.now c.args.row c.requires.suits

pub add-requires : goal.add-requires
add-requires c =
    let P : Option Run → Type 0 = λ o. RunStands c.args.keys.now c.args.aggs.now o c.requires.before.0 in
    let is : IsRun c.args.keys.now c.args.aggs.now c.in-Some.run' c.requires.before.0 = subst P c.in-Some.is c.requires.before.1 in
    (c.args.aggs.now, c.requires.before.0, is.tally, aggs_there c.args.keys.now c.args.aggs.now c.args.row c.requires.suits)

pub give-requires : goal.give-requires
give-requires c =
    let P : Option Run → Type 0 = λ o. RunStands c.args.keys.now c.args.aggs.now o c.requires.before.0 in
    let is : IsRun c.args.keys.now c.args.aggs.now c.in-Some.run' c.requires.before.0 = subst P c.in-Some.is c.requires.before.1 in
    (c.args.aggs.now, is.suits)

pub returns-then-same_key : goal.returns-then-same_key
returns-then-same_key c = λ rows h.
    let P : Option Run → Type 0 = λ o. RunStands c.args.keys.now c.args.aggs.now o rows in
    let is : IsRun c.args.keys.now c.args.aggs.now c.in-Some.run' rows = subst P c.in-Some.is h in
    turn_same c.args.keys.now c.args.aggs.now rows c.args.row c.in-Some.run' (record { first = c.in-Some.run'.first; tally = c.add.new.self }) c.args.emit.now is (sym c.same_key.ensures ∙ c.if-same_key.true) Rattle.std.proofs.Common.refl (c.in_ok-add-in-Some.ensures c.args.aggs.now rows is.tally)

pub returns-in_ok-run-in-None : goal.returns-in_ok-run-in-None
returns-in_ok-run-in-None c = λ rows h.
    let P : Option Run → Type 0 = λ o. RunStands c.args.keys.now c.args.aggs.now o rows in
    let none : rows ≡ [] = subst P c.in-None.is h in
    turn_none c.args.keys.now c.args.aggs.now rows c.args.row _ c.args.emit.now none c.requires.suits c.in_ok-run-in-None.ensures.first c.in_ok-run-in-None.ensures.tally

pub returns-in_ok-next-in-Some : goal.returns-in_ok-next-in-Some
returns-in_ok-next-in-Some c = λ rows h.
    let P : Option Run → Type 0 = λ o. RunStands c.args.keys.now c.args.aggs.now o rows in
    let is : IsRun c.args.keys.now c.args.aggs.now c.in-Some.run' rows = subst P c.in-Some.is h in
    turn_other c.args.keys.now c.args.aggs.now rows c.args.row c.in-Some.run' _ c.args.emit.now c.give.new.emit is (sym c.same_key.ensures ∙ c.if-same_key.false) (c.in_ok-give-in-Some.ensures c.args.aggs.now rows is.tally) c.requires.suits c.in_ok-next-in-Some.ensures.first c.in_ok-next-in-Some.ensures.tally
