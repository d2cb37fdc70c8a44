use Rattle.std.proofs.Common.{◌≡◌, [], Option, List, sym, subst}
use Rattle.op_base.specs.Columns.{Row}
use Rattle.op_base.specs.Emits.{Adds}
use Rattle.op_base.proofs.Adding.{Adds-none}
use Rattle.op_group.specs.declared.sorted.Run.{Run}
use Rattle.op_group.specs.Groups.{run_group}
use Rattle.op_group.specs.Runs.{IsRun, RunStands}
use Rattle.op_group.proofs.RunKept.{last_given}
use Rattle.op_group.proofs.sorted.give_last.Goals as goal

pub give-requires : goal.give-requires
give-requires c =
    let P : Option Run → Type 0 = λ o. RunStands c.args.keys.now c.requires.0 o c.requires.1 in
    let is : IsRun c.args.keys.now c.requires.0 c.in-Some.run' c.requires.1 = subst P c.in-Some.is c.requires.2 in
    (c.requires.0, is.suits)

pub returns-in-None : goal.returns-in-None
returns-in-None c = λ aggs rows h.
    let P : Option Run → Type 0 = λ o. RunStands c.args.keys.now aggs o rows in
    let none : rows ≡ [] = subst P c.in-None.is h in
    let Q : List Row → Type 0 = λ rs. Adds c.args.emit.now c.args.emit.now (run_group c.args.keys.now aggs rs) in
    subst Q (sym none) (Adds-none _)

pub returns-in_ok-give-in-Some : goal.returns-in_ok-give-in-Some
returns-in_ok-give-in-Some c = λ aggs rows h.
    let P : Option Run → Type 0 = λ o. RunStands c.args.keys.now aggs o rows in
    let is : IsRun c.args.keys.now aggs c.in-Some.run' rows = subst P c.in-Some.is h in
    last_given c.args.keys.now aggs rows c.in-Some.run' c.args.emit.now c.give.new.emit is (c.in_ok-give-in-Some.ensures aggs rows is.tally)
