use Rattle.std.proofs.Common.{◌≡◌, ◌<◌, true, length, sym, subst, add-one, arith}
use Rattle.op_group.specs.declared.running.Running.{Running}
use Rattle.op_group.specs.Groups.{agg_suits}
use Rattle.op_group.specs.Kept.{agg_of, RunningStands}
use Rattle.op_group.proofs.TallyLaws.{all_there, suits_there, follow_none, still_there, follow_more}
use Rattle.op_group.proofs.tally.add_to_each.Goals as goal

pub loop-kept-init : goal.loop-kept-init
loop-kept-init c = follow_none c.args.before c.args.row.now c.args.running.now

pub add-requires-clause-suits : goal.add-requires-clause-suits
add-requires-clause-suits c =
    let lt : c.loop-kept.kept-index < length c.args.running.now = omega arith in
    let P : Running → Type 0 = λ r. agg_suits c.args.row.now (agg_of r) ≡ true in
    subst P (sym (still_there c.args.before c.args.row.now c.loop-kept.kept-index c.args.running.now c.loop-kept.running c.kept-item.result lt c.loop-kept.invariant))
    (suits_there c.args.row.now c.args.running.now c.loop-kept.kept-index c.kept-item.result lt c.requires.suits)

pub add-requires-clause-stands : goal.add-requires-clause-stands
add-requires-clause-stands c =
    let lt : c.loop-kept.kept-index < length c.args.running.now = omega arith in (
      c.requires.stands.0,
      c.requires.stands.1,
      subst (RunningStands c.requires.stands.0) (sym (still_there c.args.before c.args.row.now c.loop-kept.kept-index c.args.running.now c.loop-kept.running c.kept-item.result lt c.loop-kept.invariant))
          (all_there (RunningStands c.requires.stands.0) c.args.running.now c.loop-kept.kept-index c.kept-item.result lt c.requires.stands.2),
    )

pub loop-kept-preserved : goal.loop-kept-preserved
loop-kept-preserved c =
    let lt : c.loop-kept.kept-index < length c.args.running.now = omega arith in
    rw (add-one) (follow_more c.args.before c.args.row.now c.loop-kept.kept-index c.args.running.now c.loop-kept.running c.kept-item.result c.add.new.self lt c.loop-kept.invariant c.in_ok-add.ensures)
