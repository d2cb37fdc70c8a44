use Rattle.std.proofs.Common.{ap, sym, ◌∙◌, subst, List, [], ◌∷◌, ◌++◌, true}
use Rattle.op_base.specs.Standing.{end_feed}
use Rattle.op_base.proofs.StandingLaws.{one_port_fed}
use Rattle.op_order.specs.declared.marked.Marked.{Marked}
use Rattle.op_order.specs.Ordered.{TsortStands}
use Rattle.op_order.proofs.Standing.{TsortStands-end}
use Rattle.op_order.proofs.sorter.TsortOperator.end.Goals as goal

pub returns-clause-stands : goal.returns-clause-stands
returns-clause-stands c = λ feeds stands.
    let P : List Marked → Type 0 = λ rows. TsortStands c.args.self.now.keys true rows (feeds ++ end_feed c.args._port ∷ []) in
    subst P (sym (ap (λ v. v.items) c.replace-rows.ensures.after ∙ c.new.ensures.items)) (TsortStands-end c.args.self.now.keys feeds c.args._port (one_port_fed c.requires.feeds c.args._port c.requires.wanted))
