use Rattle.std.proofs.Common.{◌≡◌, ◌+◌, List, [], ◌∷◌, ◌++◌, length, refl, sym, subst, ◌∙◌, arith}
use Rattle.std.specs.Vec.{with_items}
use Rattle.std.proofs.lemmas.List.{with_items_is}
use Rattle.op_group.specs.declared.running.Running.{Running}
use Rattle.op_group.specs.declared.tally.Tally.{Tally}
use Rattle.op_group.specs.Kept.{FollowTo, TallyStands}
use Rattle.op_group.proofs.TallyLaws.{TallyStands-more, TallyStands-full, follow_length}
use Rattle.op_group.proofs.tally.Tally.add.Goals as goal
use Rattle.op_group.proofs.tally.Tally.add.Goals.{then-self-lt-MOST_ROWS+in_ok-add_to_each, else-self-lt-MOST_ROWS}

pub returns : goal.returns
returns c = λ aggs rows stands.
    let P : Tally → Type 0 = λ t. TallyStands aggs (rows ++ c.args.row.now ∷ []) (record { count = t.count + 1; running = t.running }) in
    elim c.if-self-lt-MOST_ROWS.branch [
      | then-self-lt-MOST_ROWS+in_ok-add_to_each w ↦
          let old = c.args.self.now in
          let F : List Running → Type 0 = λ xs. FollowTo old.count c.args.row.now (length xs) xs w.add_to_each.new.running in
          let G : List Running → Type 0 = λ xs. FollowTo old.count c.args.row.now (length old.running.items) old.running.items xs in
          let follows : G w.add_to_each.new.running = subst F w.deref_mut.ensures.value w.in_ok-add_to_each.ensures in
          let long : length w.add_to_each.new.running ≡ old.running.len = follow_length old.count c.args.row.now (length old.running.items) old.running.items w.add_to_each.new.running follows ∙ sym old.running.ok.0 in
          subst P (sym w.self-is)
          (TallyStands-more aggs rows c.args.row.now old (record { count = old.count + 1; running = with_items old.running w.add_to_each.new.running })
          w.if-self-lt-MOST_ROWS.true (subst G (sym (with_items_is old.running w.add_to_each.new.running long)) follows) refl stands)
      | else-self-lt-MOST_ROWS w ↦ subst P (sym w.self-is) (TallyStands-full aggs rows c.args.row.now c.args.self.now _ w.if-self-lt-MOST_ROWS.false refl (omega arith) stands)
    ]
