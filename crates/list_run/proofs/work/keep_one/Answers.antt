use Rattle.std.proofs.Common.{refl, subst, ◌∙◌}
use Rattle.streams.specs.Streams.{Gives}
use Rattle.op_base.specs.Standing.{RowStream}
use Rattle.list_run.proofs.Runs.{remdup_gives}
use Rattle.list_run.proofs.work.keep_one.Goals as goal

pub run_whole-requires : goal.run_whole-requires
run_whole-requires c = record {
  fresh = c.in_ok-remdup.ensures.stands;
  one = record { one = refl; wants = λ feeds i. refl };
  suits = λ feeds. refl;
}

pub returns : goal.returns
returns c =
    let given = c.in_ok-given.ensures in
    given.2 ∙ remdup_gives c.args.keys c.args.last c.args.rows given.0 (subst (λ (s : RowStream). Gives s (λ i. c.args.rows) given.0) c.in_ok-remdup.ensures.stream given.1)
