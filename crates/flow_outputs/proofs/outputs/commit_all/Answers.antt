use Rattle.flow_outputs.specs.Outputs.{file_from}
use Rattle.flow_outputs.proofs.Makings.{makes_next, cause_next, returned_next}
use Rattle.flow_outputs.proofs.outputs.commit_all.Goals as goal

pub loop-output-preserved : goal.loop-output-preserved
loop-output-preserved g c =
    let did = c.commit_next-failed.ensures in (
      makes_next (λ o. file_from (g.F.Output.Sink.name o) (g.F.Output.Sink.held o)) _ _ _ _ _ _ c.loop-output.yielded c.in-Some.output c.loop-output.invariant.0 (record { kept = did.kept; fails = did.failed; stays = did.stays; made = did.made }),
      cause_next _ _ _ _ _ c.loop-output.invariant.1 did.cause,
      returned_next _ _ _ c.loop-output.yielded c.in-Some.output c.loop-output.invariant.2 did.lent,
    )
