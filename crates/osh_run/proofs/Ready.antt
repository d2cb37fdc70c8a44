-- What a run needs of its flow.
use Rattle.std.proofs.Common.{◌≡◌, ◌<◌, ℕ, true, List, [], length, ap, sym, subst, ◌∙◌}
use Rattle.flow_graph.specs.declared.flow.Flow.{Flow}
use Rattle.flow_graph.specs.declared.route.Choice.{Choice}
use Rattle.flow_graph.specs.declared.state.State.{State}
use Rattle.flow_graph.specs.Charts.{Chart}
use Rattle.flow_rules.specs.declared.verdict.Verdict.TheVariants.{Accepted}
use Rattle.std.proofs.lemmas.List.FromFn.{length-map-range_with_len}
use Rattle.flow_derive.specs.LinkStates.{choice_at}
use Rattle.flow_rules.specs.Verdicts.{IsVerdict}
use Rattle.flow_score.specs.Seating.{Seats}
use Rattle.flow_shape.specs.Refusals.{IsShapeOf}
use Rattle.osh_call.specs.Stages.{IsBuiltShape}
use Rattle.osh_ends.specs.Built.{is_built}
use Rattle.osh_sound.specs.Sound.{KeepsForms, KeepsMarks, ReadKeepsForms, ReadKeepsMarks}
use Rattle.run_feed.specs.Fed.{IsReady}

pub is_ready : (c : Chart) (choices : List Choice) (nodes players : ℕ) (states : List State) → ReadKeepsMarks → ReadKeepsForms → IsBuiltShape c → 0 < nodes → IsVerdict c (Accepted states choices) → Seats c choices nodes players → IsReady c choices nodes
is_ready c choices nodes players states keeps forms b some verdict seats = record {
  some = some;
  built = subst (λ (f : Flow). is_built f ≡ true) (sym b.shape.same) b.read.is.built;
  shape_of = subst (λ (f : Flow). IsShapeOf f [] c) (sym b.shape.same) b.shape;
  marks = subst KeepsMarks (sym b.shape.same) (keeps b.read.text b.flow b.read.is.spelled);
  forms = subst KeepsForms (sym b.shape.same) (forms b.read.text b.flow b.read.is.spelled);
  states = states;
  verdict = verdict;
  players = players;
  seats = seats;
}

pub each_choice : (c : Chart) (choices : List Choice) (states : List State) → IsVerdict c (Accepted states choices) → length choices ≡ length c.flow.links
each_choice c choices states v = ap length v.choices_are ∙ length-map-range_with_len (choice_at c) 0 (length c.flow.links)
