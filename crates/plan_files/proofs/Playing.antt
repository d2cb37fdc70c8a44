-- Of an accepted flow over its files the step core goes on until it is finished, and then it keeps what the flow means.
use Rattle.std.proofs.Common.{◌≡◌, sym, subst}
use Rattle.streams.specs.Core.{AreFiles}
use Rattle.streams.specs.Wiring.{IsWired}
use Rattle.core_laws.specs.Files.{files_of}
use Rattle.core_laws.proofs.Driving.{plan_never_stuck}
use Rattle.core_laws.proofs.Filing.{plan_files_are}
use Rattle.flow_score.specs.Scores.{degree_at}
use Rattle.flow_choices.proofs.Written.{written_keeps}
use Rattle.plan_promise.proofs.Playing.{flow_wired, finished_keeps}
use Rattle.plan_files.specs.PlanFiles.{source_files, unwritable_at, FilesAre}
use Rattle.plan_files.specs.FlowPlays.{plan_on, shape_on, FlowsPlayRight, AcceptedFlowsPlayRight}
use Rattle.plan_files.proofs.Reading.{sources_have_files, flows_can_be_played, accepted_is_chosen}

pub flows_play_right : FlowsPlayRight
flows_play_right regains files flow dict c states choices nodes ops whole a capacity room events =
    let first = flows_can_be_played regains files flow dict c states choices nodes ops whole (source_files c ops) a (sources_have_files c (degree_at c nodes) ops) in
    let wired : IsWired (plan_on c choices nodes) = flow_wired flow dict c choices ops (degree_at c nodes) (unwritable_at c) first.shaped first.fit first.outs first.sinks in
    let full : (full : AreFiles (shape_on c choices nodes) (files_of (plan_on c choices nodes) (source_files c ops))) × (full.lists ≡ source_files c ops) = plan_files_are (plan_on c choices nodes) wired (source_files c ops) in
    let fed = subst (FilesAre c (degree_at c nodes) ops) (sym full.1) (sources_have_files c (degree_at c nodes) ops) in
    record {
      goes_on = plan_never_stuck (plan_on c choices nodes) wired (files_of (plan_on c choices nodes) (source_files c ops)) full.0 capacity room events;
      keeps = λ finished. finished_keeps regains flow dict c states choices ops whole (degree_at c nodes) (unwritable_at c) (files_of (plan_on c choices nodes) (source_files c ops)) capacity events full.0
          (flows_can_be_played regains files flow dict c states choices nodes ops whole full.0.lists a fed) finished;
    }

pub accepted_flows_play_right : AcceptedFlowsPlayRight
accepted_flows_play_right regains files flow dict c states choices nodes ops whole a capacity room events =
    let plays = flows_play_right regains files flow dict c states choices nodes ops whole (accepted_is_chosen regains files flow dict c states choices nodes ops whole a) capacity room events in
    (plays, λ finished. written_keeps c states choices ops whole _ a.shape a.verdict.choices_are (plays.keeps finished))
