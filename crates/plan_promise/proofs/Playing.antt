-- From a legal execution to the promise.
use Rattle.std.proofs.Common.{ℕ, Bool, List}
use Rattle.streams.specs.Core.{Player, Lane}
use Rattle.streams.specs.Plans.{IsLegal}
use Rattle.streams.specs.Streams.{Out}
use Rattle.streams.specs.Wiring.{net_of, IsWired}
use Rattle.streams.proofs.Legal.{run-is-legal}
use Rattle.streams.proofs.Loose.{loose-is-run}
use Rattle.streams.proofs.Wired.{wired-is-plan}
use Rattle.op_base.specs.declared.fault.Fault.{Fault}
use Rattle.op_base.specs.Columns.{Row}
use Rattle.flow_graph.specs.declared.flow.Flow.{Flow}
use Rattle.flow_graph.specs.declared.parts.Stored.{Stored}
use Rattle.flow_graph.specs.declared.route.Choice.{Choice}
use Rattle.flow_graph.specs.declared.state.State.{State}
use Rattle.flow_graph.specs.Charts.{Chart}
use Rattle.flow_graph.specs.Operators.{Op}
use Rattle.flow_links.specs.Outputs.{LinksOutputs}
use Rattle.flow_sound.specs.Promise.{ShapedFlow}
use Rattle.flow_score.specs.Scores.{choice_of}
use Rattle.flow_choices.proofs.Keeping.{runs_keep_by}
use Rattle.core_laws.proofs.Reading.{untold_finished_is_legal}
use Rattle.core_laws.proofs.Driving.{plan_finished_is_legal, plan_batch_finished_is_legal}
use Rattle.flow_choices.specs.Kept.{AcceptedRunBy}
use Rattle.flow_plan.specs.Data.{Datum}
use Rattle.flow_plan.specs.Planned.{plan_of, ChoicesFit, StreamsFit}
use Rattle.plan_sound.specs.FlowRuns.{lists_of, CanPlay}
use Rattle.plan_sound.proofs.Tying.{legal_runs}
use Rattle.flow_plan.proofs.Wiring.{plans_are_wired}
use Rattle.plan_promise.specs.KindStreams.{stream_at, fits_at, SinksAre}
use Rattle.plan_promise.specs.Promised.{chart_plan, Played, ExecutionsKeep, FinishedKeeps, UntoldKeeps, RunsKeep, BatchesKeep}
use Rattle.plan_promise.proofs.KindsWorking.{kinds_work}

-- the lists of a legal execution are a legal run by the choices
pub accepted_run : (regains : Bool) (flow : Flow) (dict : List Stored) (c : Chart) (states : List State) (choices : List Choice) (ops : ℕ → Op) (whole : ℕ → List Row) (degree : ℕ → ℕ) (unwritable : ℕ → Row → List Fault) (file lane : Lane → List Datum) (taken : Player → ℕ → List Datum) (made : Player → List (Out Datum Fault)) →
    Played regains flow dict c states choices ops whole degree unwritable file → IsLegal (net_of (chart_plan c choices degree unwritable)) file lane taken made → AcceptedRunBy regains flow dict c states choices ops whole (lists_of c degree taken made)
accepted_run regains flow dict c states choices ops whole degree unwritable file lane taken made p legal =
    let can : CanPlay c (fits_at c) (choice_of choices) degree ops (stream_at c unwritable) file = record {
      shape = p.shaped.shape;
      choices = p.fit;
      degrees = p.degrees;
      works = λ o h. kinds_work flow dict c ops unwritable p.shaped p.outs p.sinks o h;
      files = p.files;
    } in
    let tied = legal_runs c (fits_at c) (choice_of choices) degree ops (stream_at c unwritable) file lane taken made can legal in
    record { shaped = p.shaped; accepted = p.accepted; means = p.means; legal = tied.runs }

pub executions_keep : ExecutionsKeep
executions_keep regains flow dict c states choices ops whole degree unwritable file lane taken made p legal =
    runs_keep_by regains flow dict c states choices ops whole (lists_of c degree taken made) (accepted_run regains flow dict c states choices ops whole degree unwritable file lane taken made p legal)

module _ (flow : Flow) (dict : List Stored) (c : Chart) (choices : List Choice) (ops : ℕ → Op) (degree : ℕ → ℕ) (unwritable : ℕ → Row → List Fault) where
  pub streams_fit : ShapedFlow flow dict c ops → LinksOutputs c → SinksAre c ops unwritable → StreamsFit c (stream_at c unwritable)
  streams_fit shaped outs sinks = record {
    are = λ o h. (kinds_work flow dict c ops unwritable shaped outs sinks o h).is_stream;
    ports = λ o h. (kinds_work flow dict c ops unwritable shaped outs sinks o h).ports;
  }

  pub flow_wired : ShapedFlow flow dict c ops → ChoicesFit c (choice_of choices) degree → LinksOutputs c → SinksAre c ops unwritable → IsWired (plan_of c (choice_of choices) degree (stream_at c unwritable))
  flow_wired shaped fit outs sinks = plans_are_wired c (choice_of choices) degree (stream_at c unwritable) shaped.shape fit (streams_fit shaped outs sinks)

pub finished_keeps : FinishedKeeps
finished_keeps regains flow dict c states choices ops whole degree unwritable files capacity events full p finished =
    executions_keep regains flow dict c states choices ops whole degree unwritable full.lists _ _ _ p (plan_finished_is_legal (chart_plan c choices degree unwritable) (flow_wired flow dict c choices ops degree unwritable p.shaped p.fit p.outs p.sinks) files full capacity events finished)

pub untold_keeps : UntoldKeeps
untold_keeps regains flow dict c states choices ops whole degree unwritable read s are stands finished p =
    executions_keep regains flow dict c states choices ops whole degree unwritable _ _ _ _ p (untold_finished_is_legal (chart_plan c choices degree unwritable) (flow_wired flow dict c choices ops degree unwritable p.shaped p.fit p.outs p.sinks) read are s stands finished)

pub runs_keep : RunsKeep
runs_keep regains flow dict c states choices ops whole degree unwritable file feeds given run p =
    let fits = wired-is-plan (chart_plan c choices degree unwritable) (flow_wired flow dict c choices ops degree unwritable p.shaped p.fit p.outs p.sinks) in
    executions_keep regains flow dict c states choices ops whole degree unwritable file _ _ _ p (run-is-legal (net_of (chart_plan c choices degree unwritable)) fits file feeds given (loose-is-run (net_of (chart_plan c choices degree unwritable)) fits file feeds given run))

pub batches_keep : BatchesKeep
batches_keep regains flow dict c states choices ops whole degree unwritable size limit files capacity events full p finished =
    executions_keep regains flow dict c states choices ops whole degree unwritable full.lists _ _ _ p (plan_batch_finished_is_legal (chart_plan c choices degree unwritable) (flow_wired flow dict c choices ops degree unwritable p.shaped p.fit p.outs p.sinks) size limit files full capacity events finished)
