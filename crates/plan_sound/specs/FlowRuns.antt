-- A legal execution of a flow's plan, as a legal run of the flow.
use Rattle.std.specs.Prelude.{◌≡◌, ℕ, ◌<◌, Bool, List, [], map}
use Rattle.std.specs.List.{AllByRecursion, range_with_len}
use Rattle.streams.specs.Core.{Player, Lane}
use Rattle.streams.specs.Plans.{IsLegal}
use Rattle.streams.specs.Streams.{Out, Stream, on, faults_out}
use Rattle.streams.specs.Wiring.{net_of}
use Rattle.op_base.specs.declared.fault.Fault.{Fault}
use Rattle.op_base.specs.Columns.{Row}
use Rattle.flow_graph.specs.declared.route.Choice.{Choice}
use Rattle.flow_graph.specs.Charts.{Chart, link_at, links_into}
use Rattle.flow_graph.specs.FlowShape.{IsShape}
use Rattle.flow_graph.specs.Operators.{Op}
use Rattle.flow_graph.specs.Runs.{Lists, Runs, FitsDegree}
use Rattle.flow_plan.specs.Data.{Datum, rows_in}
use Rattle.flow_plan.specs.Planned.{op_count, link_count, file_link, nodes_by, plan_of, ChoicesFit}
use Rattle.plan_sound.specs.Working.{AllFit, IsFileOf, Works}

abbrev pub player : ℕ → ℕ → Player
player o p = record { operator = o; partition = p }

-- the file of a source's partition
abbrev pub file_lane : Chart → ℕ → ℕ → Lane
file_lane c o p = record { link = file_link c o; from = p; to = p }

-- what the partitions of a link's producer emitted for it, what those of its consumer took, and the faults of the partitions of an operator
abbrev pub sent_by : Chart → (Player → List (Out Datum Fault)) → ℕ → ℕ → List Row
sent_by c made l p = rows_in (on (link_at c l).out (made (player (link_at c l).from p)))

abbrev pub got_by : Chart → (Player → ℕ → List Datum) → ℕ → ℕ → List Row
got_by c taken l p = rows_in (taken (player (link_at c l).to p) (link_at c l).port)

-- The lists of a run, by what the players took and emitted.
abbrev pub lists_of : Chart → (ℕ → ℕ) → (Player → ℕ → List Datum) → (Player → List (Out Datum Fault)) → Lists
lists_of c degree taken made = record {
  sent = λ l. map (sent_by c made l) (range_with_len 0 (degree (link_at c l).from));
  got = λ l. map (got_by c taken l) (range_with_len 0 (degree (link_at c l).to));
  failed = λ o. map (λ p. faults_out (made (player o p))) (range_with_len 0 (degree o));
}

-- A shaped flow with what is chosen for its links, its degrees, its operators and their streams, and the files of its sources.
pub record CanPlay (c : Chart) (fits : ℕ → Row → Bool) (choice : ℕ → Choice) (degree : ℕ → ℕ) (ops : ℕ → Op) (stream : ℕ → Stream Datum Fault) (file : Lane → List Datum) : Type 0 where
  pub shape : IsShape c
  pub choices : ChoicesFit c choice degree
  pub degrees : (o : ℕ) → o < op_count c → FitsDegree (ops o) (degree o)
  pub works : (o : ℕ) → o < op_count c → Works c fits o (ops o) (stream o)
  pub files : (o p : ℕ) → o < op_count c → p < degree o → links_into c o ≡ [] → IsFileOf (ops o) p (file (file_lane c o p))

-- Its lists are a legal run of the flow, and the rows on each link fit it.
pub record IsTied (c : Chart) (fits : ℕ → Row → Bool) (choice : ℕ → Choice) (ops : ℕ → Op) (run : Lists) : Type 0 where
  pub runs : AllByRecursion (Runs (λ l. (choice l).sort) run) (nodes_by c choice ops)
  pub sent_fit : (l : ℕ) → l < link_count c → AllByRecursion (AllFit (fits l)) (run.sent l)
  pub got_fit : (l : ℕ) → l < link_count c → AllByRecursion (AllFit (fits l)) (run.got l)

-- Each legal execution of the plan is a legal run of the flow.
abbrev pub LegalRuns : Type 0
LegalRuns = (c : Chart) (fits : ℕ → Row → Bool) (choice : ℕ → Choice) (degree : ℕ → ℕ) (ops : ℕ → Op) (stream : ℕ → Stream Datum Fault) (file lane : Lane → List Datum) (taken : Player → ℕ → List Datum) (made : Player → List (Out Datum Fault)) →
    CanPlay c fits choice degree ops stream file → IsLegal (net_of (plan_of c choice degree stream)) file lane taken made → IsTied c fits choice ops (lists_of c degree taken made)
