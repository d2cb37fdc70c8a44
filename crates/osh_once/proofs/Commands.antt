-- All that a call comes to has one status.
use Rattle.std.proofs.Common.{◌≡◌, ℕ, true, false, List, [], ◌∷◌, sym, ap, ◌∙◌, subst}
use Rattle.ds_lex.specs.declared.token.Mode.TheVariants.{Osh}
use Rattle.ds_lex.specs.Lexemes.{limited_text}
use Rattle.ds_port.specs.FileMap.{FileMap, file_at}
use Rattle.op_base.specs.declared.fault.Fault.{Fault}
use Rattle.op_base.specs.Columns.{Row}
use Rattle.flow_graph.specs.Charts.{Chart}
use Rattle.flow_graph.specs.declared.flow.Flow.{Flow}
use Rattle.flow_graph.specs.declared.route.Choice.{Choice}
use Rattle.flow_graph.specs.declared.state.State.{State}
use Rattle.flow_graph.specs.Runs.{meant_faults}
use Rattle.flow_rules.specs.declared.verdict.Verdict.{Verdict}
use Rattle.flow_rules.specs.declared.verdict.Verdict.TheVariants.{Accepted, Refused}
use Rattle.flow_rules.specs.Verdicts.{IsVerdict, nodes_of, infer_regains}
use Rattle.flow_rules.proofs.OneVerdict.{one_verdict}
use Rattle.flow_shape.specs.Refusals.{IsShapeOf}
use Rattle.flow_shape.specs.Spelled.{IsJoined}
use Rattle.osh_sound.specs.Sound.{KeepsForms, ReadIsJoined, ReadKeepsForms}
use Rattle.osh_sound.proofs.FlowsHold.{text_holds}
use Rattle.osh_sound.proofs.FlowsKeep.{spelled_forms, spelled_joined}
use Rattle.osh_words.specs.declared.command.Command.{Command}
use Rattle.osh_words.specs.declared.command.Command.TheVariants as command
use Rattle.osh_words.specs.Spelled.{Spells}
use Rattle.osh_words.proofs.Sound.{one_command}
use Rattle.osh_ends.specs.Ends.{End, end_status, usage, unbuilt, absent, refused, verdict_end, AcceptedRuns, Checks, ChecksFile, Commands, Finishes, OneStatus, RunsFile, RunsTo, VerdictRuns}
use Rattle.osh_ends.specs.Reports.{verdict_report}
use Rattle.osh_once.proofs.Meant.{one_bag}
use Rattle.osh_once.proofs.Orders.{covers_links, is_forward}
use Rattle.osh_once.proofs.Stages.{HasOneStatus, one_chart, one_flow, one_found, one_nodes, one_read, one_seating, one_spelled, same_end}

read_joined : ReadIsJoined
read_joined bytes flow h = spelled_joined (limited_text Osh bytes).lexemes flow (text_holds bytes flow h).tokens

read_forms : ReadKeepsForms
read_forms bytes flow h = spelled_forms (limited_text Osh bytes).lexemes flow (text_holds bytes flow h).tokens

-- ---- verdicts

same_verdict : (flow : Flow) (c : Chart) (v w : Verdict) → IsJoined flow → IsShapeOf flow [] c → IsVerdict c v → IsVerdict c w → v ≡ w
same_verdict flow c v w joined s p q = one_verdict infer_regains c v w (is_forward flow [] c s) (covers_links flow [] c joined s) p q

one_check : (flow : Flow) (c : Chart) → IsJoined flow → IsShapeOf flow [] c → HasOneStatus (Checks c)
one_check flow c joined s x y p q =
    ap end_status (p.2 ∙ ap (verdict_end c) (same_verdict flow c p.0 q.0 joined s p.1 q.1) ∙ sym q.2)

-- ---- runs

-- by whether there are faults
abbrev status_of : List Fault → ℕ
status_of [] = 0
status_of (f ∷ fs) = 9

finish_status : (c : Chart) (states : List State) (choices : List Choice) (nodes : ℕ) (whole : ℕ → List Row) (found : List Fault) (x : End) → Finishes c states choices nodes whole found x → end_status x ≡ status_of found
finish_status c states choices nodes whole [] x p = ap end_status p.2
finish_status c states choices nodes whole (f ∷ fs) x p = ap end_status p.2

one_run : (files : FileMap) (flow : Flow) (c : Chart) (nodes : ℕ) (states : List State) (choices : List Choice) → KeepsForms flow → IsShapeOf flow [] c → HasOneStatus (RunsTo files c nodes states choices)
one_run files flow c nodes states choices forms s x y p q =
    finish_status c states choices nodes p.1 (meant_faults p.1 (nodes_of c p.0)) x p.3
    ∙ ap status_of (one_bag files flow [] c p.0 q.0 p.1 q.1 forms s p.2 q.2)
    ∙ sym (finish_status c states choices nodes q.1 (meant_faults q.1 (nodes_of c q.0)) y q.3)

one_accepted : (files : FileMap) (flow : Flow) (c : Chart) (nodes : ℕ) (v : Verdict) → KeepsForms flow → IsShapeOf flow [] c → HasOneStatus (AcceptedRuns files c nodes v)
one_accepted files flow c nodes (Accepted states choices) forms s = one_seating c choices nodes (RunsTo files c nodes states choices) (one_run files flow c nodes states choices forms s)
one_accepted files flow c nodes (Refused link need have) forms s = same_end (refused (verdict_report c (Refused link need have)))

one_judged : (files : FileMap) (flow : Flow) (c : Chart) (nodes : ℕ) → KeepsForms flow → IsJoined flow → IsShapeOf flow [] c → HasOneStatus (VerdictRuns files c nodes)
one_judged files flow c nodes forms joined s x y p q =
    one_accepted files flow c nodes q.0 forms s x y (subst (λ v. AcceptedRuns files c nodes v x) (same_verdict flow c p.0 q.0 joined s p.1 q.1) p.2) q.2

-- ---- commands

one_checked : (files : FileMap) (name : List ℕ) → HasOneStatus (ChecksFile files name)
one_checked files name =
    one_read (file_at files name) (absent name) _ (λ text.
    one_flow text _ (λ flow h built.
    one_chart flow _ (read_joined text flow h) (λ c s.
    one_check flow c (read_joined text flow h) s)))

one_ran : (files : FileMap) (name config_name : List ℕ) → HasOneStatus (RunsFile files name config_name)
one_ran files name config_name =
    one_read (file_at files name) (absent name) _ (λ text.
    one_flow text _ (λ flow h built.
    one_read (file_at files config_name) (absent config_name) _ (λ config.
    one_nodes config _ (λ nodes.
    one_chart flow _ (read_joined text flow h) (λ c s.
    one_found files c _ (one_judged files flow c nodes (read_forms text flow h) (read_joined text flow h) s))))))

one_called : (files : FileMap) (c : Command) → HasOneStatus (Commands files c)
one_called files (command.Check flow) = one_checked files flow
one_called files (command.Run true cap spill flow config) = one_ran files flow config
one_called files (command.Run false cap spill flow config) = same_end unbuilt
one_called files (command.Score flow config) = same_end unbuilt
one_called files (command.Meaning flow) = same_end unbuilt
one_called files (command.Gen n x) = same_end unbuilt

pub all_one : OneStatus
all_one words files = one_spelled (Spells words) usage (Commands files) (one_command words) (one_called files)
