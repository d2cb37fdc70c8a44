-- Lines of counts.
use Rattle.std.proofs.Common.{◌≡◌, ◌+◌, ◌-◌, ◌^◌, ℕ, List, ◌++◌, length, get_or, ap, ap₂, ◌∙◌, append_assoc, arith, flat_map, min}
use Rattle.std.specs.Prelude.{codes}
use Rattle.std.specs.Fmt.{decimal}
use Rattle.std.specs.List.{range_with_len}
use Rattle.std.proofs.lemmas.List.FromFn.{get_or-map-range_with_len}
use Rattle.op_base.specs.Columns.{IsIn, Row}
use Rattle.op_base.proofs.All.{flat_agree_all}
use Rattle.flow_graph.specs.Charts.{Chart}
use Rattle.flow_sound.proofs.Members.{all_of, below_range}
use Rattle.osh_ends.specs.Reports.{count, count_line, count_lines, fault_report, head, least_line, report}
use Rattle.op_base.specs.Emits.{counted}
use Rattle.op_base.specs.declared.fault.Fault.{Fault}
use Rattle.flow_graph.specs.declared.route.Choice.{Choice}
use Rattle.flow_graph.specs.declared.state.State.{State}
use Rattle.flow_rules.specs.declared.verdict.Verdict.{Verdict}
use Rattle.flow_rules.specs.declared.verdict.Verdict.TheVariants.{Accepted}
use Rattle.flow_score.specs.Scores.{score_text}
use Rattle.flow_score.specs.VerdictText.{verdict_text}
use Rattle.run_finish.specs.Reported.{AreCounts}

-- a number that is cut at the limit is told as it was
pub count_cut : (n : ℕ) → count (min n (2 ^ 63 - 1)) ≡ count n
count_cut n = ap decimal (cut n)
  where
    cut : (m : ℕ) → min (min m (2 ^ 63 - 1)) (2 ^ 63 - 1) ≡ min m (2 ^ 63 - 1)
    cut m = omega arith

line_cut : (l n : ℕ) → count_line l (min n (2 ^ 63 - 1)) ≡ count_line l n
line_cut l n = ap (λ text. codes "count " ++ (decimal l ++ (codes " " ++ (text ++ codes "\n")))) (count_cut n)

pub lines_same : (c : Chart) (whole : ℕ → List Row) (counts : List ℕ) → AreCounts c whole counts → flat_map (λ l. count_line l (get_or counts l 0)) (range_with_len 0 (length c.flow.links)) ≡ count_lines c whole
lines_same c whole counts h =
    flat_agree_all (λ l. count_line l (get_or counts l 0)) (λ l. count_line l (length (whole l))) (range_with_len 0 (length c.flow.links))
    (all_of (λ l. count_line l (get_or counts l 0) ≡ count_line l (length (whole l))) (range_with_len 0 (length c.flow.links)) here)
  where
    plain : (l : ℕ) → 0 + l ≡ l
    plain l = omega arith

    here : (l : ℕ) → IsIn l (range_with_len 0 (length c.flow.links)) → count_line l (get_or counts l 0) ≡ count_line l (length (whole l))
    here l i =
        ap (λ (ns : List ℕ). count_line l (get_or ns l 0)) h
        ∙ ap (count_line l) (get_or-map-range_with_len (λ k. min (length (whole k)) (2 ^ 63 - 1)) 0 (length c.flow.links) l l 0 (below_range (length c.flow.links) l i) (plain l))
        ∙ line_cut l (length (whole l))

-- as many faults as were counted
pub faults_cut : (c : Chart) (states : List State) (choices : List Choice) (nodes n m : ℕ) (least : Fault) → n ≡ counted 0 m → fault_report c states choices nodes n least ≡ fault_report c states choices nodes m least
faults_cut c states choices nodes n m least e =
    ap (λ text. head c states choices nodes ++ ((codes "faults " ++ (text ++ codes "\n")) ++ (least_line least ++ codes "status 9\n"))) (ap count (e ∙ from_zero m) ∙ count_cut m)
  where
    from_zero : (m : ℕ) → counted 0 m ≡ min m (2 ^ 63 - 1)
    from_zero m = omega arith

pub report_is : (c : Chart) (states : List State) (choices : List Choice) (nodes : ℕ) (whole : ℕ → List Row) (counts : List ℕ) (v : Verdict) (n : ℕ) (t0 t1 t2 : List ℕ) → v ≡ Accepted states choices → AreCounts c whole counts → n ≡ length c.flow.links
    → t0 ≡ score_text c choices nodes ++ verdict_text c v → t1 ≡ t0 ++ flat_map (λ l. count_line l (get_or counts l 0)) (range_with_len 0 n) → t2 ≡ t1 ++ codes "status 0\n" → t2 ≡ report c states choices nodes whole
report_is c states choices nodes whole counts v n t0 t1 t2 is h links e0 e1 e2 =
    e2 ∙ ap (λ t. t ++ codes "status 0\n") (e1 ∙ ap₂ (λ a b. a ++ b) (e0 ∙ ap (λ w. score_text c choices nodes ++ verdict_text c w) is)
    (ap (λ k. flat_map (λ l. count_line l (get_or counts l 0)) (range_with_len 0 k)) links ∙ lines_same c whole counts h))
    ∙ append_assoc (head c states choices nodes) (count_lines c whole) (codes "status 0\n")
