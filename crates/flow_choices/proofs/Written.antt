-- The choices that a flow's text writes.
use Rattle.std.proofs.Common.{◌≡◌, ℕ, ◌<◌, ◌≤◌, Bool, true, false, inl, List, [], map, refl, sym, ap, ◌∙◌, subst, arith, length, get_or}
use Rattle.std.specs.Prelude.{Option, Some, None, nat_lt, ◌++◌}
use Rattle.std.specs.List.{AllByRecursion}
use Rattle.std.proofs.lemmas.Bool.{ltb-true, ltb-false}
use Rattle.std.proofs.lemmas.List.{get_or_past}
use Rattle.std.proofs.lemmas.List.FromFn.{get_or-map-range_with_len, length-map-range_with_len}
use Rattle.flow_graph.specs.declared.route.Route.{Route}
use Rattle.flow_graph.specs.declared.route.Choice.{Choice}
use Rattle.flow_graph.specs.Charts.{Chart, all_links, link_at, links_into, into_seq, width_at, form_at}
use Rattle.flow_graph.specs.FlowShape.{IsShape, WrittenFits}
use Rattle.flow_graph.specs.Runs.{Runs}
use Rattle.flow_derive.specs.Derive.{refined, routed_state, sorted_state}
use Rattle.flow_derive.specs.LinkStates.{choice_at, written_or_same, state_at, output_at}
use Rattle.flow_rules.specs.Needs.{missed, route_missed}
use Rattle.flow_rules.specs.Soundness.{Keeps}
use Rattle.flow_rules.specs.Verdicts.{with_state}
use Rattle.flow_score.specs.Scores.{choice_of, no_choice}
use Rattle.flow_plan.specs.Planned.{nodes_by}
use Rattle.flow_choices.specs.Choices.{WrittenAccepted}
use Rattle.flow_choices.specs.Kept.{WrittenRuns, WrittenKeeps}

written_list : Chart → List Choice
written_list c = map (choice_at c) (all_links c)

-- they are what is chosen for each link, as a list; behind its end no route is written
pub written_are : (c : Chart) → IsShape c → choice_of (map (choice_at c) (all_links c)) ≡ choice_at c
written_are c s = λ i l. by l (nat_lt l (length c.flow.links)) refl i
  where
    by : (l : ℕ) (t : Bool) → nat_lt l (length c.flow.links) ≡ t → choice_of (map (choice_at c) (all_links c)) l ≡ choice_at c l
    by l true k = get_or-map-range_with_len (choice_at c) 0 (length c.flow.links) l l no_choice (ltb-true _ _ k) (omega arith)
    by l false k =
        let past : length c.flow.links ≤ l = ltb-false _ _ k in
        get_or_past (map (choice_at c) (all_links c)) l no_choice (let e = length-map-range_with_len (choice_at c) 0 (length c.flow.links) in omega (arith, e))
        ∙ ap (λ (w : Option Route). record { method = written_or_same w; sort = None }) (sym (get_or_past c.written l None (let e = s.lists.written in omega (arith, e))))

fits_as_written : (seq : Bool) (width : ℕ) (written : Option Route) → WrittenFits seq width written → WrittenFits seq width (Some (written_or_same written))
fits_as_written seq width None h = (refl, tt)
fits_as_written seq width (Some r) h = h

pub written_accepted : WrittenAccepted
written_accepted regains c states choices s v = record {
  choices_are = record {
    each = ap length v.choices_are ∙ length-map-range_with_len (choice_at c) 0 (length c.flow.links);
    routes = λ l h. subst (λ (choice : ℕ → Choice). WrittenFits (into_seq c l) (width_at c l) (Some (choice l).method)) (sym same) (fits_as_written (into_seq c l) (width_at c l) (get_or c.written l None) (s.links l h).written);
    sorts = λ l h. inl (ap (λ (choice : ℕ → Choice). (choice l).sort) same);
  };
  states_are = record {
    each = v.states_are.each;
    derived = λ l h. subst (λ (choice : ℕ → Choice). state_at states l ≡ refined regains (width_at c l) (sorted_state (choice l).sort (routed_state (into_seq c l) (choice l).method (output_at regains c states l)))) (sym same) (v.states_are.derived l h);
  };
  none = λ l h. subst (λ (choice : ℕ → Choice). (with_state (output_at regains c states l) (route_missed (choice l).method (output_at regains c states l)) ++ with_state (state_at states l) (missed (form_at c (link_at c l).to) (map (state_at states) (links_into c (link_at c l).to)) (link_at c l).port)) ≡ []) (sym same) (v.none l h);
}
  where
    same : choice_of choices ≡ choice_at c
    same = ap choice_of v.choices_are ∙ written_are c s

pub written_runs : WrittenRuns
written_runs regains flow dict c states choices ops whole run a = record {
  shaped = a.shaped;
  accepted = written_accepted regains c states choices a.shaped.shape a.verdict;
  means = a.means;
  legal = subst (λ (choice : ℕ → Choice). AllByRecursion (Runs (λ l. (choice l).sort) run) (nodes_by c choice ops)) (sym (ap choice_of a.verdict.choices_are ∙ written_are c a.shaped.shape)) a.legal;
}

pub written_keeps : WrittenKeeps
written_keeps c states choices ops whole run s e k = record {
  links = λ l h. subst (λ (choice : ℕ → Choice). Keeps (width_at c) (λ j. (choice j).sort) (state_at states) whole run l) (ap choice_of e ∙ written_are c s) (k.links l h);
  counts = k.counts;
  faults = k.faults;
  sinks = k.sinks;
}
