-- The combined links of a flow's plan can be combined.
use Rattle.std.proofs.Common.{◌≡◌, inl, inr, ℕ, zero, suc, ◌+◌, ◌-◌, ◌<◌, ◌≤◌, ◌==◌, Bool, true, false, not, cond, refl, sym, ap, ◌∙◌, subst, List, [], ◌∷◌, length, filter, arith}
use Rattle.std.specs.Prelude.{nat_lt, ◌&&◌}
use Rattle.std.specs.List.{range_with_len}
use Rattle.std.proofs.lemmas.Bool.{eqb-true, ltb-true, ltb-false}
use Rattle.streams.specs.Lists.{IsIn}
use Rattle.streams.specs.Streams.{Stream}
use Rattle.streams.specs.Wiring.{shares, Plan}
use Rattle.streams.specs.Chains.{IsOnePort}
use Rattle.streams.proofs.Basics.{and_left, and_right}
use Rattle.op_base.specs.declared.fault.Fault.{Fault}
use Rattle.flow_graph.specs.declared.route.Route.{Route}
use Rattle.flow_graph.specs.declared.route.Route.TheVariants as route
use Rattle.flow_graph.specs.declared.route.Choice.{Choice}
use Rattle.flow_graph.specs.Charts.{Chart, link_at, links_from, into_seq}
use Rattle.flow_graph.specs.FlowShape.{IsShape}
use Rattle.flow_score.specs.Scores.{is_same}
use Rattle.flow_links.specs.Outputs.{LinksOutputs}
use Rattle.flow_plan.specs.Data.{Datum}
use Rattle.flow_plan.specs.Planned.{link, behind, plan_link_at, op_count, link_count, sort_operator, link_behind_sort, has_sort, gather_by, goes_by, plan_of, ChoicesFit, StreamsFit}
use Rattle.flow_plan.proofs.Members.{filter_in, range_in, from_in, order_has}
use Rattle.flow_plan.proofs.Wiring.{at_flow_link, at_link_behind, working_in, sorting_in, to_in, stream_working, stream_sorting, outs_working, outs_sorting, wire_link, wire_behind}
use Rattle.plan_chains.specs.Combined.{CanCombine, IsOneOutput}
use Rattle.plan_chains.specs.Chains.{CanChain}
use Rattle.flow_chains.specs.CombinedLinks.{follows, is_combined, StreamsChain, CombinedLinksChain}
use Rattle.flow_chains.proofs.Sending.{sorter_output}

is_false : (b : Bool) → not b ≡ true → b ≡ false
is_false false h = refl
is_false true h = absurd cc

same_gather : (seq : Bool) (r : Route) → is_same r ≡ true → gather_by seq r ≡ shares
same_gather seq route.Same h = refl
same_gather seq route.RoundRobin h = absurd cc
same_gather seq route.Entire h = absurd cc
same_gather seq (route.Hash K) h = absurd cc
same_gather seq (route.Modulus c) h = absurd cc
same_gather seq route.Any h = absurd cc
same_gather seq route.Ordered h = absurd cc
same_gather seq (route.Merge keys) h = absurd cc

same_goes : (seq : Bool) (r : Route) → is_same r ≡ true → (n p t : ℕ) (x : Datum) (j : ℕ) → goes_by seq r n p t x j ≡ true
same_goes seq route.Same h n p t x j = refl
same_goes seq route.RoundRobin h n p t x j = absurd cc
same_goes seq route.Entire h n p t x j = absurd cc
same_goes seq (route.Hash K) h n p t x j = absurd cc
same_goes seq (route.Modulus c) h n p t x j = absurd cc
same_goes seq route.Any h n p t x j = absurd cc
same_goes seq route.Ordered h n p t x j = absurd cc
same_goes seq (route.Merge keys) h n p t x j = absurd cc

-- the only member
alone : (x : ℕ) (xs : List ℕ) → IsIn x xs → length xs ≡ 1 → xs ≡ x ∷ []
alone x [] h e = absurd h
alone x (y ∷ []) (inl s) e = ap (λ z. z ∷ []) (sym s)
alone x (y ∷ []) (inr h) e = absurd h
alone x (y ∷ (z ∷ xs)) h e = absurd (omega (arith, e))

-- where each of the chosen numbers can be combined, all can
all_chain : {X F : Type 0} (plan : Plan X F) (p : ℕ → Bool) (a n : ℕ) → ((l : ℕ) → a ≤ l → l < a + n → p l ≡ true → CanCombine plan (plan.wire l).from (plan.wire l).into l) → CanChain plan (filter p (range_with_len a n))
all_chain plan p a zero h = tt
all_chain plan p a (suc n) h = by (p a) refl (all_chain plan p (a + 1) n (λ l le lt e. h l (omega arith) (omega arith) e))
  where
    by : (t : Bool) → p a ≡ t → CanChain plan (filter p (range_with_len (a + 1) n)) → CanChain plan (cond t (a ∷ filter p (range_with_len (a + 1) n)) (filter p (range_with_len (a + 1) n)))
    by true e more = (h a (omega arith) (omega arith) e, λ i. (let r = range_in (a + 1) n a (filter_in p (range_with_len (a + 1) n) a i).0 in let low = r.0 in omega arith), more)
    by false e more = more

module _ (c : Chart) (choice : ℕ → Choice) (degree : ℕ → ℕ) (stream : ℕ → Stream Datum Fault) (shape : IsShape c) (outputs : LinksOutputs c) (fits : ChoicesFit c choice degree) (streams : StreamsFit c stream) (chain : StreamsChain c stream) where
  abbrev plan : Plan Datum Fault
  plan = plan_of c choice degree stream

  port_at : (o x : ℕ) → o < op_count c → follows c o ≡ true → x ≡ o → IsOnePort ((plan_of c choice degree stream).stream x)
  port_at o x h f e = subst (λ z. IsOnePort ((plan_of c choice degree stream).stream z)) (sym e) (subst (λ (s : Stream Datum Fault). IsOnePort s) (sym (stream_working c choice degree stream shape fits streams o h)) (chain.one_port o h f))

  link_can : (l : ℕ) → l < link_count c → is_combined c choice (link l) ≡ true → CanCombine plan (plan.wire l).from (plan.wire l).into l
  link_can l h e =
      let method : Route = (choice l).method in
      let o : ℕ = (link_at c l).from in
      let low : o < op_count c = (shape.links l h).from in
      let plain : has_sort choice l ≡ false = is_false (has_sort choice l) (and_left _ _ e) in
      let rest = and_right (not (has_sort choice l)) (is_same method && ((length (links_from c o) == 1) && follows c (link_at c l).to)) e in
      let same : is_same method ≡ true = and_left _ _ rest in
      let ends = and_right (is_same method) ((length (links_from c o) == 1) && follows c (link_at c l).to) rest in
      let one : length (links_from c o) ≡ 1 = eqb-true _ _ (and_left _ _ ends) in
      let next : follows c (link_at c l).to ≡ true = and_right (length (links_from c o) == 1) (follows c (link_at c l).to) ends in
      let w = wire_link c choice degree stream shape fits streams l h in
      let from : (plan.wire l).from ≡ o = ap (λ z. z.from) w in
      let below = outputs.below l h in
      let many = outputs.as_many o low in
      let first : (link_at c l).out ≡ 0 = omega arith in
      record {
        producer = subst (λ z. IsIn z plan.order) (sym from) (working_in c choice degree stream o (order_has c shape.order o low));
        outs = ap plan.outs from ∙ (outs_working c choice degree stream shape fits streams o low ∙ alone l (links_from c o) (from_in c o l h refl) one);
        out = ap (λ z. z.out) w ∙ first;
        consumer = refl;
        straight = ap (λ z. z.straight) w ∙ same;
        shares = ap (λ z. z.gather) w ∙ same_gather (into_seq c l) method same;
        goes = λ p t x j. ap (λ z. z.goes p t x j) w ∙ same_goes (into_seq c l) method same (degree (link_at c l).to) p t x j;
        one_output = subst (λ z. IsOneOutput (plan.stream z)) (sym from) (subst (λ (s : Stream Datum Fault). IsOneOutput s) (sym (stream_working c choice degree stream shape fits streams o low)) (chain.one_output o low one));
        one_port = port_at (link_at c l).to (plan.wire l).into (shape.links l h).to next (ap (λ z. z.into) w ∙ ap (λ t. cond t (sort_operator c l) (link_at c l).to) plain);
      }

  behind_can : (l x : ℕ) → l < link_count c → x ≡ link_behind_sort c l → is_combined c choice (behind l) ≡ true → CanCombine plan (plan.wire x).from (plan.wire x).into x
  behind_can l x h s e = subst (λ y. CanCombine plan (plan.wire y).from (plan.wire y).into y) (sym s) there
    where
      sorts : has_sort choice l ≡ true
      sorts = and_left (has_sort choice l) (follows c (link_at c l).to) e

      there : CanCombine (plan_of c choice degree stream) ((plan_of c choice degree stream).wire (link_behind_sort c l)).from ((plan_of c choice degree stream).wire (link_behind_sort c l)).into (link_behind_sort c l)
      there =
          let w = wire_behind c choice degree stream shape fits streams l h in
          let from : (plan.wire (link_behind_sort c l)).from ≡ sort_operator c l = ap (λ z. z.from) w in
          record {
            producer = subst (λ z. IsIn z plan.order) (sym from) (sorting_in c choice degree stream l h sorts (to_in c choice degree stream shape fits streams l h));
            outs = ap plan.outs from ∙ outs_sorting c choice degree stream shape fits streams l;
            out = ap (λ z. z.out) w;
            consumer = refl;
            straight = ap (λ z. z.straight) w;
            shares = ap (λ z. z.gather) w;
            goes = λ p t x j. ap (λ z. z.goes p t x j) w;
            one_output = subst (λ z. IsOneOutput (plan.stream z)) (sym from) (subst (λ (s : Stream Datum Fault). IsOneOutput s) (sym (stream_sorting c choice degree stream shape fits streams l)) (sorter_output (choice l).sort));
            one_port = port_at (link_at c l).to (plan.wire (link_behind_sort c l)).into (shape.links l h).to (and_right (has_sort choice l) (follows c (link_at c l).to) e) (ap (λ z. z.into) w);
          }

  can : (l : ℕ) → l < link_count c + link_count c → is_combined c choice (plan_link_at (link_count c) l) ≡ true → CanCombine plan (plan.wire l).from (plan.wire l).into l
  can l h e = by (nat_lt l (link_count c)) refl
    where
      by : (t : Bool) → nat_lt l (link_count c) ≡ t → CanCombine (plan_of c choice degree stream) ((plan_of c choice degree stream).wire l).from ((plan_of c choice degree stream).wire l).into l
      by true k = (let low = ltb-true _ _ k in link_can l low (ap (is_combined c choice) (sym (at_flow_link (link_count c) l low)) ∙ e))
      by false k =
          let high : link_count c ≤ l = ltb-false _ _ k in
          let m : ℕ = l - link_count c in
          let low : m < link_count c = omega arith in
          let is : l ≡ link_behind_sort c m = omega arith in
          behind_can m l low is (ap (is_combined c choice) (sym (ap (plan_link_at (link_count c)) is ∙ at_link_behind (link_count c) m low)) ∙ e)

pub combined_chain : CombinedLinksChain
combined_chain c choice degree stream shape outputs fits streams chain =
    all_chain (plan_of c choice degree stream) (λ l. is_combined c choice (plan_link_at (link_count c) l)) 0 (link_count c + link_count c) (λ l le lt e. can c choice degree stream shape outputs fits streams chain l (omega arith) e)
