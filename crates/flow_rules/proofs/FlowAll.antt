-- The induction along a flow of all operators and routes.
use Rattle.std.proofs.Common.{Bool, IsPermutation, List, None, Option, Some, ap, cond, false, inl, inr, length, map, refl, subst, sym, true, ℕ, ◌≡◌, ◌≢◌, ◌<◌, ◌⊎◌, ◌∷◌, ◌++◌, ◌∙◌, ◌==◌, ◌&&◌, []}
use Rattle.std.proofs.lemmas.List.{length-map}
use Rattle.std.proofs.lemmas.List.Sorted.{IsPermutation-append, IsPermutation-refl}
use Rattle.std.specs.List.{AllByRecursion, range_with_len}
use Rattle.ds_schema.specs.Rows.{cols}
use Rattle.ds_schema.specs.declared.key.Key.{Key}
use Rattle.flow_graph.specs.Forms.{form, looked_passing}
use Rattle.flow_graph.specs.Operators.{Op, by_row, changecapture, dsread, faults, funnel, funnel_sequence, funnel_sort, group, import, join, lookup, merge, remdup, result, tsort}
use Rattle.flow_graph.specs.Runs.{Delivers, FitsShape, Forward, Gives, InsertedFrom, Lists, Means, Node, Out, RouteFits, Runs, arranged_if, links, meant_faults, result_on, run_faults, slice}
use Rattle.flow_graph.specs.Shapes.{AllWide, FitsPorts, HasPort, SpotFits, Wide}
use Rattle.flow_graph.specs.States.{AllHold, Common, Holds, HoldsIn}
use Rattle.ds_place.specs.declared.place.Place.{Place}
use Rattle.ds_place.specs.declared.place.Place.TheVariants.{Hash, Modulus}
use Rattle.flow_graph.specs.declared.state.Spot.{Spot}
use Rattle.flow_graph.specs.declared.state.State.{State}
use Rattle.flow_derive.specs.Derive.{kept_place, passed_state, all_at_place, carried_place, common_place, declared_state, first_keys, first_state, key_places, places, read_state, refined, routed_state, same_place, solo_state, sorted_state}
use Rattle.flow_rules.specs.Needs.{missed, route_missed}
use Rattle.flow_rules.specs.Soundness.{Accepted, Derives, Keeps, Sound}
use Rattle.op_base.specs.Columns.{Passing, everything, only, IsIn, Lies, Row, pairs_of}
use Rattle.op_base.specs.Keyed.{arranged, get_keys, seen, without}
use Rattle.op_base.specs.Lists.{joined}
use Rattle.flow_graph.proofs.InsertedSorts.{as_needed, faults_same, result_same}
use Rattle.flow_graph.proofs.StateLaws.{holds_plain, sort_common}
use Rattle.flow_graph.proofs.Widths.{result_wide}
use Rattle.flow_rules.proofs.Acceptance.{needs_met, route_met}
use Rattle.flow_rules.proofs.FeedOps.{faults_meant, gives_meant}
use Rattle.flow_rules.proofs.FunnelOps.{common_known}
use Rattle.flow_rules.proofs.MeetLaws.{Lengths, carried_plain, length-range}
use Rattle.flow_rules.proofs.NeedTypes.{NotEntire, Needs, derived_op}
use Rattle.flow_rules.proofs.OpHolds.{meant_faults_on, op_faults, op_holds}
use Rattle.flow_rules.proofs.Passing.{IsKnown}
use Rattle.flow_rules.proofs.PlaceFits.{AllFit, derived_fits, route_fits, sort_fits}
use Rattle.flow_rules.proofs.Refined.{refined_holds}
use Rattle.flow_rules.proofs.RouteOps.{route_holds}
use Rattle.flow_rules.proofs.SimpleOps.{sorted_holds}
use Rattle.op_base.proofs.Bags.{permuted_long}
use Rattle.op_base.proofs.RowLists.{by_key_all}
use Rattle.flow_graph.specs.declared.state.Spot.TheVariants as spot

pub all_in : (P : ℕ → Type 0) (seen : List ℕ) → ((l : ℕ) → IsIn l seen → P l) → (ls : List ℕ) → Lies ls seen → AllByRecursion P ls
all_in P seen h [] k = tt
all_in P seen h (l ∷ ls) k = (h l k.0, all_in P seen h ls k.1)

in_links : (P : ℕ → Type 0) (outs : List Out) (seen : List ℕ) → AllByRecursion (λ (o : Out). P o.link) outs → ((l : ℕ) → IsIn l seen → P l) → (l : ℕ) → IsIn l (links outs ++ seen) → P l
in_links P [] seen h k l i = k l i
in_links P (o ∷ outs) seen h k l (inl e) = subst P (sym e) h.0
in_links P (o ∷ outs) seen h k l (inr i) = in_links P outs seen h.1 k l i

-- What each node hands on from its inputs to its outputs holds of all links, and what it has by its inputs holds of all nodes.
pub along_all : (P : ℕ → Type 0) (Q N : Node → Type 0) → ((n : Node) → Q n → AllByRecursion P n.ins → AllByRecursion (λ (o : Out). P o.link) n.outs × N n) →
    (nodes : List Node) (seen : List ℕ) → ((l : ℕ) → IsIn l seen → P l) → Forward seen nodes → AllByRecursion Q nodes → AllByRecursion (λ (n : Node). AllByRecursion (λ (o : Out). P o.link) n.outs × N n) nodes
along_all P Q N step [] seen h f q = tt
along_all P Q N step (n ∷ nodes) seen h f q =
    let here = step n q.0 (all_in P seen h n.ins f.0) in
    (here, along_all P Q N step nodes (links n.outs ++ seen) (in_links P n.outs seen here.0 h) f.1 q.1)

common_plain : (states : List State) → common_place (places states) ≢ spot.Entire
common_plain states e = go (common_known states)
  where
    known : (p : Spot) → IsKnown p → p ≡ spot.Entire → ⊥
    known spot.Solo k f = cc
    known (spot.Placed (Hash C)) k f = cc
    known (spot.Placed (Modulus c)) k f = cc
    known spot.Entire k f = k
    known spot.None k f = k

    go : ((common_place (places states) ≡ spot.None) ⊎ (IsKnown (common_place (places states)) × AllByRecursion (λ (s : State). s.place ≡ common_place (places states)) states × (0 < length states))) → ⊥
    go (inl f) = let g : spot.None ≡ spot.Entire = sym f ∙ e in cc
    go (inr k) = known (common_place (places states)) k.0 e

declared_plain : (declared : Option Place) → (declared_state declared).place ≢ spot.Entire
declared_plain None e = cc
declared_plain (Some (Hash K)) e = cc
declared_plain (Some (Modulus c)) e = cc

read_plain : (partitions : ℕ) (declared : Option Place) → (read_state partitions declared).place ≢ spot.Entire
read_plain partitions declared e = go (partitions == 1) e
  where
    go : (b : Bool) → (cond b solo_state (declared_state declared)).place ≡ spot.Entire → ⊥
    go true f = cc
    go false f = declared_plain declared f

keyed_plain : (keys : List (List Key)) (H : List Key) (states : List State) → common_place (key_places keys H states) ≢ spot.Entire
keyed_plain [] H states e = cc
keyed_plain (K ∷ keys) H [] e = cc
keyed_plain (K ∷ keys) H (s ∷ states) e = go (same_place (carried_place (pairs_of (cols K) (cols H)) s.place) (carried_place (pairs_of (cols K) (cols H)) s.place) && all_at_place (carried_place (pairs_of (cols K) (cols H)) s.place) (key_places keys H states)) e
  where
    go : (b : Bool) → cond b (carried_place (pairs_of (cols K) (cols H)) s.place) spot.None ≡ spot.Entire → ⊥
    go true f = carried_plain (pairs_of (cols K) (cols H)) s.place f
    go false f = cc

passed_plain : (m : Passing) (s : State) → NotEntire s → (passed_state m s).place ≢ spot.Entire
passed_plain everything s n e = n e
passed_plain (only m) s n e = go s.place n e
  where
    go : (p : Spot) → p ≢ spot.Entire → kept_place m p ≡ spot.Entire → ⊥
    go spot.Solo k f = cc
    go (spot.Placed place) k f = carried_plain m (spot.Placed place) f
    go spot.Entire k f = k refl
    go spot.None k f = cc

pub derived_plain : (op : Op) (q : ℕ) (states : List State) → Needs op states → (derived_op op q states).place ≢ spot.Entire
derived_plain (import lines rejects beyond) q states n e = cc
derived_plain (dsread segments place) q states n e = read_plain (length segments) place e
derived_plain (by_row rule) q [] n e = n
derived_plain (by_row rule) q (s ∷ []) n e = passed_plain (rule.passes q) s n e
derived_plain (by_row rule) q (s ∷ (t ∷ states)) n e = n
derived_plain (tsort keys) q [] n e = n
derived_plain (tsort keys) q (s ∷ []) n e = n e
derived_plain (tsort keys) q (s ∷ (t ∷ states)) n e = n
derived_plain (remdup last keys) q [] n e = n
derived_plain (remdup last keys) q (s ∷ []) n e = n.0 e
derived_plain (remdup last keys) q (s ∷ (t ∷ states)) n e = n
derived_plain (group g) q states n e = carried_plain (pairs_of (cols g.keys) (cols (first_keys 0 g.keys))) (first_state states).place e
derived_plain (join j) q states n e = keyed_plain (j.left_keys ∷ (j.right_keys ∷ [])) (first_keys 0 j.left_keys) states e
derived_plain (merge m) q states n e = keyed_plain m.keys (get_keys m.keys q) states e
derived_plain (lookup k) q [] n e = n
derived_plain (lookup k) q (s ∷ []) n e = n
derived_plain (lookup k) q (s ∷ (t ∷ [])) n e = passed_plain (looked_passing k q) s n.0 e
derived_plain (lookup k) q (s ∷ (t ∷ (u ∷ states))) n e = n
derived_plain (changecapture c) q states n e = keyed_plain (c.keys ∷ (c.keys ∷ [])) c.keys states e
derived_plain funnel q states n e = common_plain states e
derived_plain funnel_sequence q states n e = common_plain states e
derived_plain (funnel_sort keys) q states n e = common_plain states e

-- a sort on a link, whatever its place
each_sort : (keys : List Key) (s : State) (parts : List (List Row)) (whole : List Row) → AllByRecursion (λ rows. Common s (rows ∷ []) whole) parts → AllByRecursion (λ rows. Common (record { agree = s.agree; place = s.place; sort = keys ++ without keys s.sort }) (rows ∷ []) (arranged keys whole)) (map (arranged keys) parts)
each_sort keys s [] whole h = tt
each_sort keys s (rows ∷ parts) whole h = (sort_common_at h.0, each_sort keys s parts whole h.1)
  where
    sort_common_at : Common s (rows ∷ []) whole → Common (record { agree = s.agree; place = s.place; sort = keys ++ without keys s.sort }) (arranged keys rows ∷ []) (arranged keys whole)
    sort_common_at c = let k = sort_common keys s (rows ∷ []) whole c in record { bag = k.bag; agree = k.agree; sorted = k.sorted }

pub any_sorted_holds : (sorts : Option (List Key)) (s : State) (parts : List (List Row)) (whole : List Row) → Holds s parts whole → Holds (sorted_state sorts s) (map (arranged_if sorts) parts) (arranged_if sorts whole)
any_sorted_holds None s parts whole h = subst (λ ps. Holds s ps whole) (sym (Rattle.std.proofs.lemmas.List.map-id parts)) h
any_sorted_holds (Some keys) s parts whole h = go s.place refl
  where
    plain : s.place ≢ spot.Entire → Holds (sorted_state (Some keys) s) (map (arranged keys) parts) (arranged keys whole)
    plain e = sorted_holds (Some keys) s parts whole e h

    go : (p : Spot) → s.place ≡ p → Holds (sorted_state (Some keys) s) (map (arranged keys) parts) (arranged keys whole)
    go spot.Solo e = plain (λ f. let g : spot.Solo ≡ spot.Entire = sym e ∙ f in cc)
    go (spot.Placed (Hash C)) e = plain (λ f. let g : spot.Placed (Hash C) ≡ spot.Entire = sym e ∙ f in cc)
    go (spot.Placed (Modulus c)) e = plain (λ f. let g : spot.Placed (Modulus c) ≡ spot.Entire = sym e ∙ f in cc)
    go spot.None e = plain (λ f. let g : spot.None ≡ spot.Entire = sym e ∙ f in cc)
    go spot.Entire e = subst (λ p. HoldsIn p (sorted_state (Some keys) s) (map (arranged keys) parts) (arranged keys whole)) (sym e) (each_sort keys s parts whole (subst (λ p. HoldsIn p s parts whole) e h))

arranged_wide : (w : ℕ) (sorts : Option (List Key)) (rows : List Row) → AllByRecursion (Wide w) rows → AllByRecursion (Wide w) (arranged_if sorts rows)
arranged_wide w None rows h = h
arranged_wide w (Some keys) rows h = by_key_all keys (λ same. same) (λ P xs a. a) (Wide w) rows h

gives_long : (op : Op) (q : ℕ) (inputs : List (List (List Row))) (degree : ℕ) (sent : List (List Row)) → Gives op q inputs degree sent → length sent ≡ degree
gives_long funnel q inputs degree sent g = g.0
gives_long (funnel_sort keys) q inputs degree sent g = g.0
gives_long op q inputs degree sent g = ap length g ∙ length-range (λ p. result_on op q p (slice p inputs)) 0 degree

-- the families of a flow, at a node's inputs
star : (ℕ → Option (List Key)) → (ℕ → List Row) → ℕ → List Row
star sorts whole l = arranged_if (sorts l) (whole l)

inputs_hold : (width : ℕ → ℕ) (sorts : ℕ → Option (List Key)) (state : ℕ → State) (whole : ℕ → List Row) (run : Lists) (ins : List ℕ) → AllByRecursion (Keeps width sorts state whole run) ins → AllHold (map state ins) (map run.got ins) (map (λ l. arranged_if (sorts l) (whole l)) ins)
inputs_hold width sorts state whole run [] h = tt
inputs_hold width sorts state whole run (l ∷ ins) h = (h.0.holds, inputs_hold width sorts state whole run ins h.1)

inputs_wide : (width : ℕ → ℕ) (sorts : ℕ → Option (List Key)) (state : ℕ → State) (whole : ℕ → List Row) (run : Lists) (ins : List ℕ) → AllByRecursion (Keeps width sorts state whole run) ins → AllWide (map width ins) (map (λ l. arranged_if (sorts l) (whole l)) ins)
inputs_wide width sorts state whole run [] h = tt
inputs_wide width sorts state whole run (l ∷ ins) h = (arranged_wide (width l) (sorts l) (whole l) h.0.wide, inputs_wide width sorts state whole run ins h.1)

plain_wide : (width : ℕ → ℕ) (sorts : ℕ → Option (List Key)) (state : ℕ → State) (whole : ℕ → List Row) (run : Lists) (ins : List ℕ) → AllByRecursion (Keeps width sorts state whole run) ins → AllWide (map width ins) (map whole ins)
plain_wide width sorts state whole run [] h = tt
plain_wide width sorts state whole run (l ∷ ins) h = (h.0.wide, plain_wide width sorts state whole run ins h.1)

inputs_fit : (width : ℕ → ℕ) (sorts : ℕ → Option (List Key)) (state : ℕ → State) (whole : ℕ → List Row) (run : Lists) (ins : List ℕ) → AllByRecursion (Keeps width sorts state whole run) ins → AllFit (map width ins) (map state ins)
inputs_fit width sorts state whole run [] h = tt
inputs_fit width sorts state whole run (l ∷ ins) h = (h.0.place_fits, inputs_fit width sorts state whole run ins h.1)

lengths_of : (got : ℕ → List (List Row)) (degree : ℕ) (ins : List ℕ) → AllByRecursion (λ l. length (got l) ≡ degree) ins → Lengths degree (map got ins)
lengths_of got degree [] h = tt
lengths_of got degree (l ∷ ins) h = (h.0, lengths_of got degree ins h.1)

-- what is known of one node
abbrev NodeSound : Bool → (ℕ → ℕ) → (ℕ → Option (List Key)) → (ℕ → State) → (ℕ → List Row) → Lists → Node → Type 0
NodeSound regains width sorts state whole run n = FitsShape width n × InsertedFrom sorts n.op 0 n.ins × Derives regains width sorts state n × Accepted regains width state n × Means whole n × Runs sorts run n

abbrev Fails : (ℕ → List Row) → Lists → Node → Type 0
Fails whole run n = IsPermutation (joined (run.failed n.number)) (faults n.op (map whole n.ins))

node_step : (regains : Bool) (width : ℕ → ℕ) (sorts : ℕ → Option (List Key)) (state : ℕ → State) (whole : ℕ → List Row) (run : Lists) (n : Node) → NodeSound regains width sorts state whole run n → AllByRecursion (Keeps width sorts state whole run) n.ins → AllByRecursion (λ (o : Out). Keeps width sorts state whole run o.link) n.outs × Fails whole run n
node_step regains width sorts state whole run n (shape, inserted, derives, accepted, means, runs) h = (go n.outs shape.4 derives accepted.1 means runs.gives runs.comes, fails)
  where
    states : List State
    states = map state n.ins

    inputs : List (List (List Row))
    inputs = map run.got n.ins

    stars : List (List Row)
    stars = map (λ l. arranged_if (sorts l) (whole l)) n.ins

    same_length : length n.ins ≡ length states
    same_length = sym (length-map n.ins state)

    met : Needs n.op states
    met = needs_met n.op states (subst (FitsPorts n.op) same_length shape.2) shape.3 (subst (λ k. AllByRecursion (λ i. missed (form n.op) states i ≡ []) (range_with_len 0 k)) same_length accepted.0)

    held : AllHold states inputs stars
    held = inputs_hold width sorts state whole run n.ins h

    long : Lengths runs.degree inputs
    long = lengths_of run.got runs.degree n.ins runs.degrees

    fails : Fails whole run n
    fails = subst (λ fs. IsPermutation (joined fs) (faults n.op (map whole n.ins))) (sym (runs.fails ∙ faults_meant n.op (map width n.ins) shape.0 states runs.degree inputs stars shape.1 met held))
        (subst (IsPermutation (joined (map (λ p. meant_faults_on n.op p (slice p inputs)) (range_with_len 0 runs.degree)))) (faults_same n.op (map whole n.ins) stars (as_needed sorts whole n.op 0 n.ins inserted))
        (op_faults n.op (map width n.ins) shape.0 states runs.degree inputs stars shape.1 met runs.fits runs.some held long))

    go : (outs : List Out) → AllByRecursion (λ (o : Out). (width o.link ≡ shape.0 o.port) × HasPort n.op o.port × RouteFits (width o.link) o.route) outs →
        AllByRecursion (λ (o : Out). state o.link ≡ refined regains (width o.link) (sorted_state (sorts o.link) (routed_state o.sequential o.route (refined regains (width o.link) (derived_op n.op o.port states))))) outs →
        AllByRecursion (λ (o : Out). route_missed o.route (refined regains (width o.link) (derived_op n.op o.port states)) ≡ []) outs →
        AllByRecursion (λ (o : Out). whole o.link ≡ result n.op o.port (map whole n.ins)) outs →
        AllByRecursion (λ (o : Out). Gives n.op o.port inputs runs.degree (run.sent o.link)) outs →
        AllByRecursion (λ (o : Out). Delivers o (sorts o.link) (run.sent o.link) (run.got o.link)) outs →
        AllByRecursion (λ (o : Out). Keeps width sorts state whole run o.link) outs
    go [] s d a m g c = tt
    go (o ∷ outs) s d a m g c = (record { holds = arrives; wide = wide; place_fits = subst (λ t. SpotFits (width o.link) t.place) (sym d.0) sorted_fits; counted = permuted_long (joined (run.sent o.link)) (whole o.link) bag }, go outs s.1 d.1 a.1 m.1 g.1 c.1)
      where
        before : State
        before = derived_op n.op o.port states

        wide : AllByRecursion (Wide (width o.link)) (whole o.link)
        wide = subst (λ w. AllByRecursion (Wide w) (whole o.link)) (sym s.0.0) (subst (AllByRecursion (Wide (shape.0 o.port))) (sym m.0) (result_wide n.op (map width n.ins) shape.0 o.port (map whole n.ins) shape.1 (plain_wide width sorts state whole run n.ins h)))

        fits : SpotFits (width o.link) before.place
        fits = subst (λ w. SpotFits w before.place) (sym s.0.0) (derived_fits n.op (map width n.ins) shape.0 o.port states shape.1 met (inputs_fit width sorts state whole run n.ins h))

        sorted_fits : SpotFits (width o.link) (sorted_state (sorts o.link) (routed_state o.sequential o.route (refined regains (width o.link) before))).place
        sorted_fits = sort_fits (sorts o.link) (width o.link) (routed_state o.sequential o.route (refined regains (width o.link) before)) (route_fits o.sequential o.route (width o.link) (refined regains (width o.link) before) s.0.2 fits)

        put : Holds before (run.sent o.link) (whole o.link)
        put = subst (Holds before (run.sent o.link)) (result_same n.op o.port (map whole n.ins) stars (as_needed sorts whole n.op 0 n.ins inserted) ∙ sym m.0)
            (op_holds n.op o.port (map width n.ins) shape.0 states runs.degree inputs stars (run.sent o.link) shape.1 s.0.1 met runs.fits runs.some (inputs_wide width sorts state whole run n.ins h) held long (gives_meant n.op o.port (map width n.ins) shape.0 states runs.degree inputs stars (run.sent o.link) shape.1 met held g.0))

        bag : IsPermutation (joined (run.sent o.link)) (whole o.link)
        bag = (holds_plain before.place before (run.sent o.link) (whole o.link) (derived_plain n.op o.port states met) put).0.bag

        some_sent : 0 < length (run.sent o.link)
        some_sent = subst (λ k. 0 < k) (sym (gives_long n.op o.port inputs runs.degree (run.sent o.link) g.0)) runs.some

        leaves : Holds (refined regains (width o.link) before) (run.sent o.link) (whole o.link)
        leaves = refined_holds regains (width o.link) before (run.sent o.link) (whole o.link) some_sent wide fits put

        v : Delivers o (sorts o.link) (run.sent o.link) (run.got o.link)
        v = c.0

        after : Holds (routed_state o.sequential o.route (refined regains (width o.link) before)) v.mid (whole o.link)
        after = route_holds o.sequential o.route (refined regains (width o.link) before) (run.sent o.link) v.mid (whole o.link) (route_met o.route (refined regains (width o.link) before) a.0) (derived_plain n.op o.port states met) v.some leaves v.arrives

        long_mid : 0 < length (map (arranged_if (sorts o.link)) v.mid)
        long_mid = subst (λ k. 0 < k) (sym (length-map v.mid (arranged_if (sorts o.link)))) v.some

        arrives : Holds (state o.link) (run.got o.link) (arranged_if (sorts o.link) (whole o.link))
        arrives = subst (λ t. Holds t (run.got o.link) (arranged_if (sorts o.link) (whole o.link))) (sym d.0)
            (subst (λ ps. Holds (refined regains (width o.link) (sorted_state (sorts o.link) (routed_state o.sequential o.route (refined regains (width o.link) before)))) ps (arranged_if (sorts o.link) (whole o.link))) (sym v.sorted)
            (refined_holds regains (width o.link) (sorted_state (sorts o.link) (routed_state o.sequential o.route (refined regains (width o.link) before))) (map (arranged_if (sorts o.link)) v.mid) (arranged_if (sorts o.link) (whole o.link)) long_mid
            (arranged_wide (width o.link) (sorts o.link) (whole o.link) wide) sorted_fits
            (any_sorted_holds (sorts o.link) (routed_state o.sequential o.route (refined regains (width o.link) before)) v.mid (whole o.link) after)))

all_six : (regains : Bool) (width : ℕ → ℕ) (sorts : ℕ → Option (List Key)) (state : ℕ → State) (whole : ℕ → List Row) (run : Lists) (nodes : List Node) → AllByRecursion (FitsShape width) nodes → AllByRecursion (λ (n : Node). InsertedFrom sorts n.op 0 n.ins) nodes → AllByRecursion (Derives regains width sorts state) nodes → AllByRecursion (Accepted regains width state) nodes → AllByRecursion (Means whole) nodes → AllByRecursion (Runs sorts run) nodes →
    AllByRecursion (NodeSound regains width sorts state whole run) nodes
all_six regains width sorts state whole run [] s i d a m r = tt
all_six regains width sorts state whole run (n ∷ nodes) s i d a m r = ((s.0, i.0, d.0, a.0, m.0, r.0), all_six regains width sorts state whole run nodes s.1 i.1 d.1 a.1 m.1 r.1)

-- In a legal run of an accepted flow each link keeps what its state says, and each node fails as it does on the whole.
pub flow_all : (regains : Bool) (nodes : List Node) (width : ℕ → ℕ) (sorts : ℕ → Option (List Key)) (state : ℕ → State) (whole : ℕ → List Row) (run : Lists) → Sound regains nodes width sorts state whole run →
    AllByRecursion (λ (n : Node). AllByRecursion (λ (o : Out). Keeps width sorts state whole run o.link) n.outs × IsPermutation (joined (run.failed n.number)) (faults n.op (map whole n.ins))) nodes
flow_all regains nodes width sorts state whole run s =
    along_all (Keeps width sorts state whole run) (NodeSound regains width sorts state whole run) (Fails whole run) (node_step regains width sorts state whole run) nodes [] (λ l i. absurd i) s.forward
    (all_six regains width sorts state whole run nodes s.shaped s.inserted s.derives s.accepted s.means s.runs)

-- The faults of the run are those of the meaning.
pub faults_all : (regains : Bool) (nodes : List Node) (width : ℕ → ℕ) (sorts : ℕ → Option (List Key)) (state : ℕ → State) (whole : ℕ → List Row) (run : Lists) → Sound regains nodes width sorts state whole run → IsPermutation (run_faults run nodes) (meant_faults whole nodes)
faults_all regains nodes width sorts state whole run s = go nodes (flow_all regains nodes width sorts state whole run s)
  where
    go : (ns : List Node) → AllByRecursion (λ (n : Node). AllByRecursion (λ (o : Out). Keeps width sorts state whole run o.link) n.outs × IsPermutation (joined (run.failed n.number)) (faults n.op (map whole n.ins))) ns → IsPermutation (run_faults run ns) (meant_faults whole ns)
    go [] h = IsPermutation-refl []
    go (n ∷ ns) h = IsPermutation-append (joined (run.failed n.number)) (faults n.op (map whole n.ins)) (run_faults run ns) (meant_faults whole ns) h.0.1 (go ns h.1)
