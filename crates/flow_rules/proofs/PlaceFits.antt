-- The columns of a place are columns of its link, in a shaped flow.
use Rattle.std.proofs.Common.{Bool, List, None, Option, Some, ap, arith, cond, false, get_or, length, refl, subst, suc, sym, true, zero, ℕ, ◌≡◌, ◌+◌, ◌<◌, ◌≤◌, ◌∷◌, ◌∙◌, ◌==◌, ◌&&◌, []}
use Rattle.std.specs.List.{AllByRecursion}
use Rattle.ds_schema.specs.Rows.{cols}
use Rattle.ds_schema.specs.declared.key.Key.{Key}
use Rattle.flow_graph.specs.Operators.{Op, by_row, changecapture, dsread, funnel, funnel_sequence, funnel_sort, group, import, join, lookup, merge, remdup, tsort}
use Rattle.flow_graph.specs.Runs.{RouteFits}
use Rattle.flow_graph.specs.Shapes.{PassesInto, AllWidths, DeclaredFits, IsShaped, SpotFits}
use Rattle.ds_place.specs.declared.place.Place.{Place}
use Rattle.ds_place.specs.declared.place.Place.TheVariants.{Hash, Modulus}
use Rattle.flow_graph.specs.declared.route.Route.{Route}
use Rattle.flow_graph.specs.declared.state.Spot.{Spot}
use Rattle.flow_graph.specs.declared.state.State.{State}
use Rattle.flow_derive.specs.Derive.{kept_place, passed_state, all_at_place, carried, carried_place, common_place, declared_state, first_keys, first_state, hashed_if, key_places, modulus_if, places, read_state, routed_state, same_place, solo_state, sorted_state, with_column}
use Rattle.op_base.specs.Columns.{Passing, everything, only, Lies, Pairs, all_columns, column_in, pairs_of}
use Rattle.op_base.specs.Keyed.{get_keys}
use Rattle.flow_graph.proofs.PassingColumns.{grow, inside, lies_fit, pairs_fit, range_fit}
use Rattle.flow_rules.proofs.NeedTypes.{Needs, derived_op}
use Rattle.op_base.proofs.ColumnLaws.{length-range_with}
use Rattle.flow_graph.specs.declared.state.Spot.TheVariants as spot
use Rattle.flow_graph.specs.declared.route.Route.TheVariants as route

column_fits : (w : ℕ) (m : Pairs) (c d : ℕ) → AllByRecursion (λ (e : ℕ × ℕ). e.1 < w) m → column_in m c ≡ Some d → d < w
column_fits w [] c d h e = cc
column_fits w (p ∷ m) c d h e = go (p.0 == c) (column_fits w m c d h.1) e
  where
    go : (b : Bool) → (column_in m c ≡ Some d → d < w) → cond b (Some (p.1)) (column_in m c) ≡ Some d → d < w
    go true rec f = let g : p.1 ≡ d = cc in subst (λ x. x < w) g h.0
    go false rec f = rec f

carried_fits : (w : ℕ) (m : Pairs) (C D : List ℕ) → AllByRecursion (λ (e : ℕ × ℕ). e.1 < w) m → carried m C ≡ Some D → Lies D (all_columns w)
carried_fits w m [] D h e = let f : [] ≡ D = cc in subst (λ X. Lies X (all_columns w)) f tt
carried_fits w m (c ∷ C) D h e = go (column_in m c) refl (carried m C) refl (λ ds g. carried_fits w m C ds h g) e
  where
    go : (a : Option ℕ) → column_in m c ≡ a → (b : Option (List ℕ)) → carried m C ≡ b → ((ds : List ℕ) → carried m C ≡ Some ds → Lies ds (all_columns w)) → with_column a b ≡ Some D → Lies D (all_columns w)
    go None f b g rec k = cc
    go (Some d) f None g rec k = cc
    go (Some d) f (Some ds) g rec k = let shape : d ∷ ds ≡ D = cc in subst (λ X. Lies X (all_columns w)) shape (inside d w (column_fits w m c d h f), rec ds g)

place_fits : (w : ℕ) (m : Pairs) (p : Spot) → AllByRecursion (λ (e : ℕ × ℕ). e.1 < w) m → SpotFits w (carried_place m p)
place_fits w m spot.Solo h = tt
place_fits w m (spot.Placed (Hash C)) h = go (carried m C) refl
  where
    go : (a : Option (List ℕ)) → carried m C ≡ a → SpotFits w (hashed_if a)
    go None e = tt
    go (Some D) e = carried_fits w m C D h e
place_fits w m (spot.Placed (Modulus c)) h = go (column_in m c) refl
  where
    go : (a : Option ℕ) → column_in m c ≡ a → SpotFits w (modulus_if a)
    go None e = tt
    go (Some d) e = inside d w (column_fits w m c d h e)
place_fits w m spot.Entire h = tt
place_fits w m spot.None h = tt

first_fit : (w n : ℕ) (keys : List Key) → n + length keys ≤ w → AllByRecursion (λ (c : ℕ). c < w) (cols (first_keys n keys))
first_fit w n [] l = tt
first_fit w n (k ∷ keys) l = (omega arith, first_fit w (suc n) keys (omega arith))

keyed_fits : (w : ℕ) (keys : List (List Key)) (H : List Key) (states : List State) → AllByRecursion (λ (c : ℕ). c < w) (cols H) → SpotFits w (common_place (key_places keys H states))
keyed_fits w [] H states h = tt
keyed_fits w (K ∷ keys) H [] h = tt
keyed_fits w (K ∷ keys) H (s ∷ states) h = go (same_place q q && all_at_place q (key_places keys H states))
  where
    q : Spot
    q = carried_place (pairs_of (cols K) (cols H)) s.place

    go : (b : Bool) → SpotFits w (cond b q spot.None)
    go true = place_fits w (pairs_of (cols K) (cols H)) s.place (pairs_fit w (cols K) (cols H) h)
    go false = tt

-- the places of inputs fit their widths
abbrev pub AllFit : List ℕ → List State → Type 0
AllFit [] [] = Unit {0}
AllFit (w ∷ ins) (s ∷ states) = SpotFits w s.place × AllFit ins states
AllFit ins states = ⊥

funnel_fits : (w : ℕ) (ins : List ℕ) (states : List State) → AllWidths ins w → AllFit ins states → SpotFits w (common_place (places states))
funnel_fits w ins [] e f = tt
funnel_fits w [] (s ∷ states) e f = absurd f
funnel_fits w (v ∷ ins) (s ∷ states) e f = go (same_place s.place s.place && all_at_place s.place (places states))
  where
    go : (b : Bool) → SpotFits w (cond b s.place spot.None)
    go true = subst (λ n. SpotFits n s.place) e.0 f.0
    go false = tt

declared_fits : (w : ℕ) (declared : Option Place) → DeclaredFits w declared → SpotFits w (declared_state declared).place
declared_fits w None f = tt
declared_fits w (Some (Hash K)) f = f
declared_fits w (Some (Modulus c)) f = f

read_fits : (w partitions : ℕ) (declared : Option Place) → DeclaredFits w declared → SpotFits w (read_state partitions declared).place
read_fits w partitions declared f = go (partitions == 1)
  where
    go : (b : Bool) → SpotFits w (cond b solo_state (declared_state declared)).place
    go true = tt
    go false = declared_fits w declared f

first_input_fits : (ins : List ℕ) (s : State) (v : ℕ) → v ≡ get_or ins 0 0 → AllFit ins (s ∷ []) → SpotFits v s.place
first_input_fits [] s v e f = absurd f
first_input_fits (w ∷ ins) s v e f = subst (λ n. SpotFits n s.place) (sym e) f.0

kept_fits : (w : ℕ) (m : Pairs) (p : Spot) → AllByRecursion (λ (e : ℕ × ℕ). e.1 < w) m → SpotFits w (kept_place m p)
kept_fits w m spot.Solo h = tt
kept_fits w m (spot.Placed place) h = place_fits w m (spot.Placed place) h
kept_fits w m spot.Entire h = tt
kept_fits w m spot.None h = tt

first_fits : (ins : List ℕ) (states : List State) (v : ℕ) → v ≡ get_or ins 0 0 → AllFit ins states → SpotFits v (first_state states).place
first_fits ins [] v e f = tt
first_fits [] (s ∷ states) v e f = absurd f
first_fits (w ∷ ins) (s ∷ states) v e f = subst (λ n. SpotFits n s.place) (sym e) f.0

-- what passes of the first input
passed_fits : (ins : List ℕ) (w : ℕ) (m : Passing) (states : List State) → AllFit ins states → PassesInto m (get_or ins 0 0) w → SpotFits w (passed_state m (first_state states)).place
passed_fits ins w everything states f h = first_fits ins states w h f
passed_fits ins w (only m) states f h = kept_fits w m (first_state states).place h

pub derived_fits : (op : Op) (ins : List ℕ) (outs : ℕ → ℕ) (q : ℕ) (states : List State) → IsShaped op ins outs → Needs op states → AllFit ins states → SpotFits (outs q) (derived_op op q states).place
derived_fits (import lines rejects beyond) ins outs q states s n f = tt
derived_fits (dsread segments place) ins outs q states s n f = read_fits (outs q) (length segments) place (s.3 q)
derived_fits (by_row rule) ins outs q states s n f = passed_fits ins (outs q) (rule.passes q) states f (s.inside q)
derived_fits (tsort keys) ins outs q [] s n f = absurd n
derived_fits (tsort keys) ins outs q (a ∷ []) s n f = first_input_fits ins a (outs q) (s q) f
derived_fits (tsort keys) ins outs q (a ∷ (b ∷ states)) s n f = absurd n
derived_fits (remdup last keys) ins outs q [] s n f = absurd n
derived_fits (remdup last keys) ins outs q (a ∷ []) s n f = first_input_fits ins a (outs q) (s q) f
derived_fits (remdup last keys) ins outs q (a ∷ (b ∷ states)) s n f = absurd n
derived_fits (group g) ins outs q states s n f =
    place_fits (outs q) (pairs_of (cols g.keys) (cols (first_keys 0 g.keys))) (first_state states).place (pairs_fit (outs q) (cols g.keys) (cols (first_keys 0 g.keys)) (first_fit (outs q) 0 g.keys (let r = s.room q in omega arith)))
derived_fits (join j) ins outs q states s n f = keyed_fits (outs q) (j.left_keys ∷ (j.right_keys ∷ [])) (first_keys 0 j.left_keys) states (first_fit (outs q) 0 j.left_keys (let r = s.1 q in omega arith))
derived_fits (merge m) ins outs zero states s n f =
    keyed_fits (outs 0) m.keys (get_keys m.keys 0) states
    (lies_fit (outs 0) (cols (get_keys m.keys 0)) (grow (cols (get_keys m.keys 0)) (get_or ins 0 0) (outs 0) (let a = s.first in let b = ap length s.master ∙ length-range_with 0 (get_or ins 0 0) in omega arith) (subst (Lies (cols (get_keys m.keys 0))) s.master s.keys_in)))
derived_fits (merge m) ins outs (suc i) states s n f = keyed_fits (outs (suc i)) m.keys (get_keys m.keys (suc i)) states (lies_fit (outs (suc i)) (cols (get_keys m.keys (suc i))) (s.other_keys i))
derived_fits (lookup k) ins outs zero states s n f =
    kept_fits (outs 0) (pairs_of k.main (all_columns (length k.main))) (first_state states).place (pairs_fit (outs 0) k.main (all_columns (length k.main)) (range_fit (outs 0) 0 (length k.main) (let a = s.1 in omega arith)))
derived_fits (lookup k) ins outs (suc q) states s n f = passed_fits ins (outs (suc q)) everything states f (s.2 q)
derived_fits (changecapture c) ins outs q states s n f =
    keyed_fits (outs q) (c.keys ∷ (c.keys ∷ [])) c.keys states
    (lies_fit (outs q) (cols c.keys) (grow (cols c.keys) (get_or ins 0 0) (outs q) (let a = s.2 q in let b = ap length s.0 ∙ length-range_with 0 (get_or ins 0 0) in omega arith) (subst (Lies (cols c.keys)) s.0 s.1)))
derived_fits funnel ins outs q states s n f = funnel_fits (outs q) ins states (s q) f
derived_fits funnel_sequence ins outs q states s n f = funnel_fits (outs q) ins states (s q) f
derived_fits (funnel_sort keys) ins outs q states s n f = funnel_fits (outs q) ins states (s q) f

pub route_fits : (seq : Bool) (r : Route) (w : ℕ) (s : State) → RouteFits w r → SpotFits w s.place → SpotFits w (routed_state seq r s).place
route_fits seq route.Same w s r f = f
route_fits true route.RoundRobin w s r f = tt
route_fits false route.RoundRobin w s r f = tt
route_fits seq route.Entire w s r f = tt
route_fits seq (route.Hash K) w s r f = r
route_fits seq (route.Modulus c) w s r f = r
route_fits seq route.Any w s r f = tt
route_fits seq route.Ordered w s r f = tt
route_fits seq (route.Merge keys) w s r f = tt

pub sort_fits : (sorts : Option (List Key)) (w : ℕ) (s : State) → SpotFits w s.place → SpotFits w (sorted_state sorts s).place
sort_fits None w s f = f
sort_fits (Some keys) w s f = f
