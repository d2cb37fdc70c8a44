-- The rows that a hash route takes suit the place by that hash.
use Rattle.std.proofs.Common.{ℕ, List, All}
use Rattle.std.proofs.lemmas.List.Elements.{All-weaker}
use Rattle.op_base.specs.Columns.{Row}
use Rattle.ds_place.specs.declared.place.Place.TheVariants.{Hash, Modulus}
use Rattle.flow_graph.specs.declared.route.Route.TheVariants as route
use Rattle.list_run.specs.Routed.{SuitsRoute, SuitsPlace}

pub modulus_suits : (c : ℕ) (sent : List (List Row)) → All (All (SuitsRoute (route.Modulus c))) sent → All (All (SuitsPlace (Modulus c))) sent
modulus_suits c sent h = h

pub hash_suits : (K : List ℕ) (sent : List (List Row)) → All (All (SuitsRoute (route.Hash K))) sent → All (All (SuitsPlace (Hash K))) sent
hash_suits K sent h = All-weaker (All (SuitsRoute (route.Hash K))) (All (SuitsPlace (Hash K))) (λ rows. All-weaker (SuitsRoute (route.Hash K)) (SuitsPlace (Hash K)) (λ r s. (s.0, tt, s.1)) rows) sent h
