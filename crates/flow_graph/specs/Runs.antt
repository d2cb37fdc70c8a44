-- Flows as operators in an order in which links go forward, what they mean, and what a legal run of them is.
use Rattle.std.specs.Prelude.{◌≡◌, ℕ, suc, ◌+◌, ◌%◌, ◌<◌, ◌⊎◌, Bool, true, false, cond, List, [], ◌∷◌, ◌++◌, map, length, ⊤, Option, Some, None, get_or}
use Rattle.std.specs.List.{AllByRecursion, flat_map, range_with_len}
use Rattle.ds_schema.specs.declared.key.Key.{Key}
use Rattle.ds_schema.specs.Rows.{cols, ways, row_cmp}
use Rattle.op_base.specs.declared.fault.Fault.{Fault}
use Rattle.op_base.specs.Columns.{Row, IsIn, Lies, all_columns}
use Rattle.op_base.specs.Feeds.{by_runs}
use Rattle.op_base.specs.Keyed.{arranged}
use Rattle.op_base.specs.Lists.{joined, Interleaves, Merges, in_turn}
use Rattle.op_base.specs.Meanings.{Segment, input, one_row, group_rows, group_faults, join_rule, merge_rule, change_rule, columns_of, ways_of}
use Rattle.ds_place.specs.declared.place.Place.TheVariants as place
use Rattle.flow_graph.specs.declared.route.Route.{Route}
use Rattle.flow_graph.specs.declared.route.Route.TheVariants as route
use Rattle.flow_graph.specs.Destinations.{SentFrom}
use Rattle.flow_graph.specs.Forms.{form, sort_key}
use Rattle.flow_graph.specs.Operators.{Op, import, dsread, remdup, group, join, merge, changecapture, funnel, funnel_sort, result, faults}
use Rattle.ds_place.specs.Places.{place_number}
use Rattle.flow_graph.specs.Shapes.{IsShaped, HasPort, FitsPorts, KeysDistinct}

-- a link: the output that it leaves from, its number, how it goes, and whether its consumer is sequential
pub record Out : Type 0 where
  pub port : ℕ
  pub link : ℕ
  pub route : Route
  pub sequential : Bool

-- an operator: its number, the links at its inputs by port, and the links that leave it
pub record Node : Type 0 where
  pub number : ℕ
  pub op : Op
  pub ins : List ℕ
  pub outs : List Out

-- The whole list on each link is what its operator gives for the wholes of its inputs. No partition and no inserted sort is in this.
abbrev pub Means : (ℕ → List Row) → Node → Type 0
Means whole n = AllByRecursion (λ (o : Out). whole o.link ≡ result n.op o.port (map whole n.ins)) n.outs

-- partition p of each input
abbrev pub slice : ℕ → List (List (List Row)) → List (List Row)
slice p inputs = map (λ parts. get_or parts p []) inputs

-- what partition p of an operator puts on an output, of the lists that its ports have: by keys run by run, else as on whole lists
abbrev pub result_on : Op → ℕ → ℕ → List (List Row) → List Row
result_on (dsread segments declared) q p inputs = get_or (map (λ (s : Segment). s.rows) segments) p []
result_on (remdup last keys) q p inputs = by_runs (ways keys) (cols keys ∷ []) (λ v same. one_row last (input 0 same)) inputs
result_on (group g) q p inputs = cond g.hashes (result (group g) q inputs) (by_runs (ways g.keys) (cols g.keys ∷ []) (λ v same. group_rows g v (input 0 same)) inputs)
result_on (join j) q p inputs = by_runs (ways j.left_keys) (cols j.left_keys ∷ (cols j.right_keys ∷ [])) (join_rule j) inputs
result_on (merge m) q p inputs = by_runs (ways_of m.keys) (columns_of m.keys) (merge_rule m q) inputs
result_on (changecapture c) q p inputs = by_runs (ways c.keys) (cols c.keys ∷ (cols c.keys ∷ [])) (change_rule c) inputs
result_on op q p inputs = result op q inputs

abbrev pub faults_on : Op → ℕ → List (List Row) → List Fault
faults_on (dsread segments declared) p inputs = get_or (map (λ (s : Segment). s.faults) segments) p []
faults_on (group g) p inputs = cond g.hashes (faults (group g) inputs) (by_runs (ways g.keys) (cols g.keys ∷ []) (λ v same. group_faults g v (input 0 same)) inputs)
faults_on op p inputs = faults op inputs

-- partition p + i has an interleaving of its inputs, or the merge of them
abbrev pub Funnelled : ℕ → List (List (List Row)) → List (List Row) → Type 0
Funnelled p inputs [] = ⊤
Funnelled p inputs (rows ∷ sent) = Interleaves (slice p inputs) rows × Funnelled (suc p) inputs sent

abbrev pub Merged : List Key → ℕ → List (List (List Row)) → List (List Row) → Type 0
Merged keys p inputs [] = ⊤
Merged keys p inputs (rows ∷ sent) = Merges (row_cmp keys) (slice p inputs) rows × Merged keys (suc p) inputs sent

-- what the partitions of an operator put on an output
abbrev pub Gives : Op → ℕ → List (List (List Row)) → ℕ → List (List Row) → Type 0
Gives funnel q inputs degree sent = (length sent ≡ degree) × Funnelled 0 inputs sent
Gives (funnel_sort keys) q inputs degree sent = (length sent ≡ degree) × Merged keys 0 inputs sent
Gives op q inputs degree sent = sent ≡ map (λ p. result_on op q p (slice p inputs)) (range_with_len 0 degree)

-- what comes at the partitions of a consumer, sequential or not
abbrev pub Arrives : Bool → Route → List (List Row) → List (List Row) → Type 0
Arrives seq route.Same sent got = got ≡ sent
Arrives false route.RoundRobin sent got = SentFrom (λ p t r. (p + t) % length got) 0 sent got
Arrives true route.RoundRobin sent got = got ≡ in_turn sent ∷ []
Arrives seq route.Entire sent got = AllByRecursion (Interleaves sent) got
Arrives seq (route.Hash K) sent got = SentFrom (λ p t r. place_number (place.Hash K) r (length got)) 0 sent got
Arrives seq (route.Modulus c) sent got = SentFrom (λ p t r. place_number (place.Modulus c) r (length got)) 0 sent got
Arrives seq route.Any sent got = (rows : List Row) × (got ≡ rows ∷ []) × Interleaves sent rows
Arrives seq route.Ordered sent got = got ≡ joined sent ∷ []
Arrives seq (route.Merge keys) sent got = (rows : List Row) × (got ≡ rows ∷ []) × Merges (row_cmp keys) sent rows

abbrev pub arranged_if : Option (List Key) → List Row → List Row
arranged_if None rows = rows
arranged_if (Some keys) rows = arranged keys rows

-- what is sent comes by the route, and is sorted where a sort stands before the consumer
pub record Delivers (o : Out) (sort : Option (List Key)) (sent : List (List Row)) (got : List (List Row)) : Type 0 where
  pub mid : List (List Row)
  pub some : 0 < length mid
  pub arrives : Arrives o.sequential o.route sent mid
  pub sorted : got ≡ map (arranged_if sort) mid

abbrev pub FitsDegree : Op → ℕ → Type 0
FitsDegree (import lines rejects beyond) degree = degree ≡ 1
FitsDegree (dsread segments declared) degree = degree ≡ length segments
FitsDegree op degree = ⊤

-- the lists of a run: what each link's producer puts on it, what its consumer has from it, and each operator's faults, all by partition
pub record Lists : Type 0 where
  pub sent : ℕ → List (List Row)
  pub got : ℕ → List (List Row)
  pub failed : ℕ → List (List Fault)

-- a legal run, at one operator: on some number of partitions it gives what it gives of what it got, and that is delivered
pub record Runs (sorts : ℕ → Option (List Key)) (run : Lists) (n : Node) : Type 0 where
  pub degree : ℕ
  pub some : 0 < degree
  pub fits : FitsDegree n.op degree
  pub degrees : AllByRecursion (λ l. length (run.got l) ≡ degree) n.ins
  pub gives : AllByRecursion (λ (o : Out). Gives n.op o.port (map run.got n.ins) degree (run.sent o.link)) n.outs
  pub fails : run.failed n.number ≡ map (λ p. faults_on n.op p (slice p (map run.got n.ins))) (range_with_len 0 degree)
  pub comes : AllByRecursion (λ (o : Out). Delivers o (sorts o.link) (run.sent o.link) (run.got o.link)) n.outs

abbrev pub links : List Out → List ℕ
links [] = []
links (o ∷ outs) = o.link ∷ links outs

-- each operator's inputs come from operators before it
abbrev pub Forward : List ℕ → List Node → Type 0
Forward seen [] = ⊤
Forward seen (n ∷ nodes) = Lies n.ins seen × Forward (links n.outs ++ seen) nodes

-- an inserted sort is the one that the input needs
abbrev pub InsertedFrom : (ℕ → Option (List Key)) → Op → ℕ → List ℕ → Type 0
InsertedFrom sorts op i [] = ⊤
InsertedFrom sorts op i (l ∷ ins) = ((sorts l ≡ None) ⊎ (sorts l ≡ sort_key (form op) i)) × InsertedFrom sorts op (suc i) ins

-- the columns that a route names are columns of its link
abbrev pub RouteFits : ℕ → Route → Type 0
RouteFits width (route.Hash K) = Lies K (all_columns width)
RouteFits width (route.Modulus c) = IsIn c (all_columns width)
RouteFits width r = ⊤

-- an operator has the inputs and the shape that it must have, and the widths of its outputs are those of the links that leave it
abbrev pub FitsShape : (ℕ → ℕ) → Node → Type 0
FitsShape width n = (outs : ℕ → ℕ) × IsShaped n.op (map width n.ins) outs × FitsPorts n.op (length n.ins) × KeysDistinct n.op × AllByRecursion (λ (o : Out). (width o.link ≡ outs o.port) × HasPort n.op o.port × RouteFits (width o.link) o.route) n.outs

-- all faults of a run, and of the meaning
abbrev pub run_faults : Lists → List Node → List Fault
run_faults run nodes = flat_map (λ (n : Node). joined (run.failed n.number)) nodes

abbrev pub meant_faults : (ℕ → List Row) → List Node → List Fault
meant_faults whole nodes = flat_map (λ (n : Node). faults n.op (map whole n.ins)) nodes
