-- What is printed of link states, needs and grades, by the names of a link's columns.
use Rattle.std.specs.Prelude.{ℕ, Bool, true, false, cond, List, [], ◌∷◌, ◌++◌, length, get_or, codes, Option, Some, None}
use Rattle.std.specs.List.{flat_map}
use Rattle.ds_value.specs.declared.kind.Kind.TheVariants as kind
use Rattle.ds_schema.specs.declared.key.Key.{Key}
use Rattle.ds_schema.specs.declared.schema.Field.{Field}
use Rattle.op_base.specs.Columns.{all_columns, lies}
use Rattle.ds_place.specs.declared.place.Place.{Place}
use Rattle.ds_place.specs.declared.place.Place.TheVariants.{Hash, Modulus}
use Rattle.flow_graph.specs.declared.route.Route.{Route}
use Rattle.flow_graph.specs.declared.route.Route.TheVariants as route
use Rattle.flow_graph.specs.declared.state.State.{State}
use Rattle.flow_graph.specs.declared.state.Spot.{Spot}
use Rattle.flow_graph.specs.declared.state.Spot.TheVariants as spot
use Rattle.flow_graph.specs.Grades.{Grade, exact, by, bag}
use Rattle.flow_rules.specs.declared.need.Need.{Need}
use Rattle.flow_rules.specs.declared.need.Need.TheVariants.{NotEntire, Placed, Colocated, SamePlace, Agree, Sorted, MergeSort, Reference}

-- the texts of some things, with commas between them
abbrev pub comma_list : {X : Type 0} → (X → List ℕ) → List X → List ℕ
comma_list text [] = []
comma_list text (x ∷ xs) = text x ++ flat_map (λ y. codes "," ++ text y) xs

abbrev pub no_field : Field
no_field = record { name = []; nullable = false; kind = kind.Date }

abbrev pub column_name : List Field → ℕ → List ℕ
column_name fields c = (get_or fields c no_field).name

abbrev pub columns_text : List Field → List ℕ → List ℕ
columns_text fields cs = comma_list (column_name fields) cs

abbrev pub direction : Bool → List ℕ
direction true = codes " desc"
direction false = []

abbrev pub key_text : List Field → Key → List ℕ
key_text fields k = column_name fields k.col ++ direction k.desc

abbrev pub keys_text : List Field → List Key → List ℕ
keys_text fields keys = comma_list (key_text fields) keys

-- a word with something in brackets
abbrev pub bracketed : List ℕ → List ℕ → List ℕ
bracketed word inner = word ++ (codes "(" ++ (inner ++ codes ")"))

abbrev pub place_text : List Field → Place → List ℕ
place_text fields (Hash K) = bracketed (codes "hash") (columns_text fields K)
place_text fields (Modulus c) = bracketed (codes "modulus") (column_name fields c)

abbrev pub spot_text : List Field → Spot → List ℕ
spot_text fields spot.Solo = codes "solo"
spot_text fields (spot.Placed place) = place_text fields place
spot_text fields spot.Entire = codes "entire"
spot_text fields spot.None = codes "none"

-- no agree set, or one of all columns, is a bag; the columns of a set stand in their order
abbrev pub agree_text : List Field → Option (List ℕ) → List ℕ
agree_text fields None = codes "bag"
agree_text fields (Some G) = cond (lies (all_columns (length fields)) G) (codes "bag") (bracketed (codes "agree") (columns_text fields G))

abbrev pub state_text : List Field → State → List ℕ
state_text fields s = agree_text fields s.agree ++ (codes " " ++ (spot_text fields s.place ++ (codes " " ++ bracketed (codes "sort") (keys_text fields s.sort))))

abbrev pub need_text : List Field → Need → List ℕ
need_text fields NotEntire = codes "notentire"
need_text fields (Placed keys) = bracketed (codes "placed") (keys_text fields keys)
need_text fields (Colocated keys) = bracketed (codes "colocated") (keys_text fields keys)
need_text fields (SamePlace place) = codes "place " ++ spot_text fields place
need_text fields (Agree keys) = bracketed (codes "agree") (keys_text fields keys)
need_text fields (Sorted keys) = bracketed (codes "sort") (keys_text fields keys)
need_text fields (MergeSort keys) = bracketed (codes "mergesort") (keys_text fields keys)
need_text fields (Reference keys) = bracketed (codes "reference") (keys_text fields keys)

abbrev pub grade_text : List Field → Grade → List ℕ
grade_text fields exact = codes "exact"
grade_text fields (by G) = codes "by " ++ columns_text fields G
grade_text fields bag = codes "bag"

abbrev pub route_text : List Field → Route → List ℕ
route_text fields route.Same = codes "same"
route_text fields route.RoundRobin = codes "rr"
route_text fields route.Entire = codes "entire"
route_text fields (route.Hash K) = bracketed (codes "hash") (columns_text fields K)
route_text fields (route.Modulus c) = bracketed (codes "modulus") (column_name fields c)
route_text fields route.Any = codes "any"
route_text fields route.Ordered = codes "ordered"
route_text fields (route.Merge keys) = bracketed (codes "merge") (keys_text fields keys)
