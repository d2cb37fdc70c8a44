-- Where a method may stand, what is wrong with it, and the route that it writes.
use Rattle.std.specs.Prelude.{ℕ, Bool, true, false, not, ◌||◌, List, [], ◌∷◌, Option, Some, None}
use Rattle.std.specs.List.{list_all}
use Rattle.ds_value.specs.declared.kind.Kind.{Kind}
use Rattle.ds_value.specs.declared.kind.Kind.TheVariants as kind
use Rattle.ds_schema.specs.declared.schema.Field.{Field}
use Rattle.flow_graph.specs.declared.flow.Method.{Method}
use Rattle.flow_graph.specs.declared.flow.Method.TheVariants as method
use Rattle.flow_graph.specs.declared.route.Route.{Route}
use Rattle.flow_graph.specs.declared.route.Route.TheVariants as route
use Rattle.shape_base.specs.declared.fault.ShapeWhy.{ShapeWhy}
use Rattle.shape_base.specs.declared.fault.ShapeWhy.TheVariants as why
use Rattle.shape_base.specs.Causes.{cause_if, first_cause}
use Rattle.shape_base.specs.Naming.{is_named, has_column, has_columns, has_keys, column, columns, key_columns, NamesDiffer}

-- whether a method may stand on a link into a sequential operator, or into a parallel one
abbrev pub may_stand : Bool → Method → Bool
may_stand seq method.Auto = true
may_stand seq method.Same = true
may_stand seq method.RoundRobin = true
may_stand seq method.Entire = not seq
may_stand seq (method.Hash names) = not seq
may_stand seq (method.Modulus name) = not seq
may_stand seq method.Any = seq
may_stand seq method.Ordered = seq
may_stand seq (method.Merge keys) = seq

-- whether a link has the columns that its method names
abbrev pub all_named : List Field → Method → Bool
all_named fields (method.Hash names) = has_columns fields names
all_named fields (method.Modulus name) = has_column fields name
all_named fields (method.Merge keys) = has_keys fields keys
all_named fields m = true

abbrev pub is_whole : Kind → Bool
is_whole (kind.Int bits) = true
is_whole (kind.UInt bits) = true
is_whole k = false

-- no field of that name is of another kind
abbrev pub is_whole_column : List Field → List ℕ → Bool
is_whole_column fields name = list_all (λ (f : Field). not (is_named name f) || is_whole f.kind) fields

-- a modulus column is of a whole kind
abbrev pub kinds_suit : List Field → Method → Bool
kinds_suit fields (method.Modulus name) = is_whole_column fields name
kinds_suit fields m = true

-- what is wrong with the method of a link with this schema
abbrev pub method_cause : Bool → List Field → Method → Option ShapeWhy
method_cause seq fields m = first_cause (cause_if (not (may_stand seq m)) why.Method ∷ (cause_if (not (all_named fields m)) why.Field ∷ (cause_if (not (kinds_suit fields m)) why.Kind ∷ [])))

abbrev pub written_route : List Field → Method → Option Route
written_route fields method.Auto = None
written_route fields method.Same = Some route.Same
written_route fields method.RoundRobin = Some route.RoundRobin
written_route fields method.Entire = Some route.Entire
written_route fields (method.Hash names) = Some (route.Hash (columns fields names))
written_route fields (method.Modulus name) = Some (route.Modulus (column fields name))
written_route fields method.Any = Some route.Any
written_route fields method.Ordered = Some route.Ordered
written_route fields (method.Merge keys) = Some (route.Merge (key_columns fields keys))

-- the keys that a method names differ
abbrev pub MethodDiffers : Method → Type 0
MethodDiffers (method.Merge keys) = NamesDiffer keys
MethodDiffers m = Unit {0}
