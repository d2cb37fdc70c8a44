-- The shape of a flow, and what stands first where it has none.
use Rattle.std.specs.Prelude.{ℕ, ◌≡◌, ◌<◌, ◌++◌, ◌⊎◌, List, [], ◌∷◌, length, map, get_or, find, Option, Some, None}
use Rattle.std.specs.List.{AllByRecursion, range_with_len}
use Rattle.std.specs.Str.{bytes_eq}
use Rattle.ds_schema.specs.declared.schema.Field.{Field}
use Rattle.flow_graph.specs.Charts.{Chart, link_at, all_links, links_into, op_at, is_seq}
use Rattle.flow_graph.specs.declared.flow.Flow.{Flow}
use Rattle.flow_graph.specs.declared.flow.OpSpec.{OpSpec}
use Rattle.flow_graph.specs.declared.op_kind.OpKind.{OpKind}
use Rattle.flow_graph.specs.declared.op_kind.OpKind.TheVariants as kind
use Rattle.flow_graph.specs.declared.parts.OpParts.{OpParts}
use Rattle.flow_graph.specs.declared.parts.Stored.{Stored}
use Rattle.flow_graph.specs.declared.route.Route.{Route}
use Rattle.flow_shape.specs.declared.fault.ShapeFault.{ShapeFault}
use Rattle.flow_shape.specs.declared.fault.ShapeFault.TheVariants as fault
use Rattle.shape_base.specs.declared.fault.ShapeWhy.{ShapeWhy}
use Rattle.shape_base.specs.declared.fault.ShapeWhy.TheVariants as why
use Rattle.shape_base.specs.Causes.{first_cause}
use Rattle.flow_shape.specs.Lowest.{IsLowest, HasNone}
use Rattle.flow_shape.specs.Files.{Clashes}
use Rattle.flow_shape.specs.Links.{OnCycle, IsOrder, IsWhole}
use Rattle.flow_shape.specs.Methods.{method_cause, written_route}
use Rattle.op_shape.specs.Options.{IsKnown, option_causes, output_causes, output_fields, operator_parts}
use Rattle.flow_shape.specs.Ports.{WrongPorts}

abbrev pub HasOnlyKnown : Flow → Type 0
HasOnlyKnown flow = AllByRecursion (λ (o : OpSpec). IsKnown o.kind) flow.ops

-- a flow whose links have these fields, where nothing else is known yet
abbrev pub chart_of : Flow → List (List Field) → Chart
chart_of flow schemas = record { flow = flow; schemas = schemas; parts = []; written = []; order = []; stored = [] }

abbrev pub kind_at : Chart → ℕ → OpKind
kind_at c o = (op_at c o).kind

abbrev pub fields_at : Chart → ℕ → List Field
fields_at c l = get_or c.schemas l []

-- the fields of an operator's inputs, by port
abbrev pub inputs_at : Chart → ℕ → List (List Field)
inputs_at c o = map (fields_at c) (links_into c o)

abbrev pub input_cause : Chart → ℕ → ℕ → Option ShapeWhy
input_cause c o l = method_cause (is_seq (op_at c o).mark) (fields_at c l) (link_at c l).method

-- the first cause at an operator: at its input methods by port, at its options, at its outputs
abbrev pub operator_cause : Chart → ℕ → Option ShapeWhy
operator_cause c o = first_cause (map (input_cause c o) (links_into c o) ++ (option_causes (kind_at c o) (inputs_at c o) ++ output_causes (kind_at c o) (inputs_at c o)))

-- what a link's producer gives on it
abbrev pub given_on : Chart → ℕ → List Field
given_on c l = output_fields (kind_at c (link_at c l).from) (inputs_at c (link_at c l).from) (link_at c l).out

-- nothing is wrong at an operator, and the links that leave it have the fields that it gives
pub record Fits (c : Chart) (o : ℕ) : Type 0 where
  pub sound : operator_cause c o ≡ None
  pub gives : (l : ℕ) → l < length c.flow.links → (link_at c l).from ≡ o → fields_at c l ≡ given_on c l

abbrev pub all_ops : Chart → List ℕ
all_ops c = range_with_len 0 (length c.flow.ops)

abbrev pub parts_at : Chart → ℕ → OpParts
parts_at c o = operator_parts (kind_at c o) (inputs_at c o)

abbrev pub written_at : Chart → ℕ → Option Route
written_at c l = written_route (fields_at c l) (link_at c l).method

-- the data set that an operator reads
abbrev pub stored_for : List Stored → OpKind → Option Stored
stored_for dict (kind.Dsread ds) = find (λ (s : Stored). bytes_eq s.name ds) dict
stored_for dict k = None

abbrev pub stored_at : List Stored → Chart → ℕ → Option Stored
stored_at dict c o = stored_for dict (kind_at c o)

-- each link has a schema, and each operator fits
pub record AllFit (c : Chart) : Type 0 where
  pub each_link : length c.schemas ≡ length c.flow.links
  pub fits : (o : ℕ) → o < length c.flow.ops → Fits c o

-- the shape of a flow: the flow as it is, and what its names stand for
pub record IsShapeOf (flow : Flow) (dict : List Stored) (c : Chart) : Type 0 where
  pub same : c.flow ≡ flow
  pub ports : HasNone (length flow.ops) (WrongPorts flow)
  pub order : IsOrder (length flow.ops) flow.links c.order
  pub whole : IsWhole (length flow.ops) c.order
  pub schemas : AllFit c
  pub parts : c.parts ≡ map (parts_at c) (all_ops c)
  pub written : c.written ≡ map (written_at c) (all_links c)
  pub stored : c.stored ≡ map (stored_at dict c) (all_ops c)
  pub files : HasNone (length flow.ops) (Clashes flow.ops)

-- the operators before this one in the order fit, and this is the first cause at it
pub record FirstFault (flow : Flow) (cause : ShapeWhy) (o : ℕ) : Type 0 where
  pub order : List ℕ
  pub is_order : IsOrder (length flow.ops) flow.links order
  pub before : List ℕ
  pub behind : List ℕ
  pub place : order ≡ before ++ o ∷ behind
  pub schemas : List (List Field)
  pub fit : AllByRecursion (Fits (chart_of flow schemas)) before
  pub stands : operator_cause (chart_of flow schemas) o ≡ Some cause

-- the first fault of a flow: the lowest operator with wrong ports, else the lowest on a cycle, else the first in topological order that doesn't fit, else the lowest that writes a name that clashes
abbrev pub Refuses : Flow → ShapeWhy → ℕ → Type 0
Refuses flow cause o =
    let n = length flow.ops in
    ((cause ≡ why.Ports) × IsLowest n (WrongPorts flow) o)
    ⊎ (((cause ≡ why.Cycle) × HasNone n (WrongPorts flow) × IsLowest n (OnCycle flow.links) o)
    ⊎ ((HasNone n (WrongPorts flow) × HasNone n (OnCycle flow.links) × FirstFault flow cause o)
    ⊎ ((cause ≡ why.Files) × HasNone n (WrongPorts flow) × HasNone n (OnCycle flow.links) × ((schemas : List (List Field)) × AllFit (chart_of flow schemas)) × IsLowest n (Clashes flow.ops) o)))

-- a fault that isn't want of memory is the first of those that stand at an operator
abbrev pub IsFirstFault : Flow → ShapeFault → Type 0
IsFirstFault flow fault.Memory = Unit {0}
IsFirstFault flow (fault.Bad cause o) = FirstFault flow cause o

-- a fault that isn't want of memory is the first of the flow
abbrev pub IsFirst : Flow → ShapeFault → Type 0
IsFirst flow fault.Memory = Unit {0}
IsFirst flow (fault.Bad cause o) = Refuses flow cause o
