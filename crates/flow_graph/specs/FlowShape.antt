-- What is asked of a shaped flow: its lists have one member for each link or operator, links go forward in its order, and columns and routes stand where they may.
use Rattle.std.specs.Prelude.{◌≡◌, ℕ, ◌<◌, ◌≤◌, ◌^◌, Bool, true, false, List, [], ◌∷◌, ◌++◌, length, get_or, ⊤, Option, Some, None}
use Rattle.std.specs.List.{AllByRecursion, range_with_len}
use Rattle.std.specs.List.Sorted.{IsPermutation}
use Rattle.ds_schema.specs.Rows.{cols, KeysDiffer}
use Rattle.ds_schema.specs.Schemas.{IsSchema}
use Rattle.op_base.specs.Columns.{IsIn, Lies, all_columns}
use Rattle.op_base.specs.Keyed.{get_keys}
use Rattle.flow_graph.specs.declared.op_kind.OpKind.{OpKind}
use Rattle.flow_graph.specs.declared.op_kind.OpKind.TheVariants as kind
use Rattle.flow_graph.specs.declared.route.Route.{Route}
use Rattle.flow_graph.specs.declared.route.Route.TheVariants as route
use Rattle.flow_graph.specs.Charts.{Chart, link_at, width_at, links_into, links_from, op_at, into_seq, keys_at, cols_at, parts_of, first_fields, first_width, form_at}
use Rattle.flow_graph.specs.Forms.{Form, import, dsread, by_row, tsort, remdup, group, join, merge, lookup, changecapture, funnel, funnel_sequence, funnel_sort}
use Rattle.flow_graph.specs.RowRules.{ExprsFit}
use Rattle.flow_graph.specs.Runs.{RouteFits}
use Rattle.flow_graph.specs.Shapes.{DeclaredFits}

-- in the order of the operators, the links into each leave operators before it
abbrev pub ForwardOrder : Chart → List ℕ → List ℕ → Type 0
ForwardOrder c seen [] = ⊤
ForwardOrder c seen (o ∷ order) = Lies (links_into c o) seen × ForwardOrder c (links_from c o ++ seen) order

-- the order has the producer of each link
abbrev pub CoversLinks : Chart → Type 0
CoversLinks c = (l : ℕ) → l < length c.flow.links → IsIn (link_at c l).from c.order

-- the links into an operator stand in the order of its ports
abbrev pub PortsInOrder : Chart → ℕ → Type 0
PortsInOrder c o = (i : ℕ) → i < length (links_into c o) → (link_at c (get_or (links_into c o) i 0)).port ≡ i

-- one member for each link, or for each operator
pub record HasLists (c : Chart) : Type 0 where
  pub schemas : length c.schemas ≡ length c.flow.links
  pub written : length c.written ≡ length c.flow.links
  pub parts : length c.parts ≡ length c.flow.ops
  pub stored : length c.stored ≡ length c.flow.ops

-- each operator once, behind those that feed it
pub record IsOrder (c : Chart) : Type 0 where
  pub once : IsPermutation (range_with_len 0 (length c.flow.ops)) c.order
  pub forward : ForwardOrder c [] c.order

-- which routes lead into a sequential operator, and which into another
abbrev pub may_stand : Bool → Route → Bool
may_stand seq route.Same = true
may_stand seq route.RoundRobin = true
may_stand true route.Any = true
may_stand true route.Ordered = true
may_stand true (route.Merge keys) = true
may_stand true r = false
may_stand false route.Entire = true
may_stand false (route.Hash columns) = true
may_stand false (route.Modulus column) = true
may_stand false r = false

-- a written route stands where it may, and its columns are the link's
abbrev pub WrittenFits : Bool → ℕ → Option Route → Type 0
WrittenFits seq width None = ⊤
WrittenFits seq width (Some (route.Merge keys)) = (seq ≡ true) × Lies (cols keys) (all_columns width)
WrittenFits seq width (Some r) = (may_stand seq r ≡ true) × RouteFits width r

-- a merge has an output for each of its inputs
abbrev pub FormHasPort : Form → ℕ → Type 0
FormHasPort (merge keys) q = q < length keys
FormHasPort f q = ⊤

-- a stored data set has a partition, and its declared place lies in its columns
abbrev pub FormFills : Form → ℕ → Type 0
FormFills (dsread partitions declared) width = (0 < partitions) × DeclaredFits width declared
FormFills f width = ⊤

-- a link between operators of the flow
pub record LinkFits (c : Chart) (l : ℕ) : Type 0 where
  pub from : (link_at c l).from < length c.flow.ops
  pub to : (link_at c l).to < length c.flow.ops
  pub schema : IsSchema (get_or c.schemas l [])
  pub width : width_at c l ≤ 256
  pub out : FormHasPort (form_at c (link_at c l).from) (link_at c l).out
  pub filled : FormFills (form_at c (link_at c l).from) (width_at c l)
  pub written : WrittenFits (into_seq c l) (width_at c l) (get_or c.written l None)

-- the number of inputs
abbrev pub FormPorts : Form → ℕ → Type 0
FormPorts import n = n ≡ 0
FormPorts (dsread partitions declared) n = n ≡ 0
FormPorts (by_row passes) n = n ≡ 1
FormPorts (tsort keys) n = n ≡ 1
FormPorts (remdup keys) n = n ≡ 1
FormPorts (group keys hashes sees_order) n = n ≡ 1
FormPorts (join left right) n = n ≡ 2
FormPorts (merge keys) n = (0 < n) × (length keys ≡ n)
FormPorts (lookup main reference passes) n = n ≡ 2
FormPorts (changecapture keys) n = n ≡ 2
FormPorts funnel n = 0 < n
FormPorts funnel_sequence n = 0 < n
FormPorts (funnel_sort keys) n = 0 < n

-- an operator's columns are those of input 0, but those that a transform sets, which are its output's
abbrev pub ColumnsLie : Chart → ℕ → OpKind → Type 0
ColumnsLie c o (kind.Transform set reject) = (l : ℕ) → IsIn l (links_from c o) → (link_at c l).out ≡ 0 → Lies (cols_at c o) (all_columns (width_at c l))
ColumnsLie c o k = Lies (cols_at c o) (all_columns (first_width c o))

-- a modify keeps no more columns than a record may have
abbrev pub FewKept : OpKind → List ℕ → Type 0
FewKept (kind.Modify keep drop rename) columns = length columns ≤ 256
FewKept k columns = ⊤

-- an operator of the flow
pub record OpFits (c : Chart) (o : ℕ) : Type 0 where
  pub ports : PortsInOrder c o
  pub inputs : FormPorts (form_at c o) (length (links_into c o))
  pub keys : (i : ℕ) → i < length (links_into c o) → Lies (cols (get_keys (keys_at c o) i)) (all_columns (width_at c (get_or (links_into c o) i 0)))
  pub keys_differ : AllByRecursion KeysDiffer (keys_at c o)
  pub columns : ColumnsLie c o (op_at c o).kind
  pub few_kept : FewKept (op_at c o).kind (cols_at c o)
  pub exprs : ExprsFit (first_fields c o) (op_at c o).kind (parts_of c o)

pub record IsShape (c : Chart) : Type 0 where
  pub few_ops : length c.flow.ops < 2 ^ 32
  pub few_links : length c.flow.links < 2 ^ 32
  pub lists : HasLists c
  pub order : IsOrder c
  pub links : (l : ℕ) → l < length c.flow.links → LinkFits c l
  pub ops : (o : ℕ) → o < length c.flow.ops → OpFits c o
