-- A flow with what was found of its shape, and its operators and links as a graph.
use Rattle.std.specs.Prelude.{ℕ, zero, suc, Bool, true, false, if◌then◌else◌, ◌||◌, ◌==◌, List, [], ◌∷◌, length, map, get_or, Option, Some, None}
use Rattle.std.specs.List.{filter, range_with_len, list_any}
use Rattle.ds_schema.specs.declared.key.Key.{Key}
use Rattle.ds_schema.specs.declared.schema.Field.{Field}
use Rattle.op_base.specs.Columns.{Passing, everything, only, pairs_of, all_columns}
use Rattle.op_base.specs.Keyed.{get_keys}
use Rattle.op_base.specs.RowOperators.{transform_passes}
use Rattle.flow_graph.specs.declared.flow.Flow.{Flow}
use Rattle.flow_graph.specs.declared.flow.LinkSpec.{LinkSpec}
use Rattle.flow_graph.specs.declared.flow.OpSpec.{OpSpec}
use Rattle.flow_graph.specs.declared.flow.Mark.{Mark}
use Rattle.flow_graph.specs.declared.flow.Mark.TheVariants as mark
use Rattle.flow_graph.specs.declared.flow.Method.TheVariants as method
use Rattle.flow_graph.specs.declared.flow.Flag.TheVariants as flag
use Rattle.flow_graph.specs.declared.op_kind.OpKind.{OpKind}
use Rattle.flow_graph.specs.declared.op_kind.OpKind.TheVariants as kind
use Rattle.flow_graph.specs.declared.op_kind.AggSpec.{AggSpec}
use Rattle.flow_graph.specs.declared.op_kind.AggSpec.TheVariants as agg
use Rattle.flow_graph.specs.declared.parts.OpParts.{OpParts}
use Rattle.flow_graph.specs.declared.parts.Stored.{Stored}
use Rattle.flow_graph.specs.declared.route.Route.{Route}
use Rattle.flow_graph.specs.Forms.{Form, import, dsread, by_row, tsort, remdup, group, join, merge, lookup, changecapture, funnel, funnel_sequence, funnel_sort}

-- the schema and the written route of each link; the parts of each operator, and for a dsread its data set; an order of the operators in which links go forward
pub record Chart : Type 0 where
  pub flow : Flow
  pub schemas : List (List Field)
  pub parts : List OpParts
  pub written : List (Option Route)
  pub order : List ℕ
  pub stored : List (Option Stored)

abbrev pub no_link : LinkSpec
no_link = record { from = 0; out = 0; to = 0; port = 0; method = method.Auto; flag = flag.Prop }

abbrev pub link_at : Chart → ℕ → LinkSpec
link_at c l = get_or c.flow.links l no_link

abbrev pub all_links : Chart → List ℕ
all_links c = range_with_len 0 (length c.flow.links)

-- the number of columns of a link
abbrev pub width_at : Chart → ℕ → ℕ
width_at c l = length (get_or c.schemas l [])

-- the links into an operator, by port, and those that leave it
abbrev pub links_into : Chart → ℕ → List ℕ
links_into c o = filter (λ l. (link_at c l).to == o) (all_links c)

abbrev pub links_from : Chart → ℕ → List ℕ
links_from c o = filter (λ l. (link_at c l).from == o) (all_links c)

abbrev pub no_op : OpSpec
no_op = record { kind = kind.Copy; mark = mark.Seq }

abbrev pub op_at : Chart → ℕ → OpSpec
op_at c o = get_or c.flow.ops o no_op

abbrev pub is_seq : Mark → Bool
is_seq mark.Seq = true
is_seq mark.Par = false
is_seq mark.Stored = false

-- whether a link's consumer is sequential
abbrev pub into_seq : Chart → ℕ → Bool
into_seq c l = is_seq (op_at c (link_at c l).to).mark

abbrev pub no_parts : OpParts
no_parts = record { keys = []; cols = []; exprs = [] }

abbrev pub parts_of : Chart → ℕ → OpParts
parts_of c o = get_or c.parts o no_parts

abbrev pub keys_at : Chart → ℕ → List (List Key)
keys_at c o = (parts_of c o).keys

abbrev pub cols_at : Chart → ℕ → List ℕ
cols_at c o = (parts_of c o).cols

-- the columns of input 0, and their number
abbrev pub first_fields : Chart → ℕ → List Field
first_fields c o = get_or c.schemas (get_or (links_into c o) 0 0) []

abbrev pub first_width : Chart → ℕ → ℕ
first_width c o = width_at c (get_or (links_into c o) 0 0)

-- results that see the order of a group's rows
abbrev pub sees_order : AggSpec → Bool
sees_order (agg.First new old) = true
sees_order (agg.Last new old) = true
sees_order a = false

abbrev pub stored_form : Option Stored → Form
stored_form None = dsread 0 None
stored_form (Some s) = dsread s.partitions s.place

-- a lookup's main columns stand first in its rows; a rejected row is as it was
abbrev pub main_passes : ℕ → ℕ → Passing
main_passes width zero = only (pairs_of (all_columns width) (all_columns width))
main_passes width (suc q) = everything

abbrev pub funnel_form : Bool → List Key → Form
funnel_form true keys = funnel_sequence
funnel_form false [] = funnel
funnel_form false (k ∷ keys) = funnel_sort (k ∷ keys)

-- what a checker sees of an operator: its keys by input, its columns, its data set and the width of input 0
abbrev pub kind_form : OpKind → List (List Key) → List ℕ → Option Stored → ℕ → Form
kind_form (kind.Import file schema delim fixed reject) keys cols stored width = import
kind_form (kind.Export file delim fixed) keys cols stored width = by_row (λ q. only [])
kind_form (kind.Dsread ds) keys cols stored width = stored_form stored
kind_form (kind.Dswrite ds) keys cols stored width = by_row (λ q. only [])
kind_form kind.Copy keys cols stored width = by_row (λ q. everything)
kind_form (kind.Filter test reject) keys cols stored width = by_row (λ q. everything)
kind_form (kind.Transform set reject) keys cols stored width = by_row (transform_passes width cols)
kind_form (kind.Modify keep drop rename) keys cols stored width = by_row (λ q. only (pairs_of cols (all_columns (length cols))))
kind_form (kind.Switch on cases reject) keys cols stored width = by_row (λ q. everything)
kind_form (kind.Tsort key) keys cols stored width = tsort (get_keys keys 0)
kind_form (kind.Remdup key last) keys cols stored width = remdup (get_keys keys 0)
kind_form (kind.Group key hash results) keys cols stored width = group (get_keys keys 0) hash (list_any sees_order results)
kind_form (kind.InnerJoin key) keys cols stored width = join (get_keys keys 0) (get_keys keys 1)
kind_form (kind.LeftOuterJoin key) keys cols stored width = join (get_keys keys 0) (get_keys keys 1)
kind_form (kind.RightOuterJoin key) keys cols stored width = join (get_keys keys 0) (get_keys keys 1)
kind_form (kind.FullOuterJoin key) keys cols stored width = join (get_keys keys 0) (get_keys keys 1)
kind_form (kind.Merge key keepbad reject) keys cols stored width = merge keys
kind_form (kind.Lookup key missing) keys cols stored width = lookup (get_keys keys 0) (get_keys keys 1) (main_passes width)
kind_form (kind.Changecapture key values keepcopy) keys cols stored width = changecapture (get_keys keys 0)
kind_form (kind.Funnel sequence sort) keys cols stored width = funnel_form sequence (get_keys keys 0)

abbrev pub form_at : Chart → ℕ → Form
form_at c o = kind_form (op_at c o).kind (keys_at c o) (cols_at c o) (get_or c.stored o None) (first_width c o)
