-- What a checker sees of an operator: which it is, its keys and the columns that pass, but no data.
use Rattle.std.specs.Prelude.{ℕ, zero, suc, Bool, cond, List, length, Option, Some, None}
use Rattle.ds_schema.specs.declared.key.Key.{Key}
use Rattle.op_base.specs.Columns.{Passing, everything, only, pairs_of, all_columns}
use Rattle.op_base.specs.Keyed.{get_keys}
use Rattle.op_base.specs.Meanings.{Looking}
use Rattle.ds_place.specs.declared.place.Place.{Place}
use Rattle.flow_graph.specs.Operators.{Op}
use Rattle.flow_graph.specs.Operators as op

-- dsread has its number of partitions and the declared place; an operator by rows what passes to each output;
-- group its keys, whether it has -hash, and whether it has a first or last result; joins, merge and lookup the keys of each input;
-- lookup also what passes of input 0
pub data Form : Type 0 where
  import : Form
  dsread : ℕ → Option Place → Form
  by_row : (ℕ → Passing) → Form
  tsort : List Key → Form
  remdup : List Key → Form
  group : List Key → Bool → Bool → Form
  join : List Key → List Key → Form
  merge : List (List Key) → Form
  lookup : List Key → List Key → (ℕ → Passing) → Form
  changecapture : List Key → Form
  funnel : Form
  funnel_sequence : Form
  funnel_sort : List Key → Form

-- main columns pass to their places among the first; a rejected row is as it was
abbrev pub looked_passing : Looking → ℕ → Passing
looked_passing k zero = only (pairs_of k.main (all_columns (length k.main)))
looked_passing k (suc q) = everything

abbrev pub form : Op → Form
form (op.import lines rejects beyond) = import
form (op.dsread segments declared) = dsread (length segments) declared
form (op.by_row rule) = by_row rule.passes
form (op.tsort keys) = tsort keys
form (op.remdup last keys) = remdup keys
form (op.group g) = group g.keys g.hashes g.sees_order
form (op.join j) = join j.left_keys j.right_keys
form (op.merge m) = merge m.keys
form (op.lookup k) = lookup k.main_keys k.reference_keys (looked_passing k)
form (op.changecapture c) = changecapture c.keys
form op.funnel = funnel
form op.funnel_sequence = funnel_sequence
form (op.funnel_sort keys) = funnel_sort keys

-- the keys by which input i must be sorted
abbrev pub sort_key : Form → ℕ → Option (List Key)
sort_key (remdup keys) i = Some keys
sort_key (group keys hashes sees_order) i = cond hashes None (Some keys)
sort_key (join left right) zero = Some left
sort_key (join left right) (suc i) = Some right
sort_key (merge keys) i = Some (get_keys keys i)
sort_key (changecapture keys) i = Some keys
sort_key (funnel_sort keys) i = Some keys
sort_key f i = None
