-- What a hashed group keeps: a group for each key value, by the bytes of the value.
use Rattle.std.specs.Prelude.{◌≡◌, ℕ, Bool, false, List, map}
use Rattle.std.specs.Global.{Vec}
use Rattle.std.specs.List.{AllByRecursion, flat_map}
use Rattle.streams.specs.Streams.{Feed, ended, rows_of}
use Rattle.ds_value.specs.declared.value.Value.{Value}
use Rattle.ds_value.specs.Canonical.{canonical_bytes, IsHeld, IsShort}
use Rattle.ds_schema.specs.declared.key.Key.{Key}
use Rattle.ds_schema.specs.Rows.{cols, val, sub}
use Rattle.op_base.specs.Columns.{Row}
use Rattle.op_base.specs.Keyed.{seen}
use Rattle.op_group.specs.declared.agg.Agg.{Agg}
use Rattle.op_group.specs.declared.table.Group.{Group}
use Rattle.op_group.specs.Kept.{TallyStands}

-- the canonical bytes of a value tell it apart
abbrev pub IsTold : Value → Type 0
IsTold v = IsHeld v × IsShort v

-- a group of the rows that have its key values, under the bytes of these
pub record IsGroup (keys : List Key) (aggs : List Agg) (rows : List Row) (entry : Vec ℕ × Group) : Type 0 where
  pub bytes_are : entry.0.items ≡ flat_map canonical_bytes entry.1.values
  pub told : AllByRecursion IsTold entry.1.values
  pub tally : TallyStands aggs (sub (cols keys) entry.1.values rows) entry.1.tally

-- one for each key value of some rows, in the order of first rows
pub record AreGroups (keys : List Key) (aggs : List Agg) (entries : List (Vec ℕ × Group)) (rows : List Row) : Type 0 where
  pub values_are : map (λ (e : Vec ℕ × Group). e.1.values) entries ≡ seen (map (val (cols keys)) rows)
  pub each : AllByRecursion (IsGroup keys aggs rows) entries

-- until its port ends a GroupHashed has the groups of what it was fed
pub record HashedStands (keys : List Key) (aggs : List Agg) (over : Bool) (entries : List (Vec ℕ × Group)) (feeds : List (Feed Row)) : Type 0 where
  pub over_is : over ≡ ended 0 feeds
  pub groups_are : over ≡ false → AreGroups keys aggs entries (rows_of 0 feeds)
