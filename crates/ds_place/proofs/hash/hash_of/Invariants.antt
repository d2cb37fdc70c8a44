use Rattle.std.proofs.Common.{◌≡◌, take}
use Rattle.std.specs.List.{flat_map}
use Rattle.ds_value.specs.Canonical.{canonical_bytes}
use Rattle.ds_schema.specs.Rows.{val}
use Rattle.ds_place.specs.Places.{hash_on}
use Rattle.ds_place.proofs.hash.hash_of.Given as goal

abbrev pub invariant-loop-column : goal.invariant-loop-column
invariant-loop-column l = l.hash ≡ hash_on 0xcbf29ce484222325 (flat_map canonical_bytes (val (take l.column-index l.columns) l.row))
