-- The table of the reference: what is kept of the first row of each key, by the bytes of the key.
use Rattle.std.specs.Prelude.{ℕ, Bool, if◌then◌else◌, Option, Some, None, List, [], ◌∷◌, ◌++◌}
use Rattle.std.specs.List.{flat_map}
use Rattle.std.specs.Str.{bytes_eq}
use Rattle.streams.specs.Streams.{Out, sends, fails}
use Rattle.ds_value.specs.Canonical.{canonical_bytes}
use Rattle.ds_schema.specs.Rows.{val}
use Rattle.op_base.specs.declared.fault.Fault.{Fault}
use Rattle.op_base.specs.declared.missing.Missing.{Missing}
use Rattle.op_base.specs.declared.missing.Missing.TheVariants as missing
use Rattle.op_base.specs.Columns.{Row, no_row}
use Rattle.op_lookup.specs.Looked.{missing_fault}

-- the canonical bytes of a row's values in some columns, one value after another
abbrev pub key_of : List ℕ → Row → List ℕ
key_of cs r = flat_map canonical_bytes (val cs r)

-- what is kept stays; otherwise a row is kept if it has the key
abbrev pub or_kept : Option Row → Bool → Row → Option Row
or_kept (Some old) has_key r = Some old
or_kept None has_key r = if has_key then Some r else None

-- the others of the first row that has a key
abbrev pub first_others : List ℕ → List ℕ → List ℕ → List Row → Option Row
first_others reference others key [] = None
first_others reference others key (r ∷ rows) = if bytes_eq key (key_of reference r) then Some (val others r) else first_others reference others key rows

-- what a main row gives where its key has no reference row
abbrev pub if_missing : Missing → List ℕ → Row → List (Out Row Fault)
if_missing missing.Continue others a = sends 0 (a ++ val others no_row) ∷ []
if_missing missing.Drop others a = []
if_missing missing.Fail others a = fails (missing_fault a) ∷ []
if_missing missing.Reject others a = sends 1 a ∷ []

-- what a main row gives with what is kept of its key
abbrev pub given : Missing → List ℕ → Row → Option Row → List (Out Row Fault)
given missing others a (Some b) = sends 0 (a ++ b) ∷ []
given missing others a None = if_missing missing others a
