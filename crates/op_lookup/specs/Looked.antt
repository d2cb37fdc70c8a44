-- Lookup as a stream, and the rows that suit it.
use Rattle.std.specs.Prelude.{ℕ, ◌==◌, nat_lt, Bool, false, not, ◌&&◌, List, ◌++◌, length, map, take}
use Rattle.std.specs.List.{filter, flat_map, list_all}
use Rattle.streams.specs.Streams.{Feed, Out, sends, fails, rows_of}
use Rattle.streams.specs.Operators.{lookup_stream}
use Rattle.ds_value.specs.Canonical.{canonical_bytes}
use Rattle.ds_schema.specs.declared.key.Key.{Key}
use Rattle.ds_schema.specs.Rows.{val, sub}
use Rattle.op_base.specs.declared.fault.Fault.{Fault}
use Rattle.op_base.specs.declared.fault.FaultKind.TheVariants as kind
use Rattle.op_base.specs.declared.missing.Missing.{Missing}
use Rattle.op_base.specs.Columns.{Row, all_columns, is_in, is_short}
use Rattle.op_base.specs.Meanings.{Looking, looked_row, looked_fault}
use Rattle.op_base.specs.Standing.{RowStream}

-- the columns below a width that a key doesn't name, in order
abbrev pub others_of : List ℕ → ℕ → List ℕ
others_of key width = filter (λ c. not (is_in c key)) (all_columns width)

-- the fault of a main row whose key has no reference row, with the first 64 of its canonical bytes; who runs the operator puts its number
abbrev pub missing_fault : Row → Fault
missing_fault a = record { op = 0; kind = kind.Missing; place = 0; bytes = take 64 (flat_map canonical_bytes a) }

-- columns as ascending keys
abbrev pub keys_on : List ℕ → List Key
keys_on cs = map (λ c. record { col = c; desc = false }) cs

-- lookup by these columns of main rows of so many values, in a reference of this width
abbrev pub looking : ℕ → List ℕ → List ℕ → ℕ → Missing → Looking
looking values main reference width missing = record {
  main_keys = keys_on main;
  reference_keys = keys_on reference;
  main = all_columns values;
  others = others_of reference width;
  missing = missing;
  fault = missing_fault;
}

-- what a main row gives to outputs 0 and 1, and its fault, with the reference rows that have its key values; all its own values come first
abbrev pub looked : Looking → Row → List Row → List (Out Row Fault)
looked k a found = map (sends 0) (looked_row k 0 a found) ++ (map (sends 1) (looked_row k 1 a found) ++ map fails (looked_fault k a found))

-- each main row at once, in the reference that came before it
abbrev pub looked_stream : List ℕ → List ℕ → ℕ → Missing → RowStream
looked_stream main reference width missing = lookup_stream (λ a rows. looked (looking (length a) main reference width missing) a (sub reference (val main a) rows))

-- a main row has the key's columns
abbrev pub suits_main : List ℕ → Row → Bool
suits_main main a = list_all (λ c. nat_lt c (length a)) main && list_all is_short a

-- a reference row has the reference's width
abbrev pub suits_reference : ℕ → Row → Bool
suits_reference width b = (length b == width) && list_all is_short b

abbrev pub suits_lookup : List ℕ → ℕ → List (Feed Row) → Bool
suits_lookup main width feeds = list_all (suits_main main) (rows_of 0 feeds) && list_all (suits_reference width) (rows_of 1 feeds)
