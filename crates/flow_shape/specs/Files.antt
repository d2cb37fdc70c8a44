-- The names that a flow reads and writes, and which of them clash.
use Rattle.std.specs.Prelude.{ℕ, ◌≡◌, ◌==◌, ◌<◌, Bool, true, false, ◌&&◌, ◌||◌, nat_lt, nat_le, List, [], ◌∷◌, length, take, drop, get_or, Option, Some, None, codes}
use Rattle.std.specs.List.{take_while}
use Rattle.std.specs.Str.{bytes_eq}
use Rattle.flow_graph.specs.Charts.{no_op}
use Rattle.flow_graph.specs.declared.flow.OpSpec.{OpSpec}
use Rattle.flow_graph.specs.declared.op_kind.OpKind.{OpKind}
use Rattle.flow_graph.specs.declared.op_kind.OpKind.TheVariants as kind

abbrev pub is_digit : ℕ → Bool
is_digit b = nat_le 48 b && nat_le b 57

abbrev pub is_empty : List ℕ → Bool
is_empty bytes = length bytes == 0

abbrev pub begins_dot : List ℕ → Bool
begins_dot [] = false
begins_dot (b ∷ bytes) = b == 46

abbrev pub is_part : List ℕ → Bool
is_part bytes = bytes_eq bytes (codes ".part")

abbrev pub digits_len : List ℕ → ℕ
digits_len bytes = length (take_while is_digit bytes)

-- digits, and nothing or `.part` behind them
abbrev pub is_number : List ℕ → Bool
is_number bytes = nat_lt 0 (digits_len bytes) && (is_empty (drop (digits_len bytes) bytes) || is_part (drop (digits_len bytes) bytes))

-- what may be added to a name: `.part`, `.` with digits, or both
abbrev pub is_ending : List ℕ → Bool
is_ending bytes = is_part bytes || (begins_dot bytes && is_number (drop 1 bytes))

-- whether the second name is the first with such an ending
abbrev pub extends : List ℕ → List ℕ → Bool
extends name other = bytes_eq (take (length name) other) name && is_ending (drop (length name) other)

abbrev pub names_clash : List ℕ → List ℕ → Bool
names_clash a b = bytes_eq a b || (extends a b || extends b a)

-- the name that an operator writes
abbrev pub written_name : OpKind → Option (List ℕ)
written_name (kind.Export file delim fixed) = Some file
written_name (kind.Dswrite ds) = Some ds
written_name k = None

-- the name that an operator reads or writes
abbrev pub outer_name : OpKind → Option (List ℕ)
outer_name (kind.Import file schema delim fixed reject) = Some file
outer_name (kind.Export file delim fixed) = Some file
outer_name (kind.Dsread ds) = Some ds
outer_name (kind.Dswrite ds) = Some ds
outer_name k = None

abbrev pub both_clash : Option (List ℕ) → Option (List ℕ) → Bool
both_clash None b = false
both_clash (Some a) None = false
both_clash (Some a) (Some b) = names_clash a b

-- an operator writes a name that clashes with the name of another one
abbrev pub Clashes : List OpSpec → ℕ → Type 0
Clashes ops o = (j : ℕ) × (j < length ops) × (j ≡ o → ⊥) × (both_clash (written_name (get_or ops o no_op).kind) (outer_name (get_or ops j no_op).kind) ≡ true)
