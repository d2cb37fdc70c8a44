-- How the field at the front of a delimited line is read.
use Rattle.std.specs.Prelude.{◌≡◌, ◌≤◌, ◌<◌, ◌+◌, length, ◌==◌, ◌++◌, ℕ, List, [], ◌∷◌, Bool, true, false, Option, None, Some, not, if◌then◌else◌, take, drop}
use Rattle.std.specs.List.{prefix_len}
use Rattle.ds_value.specs.declared.kind.Kind.{Kind}
use Rattle.ds_value.specs.declared.value.Value.{Value}
use Rattle.ds_schema.specs.declared.schema.Field.{Field}
use Rattle.ds_text.specs.Records.{NullOr, Means}

-- the content of a quoted field, and what stands behind its closing quote; the flag says that a quote has just been passed
pub record Quoted : Type 0 where
  pub bytes : List ℕ
  pub rest : List ℕ

abbrev pub with_front : List ℕ → Option Quoted → Option Quoted
with_front xs None = None
with_front xs (Some q) = Some (record { bytes = xs ++ q.bytes; rest = q.rest })

abbrev pub unquoted : Bool → List ℕ → Option Quoted
unquoted false [] = None
unquoted true [] = Some (record { bytes = []; rest = [] })
unquoted false (b ∷ bs) = if b == 34 then unquoted true bs else with_front (b ∷ []) (unquoted false bs)
unquoted true (b ∷ bs) =
    if b == 34 then with_front (34 ∷ []) (unquoted false bs) else Some (record { bytes = []; rest = b ∷ bs })

abbrev pub begins_quoted : List ℕ → Bool
begins_quoted [] = false
begins_quoted (b ∷ bs) = b == 34

-- the next quote stands behind n bytes of content
abbrev pub HasPiece : List ℕ → ℕ → Type 0
HasPiece bytes n =
    (n < length bytes) × (unquoted false bytes ≡ with_front (take n bytes) (unquoted true (drop (n + 1) bytes)))

-- how many bytes stand before the delimiter
abbrev pub plain_len : ℕ → List ℕ → ℕ
plain_len d bytes = prefix_len (λ b. not (b == d)) bytes

-- the field at the front of a line, and what stands behind it
pub record Front : Type 0 where
  pub quoted : Bool
  pub bytes : List ℕ
  pub rest : List ℕ

abbrev pub ends_field : ℕ → List ℕ → Bool
ends_field d [] = true
ends_field d (b ∷ bs) = b == d

abbrev pub closed : ℕ → Option Quoted → Option Front
closed d None = None
closed d (Some q) =
    if ends_field d q.rest then Some (record { quoted = true; bytes = q.bytes; rest = q.rest }) else None

abbrev pub plain_front : ℕ → List ℕ → Front
plain_front d line =
    record { quoted = false; bytes = take (plain_len d line) line; rest = drop (plain_len d line) line }

abbrev pub front_of : ℕ → List ℕ → Option Front
front_of d [] = Some (plain_front d [])
front_of d (b ∷ bs) = if b == 34 then closed d (unquoted false bs) else Some (plain_front d (b ∷ bs))

abbrev pub FieldAt : ℕ → Field → List ℕ → Value → ℕ → Type 0
FieldAt d f line v n =
    (front : Front) × (front_of d line ≡ Some front) × (front.rest ≡ drop n line) × (n ≤ length line)
    × Means f front.quoted front.bytes v

abbrev pub NoField : ℕ → Field → List ℕ → Type 0
NoField d f line =
    (front : Front) → front_of d line ≡ Some front → (v : Value) → Means f front.quoted front.bytes v → ⊥

-- the text means no value
abbrev pub MeansNone : Bool → Kind → List ℕ → Type 0
MeansNone null k bytes = (v : Value) → NullOr null k bytes v → ⊥
