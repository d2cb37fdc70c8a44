-- A number for each row, by which its first key is mostly told apart: where two rows' numbers differ, the rows lie in that order.
use Rattle.std.specs.Prelude.{◌≡◌, ℕ, zero, suc, ◌+◌, ◌-◌, ◌*◌, ◌^◌, ◌==◌, min, ℤ, pos, neg_ℤ, ◌+ℤ◌, int_lt, unsigned_abs, if◌then◌else◌, List, [], ◌∷◌, get_or}
use Rattle.std.specs.List.{AllByRecursion}
use Rattle.std.specs.Ordering.{nat_cmp, ordering_then}
use Rattle.std.specs.declared.cmp.Ordering.{Ordering}
use Rattle.ds_value.specs.declared.value.Value.{Value}
use Rattle.ds_value.specs.declared.value.Value.TheVariants.{Null, Int, UInt, Dec, Text, Date}
use Rattle.ds_value.specs.Values.{variant}
use Rattle.ds_schema.specs.declared.key.Key.{Key}
use Rattle.ds_schema.specs.Rows.{at, row_cmp}
use Rattle.op_order.specs.declared.marked.Marked.{Marked}

-- a number between -2^60 and 2^60 exactly, another as the nearest of these
abbrev pub number_mark : ℤ → ℕ
number_mark z = if int_lt z (neg_ℤ (pos (2 ^ 60))) then 0 else if int_lt z (pos (2 ^ 60)) then unsigned_abs (z +ℤ pos (2 ^ 60)) else 2 ^ 61 - 1

-- a byte of a text; behind a byte of 255 each counts as 255
abbrev pub next_digit : ℕ → ℕ → ℕ
next_digit before byte = if before == 255 then 255 else min byte 255

-- n bytes of a text from the i-th on, as digits of a number; past the end they are 0
abbrev pub text_digits : ℕ → ℕ → ℕ → List ℕ → ℕ
text_digits zero before i bytes = 0
text_digits (suc n) before i bytes = next_digit before (get_or bytes i 0) * 256 ^ n + text_digits n (next_digit before (get_or bytes i 0)) (suc i) bytes

abbrev pub content_mark : Value → ℕ
content_mark Null = 0
content_mark (Int z) = number_mark z
content_mark (UInt n) = number_mark (pos n)
content_mark (Dec z) = number_mark z
content_mark (Text b) = text_digits 7 0 0 b
content_mark (Date z) = number_mark z

abbrev pub value_mark : Value → ℕ
value_mark v = variant v * 2 ^ 61 + content_mark v

-- of the first key, the other way round where it descends
abbrev pub key_mark : List Key → List Value → ℕ
key_mark [] row = 0
key_mark (key ∷ keys) row = if key.desc then 2 ^ 64 - 1 - value_mark (at row key.col) else value_mark (at row key.col)

-- by the marks, and where they tie by the rows
abbrev pub marked_cmp : List Key → Marked → Marked → Ordering
marked_cmp keys a b = ordering_then (nat_cmp a.mark b.mark) (row_cmp keys a.row b.row)

abbrev pub AreMarked : List Key → List Marked → Type 0
AreMarked keys rows = AllByRecursion (λ (m : Marked). m.mark ≡ key_mark keys m.row) rows

abbrev pub rows_in : List Marked → List (List Value)
rows_in [] = []
rows_in (m ∷ rows) = m.row ∷ rows_in rows
