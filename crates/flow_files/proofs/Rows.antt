-- Rows that fit a schema.
use Rattle.std.proofs.Common.{◌≡◌, ◌<◌, ◌+◌, ℕ, zero, suc, true, false, Bool, List, [], ◌∷◌, ◌++◌, length, take, get_or, refl, sym, ap, subst, ◌∙◌, append_assoc, arith}
use Rattle.std.specs.Prelude.{◌&&◌}
use Rattle.std.specs.List.{All, AllByRecursion, flat_map}
use Rattle.std.proofs.lemmas.Grind.{flat_map-append}
use Rattle.std.proofs.lemmas.List.{append-nil, take_more}
use Rattle.ds_value.specs.Canonical.{IsShort}
use Rattle.ds_value.specs.declared.value.Value.{Value}
use Rattle.ds_value.specs.declared.value.Value.TheVariants.{Null, Int, UInt, Dec, Text, Date}
use Rattle.ds_value.proofs.CanonicalBytes.{fits_held}
use Rattle.ds_schema.specs.declared.schema.Field.{Field}
use Rattle.ds_schema.specs.Schemas.{IsField, fits_field, row_fits}
use Rattle.op_base.specs.Columns.{Row}
use Rattle.op_base.specs.declared.fault.Fault.{Fault}
use Rattle.flow_files.specs.declared.tally.Tally.{Tally}
use Rattle.flow_files.specs.Tallies.{Grows}
use Rattle.flow_files.proofs.Growing.{further}

and-left : (a b : Bool) → (a && b) ≡ true → a ≡ true
and-left true b e = refl
and-left false b e = absurd (cc)

and-right : (a b : Bool) → (a && b) ≡ true → b ≡ true
and-right true b e = e
and-right false b e = absurd (cc)

value_short : (f : Field) (v : Value) → IsField f → fits_field f v ≡ true → IsShort v
value_short f Null i e = tt
value_short f (Int z) i e = tt
value_short f (UInt n) i e = tt
value_short f (Dec z) i e = tt
value_short f (Text b) i e = (fits_held f.kind (Text b) i.1 e).1
value_short f (Date d) i e = tt

each_short : (fs : List Field) (vs : List Value) → AllByRecursion IsField fs → row_fits fs vs ≡ true → AllByRecursion IsShort vs
each_short [] [] i e = tt
each_short [] (v ∷ vs) i e = absurd (cc)
each_short (f ∷ fs) [] i e = absurd (cc)
each_short (f ∷ fs) (v ∷ vs) i e = (value_short f v i.0 (and-left (fits_field f v) (row_fits fs vs) e), each_short fs vs i.1 (and-right (fits_field f v) (row_fits fs vs) e))

all_of : {X : Type 0} (P : X → Type 0) (xs : List X) → AllByRecursion P xs → All P xs
all_of P [] a k d h = absurd (omega arith)
all_of P (x ∷ xs) a zero d h = a.0
all_of P (x ∷ xs) a (suc k) d h = all_of P xs a.1 k d (omega arith)

pub row_is_short : (fs : List Field) (vs : List Value) → AllByRecursion IsField fs → row_fits fs vs ≡ true → All IsShort vs
row_is_short fs vs i e = all_of IsShort vs (each_short fs vs i e)

one_more : {X Y : Type 0} (f : X → List Y) (xs : List X) (i : ℕ) (x : X) → i < length xs → x ≡ get_or xs i x → flat_map f (take (i + 1) xs) ≡ flat_map f (take i xs) ++ f x
one_more f xs i x h is = ap (flat_map f) (take_more xs i x h) ∙ flat_map-append f (take i xs) (get_or xs i x ∷ []) ∙ ap (λ l. flat_map f (take i xs) ++ l) (append-nil (f (get_or xs i x)) ∙ ap f (sym is))

-- a row more was written, and waits on the page or is in the sink
pub written_more : (f : Row → List ℕ) (rows : List Row) (i : ℕ) (row : Row) (held held_now held_new page page_put page_new : List ℕ) → i < length rows → row ≡ get_or rows i row
    → held_new ++ page_new ≡ held_now ++ page_put → page_put ≡ page ++ f row → held_now ++ page ≡ held ++ flat_map f (take i rows) → held_new ++ page_new ≡ held ++ flat_map f (take (i + 1) rows)
written_more f rows i row held held_now held_new page page_put page_new h is turn put was =
    turn ∙ ap (λ p. held_now ++ p) put ∙ sym (append_assoc held_now page (f row)) ∙ ap (λ l. l ++ f row) was ∙ append_assoc held (flat_map f (take i rows)) (f row)
    ∙ ap (λ l. held ++ l) (sym (one_more f rows i row h is))

-- the faults of a row more were tallied
pub tallied_more : (f : Row → List Fault) (rows : List Row) (i : ℕ) (row : Row) (a b c : Tally) → i < length rows → row ≡ get_or rows i row
    → Grows a b (flat_map f (take i rows)) → Grows b c (f row) → Grows a c (flat_map f (take (i + 1) rows))
tallied_more f rows i row a b c h is g k = subst (Grows a c) (sym (one_more f rows i row h is)) (further a b c (flat_map f (take i rows)) (f row) g k)
