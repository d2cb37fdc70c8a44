-- What an assignment gives fits its field.
use Rattle.std.proofs.Common.{◌≡◌, ◌≤◌, ◌+◌, ◌-◌, ◌^◌, ◌*ℤ◌, ℕ, ℤ, pos, negsuc, List, Result, Ok, Err, Bool, true, false, length, length-append, refl, ap, subst, ◌∙◌, arith}
use Rattle.std.specs.Prelude.{nat_le, if◌then◌else◌, replicate}
use Rattle.std.proofs.lemmas.Bool.{leb-true, eq-eqb}
use Rattle.std.proofs.lemmas.List.{length-replicate}
use Rattle.ds_value.specs.declared.kind.Kind.{Kind}
use Rattle.ds_value.specs.declared.kind.Kind.TheVariants as kind
use Rattle.ds_value.specs.declared.value.Value.{Value}
use Rattle.ds_value.specs.declared.value.Value.TheVariants as value
use Rattle.ds_value.specs.Kinds.{fits_kind}
use Rattle.ds_value.specs.Spellings.{filled}
use Rattle.ds_schema.specs.declared.schema.Field.{Field}
use Rattle.ds_schema.specs.Schemas.{fits_field}
use Rattle.expr_table.specs.declared.entry.Shape.TheVariants as shape
use Rattle.expr_table.specs.declared.arg.Arg.{Arg}
use Rattle.expr_table.specs.declared.arg.Arg.TheVariants.{Null, Num, Text, Date, Truth}
use Rattle.expr_table.specs.declared.arg.EvalFault.{EvalFault}
use Rattle.expr_table.specs.declared.arg.EvalFault.TheVariants.{Overflow, NullUsed, TooLong}
use Rattle.ds_expr.specs.Assigning.{Assignable, assigned, assigned_number, assigned_text, can_assign, fitting, text_of_kind}

abbrev Valued : Type 0
Valued = Result Value EvalFault

given : (a b : Value) → (let r : Valued = Ok a in r) ≡ Ok b → a ≡ b
given a b e = cc

-- a value of a kind fits a field of that kind
of_kind : (f : Field) (v : Value) → fits_kind f.kind v ≡ true → fits_field f v ≡ true
of_kind f value.Null e = absurd (no_null f.kind e)
  where
    no_null : (k : Kind) → fits_kind k value.Null ≡ true → ⊥
    no_null (kind.Int bits) g = cc
    no_null (kind.UInt bits) g = cc
    no_null (kind.Dec p s) g = cc
    no_null (kind.Text max fixed) g = cc
    no_null kind.Date g = cc
of_kind f (value.Int z) e = e
of_kind f (value.UInt n) e = e
of_kind f (value.Dec z) e = e
of_kind f (value.Text b) e = e
of_kind f (value.Date d) e = e

fitting_fits : (k : Kind) (w v : Value) → fitting k w ≡ Ok v → fits_kind k v ≡ true
fitting_fits k w v e = go (fits_kind k w) refl e
  where
    go : (b : Bool) → fits_kind k w ≡ b → (let r : Valued = if b then Ok w else Err Overflow in r) ≡ Ok v → fits_kind k v ≡ true
    go true f g = subst (λ u. fits_kind k u ≡ true) (given w v g) f
    go false f g = absurd cc

number_fits : (k : Kind) (s : ℕ) (z : ℤ) (v : Value) → assigned_number k s z ≡ Ok v → fits_kind k v ≡ true
number_fits (kind.Int bits) s z v e = fitting_fits (kind.Int bits) (value.Int z) v e
number_fits (kind.UInt bits) s (pos n) v e = fitting_fits (kind.UInt bits) (value.UInt n) v e
number_fits (kind.UInt bits) s (negsuc n) v e = absurd cc
number_fits (kind.Dec p places) s z v e = fitting_fits (kind.Dec p places) (value.Dec (z *ℤ pos (10 ^ (places - s)))) v e
number_fits (kind.Text max fixed) s z v e = absurd cc
number_fits kind.Date s z v e = absurd cc

length_filled : (max : ℕ) (b : List ℕ) → length b ≤ max → length (filled max b) ≡ max
length_filled max b h = length-append b (replicate (max - length b) 32) ∙ ap (λ n. length b + n) (length-replicate (max - length b) 32) ∙ omega arith

of_length : (max : ℕ) (fixed : Bool) (b : List ℕ) → nat_le (length b) max ≡ true → fits_kind (kind.Text max fixed) (value.Text (text_of_kind fixed max b)) ≡ true
of_length max true b h = eq-eqb (length (filled max b)) max (length_filled max b (leb-true (length b) max h))
of_length max false b h = h

text_fits : (k : Kind) (b : List ℕ) (v : Value) → assigned_text k b ≡ Ok v → fits_kind k v ≡ true
text_fits (kind.Text max fixed) b v e = go (nat_le (length b) max) refl e
  where
    go : (t : Bool) → nat_le (length b) max ≡ t → (let r : Valued = if t then Ok (value.Text (text_of_kind fixed max b)) else Err TooLong in r) ≡ Ok v → fits_kind (kind.Text max fixed) v ≡ true
    go true f g = subst (λ u. fits_kind (kind.Text max fixed) u ≡ true) (given (value.Text (text_of_kind fixed max b)) v g) (of_length max fixed b f)
    go false f g = absurd cc
text_fits (kind.Int bits) b v e = absurd cc
text_fits (kind.UInt bits) b v e = absurd cc
text_fits (kind.Dec p s) b v e = absurd cc
text_fits kind.Date b v e = absurd cc

date_fits : (k : Kind) (s : ℕ) (v : Value) → can_assign shape.Date s k ≡ true → fits_kind kind.Date v ≡ true → fits_kind k v ≡ true
date_fits kind.Date s v e f = f
date_fits (kind.Int bits) s v e f = absurd cc
date_fits (kind.UInt bits) s v e f = absurd cc
date_fits (kind.Dec p places) s v e f = absurd cc
date_fits (kind.Text max fixed) s v e f = absurd cc

null_fits : (b : Bool) (v : Value) → (let r : Valued = if b then Ok value.Null else Err NullUsed in r) ≡ Ok v → (b ≡ true) × (value.Null ≡ v)
null_fits true v e = (refl, given value.Null v e)
null_fits false v e = absurd cc

pub assigned_fits : (f : Field) (s : ℕ) (a : Arg) (v : Value) → Assignable f.kind s a → assigned f s a ≡ Ok v → fits_field f v ≡ true
assigned_fits f s Null v h e = let n = null_fits f.nullable v e in subst (λ u. fits_field f u ≡ true) n.1 n.0
assigned_fits f s (Num z) v h e = of_kind f v (number_fits f.kind s z v e)
assigned_fits f s (Text b) v h e = of_kind f v (text_fits f.kind b v e)
assigned_fits f s (Date d) v h e = subst (λ u. fits_field f u ≡ true) (given (value.Date d) v e) (of_kind f (value.Date d) (date_fits f.kind s (value.Date d) h.0 h.1))
assigned_fits f s (Truth b) v h e = absurd h
