-- Different names name different columns.
use Rattle.std.proofs.Common.{◌≡◌, ◌+◌, ◌∷◌, [], ◌||◌, ℕ, List, Bool, true, false, not, refl, sym, ◌∙◌, cond, arith}
use Rattle.std.specs.List.{AllByRecursion}
use Rattle.std.proofs.lemmas.Slice.Eq.{bytes_eq-Decides}
use Rattle.ds_schema.specs.declared.schema.Field.{Field}
use Rattle.ds_schema.specs.Rows.{KeysDiffer}
use Rattle.ds_schema.specs.declared.key.Key.{Key}
use Rattle.shape_base.specs.Naming.{is_named, has_column, has_keys, column, key_columns, NamesDiffer}
use Rattle.std.proofs.lemmas.Bool.{and_parts}

name_is : (name : List ℕ) (f : Field) → is_named name f ≡ true → f.name ≡ name
name_is name f h = (bytes_eq-Decides f.name name).0 h

same_by : (x y : Bool) (a b : List ℕ) (f : Field) (m n : ℕ) (r : Bool) → is_named a f ≡ x → is_named b f ≡ y → cond (not x) (1 + m) 0 ≡ cond (not y) (1 + n) 0 → (x || r) ≡ true → (r ≡ true → m ≡ n → a ≡ b) → a ≡ b
same_by true true a b f m n r p q e h go = sym (name_is a f p) ∙ name_is b f q
same_by true false a b f m n r p q e h go = absurd (omega arith)
same_by false true a b f m n r p q e h go = absurd (omega arith)
same_by false false a b f m n r p q e h go = go h (omega arith)

-- a column has one name
pub one_name : (fields : List Field) (a b : List ℕ) → has_column fields a ≡ true → column fields a ≡ column fields b → a ≡ b
one_name [] a b h e = cc
one_name (f ∷ fields) a b h e = same_by (is_named a f) (is_named b f) a b f (column fields a) (column fields b) (has_column fields a) refl refl e h (λ k y. one_name fields a b k y)

keys_apart : (fields : List Field) (k : List ℕ × Bool) (keys : List (List ℕ × Bool)) → has_column fields (k.0) ≡ true → AllByRecursion (λ (other : List ℕ × Bool). k.0 ≡ other.0 → ⊥) keys
    → AllByRecursion (λ (other : Key). column fields (k.0) ≡ other.col → ⊥) (key_columns fields keys)
keys_apart fields k [] h a = tt
keys_apart fields k (other ∷ keys) h a = ((λ e. a.0 (one_name fields (k.0) (other.0) h e)), keys_apart fields k keys h a.1)

pub keys_differ : (fields : List Field) (keys : List (List ℕ × Bool)) → has_keys fields keys ≡ true → NamesDiffer keys → KeysDiffer (key_columns fields keys)
keys_differ fields [] h d = tt
keys_differ fields (k ∷ keys) h d = let parts = and_parts (has_column fields (k.0)) (has_keys fields keys) h in (keys_apart fields k keys parts.0 d.0, keys_differ fields keys parts.1 d.1)
