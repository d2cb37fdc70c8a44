-- Inputs that are alike, and the fields of merges and changes.
use Rattle.std.proofs.Common.{◌≡◌, ◌<◌, ◌≤◌, ◌+◌, ◌++◌, ◌∷◌, [], not, ℕ, zero, suc, List, Bool, true, None, refl, ap, ◌∙◌, arith, length, map, take, get_or, inl, append-nil, append_assoc, sym}
use Rattle.std.specs.List.{AllByRecursion, flat_map, list_all}
use Rattle.std.proofs.lemmas.List.{map-append}
use Rattle.std.proofs.lemmas.Bool.{and_parts}
use Rattle.ds_schema.specs.declared.schema.Field.{Field}
use Rattle.ds_schema.specs.Schemas.{IsField}
use Rattle.op_base.proofs.All.{all_append}
use Rattle.shape_base.specs.declared.fault.ShapeWhy.TheVariants as why
use Rattle.shape_base.specs.Causes.{cause_if, first_cause}
use Rattle.shape_base.specs.Fields.{first_fields}
use Rattle.shape_base.specs.Naming.{has_keys}
use Rattle.shape_base.specs.Widths.{fields_cause}
use Rattle.shape_base.proofs.Firsts.{none_head}
use Rattle.shape_base.proofs.Held.{held}
use Rattle.shape_base.proofs.Lists.{take_next}
use Rattle.keyed_shape.specs.Matched.{capture_causes, capture_fields, code_field, inputs_cause, master_field, merge_causes, merge_fields, merge_output, schemas_cause, values_cause}

-- ---- lists of inputs

all_at : {X Y : Type 0} (p : Y → Bool) (f : X → Y) (xs : List X) (i : ℕ) (x : X) → list_all p (map f xs) ≡ true → i < length xs → x ≡ get_or xs i x → p (f x) ≡ true
all_at p f [] i x h l e = absurd (omega arith)
all_at p f (y ∷ xs) zero x h l e = ap (λ z. p (f z)) e ∙ (and_parts (p (f y)) (list_all p (map f xs)) h).0
all_at p f (y ∷ xs) (suc i) x h l e = all_at p f xs i x (and_parts (p (f y)) (list_all p (map f xs)) h).1 (omega arith) e

-- each input has the keys, where nothing is wrong with them
pub inputs_have : {X : Type 0} (f : X → List Field) (key : List (List ℕ × Bool)) (ins : List X) (i : ℕ) (x : X) → inputs_cause key (map f ins) ≡ None → i < length ins → x ≡ get_or ins i x → has_keys (f x) key ≡ true
inputs_have f key ins i x e l at =
    let have = list_all (λ fields. has_keys fields key) (map f ins) in
    all_at (λ fields. has_keys fields key) f ins i x (held have why.Field (none_head (cause_if (not have) why.Field) _ e).0) l at

mapped_at : {X Y : Type 0} (f : X → Y) (xs : List X) (i : ℕ) (d : Y) (x : X) → i < length xs → x ≡ get_or xs i x → f x ≡ get_or (map f xs) i d
mapped_at f [] i d x l e = absurd (omega arith)
mapped_at f (y ∷ xs) zero d x l e = ap f e
mapped_at f (y ∷ xs) (suc i) d x l e = mapped_at f xs i d x (omega arith) e

mapped_beyond : {X Y : Type 0} (f : X → Y) (xs : List X) (i : ℕ) (d : Y) → length xs ≤ i → d ≡ get_or (map f xs) i d
mapped_beyond f [] i d l = refl
mapped_beyond f (y ∷ xs) zero d l = absurd (omega arith)
mapped_beyond f (y ∷ xs) (suc i) d l = mapped_beyond f xs i d (omega arith)

-- ---- merge

flat_next : (F : List Field → List Field) (xs : List (List Field)) (x : List Field) → flat_map F (xs ++ x ∷ []) ≡ flat_map F xs ++ F x
flat_next F [] x = append-nil (F x)
flat_next F (y ∷ xs) x = ap (λ fs. F y ++ fs) (flat_next F xs x) ∙ sym (append_assoc (F y) (flat_map F xs) (F x))

-- one more update
pub updates_next : {X : Type 0} (F : List Field → List Field) (f : X → List Field) (xs : List X) (i : ℕ) (x : X) (before old new : List Field) → i < length xs → x ≡ get_or xs i x → old ≡ before ++ flat_map F (map f (take i xs)) → new ≡ old ++ F (f x) → new ≡ before ++ flat_map F (map f (take (i + 1) xs))
updates_next F f xs i x before old new l at inv add =
    add ∙ (ap (λ fs. fs ++ F (f x)) inv ∙ (append_assoc before (flat_map F (map f (take i xs))) (F (f x)) ∙ ap (λ fs. before ++ fs)
    (sym (flat_next F (map f (take i xs)) (f x)) ∙ (ap (flat_map F) (sym (map-append f (take i xs) (x ∷ []))) ∙ ap (λ ys. flat_map F (map f ys)) (sym (take_next xs i x l at))))))

pub masters_each : (key : List (List ℕ × Bool)) (updates : List (List Field)) (master : List Field) → AllByRecursion IsField master → AllByRecursion IsField (map (master_field key updates) master)
masters_each key updates [] a = tt
masters_each key updates (f ∷ master) a = (a.0, masters_each key updates master a.1)

pub merge_made : (key : List (List ℕ × Bool)) (keepbad : Bool) (ins : List (List Field)) → first_cause (merge_causes key keepbad ins) ≡ None → fields_cause (merge_fields key keepbad ins) ≡ None
merge_made key keepbad ins e = (none_head (fields_cause (merge_fields key keepbad ins)) [] (none_head (inputs_cause key ins) _ e).1).0

rejected_is : (key : List (List ℕ × Bool)) (keepbad : Bool) (ins : List (List Field)) (out : ℕ) → 0 < out → get_or ins out (first_fields ins) ≡ merge_output key keepbad ins out
rejected_is key keepbad ins zero l = absurd (omega arith)
rejected_is key keepbad ins (suc q) l = refl

pub rejected_at : {X : Type 0} (f : X → List Field) (key : List (List ℕ × Bool)) (keepbad : Bool) (ins : List X) (out : ℕ) (x : X) → 0 < out → out < length ins → x ≡ get_or ins out x → f x ≡ merge_output key keepbad (map f ins) out
rejected_at f key keepbad ins out x some l e = mapped_at f ins out (first_fields (map f ins)) x l e ∙ rejected_is key keepbad (map f ins) out some

pub rejected_beyond : {X : Type 0} (f : X → List Field) (key : List (List ℕ × Bool)) (keepbad : Bool) (ins : List X) (out : ℕ) → 0 < out → length ins ≤ out → first_fields (map f ins) ≡ merge_output key keepbad (map f ins) out
rejected_beyond f key keepbad ins out some l = mapped_beyond f ins out (first_fields (map f ins)) l ∙ rejected_is key keepbad (map f ins) out some

-- ---- changecapture

code_is : IsField code_field
code_is = (record { short = omega arith; begun = refl; each = refl }, inl refl)

pub capture_each : (fields : List Field) → AllByRecursion IsField fields → AllByRecursion IsField (capture_fields fields)
capture_each fields a = all_append IsField fields (code_field ∷ []) a (code_is, tt)

pub capture_made : (key : List (List ℕ × Bool)) (values : List (List ℕ)) (ins : List (List Field)) → first_cause (capture_causes key values ins) ≡ None → fields_cause (capture_fields (first_fields ins)) ≡ None
capture_made key values ins e =
    let keys = none_head (inputs_cause key ins) _ e in
    let named = none_head (values_cause values ins) _ keys.1 in
    let same = none_head (schemas_cause ins) _ named.1 in
    (none_head (fields_cause (capture_fields (first_fields ins))) [] same.1).0
