-- Fields that are set stand in their places or behind the last, and keep the columns of the others.
use Rattle.std.proofs.Common.{◌≡◌, ◌≤◌, ◌<◌, ◌+◌, ◌++◌, ◌∷◌, [], ◌||◌, not, ℕ, suc, List, Bool, true, false, cond, refl, sym, ap, subst, ◌∙◌, arith, length, set, get_or, drop, length-set, length-append, inl, inr}
use Rattle.std.specs.List.{AllByRecursion, list_any}
use Rattle.std.proofs.lemmas.List.{drop_more}
use Rattle.std.specs.Str.{bytes_eq}
use Rattle.std.proofs.lemmas.Bool.{and_from, eq-eqb, ne_eqb, or_parts, cases_lt}
use Rattle.std.proofs.lemmas.Slice.Eq.{bytes_eq-Decides}
use Rattle.op_base.specs.Columns.{Lies, all_columns}
use Rattle.ds_schema.specs.declared.schema.Field.{Field}
use Rattle.flow_graph.specs.declared.op_kind.SetSpec.{SetSpec}
use Rattle.op_row.specs.Expressed.{AreTargets, width_after, width_with}
use Rattle.op_shape.specs.Columns.{put_field, set_fields, set_names, set_columns, is_among, stand_twice}
use Rattle.shape_base.specs.Naming.{is_named, has_column, has_columns, column, columns}
use Rattle.shape_base.proofs.Held.{names_lie}
use Rattle.shape_base.proofs.Keys.{one_name}

same_name : (a b : List ℕ) → a ≡ b → bytes_eq a b ≡ true
same_name a b e = (bytes_eq-Decides a b).1 e

-- ---- a field that is put

set_by : (x : Bool) (new f : Field) (fields put : List Field) (m : ℕ) → (m < length fields → put ≡ set fields m new) → cond (not x) (1 + m) 0 < suc (length fields)
    → cond x (new ∷ fields) (f ∷ put) ≡ set (f ∷ fields) (cond (not x) (1 + m) 0) new
set_by true new f fields put m go h = refl
set_by false new f fields put m go h = let e : 1 + m ≡ suc m = omega arith in rw e (ap (λ xs. f ∷ xs) (go (omega (arith, h))))

pub put_set : (new : Field) (fields : List Field) → column fields new.name < length fields → put_field new fields ≡ set fields (column fields new.name) new
put_set new [] h = absurd (omega arith)
put_set new (f ∷ fields) h = set_by (is_named new.name f) new f fields (put_field new fields) (column fields new.name) (put_set new fields) h

behind_by : (x : Bool) (new f : Field) (fields put : List Field) (m : ℕ) → (length fields ≤ m → put ≡ fields ++ new ∷ []) → suc (length fields) ≤ cond (not x) (1 + m) 0
    → cond x (new ∷ fields) (f ∷ put) ≡ f ∷ (fields ++ new ∷ [])
behind_by true new f fields put m go h = absurd (omega arith)
behind_by false new f fields put m go h = ap (λ xs. f ∷ xs) (go (omega (arith, h)))

pub put_behind : (new : Field) (fields : List Field) → length fields ≤ column fields new.name → put_field new fields ≡ fields ++ new ∷ []
put_behind new [] h = refl
put_behind new (f ∷ fields) h = behind_by (is_named new.name f) new f fields (put_field new fields) (column fields new.name) (put_behind new fields) h

most_by : (x : Bool) (m n : ℕ) → m ≤ n → cond (not x) (1 + m) 0 ≤ suc n
most_by true m n h = omega arith
most_by false m n h = omega arith

pub column_most : (fields : List Field) (name : List ℕ) → column fields name ≤ length fields
column_most [] name = omega arith
column_most (f ∷ fields) name = most_by (is_named name f) (column fields name) (length fields) (column_most fields name)

pub put_length : (new : Field) (fields : List Field) → length (put_field new fields) ≡ width_with (length fields) (column fields new.name)
put_length new fields = elim (cases_lt (column fields new.name) (length fields)) [
  | inl lt ↦ ap length (put_set new fields lt) ∙ (length-set fields (column fields new.name) new ∙ sym (ap (λ b. cond b (suc (length fields)) (length fields)) (ne_eqb (column fields new.name) (length fields) (λ e. absurd (omega (arith, e, lt))))))
  | inr ge ↦
      let end : column fields new.name ≡ length fields = (let most = column_most fields new.name in omega (arith, most, ge)) in
      ap length (put_behind new fields ge) ∙ (length-append fields (new ∷ []) ∙ ((let one : length fields + 1 ≡ suc (length fields) = omega arith in one) ∙ sym (ap (λ b. cond b (suc (length fields)) (length fields)) (eq-eqb (column fields new.name) (length fields) end))))
]

-- ---- names among fields that one is put to

has_put_by : (x : Bool) (new f : Field) (fields put : List Field) (name : List ℕ) → is_named new.name f ≡ x → (has_column fields name ≡ true → has_column put name ≡ true) → (is_named name f || has_column fields name) ≡ true
    → has_column (cond x (new ∷ fields) (f ∷ put)) name ≡ true
has_put_by true new f fields put name e go h = let same : f.name ≡ new.name = (bytes_eq-Decides f.name new.name).0 e in subst (λ n. (bytes_eq n name || has_column fields name) ≡ true) same h
has_put_by false new f fields put name e go h = or_by (is_named name f) (has_column fields name) (has_column put name) go h
  where
    or_by : (y r s : Bool) → (r ≡ true → s ≡ true) → (y || r) ≡ true → (y || s) ≡ true
    or_by true r s go h = refl
    or_by false r s go h = go h

pub has_put : (new : Field) (fields : List Field) (name : List ℕ) → has_column fields name ≡ true → has_column (put_field new fields) name ≡ true
has_put new [] name h = cc
has_put new (f ∷ fields) name h = has_put_by (is_named new.name f) new f fields (put_field new fields) name refl (has_put new fields name) h

new_by : (x : Bool) (new f : Field) (fields put : List Field) → has_column put new.name ≡ true → is_named new.name f ≡ x → has_column (cond x (new ∷ fields) (f ∷ put)) new.name ≡ true
new_by true new f fields put h e = ap (λ b. b || has_column fields new.name) (same_name new.name new.name refl)
new_by false new f fields put h e = ap (λ b. b || has_column put new.name) e ∙ h

pub has_new : (new : Field) (fields : List Field) → has_column (put_field new fields) new.name ≡ true
has_new new [] = ap (λ b. b || false) (same_name new.name new.name refl)
has_new new (f ∷ fields) = new_by (is_named new.name f) new f fields (put_field new fields) (has_new new fields) refl

-- its columns stay
keep_by : (x y : Bool) (new f : Field) (fields put : List Field) (name : List ℕ) → is_named new.name f ≡ x → is_named name f ≡ y → (y || has_column fields name) ≡ true
    → (has_column fields name ≡ true → column put name ≡ column fields name) → column (cond x (new ∷ fields) (f ∷ put)) name ≡ cond (not y) (1 + column fields name) 0
keep_by true y new f fields put name e w h go =
    let same : f.name ≡ new.name = (bytes_eq-Decides f.name new.name).0 e in
    let there : bytes_eq new.name name ≡ y = subst (λ n. bytes_eq n name ≡ y) same w in
    ap (λ b. cond (not b) (1 + column fields name) 0) there
keep_by false true new f fields put name e w h go = ap (λ b. cond (not b) (1 + column put name) 0) w
keep_by false false new f fields put name e w h go = ap (λ b. cond (not b) (1 + column put name) 0) w ∙ ap (λ m. 1 + m) (go h)

pub column_stays : (new : Field) (fields : List Field) (name : List ℕ) → has_column fields name ≡ true → column (put_field new fields) name ≡ column fields name
column_stays new [] name h = cc
column_stays new (f ∷ fields) name h = keep_by (is_named new.name f) (is_named name f) new f fields (put_field new fields) name refl refl h (column_stays new fields name)

own_by : (x : Bool) (new f : Field) (fields put : List Field) → is_named new.name f ≡ x → column put new.name ≡ column fields new.name
    → column (cond x (new ∷ fields) (f ∷ put)) new.name ≡ cond (not x) (1 + column fields new.name) 0
own_by true new f fields put e go = ap (λ b. cond (not b) (1 + column fields new.name) 0) (same_name new.name new.name refl)
own_by false new f fields put e go = ap (λ b. cond (not b) (1 + column put new.name) 0) e ∙ ap (λ m. 1 + m) go

pub column_new : (new : Field) (fields : List Field) → column (put_field new fields) new.name ≡ column fields new.name
column_new new [] = ap (λ b. cond (not b) (1 + 0) 0) (same_name new.name new.name refl)
column_new new (f ∷ fields) = own_by (is_named new.name f) new f fields (put_field new fields) refl (column_new new fields)

-- ---- all sets

pub has_set : (set : List SetSpec) (fields : List Field) (name : List ℕ) → has_column fields name ≡ true → has_column (set_fields fields set) name ≡ true
has_set [] fields name h = h
has_set (s ∷ set) fields name h = has_set set (put_field s.field fields) name (has_put s.field fields name h)

pub column_set : (set : List SetSpec) (fields : List Field) (name : List ℕ) → has_column fields name ≡ true → column (set_fields fields set) name ≡ column fields name
column_set [] fields name h = refl
column_set (s ∷ set) fields name h = column_set set (put_field s.field fields) name (has_put s.field fields name h) ∙ column_stays s.field fields name h

-- the first set's column is where its name stands, or the next one
first_there : (s : SetSpec) (set : List SetSpec) (fields : List Field) → has_column (set_fields fields (s ∷ set)) s.field.name ≡ true
first_there s set fields = has_set set (put_field s.field fields) s.field.name (has_new s.field fields)

first_at : (s : SetSpec) (set : List SetSpec) (fields : List Field) → column (set_fields fields (s ∷ set)) s.field.name ≡ column fields s.field.name
first_at s set fields = column_set set (put_field s.field fields) s.field.name (has_new s.field fields) ∙ column_new s.field fields

pub all_there : (set : List SetSpec) (fields : List Field) → has_columns (set_fields fields set) (set_names set) ≡ true
all_there [] fields = refl
all_there (s ∷ set) fields = and_from (has_column (set_fields fields (s ∷ set)) s.field.name) _ (first_there s set fields) (all_there set (put_field s.field fields))

pub sets_lie : (set : List SetSpec) (fields : List Field) → Lies (set_columns fields set) (all_columns (length (set_fields fields set)))
sets_lie set fields = names_lie (set_fields fields set) (set_names set) (all_there set fields)

-- other names have other columns
apart : (fields : List Field) (name : List ℕ) (names : List (List ℕ)) → has_column fields name ≡ true → is_among names name ≡ false → AllByRecursion (λ other. column fields name ≡ other → ⊥) (columns fields names)
apart fields name [] h n = tt
apart fields name (other ∷ names) h n =
    let parts = or_parts (bytes_eq other name) (is_among names name) n in
    ((λ e. cc (same_name other name (sym (one_name fields name other h e)), parts.0)), apart fields name names h parts.1)

next_width : (s : SetSpec) (set : List SetSpec) (fields : List Field) → length (put_field s.field fields) ≡ width_with (length fields) (column (set_fields fields (s ∷ set)) s.field.name)
next_width s set fields = put_length s.field fields ∙ ap (width_with (length fields)) (sym (first_at s set fields))

pub targets_stand : (set : List SetSpec) (fields : List Field) → stand_twice (set_names set) ≡ false → AreTargets (length fields) (set_columns fields set)
targets_stand [] fields h = tt
targets_stand (s ∷ set) fields h =
    let parts = or_parts (is_among (set_names set) s.field.name) (stand_twice (set_names set)) h in
    let most = column_most fields s.field.name in
    let at : column (set_fields fields (s ∷ set)) s.field.name ≤ length fields = omega (arith, first_at s set fields, most) in (
      at,
      apart (set_fields fields (s ∷ set)) s.field.name (set_names set) (first_there s set fields) parts.0,
      subst (λ n. AreTargets n (set_columns (put_field s.field fields) set)) (next_width s set fields) (targets_stand set (put_field s.field fields) parts.1),
    )

pub width_is : (set : List SetSpec) (fields : List Field) → width_after (length fields) (set_columns fields set) ≡ length (set_fields fields set)
width_is [] fields = refl
width_is (s ∷ set) fields =
    sym (ap (λ n. width_after n (set_columns (put_field s.field fields) set)) (next_width s set fields)) ∙ width_is set (put_field s.field fields)

-- ---- sets gone through from the first on

among_is : (set : List SetSpec) (name : List ℕ) → is_among (set_names set) name ≡ list_any (λ (s : SetSpec). bytes_eq s.field.name name) set
among_is [] name = refl
among_is (s ∷ set) name = ap (λ b. bytes_eq s.field.name name || b) (among_is set name)

pub twice_next : (set : List SetSpec) (i : ℕ) (s : SetSpec) → i < length set → s ≡ get_or set i s
    → stand_twice (set_names (drop i set)) ≡ (list_any (λ (t : SetSpec). bytes_eq t.field.name s.field.name) (drop (i + 1) set) || stand_twice (set_names (drop (i + 1) set)))
twice_next set i s h e =
    ap (λ (xs : List SetSpec). stand_twice (set_names xs)) (drop_more set i s h ∙ ap (λ (x : SetSpec). x ∷ drop (i + 1) set) (sym e))
    ∙ ap (λ b. b || stand_twice (set_names (drop (i + 1) set))) (among_is (drop (i + 1) set) s.field.name)

pub put_next : (fields : List Field) (set : List SetSpec) (i : ℕ) (s : SetSpec) → i < length set → s ≡ get_or set i s → set_fields fields (drop i set) ≡ set_fields (put_field s.field fields) (drop (i + 1) set)
put_next fields set i s h e = ap (set_fields fields) (drop_more set i s h ∙ ap (λ (x : SetSpec). x ∷ drop (i + 1) set) (sym e))
