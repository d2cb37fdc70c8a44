-- Joins of a shaped flow: what the law of flows asks of them, and their rows.
use Rattle.std.proofs.Common.{◌≡◌, ◌+◌, ℕ, Bool, true, false, cond, List, [], ◌∷◌, ◌++◌, length, length-append, map, flat_map, refl, sym, ap, ap₂, ◌∙◌, subst}
use Rattle.std.specs.List.{AllByRecursion}
use Rattle.std.proofs.lemmas.List.{length-map}
use Rattle.ds_value.specs.declared.value.Value.{Value}
use Rattle.ds_schema.specs.declared.schema.Field.{Field}
use Rattle.ds_schema.specs.Rows.{cols, val, ways}
use Rattle.ds_schema.specs.Schemas.{row_fits}
use Rattle.op_base.specs.Columns.{Row, no_row}
use Rattle.op_base.specs.Meanings.{Join, join_row, join_rows, join_rule}
use Rattle.op_base.proofs.All.{all_append}
use Rattle.op_join.specs.declared.kind.JoinKind.{JoinKind}
use Rattle.op_join.specs.Joining.{joining, keeps_left, keeps_right}
use Rattle.flow_graph.specs.Operators.{join, result}
use Rattle.flow_graph.specs.Runs.{result_on}
use Rattle.shape_base.specs.Naming.{key_columns}
use Rattle.keyed_shape.specs.Keyed.{join_fields, joined_key, nullable_if, other_columns, other_fields}
use Rattle.flow_sound.proofs.ByKeys.{Come, RuleFits, runs_fit, values_fit}
use Rattle.keyed_shape.proofs.Both.{AreBoth}
use Rattle.flow_sound.proofs.Picking.{keys_long, left_keys_fit, no_others_fit, others_fit, right_keys_fit, rows_beside}
use Rattle.flow_sound.proofs.Working.{Fit}

-- a join by these keys of rows of these fields
abbrev pub joined : JoinKind → List (List ℕ × Bool) → (left right : List Field) → Join
joined kept key left right = joining kept (key_columns left key) (key_columns right key) (length left) (length right)

-- the fields of a side that may be missing may be null
abbrev pub made_fields : JoinKind → List (List ℕ × Bool) → (left right : List Field) → List Field
made_fields kept key left right = join_fields (keeps_right kept) (keeps_left kept) key left right

-- ---- what is asked of a join

-- keys have one direction on both inputs
pub same_ways : (key : List (List ℕ × Bool)) (left right : List Field) → ways (key_columns right key) ≡ ways (key_columns left key)
same_ways [] left right = refl
same_ways (k ∷ key) left right = ap (λ ds. k.1 ∷ ds) (same_ways key left right)

pub others_long : (missing : Bool) (key : List (List ℕ × Bool)) (fields : List Field) → length (map (nullable_if missing) (other_fields key fields)) ≡ length (other_columns key fields)
others_long missing key fields = length-map (other_fields key fields) (nullable_if missing) ∙ length-map (other_columns key fields) _

pub join_long : (kept : JoinKind) (key : List (List ℕ × Bool)) (left right : List Field) → let j = joined kept key left right in length (made_fields kept key left right) ≡ length j.left_keys + (length j.left_others + length j.right_others)
join_long kept key left right =
    let keys = map (λ (k : List ℕ × Bool). joined_key left right (k.0)) key in
    let lefts = map (nullable_if (keeps_right kept)) (other_fields key left) in
    let rights = map (nullable_if (keeps_left kept)) (other_fields key right) in
    length-append keys (lefts ++ rights)
    ∙ ap₂ (λ a b. a + b) (length-map key (λ (k : List ℕ × Bool). joined_key left right (k.0)) ∙ sym (keys_long left key)) (length-append lefts rights ∙ ap₂ (λ a b. a + b) (others_long (keeps_right kept) key left) (others_long (keeps_left kept) key right))

-- ---- rows

pub each_mapped : (fields : List Field) (f : Row → Row) (P : Row → Type 0) → ((r : Row) → P r → row_fits fields (f r) ≡ true) → (rows : List Row) → AllByRecursion P rows → Fit fields (map f rows)
each_mapped fields f P h [] k = tt
each_mapped fields f P h (r ∷ rows) k = (h r k.0, each_mapped fields f P h rows k.1)

pub each_given : (fields : List Field) (f : Row → List Row) (P : Row → Type 0) → ((r : Row) → P r → Fit fields (f r)) → (rows : List Row) → AllByRecursion P rows → Fit fields (flat_map f rows)
each_given fields f P h [] k = tt
each_given fields f P h (r ∷ rows) k = all_append (λ (y : Row). row_fits fields y ≡ true) (f r) (flat_map f rows) (h r k.0) (each_given fields f P h rows k.1)

all_both : (P Q : Row → Type 0) (rows : List Row) → AllByRecursion P rows → AllByRecursion Q rows → AllByRecursion (λ r. P r × Q r) rows
all_both P Q [] h k = tt
all_both P Q (r ∷ rows) h k = ((h.0, k.0), all_both P Q rows h.1 k.1)

module _ (kept : JoinKind) (key : List (List ℕ × Bool)) (left right : List Field) (both : AreBoth key left right) where
  abbrev j : Join
  j = joined kept key left right

  abbrev outs : List Field
  outs = made_fields kept key left right

  abbrev keys : List Field
  keys = map (λ (k : List ℕ × Bool). joined_key left right (k.0)) key

  abbrev lefts : List Field
  lefts = map (nullable_if (keeps_right kept)) (other_fields key left)

  abbrev rights : List Field
  rights = map (nullable_if (keeps_left kept)) (other_fields key right)

  -- a row of one value, on either side
  abbrev OnLeft : List Value → Row → Type 0
  OnLeft v r = (val (cols j.left_keys) r ≡ v) × (row_fits left r ≡ true)

  abbrev OnRight : List Value → Row → Type 0
  OnRight v r = (val (cols j.right_keys) r ≡ v) × (row_fits right r ≡ true)

  beside : (v x y : List Value) → row_fits keys v ≡ true → row_fits lefts x ≡ true → row_fits rights y ≡ true → row_fits outs (v ++ (x ++ y)) ≡ true
  beside v x y e f g = rows_beside keys (lefts ++ rights) v (x ++ y) e (rows_beside lefts rights x y f g)

  by_left : (v : List Value) (a : Row) → OnLeft v a → row_fits keys v ≡ true
  by_left v a h = subst (λ w. row_fits keys w ≡ true) h.0 (left_keys_fit key left right a both h.1)

  by_right : (v : List Value) (b : Row) → OnRight v b → row_fits keys v ≡ true
  by_right v b h = subst (λ w. row_fits keys w ≡ true) h.0 (right_keys_fit key left right b both h.1)

  pair_fits : (v : List Value) (a b : Row) → OnLeft v a → OnRight v b → row_fits outs (join_row j v a b) ≡ true
  pair_fits v a b h k = beside v (val j.left_others a) (val j.right_others b) (by_left v a h) (others_fit (keeps_right kept) key left a h.1) (others_fit (keeps_left kept) key right b k.1)

  -- where the other side is missing
  left_alone : (v : List Value) (a : Row) → keeps_left kept ≡ true → OnLeft v a → row_fits outs (join_row j v a no_row) ≡ true
  left_alone v a e h = beside v (val j.left_others a) (val j.right_others no_row) (by_left v a h) (others_fit (keeps_right kept) key left a h.1) (no_others_fit (keeps_left kept) key right e)

  right_alone : (v : List Value) (b : Row) → keeps_right kept ≡ true → OnRight v b → row_fits outs (join_row j v no_row b) ≡ true
  right_alone v b e h = beside v (val j.left_others no_row) (val j.right_others b) (by_right v b h) (no_others_fit (keeps_right kept) key left e) (others_fit (keeps_left kept) key right b h.1)

  if_kept : (b : Bool) (rows : List Row) → (b ≡ true → Fit outs rows) → Fit outs (cond b rows [])
  if_kept true rows h = h refl
  if_kept false rows h = tt

  pairs_fit : (v : List Value) (as1 bs : List Row) → AllByRecursion (OnLeft v) as1 → AllByRecursion (OnRight v) bs → Fit outs (join_rows j v as1 bs)
  pairs_fit v [] [] h k = tt
  pairs_fit v (a ∷ as1) [] h k = if_kept (keeps_left kept) (map (λ x. join_row j v x no_row) (a ∷ as1)) (λ e. each_mapped outs (λ x. join_row j v x no_row) (OnLeft v) (λ x. left_alone v x e) (a ∷ as1) h)
  pairs_fit v [] (b ∷ bs) h k = if_kept (keeps_right kept) (map (λ y. join_row j v no_row y) (b ∷ bs)) (λ e. each_mapped outs (λ y. join_row j v no_row y) (OnRight v) (λ y. right_alone v y e) (b ∷ bs) k)
  pairs_fit v (a ∷ as1) (b ∷ bs) h k =
      each_given outs (λ x. map (λ y. join_row j v x y) (b ∷ bs)) (OnLeft v) (λ x l. each_mapped outs (λ y. join_row j v x y) (OnRight v) (λ y r. pair_fits v x y l r) (b ∷ bs) k) (a ∷ as1) h

  on_left : (v : List Value) (rows : List Row) → AllByRecursion (λ r. val (cols j.left_keys) r ≡ v) rows → Fit left rows → AllByRecursion (OnLeft v) rows
  on_left v rows h k = all_both (λ r. val (cols j.left_keys) r ≡ v) (λ r. row_fits left r ≡ true) rows h k

  on_right : (v : List Value) (rows : List Row) → AllByRecursion (λ r. val (cols j.right_keys) r ≡ v) rows → Fit right rows → AllByRecursion (OnRight v) rows
  on_right v rows h k = all_both (λ r. val (cols j.right_keys) r ≡ v) (λ r. row_fits right r ≡ true) rows h k

  rule_fits : RuleFits (left ∷ (right ∷ [])) (cols j.left_keys ∷ (cols j.right_keys ∷ [])) outs (join_rule j)
  rule_fits v [] k h = tt
  rule_fits v (as1 ∷ []) k h = pairs_fit v as1 [] (on_left v as1 k.0 h.0) tt
  rule_fits v (as1 ∷ (bs ∷ inputs)) k h = pairs_fit v as1 bs (on_left v as1 k.0 h.0) (on_right v bs k.1.0 h.1.0)

  pub join_fits : (q : ℕ) (inputs : List (List Row)) → Come (left ∷ (right ∷ [])) inputs → Fit outs (result (join j) q inputs)
  join_fits q inputs h = values_fit (left ∷ (right ∷ [])) (cols j.left_keys ∷ (cols j.right_keys ∷ [])) outs (join_rule j) rule_fits (ways j.left_keys) false inputs h

  pub join_fits_on : (q : ℕ) (inputs : List (List Row)) → Come (left ∷ (right ∷ [])) inputs → Fit outs (result_on (join j) q 0 inputs)
  join_fits_on q inputs h = runs_fit (left ∷ (right ∷ [])) (cols j.left_keys ∷ (cols j.right_keys ∷ [])) outs (join_rule j) rule_fits (ways j.left_keys) inputs h
