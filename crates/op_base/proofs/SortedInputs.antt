-- What is given by keys does not see a sort by the keys.
use Rattle.std.proofs.Common.{Bool, List, ap, ap₂, false, filter, flat_map, map, refl, subst, sym, true, ℕ, ◌≡◌, ◌∷◌, ◌++◌, ◌∙◌, []}
use Rattle.std.proofs.lemmas.Cmp.{tied_itself}
use Rattle.std.proofs.lemmas.List.Elements.{filter-append, filter_agree}
use Rattle.std.specs.Cmp.{IsTotalOrder, both_ways}
use Rattle.std.specs.List.{AllByRecursion}
use Rattle.std.specs.Ordering.{is_eq, is_lt, ordering_reverse}
use Rattle.std.specs.declared.cmp.Ordering.{Ordering}
use Rattle.std.specs.declared.cmp.Ordering.TheVariants.{Equal, Less}
use Rattle.ds_schema.specs.Rows.{cols, has, row_cmp, sub, val, vals_cmp, ways}
use Rattle.ds_schema.specs.declared.key.Key.{Key}
use Rattle.ds_value.specs.declared.value.Value.{Value}
use Rattle.op_base.specs.Columns.{Row}
use Rattle.op_base.specs.Keyed.{arranged, by_key, for_values, keys_in, same_vals, subs}
use Rattle.op_base.specs.Lists.{IsArranged, firsts}
use Rattle.op_base.proofs.Arranged.{same_arranged, tie}
use Rattle.op_base.proofs.KeyLaws.{by_key_ranks, flat_map_agree}
use Rattle.op_base.proofs.KeyValues.{same_vals_itself, same_vals_true, sub_all, sub_keys}
use Rattle.op_base.proofs.Orders.{equal_from_is, has_is_tie, row_total, vals_exact, vals_total}
use Rattle.op_base.proofs.Ranks.{Ascends, firsts_ascend, firsts_filter, for_ranks}
use Rattle.op_base.proofs.Sorting.{ranks_arranged, ranks_done, ranks_filter, ranks_ties}

pub ascends_arranged : {X : Type 0} {R : X → X → Ordering} → IsTotalOrder R → (xs : List X) → Ascends R xs → IsArranged R xs
ascends_arranged o [] h = tt
ascends_arranged {X} {R} o (x ∷ xs) h = (go xs h.0, ascends_arranged o xs h.1)
  where
    go : (ys : List X) → AllByRecursion (λ (y : X). R x y ≡ Less) ys → AllByRecursion (λ (y : X). is_lt (R y x) ≡ false) ys
    go [] k = tt
    go (y ∷ ys) k = (ap is_lt (o.antisymm y x ∙ ap ordering_reverse k.0), go ys k.1)

-- the first of each rank, of lists with the same ties
pub firsts_same : {X : Type 0} {R : X → X → Ordering} → IsTotalOrder R → (xs ys : List X) → ((z : X) → filter (tie R z) xs ≡ filter (tie R z) ys) → firsts R xs ≡ firsts R ys
firsts_same {X} {R} o xs ys h = same_arranged o (firsts R xs) (firsts R ys) (ascends_arranged o (firsts R xs) (firsts_ascend o xs)) (ascends_arranged o (firsts R ys) (firsts_ascend o ys))
    (λ z. firsts_filter o (tie R z) (inv z) xs ∙ ap (firsts R) (h z) ∙ sym (firsts_filter o (tie R z) (inv z) ys))
  where
    inv : (z x y : X) → R x y ≡ Equal → tie R z x ≡ tie R z y
    inv z x y e = ap is_eq (o.congr x y z e)

-- What is done by key is the same once the rows are arranged by it.
pub by_key_arranged : {Y : Type 0} (keys : List Key) (rule : List Row → List Y) (rows : List Row) → by_key keys rule (arranged keys rows) ≡ by_key keys rule rows
by_key_arranged {Y} keys rule rows =
    by_key_ranks keys rule (arranged keys rows)
    ∙ ap (flat_map (λ (x : Row). rule (filter (tie R x) (arranged keys rows)))) (firsts_same (row_total keys) (arranged keys rows) rows ties)
    ∙ flat_map_agree (λ (x : Row). rule (filter (tie R x) (arranged keys rows))) (λ (x : Row). rule (filter (tie R x) rows)) (λ x. ap rule (ties x)) (firsts R rows)
    ∙ sym (by_key_ranks keys rule rows)
  where
    R : Row → Row → Ordering
    R = row_cmp keys

    ties : (z : Row) → filter (tie R z) (arranged keys rows) ≡ filter (tie R z) rows
    ties z = ap (filter (tie R z)) (by_key_ranks keys (λ same. same) rows) ∙ ranks_ties (row_total keys) z rows

-- rows of one value are in order
tied_arranged : (keys : List Key) (v : List Value) (rows : List Row) → AllByRecursion (λ r. val (cols keys) r ≡ v) rows → IsArranged (row_cmp keys) rows
tied_arranged keys v [] h = tt
tied_arranged keys v (r ∷ rows) h = (go rows h.1, tied_arranged keys v rows h.1)
  where
    go : (ys : List Row) → AllByRecursion (λ s. val (cols keys) s ≡ v) ys → AllByRecursion (λ y. is_lt (row_cmp keys y r) ≡ false) ys
    go [] k = tt
    go (y ∷ ys) k = (ap₂ (λ a b. is_lt (vals_cmp (ways keys) a b)) k.0 h.0 ∙ ap is_lt (tied_itself (vals_total (ways keys)) v), go ys k.1)

-- the rows of a value are the same once all are arranged
pub sub_arranged : (keys : List Key) (v : List Value) (rows : List Row) → sub (cols keys) v (arranged keys rows) ≡ sub (cols keys) v rows
sub_arranged keys v rows =
    ap (sub (cols keys) v) (by_key_ranks keys (λ same. same) rows)
    ∙ ranks_filter (row_total keys) (has (cols keys) v) rows
    ∙ ranks_done (row_total keys) (sub (cols keys) v rows) (tied_arranged keys v (sub (cols keys) v rows) (sub_all (cols keys) v rows))

-- the key values of a value are those of its rows
pub keys_of_subs : (columns : List (List ℕ)) (v : List Value) (inputs : List (List Row)) → filter (same_vals v) (keys_in columns inputs) ≡ keys_in columns (subs columns v inputs)
keys_of_subs [] v inputs = refl
keys_of_subs (cs ∷ columns) v [] = refl
keys_of_subs (cs ∷ columns) v (rows ∷ inputs) = filter-append (same_vals v) (map (val cs) rows) (keys_in columns inputs) ∙ ap₂ (λ a b. a ++ b) (sub_keys cs v rows) (keys_of_subs columns v inputs)

pub tie_is_same : (ds : List Bool) (v u : List Value) → tie (vals_cmp ds) v u ≡ same_vals v u
tie_is_same ds v u = both_ways (tie (vals_cmp ds) v u) (same_vals v u)
    (λ e. subst (λ w. same_vals v w ≡ true) (sym (vals_exact ds u v (equal_from_is (vals_cmp ds u v) e))) (same_vals_itself v))
    (λ e. subst (λ w. is_eq (vals_cmp ds w v) ≡ true) (sym (same_vals_true v u e)) (ap is_eq (tied_itself (vals_total ds) v)))

-- What is given by keys is the same where each value's rows are.
pub values_same : {Y : Type 0} (ds : List Bool) (columns : List (List ℕ)) (rule : List Value → List (List Row) → List Y) (inputs others : List (List Row)) → ((v : List Value) → subs columns v others ≡ subs columns v inputs) → for_values false ds columns rule others ≡ for_values false ds columns rule inputs
values_same ds columns rule inputs others h =
    ap (flat_map (λ v. rule v (subs columns v others))) (firsts_same (vals_total ds) (keys_in columns others) (keys_in columns inputs) (λ z.
    filter_agree (tie (vals_cmp ds) z) (same_vals z) (tie_is_same ds z) (keys_in columns others) ∙ keys_of_subs columns z others ∙ ap (keys_in columns) (h z) ∙ sym (keys_of_subs columns z inputs) ∙ sym (filter_agree (tie (vals_cmp ds) z) (same_vals z) (tie_is_same ds z) (keys_in columns inputs))))
    ∙ flat_map_agree (λ v. rule v (subs columns v others)) (λ v. rule v (subs columns v inputs)) (λ v. ap (rule v) (h v)) (firsts (vals_cmp ds) (keys_in columns inputs))

pub arranged_by_subs : (keys : List Key) (xs ys : List Row) → ((v : List Value) → sub (cols keys) v xs ≡ sub (cols keys) v ys) → arranged keys xs ≡ arranged keys ys
arranged_by_subs keys xs ys h =
    by_key_ranks keys (λ same. same) xs
    ∙ same_arranged (row_total keys) (for_ranks (row_cmp keys) (λ same. same) xs) (for_ranks (row_cmp keys) (λ same. same) ys) (ranks_arranged (row_total keys) xs) (ranks_arranged (row_total keys) ys)
    (λ x. ranks_ties (row_total keys) x xs ∙ sym (filter_agree (has (cols keys) (val (cols keys) x)) (tie (row_cmp keys) x) (has_is_tie keys x) xs) ∙ h (val (cols keys) x) ∙ filter_agree (has (cols keys) (val (cols keys) x)) (tie (row_cmp keys) x) (has_is_tie keys x) ys ∙ sym (ranks_ties (row_total keys) x ys))
    ∙ sym (by_key_ranks keys (λ same. same) ys)
