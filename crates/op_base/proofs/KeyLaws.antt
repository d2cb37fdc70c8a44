-- What is done for each value of keys, by values and by the rows that have them.
use Rattle.std.proofs.Common.{Bool, List, ap, ap₂, filter, flat_map, map, refl, sym, ℕ, ◌≡◌, ◌∷◌, ◌++◌, ◌∙◌, []}
use Rattle.std.proofs.lemmas.List.Elements.{filter_agree}
use Rattle.std.proofs.lemmas.List.Folds.{flat_map-map}
use Rattle.std.specs.Cmp.Lexicographic.{slice_cmp}
use Rattle.std.specs.List.{AllByRecursion}
use Rattle.std.specs.Ordering.{is_eq}
use Rattle.std.specs.declared.cmp.Ordering.{Ordering}
use Rattle.std.specs.declared.cmp.Ordering.TheVariants.{Equal, Greater, Less}
use Rattle.ds_schema.specs.Rows.{cols, has, row_cmp, sub, val, vals_cmp, ways}
use Rattle.ds_schema.specs.declared.key.Key.{Key}
use Rattle.ds_value.specs.Values.{value_cmp}
use Rattle.ds_value.specs.declared.value.Value.{Value}
use Rattle.op_base.specs.Columns.{Lies, Row}
use Rattle.op_base.specs.Keyed.{by_key}
use Rattle.op_base.specs.Lists.{firsts, put_at, with_rank}
use Rattle.op_base.proofs.Arranged.{tie}
use Rattle.op_base.proofs.ColumnLaws.{val_lies}
use Rattle.op_base.proofs.Orders.{has_is_tie, row_tie, row_total}
use Rattle.op_base.proofs.Ranks.{for_ranks, for_ranks_filter}

rank_map : {X Q : Type 0} (R : Q → Q → Ordering) (key : X → Q) → (x : X) (ys : List X) → with_rank R (key x) (map key ys) ≡ map key (with_rank (λ a b. R (key a) (key b)) x ys)
rank_map R key x [] = refl
rank_map {X} R key x (y ∷ ys) = go (R (key x) (key y)) (rank_map R key x ys)
  where
    go : (c : Ordering) → with_rank R (key x) (map key ys) ≡ map key (with_rank (λ (a b : X). R (key a) (key b)) x ys) →
        put_at c (key x) (key y) (map key ys) (with_rank R (key x) (map key ys)) ≡ map key (put_at c x y ys (with_rank (λ (a b : X). R (key a) (key b)) x ys))
    go Less k = refl
    go Equal k = refl
    go Greater k = ap (λ zs. key y ∷ zs) k

pub firsts_map : {X Q : Type 0} (R : Q → Q → Ordering) (key : X → Q) → (xs : List X) → firsts R (map key xs) ≡ map key (firsts (λ a b. R (key a) (key b)) xs)
firsts_map R key [] = refl
firsts_map {X} R key (x ∷ xs) = ap (with_rank R (key x)) (firsts_map R key xs) ∙ rank_map R key x (firsts (λ (a b : X). R (key a) (key b)) xs)

pub flat_map_agree : {X Y : Type 0} (f g : X → List Y) → ((x : X) → f x ≡ g x) → (xs : List X) → flat_map f xs ≡ flat_map g xs
flat_map_agree f g h [] = refl
flat_map_agree f g h (x ∷ xs) = ap₂ (λ a b. a ++ b) (h x) (flat_map_agree f g h xs)

-- by values, and by the rows that have them
pub by_key_ranks : {Y : Type 0} (keys : List Key) (rule : List Row → List Y) (rows : List Row) → by_key keys rule rows ≡ for_ranks (row_cmp keys) rule rows
by_key_ranks keys rule rows =
    let each = λ (v : List Value). rule (sub (cols keys) v rows) in
    ap (flat_map each) (firsts_map (vals_cmp (ways keys)) (val (cols keys)) rows)
    ∙ flat_map-map each (val (cols keys)) (firsts (row_cmp keys) rows)
    ∙ flat_map_agree (λ (s : Row). each (val (cols keys) s)) (λ (s : Row). rule (filter (tie (row_cmp keys) s) rows)) (λ s. ap rule (filter_agree (has (cols keys) (val (cols keys) s)) (tie (row_cmp keys) s) (has_is_tie keys s) rows)) (firsts (row_cmp keys) rows)

-- a rule that gives rows of the group that it is given
abbrev pub Selects : {Y : Type 0} → List ℕ → (Y → List Value) → (List Row → List Y) → Type 0
Selects {Y} G named rule = (v : List Value) (b : Bool) (rows : List Row) → AllByRecursion (λ r. has G v r ≡ b) rows → AllByRecursion (λ y. is_eq (slice_cmp value_cmp (named y) v) ≡ b) (rule rows)

same_answer : (G : List ℕ) (v : List Value) (x y : Row) → val G x ≡ val G y → has G v x ≡ has G v y
same_answer G v x y e = ap (λ w. is_eq (slice_cmp value_cmp w v)) e

pub sub_by_key : (keys : List Key) (G : List ℕ) (rule : List Row → List Row) → Lies G (cols keys) → Selects G (val G) rule → (v : List Value) (rows : List Row) → sub G v (by_key keys rule rows) ≡ by_key keys rule (sub G v rows)
sub_by_key keys G rule l s v rows =
    ap (sub G v) (by_key_ranks keys rule rows)
    ∙ for_ranks_filter (row_total keys) rule (has G v) (has G v) (λ x y e. same_answer G v x y (val_lies G (cols keys) x y l (row_tie keys x y e))) (s v) rows
    ∙ sym (by_key_ranks keys rule (sub G v rows))
