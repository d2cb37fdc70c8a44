-- What a stable sort of marked rows leaves: the rows arranged by the keys.
use Rattle.std.proofs.Common.{◌≡◌, Bool, true, false, cond, refl, sym, ap, ap₂, ◌∙◌, List, [], ◌∷◌, ◌++◌}
use Rattle.std.specs.Cmp.{IsTotalOrder}
use Rattle.std.specs.List.{filter, flat_map}
use Rattle.std.specs.List.Sorted.{IsSorted, IsStable}
use Rattle.std.specs.Ordering.{is_eq}
use Rattle.std.specs.declared.cmp.Ordering.{Ordering}
use Rattle.std.specs.declared.cmp.Ordering.TheVariants.{Less, Equal, Greater}
use Rattle.std.proofs.lemmas.Cmp.{nat_cmp_total, then_total, on_total}
use Rattle.ds_schema.specs.declared.key.Key.{Key}
use Rattle.ds_schema.specs.Rows.{row_cmp}
use Rattle.op_base.specs.Keyed.{arranged}
use Rattle.op_base.specs.Lists.{put_at, with_rank, firsts}
use Rattle.op_base.proofs.KeyLaws.{by_key_ranks}
use Rattle.op_base.proofs.Orders.{row_total}
use Rattle.op_base.proofs.Sorting.{stable_sort_is}
use Rattle.op_order.specs.declared.marked.Marked.{Marked}
use Rattle.op_order.specs.Marks.{key_mark, marked_cmp, AreMarked, rows_in}
use Rattle.op_order.proofs.MarkLaws.{marked_is}

pub marked_total : (keys : List Key) → IsTotalOrder (marked_cmp keys)
marked_total keys = then_total (on_total (λ (m : Marked). m.mark) nat_cmp_total) (on_total (λ (m : Marked). m.row) (row_total keys))

module _ (keys : List Key) where
  abbrev IsMarked : Marked → Type 0
  IsMarked m = m.mark ≡ key_mark keys m.row

  in-append : (xs ys : List Marked) → rows_in (xs ++ ys) ≡ rows_in xs ++ rows_in ys
  in-append [] ys = refl
  in-append (x ∷ xs) ys = ap (λ t. x.row ∷ t) (in-append xs ys)

  -- the rows of one rank
  rows_tied : (x : Marked) → IsMarked x → (xs : List Marked) → AreMarked keys xs → rows_in (filter (λ y. is_eq (marked_cmp keys y x)) xs) ≡ filter (λ y. is_eq (row_cmp keys y x.row)) (rows_in xs)
  rows_tied x mx [] h = refl
  rows_tied x mx (y ∷ xs) h = go (is_eq (marked_cmp keys y x)) ∙ ap₂ (λ b t. cond b (y.row ∷ t) t) (ap is_eq (marked_is keys y x h.0 mx)) (rows_tied x mx xs h.1)
    where
      go : (b : Bool) → rows_in (cond b (y ∷ filter (λ z. is_eq (marked_cmp keys z x)) xs) (filter (λ z. is_eq (marked_cmp keys z x)) xs)) ≡ cond b (y.row ∷ rows_in (filter (λ z. is_eq (marked_cmp keys z x)) xs)) (rows_in (filter (λ z. is_eq (marked_cmp keys z x)) xs))
      go true = refl
      go false = refl

  put_marked : (o : Ordering) (x y : Marked) (ys later : List Marked) → IsMarked x → IsMarked y → AreMarked keys ys → AreMarked keys later → AreMarked keys (put_at o x y ys later)
  put_marked Less x y ys later mx my h k = (mx, (my, h))
  put_marked Equal x y ys later mx my h k = (mx, h)
  put_marked Greater x y ys later mx my h k = (my, k)

  put_rows : (o : Ordering) (x y : Marked) (ys later : List Marked) → rows_in (put_at o x y ys later) ≡ put_at o x.row y.row (rows_in ys) (rows_in later)
  put_rows Less x y ys later = refl
  put_rows Equal x y ys later = refl
  put_rows Greater x y ys later = refl

  rank_marked : (x : Marked) (ys : List Marked) → IsMarked x → AreMarked keys ys → AreMarked keys (with_rank (marked_cmp keys) x ys)
  rank_marked x [] mx h = (mx, tt)
  rank_marked x (y ∷ ys) mx h = put_marked (marked_cmp keys x y) x y ys (with_rank (marked_cmp keys) x ys) mx h.0 h.1 (rank_marked x ys mx h.1)

  rank_rows : (x : Marked) (ys : List Marked) → IsMarked x → AreMarked keys ys → rows_in (with_rank (marked_cmp keys) x ys) ≡ with_rank (row_cmp keys) x.row (rows_in ys)
  rank_rows x [] mx h = refl
  rank_rows x (y ∷ ys) mx h = put_rows (marked_cmp keys x y) x y ys (with_rank (marked_cmp keys) x ys) ∙ ap₂ (λ o later. put_at o x.row y.row (rows_in ys) later) (marked_is keys x y mx h.0) (rank_rows x ys mx h.1)

  firsts_marked : (xs : List Marked) → AreMarked keys xs → AreMarked keys (firsts (marked_cmp keys) xs)
  firsts_marked [] h = tt
  firsts_marked (x ∷ xs) h = rank_marked x (firsts (marked_cmp keys) xs) h.0 (firsts_marked xs h.1)

  firsts_rows : (xs : List Marked) → AreMarked keys xs → rows_in (firsts (marked_cmp keys) xs) ≡ firsts (row_cmp keys) (rows_in xs)
  firsts_rows [] h = refl
  firsts_rows (x ∷ xs) h = rank_rows x (firsts (marked_cmp keys) xs) h.0 (firsts_marked xs h.1) ∙ ap (with_rank (row_cmp keys) x.row) (firsts_rows xs h.1)

  groups_rows : (xs vs : List Marked) → AreMarked keys xs → AreMarked keys vs → rows_in (flat_map (λ v. filter (λ y. is_eq (marked_cmp keys y v)) xs) vs) ≡ flat_map (λ r. filter (λ y. is_eq (row_cmp keys y r)) (rows_in xs)) (rows_in vs)
  groups_rows xs [] h k = refl
  groups_rows xs (v ∷ vs) h k = in-append (filter (λ y. is_eq (marked_cmp keys y v)) xs) _ ∙ ap₂ (λ a b. a ++ b) (rows_tied v k.0 xs h) (groups_rows xs vs h k.1)

  pub sorted_rows : (xs ys : List Marked) → AreMarked keys xs → IsSorted (marked_cmp keys) ys → IsStable (marked_cmp keys) xs ys → rows_in ys ≡ arranged keys (rows_in xs)
  sorted_rows xs ys h up stable =
      ap rows_in (stable_sort_is (marked_total keys) xs ys up stable)
      ∙ groups_rows xs (firsts (marked_cmp keys) xs) h (firsts_marked xs h)
      ∙ ap (flat_map (λ r. filter (λ y. is_eq (row_cmp keys y r)) (rows_in xs))) (firsts_rows xs h)
      ∙ sym (by_key_ranks keys (λ same. same) (rows_in xs))
