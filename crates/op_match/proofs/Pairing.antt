-- Rows that are sent one by one, in pairs, and with a code.
use Rattle.std.proofs.Common.{◌≡◌, ℕ, zero, suc, ◌+◌, ◌-◌, ◌<◌, Bool, true, false, cond, refl, sym, ap, ap₂, ◌∙◌, subst, List, [], ◌∷◌, ◌++◌, map, length, take, drop, get_or, ext_get_or, append_assoc, append-nil, length-drop, arith}
use Rattle.std.specs.Prelude.{min, pos}
use Rattle.std.specs.List.{range_with_len}
use Rattle.streams.specs.Streams.{Out, sends}
use Rattle.streams.proofs.StreamLaws.{map-append}
use Rattle.ds_value.specs.declared.value.Value.TheVariants.{Int, Null}
use Rattle.ds_schema.specs.declared.key.Key.{Key}
use Rattle.ds_schema.specs.Rows.{at, val}
use Rattle.op_base.specs.declared.emit.Emit.{Emit}
use Rattle.op_base.specs.declared.fault.Fault.{Fault}
use Rattle.op_base.specs.Columns.{Row, all_columns}
use Rattle.op_base.specs.Emits.{Adds}
use Rattle.op_base.specs.Keyed.{same_vals}
use Rattle.op_base.specs.Meanings.{change, coded}
use Rattle.op_base.proofs.Adding.{Adds-then}
use Rattle.op_base.proofs.ColumnLaws.{length-range_with}
use Rattle.op_base.proofs.Orders.{length-val}
use Rattle.op_match.specs.declared.change.Change.{Change}
use Rattle.op_match.specs.declared.change.Change.TheVariants as change
use Rattle.op_match.specs.Captures.{captured, capturing}
use Rattle.op_match.specs.Changed.{change_code, pair, pairs, with_code}
use Rattle.op_match.proofs.Pieces.{one_more, take_more}

-- all columns of a row
read_range : (a : Row) (n k i : ℕ) → i < k → at (val (range_with_len n k) a) i ≡ at a (n + i)
read_range a n zero i l = absurd (omega arith)
read_range a n (suc k) zero l = ap (at a) (omega arith)
read_range a n (suc k) (suc i) l = read_range a (n + 1) k i (omega arith) ∙ ap (at a) (omega arith)

pub own_values : (a : Row) → val (all_columns (length a)) a ≡ a
own_values a =
    let size : length (val (all_columns (length a)) a) ≡ length a = length-val (all_columns (length a)) a ∙ length-range_with 0 (length a) in
    ext_get_or Null (val (all_columns (length a)) a) a size (λ i l. read_range a 0 (length a) i (omega (arith, size)) ∙ ap (at a) (omega arith))

-- more rows that are sent
pub sent_join : (port : ℕ) (before now later : Emit) (xs ys : List Row) → Adds before now (map (sends port) xs) → Adds now later (map (sends port) ys) → Adds before later (map (sends port) (xs ++ ys))
sent_join port before now later xs ys h k =
    let P : List (Out Row Fault) → Type 0 = λ outs. Adds before later outs in
    subst P (sym (map-append (sends port) xs ys)) (Adds-then before now later (map (sends port) xs) (map (sends port) ys) h k)

pub sent_next : (port : ℕ) (f : Row → Row) (before now later : Emit) (xs : List Row) (i : ℕ) (r s : Row) → i < length xs → r ≡ get_or xs i r → Adds before now (map (sends port) (map f (take i xs))) → s ≡ f r → Adds now later (sends port s ∷ []) → Adds before later (map (sends port) (map f (take (i + 1) xs)))
sent_next port f before now later xs i r s l is h e k =
    let P : List Row → Type 0 = λ rows. Adds before later (map (sends port) rows) in
    subst P (ap (λ x. map f (take i xs) ++ x ∷ []) (e ∙ ap f is) ∙ sym (map-append f (take i xs) (get_or xs i r ∷ [])) ∙ ap (map f) (sym (take_more xs i r l)) ∙ ap (λ n. map f (take n xs)) (sym (one_more i)))
    (sent_join port before now later (map f (take i xs)) (s ∷ []) h k)

-- one more row that is sent as it is
pub sent_same : (port : ℕ) (before now later : Emit) (xs : List Row) (i : ℕ) (r s : Row) → i < length xs → r ≡ get_or xs i r → Adds before now (map (sends port) (take i xs)) → s ≡ r → Adds now later (sends port s ∷ []) → Adds before later (map (sends port) (take (i + 1) xs))
sent_same port before now later xs i r s l is h e k =
    let P : List Row → Type 0 = λ rows. Adds before later (map (sends port) rows) in
    subst P (ap (λ x. take i xs ++ x ∷ []) (e ∙ is) ∙ sym (take_more xs i r l) ∙ ap (λ n. take n xs) (sym (one_more i))) (sent_join port before now later (take i xs) (s ∷ []) h k)

take_whole : {X : Type 0} (xs : List X) (n : ℕ) → n ≡ length xs → take n xs ≡ xs
take_whole [] zero e = refl
take_whole [] (suc n) e = refl
take_whole (x ∷ xs) zero e = absurd (omega (arith, e))
take_whole (x ∷ xs) (suc n) e = ap (λ t. x ∷ t) (take_whole xs n (omega (arith, e)))

-- all rows from the n-th on
rest_whole : (rows : List Row) (n : ℕ) → take (length rows - n) (drop n rows) ≡ drop n rows
rest_whole rows n = take_whole (drop n rows) (length rows - n) (sym (length-drop n rows))

module _ (values : List ℕ) (keep : Bool) where
  pairs_next : (bs ns : List Row) (i : ℕ) (d e : Row) → i < length bs → i < length ns → pairs values keep (take (suc i) bs) (take (suc i) ns) ≡ pairs values keep (take i bs) (take i ns) ++ pair values keep (get_or bs i d) (get_or ns i e)
  pairs_next [] ns i d e l m = absurd (omega (arith, l))
  pairs_next (b ∷ bs) [] i d e l m = absurd (omega (arith, m))
  pairs_next (b ∷ bs) (a ∷ ns) zero d e l m = append-nil (pair values keep b a)
  pairs_next (b ∷ bs) (a ∷ ns) (suc i) d e l m = ap (λ t. pair values keep b a ++ t) (pairs_next bs ns i d e (omega (arith, l)) (omega (arith, m))) ∙ sym (append_assoc (pair values keep b a) (pairs values keep (take i bs) (take i ns)) (pair values keep (get_or bs i d) (get_or ns i e)))

  pub pairs_sent : (before now later : Emit) (bs ns : List Row) (i : ℕ) (b a : Row) → i < length bs → i < length ns → b ≡ get_or bs i b → a ≡ get_or ns i a → Adds before now (map (sends 0) (pairs values keep (take i bs) (take i ns))) → Adds now later (map (sends 0) (pair values keep b a)) →
      Adds before later (map (sends 0) (pairs values keep (take (i + 1) bs) (take (i + 1) ns)))
  pairs_sent before now later bs ns i b a l m is js h k =
      let P : List Row → Type 0 = λ rows. Adds before later (map (sends 0) rows) in
      subst P (ap (λ t. pairs values keep (take i bs) (take i ns) ++ t) (ap₂ (pair values keep) is js) ∙ sym (pairs_next bs ns i b a l m) ∙ ap (λ n. pairs values keep (take n bs) (take n ns)) (sym (one_more i)))
      (sent_join 0 before now later (pairs values keep (take i bs) (take i ns)) (pair values keep b a) h k)

  module _ (keys : List Key) where
    coded_is : (c : Change) (r : Row) → coded (capturing keys values keep (length r)) (change_code c) r ≡ with_code c r
    coded_is c r = ap (λ vs. vs ++ (Int (pos (change_code c)) ∷ [])) (own_values r)

    coded_all : (c : Change) (rows : List Row) → map (λ r. coded (capturing keys values keep (length r)) (change_code c) r) rows ≡ map (with_code c) rows
    coded_all c [] = refl
    coded_all c (r ∷ rows) = ap₂ (λ x xs. x ∷ xs) (coded_is c r) (coded_all c rows)

    pair_is : (b a : Row) → change (capturing keys values keep (length a)) b a ≡ pair values keep b a
    pair_is b a = ap₂ (λ x y. cond (same_vals (val values b) (val values a)) (cond keep (x ∷ []) []) (y ∷ [])) (coded_is change.Copy a) (coded_is change.Edit a)

    -- pairs, then what is left over
    captured_parts : (bs ns : List Row) (n : ℕ) → n ≡ min (length bs) (length ns) → captured (capturing keys values keep) bs ns ≡ pairs values keep (take n bs) (take n ns) ++ (map (with_code change.Insert) (drop n ns) ++ map (with_code change.Delete) (drop n bs))
    captured_parts [] ns zero e = coded_all change.Insert ns ∙ sym (append-nil (map (with_code change.Insert) ns))
    captured_parts [] ns (suc n) e = absurd (omega (arith, e))
    captured_parts (b ∷ bs) [] zero e = coded_all change.Delete (b ∷ bs)
    captured_parts (b ∷ bs) [] (suc n) e = absurd (omega (arith, e))
    captured_parts (b ∷ bs) (a ∷ ns) zero e = absurd (omega (arith, e))
    captured_parts (b ∷ bs) (a ∷ ns) (suc n) e =
        ap₂ (λ xs ys. xs ++ ys) (pair_is b a) (captured_parts bs ns n (omega (arith, e)))
        ∙ sym (append_assoc (pair values keep b a) (pairs values keep (take n bs) (take n ns)) (map (with_code change.Insert) (drop n ns) ++ map (with_code change.Delete) (drop n bs)))

    pub changes_sent : (first second third last : Emit) (bs ns : List Row) (n : ℕ) → n ≡ min (length bs) (length ns) → Adds first second (map (sends 0) (pairs values keep (take n bs) (take n ns))) → Adds second third (map (sends 0) (map (with_code change.Insert) (take (length ns - n) (drop n ns)))) → Adds third last (map (sends 0) (map (with_code change.Delete) (take (length bs - n) (drop n bs)))) →
        Adds first last (map (sends 0) (captured (capturing keys values keep) bs ns))
    changes_sent first second third last bs ns n e h k m =
        let P : List Row → Type 0 = λ rows. Adds first last (map (sends 0) rows) in
        subst P (sym (captured_parts bs ns n e))
        (sent_join 0 first second last (pairs values keep (take n bs) (take n ns)) (map (with_code change.Insert) (drop n ns) ++ map (with_code change.Delete) (drop n bs)) h
        (sent_join 0 second third last (map (with_code change.Insert) (drop n ns)) (map (with_code change.Delete) (drop n bs))
        (subst (λ xs. Adds second third (map (sends 0) (map (with_code change.Insert) xs))) (rest_whole ns n) k) (subst (λ xs. Adds third last (map (sends 0) (map (with_code change.Delete) xs))) (rest_whole bs n) m)))
