-- What one more feed changes of what lookup's operator stands for, and which port it wants.
use Rattle.std.proofs.Common.{◌≡◌, ◌≢◌, ℕ, zero, suc, ◌<◌, Bool, true, not, cond, sym, ap, ◌∙◌, subst, List, [], ◌∷◌, ◌++◌, append-nil, length, arith}
use Rattle.std.specs.List.{All, AllByRecursion, list_all}
use Rattle.std.specs.Map.{lookup}
use Rattle.std.specs.Prelude.{nat_lt}
use Rattle.std.specs.Str.{bytes_eq}
use Rattle.std.proofs.lemmas.Bool.{ltb-true, eqb-true}
use Rattle.std.proofs.lemmas.List.Folds.{list_all-append}
use Rattle.streams.specs.Streams.{row, end, Feed, has_end, rows, items_of, ended, rows_of}
use Rattle.streams.specs.Operators.{second_first, picks}
use Rattle.streams.proofs.Basics.{and_left, and_right}
use Rattle.streams.proofs.Picks.{picks_open}
use Rattle.streams.proofs.StreamLaws.{items-append, eq_false}
use Rattle.ds_value.specs.Canonical.{IsShort}
use Rattle.ds_value.specs.declared.value.Value.{Value}
use Rattle.ds_value.specs.declared.value.Value.TheVariants.{Null, Int, UInt, Dec, Text, Date}
use Rattle.ds_schema.specs.Rows.{InWidth, val}
use Rattle.op_base.specs.Columns.{Row, is_short}
use Rattle.op_base.specs.Standing.{row_feed, end_feed}
use Rattle.op_base.proofs.StandingLaws.{ended-row, ended-end, rows_of-row, rows_of-end}
use Rattle.op_lookup.specs.Looked.{suits_main, suits_reference, suits_lookup}
use Rattle.op_lookup.specs.Standing.{IsTold, LookupStands}
use Rattle.op_lookup.specs.Table.{key_of, or_kept, first_others}
use Rattle.op_lookup.proofs.Finding.{first_others-more}

-- the ports
abbrev wanted : List (Feed Row) → ℕ → Bool
wanted feeds = picks 2 second_first (λ i. not (ended i feeds))

pub main_port : (feeds : List (Feed Row)) (port : ℕ) → wanted feeds port ≡ true → port ≢ 1 → port ≡ 0
main_port feeds port w ne = let below : port < 2 = (picks_open 2 second_first (λ i. not (ended i feeds)) port w).0 in grind (arith, below)

-- another port's feed
pub rows_of-other : (p q : ℕ) (feeds : List (Feed Row)) (r : Row) → q ≢ p → rows_of p (feeds ++ row_feed q r ∷ []) ≡ rows_of p feeds
rows_of-other p q feeds r ne = ap rows (items-append p feeds (row_feed q r ∷ []) ∙ ap (λ b. items_of p feeds ++ cond b (row r ∷ []) []) (eq_false q p ne) ∙ append-nil (items_of p feeds))

ended-other : (p q : ℕ) (feeds : List (Feed Row)) → q ≢ p → ended p (feeds ++ end_feed q ∷ []) ≡ ended p feeds
ended-other p q feeds ne = ap has_end (items-append p feeds (end_feed q ∷ []) ∙ ap (λ b. items_of p feeds ++ cond b (end ∷ []) []) (eq_false q p ne) ∙ append-nil (items_of p feeds))

all_more : {X : Type 0} (P : X → Type 0) (xs : List X) (x : X) → AllByRecursion P xs → P x → AllByRecursion P (xs ++ x ∷ [])
all_more P [] x h k = (k, tt)
all_more P (y ∷ xs) x h k = (h.0, all_more P xs x h.1 k)

module _ (reference others : List ℕ) where
  pub stands-reference : (old new : List (List ℕ × Row)) (main_over reference_over : Bool) (feeds : List (Feed Row)) (port : ℕ) (r : Row) → port ≡ 1 →
      ((k : List ℕ) → lookup (bytes_eq k) new ≡ or_kept (lookup (bytes_eq k) old) (bytes_eq k (key_of reference r)) (val others r)) → AllByRecursion IsTold (val reference r) →
      LookupStands reference others old main_over reference_over feeds → LookupStands reference others new main_over reference_over (feeds ++ row_feed port r ∷ [])
  stands-reference old new main_over reference_over feeds port r one kept told stands =
      let more : rows_of 1 (feeds ++ row_feed port r ∷ []) ≡ rows_of 1 feeds ++ r ∷ [] = ap (λ p. rows_of 1 (feeds ++ row_feed p r ∷ [])) one ∙ rows_of-row 1 feeds r in
      record {
        main_over_is = stands.main_over_is ∙ sym (ended-row 0 feeds port r);
        reference_over_is = stands.reference_over_is ∙ sym (ended-row 1 feeds port r);
        table_is = λ k. kept k ∙ ap (λ o. or_kept o (bytes_eq k (key_of reference r)) (val others r)) (stands.table_is k) ∙ sym (first_others-more reference others k (rows_of 1 feeds) r) ∙ ap (first_others reference others k) (sym more);
        told = subst (AllByRecursion (λ (x : Row). AllByRecursion IsTold (val reference x))) (sym more) (all_more (λ (x : Row). AllByRecursion IsTold (val reference x)) (rows_of 1 feeds) r stands.told told);
      }

  -- what leaves the reference's rows as they are
  kept_stands : (entries : List (List ℕ × Row)) (main_over reference_over over over2 : Bool) (feeds more : List (Feed Row)) → over ≡ ended 0 more → over2 ≡ ended 1 more → rows_of 1 more ≡ rows_of 1 feeds →
      LookupStands reference others entries main_over reference_over feeds → LookupStands reference others entries over over2 more
  kept_stands entries main_over reference_over over over2 feeds more e f same stands = record {
    main_over_is = e;
    reference_over_is = f;
    table_is = λ k. stands.table_is k ∙ ap (first_others reference others k) (sym same);
    told = subst (AllByRecursion (λ (x : Row). AllByRecursion IsTold (val reference x))) (sym same) stands.told;
  }

  pub stands-main : (entries : List (List ℕ × Row)) (main_over reference_over : Bool) (feeds : List (Feed Row)) (port : ℕ) (a : Row) → port ≢ 1 → LookupStands reference others entries main_over reference_over feeds → LookupStands reference others entries main_over reference_over (feeds ++ row_feed port a ∷ [])
  stands-main entries main_over reference_over feeds port a ne stands =
      kept_stands entries main_over reference_over main_over reference_over feeds (feeds ++ row_feed port a ∷ []) (stands.main_over_is ∙ sym (ended-row 0 feeds port a)) (stands.reference_over_is ∙ sym (ended-row 1 feeds port a)) (rows_of-other 1 port feeds a ne) stands

  pub stands-reference_end : (entries : List (List ℕ × Row)) (main_over reference_over : Bool) (feeds : List (Feed Row)) (port : ℕ) → port ≡ 1 → LookupStands reference others entries main_over reference_over feeds → LookupStands reference others entries main_over true (feeds ++ end_feed port ∷ [])
  stands-reference_end entries main_over reference_over feeds port one stands =
      kept_stands entries main_over reference_over main_over true feeds (feeds ++ end_feed port ∷ []) (stands.main_over_is ∙ sym (ended-other 0 port feeds (λ e. absurd (omega (arith, one, e)))))
      (sym (ended-end 1 feeds) ∙ ap (λ p. ended 1 (feeds ++ end_feed p ∷ [])) (sym one)) (rows_of-end 1 port feeds) stands

  pub stands-main_end : (entries : List (List ℕ × Row)) (main_over reference_over : Bool) (feeds : List (Feed Row)) (port : ℕ) → port ≡ 0 → LookupStands reference others entries main_over reference_over feeds → LookupStands reference others entries true reference_over (feeds ++ end_feed port ∷ [])
  stands-main_end entries main_over reference_over feeds port none stands =
      kept_stands entries main_over reference_over true reference_over feeds (feeds ++ end_feed port ∷ []) (sym (ended-end 0 feeds) ∙ ap (λ p. ended 0 (feeds ++ end_feed p ∷ [])) (sym none))
      (stands.reference_over_is ∙ sym (ended-other 1 port feeds (λ e. absurd (omega (arith, none, e))))) (rows_of-end 1 port feeds) stands

-- the row that is fed suits
short_value : (v : Value) → is_short v ≡ true → IsShort v
short_value Null e = tt
short_value (Int z) e = tt
short_value (UInt n) e = tt
short_value (Dec z) e = tt
short_value (Text b) e = ltb-true _ _ e
short_value (Date z) e = tt

short_row : (r : Row) → list_all is_short r ≡ true → All IsShort r
short_row [] e k d l = absurd (omega arith)
short_row (v ∷ r) e zero d l = short_value v (and_left _ _ e)
short_row (v ∷ r) e (suc k) d l = short_row r (and_right _ _ e) k d (omega arith)

columns_there : (cols : List ℕ) (r : Row) → list_all (λ c. nat_lt c (length r)) cols ≡ true → All (InWidth r) cols
columns_there [] r e k d l = absurd (omega arith)
columns_there (c ∷ cols) r e zero d l = ltb-true _ _ (and_left _ _ e)
columns_there (c ∷ cols) r e (suc k) d l = columns_there cols r (and_right _ _ e) k d (omega arith)

last_passes : (p : Row → Bool) (port : ℕ) (feeds : List (Feed Row)) (r : Row) → list_all p (rows_of port (feeds ++ row_feed port r ∷ [])) ≡ true → p r ≡ true
last_passes p port feeds r h = and_left _ _ (and_right _ _ (sym (list_all-append p (rows_of port feeds) (r ∷ [])) ∙ ap (list_all p) (sym (rows_of-row port feeds r)) ∙ h))

module _ (main : List ℕ) (width : ℕ) (feeds : List (Feed Row)) (port : ℕ) (r : Row) (suited : suits_lookup main width (feeds ++ row_feed port r ∷ []) ≡ true) where
  main_passes : port ≡ 0 → suits_main main r ≡ true
  main_passes none = last_passes (suits_main main) 0 feeds r (ap (λ p. list_all (suits_main main) (rows_of 0 (feeds ++ row_feed p r ∷ []))) (sym none) ∙ and_left _ _ suited)

  reference_passes : port ≡ 1 → suits_reference width r ≡ true
  reference_passes one = last_passes (suits_reference width) 1 feeds r (ap (λ p. list_all (suits_reference width) (rows_of 1 (feeds ++ row_feed p r ∷ []))) (sym one) ∙ and_right _ _ suited)

  pub main_there : port ≡ 0 → All (InWidth r) main
  main_there none = columns_there main r (and_left _ _ (main_passes none))

  pub main_short : port ≡ 0 → All IsShort r
  main_short none = short_row r (and_right _ _ (main_passes none))

  pub reference_width : port ≡ 1 → length r ≡ width
  reference_width one = eqb-true _ _ (and_left _ _ (reference_passes one))

  pub reference_short : port ≡ 1 → All IsShort r
  reference_short one = short_row r (and_right _ _ (reference_passes one))
