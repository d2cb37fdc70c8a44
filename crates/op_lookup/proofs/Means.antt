-- What lookup gives of whole lists.
use Rattle.std.proofs.Common.{◌≡◌, ◌≢◌, ℕ, zero, suc, cond, ◌<◌, ◌≤◌, refl, sym, ap, ap₂, ◌∙◌, subst, List, [], ◌∷◌, ◌++◌, length, arith}
use Rattle.std.specs.List.{flat_map, AllByRecursion}
use Rattle.streams.specs.Streams.{Out, sends, Gives, on, faults_out}
use Rattle.streams.proofs.OperatorLaws.{operators_give}
use Rattle.streams.proofs.StreamLaws.{on-append, eq_false}
use Rattle.ds_schema.specs.Rows.{cols, val, sub}
use Rattle.op_base.specs.declared.fault.Fault.{Fault}
use Rattle.op_base.specs.declared.missing.Missing.{Missing}
use Rattle.op_base.specs.declared.missing.Missing.TheVariants as missing
use Rattle.op_base.specs.Columns.{Row, all_columns}
use Rattle.op_base.specs.Meanings.{Looking, looked_row, looked_fault, if_continues, if_rejected, if_fails}
use Rattle.op_base.proofs.Adding.{faults_out-append}
use Rattle.op_lookup.specs.Looked.{others_of, keys_on, looking, looked, looked_stream}
use Rattle.op_lookup.specs.Laws.{IsLooking, LookupsFind, LookupsFindInOneWay}

-- one row
row_on : (k : Looking) (a : Row) (found : List Row) (q : ℕ) → q < 2 → on q (looked k a found) ≡ looked_row k q a found
row_on k a (b ∷ found) zero l = refl
row_on k a (b ∷ found) (suc zero) l = refl
row_on k a found (suc (suc q)) l = absurd (omega arith)
row_on k a [] zero l = by k.missing
  where
    by : (m : Missing) → on 0 (looked (record k { missing = m }) a []) ≡ looked_row (record k { missing = m }) 0 a []
    by missing.Continue = refl
    by missing.Drop = refl
    by missing.Fail = refl
    by missing.Reject = refl
row_on k a [] (suc zero) l = by k.missing
  where
    by : (m : Missing) → on 1 (looked (record k { missing = m }) a []) ≡ looked_row (record k { missing = m }) 1 a []
    by missing.Continue = refl
    by missing.Drop = refl
    by missing.Fail = refl
    by missing.Reject = refl

none_there : (p q : ℕ) (x : Row) → p ≢ q → on {F = Fault} q (sends p x ∷ []) ≡ []
none_there p q x ne = ap (λ b. cond {A = List Row} b (x ∷ []) []) (eq_false p q ne)

row_above : (k : Looking) (a : Row) (found : List Row) (q : ℕ) → 2 ≤ q → on q (looked k a found) ≡ []
row_above k a (b ∷ found) q l = none_there 0 q (val k.main a ++ val k.others b) (λ e. absurd (omega (arith, e)))
row_above k a [] q l = by k.missing
  where
    by : (m : Missing) → on q (looked (record k { missing = m }) a []) ≡ []
    by missing.Continue = none_there 0 q (val k.main a ++ val k.others []) (λ e. absurd (omega (arith, e)))
    by missing.Drop = refl
    by missing.Fail = refl
    by missing.Reject = none_there 1 q a (λ e. absurd (omega (arith, e)))

row_faults : (k : Looking) (a : Row) (found : List Row) → faults_out (looked k a found) ≡ looked_fault k a found
row_faults k a (b ∷ found) = refl
row_faults k a [] = by k.missing
  where
    by : (m : Missing) → faults_out (looked (record k { missing = m }) a []) ≡ looked_fault (record k { missing = m }) a []
    by missing.Continue = refl
    by missing.Drop = refl
    by missing.Fail = refl
    by missing.Reject = refl

-- all rows
module _ (by : Row → Looking) (main reference : List ℕ) (references : List Row) where
  abbrev made : Row → List (Out Row Fault)
  made a = looked (by a) a (sub reference (val main a) references)

  all_on : (q : ℕ) → q < 2 → (mains : List Row) → on q (flat_map made mains) ≡ flat_map (λ a. looked_row (by a) q a (sub reference (val main a) references)) mains
  all_on q l [] = refl
  all_on q l (a ∷ mains) = on-append q (made a) (flat_map made mains) ∙ ap₂ (λ xs ys. xs ++ ys) (row_on (by a) a (sub reference (val main a) references) q l) (all_on q l mains)

  none_on : (q : ℕ) → 2 ≤ q → (mains : List Row) → on q (flat_map made mains) ≡ []
  none_on q l [] = refl
  none_on q l (a ∷ mains) = on-append q (made a) (flat_map made mains) ∙ ap₂ (λ xs ys. xs ++ ys) (row_above (by a) a (sub reference (val main a) references) q l) (none_on q l mains)

  all_faults : (mains : List Row) → faults_out (flat_map made mains) ≡ flat_map (λ a. looked_fault (by a) a (sub reference (val main a) references)) mains
  all_faults [] = refl
  all_faults (a ∷ mains) = faults_out-append (made a) (flat_map made mains) ∙ ap₂ (λ xs ys. xs ++ ys) (row_faults (by a) a (sub reference (val main a) references)) (all_faults mains)

cols_on : (cs : List ℕ) → cols (keys_on cs) ≡ cs
cols_on [] = refl
cols_on (c ∷ cs) = ap (λ ds. c ∷ ds) (cols_on cs)

-- by the columns, and by keys of these columns
by_keys : {Y : Type 0} (f : Row → List Row → List Y) (ms rs main reference : List ℕ) (references mains : List Row) → ms ≡ main → rs ≡ reference → flat_map (λ a. f a (sub reference (val main a) references)) mains ≡ flat_map (λ a. f a (sub rs (val ms a) references)) mains
by_keys f ms rs main reference references mains e g = ap₂ (λ cs ds. flat_map (λ a. f a (sub ds (val cs a) references)) mains) (sym e) (sym g)

-- in the words of columns
abbrev FindsBy : (Row → Looking) → List ℕ → List ℕ → (ℕ → List Row) → List (Out Row Fault) → Type 0
FindsBy by main reference lists given = record {
  rows_are : (q : ℕ) → q < 2 → on q given ≡ flat_map (λ a. looked_row (by a) q a (sub reference (val main a) (lists 1))) (lists 0);
  no_more : (q : ℕ) → 2 ≤ q → on q given ≡ [];
  faults_are : faults_out given ≡ flat_map (λ a. looked_fault (by a) a (sub reference (val main a) (lists 1))) (lists 0);
}

finds_by : (main reference : List ℕ) (width : ℕ) (m : Missing) (lists : ℕ → List Row) (given : List (Out Row Fault)) → Gives (looked_stream main reference width m) lists given → FindsBy (λ a. looking (length a) main reference width m) main reference lists given
finds_by main reference width m lists given g =
    let by : Row → Looking = λ a. looking (length a) main reference width m in
    subst (FindsBy by main reference lists) (sym (((operators_give Row Fault).lookup (λ a rows. looked (looking (length a) main reference width m) a (sub reference (val main a) rows))).1 lists given g)) (record {
      rows_are = λ q l. all_on by main reference (lists 1) q l (lists 0);
      no_more = λ q l. none_on by main reference (lists 1) q l (lists 0);
      faults_are = all_faults by main reference (lists 1) (lists 0);
    })

pub lookups-find : LookupsFind
lookups-find main reference width m lists given g =
    let found = finds_by main reference width m lists given g in
    record {
      rows_are = λ q l. found.rows_are q l ∙ by_keys (λ a. looked_row (looking (length a) main reference width m) q a) (cols (keys_on main)) (cols (keys_on reference)) main reference (lists 1) (lists 0) (cols_on main) (cols_on reference);
      no_more = found.no_more;
      faults_are = found.faults_are ∙ by_keys (λ a. looked_fault (looking (length a) main reference width m) a) (cols (keys_on main)) (cols (keys_on reference)) main reference (lists 1) (lists 0) (cols_on main) (cols_on reference);
    }

-- what is meant by lookups that differ in their keys' directions at most
row_same : (values : ℕ) (main reference : List ℕ) (width : ℕ) (m : Missing) (k : Looking) → IsLooking values main reference width m k → (q : ℕ) (a : Row) (found : List Row) → looked_row (looking values main reference width m) q a found ≡ looked_row k q a found
row_same values main reference width m k is zero a [] = ap (λ n. if_continues n (val (all_columns values) a ++ val (others_of reference width) [])) (sym is.missing_is) ∙ ap₂ (λ cs os. if_continues k.missing (val cs a ++ val os [])) (sym is.own_is) (sym is.others_are)
row_same values main reference width m k is zero a (b ∷ found) = ap₂ (λ cs os. (val cs a ++ val os b) ∷ []) (sym is.own_is) (sym is.others_are)
row_same values main reference width m k is (suc q) a [] = ap (λ n. if_rejected n a) (sym is.missing_is)
row_same values main reference width m k is (suc q) a (b ∷ found) = refl

fault_same : (values : ℕ) (main reference : List ℕ) (width : ℕ) (m : Missing) (k : Looking) → IsLooking values main reference width m k → (a : Row) (found : List Row) → looked_fault (looking values main reference width m) a found ≡ looked_fault k a found
fault_same values main reference width m k is a [] = ap₂ if_fails (sym is.missing_is) (sym (is.fault_is a))
fault_same values main reference width m k is a (b ∷ found) = refl

-- what is meant for each of some rows is one where their widths are
one_for : {Y : Type 0} (f : ℕ → Row → List Y) (g : Row → List Y) (n : ℕ) (rows : List Row) → ((a : Row) → f n a ≡ g a) → AllByRecursion (λ a. length a ≡ n) rows → flat_map (λ a. f (length a) a) rows ≡ flat_map g rows
one_for f g n [] e h = refl
one_for f g n (a ∷ rows) e h = ap₂ (λ xs ys. xs ++ ys) (ap (λ m. f m a) h.0 ∙ e a) (one_for f g n rows e h.1)

pub lookups-find-in-one-way : LookupsFindInOneWay
lookups-find-in-one-way values main reference width m k lists given is h g =
    let found = finds_by main reference width m lists given g in
    record {
      rows_are = λ q l. found.rows_are q l
          ∙ one_for (λ n a. looked_row (looking n main reference width m) q a (sub reference (val main a) (lists 1))) (λ a. looked_row k q a (sub reference (val main a) (lists 1))) values (lists 0) (λ a. row_same values main reference width m k is q a (sub reference (val main a) (lists 1))) h
          ∙ by_keys (looked_row k q) (cols k.main_keys) (cols k.reference_keys) main reference (lists 1) (lists 0) is.main_is is.reference_is;
      no_more = found.no_more;
      faults_are = found.faults_are
          ∙ one_for (λ n a. looked_fault (looking n main reference width m) a (sub reference (val main a) (lists 1))) (λ a. looked_fault k a (sub reference (val main a) (lists 1))) values (lists 0) (λ a. fault_same values main reference width m k is a (sub reference (val main a) (lists 1))) h
          ∙ by_keys (looked_fault k) (cols k.main_keys) (cols k.reference_keys) main reference (lists 1) (lists 0) is.main_is is.reference_is;
    }
