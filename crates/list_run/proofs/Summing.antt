-- Rows that fit the fields of a group's input suit the group.
use Rattle.std.proofs.Common.{◌≡◌, ℕ, zero, suc, ◌<◌, ◌≤◌, ◌^◌, Bool, true, false, List, [], ◌∷◌, length, map, get_or, refl, sym, ◌∙◌, subst, arith}
use Rattle.std.specs.Prelude.{◌==◌, ◌||◌, unsigned_abs}
use Rattle.std.specs.List.{AllByRecursion, list_all}
use Rattle.std.proofs.lemmas.Bool.{lt-ltb, ltb-true}
use Rattle.std.proofs.lemmas.List.Elements.{recursion_from_All}
use Rattle.std.proofs.Math.Nat.{pow-le-pow_right}
use Rattle.streams.proofs.Basics.{and_true, and_left, and_right}
use Rattle.streams.proofs.StreamLaws.{eq_true}
use Rattle.ds_value.specs.declared.kind.Kind.{Kind}
use Rattle.ds_value.specs.declared.kind.Kind.TheVariants as data_kind
use Rattle.ds_value.specs.declared.value.Value.{Value}
use Rattle.ds_value.specs.declared.value.Value.TheVariants.{Null, Int, UInt, Dec, Text, Date}
use Rattle.ds_value.specs.Canonical.{IsShort}
use Rattle.ds_value.specs.Values.{variant}
use Rattle.ds_schema.specs.declared.key.Key.{Key}
use Rattle.ds_schema.specs.declared.schema.Field.{Field}
use Rattle.ds_schema.specs.Rows.{at, cols}
use Rattle.ds_schema.specs.Schemas.{fits_field, row_fits}
use Rattle.op_base.specs.Columns.{Row, Lies, all_columns, is_short}
use Rattle.op_group.specs.declared.agg.Agg.{Agg}
use Rattle.op_group.specs.declared.agg.Agg.TheVariants as agg
use Rattle.op_group.specs.Groups.{agg_suits, alike, is_summable, row_suits, sums_alike}
use Rattle.op_group.specs.Results.{column, is_null}
use Rattle.op_row.specs.ByRow.{has_columns}
use Rattle.op_row.proofs.Transformed.{fits_length}
use Rattle.flow_graph.specs.declared.op_kind.AggSpec.{AggSpec}
use Rattle.flow_graph.specs.declared.op_kind.AggSpec.TheVariants as spec
use Rattle.flow_graph.specs.Fitting.{FitsFields}
use Rattle.flow_ops.specs.Kept.{CanBeSummed, SumsFit}
use Rattle.flow_ops.specs.Keyed.{aggs_of}
use Rattle.list_run.specs.Worked.{SuitsGroup}
use Rattle.list_run.proofs.Links.{all_in}

pub columns_there : (width : ℕ) (r : Row) → length r ≡ width → (cols : List ℕ) → Lies cols (all_columns width) → has_columns cols r ≡ true
columns_there width r e [] l = refl
columns_there width r e (x ∷ cols) l = and_true (lt-ltb x (length r) (subst (λ n. x < n) (sym e) (all_in width x l.0))) (columns_there width r e cols l.1)

short_is : (v : Value) → IsShort v → is_short v ≡ true
short_is Null h = refl
short_is (Int z) h = refl
short_is (UInt n) h = refl
short_is (Dec z) h = refl
short_is (Text bytes) h = lt-ltb (length bytes) (2 ^ 32) h
short_is (Date z) h = refl

pub row_short : (r : Row) → AllByRecursion IsShort r → list_all is_short r ≡ true
row_short [] h = refl
row_short (v ∷ r) h = and_true (short_is v h.0) (row_short r h.1)

-- the field of a column, and that a row's value fits it
abbrev IsFieldAt : List Field → ℕ → Field → Type 0
IsFieldAt fields col f = get_or (map (λ (g : Field). g ∷ []) fields) col [] ≡ f ∷ []

field_at : (fields : List Field) (col : ℕ) → col < length fields → (f : Field) × IsFieldAt fields col f
field_at [] col m = absurd (omega (arith, m))
field_at (f ∷ fields) zero m = (f, refl)
field_at (f ∷ fields) (suc col) m = field_at fields col (omega (arith, m))

value_fits : (fields : List Field) (row : Row) (col : ℕ) (f : Field) → row_fits fields row ≡ true → IsFieldAt fields col f → fits_field f (at row col) ≡ true
value_fits [] row col f h e = absurd (cc)
value_fits (g ∷ fields) [] col f h e = absurd (cc)
value_fits (g ∷ fields) (v ∷ row) zero f h e = let same : g ≡ f = cc in subst (λ (k : Field). fits_field k v ≡ true) same (and_left _ _ h)
value_fits (g ∷ fields) (v ∷ row) (suc col) f h e = value_fits fields row col f (and_right _ _ h) e

-- what fits a kind that can be summed can be summed
summable : (k : Kind) (nullable : Bool) (name : List ℕ) (v : Value) → CanBeSummed k → fits_field (record { name = name; nullable = nullable; kind = k }) v ≡ true → is_summable v ≡ true
summable k nullable name Null s h = refl
summable k nullable name (Int z) s h = refl
summable k nullable name (UInt n) s h = refl
summable (data_kind.Dec p scale) nullable name (Dec z) s h = lt-ltb (unsigned_abs z) (10 ^ 18) (below (10 ^ p) (10 ^ 18) (ltb-true (unsigned_abs z) (10 ^ p) h) (pow-le-pow_right {n = 10} (omega arith) s))
  where
    below : (a b : ℕ) → unsigned_abs z < a → a ≤ b → unsigned_abs z < b
    below a b l m = omega (arith, l, m)
summable (data_kind.Int bits) nullable name (Dec z) s h = absurd (cc)
summable (data_kind.UInt bits) nullable name (Dec z) s h = absurd (cc)
summable (data_kind.Text max fixed) nullable name (Dec z) s h = absurd s
summable data_kind.Date nullable name (Dec z) s h = absurd s
summable (data_kind.Int bits) nullable name (Text b) s h = absurd (cc)
summable (data_kind.UInt bits) nullable name (Text b) s h = absurd (cc)
summable (data_kind.Dec p scale) nullable name (Text b) s h = absurd (cc)
summable (data_kind.Text max fixed) nullable name (Text b) s h = absurd s
summable data_kind.Date nullable name (Text b) s h = absurd s
summable (data_kind.Int bits) nullable name (Date d) s h = absurd (cc)
summable (data_kind.UInt bits) nullable name (Date d) s h = absurd (cc)
summable (data_kind.Dec p scale) nullable name (Date d) s h = absurd (cc)
summable (data_kind.Text max fixed) nullable name (Date d) s h = absurd s
summable data_kind.Date nullable name (Date d) s h = absurd s

-- values that fit one field are of one variant
abbrev kind_variant : Kind → ℕ
kind_variant (data_kind.Int bits) = 1
kind_variant (data_kind.UInt bits) = 2
kind_variant (data_kind.Dec p scale) = 3
kind_variant (data_kind.Text max fixed) = 4
kind_variant data_kind.Date = 5

variant_is : (k : Kind) (nullable : Bool) (name : List ℕ) (v : Value) → fits_field (record { name = name; nullable = nullable; kind = k }) v ≡ true → is_null v ≡ false → variant v ≡ kind_variant k
variant_is k nullable name Null h n = absurd (cc)
variant_is (data_kind.Int bits) nullable name (Int z) h n = refl
variant_is (data_kind.UInt bits) nullable name (UInt z) h n = refl
variant_is (data_kind.Dec p scale) nullable name (Dec z) h n = refl
variant_is (data_kind.Text max fixed) nullable name (Text b) h n = refl
variant_is data_kind.Date nullable name (Date d) h n = refl
variant_is k nullable name v h n = absurd (cc)

alike_fit : (f : Field) (v w : Value) → fits_field f v ≡ true → fits_field f w ≡ true → alike v w ≡ true
alike_fit f v w p q = go (is_null v) (is_null w) refl refl
  where
    go : (a b : Bool) → is_null v ≡ a → is_null w ≡ b → (a || (b || (variant v == variant w))) ≡ true
    go true b e d = refl
    go false true e d = refl
    go false false e d = eq_true (variant v) (variant w) (variant_is f.kind f.nullable f.name v p e ∙ sym (variant_is f.kind f.nullable f.name w q d))

column_fits : (fields : List Field) (col : ℕ) (f : Field) → IsFieldAt fields col f → (rows : List Row) → AllByRecursion (FitsFields fields) rows → AllByRecursion (λ v. fits_field f v ≡ true) (column col rows)
column_fits fields col f e [] h = tt
column_fits fields col f e (r ∷ rows) h = (value_fits fields r col f h.0.0 e, column_fits fields col f e rows h.1)

all_alike : (f : Field) (v : Value) (ws : List Value) → fits_field f v ≡ true → AllByRecursion (λ v. fits_field f v ≡ true) ws → list_all (alike v) ws ≡ true
all_alike f v [] p h = refl
all_alike f v (w ∷ ws) p h = and_true (alike_fit f v w p h.0) (all_alike f v ws p h.1)

each_alike : (f : Field) (vs ws : List Value) → AllByRecursion (λ v. fits_field f v ≡ true) vs → AllByRecursion (λ v. fits_field f v ≡ true) ws → list_all (λ v. list_all (alike v) ws) vs ≡ true
each_alike f [] ws h k = refl
each_alike f (v ∷ vs) ws h k = and_true (all_alike f v ws h.0 k) (each_alike f vs ws h.1 k)

-- a result's column lies in the input
abbrev AggBelow : ℕ → Agg → Type 0
AggBelow w (agg.Sum c) = c < w
AggBelow w agg.Count = Unit {0}
AggBelow w (agg.Min c) = c < w
AggBelow w (agg.Max c) = c < w
AggBelow w (agg.First c) = c < w
AggBelow w (agg.Last c) = c < w

aggs_below : (w : ℕ) (results : List AggSpec) (cs : List ℕ) → Lies cs (all_columns w) → AllByRecursion (AggBelow w) (aggs_of results cs)
aggs_below w [] cs l = tt
aggs_below w (spec.Count new ∷ results) cs l = (tt, aggs_below w results cs l)
aggs_below w (spec.Sum new old ∷ results) [] l = tt
aggs_below w (spec.Sum new old ∷ results) (c ∷ cs) l = (all_in w c l.0, aggs_below w results cs l.1)
aggs_below w (spec.Min new old ∷ results) [] l = tt
aggs_below w (spec.Min new old ∷ results) (c ∷ cs) l = (all_in w c l.0, aggs_below w results cs l.1)
aggs_below w (spec.Max new old ∷ results) [] l = tt
aggs_below w (spec.Max new old ∷ results) (c ∷ cs) l = (all_in w c l.0, aggs_below w results cs l.1)
aggs_below w (spec.First new old ∷ results) [] l = tt
aggs_below w (spec.First new old ∷ results) (c ∷ cs) l = (all_in w c l.0, aggs_below w results cs l.1)
aggs_below w (spec.Last new old ∷ results) [] l = tt
aggs_below w (spec.Last new old ∷ results) (c ∷ cs) l = (all_in w c l.0, aggs_below w results cs l.1)

agg_there : (fields : List Field) (r : Row) (a : Agg) → row_fits fields r ≡ true → AggBelow (length fields) a → SumsFit fields a → agg_suits r a ≡ true
agg_there fields r (agg.Sum c) h b s =
    let f = field_at fields c b in
    and_true (lt-ltb c (length r) (subst (λ n. c < n) (fits_length fields r h) b)) (summable f.0.kind f.0.nullable f.0.name (at r c) (s f.0 f.1) (value_fits fields r c f.0 h f.1))
agg_there fields r agg.Count h b s = refl
agg_there fields r (agg.Min c) h b s = lt-ltb c (length r) (subst (λ n. c < n) (fits_length fields r h) b)
agg_there fields r (agg.Max c) h b s = lt-ltb c (length r) (subst (λ n. c < n) (fits_length fields r h) b)
agg_there fields r (agg.First c) h b s = lt-ltb c (length r) (subst (λ n. c < n) (fits_length fields r h) b)
agg_there fields r (agg.Last c) h b s = lt-ltb c (length r) (subst (λ n. c < n) (fits_length fields r h) b)

aggs_there : (fields : List Field) (r : Row) (aggs : List Agg) → row_fits fields r ≡ true → AllByRecursion (AggBelow (length fields)) aggs → AllByRecursion (SumsFit fields) aggs → list_all (agg_suits r) aggs ≡ true
aggs_there fields r [] h b s = refl
aggs_there fields r (a ∷ aggs) h b s = and_true (agg_there fields r a h b.0 s.0) (aggs_there fields r aggs h b.1 s.1)

agg_alike : (fields : List Field) (rows : List Row) (a : Agg) → AllByRecursion (FitsFields fields) rows → AggBelow (length fields) a → sums_alike rows a ≡ true
agg_alike fields rows (agg.Sum c) h b =
    let f = field_at fields c b in
    let fit = column_fits fields c f.0 f.1 rows h in
    each_alike f.0 (column c rows) (column c rows) fit fit
agg_alike fields rows agg.Count h b = refl
agg_alike fields rows (agg.Min c) h b = refl
agg_alike fields rows (agg.Max c) h b = refl
agg_alike fields rows (agg.First c) h b = refl
agg_alike fields rows (agg.Last c) h b = refl

aggs_alike : (fields : List Field) (rows : List Row) (aggs : List Agg) → AllByRecursion (FitsFields fields) rows → AllByRecursion (AggBelow (length fields)) aggs → list_all (sums_alike rows) aggs ≡ true
aggs_alike fields rows [] h b = refl
aggs_alike fields rows (a ∷ aggs) h b = and_true (agg_alike fields rows a h b.0) (aggs_alike fields rows aggs h b.1)

rows_there : (fields : List Field) (keys : List Key) (aggs : List Agg) → Lies (cols keys) (all_columns (length fields)) → AllByRecursion (AggBelow (length fields)) aggs → AllByRecursion (SumsFit fields) aggs → (rows : List Row) → AllByRecursion (FitsFields fields) rows → list_all (row_suits keys aggs) rows ≡ true
rows_there fields keys aggs k b s [] h = refl
rows_there fields keys aggs k b s (r ∷ rows) h =
    and_true (and_true (columns_there (length fields) r (sym (fits_length fields r h.0.0)) (cols keys) k) (and_true (aggs_there fields r aggs h.0.0 b s) (row_short r (recursion_from_All IsShort r h.0.1)))) (rows_there fields keys aggs k b s rows h.1)

pub group_suited : (fields : List Field) (keys : List Key) (results : List AggSpec) (cs : List ℕ) → Lies (cols keys) (all_columns (length fields)) → Lies cs (all_columns (length fields)) → AllByRecursion (SumsFit fields) (aggs_of results cs) → (rows : List Row) → AllByRecursion (FitsFields fields) rows → SuitsGroup keys (aggs_of results cs) rows
group_suited fields keys results cs k l s rows h =
    let b = aggs_below (length fields) results cs l in
    (rows_there fields keys (aggs_of results cs) k b s rows h, aggs_alike fields rows (aggs_of results cs) h b)
