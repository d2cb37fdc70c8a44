-- What is read as an operator with its options can be spelled as one.
use Rattle.std.proofs.Common.{◌≡◌, ◌⊎◌, ◌≤◌, inl, inr, ℕ, ℤ, List, [], ◌∷◌, ◌++◌, length, map, get_or, Bool, true, false, Option, Some, None, refl, sym, ap, ◌∙◌, subst, arith, ◌+◌}
use Rattle.std.specs.Prelude.{if◌then◌else◌, not, ◌==◌, ◌&&◌, ◌||◌}
use Rattle.std.specs.List.{AllByRecursion, list_any}
use Rattle.std.specs.Str.{bytes_eq}
use Rattle.std.proofs.lemmas.Bool.{eqb-true, eq-eqb, or_parts, or_left, or_right, or_cases}
use Rattle.std.proofs.lemmas.List.Folds.{list_any-append}
use Rattle.ds_value.specs.Names.{IsName}
use Rattle.ds_lex.specs.declared.token.Mode.TheVariants.{Osh}
use Rattle.ds_lex.specs.declared.token.Sort.{Sort}
use Rattle.ds_lex.specs.declared.token.Sort.TheVariants as sort
use Rattle.ds_lex.specs.Lexemes.{Lexeme}
use Rattle.ds_lex.proofs.Readers.{same_bytes}
use Rattle.ds_schema.specs.declared.schema.Field.{Field}
use Rattle.ds_schema.specs.Schemas.{IsSchema}
use Rattle.flow_graph.specs.declared.op_kind.SetSpec.{SetSpec}
use Rattle.flow_graph.specs.declared.op_kind.AggSpec.{AggSpec}
use Rattle.flow_graph.specs.declared.op_kind.OpKind.{OpKind}
use Rattle.flow_graph.specs.declared.op_kind.OpKind.TheVariants as kind
use Rattle.osh_table.specs.declared.operator.OpName.{OpName}
use Rattle.osh_table.specs.declared.operator.OpName.TheVariants as op
use Rattle.osh_table.specs.declared.option.OptName.{OptName}
use Rattle.osh_table.specs.declared.option.OptName.TheVariants as opt
use Rattle.osh_table.specs.declared.option.OptRow.{OptRow}
use Rattle.osh_table.specs.declared.option.Form.{Form}
use Rattle.osh_table.specs.declared.option.Form.TheVariants as form
use Rattle.osh_table.specs.Words.{option_word}
use Rattle.osh_table.specs.Options.{row, options_of, row_named}
use Rattle.osh_value.specs.declared.value.OptValue.{OptValue}
use Rattle.osh_value.specs.declared.value.OptValue.TheVariants as value
use Rattle.osh_value.specs.declared.setting.Setting.{Setting}
use Rattle.osh_value.specs.Kinds.{number_of, found_value, stands, name_in, schema_in, delim_in, widths_in, keys_in, columns_in, renames_in, expression_in, cases_in, sets_of, results_of, with_value, transform_by, kind_of}
use Rattle.osh_read.specs.Options.{is_opt, is_value, has_group, clashes, stands_ahead, is_lacking, lacks_option}
use Rattle.osh_sound.specs.Grammar.{WrittenOption, setting_of, value_phrase, options_phrase, StandTogether, Among}
use Rattle.osh_sound.specs.ValueLaws.{IsResult, ArePairs, AreCases, AreColumns, AreKeys}
use Rattle.osh_sound.proofs.OptionsRead.{PlainFront}
use Rattle.osh_back.specs.Spelled.{Maybe, FormFits, IsDataSet, KeepsOrDrops, ExpressionFits, SetFits, KindFits}
use Rattle.osh_back.proofs.OptionsFit.{perhaps}
use Rattle.osh_sound.proofs.OptionsComplete.{row_word}
use Rattle.osh_back.proofs.ReadLists.{SoundIn}
use Rattle.osh_back.proofs.ReadValues.{GoodValue, token_good}

some_is : {A : Type 0} (x y : A) → (let o : Option A = Some x in o) ≡ Some y → x ≡ y
some_is x y h = cc

-- ---- options with good values

pub record GoodOption (op : OpName) (w : WrittenOption) : Type 0 where
  pub row : row_named op (option_word w.row.opt) ≡ Some w.row
  pub value : GoodValue w.row.form w.value

abbrev pub AllGood : OpName → List WrittenOption → Type 0
AllGood o ws = AllByRecursion (GoodOption o) ws

value_read : (f : Form) (v : OptValue) (ts rest : List Lexeme) → SoundIn Osh ts → value_phrase f v ts rest → GoodValue f v × SoundIn Osh rest
value_read form.Flag v ts rest s h = (subst (GoodValue form.Flag) (sym h.0) tt, subst (SoundIn Osh) h.1 s)
value_read f v [] rest s h = absurd h
value_read f v (t ∷ ts) rest s h = (token_good f v t s.0 h.0 h.1, subst (SoundIn Osh) h.2 s.1)

pub options_good : (o : OpName) (ws : List WrittenOption) (ts rest : List Lexeme) → SoundIn Osh ts → options_phrase o ws ts rest → AllGood o ws × SoundIn Osh rest
options_good o [] ts rest s h = (tt, subst (SoundIn Osh) h s)
options_good o (w ∷ ws) [] rest s h = absurd h.1.1
options_good o (w ∷ ws) (t ∷ ts) rest s h =
    let first = h.1 in
    let value = value_read w.row.form w.value first.0 h.0 (subst (SoundIn Osh) first.1.2 s.1) first.2 in
    let more = options_good o ws h.0 rest value.1 h.2 in
    let word = row_word (options_of o) t.bytes w.row first.1.1 in
    ((record { row = ap (row_named o) word ∙ first.1.1; value = value.0 }, more.0), more.1)

-- ---- options by their numbers

all_opts : List OptName
all_opts =
    opt.File ∷ opt.Schema ∷ opt.Delim ∷ opt.Fixed ∷ opt.Reject ∷ opt.Ds ∷ opt.Where ∷ opt.Set ∷ opt.Keep ∷ opt.Drop ∷ opt.Rename ∷ opt.On ∷ opt.Cases ∷ opt.Key
    ∷ opt.Last ∷ opt.Hash ∷ opt.Sum ∷ opt.Count ∷ opt.Min ∷ opt.Max ∷ opt.First ∷ opt.Keepbad ∷ opt.Missing ∷ opt.Values ∷ opt.Keepcopy ∷ opt.Sequence ∷ opt.Sort ∷ []

at_number : (o : OptName) → get_or all_opts (number_of o) opt.File ≡ o
unfolding all_opts
at_number opt.File = refl
at_number opt.Schema = refl
at_number opt.Delim = refl
at_number opt.Fixed = refl
at_number opt.Reject = refl
at_number opt.Ds = refl
at_number opt.Where = refl
at_number opt.Set = refl
at_number opt.Keep = refl
at_number opt.Drop = refl
at_number opt.Rename = refl
at_number opt.On = refl
at_number opt.Cases = refl
at_number opt.Key = refl
at_number opt.Last = refl
at_number opt.Hash = refl
at_number opt.Sum = refl
at_number opt.Count = refl
at_number opt.Min = refl
at_number opt.Max = refl
at_number opt.First = refl
at_number opt.Keepbad = refl
at_number opt.Missing = refl
at_number opt.Values = refl
at_number opt.Keepcopy = refl
at_number opt.Sequence = refl
at_number opt.Sort = refl

same_opt : (a b : OptName) → (number_of a == number_of b) ≡ true → a ≡ b
same_opt a b e = sym (at_number a) ∙ (ap (λ n. get_or all_opts n opt.File) (eqb-true _ _ e) ∙ at_number b)

-- the operator's option o has this row
abbrev Is : OpName → OptName → OptRow → Type 0
Is o w r = row_named o (option_word w) ≡ Some r

row_is : (o : OpName) (x : OptName) (r : OptRow) (w : WrittenOption) → Is o x r → GoodOption o w → w.row.opt ≡ x → w.row ≡ r
row_is o x r w i g e = some_is w.row r (sym g.row ∙ (ap (λ y. row_named o (option_word y)) e ∙ i))

-- a value that is found is good
found_good : (o : OpName) (x : OptName) (r : OptRow) (ws : List WrittenOption) (v : OptValue) → Is o x r → AllGood o ws → found_value x (map setting_of ws) ≡ Some v → GoodValue r.form v × Among x ws
found_good o x r [] v i g h = absurd cc
found_good o x r (w ∷ ws) v i g h = by (number_of w.row.opt == number_of x) refl h (λ k. found_good o x r ws v i g.1 k)
  where
    by : (b : Bool) → (number_of w.row.opt == number_of x) ≡ b → (if b then Some w.value else found_value x (map setting_of ws)) ≡ Some v → (found_value x (map setting_of ws) ≡ Some v → GoodValue r.form v × Among x ws) → GoodValue r.form v × Among x (w ∷ ws)
    by true e k more =
        (let same = same_opt w.row.opt x e in
        let row_same = row_is o x r w i g.0 same in
        (subst (λ (q : OptRow). GoodValue q.form v) row_same (subst (GoodValue w.row.form) (some_is w.value v k) g.0.value), inl same))
    by false e k more = (let m = more k in (m.0, inr m.1))

found_some : (x : OptName) (ws : List WrittenOption) → Among x ws → found_value x (map setting_of ws) ≡ None → ⊥
found_some x [] a h = a
found_some x (w ∷ ws) a h = by (number_of w.row.opt == number_of x) refl h (λ b k. found_some x ws b k)
  where
    by : (b : Bool) → (number_of w.row.opt == number_of x) ≡ b → (if b then Some w.value else found_value x (map setting_of ws)) ≡ None → (Among x ws → found_value x (map setting_of ws) ≡ None → ⊥) → ⊥
    by true e k more = absurd cc
    by false e k more = elim a [ inl q ↦ absurd (let t = eq-eqb (number_of w.row.opt) (number_of x) (ap number_of q) in cc) | inr b ↦ more b k ]

-- ---- options of one group

last_group : (before : List Setting) (s : Setting) (g : ℕ) → s.group ≡ g → has_group (before ++ s ∷ []) g ≡ true
last_group before s g e = list_any-append (λ (x : Setting). x.group == g) before (s ∷ []) ∙ or_right (has_group before g) (has_group (s ∷ []) g) (or_left (s.group == g) false (eq-eqb s.group g e))

more_group : (before : List Setting) (s : Setting) (g : ℕ) → has_group before g ≡ true → has_group (before ++ s ∷ []) g ≡ true
more_group before s g e = list_any-append (λ (x : Setting). x.group == g) before (s ∷ []) ∙ or_left (has_group before g) (has_group (s ∷ []) g) e

clash : (before : List Setting) (g : ℕ) → (g == 0) ≡ false → has_group before g ≡ true → clashes before g ≡ false → ⊥
clash before g z e c = absurd (let k : clashes before g ≡ true = rw (z, e) refl in cc)

excluded : (o : OpName) (x : OptName) (r : OptRow) (before : List Setting) (ws : List WrittenOption) → Is o x r → (r.group == 0) ≡ false → AllGood o ws → StandTogether before ws → has_group before r.group ≡ true → Among x ws → ⊥
excluded o x r before [] i z g t h a = a
excluded o x r before (w ∷ ws) i z g t h a =
    elim a [
      | inl e ↦ clash before r.group z h (ap (λ (q : OptRow). clashes before q.group) (sym (row_is o x r w i g.0 e)) ∙ t.0)
      | inr b ↦ excluded o x r (before ++ setting_of w ∷ []) ws i z g.1 t.1 (more_group before (setting_of w) r.group h) b
    ]

never_both : (o : OpName) (x y : OptName) (r q : OptRow) (before : List Setting) (ws : List WrittenOption) → Is o x r → Is o y q → r.group ≡ q.group → (r.group == 0) ≡ false → (x ≡ y → ⊥) → AllGood o ws → StandTogether before ws → Among x ws → Among y ws → ⊥
never_both o x y r q before [] i j e z n g t a b = a
never_both o x y r q before (w ∷ ws) i j e z n g t a b =
    elim a [
      | inl k ↦ elim b [
        | inl m ↦ n (sym k ∙ m)
        | inr m ↦ excluded o y q (before ++ setting_of w ∷ []) ws j (ap (λ p. p == 0) (sym e) ∙ z) g.1 t.1 (last_group before (setting_of w) q.group (ap (λ (p : OptRow). p.group) (row_is o x r w i g.0 k) ∙ e)) m
      ]
      | inr k ↦ elim b [
        | inl m ↦ excluded o x r (before ++ setting_of w ∷ []) ws i z g.1 t.1 (last_group before (setting_of w) r.group (ap (λ (p : OptRow). p.group) (row_is o y q w j g.0 m) ∙ sym e)) k
        | inr m ↦ never_both o x y r q (before ++ setting_of w ∷ []) ws i j e z n g.1 t.1 k m
      ]
    ]

-- ---- options that must stand

plain_stops : (may : Bool) (word : List ℕ) (ts : List Lexeme) → PlainFront ts → stands_ahead may word ts ≡ true → ⊥
plain_stops may word [] p h = absurd cc
plain_stops may word (t ∷ ts) p h = absurd (let k : stands_ahead may word (t ∷ ts) ≡ false = rw (p.0, p.1) (by may) in cc)
  where
    by : (b : Bool) → (if b && false then stands_ahead false word ts else false) ≡ false
    by true = refl
    by false = refl

value_no_opt : (s : Sort) → is_value s ≡ true → is_opt s ≡ false
value_no_opt sort.Word h = refl
value_no_opt sort.Number h = refl
value_no_opt sort.Quoted h = refl
value_no_opt other h = absurd cc

behind_value : (word : List ℕ) (f : Form) (v : OptValue) (ts rest : List Lexeme) → value_phrase f v ts rest → stands_ahead true word ts ≡ true → (may : Bool) × (stands_ahead may word rest ≡ true)
behind_value word form.Flag v ts rest h k = (true, subst (λ (us : List Lexeme). stands_ahead true word us ≡ true) h.1 k)
behind_value word f v [] rest h k = absurd h
behind_value word f v (t ∷ ts) rest h k =
    let passed : stands_ahead true word (t ∷ ts) ≡ stands_ahead false word ts = rw (value_no_opt t.sort h.0, h.0) refl in
    (false, subst (λ (us : List Lexeme). stands_ahead false word us ≡ true) h.2 (sym passed ∙ k))

ahead_among : (o : OpName) (x : OptName) (r : OptRow) (may : Bool) (ws : List WrittenOption) (ts rest : List Lexeme) → Is o x r → r.opt ≡ x → options_phrase o ws ts rest → PlainFront rest → stands_ahead may (option_word x) ts ≡ true → Among x ws
ahead_among o x r may [] ts rest i e h p k = plain_stops may (option_word x) ts (subst PlainFront (sym h) p) k
ahead_among o x r may (w ∷ ws) [] rest i e h p k = absurd h.1.1
ahead_among o x r may (w ∷ ws) (t ∷ ts) rest i e h p k =
    let first = h.1 in
    let opt_here : is_opt t.sort ≡ true = ap is_opt first.1.0 in
    let here : stands_ahead may (option_word x) (t ∷ ts) ≡ (bytes_eq t.bytes (option_word x) || stands_ahead true (option_word x) ts) = rw opt_here refl in
    elim (or_cases (bytes_eq t.bytes (option_word x)) (stands_ahead true (option_word x) ts) (sym here ∙ k)) [
      | inl b ↦ inl (ap (λ (q : OptRow). q.opt) (some_is w.row r (sym first.1.1 ∙ (ap (row_named o) (same_bytes t.bytes (option_word x) b) ∙ i))) ∙ e)
      | inr b ↦
          (let value : value_phrase w.row.form w.value ts h.0 = subst (λ (us : List Lexeme). value_phrase w.row.form w.value us h.0) (sym first.1.2) first.2 in
          let n = behind_value (option_word x) w.row.form w.value ts h.0 value b in
          inr (ahead_among o x r n.0 ws h.0 rest i e h.2 p n.1))
    ]

abbrev Required : List Lexeme → List OptRow → Type 0
Required ts rs = AllByRecursion (λ (r : OptRow). r.required ≡ true → stands_ahead false (option_word r.opt) ts ≡ true) rs

none_lacking : (ts : List Lexeme) (rs : List OptRow) → list_any (is_lacking ts) rs ≡ false → Required ts rs
none_lacking ts [] h = tt
none_lacking ts (r ∷ rs) h = let k = or_parts (is_lacking ts r) (list_any (is_lacking ts) rs) h in ((λ e. by r.required (stands_ahead false (option_word r.opt) ts) e k.0), none_lacking ts rs k.1)
  where
    by : (a b : Bool) → a ≡ true → (a && not b) ≡ false → b ≡ true
    by true true e h = refl
    by true false e h = absurd cc
    by false b e h = absurd cc

pub record Whole (o : OpName) (ws : List WrittenOption) : Type 0 where
  pub good : AllGood o ws
  pub together : StandTogether [] ws
  pub ts : List Lexeme
  pub rest : List Lexeme
  pub phrase : options_phrase o ws ts rest
  pub plain : PlainFront rest
  pub full : lacks_option o ts ≡ false

required : (o : OpName) (ws : List WrittenOption) (h : Whole o ws) → Required h.ts (options_of o)
required o ws h = none_lacking h.ts (options_of o) (or_parts (list_any (is_lacking h.ts) (options_of o)) _ h.full).0

-- ---- what is in a value

abbrev Found : Form → Option OptValue → Type 0
Found f o = (v : OptValue) → o ≡ Some v → GoodValue f v

found : (o : OpName) (x : OptName) (r : OptRow) (ws : List WrittenOption) → Is o x r → AllGood o ws → Found r.form (found_value x (map setting_of ws))
found o x r ws i g = λ v e. (found_good o x r ws v i g e).0

must_keys : (o : Option OptValue) → Found form.Keys o → (o ≡ None → ⊥) → AreKeys (keys_in o)
must_keys None g n = absurd (n refl)
must_keys (Some (value.Keys keys)) g n = g (value.Keys keys) refl
must_keys (Some v) g n = absurd (g v refl)

may_keys : (o : Option OptValue) → Found form.Keys o → Maybe AreKeys (keys_in o)
may_keys None g = tt
may_keys (Some (value.Keys keys)) g = perhaps AreKeys keys (g (value.Keys keys) refl)
may_keys (Some v) g = absurd (g v refl)

may_columns : (o : Option OptValue) → Found form.Columns o → Maybe AreColumns (columns_in o)
may_columns None g = tt
may_columns (Some (value.Columns names)) g = perhaps AreColumns names (g (value.Columns names) refl)
may_columns (Some v) g = absurd (g v refl)

some_columns : (o : Option OptValue) → Found form.Columns o → (o ≡ None → ⊥) → AreColumns (columns_in o)
some_columns None g n = absurd (n refl)
some_columns (Some (value.Columns names)) g n = g (value.Columns names) refl
some_columns (Some v) g n = absurd (g v refl)

may_renames : (o : Option OptValue) → Found form.Renames o → Maybe ArePairs (renames_in o)
may_renames None g = tt
may_renames (Some (value.Renames pairs)) g = perhaps ArePairs pairs (g (value.Renames pairs) refl)
may_renames (Some v) g = absurd (g v refl)

some_renames : (o : Option OptValue) → Found form.Renames o → (o ≡ None → ⊥) → ArePairs (renames_in o)
some_renames None g n = absurd (n refl)
some_renames (Some (value.Renames pairs)) g n = g (value.Renames pairs) refl
some_renames (Some v) g n = absurd (g v refl)

named_file : (o : Option OptValue) (name : List ℕ) → Found form.File o → name_in o ≡ Some name → IsName name
named_file None name g h = absurd cc
named_file (Some (value.Name n)) name g h = subst IsName (some_is n name h) (g (value.Name n) refl)
named_file (Some v) name g h = absurd (g v refl)

named_data_set : (o : Option OptValue) (name : List ℕ) → Found form.DataSet o → name_in o ≡ Some name → IsDataSet name
named_data_set None name g h = absurd cc
named_data_set (Some (value.Name n)) name g h = subst IsDataSet (some_is n name h) (g (value.Name n) refl)
named_data_set (Some v) name g h = absurd (g v refl)

read_schema : (o : Option OptValue) (fields : List Field) → Found form.Schema o → schema_in o ≡ Some fields → IsSchema fields
read_schema None fields g h = absurd cc
read_schema (Some (value.Schema fs)) fields g h = subst IsSchema (some_is fs fields h) (g (value.Schema fs) refl)
read_schema (Some v) fields g h = absurd (g v refl)

read_expression_in : (o : Option OptValue) (expr : List ℕ) → Found form.Expression o → expression_in o ≡ Some expr → ExpressionFits expr
read_expression_in None expr g h = absurd cc
read_expression_in (Some (value.Expression kept)) expr g h = subst ExpressionFits (some_is kept expr h) (g (value.Expression kept) refl)
read_expression_in (Some v) expr g h = absurd (g v refl)

read_cases_in : (o : Option OptValue) (cases : List ℤ) → Found form.Cases o → cases_in o ≡ Some cases → AreCases cases
read_cases_in None cases g h = absurd cc
read_cases_in (Some (value.Cases zs)) cases g h = subst AreCases (some_is zs cases h) (g (value.Cases zs) refl)
read_cases_in (Some v) cases g h = absurd (g v refl)

form_by : (d f : Option OptValue) → Found form.Delim d → Found form.Widths f → ((v w : OptValue) → d ≡ Some v → f ≡ Some w → ⊥) → FormFits (delim_in d) (widths_in f)
form_by None None g k n = record { text = refl; other = refl }
form_by (Some (value.Delim b)) None g k n = g (value.Delim b) refl
form_by (Some v) None g k n = absurd (g v refl)
form_by None (Some (value.Widths ws)) g k n = (refl, k (value.Widths ws) refl)
form_by None (Some w) g k n = absurd (k w refl)
form_by (Some v) (Some w) g k n = absurd (n v w refl refl)

result_good : (f : Form) (r : AggSpec) → GoodValue f (value.Result r) → IsResult r
result_good form.Count r h = h
result_good form.Sum r h = h
result_good form.Min r h = h
result_good form.Max r h = h
result_good form.First r h = h
result_good form.Last r h = h
result_good f r h = absurd h

results_good : (o : OpName) (ws : List WrittenOption) → AllGood o ws → AllByRecursion IsResult (results_of (map setting_of ws))
results_good o [] g = tt
results_good o (w ∷ ws) g = by w.row.form w.value g.0.value (results_good o ws g.1)
  where
    by : (f : Form) (v : OptValue) → GoodValue f v → AllByRecursion IsResult (results_of (map setting_of ws)) → AllByRecursion IsResult (results_of (record { opt = w.row.opt; group = w.row.group; value = v } ∷ map setting_of ws))
    by f (value.Result r) k more = (result_good f r k, more)
    by f value.Flag k more = more
    by f (value.Name n) k more = more
    by f (value.Schema fs) k more = more
    by f (value.Delim b) k more = more
    by f (value.Widths ns) k more = more
    by f (value.Columns ns) k more = more
    by f (value.Renames ps) k more = more
    by f (value.Keys ks) k more = more
    by f (value.Missing m) k more = more
    by f (value.Expression kept) k more = more
    by f (value.Set s) k more = more
    by f (value.Cases zs) k more = more

set_is_good : (f : Form) (s : SetSpec) → GoodValue f (value.Set s) → SetFits s
set_is_good form.Setting s h = h
set_is_good f s h = absurd h

sets_good : (o : OpName) (ws : List WrittenOption) → AllGood o ws → AllByRecursion SetFits (sets_of (map setting_of ws))
sets_good o [] g = tt
sets_good o (w ∷ ws) g = by w.row.form w.value g.0.value (sets_good o ws g.1)
  where
    by : (f : Form) (v : OptValue) → GoodValue f v → AllByRecursion SetFits (sets_of (map setting_of ws)) → AllByRecursion SetFits (sets_of (record { opt = w.row.opt; group = w.row.group; value = v } ∷ map setting_of ws))
    by f (value.Set s) k more = (set_is_good f s k, more)
    by f (value.Result r) k more = more
    by f value.Flag k more = more
    by f (value.Name n) k more = more
    by f (value.Schema fs) k more = more
    by f (value.Delim b) k more = more
    by f (value.Widths ns) k more = more
    by f (value.Columns ns) k more = more
    by f (value.Renames ps) k more = more
    by f (value.Keys ks) k more = more
    by f (value.Missing m) k more = more
    by f (value.Expression kept) k more = more
    by f (value.Cases zs) k more = more

-- ---- operators

with_kept : {A B : Type 0} (P : B → Type 0) (o : Option A) (make : A → Option B) (y : B) → with_value o make ≡ Some y → ((x : A) → o ≡ Some x → make x ≡ Some y → P y) → P y
with_kept P None make y h f = absurd cc
with_kept P (Some x) make y h f = f x refl h

kept : (k other : OpKind) → KindFits k → (let o : Option OpKind = Some k in o) ≡ Some other → KindFits other
kept k other p h = subst KindFits (some_is k other h) p

abbrev at : OptName → List WrittenOption → Option OptValue
at x ws = found_value x (map setting_of ws)

-- the key that an operator must have
the_key : (o : OpName) (ws : List WrittenOption) → Is o opt.Key (row opt.Key form.Keys true 1) → (h : Whole o ws) → stands_ahead false (option_word opt.Key) h.ts ≡ true → AreKeys (keys_in (at opt.Key ws))
the_key o ws i h s = must_keys (at opt.Key ws) (found o opt.Key (row opt.Key form.Keys true 1) ws i h.good) (λ n. found_some opt.Key ws (ahead_among o opt.Key (row opt.Key form.Keys true 1) false ws h.ts h.rest i refl h.phrase h.plain s) n)

the_form : (o : OpName) (g : ℕ) (ws : List WrittenOption) → (g == 0) ≡ false → Is o opt.Delim (row opt.Delim form.Delim false g) → Is o opt.Fixed (row opt.Fixed form.Widths false g) → Whole o ws → FormFits (delim_in (at opt.Delim ws)) (widths_in (at opt.Fixed ws))
the_form o g ws z i j h =
    form_by (at opt.Delim ws) (at opt.Fixed ws) (found o opt.Delim (row opt.Delim form.Delim false g) ws i h.good) (found o opt.Fixed (row opt.Fixed form.Widths false g) ws j h.good)
    (λ v w d f. never_both o opt.Delim opt.Fixed (row opt.Delim form.Delim false g) (row opt.Fixed form.Widths false g) [] ws i j refl z (λ e. absurd cc) h.good h.together (found_good o opt.Delim (row opt.Delim form.Delim false g) ws v i h.good d).1 (found_good o opt.Fixed (row opt.Fixed form.Widths false g) ws w j h.good f).1)

import_fits : (ws : List WrittenOption) (k : OpKind) → Whole op.Import ws → kind_of op.Import (map setting_of ws) ≡ Some k → KindFits k
import_fits ws k h e =
    with_kept KindFits (name_in (at opt.File ws)) _ k e (λ file f g. with_kept KindFits (schema_in (at opt.Schema ws)) _ k g (λ schema s m.
    kept _ k (named_file (at opt.File ws) file (found op.Import opt.File (row opt.File form.File true 1) ws refl h.good) f, read_schema (at opt.Schema ws) schema (found op.Import opt.Schema (row opt.Schema form.Schema true 2) ws refl h.good) s, the_form op.Import 3 ws refl refl refl h) m))

export_fits : (ws : List WrittenOption) (k : OpKind) → Whole op.Export ws → kind_of op.Export (map setting_of ws) ≡ Some k → KindFits k
export_fits ws k h e =
    with_kept KindFits (name_in (at opt.File ws)) _ k e (λ file f m.
    kept _ k (named_file (at opt.File ws) file (found op.Export opt.File (row opt.File form.File true 1) ws refl h.good) f, the_form op.Export 2 ws refl refl refl h) m)

dsread_fits : (ws : List WrittenOption) (k : OpKind) → Whole op.Dsread ws → kind_of op.Dsread (map setting_of ws) ≡ Some k → KindFits k
dsread_fits ws k h e = with_kept KindFits (name_in (at opt.Ds ws)) _ k e (λ ds f m. kept _ k (named_data_set (at opt.Ds ws) ds (found op.Dsread opt.Ds (row opt.Ds form.DataSet true 1) ws refl h.good) f) m)

dswrite_fits : (ws : List WrittenOption) (k : OpKind) → Whole op.Dswrite ws → kind_of op.Dswrite (map setting_of ws) ≡ Some k → KindFits k
dswrite_fits ws k h e = with_kept KindFits (name_in (at opt.Ds ws)) _ k e (λ ds f m. kept _ k (named_data_set (at opt.Ds ws) ds (found op.Dswrite opt.Ds (row opt.Ds form.DataSet true 1) ws refl h.good) f) m)

filter_fits : (ws : List WrittenOption) (k : OpKind) → Whole op.Filter ws → kind_of op.Filter (map setting_of ws) ≡ Some k → KindFits k
filter_fits ws k h e = with_kept KindFits (expression_in (at opt.Where ws)) _ k e (λ test f m. kept _ k (read_expression_in (at opt.Where ws) test (found op.Filter opt.Where (row opt.Where form.Expression true 1) ws refl h.good) f) m)

switch_fits : (ws : List WrittenOption) (k : OpKind) → Whole op.Switch ws → kind_of op.Switch (map setting_of ws) ≡ Some k → KindFits k
switch_fits ws k h e =
    with_kept KindFits (expression_in (at opt.On ws)) _ k e (λ on f g. with_kept KindFits (cases_in (at opt.Cases ws)) _ k g (λ cases c m.
    kept _ k (read_expression_in (at opt.On ws) on (found op.Switch opt.On (row opt.On form.Expression true 1) ws refl h.good) f, read_cases_in (at opt.Cases ws) cases (found op.Switch opt.Cases (row opt.Cases form.Cases true 2) ws refl h.good) c) m))

transform_by_fits : (set : List SetSpec) (reject : Bool) (k : OpKind) → AllByRecursion SetFits set → transform_by set reject ≡ Some k → KindFits k
transform_by_fits [] reject k g e = absurd cc
transform_by_fits (s ∷ set) reject k g e = kept (kind.Transform (s ∷ set) reject) k (omega arith, g) e

keep_row : OptRow
keep_row = row opt.Keep form.Columns false 1

drop_row : OptRow
drop_row = row opt.Drop form.Columns false 1

rename_row : OptRow
rename_row = row opt.Rename form.Renames false 2

keeps : (keep drop : List (List ℕ)) → AreColumns keep → drop ≡ [] → KeepsOrDrops keep drop
keeps [] drop h e = absurd (let s = h.some in omega arith)
keeps (n ∷ keep) drop h e = (h, e)

keeps_by : (ws : List WrittenOption) (a b : Option OptValue) → Whole op.Modify ws → at opt.Keep ws ≡ a → at opt.Drop ws ≡ b → KeepsOrDrops (columns_in a) (columns_in b)
unfolding keep_row drop_row
keeps_by ws None b h e f = may_columns b (λ v k. found op.Modify opt.Drop drop_row ws refl h.good v (f ∙ k))
keeps_by ws (Some v) None h e f = keeps (columns_in (Some v)) [] (some_columns (Some v) (λ w k. found op.Modify opt.Keep keep_row ws refl h.good w (e ∙ k)) (λ k. absurd cc)) refl
keeps_by ws (Some v) (Some w) h e f = absurd (never_both op.Modify opt.Keep opt.Drop keep_row drop_row [] ws refl refl refl refl (λ k. absurd cc) h.good h.together (found_good op.Modify opt.Keep keep_row ws v refl h.good e).1 (found_good op.Modify opt.Drop drop_row ws w refl h.good f).1)

one_true : (a b c : Bool) → (not a && (not b && (not c && true))) ≡ false → (a ≡ true) ⊎ ((b ≡ true) ⊎ (c ≡ true))
one_true true b c h = inl refl
one_true false true c h = inr (inl refl)
one_true false false true h = inr (inr refl)
one_true false false false h = absurd cc

modify_some : (ws : List WrittenOption) → Whole op.Modify ws → 1 ≤ length (columns_in (at opt.Keep ws)) + length (columns_in (at opt.Drop ws)) + length (renames_in (at opt.Rename ws))
unfolding keep_row drop_row rename_row
modify_some ws h =
    elim (one_true (stands_ahead false (option_word opt.Keep) h.ts) (stands_ahead false (option_word opt.Drop) h.ts) (stands_ahead false (option_word opt.Rename) h.ts) h.full) [
      | inl a ↦ (let k = (some_columns (at opt.Keep ws) (found op.Modify opt.Keep keep_row ws refl h.good) (λ n. found_some opt.Keep ws (ahead_among op.Modify opt.Keep keep_row false ws h.ts h.rest refl refl h.phrase h.plain a) n)).some in omega arith)
      | inr b ↦ elim b [
        | inl a ↦ (let k = (some_columns (at opt.Drop ws) (found op.Modify opt.Drop drop_row ws refl h.good) (λ n. found_some opt.Drop ws (ahead_among op.Modify opt.Drop drop_row false ws h.ts h.rest refl refl h.phrase h.plain a) n)).some in omega arith)
        | inr a ↦ (let k = (some_renames (at opt.Rename ws) (found op.Modify opt.Rename rename_row ws refl h.good) (λ n. found_some opt.Rename ws (ahead_among op.Modify opt.Rename rename_row false ws h.ts h.rest refl refl h.phrase h.plain a) n)).some in omega arith)
      ]
    ]

funnel_by : (ws : List WrittenOption) (a b : Option OptValue) → Whole op.Funnel ws → at opt.Sequence ws ≡ a → at opt.Sort ws ≡ b → KindFits (kind.Funnel (stands a) (keys_in b))
funnel_by ws None b h e f = may_keys b (λ v k. found op.Funnel opt.Sort (row opt.Sort form.Keys false 1) ws refl h.good v (f ∙ k))
funnel_by ws (Some v) None h e f = refl
funnel_by ws (Some v) (Some w) h e f = absurd (never_both op.Funnel opt.Sequence opt.Sort (row opt.Sequence form.Flag false 1) (row opt.Sort form.Keys false 1) [] ws refl refl refl refl (λ k. absurd cc) h.good h.together (found_good op.Funnel opt.Sequence (row opt.Sequence form.Flag false 1) ws v refl h.good e).1 (found_good op.Funnel opt.Sort (row opt.Sort form.Keys false 1) ws w refl h.good f).1)

pub kind_fits : (o : OpName) (ws : List WrittenOption) (k : OpKind) → Whole o ws → kind_of o (map setting_of ws) ≡ Some k → KindFits k
unfolding rename_row
kind_fits op.Import ws k h e = import_fits ws k h e
kind_fits op.Export ws k h e = export_fits ws k h e
kind_fits op.Dsread ws k h e = dsread_fits ws k h e
kind_fits op.Dswrite ws k h e = dswrite_fits ws k h e
kind_fits op.Copy ws k h e = kept _ k tt e
kind_fits op.Filter ws k h e = filter_fits ws k h e
kind_fits op.Transform ws k h e = transform_by_fits (sets_of (map setting_of ws)) _ k (sets_good op.Transform ws h.good) e
kind_fits op.Switch ws k h e = switch_fits ws k h e
kind_fits op.Modify ws k h e = kept _ k (keeps_by ws (at opt.Keep ws) (at opt.Drop ws) h refl refl, may_renames (at opt.Rename ws) (found op.Modify opt.Rename rename_row ws refl h.good), modify_some ws h) e
kind_fits op.Group ws k h e = kept _ k (may_keys (at opt.Key ws) (found op.Group opt.Key (row opt.Key form.Keys false 1) ws refl h.good), results_good op.Group ws h.good) e
kind_fits op.Changecapture ws k h e = kept _ k (the_key op.Changecapture ws refl h ((required op.Changecapture ws h).0 refl), may_columns (at opt.Values ws) (found op.Changecapture opt.Values (row opt.Values form.Columns false 2) ws refl h.good)) e
kind_fits op.Funnel ws k h e = kept _ k (funnel_by ws (at opt.Sequence ws) (at opt.Sort ws) h refl refl) e
kind_fits op.Tsort ws k h e = kept _ k (the_key op.Tsort ws refl h ((required op.Tsort ws h).0 refl)) e
kind_fits op.Remdup ws k h e = kept _ k (the_key op.Remdup ws refl h ((required op.Remdup ws h).0 refl)) e
kind_fits op.InnerJoin ws k h e = kept _ k (the_key op.InnerJoin ws refl h ((required op.InnerJoin ws h).0 refl)) e
kind_fits op.LeftOuterJoin ws k h e = kept _ k (the_key op.LeftOuterJoin ws refl h ((required op.LeftOuterJoin ws h).0 refl)) e
kind_fits op.RightOuterJoin ws k h e = kept _ k (the_key op.RightOuterJoin ws refl h ((required op.RightOuterJoin ws h).0 refl)) e
kind_fits op.FullOuterJoin ws k h e = kept _ k (the_key op.FullOuterJoin ws refl h ((required op.FullOuterJoin ws h).0 refl)) e
kind_fits op.Merge ws k h e = kept _ k (the_key op.Merge ws refl h ((required op.Merge ws h).0 refl)) e
kind_fits op.Lookup ws k h e = kept _ k (the_key op.Lookup ws refl h ((required op.Lookup ws h).0 refl)) e
