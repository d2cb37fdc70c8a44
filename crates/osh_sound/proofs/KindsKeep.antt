-- Options as an operator can have them, and marks, of what is spelled.
use Rattle.std.proofs.Common.{◌≡◌, inl, inr, ℕ, ℤ, List, [], ◌∷◌, map, Bool, true, false, Option, Some, None, refl, sym, subst, arith}
use Rattle.std.specs.Prelude.{if◌then◌else◌, ◌==◌}
use Rattle.std.specs.List.{AllByRecursion, cons_option}
use Rattle.ds_lex.specs.Lexemes.{Lexeme}
use Rattle.ds_schema.specs.Schemas.{IsField, IsFieldName}
use Rattle.ds_schema.specs.ColumnGrammar.{key_name}
use Rattle.ds_schema.specs.ColumnGrammar as columns
use Rattle.ds_text.specs.Forms.{IsDelimiter, IsWidth}
use Rattle.flow_graph.specs.declared.flow.Mark.{Mark}
use Rattle.flow_graph.specs.declared.flow.Mark.TheVariants as mark
use Rattle.op_row.specs.Expressed.{AreDistinct}
use Rattle.flow_graph.specs.declared.op_kind.AggSpec.{AggSpec}
use Rattle.flow_graph.specs.declared.op_kind.SetSpec.{SetSpec}
use Rattle.flow_graph.specs.declared.op_kind.OpKind.{OpKind}
use Rattle.flow_graph.specs.declared.op_kind.OpKind.TheVariants as kind
use Rattle.keyed_shape.specs.Keyed.{result_name}
use Rattle.shape_base.specs.Naming.{NamesDiffer}
use Rattle.op_shape.specs.Options.{KeysDistinct, OptionsStand}
use Rattle.osh_table.specs.declared.operator.OpName.{OpName}
use Rattle.osh_table.specs.declared.operator.OpName.TheVariants as op
use Rattle.osh_table.specs.declared.option.OptName.{OptName}
use Rattle.osh_table.specs.declared.option.OptName.TheVariants as opt
use Rattle.osh_table.specs.declared.option.Form.{Form}
use Rattle.osh_table.specs.declared.option.Form.TheVariants as form
use Rattle.osh_value.specs.declared.value.OptValue.{OptValue}
use Rattle.osh_value.specs.declared.value.OptValue.TheVariants as value
use Rattle.osh_value.specs.declared.setting.Setting.{Setting}
use Rattle.osh_value.specs.Values.{content_of}
use Rattle.osh_value.specs.Kinds.{number_of, found_value, stands, name_in, schema_in, delim_in, widths_in, keys_in, renames_in, expression_in, cases_in, result_in, results_of, set_in, sets_of, with_value, transform_by, kind_of}
use Rattle.osh_read.specs.Stages.{plain_mark, bears}
use Rattle.osh_value.specs.ValueGrammar.{SpellsValue}
use Rattle.osh_sound.specs.Grammar.{WrittenOption, setting_of, value_phrase, options_phrase, mark_word, mark_phrase}
use Rattle.osh_sound.specs.Sound.{AreWidths, FormStands, MarkFits}

some_is : {A : Type 0} (x y : A) → (let o : Option A = Some x in o) ≡ Some y → x ≡ y
some_is x y h = cc

-- ---- values

-- the names of a key list differ, a delimiter and widths are such as records can have, new names and fields are such as
-- schemas have, those of a group's results too, and no case stands twice
abbrev GoodValue : OptValue → Type 0
GoodValue (value.Keys keys) = NamesDiffer keys
GoodValue (value.Delim b) = IsDelimiter b
GoodValue (value.Widths widths) = AllByRecursion IsWidth widths
GoodValue (value.Renames pairs) = AllByRecursion (λ (p : List ℕ × List ℕ). IsFieldName p.0) pairs
GoodValue (value.Set set) = IsField set.field
GoodValue (value.Cases cases) = AreDistinct cases
GoodValue (value.Result r) = IsFieldName (result_name r)
GoodValue v = Unit {0}

pub differ : (keys : List (List ℕ × Bool)) → columns.NamesDiffer key_name keys → NamesDiffer keys
differ [] d = tt
differ (k ∷ keys) d = (d.0, differ keys d.1)

-- what is spelled is good
spelled_good : (f : Form) (bytes : List ℕ) (v : OptValue) → SpellsValue f bytes v → GoodValue v
spelled_good form.Flag bytes v h = absurd h
spelled_good form.File bytes v h = subst GoodValue (sym h.2) tt
spelled_good form.DataSet bytes v h = subst GoodValue (sym h.2) tt
spelled_good form.Schema bytes v h = subst GoodValue (sym h.2) tt
spelled_good form.Delim bytes v h = subst GoodValue (sym h.2) h.1.1
spelled_good form.Widths bytes v h = subst GoodValue (sym h.2) h.1.1.0
spelled_good form.Columns bytes v h = subst GoodValue (sym h.2) tt
spelled_good form.Keys bytes v h = subst GoodValue (sym h.2) (differ h.0 h.1.1.0.differ)
spelled_good form.Renames bytes v h = subst GoodValue (sym h.2) h.1.1.0
spelled_good form.Cases bytes v h = subst GoodValue (sym h.2) h.1.1.1
spelled_good form.Count bytes v h = subst GoodValue (sym h.2) h.1.1.0
spelled_good form.Sum bytes v h = subst GoodValue (sym h.2) h.1.1.0
spelled_good form.Min bytes v h = subst GoodValue (sym h.2) h.1.1.0
spelled_good form.Max bytes v h = subst GoodValue (sym h.2) h.1.1.0
spelled_good form.First bytes v h = subst GoodValue (sym h.2) h.1.1.0
spelled_good form.Last bytes v h = subst GoodValue (sym h.2) h.1.1.0
spelled_good form.Missing bytes v h = subst GoodValue (sym h.2) tt
spelled_good form.Expression bytes v h = subst GoodValue (sym h.2) tt
spelled_good form.Setting bytes v h = subst GoodValue (sym h.2) h.1.field

phrase_good : (f : Form) (v : OptValue) (ts rest : List Lexeme) → value_phrase f v ts rest → GoodValue v
phrase_good form.Flag v ts rest h = subst GoodValue (sym h.0) tt
phrase_good f v [] rest h = absurd h
phrase_good f v (t ∷ ts) rest h = spelled_good f (content_of t) v h.1

-- ---- options

abbrev AllGood : List Setting → Type 0
AllGood ss = AllByRecursion (λ (s : Setting). GoodValue s.value) ss

options_good : (o : OpName) (ws : List WrittenOption) (ts rest : List Lexeme) → options_phrase o ws ts rest → AllGood (map setting_of ws)
options_good o [] ts rest h = tt
options_good o (w ∷ ws) ts rest h = (phrase_good w.row.form w.value h.1.0 h.0 h.1.2, options_good o ws h.0 rest h.2)

found_by : (o : OptName) (s : Setting) (ss : List Setting) (v : OptValue) (b : Bool) → GoodValue s.value → (found_value o ss ≡ Some v → GoodValue v) → (if b then Some s.value else found_value o ss) ≡ Some v → GoodValue v
found_by o s ss v true g more h = subst GoodValue (some_is s.value v h) g
found_by o s ss v false g more h = more h

found_good : (o : OptName) (ss : List Setting) (v : OptValue) → AllGood ss → found_value o ss ≡ Some v → GoodValue v
found_good o [] v g h = absurd cc
found_good o (s ∷ ss) v g h = found_by o s ss v (number_of s.opt == number_of o) g.0 (λ k. found_good o ss v g.1 k) h

keys_by : (o : Option OptValue) → ((v : OptValue) → o ≡ Some v → GoodValue v) → NamesDiffer (keys_in o)
keys_by None g = tt
keys_by (Some (value.Keys keys)) g = g (value.Keys keys) refl
keys_by (Some v) g = tt

keys_good : (ss : List Setting) → AllGood ss → NamesDiffer (keys_in (found_value opt.Key ss))
keys_good ss g = keys_by (found_value opt.Key ss) (λ v h. found_good opt.Key ss v g h)

-- ---- operators

with_kept : {A B : Type 0} (P : B → Type 0) (o : Option A) (make : A → Option B) (y : B) → with_value o make ≡ Some y → ((x : A) → make x ≡ Some y → P y) → P y
with_kept P None make y h f = absurd cc
with_kept P (Some x) make y h f = f x h

kept : (P : OpKind → Type 0) (k other : OpKind) → P k → (let o : Option OpKind = Some k in o) ≡ Some other → P other
kept P k other p h = subst P (some_is k other h) p

-- how an operator can run, by how it runs without a mark
abbrev pub CanRun : Mark → Mark → Type 0
CanRun mark.Seq m = m ≡ mark.Seq
CanRun mark.Stored m = m ≡ mark.Stored
CanRun mark.Par m = m ≡ mark.Stored → ⊥

plain_runs : (p : Mark) → CanRun p p
plain_runs mark.Seq = refl
plain_runs mark.Stored = refl
plain_runs mark.Par = λ e. absurd cc

marked_runs : (p m : Mark) (ts rest : List Lexeme) → bears p m ≡ true → mark_word m ts rest → CanRun p m
marked_runs mark.Par mark.Seq ts rest b w = λ e. absurd cc
marked_runs mark.Par mark.Par ts rest b w = λ e. absurd cc
marked_runs mark.Par mark.Stored ts rest b w = absurd w.0
marked_runs mark.Seq mark.Seq ts rest b w = refl
marked_runs mark.Seq mark.Par ts rest b w = absurd cc
marked_runs mark.Seq mark.Stored ts rest b w = absurd cc
marked_runs mark.Stored m ts rest b w = absurd cc

pub mark_runs : (o : OpName) (m : Mark) (ts rest : List Lexeme) → mark_phrase o m ts rest → CanRun (plain_mark o) m
mark_runs o m ts rest h =
    elim h [
      | inl a ↦ marked_runs (plain_mark o) m a.2.0 a.2.2.0 a.1.0 a.2.2.1
      | inr b ↦ subst (CanRun (plain_mark o)) (sym b.0) (plain_runs (plain_mark o))
    ]

comma : IsDelimiter 44
comma = record { no_end = λ e. absurd (omega (arith, e)); no_return = λ e. absurd (omega (arith, e)); no_quote = λ e. absurd (omega (arith, e)) }

delim_of : (o : Option OptValue) → ((v : OptValue) → o ≡ Some v → GoodValue v) → IsDelimiter (delim_in o)
delim_of None g = comma
delim_of (Some (value.Delim b)) g = g (value.Delim b) refl
delim_of (Some v) g = comma

widths_of : (o : Option OptValue) → ((v : OptValue) → o ≡ Some v → GoodValue v) → AreWidths (widths_in o)
widths_of None g = tt
widths_of (Some (value.Widths widths)) g = g (value.Widths widths) refl
widths_of (Some v) g = tt

-- the form of the settings of an operator
abbrev Forms : List Setting → Type 0
Forms ss = IsDelimiter (delim_in (found_value opt.Delim ss)) × AreWidths (widths_in (found_value opt.Fixed ss))

forms_good : (ss : List Setting) → AllGood ss → Forms ss
forms_good ss g = (delim_of (found_value opt.Delim ss) (λ v h. found_good opt.Delim ss v g h), widths_of (found_value opt.Fixed ss) (λ v h. found_good opt.Fixed ss v g h))

renames_of : (o : Option OptValue) → ((v : OptValue) → o ≡ Some v → GoodValue v) → AllByRecursion (λ (p : List ℕ × List ℕ). IsFieldName p.0) (renames_in o)
renames_of None g = tt
renames_of (Some (value.Renames pairs)) g = g (value.Renames pairs) refl
renames_of (Some v) g = tt

abbrev CasesStand : Option (List ℤ) → Type 0
CasesStand None = Unit {0}
CasesStand (Some cases) = AreDistinct cases

cases_of : (o : Option OptValue) → ((v : OptValue) → o ≡ Some v → GoodValue v) → CasesStand (cases_in o)
cases_of None g = tt
cases_of (Some (value.Cases cases)) g = g (value.Cases cases) refl
cases_of (Some v) g = tt

abbrev AreFields : List SetSpec → Type 0
AreFields set = AllByRecursion (λ (s : SetSpec). IsField s.field) set

set_before : (v : OptValue) (set : List SetSpec) → GoodValue v → AreFields set → AreFields (cons_option (set_in v) set)
set_before (value.Set s) set g h = (g, h)
set_before v set g h = h

sets_good : (ss : List Setting) → AllGood ss → AreFields (sets_of ss)
sets_good [] g = tt
sets_good (s ∷ ss) g = set_before s.value (sets_of ss) g.0 (sets_good ss g.1)

abbrev AreNamed : List AggSpec → Type 0
AreNamed results = AllByRecursion (λ (a : AggSpec). IsFieldName (result_name a)) results

result_before : (v : OptValue) (results : List AggSpec) → GoodValue v → AreNamed results → AreNamed (cons_option (result_in v) results)
result_before (value.Result r) results g h = (g, h)
result_before v results g h = h

results_good : (ss : List Setting) → AllGood ss → AreNamed (results_of ss)
results_good [] g = tt
results_good (s ∷ ss) g = result_before s.value (results_of ss) g.0 (results_good ss g.1)

-- the keys of an operator differ, it runs as it can, its file has a form that records can have, and its options stand
abbrev pub Keeps : Mark → OpKind → Type 0
Keeps m k = KeysDistinct k × MarkFits k m × FormStands k × OptionsStand k

transform_keeps : (set : List SetSpec) (reject : Bool) (k : OpKind) (m : Mark) → AreFields set → CanRun mark.Par m → transform_by set reject ≡ Some k → Keeps m k
transform_keeps [] reject k m f c h = absurd cc
transform_keeps (s ∷ set) reject k m f c h = kept (Keeps m) _ k (tt, c, tt, (omega arith, f)) h

switch_keeps : (on : List ℕ) (cases : Option (List ℤ)) (reject : Bool) (k : OpKind) (m : Mark) → CasesStand cases → CanRun mark.Par m → with_value cases (λ (cs : List ℤ). Some (kind.Switch on cs reject)) ≡ Some k → Keeps m k
switch_keeps on None reject k m d c h = absurd cc
switch_keeps on (Some cases) reject k m d c h = kept (Keeps m) _ k (tt, c, tt, d) h

keeps_by : (o : OpName) (ss : List Setting) (k : OpKind) (m : Mark) → AllGood ss → CanRun (plain_mark o) m → kind_of o ss ≡ Some k → Keeps m k
keeps_by op.Import ss k m g c h = with_kept (Keeps m) (name_in (found_value opt.File ss)) _ k h (λ file i. with_kept (Keeps m) (schema_in (found_value opt.Schema ss)) _ k i (λ schema e. kept (Keeps m) _ k (tt, c, forms_good ss g, tt) e))
keeps_by op.Export ss k m g c h = with_kept (Keeps m) (name_in (found_value opt.File ss)) _ k h (λ file e. kept (Keeps m) _ k (tt, c, forms_good ss g, tt) e)
keeps_by op.Dsread ss k m g c h = with_kept (Keeps m) (name_in (found_value opt.Ds ss)) _ k h (λ ds e. kept (Keeps m) _ k (tt, c, tt, tt) e)
keeps_by op.Dswrite ss k m g c h = with_kept (Keeps m) (name_in (found_value opt.Ds ss)) _ k h (λ ds e. kept (Keeps m) _ k (tt, c, tt, tt) e)
keeps_by op.Filter ss k m g c h = with_kept (Keeps m) (expression_in (found_value opt.Where ss)) _ k h (λ test e. kept (Keeps m) _ k (tt, c, tt, tt) e)
keeps_by op.Transform ss k m g c h = transform_keeps (sets_of ss) (stands (found_value opt.Reject ss)) k m (sets_good ss g) c h
keeps_by op.Switch ss k m g c h = with_kept (Keeps m) (expression_in (found_value opt.On ss)) _ k h (λ on e. switch_keeps on (cases_in (found_value opt.Cases ss)) (stands (found_value opt.Reject ss)) k m (cases_of (found_value opt.Cases ss) (λ v f. found_good opt.Cases ss v g f)) c e)
keeps_by op.Modify ss k m g c h = kept (Keeps m) _ k (tt, c, tt, renames_of (found_value opt.Rename ss) (λ v f. found_good opt.Rename ss v g f)) h
keeps_by op.Tsort ss k m g c h = kept (Keeps m) _ k (keys_good ss g, c, tt, tt) h
keeps_by op.Remdup ss k m g c h = kept (Keeps m) _ k (keys_good ss g, c, tt, tt) h
keeps_by op.Copy ss k m g c h = kept (Keeps m) _ k (tt, c, tt, tt) h
keeps_by op.Group ss k m g c h = kept (Keeps m) _ k (keys_good ss g, c, tt, results_good ss g) h
keeps_by op.InnerJoin ss k m g c h = kept (Keeps m) _ k (keys_good ss g, c, tt, tt) h
keeps_by op.LeftOuterJoin ss k m g c h = kept (Keeps m) _ k (keys_good ss g, c, tt, tt) h
keeps_by op.RightOuterJoin ss k m g c h = kept (Keeps m) _ k (keys_good ss g, c, tt, tt) h
keeps_by op.FullOuterJoin ss k m g c h = kept (Keeps m) _ k (keys_good ss g, c, tt, tt) h
keeps_by op.Merge ss k m g c h = kept (Keeps m) _ k (tt, c, tt, tt) h
keeps_by op.Lookup ss k m g c h = kept (Keeps m) _ k (keys_good ss g, c, tt, tt) h
keeps_by op.Changecapture ss k m g c h = kept (Keeps m) _ k (tt, c, tt, tt) h
keeps_by op.Funnel ss k m g c h = kept (Keeps m) _ k (tt, c, tt, tt) h

pub operator_keeps : (o : OpName) (ws : List WrittenOption) (k : OpKind) (m : Mark) (ts us vs ws2 : List Lexeme) → options_phrase o ws ts us → mark_phrase o m vs ws2 → kind_of o (map setting_of ws) ≡ Some k → Keeps m k
operator_keeps o ws k m ts us vs ws2 p q h = keeps_by o (map setting_of ws) k m (options_good o ws ts us p) (mark_runs o m vs ws2 q) h
