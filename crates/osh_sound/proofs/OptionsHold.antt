-- What is read as an operator with its options is one.
use Rattle.std.proofs.Common.{◌≡◌, ◌≤◌, ◌⊎◌, inl, inr, ℕ, zero, suc, List, [], ◌∷◌, ◌++◌, length, map, Bool, true, false, Result, Ok, Err, Option, Some, None, refl, sym, ap, ◌∙◌, subst, append_assoc, arith}
use Rattle.std.specs.Prelude.{if◌then◌else◌, nat_le, not, ◌&&◌}
use Rattle.std.proofs.lemmas.List.{append-nil}
use Rattle.ds_lex.specs.declared.token.Sort.{Sort}
use Rattle.ds_lex.specs.declared.token.Sort.TheVariants as sort
use Rattle.ds_lex.specs.declared.refusal.Refusal.{Refusal}
use Rattle.ds_lex.specs.declared.refusal.Refusal.TheVariants as refusal
use Rattle.ds_lex.specs.Lexemes.{Lexeme}
use Rattle.ds_lex.specs.Reading.{◌>>=◌, sort_at, first_of}
use Rattle.ds_lex.specs.Phrases.{token, nothing_where, ◌~◌}
use Rattle.ds_lex.proofs.Readers.{bind_ok}
use Rattle.ds_schema.proofs.ListReaders.{ok_parts}
use Rattle.flow_graph.specs.declared.op_kind.OpKind.{OpKind}
use Rattle.osh_table.specs.declared.operator.OpName.{OpName}
use Rattle.osh_table.specs.declared.option.Form.{Form}
use Rattle.osh_table.specs.declared.option.Form.TheVariants as form
use Rattle.osh_table.specs.declared.option.OptRow.{OptRow}
use Rattle.osh_table.specs.Words.{operator_named}
use Rattle.osh_table.specs.Options.{row_named}
use Rattle.osh_value.specs.declared.value.OptValue.{OptValue}
use Rattle.osh_value.specs.declared.value.OptValue.TheVariants as value
use Rattle.osh_value.specs.declared.setting.Setting.{Setting}
use Rattle.osh_value.specs.Values.{value_of, content_of}
use Rattle.osh_value.specs.Kinds.{kind_of}
use Rattle.osh_value.proofs.ValuesSpelled.{value_spelled}
use Rattle.osh_read.specs.declared.fault.OshWhy.{OshWhy}
use Rattle.osh_read.specs.declared.fault.OshWhy.TheVariants as why
use Rattle.osh_read.specs.Reading.{Read, repeated, append, if_comes}
use Rattle.osh_read.specs.Options.{is_value, is_opt, is_flag, known, lacks_value, clashes, given, taken, taken_at, setting_at, opt_at, next_setting_at, settings_at, is_missing, lacks_option, ends_ahead, operator_of, complete, head_at}
use Rattle.osh_sound.specs.Grammar.{WrittenOption, setting_of, value_phrase, options_phrase, StandTogether, AreComplete}
use Rattle.osh_sound.proofs.OptionsComplete.{NoValue, TellsAll, none_ahead, one_ahead, are_complete}
use Rattle.osh_sound.proofs.Fronts.{pair_parts, sort_taken}

-- a test that was passed, and what follows it
pub passed_test : {A B : Type 0} (b : Bool) (x : A) (e : Refusal OshWhy) (f : A → Result B (Refusal OshWhy)) (y : B) → ((let r : Result A (Refusal OshWhy) = if b then Err e else Ok x in r) >>= f) ≡ Ok y → (b ≡ false) × (f x ≡ Ok y)
passed_test true x e f y h = absurd cc
passed_test false x e f y h = (refl, h)

-- ---- values

flag_value : (f : Form) (v : OptValue) (ts rest : List Lexeme) → is_flag f ≡ true → v ≡ value.Flag → ts ≡ rest → value_phrase f v ts rest
flag_value form.Flag v ts rest h e r = (e, r)
flag_value other v ts rest h e r = absurd cc

said_value : (f : Form) (v : OptValue) (t : Lexeme) (ts rest : List Lexeme) → is_value t.sort ≡ true → value_of f (content_of t) ≡ Some v → ts ≡ rest → value_phrase f v (t ∷ ts) rest
unfolding value_of
said_value form.Flag v t ts rest s e r = absurd cc
said_value other v t ts rest s e r = (s, value_spelled other (content_of t) v e, r)

no_value : (f : Form) (v : OptValue) (ts rest : List Lexeme) (b : Bool) → is_flag f ≡ b → (let r : Read OptValue = if b then Ok (value.Flag, ts) else Err refusal.AtEnd in r) ≡ Ok (v, rest) → value_phrase f v ts rest
no_value f v ts rest true e h = let k = ok_parts (value.Flag, ts) (v, rest) h in flag_value f v ts rest e (sym k.0) k.1
no_value f v ts rest false e h = absurd cc

given_by : (f : Form) (v : OptValue) (t : Lexeme) (ts rest : List Lexeme) (o : Option OptValue) → is_value t.sort ≡ true → value_of f (content_of t) ≡ o → given t ts o ≡ Ok (v, rest) → value_phrase f v (t ∷ ts) rest
given_by f v t ts rest None s e h = absurd cc
given_by f v t ts rest (Some x) s e h = let k = ok_parts (x, ts) (v, rest) h in said_value f v t ts rest s (e ∙ ap (λ y. Some y) k.0) k.1

value_by : (f : Form) (v : OptValue) (t : Lexeme) (ts rest : List Lexeme) (b : Bool) → is_value t.sort ≡ b → (let p : Option Lexeme × List Lexeme = if b then (Some t, ts) else (None, t ∷ ts) in taken f p.0 p.1) ≡ Ok (v, rest) → value_phrase f v (t ∷ ts) rest
value_by f v t ts rest true e h = given_by f v t ts rest (value_of f (content_of t)) e refl h
value_by f v t ts rest false e h = no_value f v (t ∷ ts) rest (is_flag f) refl h

value_holds : (f : Form) (v : OptValue) (ts rest : List Lexeme) → taken_at f ts ≡ Ok (v, rest) → value_phrase f v ts rest
value_holds f v [] rest h = no_value f v [] rest (is_flag f) refl h
value_holds f v (t ∷ ts) rest h = value_by f v t ts rest (is_value t.sort) refl h

flag_by : (t : Lexeme) (ts rest : List Lexeme) (v : OptValue) (b : Bool) → is_value t.sort ≡ b → (let p : Option Lexeme × List Lexeme = if b then (Some t, ts) else (None, t ∷ ts) in taken form.Flag p.0 p.1) ≡ Ok (v, rest) → b ≡ false
unfolding value_of
flag_by t ts rest v true e h = absurd cc
flag_by t ts rest v false e h = refl

-- no value was read behind a flag
flag_alone : (v : OptValue) (ts rest : List Lexeme) → taken_at form.Flag ts ≡ Ok (v, rest) → NoValue ts
flag_alone v [] rest h = tt
flag_alone v (t ∷ ts) rest h = flag_by t ts rest v (is_value t.sort) refl h

flag_plain : (f : Form) (v : OptValue) (ts rest : List Lexeme) → taken_at f ts ≡ Ok (v, rest) → f ≡ form.Flag → NoValue ts
flag_plain f v ts rest h e = flag_alone v ts rest (subst (λ (g : Form). taken_at g ts ≡ Ok (v, rest)) e h)

value_fewer : (f : Form) (v : OptValue) (ts rest : List Lexeme) → value_phrase f v ts rest → length rest ≤ length ts
value_fewer form.Flag v ts rest h = let l = ap length h.1 in omega (arith, l)
value_fewer f v [] rest h = absurd h
value_fewer f v (t ∷ ts) rest h = let l = ap length h.2 in omega (arith, l)

-- ---- options

-- an option that was read behind others
pub record IsOption (op : OpName) (found : List Setting) (o : Lexeme) (s : Setting) (ts rest : List Lexeme) : Type 0 where
  pub written : WrittenOption
  pub row : row_named op o.bytes ≡ Some written.row
  pub value : value_phrase written.row.form written.value ts rest
  pub plain : written.row.form ≡ form.Flag → NoValue ts
  pub alone : clashes found written.row.group ≡ false
  pub setting : s ≡ setting_of written

known_row : (o : Option OptRow) (t : Lexeme) (row : OptRow) → known o t ≡ Ok row → o ≡ Some row
known_row None t row h = absurd cc
known_row (Some r) t row h = let e : r ≡ row = cc in ap (λ x. Some x) e

some_setting : (x y : Setting) (ts rest : List Lexeme) → (let r : Read (Option Setting) = Ok (Some x, ts) in r) ≡ Ok (Some y, rest) → (y ≡ x) × (ts ≡ rest)
some_setting x y ts rest h = let k = ok_parts (Some x, ts) (Some y, rest) h in ((let o = k.0 in let e : y ≡ x = cc in e), k.1)

option_holds : (op : OpName) (cut : Bool) (found : List Setting) (o : Lexeme) (s : Setting) (ts rest : List Lexeme) → setting_at op cut found o ts ≡ Ok (Some s, rest) → IsOption op found o s ts rest
unfolding setting_at
option_holds op cut found o s ts rest h =
    let a = bind_ok (known (row_named op o.bytes) o) _ (Some s, rest) h in
    let b = passed_test (lacks_value a.0 cut (first_of ts)) a.0 _ _ (Some s, rest) a.2 in
    let c = passed_test (clashes found a.0.group) a.0 _ _ (Some s, rest) b.1 in
    let d = bind_ok (taken_at a.0.form ts) _ (Some s, rest) c.1 in
    let k = some_setting _ s d.0.1 rest d.2 in
    record {
      written = record { row = a.0; value = d.0.0 };
      row = known_row (row_named op o.bytes) o a.0 a.1;
      value = subst (λ (us : List Lexeme). value_phrase a.0.form d.0.0 ts us) k.1 (value_holds a.0.form d.0.0 ts d.0.1 d.1);
      plain = flag_plain a.0.form d.0.0 ts d.0.1 d.1;
      alone = c.0;
      setting = k.0;
    }

opt_sort : (s : Sort) → is_opt s ≡ true → s ≡ sort.Opt
opt_sort sort.Opt h = refl
opt_sort other h = absurd cc

-- some options, behind those that were found
pub record AreOptions (op : OpName) (found all : List Setting) (ts rest : List Lexeme) : Type 0 where
  pub others : List WrittenOption
  pub joined : all ≡ found ++ map setting_of others
  pub together : StandTogether found others
  pub stand : options_phrase op others ts rest
  pub tells : TellsAll op others ts

none_follow : (op : OpName) (found all : List Setting) (ts rest : List Lexeme) → TellsAll op [] ts → found ≡ all → ts ≡ rest → AreOptions op found all ts rest
none_follow op found all ts rest t e r = record { others = []; joined = sym e ∙ sym (append-nil found); together = tt; stand = r; tells = t }

none_at_end : (op : OpName) → TellsAll op [] []
none_at_end op may word n h = absurd cc

one_follows : (op : OpName) (found all : List Setting) (t : Lexeme) (ts us rest : List Lexeme) (s : Setting) → is_opt t.sort ≡ true → IsOption op found t s ts us → AreOptions op (found ++ s ∷ []) all us rest → AreOptions op found all (t ∷ ts) rest
one_follows op found all t ts us rest s o i a = record {
  others = i.written ∷ a.others;
  joined = a.joined ∙ (append_assoc found (s ∷ []) (map setting_of a.others) ∙ ap (λ (x : Setting). found ++ (x ∷ map setting_of a.others)) i.setting);
  together = (i.alone, subst (λ (x : Setting). StandTogether (found ++ x ∷ []) a.others) i.setting a.together);
  stand = (us, (ts, (opt_sort t.sort o, i.row, refl), i.value), a.stand);
  tells = one_ahead op i.written a.others t ts us o i.row i.value i.plain a.tells;
}

none_setting : (x : Setting) (ts rest : List Lexeme) → (let r : Read (Option Setting) = Ok (Some x, ts) in r) ≡ Ok (None, rest) → ⊥
none_setting x ts rest h = let k = (ok_parts (Some x, ts) (None, rest) h).0 in absurd cc

-- an option that came isn't none
never : (op : OpName) (cut : Bool) (found : List Setting) (o : Lexeme) (ts rest : List Lexeme) → setting_at op cut found o ts ≡ Ok (None, rest) → ⊥
unfolding setting_at
never op cut found o ts rest h =
    let a = bind_ok (known (row_named op o.bytes) o) _ (None, rest) h in
    let b = passed_test (lacks_value a.0 cut (first_of ts)) a.0 _ _ (None, rest) a.2 in
    let c = passed_test (clashes found a.0.group) a.0 _ _ (None, rest) b.1 in
    let d = bind_ok (taken_at a.0.form ts) _ (None, rest) c.1 in
    none_setting _ d.0.1 rest d.2

next_by : (op : OpName) (cut : Bool) (found : List Setting) (t : Lexeme) (ts rest : List Lexeme) (b : Bool) (o : Option Setting)
    → is_opt t.sort ≡ b → (let p : Option Lexeme × List Lexeme = if b then (Some t, ts) else (None, t ∷ ts) in if_comes p.0 (λ x. setting_at op cut found x p.1) (Ok (None, p.1))) ≡ Ok (o, rest)
    → ((o ≡ None) × (t ∷ ts ≡ rest) × (is_opt t.sort ≡ false)) ⊎ ((s : Setting) × (o ≡ Some s) × (is_opt t.sort ≡ true) × IsOption op found t s ts rest)
next_by op cut found t ts rest false o e h = let k = ok_parts (None, t ∷ ts) (o, rest) h in inl (sym k.0, k.1, e)
next_by op cut found t ts rest true None e h = absurd (never op cut found t ts rest h)
next_by op cut found t ts rest true (Some s) e h = inr (s, refl, e, option_holds op cut found t s ts rest h)

-- what was read of an option, where one comes
abbrev Next : OpName → List Setting → List Lexeme → List Lexeme → Option Setting → Type 0
Next op found [] rest o = (o ≡ None) × ([] ≡ rest)
Next op found (t ∷ ts) rest o = ((o ≡ None) × (t ∷ ts ≡ rest) × (is_opt t.sort ≡ false)) ⊎ ((s : Setting) × (o ≡ Some s) × (is_opt t.sort ≡ true) × IsOption op found t s ts rest)

next_holds : (op : OpName) (cut : Bool) (found : List Setting) (ts rest : List Lexeme) (o : Option Setting) → next_setting_at op cut found ts ≡ Ok (o, rest) → Next op found ts rest o
unfolding opt_at
next_holds op cut found [] rest o h = let k = ok_parts (None, []) (o, rest) h in (sym k.0, k.1)
next_holds op cut found (t ∷ ts) rest o h = next_by op cut found t ts rest (is_opt t.sort) o refl h

same_some : {A : Type 0} (x y : A) → (let o : Option A = Some x in o) ≡ Some y → x ≡ y
same_some x y h = cc

-- one step of reading options
step_by : (op : OpName) (cut : Bool) (n : ℕ) (found all : List Setting) (ts us rest : List Lexeme) (o : Option Setting) → length ts ≤ suc n → ((more : List Setting) (vs : List Lexeme) → length vs ≤ n → repeated (next_setting_at op cut) append n more vs ≡ Ok (all, rest) → AreOptions op more all vs rest)
    → Next op found ts us o → if_comes o (λ s. repeated (next_setting_at op cut) append n (append found s) us) (Ok (found, us)) ≡ Ok (all, rest) → AreOptions op found all ts rest
step_by op cut n found all [] us rest None l more x h = let k = ok_parts (found, us) (all, rest) h in none_follow op found all [] rest (none_at_end op) k.0 (x.1 ∙ k.1)
step_by op cut n found all [] us rest (Some s) l more x h = let e = x.0 in absurd cc
step_by op cut n found all (t ∷ ts) us rest None l more x h =
    elim x [
      | inl a ↦ (let k = ok_parts (found, us) (all, rest) h in none_follow op found all (t ∷ ts) rest (none_ahead op t ts a.2) k.0 (a.1 ∙ k.1))
      | inr b ↦ (let e = b.1 in absurd cc)
    ]
step_by op cut n found all (t ∷ ts) us rest (Some s) l more x h =
    elim x [
      | inl a ↦ (let e = a.0 in absurd cc)
      | inr b ↦ one_follows op found all t ts us rest s b.2 (subst (λ (y : Setting). IsOption op found t y ts us) (sym (same_some s b.0 b.1)) b.3) (more (found ++ s ∷ []) us (let f = value_fewer b.3.written.row.form b.3.written.value ts us b.3.value in omega (arith, f)) h)
    ]

repeated_hold : (op : OpName) (cut : Bool) (n : ℕ) (found all : List Setting) (ts rest : List Lexeme) → length ts ≤ n → repeated (next_setting_at op cut) append n found ts ≡ Ok (all, rest) → AreOptions op found all ts rest
unfolding repeated
repeated_hold op cut zero found all [] rest l h = let k = ok_parts (found, []) (all, rest) h in none_follow op found all [] rest (none_at_end op) k.0 k.1
repeated_hold op cut zero found all (t ∷ ts) rest l h = absurd (omega arith)
repeated_hold op cut (suc n) found all ts rest l h =
    let a = bind_ok (next_setting_at op cut found ts) _ (all, rest) h in
    step_by op cut n found all ts a.0.1 rest a.0.0 l (λ more vs m k. repeated_hold op cut n more all vs rest m k) (next_holds op cut found ts a.0.1 a.0.0 a.1) a.2

-- ---- an operator with its options

pub record IsHead (before : ℕ) (cut : Bool) (op : OpName) (kind : OpKind) (ts rest : List Lexeme) : Type 0 where
  pub options : List WrittenOption
  pub stand : cut ≡ false → (token sort.Word (λ bytes. operator_named bytes ≡ Some op) ~ nothing_where (AreComplete op options) ~ options_phrase op options) ts rest
  pub together : StandTogether [] options
  pub says : kind_of op (map setting_of options) ≡ Some kind
  pub room : nat_le 200 before ≡ false

not_missing_by : (l e cut : Bool) → cut ≡ false → (l && not (e && cut)) ≡ false → l ≡ false
not_missing_by false e cut c h = refl
not_missing_by true true true c h = c
not_missing_by true true false c h = absurd cc
not_missing_by true false cut c h = absurd cc

not_missing : (op : OpName) (cut : Bool) (ts : List Lexeme) → is_missing op cut ts ≡ false → cut ≡ false → lacks_option op ts ≡ false
not_missing op cut ts h c = not_missing_by (lacks_option op ts) (ends_ahead false ts) cut c h

operator_is : (o : Option OpName) (w : Lexeme) (op : OpName) → operator_of o w ≡ Ok op → o ≡ Some op
operator_is None w op h = absurd cc
operator_is (Some p) w op h = let e : p ≡ op = cc in ap (λ x. Some x) e

complete_is : (o : Option OpKind) (kind : OpKind) → complete o ≡ Ok kind → o ≡ Some kind
complete_is None kind h = absurd cc
complete_is (Some k) kind h = let e : k ≡ kind = cc in ap (λ x. Some x) e

pub head_holds : (before : ℕ) (cut : Bool) (ts rest : List Lexeme) (h : OpName × OpKind) → head_at before cut ts ≡ Ok (h, rest) → IsHead before cut h.0 h.1 ts rest
unfolding head_at
head_holds before cut ts rest h r =
    let a = bind_ok (sort_at sort.Word why.Syntax ts) _ (h, rest) r in
    let b = bind_ok (operator_of (operator_named a.0.0.bytes) a.0.0) _ (h, rest) a.2 in
    let c = passed_test (is_missing b.0 cut a.0.1) b.0 _ _ (h, rest) b.2 in
    let d = passed_test (nat_le 200 before) b.0 _ _ (h, rest) c.1 in
    let e = bind_ok (settings_at b.0 cut a.0.1) _ (h, rest) d.1 in
    let f = bind_ok (complete (kind_of b.0 e.0.0)) _ (h, rest) e.2 in
    let k = ok_parts ((b.0, f.0), e.0.1) (h, rest) f.2 in
    let p = pair_parts (b.0, f.0) h k.0 in
    let s = sort_taken sort.Word why.Syntax ts a.0.1 a.0.0 a.1 in
    let o = repeated_hold b.0 cut (length a.0.1) [] e.0.0 a.0.1 e.0.1 (omega arith) e.1 in
    let made : IsHead before cut b.0 f.0 ts e.0.1 = record {
      options = o.others;
      stand = λ whole. subst (λ (us : List Lexeme). (token sort.Word (λ bytes. operator_named bytes ≡ Some b.0) ~ nothing_where (AreComplete b.0 o.others) ~ options_phrase b.0 o.others) us e.0.1) (sym s.0) (a.0.1, (s.1, operator_is (operator_named a.0.0.bytes) a.0.0 b.0 b.1, refl), (a.0.1, (are_complete b.0 o.others a.0.1 o.tells (not_missing b.0 cut a.0.1 c.0 whole), refl), o.stand));
      together = o.together;
      says = ap (kind_of b.0) (sym o.joined) ∙ complete_is (kind_of b.0 e.0.0) f.0 f.1;
      room = d.0;
    } in
    subst (λ (us : List Lexeme). IsHead before cut h.0 h.1 ts us) k.1 (subst (λ (x : OpKind). IsHead before cut h.0 x ts e.0.1) p.1 (subst (λ (x : OpName). IsHead before cut x f.0 ts e.0.1) p.0 made))
