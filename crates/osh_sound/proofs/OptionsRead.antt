-- What is spelled as an operator with its options is read as it.
use Rattle.std.proofs.Common.{◌≡◌, ◌≤◌, ℕ, zero, suc, List, [], ◌∷◌, ◌++◌, length, map, Bool, true, false, Ok, Some, None, refl, sym, ap, ◌∙◌, subst, append_assoc, arith}
use Rattle.std.specs.Prelude.{nat_le, not, ◌&&◌}
use Rattle.std.specs.Option.{is_none}
use Rattle.std.proofs.lemmas.List.{append-nil}
use Rattle.ds_lex.specs.declared.token.Sort.TheVariants as sort
use Rattle.ds_lex.specs.Lexemes.{Lexeme}
use Rattle.ds_lex.specs.Reading.{first_of}
use Rattle.ds_lex.specs.Phrases.{token, nothing_where, ◌~◌}
use Rattle.flow_graph.specs.declared.op_kind.OpKind.{OpKind}
use Rattle.osh_table.specs.declared.operator.OpName.{OpName}
use Rattle.osh_table.specs.declared.option.Form.{Form}
use Rattle.osh_table.specs.declared.option.Form.TheVariants as form
use Rattle.osh_table.specs.Words.{operator_named}
use Rattle.osh_table.specs.Options.{row_named}
use Rattle.osh_value.specs.declared.value.OptValue.{OptValue}
use Rattle.osh_value.specs.declared.setting.Setting.{Setting}
use Rattle.osh_value.specs.Values.{content_of}
use Rattle.osh_value.specs.Kinds.{kind_of}
use Rattle.osh_value.proofs.ValuesSpelled.{spelled_value}
use Rattle.osh_read.specs.declared.fault.OshWhy.TheVariants as why
use Rattle.osh_read.specs.Reading.{repeated, append}
use Rattle.osh_read.specs.Options.{is_value, is_opt, is_flag, value_comes, lacks_value, clashes, taken_at, setting_at, opt_at, next_setting_at, is_missing, lacks_option, head_at}
use Rattle.osh_sound.specs.Grammar.{WrittenOption, setting_of, value_phrase, options_phrase, StandTogether, AreComplete}
use Rattle.osh_sound.proofs.OptionsComplete.{NoValue, none_lacks}
use Rattle.osh_sound.proofs.TokensSound.{Plain}
use Rattle.osh_sound.proofs.PhrasesPass.{value_pass}
use Rattle.osh_sound.proofs.MethodsRead.{sort_reads}

-- neither an option nor a value stands in front
abbrev pub PlainFront : List Lexeme → Type 0
PlainFront [] = Unit {0}
PlainFront (t ∷ ts) = Plain t.sort

value_read : (f : Form) (v : OptValue) (ts rest : List Lexeme) → value_phrase f v ts rest → NoValue rest → taken_at f ts ≡ Ok (v, rest)
value_read form.Flag v [] rest h n = rw (h.0, ← h.1) refl
value_read form.Flag v (t ∷ ts) rest h n =
    let plain : is_value t.sort ≡ false = subst NoValue (sym h.1) n in
    rw (plain, h.0, ← h.1) refl
value_read f v [] rest h n = absurd h
value_read f v (t ∷ ts) rest h n = rw (h.0, spelled_value f (content_of t) v h.1, h.2) refl

needs_by : (f : Form) (v : OptValue) (cut : Bool) (ts rest : List Lexeme) → value_phrase f v ts rest → (not (is_flag f) && (not (value_comes (first_of ts)) && not (cut && is_none (first_of ts)))) ≡ false
needs_by form.Flag v cut ts rest h = refl
needs_by f v cut [] rest h = absurd h
needs_by f v cut (t ∷ ts) rest h = rw h.0 refl

setting_reads : (op : OpName) (cut : Bool) (found : List Setting) (w : WrittenOption) (o : Lexeme) (ts rest : List Lexeme) → row_named op o.bytes ≡ Some w.row → clashes found w.row.group ≡ false → value_phrase w.row.form w.value ts rest → NoValue rest → setting_at op cut found o ts ≡ Ok (Some (setting_of w), rest)
unfolding setting_at
setting_reads op cut found w o ts rest r c v n =
    let needs : lacks_value w.row cut (first_of ts) ≡ false = needs_by w.row.form w.value cut ts rest v in
    rw (r, needs, c, value_read w.row.form w.value ts rest v n) refl

-- what stands behind an option is another one, or what stands behind all
no_value : (op : OpName) (ws : List WrittenOption) (ts rest : List Lexeme) → options_phrase op ws ts rest → PlainFront rest → NoValue ts
no_value op [] [] rest h p = tt
no_value op [] (t ∷ ts) rest h p = let q : Plain t.sort = subst PlainFront (sym h) p in q.1
no_value op (w ∷ ws) [] rest h p = absurd h.1.1
no_value op (w ∷ ws) (t ∷ ts) rest h p = ap is_value h.1.1.0

none_next : (op : OpName) (cut : Bool) (found : List Setting) (ts : List Lexeme) → PlainFront ts → next_setting_at op cut found ts ≡ Ok (None, ts)
unfolding opt_at
none_next op cut found [] p = refl
none_next op cut found (t ∷ ts) p = rw p.0 refl

one_next : (op : OpName) (cut : Bool) (found : List Setting) (w : WrittenOption) (t : Lexeme) (ts us : List Lexeme) → t.sort ≡ sort.Opt → setting_at op cut found t ts ≡ Ok (Some (setting_of w), us) → next_setting_at op cut found (t ∷ ts) ≡ Ok (Some (setting_of w), us)
unfolding opt_at
one_next op cut found w t ts us e h = let p : is_opt t.sort ≡ true = ap is_opt e in rw p h

options_read : (n : ℕ) (op : OpName) (cut : Bool) (found : List Setting) (ws : List WrittenOption) (ts rest : List Lexeme) → length ts ≤ n → options_phrase op ws ts rest → StandTogether found ws → PlainFront rest → repeated (next_setting_at op cut) append n found ts ≡ Ok (found ++ map setting_of ws, rest)
unfolding repeated
options_read zero op cut found [] ts rest l h s p = rw (append-nil found, h) refl
options_read (suc n) op cut found [] ts rest l h s p =
    let plain : PlainFront ts = subst PlainFront (sym h) p in
    rw (none_next op cut found ts plain, append-nil found, h) refl
options_read zero op cut found (w ∷ ws) [] rest l h s p = absurd h.1.1
options_read zero op cut found (w ∷ ws) (t ∷ ts) rest l h s p = absurd (omega arith)
options_read (suc n) op cut found (w ∷ ws) [] rest l h s p = absurd h.1.1
options_read (suc n) op cut found (w ∷ ws) (t ∷ ts) rest l h s p =
    let o = h.1 in
    let value : value_phrase w.row.form w.value ts h.0 = subst (λ (xs : List Lexeme). value_phrase w.row.form w.value xs h.0) (sym o.1.2) o.2 in
    let one = one_next op cut found w t ts h.0 o.1.0 (setting_reads op cut found w t ts h.0 o.1.1 s.0 value (no_value op ws h.0 rest h.2 p)) in
    let few = (value_pass w.row.form w.value ts h.0 value).fewer in
    rw one (options_read n op cut (found ++ setting_of w ∷ []) ws h.0 rest (omega arith) h.2 s.1 p ∙ ap (λ (xs : List Setting). Ok (xs, rest)) (append_assoc found (setting_of w ∷ []) (map setting_of ws)))

pub head_reads : (before : ℕ) (op : OpName) (ws : List WrittenOption) (kind : OpKind) (ts rest : List Lexeme) → (token sort.Word (λ bytes. operator_named bytes ≡ Some op) ~ nothing_where (AreComplete op ws) ~ options_phrase op ws) ts rest → StandTogether [] ws → kind_of op (map setting_of ws) ≡ Some kind → nat_le 200 before ≡ false → PlainFront rest
    → head_at before false ts ≡ Ok ((op, kind), rest)
unfolding head_at
head_reads before op ws kind [] rest h s k r p = absurd h.1
head_reads before op ws kind (t ∷ ts) rest h s k r p =
    let word = h.1 in
    let same : ts ≡ h.2.0 = word.2 ∙ h.2.1.1 in
    let options : options_phrase op ws ts rest = subst (λ (xs : List Lexeme). options_phrase op ws xs rest) (sym same) h.2.2 in
    let lacks : lacks_option op ts ≡ false = none_lacks op ws ts rest h.2.1.0 options in
    let missing : is_missing op false ts ≡ false = rw lacks refl in
    let read = options_read (length ts) op false [] ws ts rest (omega arith) options s p in
    rw (sort_reads sort.Word why.Syntax t ts word.0, word.1, missing, r, read, k) refl
