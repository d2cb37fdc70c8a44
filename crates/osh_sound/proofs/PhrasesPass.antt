-- What is left behind a phrase: no more tokens than stood there, which are tokens of the grammar if those were.
use Rattle.std.proofs.Common.{◌≡◌, ◌≤◌, inl, inr, ℕ, List, [], ◌∷◌, length, Bool, true, false, ap, subst, arith}
use Rattle.std.specs.Prelude.{codes}
use Rattle.ds_lex.specs.declared.token.Sort.{Sort}
use Rattle.ds_lex.specs.Lexemes.{Lexeme}
use Rattle.ds_lex.specs.Phrases.{Phrase, word, token, nothing, nothing_where, ◌~◌, ◌<|>◌}
use Rattle.ds_schema.specs.ColumnGrammar.{name_phrase, key_phrase, desc_phrase, further, listed, names_form, keys_form}
use Rattle.flow_graph.specs.declared.flow.Mark.{Mark}
use Rattle.flow_graph.specs.declared.flow.Mark.TheVariants as mark
use Rattle.flow_graph.specs.declared.flow.Method.{Method}
use Rattle.flow_graph.specs.declared.flow.Method.TheVariants as method
use Rattle.flow_graph.specs.declared.flow.Flag.{Flag}
use Rattle.flow_graph.specs.declared.flow.Flag.TheVariants as flag
use Rattle.osh_table.specs.declared.operator.OpName.{OpName}
use Rattle.osh_table.specs.declared.option.Form.{Form}
use Rattle.osh_table.specs.declared.option.Form.TheVariants as form
use Rattle.osh_value.specs.declared.value.OptValue.{OptValue}
use Rattle.osh_read.specs.declared.stage.Redirect.{Redirect}
use Rattle.osh_read.specs.declared.stage.Redirect.TheVariants as redirect
use Rattle.osh_value.specs.ValueGrammar.{sign}
use Rattle.osh_sound.specs.Grammar.{flag_word, name_form, kind_phrase, inside_phrase, method_phrase, WrittenOption, value_phrase, options_phrase, mark_word, mark_phrase, redirect_phrase, redirects_phrase}
use Rattle.osh_sound.proofs.TokensSound.{AllSound}

pub record Left (ts rest : List Lexeme) : Type 0 where
  pub sound : AllSound ts → AllSound rest
  pub fewer : length rest ≤ length ts

abbrev pub Passes : Phrase → Type 0
Passes P = (ts rest : List Lexeme) → P ts rest → Left ts rest

pub same_left : (ts rest : List Lexeme) → ts ≡ rest → Left ts rest
same_left ts rest e = record { sound = λ s. subst AllSound e s; fewer = (let l = ap length e in omega arith) }

pub one_left : (t : Lexeme) (ts rest : List Lexeme) → ts ≡ rest → Left (t ∷ ts) rest
one_left t ts rest e = record { sound = λ s. subst AllSound e s.1; fewer = (let l = ap length e in omega arith) }

pub then_left : (ts us rest : List Lexeme) → Left ts us → Left us rest → Left ts rest
then_left ts us rest a b = record { sound = λ s. b.sound (a.sound s); fewer = (let x = a.fewer in let y = b.fewer in omega arith) }

pub word_pass : (bytes : List ℕ) → Passes (word bytes)
word_pass bytes [] rest h = absurd h
word_pass bytes (t ∷ ts) rest h = one_left t ts rest h.1

pub token_pass : (s : Sort) (Is : List ℕ → Type 0) → Passes (token s Is)
token_pass s Is [] rest h = absurd h
token_pass s Is (t ∷ ts) rest h = one_left t ts rest h.2

pub nothing_pass : Passes nothing
nothing_pass ts rest h = same_left ts rest h

pub where_pass : (P : Type 0) → Passes (nothing_where P)
where_pass P ts rest h = same_left ts rest h.1

pub then_pass : (P Q : Phrase) → Passes P → Passes Q → Passes (P ~ Q)
then_pass P Q p q ts rest h = then_left ts h.0 rest (p ts h.0 h.1) (q h.0 rest h.2)

pub or_pass : (P Q : Phrase) → Passes P → Passes Q → Passes (P <|> Q)
or_pass P Q p q ts rest h = elim h [ inl a ↦ p ts rest a | inr b ↦ q ts rest b ]

-- ---- lists

further_pass : {X : Type 0} (one : X → Phrase) → ((x : X) → Passes (one x)) → (xs : List X) → Passes (further one xs)
further_pass one p [] ts rest h = nothing_pass ts rest h
further_pass one p (x ∷ xs) ts rest h = then_left ts h.0 rest (word_pass (codes ",") ts h.0 h.1) (then_left h.0 h.2.0 rest (p x h.0 h.2.0 h.2.1) (further_pass one p xs h.2.0 rest h.2.2))

listed_pass : {X : Type 0} (one : X → Phrase) → ((x : X) → Passes (one x)) → (xs : List X) → Passes (listed one xs)
listed_pass one p [] ts rest h = absurd h
listed_pass one p (x ∷ xs) ts rest h = then_left ts h.0 rest (p x ts h.0 h.1) (further_pass one p xs h.0 rest h.2)

desc_pass : (b : Bool) → Passes (desc_phrase b)
desc_pass true = word_pass (codes "desc")
desc_pass false = nothing_pass

key_pass : (k : List ℕ × Bool) → Passes (key_phrase k)
key_pass k ts rest h = then_left ts h.0 rest (token_pass _ _ ts h.0 h.1) (desc_pass k.1 h.0 rest h.2)

names_pass : (names : List (List ℕ)) → Passes (names_form names)
names_pass names ts rest h = listed_pass name_phrase (λ n. token_pass _ _) names ts rest h.1

keys_pass : (keys : List (List ℕ × Bool)) → Passes (keys_form keys)
keys_pass keys ts rest h = listed_pass key_phrase key_pass keys ts rest h.1

-- ---- methods

flag_pass : (f : Flag) → Passes (flag_word f)
flag_pass flag.Set = word_pass (codes "set")
flag_pass flag.Clear = word_pass (codes "clear")
flag_pass flag.Prop = word_pass (codes "prop")

kind_pass : (m : Method) → Passes (kind_phrase m)
kind_pass method.Auto = word_pass (codes "auto")
kind_pass method.Same = word_pass (codes "same")
kind_pass method.RoundRobin = word_pass (codes "rr")
kind_pass method.Entire = word_pass (codes "entire")
kind_pass (method.Hash names) = then_pass (word (codes "hash")) (names_form names) (word_pass (codes "hash")) (names_pass names)
kind_pass (method.Modulus name) = then_pass (word (codes "modulus")) (name_form name) (word_pass (codes "modulus")) (token_pass _ _)
kind_pass method.Any = word_pass (codes "any")
kind_pass method.Ordered = word_pass (codes "ordered")
kind_pass (method.Merge keys) = then_pass (word (codes "merge")) (keys_form keys) (word_pass (codes "merge")) (keys_pass keys)

inside_pass : (m : Method) (f : Flag) → Passes (inside_phrase m f)
inside_pass m f ts rest h =
    elim h [
      | inl a ↦ then_left ts a.0 rest (where_pass _ ts a.0 a.1) (flag_pass f a.0 rest a.2)
      | inr b ↦ then_left ts b.0 rest (kind_pass m ts b.0 b.1) (or_pass (flag_word f) _ (flag_pass f) (where_pass _) b.0 rest b.2)
    ]

pub method_pass : (m : Method) (f : Flag) → Passes (method_phrase m f)
method_pass m f ts rest h =
    elim h [
      | inl a ↦ then_left ts a.0 rest (word_pass (codes "[") ts a.0 a.1) (then_left a.0 a.2.0 rest (inside_pass m f a.0 a.2.0 a.2.1) (word_pass (codes "]") a.2.0 rest a.2.2))
      | inr b ↦ where_pass _ ts rest b
    ]

-- ---- stages

pub value_pass : (f : Form) (v : OptValue) → Passes (value_phrase f v)
value_pass form.Flag v ts rest h = where_pass _ ts rest h
value_pass f v [] rest h = absurd h
value_pass f v (t ∷ ts) rest h = one_left t ts rest h.2

pub options_pass : (o : OpName) (ws : List WrittenOption) → Passes (options_phrase o ws)
options_pass o [] ts rest h = nothing_pass ts rest h
options_pass o (w ∷ ws) ts rest h = then_left ts h.0 rest (then_left ts h.1.0 h.0 (token_pass _ _ ts h.1.0 h.1.1) (value_pass w.row.form w.value h.1.0 h.0 h.1.2)) (options_pass o ws h.0 rest h.2)

mark_word_pass : (m : Mark) → Passes (mark_word m)
mark_word_pass mark.Seq = word_pass (codes "seq")
mark_word_pass mark.Par = word_pass (codes "par")
mark_word_pass mark.Stored = where_pass _

pub mark_pass : (o : OpName) (m : Mark) → Passes (mark_phrase o m)
mark_pass o m ts rest h =
    elim h [
      | inl a ↦ then_left ts a.0 rest (where_pass _ ts a.0 a.1) (then_left a.0 a.2.0 rest (word_pass (codes "[") a.0 a.2.0 a.2.1) (then_left a.2.0 a.2.2.0 rest (mark_word_pass m a.2.0 a.2.2.0 a.2.2.1) (word_pass (codes "]") a.2.2.0 rest a.2.2.2)))
      | inr b ↦ where_pass _ ts rest b
    ]

pub sign_pass : (at : ℕ) (bytes : List ℕ) → Passes (sign at bytes)
sign_pass at bytes [] rest h = absurd h
sign_pass at bytes (t ∷ ts) rest h = one_left t ts rest h.2

pub redirect_pass : (r : Redirect) → Passes (redirect_phrase r)
redirect_pass (redirect.In at name m f) ts rest h = then_left ts h.0 rest (sign_pass at (codes "<") ts h.0 h.1) (then_left h.0 h.2.0 rest (method_pass m f h.0 h.2.0 h.2.1) (token_pass _ _ h.2.0 rest h.2.2))
redirect_pass (redirect.Out at name) ts rest h = then_left ts h.0 rest (sign_pass at (codes ">") ts h.0 h.1) (token_pass _ _ h.0 rest h.2)

pub redirects_pass : (rs : List Redirect) → Passes (redirects_phrase rs)
redirects_pass [] ts rest h = nothing_pass ts rest h
redirects_pass (r ∷ rs) ts rest h = then_left ts h.0 rest (redirect_pass r ts h.0 h.1) (redirects_pass rs h.0 rest h.2)
