-- What is read as a method is one.
use Rattle.std.proofs.Common.{◌≡◌, inl, inr, ℕ, List, ◌∷◌, Bool, true, false, Result, Ok, Option, Some, None, refl, sym, ap, ◌∙◌, subst}
use Rattle.std.specs.Prelude.{if◌then◌else◌, codes}
use Rattle.std.specs.Str.{bytes_eq}
use Rattle.ds_value.specs.Names.{IsName}
use Rattle.ds_lex.specs.declared.token.Sort.TheVariants as sort
use Rattle.ds_lex.specs.declared.refusal.Refusal.{Refusal}
use Rattle.ds_lex.specs.Lexemes.{Lexeme}
use Rattle.ds_lex.specs.Reading.{◌>>=◌, refuse, sort_at, expect_at, accept_at}
use Rattle.ds_lex.specs.Phrases.{Phrase, word, nothing_where, ◌~◌, ◌<|>◌}
use Rattle.ds_lex.proofs.Readers.{bind_ok, same_bytes}
use Rattle.ds_schema.specs.ColumnGrammar.{names_form, keys_form}
use Rattle.ds_schema.specs.ColumnReading.{is_name, held, name_at, names_at, keys_at}
use Rattle.ds_schema.proofs.ListReaders.{ok_parts, accepted, passed}
use Rattle.ds_schema.proofs.ColumnLists.{names_stand, keys_stand}
use Rattle.flow_graph.specs.declared.flow.Method.{Method}
use Rattle.flow_graph.specs.declared.flow.Method.TheVariants as method
use Rattle.flow_graph.specs.declared.flow.Flag.{Flag}
use Rattle.flow_graph.specs.declared.flow.Flag.TheVariants as flag
use Rattle.osh_value.proofs.Names.{tested_name}
use Rattle.osh_read.specs.declared.fault.OshWhy.{OshWhy}
use Rattle.osh_read.specs.declared.fault.OshWhy.TheVariants as why
use Rattle.osh_read.specs.Methods.{flag_named, method_named, method_of, kind_at, prop_at, clear_at, flag_at, closed_at, behind_at, bracket_at, method_at}
use Rattle.osh_sound.specs.Grammar.{flag_word, name_form, kind_phrase, inside_phrase, method_phrase}
use Rattle.osh_sound.proofs.Fronts.{pair_parts, one_of, sort_taken, expect_taken}

-- ---- flags

pub flag_meant : (w : Lexeme) (ts : List Lexeme) (f : Flag) → flag_named w.bytes ≡ Some f → flag_word f (w ∷ ts) ts
flag_meant w ts f h =
    elim (one_of (bytes_eq w.bytes (codes "set")) flag.Set f _ h) [
      | inl a ↦ subst (λ x. flag_word x (w ∷ ts) ts) a.1 (same_bytes w.bytes _ a.0, refl)
      | inr b ↦ elim (one_of (bytes_eq w.bytes (codes "clear")) flag.Clear f _ b) [
        | inl a ↦ subst (λ x. flag_word x (w ∷ ts) ts) a.1 (same_bytes w.bytes _ a.0, refl)
        | inr c ↦ elim (one_of (bytes_eq w.bytes (codes "prop")) flag.Prop f None c) [
          | inl a ↦ subst (λ x. flag_word x (w ∷ ts) ts) a.1 (same_bytes w.bytes _ a.0, refl)
          | inr d ↦ absurd cc
        ]
      ]
    ]

-- a flag, or prop where none stands
abbrev flagged : Flag × List Lexeme → List Lexeme → Type 0
flagged p ts = (flag_word p.0 <|> nothing_where (p.0 ≡ flag.Prop)) ts p.1

prop_by : (ts : List Lexeme) (p : Bool × List Lexeme) → accept_at (codes "prop") ts ≡ p → flagged (flag.Prop, p.1) ts
prop_by ts (true, us) e = inl (accepted (codes "prop") ts us e)
prop_by ts (false, us) e = inr (refl, sym (passed (codes "prop") ts us e))

clear_by : (ts : List Lexeme) (p : Bool × List Lexeme) → accept_at (codes "clear") ts ≡ p → flagged (if p.0 then (flag.Clear, p.1) else prop_at p.1) ts
clear_by ts (true, us) e = inl (accepted (codes "clear") ts us e)
clear_by ts (false, us) e = subst (flagged (prop_at us)) (passed (codes "clear") ts us e) (prop_by us (accept_at (codes "prop") us) refl)

set_by : (ts : List Lexeme) (p : Bool × List Lexeme) → accept_at (codes "set") ts ≡ p → flagged (if p.0 then (flag.Set, p.1) else clear_at p.1) ts
set_by ts (true, us) e = inl (accepted (codes "set") ts us e)
set_by ts (false, us) e = subst (flagged (clear_at us)) (passed (codes "set") ts us e) (clear_by us (accept_at (codes "clear") us) refl)

flag_holds : (ts : List Lexeme) → flagged (flag_at ts) ts
unfolding flag_at
flag_holds ts = set_by ts (accept_at (codes "set") ts) refl

-- ---- kinds

method_meant : (w : Lexeme) (ts : List Lexeme) (m : Method) → method_named w.bytes ≡ Some m → kind_phrase m (w ∷ ts) ts
method_meant w ts m h =
    elim (one_of (bytes_eq w.bytes (codes "auto")) method.Auto m _ h) [
      | inl a ↦ subst (λ x. kind_phrase x (w ∷ ts) ts) a.1 (same_bytes w.bytes _ a.0, refl)
      | inr h1 ↦ elim (one_of (bytes_eq w.bytes (codes "same")) method.Same m _ h1) [
        | inl a ↦ subst (λ x. kind_phrase x (w ∷ ts) ts) a.1 (same_bytes w.bytes _ a.0, refl)
        | inr h2 ↦ elim (one_of (bytes_eq w.bytes (codes "rr")) method.RoundRobin m _ h2) [
          | inl a ↦ subst (λ x. kind_phrase x (w ∷ ts) ts) a.1 (same_bytes w.bytes _ a.0, refl)
          | inr h3 ↦ elim (one_of (bytes_eq w.bytes (codes "entire")) method.Entire m _ h3) [
            | inl a ↦ subst (λ x. kind_phrase x (w ∷ ts) ts) a.1 (same_bytes w.bytes _ a.0, refl)
            | inr h4 ↦ elim (one_of (bytes_eq w.bytes (codes "any")) method.Any m _ h4) [
              | inl a ↦ subst (λ x. kind_phrase x (w ∷ ts) ts) a.1 (same_bytes w.bytes _ a.0, refl)
              | inr h5 ↦ elim (one_of (bytes_eq w.bytes (codes "ordered")) method.Ordered m None h5) [
                | inl a ↦ subst (λ x. kind_phrase x (w ∷ ts) ts) a.1 (same_bytes w.bytes _ a.0, refl)
                | inr h6 ↦ absurd cc
              ]
            ]
          ]
        ]
      ]
    ]

named_by : (w : Lexeme) (ts rest : List Lexeme) (m : Method) (o : Option Method) → method_named w.bytes ≡ o → method_of w ts o ≡ Ok (m, rest) → kind_phrase m (w ∷ ts) rest
named_by w ts rest m None e h = absurd cc
named_by w ts rest m (Some k) e h =
    let p = ok_parts (k, ts) (m, rest) h in
    subst (λ (us : List Lexeme). kind_phrase m (w ∷ ts) us) p.1 (method_meant w ts m (e ∙ ap (λ x. Some x) p.0))

held_by : (w : Lexeme) (name : List ℕ) (b : Bool) → is_name w.bytes ≡ b → (let r : Result (List ℕ) (Refusal OshWhy) = if b then Ok w.bytes else refuse w why.Syntax in r) ≡ Ok name → (w.bytes ≡ name) × IsName w.bytes
held_by w name true e h = ((let k : w.bytes ≡ name = cc in k), tested_name w.bytes e)
held_by w name false e h = absurd cc

name_holds : (ts rest : List Lexeme) (name : List ℕ) → name_at why.Syntax ts ≡ Ok (name, rest) → name_form name ts rest
unfolding name_at
name_holds ts rest name h =
    let a = bind_ok (sort_at sort.Word why.Syntax ts) _ (name, rest) h in
    let b = bind_ok (held why.Syntax a.0.0) _ (name, rest) a.2 in
    let k = ok_parts (b.0, a.0.1) (name, rest) b.2 in
    let n = held_by a.0.0 b.0 (is_name a.0.0.bytes) refl b.1 in
    let s = sort_taken sort.Word why.Syntax ts a.0.1 a.0.0 a.1 in
    subst (λ (us : List Lexeme). name_form name us rest) (sym s.0) (s.1, (n.0 ∙ k.0, n.1), k.1)

merge_by : (w : Lexeme) (ts rest : List Lexeme) (m : Method) (b : Bool) → bytes_eq w.bytes (codes "merge") ≡ b → (if b then (keys_at why.Syntax ts >>= λ k. Ok (method.Merge k.0, k.1)) else method_of w ts (method_named w.bytes)) ≡ Ok (m, rest) → kind_phrase m (w ∷ ts) rest
merge_by w ts rest m false e h = named_by w ts rest m (method_named w.bytes) refl h
merge_by w ts rest m true e h =
    let a = bind_ok (keys_at why.Syntax ts) _ (m, rest) h in
    let k = ok_parts (method.Merge a.0.0, a.0.1) (m, rest) a.2 in
    subst (λ (x : Method). kind_phrase x (w ∷ ts) rest) k.0 (ts, (same_bytes w.bytes _ e, refl), subst (λ (us : List Lexeme). keys_form a.0.0 ts us) k.1 (keys_stand why.Syntax ts a.0.1 a.0.0 a.1))

modulus_by : (w : Lexeme) (ts rest : List Lexeme) (m : Method) (b : Bool) → bytes_eq w.bytes (codes "modulus") ≡ b → (if b then (name_at why.Syntax ts >>= λ n. Ok (method.Modulus n.0, n.1)) else if bytes_eq w.bytes (codes "merge") then (keys_at why.Syntax ts >>= λ k. Ok (method.Merge k.0, k.1)) else method_of w ts (method_named w.bytes)) ≡ Ok (m, rest) → kind_phrase m (w ∷ ts) rest
modulus_by w ts rest m false e h = merge_by w ts rest m (bytes_eq w.bytes (codes "merge")) refl h
modulus_by w ts rest m true e h =
    let a = bind_ok (name_at why.Syntax ts) _ (m, rest) h in
    let k = ok_parts (method.Modulus a.0.0, a.0.1) (m, rest) a.2 in
    subst (λ (x : Method). kind_phrase x (w ∷ ts) rest) k.0 (ts, (same_bytes w.bytes _ e, refl), subst (λ (us : List Lexeme). name_form a.0.0 ts us) k.1 (name_holds ts a.0.1 a.0.0 a.1))

hash_by : (w : Lexeme) (ts rest : List Lexeme) (m : Method) (b : Bool) → bytes_eq w.bytes (codes "hash") ≡ b → (if b then (names_at why.Syntax ts >>= λ n. Ok (method.Hash n.0, n.1)) else if bytes_eq w.bytes (codes "modulus") then (name_at why.Syntax ts >>= λ n. Ok (method.Modulus n.0, n.1)) else if bytes_eq w.bytes (codes "merge") then (keys_at why.Syntax ts >>= λ k. Ok (method.Merge k.0, k.1)) else method_of w ts (method_named w.bytes)) ≡ Ok (m, rest) → kind_phrase m (w ∷ ts) rest
hash_by w ts rest m false e h = modulus_by w ts rest m (bytes_eq w.bytes (codes "modulus")) refl h
hash_by w ts rest m true e h =
    let a = bind_ok (names_at why.Syntax ts) _ (m, rest) h in
    let k = ok_parts (method.Hash a.0.0, a.0.1) (m, rest) a.2 in
    subst (λ (x : Method). kind_phrase x (w ∷ ts) rest) k.0 (ts, (same_bytes w.bytes _ e, refl), subst (λ (us : List Lexeme). names_form a.0.0 ts us) k.1 (names_stand why.Syntax ts a.0.1 a.0.0 a.1))

kind_holds : (w : Lexeme) (ts rest : List Lexeme) (m : Method) → kind_at w ts ≡ Ok (m, rest) → kind_phrase m (w ∷ ts) rest
unfolding kind_at
kind_holds w ts rest m h = hash_by w ts rest m (bytes_eq w.bytes (codes "hash")) refl h

-- ---- methods

abbrev method_is : Method → Flag → Method × Flag → Type 0
method_is m f p = (m ≡ p.0) × (f ≡ p.1)

closed_holds : (m : Method) (f : Flag) (ts rest : List Lexeme) (p : Method × Flag) → closed_at m f ts ≡ Ok (p, rest) → method_is m f p × word (codes "]") ts rest
unfolding closed_at
closed_holds m f ts rest p h =
    let a = bind_ok (expect_at (codes "]") why.Syntax ts) _ (p, rest) h in
    let k = ok_parts ((m, f), a.0.1) (p, rest) a.2 in
    (pair_parts (m, f) p k.0, subst (word (codes "]") ts) k.1 (expect_taken (codes "]") why.Syntax ts a.0.1 a.0.0 a.1))

abbrev inside : Method × Flag → Phrase
inside p = inside_phrase p.0 p.1 ~ word (codes "]")

behind_by : (w : Lexeme) (ts rest : List Lexeme) (p : Method × Flag) (o : Option Flag) → flag_named w.bytes ≡ o → behind_at o w ts ≡ Ok (p, rest) → inside p (w ∷ ts) rest
unfolding behind_at
behind_by w ts rest p (Some f) e h =
    let c = closed_holds method.Auto f ts rest p h in
    let flagged : flag_word p.1 (w ∷ ts) ts = flag_meant w ts p.1 (e ∙ ap (λ x. Some x) c.0.1) in
    (ts, inl (w ∷ ts, (sym c.0.0, refl), flagged), c.1)
behind_by w ts rest p None e h =
    let a = bind_ok (kind_at w ts) _ (p, rest) h in
    let c = closed_holds a.0.0 (flag_at a.0.1).0 (flag_at a.0.1).1 rest p a.2 in
    let kind : kind_phrase p.0 (w ∷ ts) a.0.1 = subst (λ (x : Method). kind_phrase x (w ∷ ts) a.0.1) c.0.0 (kind_holds w ts a.0.1 a.0.0 a.1) in
    let flagged : (flag_word p.1 <|> nothing_where (p.1 ≡ flag.Prop)) a.0.1 (flag_at a.0.1).1 = subst (λ (x : Flag). (flag_word x <|> nothing_where (x ≡ flag.Prop)) a.0.1 (flag_at a.0.1).1) c.0.1 (flag_holds a.0.1) in
    ((flag_at a.0.1).1, inr (a.0.1, kind, flagged), c.1)

bracket_holds : (ts rest : List Lexeme) (p : Method × Flag) → bracket_at ts ≡ Ok (p, rest) → inside p ts rest
unfolding bracket_at
bracket_holds ts rest p h =
    let a = bind_ok (sort_at sort.Word why.Syntax ts) _ (p, rest) h in
    let s = sort_taken sort.Word why.Syntax ts a.0.1 a.0.0 a.1 in
    subst (λ (us : List Lexeme). inside p us rest) (sym s.0) (behind_by a.0.0 a.0.1 rest p (flag_named a.0.0.bytes) refl a.2)

method_by : (ts rest : List Lexeme) (p : Method × Flag) (b : Bool × List Lexeme) → accept_at (codes "[") ts ≡ b → (if b.0 then bracket_at b.1 else Ok ((method.Auto, flag.Prop), b.1)) ≡ Ok (p, rest) → method_phrase p.0 p.1 ts rest
method_by ts rest p (true, us) e h =
    let i = bracket_holds us rest p h in
    inl (us, accepted (codes "[") ts us e, (i.0, i.1, i.2))
method_by ts rest p (false, us) e h =
    let k = ok_parts ((method.Auto, flag.Prop), us) (p, rest) h in
    let q = pair_parts (method.Auto, flag.Prop) p k.0 in
    inr ((sym q.0, sym q.1), sym (passed (codes "[") ts us e) ∙ k.1)

pub method_holds : (ts rest : List Lexeme) (p : Method × Flag) → method_at ts ≡ Ok (p, rest) → method_phrase p.0 p.1 ts rest
unfolding method_at
method_holds ts rest p h = method_by ts rest p (accept_at (codes "[") ts) refl h
