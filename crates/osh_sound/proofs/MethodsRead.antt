-- What is spelled as a method is read as it.
use Rattle.std.proofs.Common.{◌≡◌, inl, inr, ℕ, List, [], ◌∷◌, Bool, false, Ok, Some, None, refl, sym, ap, ◌∙◌, subst}
use Rattle.std.specs.Prelude.{if◌then◌else◌, codes}
use Rattle.std.specs.Str.{bytes_eq}
use Rattle.ds_lex.specs.declared.token.Sort.{Sort}
use Rattle.ds_lex.specs.declared.token.Sort.TheVariants as sort
use Rattle.ds_lex.specs.Lexemes.{Lexeme}
use Rattle.ds_lex.specs.Reading.{refuse, is_sort, sort_at, expect_at}
use Rattle.ds_lex.specs.Phrases.{word, nothing_where, ◌<|>◌}
use Rattle.ds_lex.proofs.Readers.{lacks, lacks_other, bytes_same, sort_same}
use Rattle.ds_schema.specs.ColumnGrammar.{names_form, keys_form}
use Rattle.ds_schema.specs.ColumnReading.{name_at}
use Rattle.ds_schema.proofs.ListReaders.{accepts}
use Rattle.ds_schema.proofs.ColumnLists.{standing_names, standing_keys}
use Rattle.flow_graph.specs.declared.flow.Method.{Method}
use Rattle.flow_graph.specs.declared.flow.Method.TheVariants as method
use Rattle.flow_graph.specs.declared.flow.Flag.{Flag}
use Rattle.flow_graph.specs.declared.flow.Flag.TheVariants as flag
use Rattle.osh_value.proofs.Names.{name_tested}
use Rattle.osh_read.specs.declared.fault.OshWhy.TheVariants as why
use Rattle.osh_read.specs.Methods.{flag_named, method_named, kind_at, flag_at, closed_at, behind_at, bracket_at, method_at}
use Rattle.osh_sound.specs.Grammar.{flag_word, name_form, kind_phrase, inside_phrase, method_phrase}
use Rattle.osh_sound.proofs.TokensSound.{AllSound, keyword_sort}

-- ---- single tokens

pub sort_reads : {W : Type 0} (wanted : Sort) (why : W) (t : Lexeme) (ts : List Lexeme) → t.sort ≡ wanted → sort_at wanted why (t ∷ ts) ≡ Ok (t, ts)
unfolding sort_at
sort_reads wanted why t ts e = ap (λ b. if b then Ok (t, ts) else refuse t why) (ap (is_sort wanted) e ∙ sort_same wanted)

pub expect_reads : {W : Type 0} (bytes : List ℕ) (why : W) (ts rest : List Lexeme) → word bytes ts rest → (t : Lexeme) × (expect_at bytes why ts ≡ Ok (t, rest))
unfolding expect_at
expect_reads bytes why [] rest h = absurd h
expect_reads bytes why (t ∷ ts) rest h = (t, rw (bytes_same t.bytes bytes h.0, h.1) refl)

-- another word or sign doesn't come
pub word_lacks : (bytes other : List ℕ) (ts rest : List Lexeme) → bytes_eq other bytes ≡ false → word other ts rest → lacks bytes ts
word_lacks bytes other [] rest e h = absurd h
word_lacks bytes other (t ∷ ts) rest e h = lacks_other bytes t ts (ap (λ b. bytes_eq b bytes) h.0 ∙ e)

-- ---- flags

flag_read : (f : Flag) (ts us rest : List Lexeme) → (flag_word f <|> nothing_where (f ≡ flag.Prop)) ts us → word (codes "]") us rest → flag_at ts ≡ (f, us)
unfolding flag_at
flag_read flag.Set ts us rest h w =
    elim h [
      | inl a ↦ rw (accepts (codes "set") ts us a) refl
      | inr b ↦ (let e = b.0 in absurd cc)
    ]
flag_read flag.Clear ts us rest h w =
    elim h [
      | inl a ↦ rw (word_lacks (codes "set") (codes "clear") ts us refl a, accepts (codes "clear") ts us a) refl
      | inr b ↦ (let e = b.0 in absurd cc)
    ]
flag_read flag.Prop ts us rest h w =
    elim h [
      | inl a ↦ rw (word_lacks (codes "set") (codes "prop") ts us refl a, word_lacks (codes "clear") (codes "prop") ts us refl a, accepts (codes "prop") ts us a) refl
      | inr b ↦
          (let closed : word (codes "]") ts rest = subst (λ (xs : List Lexeme). word (codes "]") xs rest) (sym b.1) w in
          rw (word_lacks (codes "set") (codes "]") ts rest refl closed, word_lacks (codes "clear") (codes "]") ts rest refl closed, word_lacks (codes "prop") (codes "]") ts rest refl closed, b.1) refl)
    ]

flag_lacks : (bytes : List ℕ) (f : Flag) (ts us rest : List Lexeme) → bytes_eq (codes "set") bytes ≡ false → bytes_eq (codes "clear") bytes ≡ false → bytes_eq (codes "prop") bytes ≡ false → bytes_eq (codes "]") bytes ≡ false
    → (flag_word f <|> nothing_where (f ≡ flag.Prop)) ts us → word (codes "]") us rest → lacks bytes ts
flag_lacks bytes f ts us rest a b c d h w =
    elim h [
      | inl k ↦ word_lacks_flag bytes f ts us a b c k
      | inr k ↦ word_lacks bytes (codes "]") ts rest d (subst (λ (xs : List Lexeme). word (codes "]") xs rest) (sym k.1) w)
    ]
  where
    word_lacks_flag : (bytes : List ℕ) (f : Flag) (ts us : List Lexeme) → bytes_eq (codes "set") bytes ≡ false → bytes_eq (codes "clear") bytes ≡ false → bytes_eq (codes "prop") bytes ≡ false → flag_word f ts us → lacks bytes ts
    word_lacks_flag bytes flag.Set ts us a b c k = word_lacks bytes (codes "set") ts us a k
    word_lacks_flag bytes flag.Clear ts us a b c k = word_lacks bytes (codes "clear") ts us b k
    word_lacks_flag bytes flag.Prop ts us a b c k = word_lacks bytes (codes "prop") ts us c k

-- ---- kinds

name_reads : (name : List ℕ) (ts rest : List Lexeme) → name_form name ts rest → name_at why.Syntax ts ≡ Ok (name, rest)
unfolding name_at
name_reads name [] rest h = absurd h
name_reads name (t ∷ ts) rest h = rw (sort_reads sort.Word why.Syntax t ts h.0, name_tested t.bytes h.1.1, h.1.0, h.2) refl

-- the first word of a method's kind, which is no flag, and what is read behind it
pub record KindRead (m : Method) (ts rest : List Lexeme) : Type 0 where
  pub first : Lexeme
  pub behind : List Lexeme
  pub parts : ts ≡ first ∷ behind
  pub sort : first.sort ≡ sort.Word
  pub flag : flag_named first.bytes ≡ None
  pub read : kind_at first behind ≡ Ok (m, rest)

plain_kind : (m : Method) (bytes : List ℕ) (t : Lexeme) (ts rest : List Lexeme) → flag_named bytes ≡ None → (t.bytes ≡ bytes → t.sort ≡ sort.Word) → ((w : Lexeme) → w.bytes ≡ bytes → kind_at w ts ≡ Ok (m, rest)) → t.bytes ≡ bytes → KindRead m (t ∷ ts) rest
plain_kind m bytes t ts rest f s r e = record { first = t; behind = ts; parts = refl; sort = s e; flag = ap flag_named e ∙ f; read = r t e }

kind_named : (m : Method) (bytes : List ℕ) (w : Lexeme) (ts rest : List Lexeme) → w.bytes ≡ bytes → ts ≡ rest → bytes_eq bytes (codes "hash") ≡ false → bytes_eq bytes (codes "modulus") ≡ false → bytes_eq bytes (codes "merge") ≡ false → method_named bytes ≡ Some m → kind_at w ts ≡ Ok (m, rest)
unfolding kind_at
kind_named m bytes w ts rest e r a b c n = rw (e, a, b, c, n, r) refl

-- what follows a kind: a flag or the end of the brackets
abbrev Behind : Flag → List Lexeme → List Lexeme → List Lexeme → Type 0
Behind f ts us rest = (flag_word f <|> nothing_where (f ≡ flag.Prop)) ts us × word (codes "]") us rest

hash_read : (names : List (List ℕ)) (f : Flag) (w : Lexeme) (ts us vs rest : List Lexeme) → w.bytes ≡ codes "hash" → names_form names ts us → Behind f us vs rest → kind_at w ts ≡ Ok (method.Hash names, us)
unfolding kind_at
hash_read names f w ts us vs rest e h b = rw (e, standing_names why.Syntax ts us names h (flag_lacks (codes ",") f us vs rest refl refl refl refl b.0 b.1)) refl

modulus_read : (name : List ℕ) (w : Lexeme) (ts us : List Lexeme) → w.bytes ≡ codes "modulus" → name_form name ts us → kind_at w ts ≡ Ok (method.Modulus name, us)
unfolding kind_at
modulus_read name w ts us e h = rw (e, name_reads name ts us h) refl

merge_read : (keys : List (List ℕ × Bool)) (f : Flag) (w : Lexeme) (ts us vs rest : List Lexeme) → w.bytes ≡ codes "merge" → keys_form keys ts us → Behind f us vs rest → kind_at w ts ≡ Ok (method.Merge keys, us)
unfolding kind_at
merge_read keys f w ts us vs rest e h b = rw (e, standing_keys why.Syntax ts us keys h (flag_lacks (codes ",") f us vs rest refl refl refl refl b.0 b.1) (flag_lacks (codes "desc") f us vs rest refl refl refl refl b.0 b.1)) refl

kind_read : (m : Method) (f : Flag) (ts us vs rest : List Lexeme) → AllSound ts → kind_phrase m ts us → Behind f us vs rest → KindRead m ts us
kind_read m f [] us vs rest s h b = absurd (nothing_stands m us h)
  where
    nothing_stands : (m : Method) (us : List Lexeme) → kind_phrase m [] us → ⊥
    nothing_stands method.Auto us h = h
    nothing_stands method.Same us h = h
    nothing_stands method.RoundRobin us h = h
    nothing_stands method.Entire us h = h
    nothing_stands (method.Hash names) us h = h.1
    nothing_stands (method.Modulus name) us h = h.1
    nothing_stands method.Any us h = h
    nothing_stands method.Ordered us h = h
    nothing_stands (method.Merge keys) us h = h.1
kind_read method.Auto f (t ∷ ts) us vs rest s h b = plain_kind method.Auto (codes "auto") t ts us refl (λ e. keyword_sort t _ _ refl refl refl refl e s.0) (λ w e. kind_named method.Auto (codes "auto") w ts us e h.1 refl refl refl refl) h.0
kind_read method.Same f (t ∷ ts) us vs rest s h b = plain_kind method.Same (codes "same") t ts us refl (λ e. keyword_sort t _ _ refl refl refl refl e s.0) (λ w e. kind_named method.Same (codes "same") w ts us e h.1 refl refl refl refl) h.0
kind_read method.RoundRobin f (t ∷ ts) us vs rest s h b = plain_kind method.RoundRobin (codes "rr") t ts us refl (λ e. keyword_sort t _ _ refl refl refl refl e s.0) (λ w e. kind_named method.RoundRobin (codes "rr") w ts us e h.1 refl refl refl refl) h.0
kind_read method.Entire f (t ∷ ts) us vs rest s h b = plain_kind method.Entire (codes "entire") t ts us refl (λ e. keyword_sort t _ _ refl refl refl refl e s.0) (λ w e. kind_named method.Entire (codes "entire") w ts us e h.1 refl refl refl refl) h.0
kind_read method.Any f (t ∷ ts) us vs rest s h b = plain_kind method.Any (codes "any") t ts us refl (λ e. keyword_sort t _ _ refl refl refl refl e s.0) (λ w e. kind_named method.Any (codes "any") w ts us e h.1 refl refl refl refl) h.0
kind_read method.Ordered f (t ∷ ts) us vs rest s h b = plain_kind method.Ordered (codes "ordered") t ts us refl (λ e. keyword_sort t _ _ refl refl refl refl e s.0) (λ w e. kind_named method.Ordered (codes "ordered") w ts us e h.1 refl refl refl refl) h.0
kind_read (method.Hash names) f (t ∷ ts) us vs rest s h b = plain_kind (method.Hash names) (codes "hash") t ts us refl (λ e. keyword_sort t _ _ refl refl refl refl e s.0) (λ w e. hash_read names f w ts us vs rest e (subst (λ (xs : List Lexeme). names_form names xs us) (sym h.1.1) h.2) b) h.1.0
kind_read (method.Modulus name) f (t ∷ ts) us vs rest s h b = plain_kind (method.Modulus name) (codes "modulus") t ts us refl (λ e. keyword_sort t _ _ refl refl refl refl e s.0) (λ w e. modulus_read name w ts us e (subst (λ (xs : List Lexeme). name_form name xs us) (sym h.1.1) h.2)) h.1.0
kind_read (method.Merge keys) f (t ∷ ts) us vs rest s h b = plain_kind (method.Merge keys) (codes "merge") t ts us refl (λ e. keyword_sort t _ _ refl refl refl refl e s.0) (λ w e. merge_read keys f w ts us vs rest e (subst (λ (xs : List Lexeme). keys_form keys xs us) (sym h.1.1) h.2) b) h.1.0

-- ---- methods

closed_reads : (m : Method) (f : Flag) (ts rest : List Lexeme) → word (codes "]") ts rest → closed_at m f ts ≡ Ok ((m, f), rest)
unfolding closed_at
closed_reads m f ts rest h = let e = expect_reads (codes "]") why.Syntax ts rest h in rw e.1 refl

-- a flag alone
flag_first : (f : Flag) (ts us : List Lexeme) → AllSound ts → flag_word f ts us → (w : Lexeme) × (ts ≡ w ∷ us) × (w.sort ≡ sort.Word) × (flag_named w.bytes ≡ Some f)
flag_first flag.Set [] us s h = absurd h
flag_first flag.Clear [] us s h = absurd h
flag_first flag.Prop [] us s h = absurd h
flag_first flag.Set (t ∷ ts) us s h = (t, ap (λ (xs : List Lexeme). t ∷ xs) h.1, keyword_sort t _ _ refl refl refl refl h.0 s.0, ap flag_named h.0)
flag_first flag.Clear (t ∷ ts) us s h = (t, ap (λ (xs : List Lexeme). t ∷ xs) h.1, keyword_sort t _ _ refl refl refl refl h.0 s.0, ap flag_named h.0)
flag_first flag.Prop (t ∷ ts) us s h = (t, ap (λ (xs : List Lexeme). t ∷ xs) h.1, keyword_sort t _ _ refl refl refl refl h.0 s.0, ap flag_named h.0)

flag_alone : (f : Flag) (ts us rest : List Lexeme) → AllSound ts → flag_word f ts us → word (codes "]") us rest → bracket_at ts ≡ Ok ((method.Auto, f), rest)
unfolding bracket_at behind_at
flag_alone f ts us rest s h w =
    let k = flag_first f ts us s h in
    ap bracket_at k.1 ∙ rw (sort_reads sort.Word why.Syntax k.0 us k.2, k.3) (closed_reads method.Auto f us rest w)

kind_and_flag : (m : Method) (f : Flag) (ts us vs rest : List Lexeme) → AllSound ts → kind_phrase m ts us → Behind f us vs rest → bracket_at ts ≡ Ok ((m, f), rest)
unfolding bracket_at behind_at
kind_and_flag m f ts us vs rest s h b =
    let k = kind_read m f ts us vs rest s h b in
    let g = flag_read f us vs rest b.0 b.1 in
    ap bracket_at k.parts ∙ rw (sort_reads sort.Word why.Syntax k.first k.behind k.sort, k.flag, k.read, g) (closed_reads m f vs rest b.1)

inside_read : (m : Method) (f : Flag) (ts us rest : List Lexeme) → AllSound ts → inside_phrase m f ts us → word (codes "]") us rest → bracket_at ts ≡ Ok ((m, f), rest)
inside_read m f ts us rest s h w =
    elim h [
      | inl a ↦
          (let front : flag_word f ts us = subst (λ (xs : List Lexeme). flag_word f xs us) (sym a.1.1) a.2 in
          flag_alone f ts us rest s front w ∙ ap (λ (x : Method). Ok ((x, f), rest)) (sym a.1.0))
      | inr b ↦ kind_and_flag m f ts b.0 us rest s b.1 (b.2, w)
    ]

-- a method, where what follows isn't a bracket
pub method_reads : (m : Method) (f : Flag) (ts rest : List Lexeme) → AllSound ts → lacks (codes "[") rest → method_phrase m f ts rest → method_at ts ≡ Ok ((m, f), rest)
unfolding method_at
method_reads m f ts rest s l h =
    elim h [
      | inl a ↦
          (let sound : AllSound a.0 = behind_word ts a.0 s a.1 in
          rw (accepts (codes "[") ts a.0 a.1) (inside_read m f a.0 a.2.0 rest sound a.2.1 a.2.2))
      | inr b ↦
          (let none : lacks (codes "[") ts = subst (lacks (codes "[")) (sym b.1) l in
          rw (none, b.0.0, b.0.1, b.1) refl)
    ]
  where
    behind_word : (ts us : List Lexeme) → AllSound ts → word (codes "[") ts us → AllSound us
    behind_word [] us s h = absurd h
    behind_word (t ∷ ts) us s h = subst AllSound h.1 s.1
