-- What is read as a list of columns or keys, or as a method, can be spelled as one.
use Rattle.std.proofs.Common.{◌≡◌, ◌≤◌, ◌+◌, ◌-◌, inl, inr, ℕ, List, [], ◌∷◌, ◌++◌, length, map, drop, Bool, true, false, refl, sym, ap, ◌∙◌, subst, append_assoc, arith, length-append}
use Rattle.std.specs.Prelude.{codes}
use Rattle.std.specs.List.{AllByRecursion}
use Rattle.std.proofs.Math.Seq.{drop-append_seam, take-append_seam}
use Rattle.ds_value.specs.Names.{IsName}
use Rattle.ds_lex.specs.declared.token.Mode.{Mode}
use Rattle.ds_lex.specs.declared.token.Mode.TheVariants.{Osh, Inner}
use Rattle.ds_lex.specs.declared.token.Sort.TheVariants as sort
use Rattle.ds_lex.specs.declared.token.Piece.{Piece}
use Rattle.ds_lex.specs.declared.token.Piece.TheVariants.{Gap, Part}
use Rattle.ds_lex.specs.Lexemes.{Lexeme, part, lexeme_of, lexed_text}
use Rattle.ds_lex.specs.Tokens.{IsWord, IsToken, IsCut, tokens_from}
use Rattle.ds_lex.specs.Phrases.{Phrase, word, token}
use Rattle.ds_lex.proofs.LexedLaws.{lexed_is}
use Rattle.ds_schema.specs.ColumnGrammar.{name_phrase, desc_phrase, key_phrase, further, listed, names_form, keys_form}
use Rattle.flow_graph.specs.declared.flow.Method.{Method}
use Rattle.flow_graph.specs.declared.flow.Method.TheVariants as method
use Rattle.flow_graph.specs.declared.flow.Flag.{Flag}
use Rattle.osh_sound.specs.Grammar.{kind_phrase, method_phrase}
use Rattle.osh_sound.specs.ValueLaws.{IsColumn, AreColumns, AreKeys}
use Rattle.osh_back.specs.Spelled.{MethodFits}

-- ---- tokens of the grammar

abbrev pub SoundIn : Mode → List Lexeme → Type 0
SoundIn mode ts = AllByRecursion (λ (t : Lexeme). IsToken mode t.sort t.bytes) ts

middle : (front x rest : List ℕ) → part (front ++ (x ++ rest)) (length front) (length front + length x) ≡ x
middle front x rest =
    let n : length front + length x - length front ≡ length x = omega arith in
    rw (n, drop-append_seam front (x ++ rest)) (take-append_seam x rest)

behind : (n : ℕ) (us bytes rest : List ℕ) → us ≡ bytes ++ rest → length bytes ≡ n → drop n us ≡ rest
behind n us bytes rest e l = ap (λ m. drop m us) (sym l) ∙ (ap (drop (length bytes)) e ∙ drop-append_seam bytes rest)

further_text : (text pre us bytes rest : List ℕ) → text ≡ pre ++ us → us ≡ bytes ++ rest → text ≡ (pre ++ bytes) ++ rest
further_text text pre us bytes rest e p = e ∙ (ap (λ (xs : List ℕ). pre ++ xs) p ∙ sym (append_assoc pre bytes rest))

longer : (pre bytes : List ℕ) (n : ℕ) → length bytes ≡ n → length (pre ++ bytes) ≡ length pre + n
longer pre bytes n l = length-append pre bytes ∙ ap (λ m. length pre + m) l

cut_sound : (mode : Mode) (text pre us : List ℕ) (pieces : List Piece) (rest : List ℕ) → text ≡ pre ++ us → IsCut mode us pieces rest → SoundIn mode (map (lexeme_of text) (tokens_from (length pre) pieces))
cut_sound mode text pre us [] rest e c = tt
cut_sound mode text pre us (Gap n ∷ pieces) rest e c =
    let s = c.0 in
    subst (λ k. SoundIn mode (map (lexeme_of text) (tokens_from k pieces))) (longer pre s.bytes n s.piece.0)
    (cut_sound mode text (pre ++ s.bytes) s.rest pieces rest (further_text text pre us s.bytes s.rest e s.parts) (subst (λ (xs : List ℕ). IsCut mode xs pieces rest) (behind n us s.bytes s.rest s.parts s.piece.0) c.1))
cut_sound mode text pre us (Part kind n ∷ pieces) rest e c =
    let s = c.0 in
    let more = subst (λ k. SoundIn mode (map (lexeme_of text) (tokens_from k pieces))) (longer pre s.bytes n s.piece.0)
    (cut_sound mode text (pre ++ s.bytes) s.rest pieces rest (further_text text pre us s.bytes s.rest e s.parts) (subst (λ (xs : List ℕ). IsCut mode xs pieces rest) (behind n us s.bytes s.rest s.parts s.piece.0) c.1)) in
    let whole : text ≡ pre ++ (s.bytes ++ s.rest) = e ∙ ap (λ (xs : List ℕ). pre ++ xs) s.parts in
    let bytes : part text (length pre) (length pre + n) ≡ s.bytes = ap (λ m. part text (length pre) (length pre + m)) (sym s.piece.0) ∙ (ap (λ (xs : List ℕ). part xs (length pre) (length pre + length s.bytes)) whole ∙ middle pre s.bytes s.rest) in
    (subst (IsToken mode kind) (sym bytes) s.piece.1, more)

pub text_sound : (mode : Mode) (text : List ℕ) → SoundIn mode (lexed_text mode text).lexemes
text_sound mode text =
    let l = lexed_is mode text in
    subst (λ ts. SoundIn mode (map (lexeme_of text) ts)) (sym l.tokens) (cut_sound mode text [] text l.pieces l.rest refl l.cut)

pub word_at : (mode : Mode) (t : Lexeme) → IsToken mode t.sort t.bytes → t.sort ≡ sort.Word → IsWord t.bytes
word_at Osh t s e = subst (λ k. IsToken Osh k t.bytes) e s
word_at Inner t s e = subst (λ k. IsToken Inner k t.bytes) e s

pub sound_behind : (mode : Mode) (bytes : List ℕ) (ts rest : List Lexeme) → SoundIn mode ts → word bytes ts rest → SoundIn mode rest
sound_behind mode bytes [] rest s h = absurd h
sound_behind mode bytes (t ∷ ts) rest s h = subst (SoundIn mode) h.1 s.1

-- ---- lists

-- what holds of each that was read, and the tokens behind it
abbrev pub Each : {X : Type 0} → Mode → (X → Type 0) → (X → Phrase) → Type 0
Each {X} mode P one = (x : X) (ts rest : List Lexeme) → SoundIn mode ts → one x ts rest → P x × SoundIn mode rest

further_each : {X : Type 0} (mode : Mode) (P : X → Type 0) (one : X → Phrase) → Each mode P one → (xs : List X) (ts rest : List Lexeme) → SoundIn mode ts → further one xs ts rest → AllByRecursion P xs
further_each mode P one f [] ts rest s h = tt
further_each mode P one f (x ∷ xs) ts rest s h =
    let comma = sound_behind mode (codes ",") ts h.0 s h.1 in
    let here = f x h.0 h.2.0 comma h.2.1 in
    (here.0, further_each mode P one f xs h.2.0 rest here.1 h.2.2)

pub listed_each : {X : Type 0} (mode : Mode) (P : X → Type 0) (one : X → Phrase) → Each mode P one → (xs : List X) (ts rest : List Lexeme) → SoundIn mode ts → listed one xs ts rest → (1 ≤ length xs) × AllByRecursion P xs
listed_each mode P one f [] ts rest s h = absurd h
listed_each mode P one f (x ∷ xs) ts rest s h = let here = f x ts h.0 s h.1 in (omega arith, (here.0, further_each mode P one f xs h.0 rest here.1 h.2))

pub one_name : (mode : Mode) → Each mode IsWord name_phrase
one_name mode name [] rest s h = absurd h
one_name mode name (t ∷ ts) rest s h = (subst IsWord h.1 (word_at mode t s.0 h.0), subst (SoundIn mode) h.2 s.1)

one_key : (mode : Mode) → Each mode (λ (k : List ℕ × Bool). IsWord k.0) key_phrase
one_key mode k ts rest s h = let name = one_name mode k.0 ts h.0 s h.1 in (name.0, way k.1 h.0 rest name.1 h.2)
  where
    way : (b : Bool) (us vs : List Lexeme) → SoundIn mode us → desc_phrase b us vs → SoundIn mode vs
    way true us vs s h = sound_behind mode (codes "desc") us vs s h
    way false us vs s h = subst (SoundIn mode) h s

pub read_columns : (mode : Mode) (names : List (List ℕ)) (ts rest : List Lexeme) → SoundIn mode ts → names_form names ts rest → AreColumns names
read_columns mode names ts rest s h = let e = listed_each mode IsWord name_phrase (one_name mode) names ts rest s h.1 in record { some = e.0; named = h.0; words = e.1 }

pub read_keys : (mode : Mode) (keys : List (List ℕ × Bool)) (ts rest : List Lexeme) → SoundIn mode ts → keys_form keys ts rest → AreKeys keys
read_keys mode keys ts rest s h = let e = listed_each mode (λ (k : List ℕ × Bool). IsWord k.0) key_phrase (one_key mode) keys ts rest s h.1 in record { some = e.0; named = h.0; words = e.1 }

-- ---- methods

read_column : (name : List ℕ) (ts rest : List Lexeme) → SoundIn Osh ts → token sort.Word (λ bytes. (bytes ≡ name) × IsName bytes) ts rest → IsColumn name
read_column name [] rest s h = absurd h
read_column name (t ∷ ts) rest s h = (subst IsWord h.1.0 (word_at Osh t s.0 h.0), subst IsName h.1.0 h.1.1)

read_kind : (m : Method) (ts rest : List Lexeme) → SoundIn Osh ts → kind_phrase m ts rest → MethodFits m
read_kind (method.Hash names) ts rest s h = read_columns Osh names h.0 rest (sound_behind Osh (codes "hash") ts h.0 s h.1) h.2
read_kind (method.Modulus name) ts rest s h = read_column name h.0 rest (sound_behind Osh (codes "modulus") ts h.0 s h.1) h.2
read_kind (method.Merge keys) ts rest s h = read_keys Osh keys h.0 rest (sound_behind Osh (codes "merge") ts h.0 s h.1) h.2
read_kind m ts rest s h = tt

pub read_method : (m : Method) (f : Flag) (ts rest : List Lexeme) → SoundIn Osh ts → method_phrase m f ts rest → MethodFits m
read_method m f ts rest s h =
    elim h [
      | inl a ↦ elim a.2.1 [
        | inl b ↦ subst MethodFits (sym b.1.0) tt
        | inr c ↦ read_kind m a.0 c.0 (sound_behind Osh (codes "[") ts a.0 s a.1) c.1
      ]
      | inr b ↦ subst MethodFits (sym b.0.0) tt
    ]
