-- Column lists and key lists: what is read is one, and what is one is read.
use Rattle.std.proofs.Common.{◌≡◌, ℕ, List, [], ◌∷◌, Bool, Result, Ok, Err, Option, Some, None, length, sym, ap, ◌∙◌, arith, subst}
use Rattle.std.specs.Prelude.{codes}
use Rattle.ds_lex.specs.declared.token.Mode.TheVariants.{Inner}
use Rattle.ds_lex.specs.declared.refusal.Refusal.{Refusal}
use Rattle.ds_lex.specs.Lexemes.{Lexeme, lexed_text}
use Rattle.ds_lex.specs.Reading.{◌>>=◌}
use Rattle.ds_lex.specs.Phrases.{Phrase}
use Rattle.ds_lex.proofs.Readers.{bind_ok, lacks, none_accepted}
use Rattle.ds_schema.specs.ColumnGrammar.{AreNamed, listed, name_phrase, key_phrase, itself, key_name, names_form, keys_form, IsAll, SpellsNames, SpellsKeys, Found}
use Rattle.ds_schema.specs.ColumnReading.{new_name_at, key_at, more_at, names_at, keys_at, all_of, all_names, all_keys}
use Rattle.ds_schema.specs.ColumnLaws.{NamesStand, KeysStand, StandingNamesAreRead, StandingKeysAreRead, OneNames, OneKeys}
use Rattle.ds_schema.proofs.NamedLists.{no_named, front_named}
use Rattle.ds_schema.proofs.ListReaders.{One, TakesOne, ReadsOne, further_taken, further_read, follows}
use Rattle.ds_schema.proofs.NameReaders.{names_take, names_read, keys_take, keys_read, anything, no_desc}

-- ---- at the front of some tokens

-- one, and the further ones
abbrev list_at : {W X : Type 0} → One W X → List Lexeme → Result (List X × List Lexeme) (Refusal W)
list_at one ts = one [] ts >>= λ first. more_at one (first.0 ∷ []) first.1

abbrev list_form : {X : Type 0} → (X → List ℕ) → (X → Phrase) → List X → Phrase
list_form name P xs ts rest = AreNamed name xs × listed P xs ts rest

list_taken : {W X : Type 0} (name : X → List ℕ) (P : X → Phrase) (one : One W X) → TakesOne name P one → (ts rest : List Lexeme) (xs : List X) → list_at one ts ≡ Ok (xs, rest) → list_form name P xs ts rest
list_taken {X = X} name P one takes ts rest xs h =
    let b = bind_ok (one [] ts) (λ first. more_at one (first.0 ∷ []) first.1) (xs, rest) h in
    let first = takes [] ts b.0.1 b.0.0 (no_named name) b.1 in
    let e = further_taken name P one takes (length b.0.1) (b.0.0 ∷ []) xs b.0.1 rest first.1 b.2 in
    (e.named, subst (λ (ys : List X). listed P ys ts rest) (sym e.joined) (b.0.1, first.0, e.stand))

list_read : {W X : Type 0} (name : X → List ℕ) (P : X → Phrase) (one : One W X) (F : List Lexeme → Type 0) → ReadsOne name P one F → (ts rest : List Lexeme) (xs : List X) → list_form name P xs ts rest → lacks (codes ",") rest → F rest → list_at one ts ≡ Ok (xs, rest)
list_read name P one F r ts rest [] h l f = absurd h.1
list_read name P one F r ts rest (x ∷ xs) h l f =
    let first = r.read [] ts h.1.0 x (front_named name (x ∷ []) xs h.0) h.1.1 (follows P F r.comma xs h.1.0 rest h.1.2 f) in
    rw first (further_read name P one F r xs (length h.1.0) (x ∷ []) h.1.0 rest (omega arith) h.0 h.1.2 l f)

pub names_stand : {W : Type 0} → NamesStand W
unfolding names_at
names_stand why ts rest names h = list_taken itself name_phrase (new_name_at why) (names_take why) ts rest names h

pub keys_stand : {W : Type 0} → KeysStand W
unfolding keys_at
keys_stand why ts rest keys h = list_taken key_name key_phrase (key_at why) (keys_take why) ts rest keys h

pub standing_names : {W : Type 0} → StandingNamesAreRead W
unfolding names_at
standing_names why ts rest names h l = list_read itself name_phrase (new_name_at why) anything (names_read why) ts rest names h l tt

pub standing_keys : {W : Type 0} → StandingKeysAreRead W
unfolding keys_at
standing_keys why ts rest keys h l d = list_read key_name key_phrase (key_at why) no_desc (keys_read why) ts rest keys h l d

-- ---- all of some bytes

all_by : {W X : Type 0} (v : Result (X × List Lexeme) (Refusal W)) (x : X) → all_of v ≡ Some x → v ≡ Ok (x, [])
all_by (Ok (y, [])) x h = cc
all_by (Ok (y, t ∷ ts)) x h = absurd cc
all_by (Err e) x h = absurd cc

-- the list that all of the tokens are, and no other
pub found : {X : Type 0} (form : X → Phrase) (read : List Lexeme → Option X) → ((x : X) (ts : List Lexeme) → read ts ≡ Some x → form x ts []) → ((x : X) (ts : List Lexeme) → form x ts [] → read ts ≡ Some x)
    → (bytes : List ℕ) (v : Option X) → (lexed_text Inner bytes).bad ≡ None → v ≡ read (lexed_text Inner bytes).lexemes → Found (λ x. IsAll (form x) bytes) v
found form read taken again bytes (Some x) bad e = (bad, taken x (lexed_text Inner bytes).lexemes (sym e))
found form read taken again bytes None bad e = λ x h. (let k = again x (lexed_text Inner bytes).lexemes h.1 in absurd (let n : None ≡ Some x = e ∙ k in cc))

-- bytes that aren't tokens alone are no list
pub none_found : {X : Type 0} (form : X → Phrase) (bytes : List ℕ) (at : ℕ) → (lexed_text Inner bytes).bad ≡ Some at → Found (λ x. IsAll (form x) bytes) None
none_found form bytes at bad = λ x h. absurd (let n : None ≡ Some at = sym h.0 ∙ bad in cc)

one_found : {X : Type 0} (form : X → Phrase) (read : List Lexeme → Option X) → ((x : X) (ts : List Lexeme) → form x ts [] → read ts ≡ Some x) → (bytes : List ℕ) (x y : X) → IsAll (form x) bytes → IsAll (form y) bytes → x ≡ y
one_found form read again bytes x y h k =
    let a = again x (lexed_text Inner bytes).lexemes h.1 in
    let b = again y (lexed_text Inner bytes).lexemes k.1 in
    let e : Some x ≡ Some y = sym a ∙ b in
    cc

names_taken : (names : List (List ℕ)) (ts : List Lexeme) → all_names ts ≡ Some names → names_form names ts []
names_taken names ts h = names_stand {W = Unit {0}} tt ts [] names (all_by (names_at {W = Unit {0}} tt ts) names h)

names_again : (names : List (List ℕ)) (ts : List Lexeme) → names_form names ts [] → all_names ts ≡ Some names
names_again names ts h = ap all_of (standing_names {W = Unit {0}} tt ts [] names h (none_accepted (codes ",")))

keys_taken : (keys : List (List ℕ × Bool)) (ts : List Lexeme) → all_keys ts ≡ Some keys → keys_form keys ts []
keys_taken keys ts h = keys_stand {W = Unit {0}} tt ts [] keys (all_by (keys_at {W = Unit {0}} tt ts) keys h)

keys_again : (keys : List (List ℕ × Bool)) (ts : List Lexeme) → keys_form keys ts [] → all_keys ts ≡ Some keys
keys_again keys ts h = ap all_of (standing_keys {W = Unit {0}} tt ts [] keys h (none_accepted (codes ",")) (none_accepted (codes "desc")))

pub names_found : (bytes : List ℕ) (v : Option (List (List ℕ))) → (lexed_text Inner bytes).bad ≡ None → v ≡ all_names (lexed_text Inner bytes).lexemes → Found (SpellsNames bytes) v
names_found bytes v bad e = found names_form all_names names_taken names_again bytes v bad e

pub keys_found : (bytes : List ℕ) (v : Option (List (List ℕ × Bool))) → (lexed_text Inner bytes).bad ≡ None → v ≡ all_keys (lexed_text Inner bytes).lexemes → Found (SpellsKeys bytes) v
keys_found bytes v bad e = found keys_form all_keys keys_taken keys_again bytes v bad e

pub one_names : OneNames
one_names bytes names others h k = one_found names_form all_names names_again bytes names others h k

pub one_keys : OneKeys
one_keys bytes keys others h k = one_found keys_form all_keys keys_again bytes keys others h k
