-- Column lists, as `a,b`, and key lists, as `a desc,b`: which tokens and which values of options spell them.
use Rattle.std.specs.Prelude.{◌≡◌, ℕ, Bool, true, false, List, [], ◌∷◌, Option, Some, None, codes}
use Rattle.std.specs.List.{AllByRecursion}
use Rattle.ds_value.specs.Names.{IsName}
use Rattle.ds_lex.specs.declared.token.Mode.TheVariants.{Inner}
use Rattle.ds_lex.specs.declared.token.Sort.TheVariants as sort
use Rattle.ds_lex.specs.Lexemes.{lexed_text}
use Rattle.ds_lex.specs.Phrases.{Phrase, word, token, nothing, ◌~◌}

abbrev pub name_phrase : List ℕ → Phrase
name_phrase name = token sort.Word (λ bytes. bytes ≡ name)

abbrev pub desc_phrase : Bool → Phrase
desc_phrase true = word (codes "desc")
desc_phrase false = nothing

-- a column's name, and whether its order is descending
abbrev pub key_phrase : List ℕ × Bool → Phrase
key_phrase key = name_phrase key.0 ~ desc_phrase key.1

-- further ones, each behind a comma
abbrev pub further : {X : Type 0} → (X → Phrase) → List X → Phrase
further one [] = nothing
further one (x ∷ xs) = word (codes ",") ~ one x ~ further one xs

-- one or more with commas between them
abbrev pub listed : {X : Type 0} → (X → Phrase) → List X → Phrase
listed one [] ts rest = ⊥
listed one (x ∷ xs) ts rest = (one x ~ further one xs) ts rest

-- no two have one name
abbrev pub NamesDiffer : {X : Type 0} → (X → List ℕ) → List X → Type 0
NamesDiffer name [] = Unit {0}
NamesDiffer name (x ∷ xs) = AllByRecursion (λ y. name x ≡ name y → ⊥) xs × NamesDiffer name xs

-- what a list may name
pub record AreNamed {X : Type 0} (name : X → List ℕ) (xs : List X) : Type 0 where
  pub each : AllByRecursion (λ x. IsName (name x)) xs
  pub differ : NamesDiffer name xs

abbrev pub itself : List ℕ → List ℕ
itself name = name

abbrev pub key_name : List ℕ × Bool → List ℕ
key_name key = key.0

abbrev pub names_form : List (List ℕ) → Phrase
names_form names ts rest = AreNamed itself names × listed name_phrase names ts rest

abbrev pub keys_form : List (List ℕ × Bool) → Phrase
keys_form keys ts rest = AreNamed key_name keys × listed key_phrase keys ts rest

-- bytes that are tokens alone, of which the phrase holds
abbrev pub IsAll : Phrase → List ℕ → Type 0
IsAll phrase bytes = ((lexed_text Inner bytes).bad ≡ None) × phrase (lexed_text Inner bytes).lexemes []

-- the bytes are a column list of these names
abbrev pub SpellsNames : List ℕ → List (List ℕ) → Type 0
SpellsNames bytes names = IsAll (names_form names) bytes

-- the bytes are a key list of these keys
abbrev pub SpellsKeys : List ℕ → List (List ℕ × Bool) → Type 0
SpellsKeys bytes keys = IsAll (keys_form keys) bytes

-- the one of which it holds; where none is answered it holds of none
abbrev pub Found : {X : Type 0} → (X → Type 0) → Option X → Type 0
Found Is (Some x) = Is x
Found {X} Is None = (x : X) → Is x → ⊥
