-- What ties the reading and the printing of column lists and key lists to their grammar.
use Rattle.std.specs.Prelude.{◌≡◌, ◌≤◌, ℕ, Bool, false, List, length, Ok, codes}
use Rattle.std.specs.List.{AllByRecursion}
use Rattle.ds_lex.specs.Lexemes.{Lexeme}
use Rattle.ds_lex.specs.Reading.{accept_at}
use Rattle.ds_lex.specs.Tokens.{IsWord}
use Rattle.ds_schema.specs.ColumnGrammar.{AreNamed, itself, key_name, names_form, keys_form, SpellsNames, SpellsKeys}
use Rattle.ds_schema.specs.ColumnReading.{names_at, keys_at}
use Rattle.ds_schema.specs.ColumnText.{names_text, keys_text}

abbrev pub NamesStand : Type 0 → Type 0
NamesStand W = (why : W) (ts rest : List Lexeme) (names : List (List ℕ)) → names_at why ts ≡ Ok (names, rest) → names_form names ts rest

abbrev pub KeysStand : Type 0 → Type 0
KeysStand W = (why : W) (ts rest : List Lexeme) (keys : List (List ℕ × Bool)) → keys_at why ts ≡ Ok (keys, rest) → keys_form keys ts rest

-- this word or sign doesn't come
abbrev pub Lacks : List ℕ → List Lexeme → Type 0
Lacks word ts = accept_at word ts ≡ (false, ts)

abbrev pub StandingNamesAreRead : Type 0 → Type 0
StandingNamesAreRead W = (why : W) (ts rest : List Lexeme) (names : List (List ℕ)) → names_form names ts rest → Lacks (codes ",") rest → names_at why ts ≡ Ok (names, rest)

abbrev pub StandingKeysAreRead : Type 0 → Type 0
StandingKeysAreRead W = (why : W) (ts rest : List Lexeme) (keys : List (List ℕ × Bool)) → keys_form keys ts rest → Lacks (codes ",") rest → Lacks (codes "desc") rest → keys_at why ts ≡ Ok (keys, rest)

abbrev pub OneNames : Type 0
OneNames = (bytes : List ℕ) (names others : List (List ℕ)) → SpellsNames bytes names → SpellsNames bytes others → names ≡ others

abbrev pub OneKeys : Type 0
OneKeys = (bytes : List ℕ) (keys others : List (List ℕ × Bool)) → SpellsKeys bytes keys → SpellsKeys bytes others → keys ≡ others

-- names that are words, as all are that were read
abbrev pub NamesReadBack : Type 0
NamesReadBack = (names : List (List ℕ)) → 1 ≤ length names → AreNamed itself names → AllByRecursion IsWord names → SpellsNames (names_text names) names

abbrev pub KeysReadBack : Type 0
KeysReadBack = (keys : List (List ℕ × Bool)) → 1 ≤ length keys → AreNamed key_name keys → AllByRecursion (λ (k : List ℕ × Bool). IsWord k.0) keys → SpellsKeys (keys_text keys) keys
