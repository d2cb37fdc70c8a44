-- How the place of a fault lies to the token with which no flow goes on, and what is true there of its cause alone.
use Rattle.std.specs.Prelude.{◌≡◌, ◌⊎◌, ℕ, List, [], ◌∷◌, ◌++◌, map, Some, None, Bool, true, false, ◌&&◌, if◌then◌else◌, codes}
use Rattle.std.specs.List.{AllByRecursion}
use Rattle.ds_lex.specs.declared.token.Sort.TheVariants as sort
use Rattle.ds_lex.specs.Lexemes.{Lexeme}
use Rattle.ds_lex.specs.Reading.{first_of}
use Rattle.ds_lex.specs.Phrases.{word}
use Rattle.flow_graph.specs.declared.flow.Mark.{Mark}
use Rattle.osh_table.specs.declared.operator.OpName.{OpName}
use Rattle.osh_table.specs.declared.option.OptRow.{OptRow}
use Rattle.osh_table.specs.Words.{operator_named, option_word}
use Rattle.osh_table.specs.Options.{options_of, row_named}
use Rattle.osh_value.specs.declared.value.OptValue.{OptValue}
use Rattle.osh_value.specs.declared.setting.Setting.{Setting}
use Rattle.osh_value.specs.Values.{content_of}
use Rattle.osh_value.specs.ValueGrammar.{SpellsValue}
use Rattle.osh_read.specs.declared.fault.OshWhy.{OshWhy}
use Rattle.osh_read.specs.declared.fault.OshWhy.TheVariants as causes
use Rattle.osh_read.specs.Options.{is_opt, is_value, is_flag, value_comes, lacks_value, clashes, needs_any, lacks_option, is_missing}
use Rattle.osh_read.specs.Stages.{plain_mark, bears}
use Rattle.osh_sound.specs.Grammar.{WrittenOption, setting_of, options_phrase, StandTogether, mark_word}

-- it is that token, the first of those that are left, of which this holds, and of those behind it
abbrev pub IsNext : ℕ → (Lexeme → List Lexeme → Type 0) → List Lexeme → Type 0
IsNext at Is [] = ⊥
IsNext at Is (t ∷ ts) = (t.at ≡ at) × Is t ts

-- tokens follow, or else the end of the text does: no place where no token begins, and no limit
abbrev pub Goes : Bool → List Lexeme → Type 0
Goes cut [] = cut ≡ false
Goes cut (t ∷ ts) = Unit {0}

-- ---- options

-- the option excludes none of those that were found, and the token behind it can be a value, but spells none of its form
pub record IsMisspelled (op : OpName) (found : List Setting) (option value : Lexeme) : Type 0 where
  pub row : OptRow
  pub named : row_named op option.bytes ≡ Some row
  pub alone : clashes found row.group ≡ false
  pub is_value : is_value value.sort ≡ true
  pub none : (v : OptValue) → SpellsValue row.form (content_of value) v → ⊥

-- the option needs a value, and none comes
pub record IsBare (cut : Bool) (op : OpName) (option : Lexeme) (left : List Lexeme) : Type 0 where
  pub row : OptRow
  pub named : row_named op option.bytes ≡ Some row
  pub needs : is_flag row.form ≡ false
  pub bare : value_comes (first_of left) ≡ false
  pub goes : Goes cut left

-- the option is excluded by one of those that were found, and doesn't lack a value
pub record IsDouble (cut : Bool) (op : OpName) (found : List Setting) (option : Lexeme) (behind : List Lexeme) : Type 0 where
  pub row : OptRow
  pub named : row_named op option.bytes ≡ Some row
  pub clash : clashes found row.group ≡ true
  pub valued : lacks_value row cut (first_of behind) ≡ false

-- An option of the operator behind others: `taken` of it goes on, which is nothing or its word.
abbrev pub OptionFails : Bool → OpName → List Setting → ℕ → OshWhy → List Lexeme → List Lexeme → Type 0
OptionFails cut op found at causes.UnknownOption taken left = (taken ≡ []) × IsNext at (λ t ts. (t.sort ≡ sort.Opt) × (row_named op t.bytes ≡ None)) left
OptionFails cut op found at causes.DoubleOption taken left = (taken ≡ []) × IsNext at (λ t ts. (t.sort ≡ sort.Opt) × IsDouble cut op found t ts) left
OptionFails cut op found at causes.BadValue taken left = (option : Lexeme) × (taken ≡ option ∷ []) × (option.sort ≡ sort.Opt) × (IsNext at (λ t ts. IsMisspelled op found option t) left ⊎ ((option.at ≡ at) × IsBare cut op option left))
OptionFails cut op found at other taken left = ⊥

-- an operator, behind it options of it that exclude none of each other, and an option that fails behind them
pub record IsOption (cut : Bool) (at : ℕ) (why : OshWhy) (inside left : List Lexeme) : Type 0 where
  pub operator : Lexeme
  pub options : List Lexeme
  pub taken : List Lexeme
  pub parts : inside ≡ operator ∷ (options ++ taken)
  pub is_word : operator.sort ≡ sort.Word
  pub op : OpName
  pub named : operator_named operator.bytes ≡ Some op
  pub whole : is_missing op cut (options ++ (taken ++ left)) ≡ false
  pub others : List WrittenOption
  pub written : options_phrase op others (options ++ (taken ++ left)) (taken ++ left)
  pub together : StandTogether [] others
  pub fails : OptionFails cut op (map setting_of others) at why taken left

-- what stands behind the options at the front, each with the value behind it, where one comes
abbrev pub behind_options : Bool → List Lexeme → List Lexeme
behind_options may [] = []
behind_options may (t ∷ ts) =
    if is_opt t.sort then behind_options true ts
    else if may && is_value t.sort then behind_options false ts
    else t ∷ ts

-- no option among these tokens is called so
abbrev pub IsAbsent : List Lexeme → OptRow → Type 0
IsAbsent options row = AllByRecursion (λ (t : Lexeme). t.sort ≡ sort.Opt → t.bytes ≡ option_word row.opt → ⊥) options

-- one of the rows must be there, and is absent
abbrev pub LacksOne : List Lexeme → List OptRow → Type 0
LacksOne options [] = ⊥
LacksOne options (row ∷ rows) = ((row.required ≡ true) × IsAbsent options row) ⊎ LacksOne options rows

-- an option that the operator must have is absent, or each of its options is, where it must have any
abbrev pub Lacks : OpName → List Lexeme → Type 0
Lacks op options = LacksOne options (options_of op) ⊎ ((needs_any op ≡ true) × AllByRecursion (IsAbsent options) (options_of op))

-- it is an operator that lacks an option, and its options stand between it and that token
pub record IsOperator (cut : Bool) (at : ℕ) (inside left : List Lexeme) : Type 0 where
  pub operator : Lexeme
  pub options : List Lexeme
  pub parts : inside ≡ operator ∷ options
  pub is_word : operator.sort ≡ sort.Word
  pub op : OpName
  pub named : operator_named operator.bytes ≡ Some op
  pub lacks : lacks_option op (options ++ left) ≡ true
  pub absent : Lacks op options
  pub all : behind_options false (options ++ left) ≡ left
  pub goes : Goes cut left
  pub place : at ≡ operator.at

-- ---- marks

-- it is the bracket of a mark that an operator can't have, behind all of its options; the other bracket is that token
pub record IsMark (at : ℕ) (inside left : List Lexeme) : Type 0 where
  pub operator : Lexeme
  pub options : List Lexeme
  pub bracket : Lexeme
  pub name : Lexeme
  pub parts : inside ≡ operator ∷ (options ++ bracket ∷ name ∷ [])
  pub is_word : operator.sort ≡ sort.Word
  pub op : OpName
  pub named : operator_named operator.bytes ≡ Some op
  pub others : List WrittenOption
  pub written : options_phrase op others (options ++ bracket ∷ name ∷ left) (bracket ∷ name ∷ left)
  pub together : StandTogether [] others
  pub opens : bracket.bytes ≡ codes "["
  pub mark : Mark
  pub says : mark_word mark (name ∷ left) left
  pub closes : (rest : List Lexeme) × word (codes "]") left rest
  pub unborne : bears (plain_mark op) mark ≡ false
  pub place : at ≡ bracket.at

-- ---- stages

-- Inside a stage, of which `inside` goes on. Which operators there are comes first, then what an operator lacks, then how
-- many stand before it, then its options, then its mark.
abbrev pub StageFails : Bool → ℕ → OshWhy → List Lexeme → List Lexeme → Type 0
StageFails cut at causes.Syntax inside left = IsNext at (λ t ts. Unit {0}) left
StageFails cut at causes.UnknownOperator inside left = (inside ≡ []) × IsNext at (λ t ts. (t.sort ≡ sort.Word) × (operator_named t.bytes ≡ None)) left
StageFails cut at causes.MissingOption inside left = IsOperator cut at inside left
StageFails cut at causes.TooMany inside left = (inside ≡ []) × IsNext at (λ t ts. (t.sort ≡ sort.Word) × ((op : OpName) × (operator_named t.bytes ≡ Some op) × (is_missing op cut ts ≡ false))) left
StageFails cut at causes.UnknownOption inside left = IsOption cut at causes.UnknownOption inside left
StageFails cut at causes.DoubleOption inside left = IsOption cut at causes.DoubleOption inside left
StageFails cut at causes.BadValue inside left = IsOption cut at causes.BadValue inside left
StageFails cut at causes.Constraint inside left = IsMark at inside left
StageFails cut at other inside left = ⊥

-- ---- flows

-- in a stage behind some tokens
pub record IsWithin (cut : Bool) (at : ℕ) (why : OshWhy) (front left : List Lexeme) : Type 0 where
  pub before : List Lexeme
  pub inside : List Lexeme
  pub parts : front ≡ before ++ inside
  pub fails : StageFails cut at why inside left

abbrev pub IsPlace : Bool → ℕ → OshWhy → List Lexeme → List Lexeme → Type 0
IsPlace cut at causes.Syntax front left = IsNext at (λ t ts. Unit {0}) left
IsPlace cut at other front left = IsWithin cut at other front left
