-- A text that stops being a flow spells none.
use Rattle.std.proofs.Common.{◌≡◌, inl, inr, ℕ, List, [], length, Result, Ok, Some, None, refl, sym, ap, ◌∙◌, subst}
use Rattle.ds_lex.specs.declared.token.Mode.TheVariants.{Osh}
use Rattle.ds_lex.specs.Lexemes.{Lexeme, LimitedText, limited_text}
use Rattle.flow_graph.specs.declared.flow.Flow.{Flow}
use Rattle.osh_read.specs.declared.fault.OshWhy.{OshWhy}
use Rattle.osh_read.specs.declared.stage.Stage.{Stage}
use Rattle.osh_read.specs.Joining.{unjoined}
use Rattle.osh_sound.specs.Grammar.{stages_of, SpellsFlow}
use Rattle.osh_sound.proofs.TokensSound.{AllSound, limited_sound}
use Rattle.osh_first.specs.First.{SpellsStages, StopsAt, LeavesName}
use Rattle.osh_first.specs.FirstLaws.{StoppedIsNone}
use Rattle.osh_first.proofs.Stages.{whole_at}
use Rattle.osh_first.proofs.Wholes.{whole_read, sound_back}

abbrev stages_are : (ts : List Lexeme) (flow : Flow) → SpellsFlow ts flow → SpellsStages ts
stages_are ts flow s = record { directives = s.directives; written = s.written; tokens = s.tokens; stages = s.stages; few = s.few }

-- the tokens have one list of stages
read_whole : (ts : List Lexeme) → AllSound ts → (s : SpellsStages ts) → whole_at ts ≡ Ok (stages_of s.written, [])
read_whole ts sound s = let w = whole_read ts sound s in rw (w.directives, w.stages) refl

stages_same : {E : Type 0} (a b : List Stage) (ts us : List Lexeme) → (let r : Result (List Stage × List Lexeme) E = Ok (a, ts) in r) ≡ Ok (b, us) → a ≡ b
stages_same {E = E} a b ts us h = ap stages h
  where
    stages : Result (List Stage × List Lexeme) E → List Stage
    stages (Ok p) = p.0
    stages other = a

one_list : (ts : List Lexeme) → AllSound ts → (s t : SpellsStages ts) → stages_of s.written ≡ stages_of t.written
one_list ts sound s t = stages_same (stages_of s.written) (stages_of t.written) [] [] (sym (read_whole ts sound s) ∙ read_whole ts sound t)

stops_none : (text : LimitedText) (at : ℕ) (why : OshWhy) → AllSound text.lexemes → StopsAt text at why → SpellsStages text.lexemes → ⊥
stops_none text at why sound a s = a.stops a.left (sound_back a.front a.left (subst AllSound a.parts sound)) refl (subst SpellsStages a.parts s)

name_none : (text : LimitedText) (at : ℕ) (why : OshWhy) (flow : Flow) → AllSound text.lexemes → LeavesName text at why → SpellsFlow text.lexemes flow → ⊥
name_none text at why flow sound a s =
    let same = one_list text.lexemes sound a.flow (stages_are text.lexemes flow s) in
    let none : Some at ≡ None = sym a.first ∙ (ap unjoined same ∙ s.joined) in
    absurd cc

pub stopped_none : StoppedIsNone
stopped_none bytes at why flow h s =
    elim h [
      | inl a ↦ stops_none (limited_text Osh bytes) at why (limited_sound bytes) a (stages_are (limited_text Osh bytes).lexemes flow s.tokens)
      | inr k ↦ elim k [
        | inl b ↦ b.unfinished (length bytes) s.whole (stages_are (limited_text Osh bytes).lexemes flow s.tokens)
        | inr c ↦ name_none (limited_text Osh bytes) at why flow (limited_sound bytes) c s.tokens
      ]
    ]
