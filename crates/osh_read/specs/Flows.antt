-- The flow that a text spells, or the first fault of the text.
use Rattle.std.specs.Prelude.{◌≡◌, ℕ, List, [], length, Result, Ok, Err, Option, Some, None, Bool, true, false}
use Rattle.ds_lex.specs.declared.token.Mode.TheVariants.{Osh}
use Rattle.ds_lex.specs.declared.lexeme.End.{End}
use Rattle.ds_lex.specs.declared.lexeme.End.TheVariants as ends
use Rattle.ds_lex.specs.declared.refusal.Refusal.{Refusal}
use Rattle.ds_lex.specs.declared.refusal.Refusal.TheVariants as refusal
use Rattle.ds_lex.specs.Lexemes.{Lexeme, LimitedText, place_of, limited_text}
use Rattle.ds_lex.specs.Reading.{◌>>=◌}
use Rattle.flow_graph.specs.declared.flow.Flow.{Flow}
use Rattle.osh_read.specs.declared.fault.OshWhy.{OshWhy}
use Rattle.osh_read.specs.declared.fault.OshWhy.TheVariants as why
use Rattle.osh_read.specs.declared.fault.OshFault.{OshFault}
use Rattle.osh_read.specs.declared.fault.OshFault.TheVariants as fault
use Rattle.osh_read.specs.declared.stage.Joint.TheVariants as joint
use Rattle.osh_read.specs.declared.stage.Stage.{Stage}
use Rattle.osh_read.specs.declared.stage.Directives.{Directives}
use Rattle.osh_read.specs.Stages.{directives_at, stages_at}
use Rattle.osh_read.specs.Joining.{unjoined, ops, links}

-- a cause with its place
pub record Fault : Type 0 where
  pub at : ℕ
  pub why : OshWhy

abbrev pub made : Directives → List Stage → Flow
made d stages = record { nopart = d.nopart; nosort = d.nosort; ops = ops stages; links = links stages }

-- the flow of stages of which this is the first redirect whose name isn't written once and read once
abbrev pub joined : Directives → List Stage → Option ℕ → Result Flow (Refusal OshWhy)
joined d stages (Some at) = Err (refusal.At at why.Unjoined)
joined d stages None = Ok (made d stages)

-- the flow that the tokens spell
unfoldable pub flow_at : Bool → List Lexeme → Result Flow (Refusal OshWhy)
flow_at cut ts = do
  d ← directives_at ts
  s ← stages_at (length d.1) cut joint.Apart [] d.1
  joined d.0 s.0 (unjoined s.0)

-- whether what stands behind the last token isn't the end of the text
abbrev pub is_cut_off : End → Bool
is_cut_off (ends.Text at) = false
is_cut_off (ends.NoToken at) = true
is_cut_off (ends.Limit at) = true

-- the cause behind the last token
abbrev pub end_why : End → OshWhy
end_why (ends.Text at) = why.Syntax
end_why (ends.NoToken at) = why.Token
end_why (ends.Limit at) = why.TooLong

abbrev pub fault_of : End → Refusal OshWhy → Fault
fault_of end refusal.AtEnd = record { at = place_of end; why = end_why end }
fault_of end (refusal.At at why) = record { at = at; why = why }

abbrev pub settled : End → Result Flow (Refusal OshWhy) → Result Flow Fault
settled end (Ok flow) = Ok flow
settled end (Err r) = Err (fault_of end r)

abbrev pub flow_in : LimitedText → Result Flow Fault
flow_in text = settled text.end (flow_at (is_cut_off text.end) text.lexemes)

unfoldable pub flow_of : List ℕ → Result Flow Fault
flow_of bytes = flow_in (limited_text Osh bytes)

-- what was answered is what is read, unless memory ran out
abbrev pub Answers : Result Flow OshFault → Result Flow Fault → Type 0
Answers (Ok flow) read = read ≡ Ok flow
Answers (Err (fault.Bad at why)) read = read ≡ Err (record { at = at; why = why })
Answers (Err fault.Memory) read = Unit {0}
