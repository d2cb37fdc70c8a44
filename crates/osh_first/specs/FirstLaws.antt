-- What ties the place of a fault to the grammar of flows.
use Rattle.std.specs.Prelude.{◌≡◌, ℕ, List, Err}
use Rattle.ds_lex.specs.declared.token.Mode.TheVariants.{Osh}
use Rattle.ds_lex.specs.Lexemes.{limited_text}
use Rattle.flow_graph.specs.declared.flow.Flow.{Flow}
use Rattle.osh_read.specs.declared.fault.OshWhy.{OshWhy}
use Rattle.osh_read.specs.Flows.{flow_of}
use Rattle.osh_sound.specs.Grammar.{SpellsText}
use Rattle.osh_first.specs.First.{Stops}

-- a text that is refused stops being a flow at the fault's place, for its cause
abbrev pub RefusedStops : Type 0
RefusedStops = (bytes : List ℕ) (at : ℕ) (why : OshWhy) → flow_of bytes ≡ Err (record { at = at; why = why }) → Stops (limited_text Osh bytes) at why

-- and it spells no flow
abbrev pub StoppedIsNone : Type 0
StoppedIsNone = (bytes : List ℕ) (at : ℕ) (why : OshWhy) (flow : Flow) → Stops (limited_text Osh bytes) at why → SpellsText bytes flow → ⊥
