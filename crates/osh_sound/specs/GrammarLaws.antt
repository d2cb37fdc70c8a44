-- What ties the reading of flows to their grammar.
use Rattle.std.specs.Prelude.{◌≡◌, ℕ, List, Ok, Err}
use Rattle.flow_graph.specs.declared.flow.Flow.{Flow}
use Rattle.osh_read.specs.Flows.{Fault, flow_of}
use Rattle.osh_sound.specs.Grammar.{SpellsText}

-- what is read is spelled
abbrev pub ReadIsSpelled : Type 0
ReadIsSpelled = (bytes : List ℕ) (flow : Flow) → flow_of bytes ≡ Ok flow → SpellsText bytes flow

-- and what is spelled is read
abbrev pub SpelledIsRead : Type 0
SpelledIsRead = (bytes : List ℕ) (flow : Flow) → SpellsText bytes flow → flow_of bytes ≡ Ok flow

-- a text that is refused spells no flow
abbrev pub RefusedIsNone : Type 0
RefusedIsNone = (bytes : List ℕ) (fault : Fault) (flow : Flow) → flow_of bytes ≡ Err fault → SpellsText bytes flow → ⊥

-- a text spells one flow at most
abbrev pub OneIsSpelled : Type 0
OneIsSpelled = (bytes : List ℕ) (flow other : Flow) → SpellsText bytes flow → SpellsText bytes other → flow ≡ other
