-- The one printed text of a flow.
use Rattle.std.specs.Prelude.{◌≡◌, ℕ, ◌+◌, List, [], ◌∷◌, ◌++◌, Bool, true, false, codes}
use Rattle.flow_graph.specs.declared.flow.Mark.{Mark}
use Rattle.flow_graph.specs.declared.flow.Mark.TheVariants as mark
use Rattle.flow_graph.specs.declared.flow.OpSpec.{OpSpec}
use Rattle.flow_graph.specs.declared.flow.LinkSpec.{LinkSpec}
use Rattle.flow_graph.specs.declared.flow.Flow.{Flow}
use Rattle.osh_table.specs.Words.{operator_word}
use Rattle.osh_read.specs.Stages.{plain_mark}
use Rattle.osh_print.specs.OptionText.{name_of, options_text}
use Rattle.osh_print.specs.LinkText.{inputs_text, outputs_text}

-- the mark, where the operator runs otherwise without one
abbrev pub mark_text : Mark → Mark → List ℕ
mark_text mark.Par mark.Seq = codes " [seq]"
mark_text mark.Seq mark.Par = codes " [par]"
mark_text plain other = []

-- an operator of this number on a line of its own
abbrev pub line : List LinkSpec → ℕ → OpSpec → List ℕ
line links number o =
    operator_word (name_of o.kind)
    ++ (options_text o.kind
    ++ (mark_text (plain_mark (name_of o.kind)) o.mark
    ++ (inputs_text number 0 links
    ++ (outputs_text number links ++ (59 ∷ 10 ∷ [])))))

abbrev pub lines : List LinkSpec → ℕ → List OpSpec → List ℕ
lines links number [] = []
lines links number (o ∷ os) = line links number o ++ lines links (number + 1) os

abbrev pub directive_text : Bool → List ℕ → List ℕ
directive_text true word = word ++ (59 ∷ 10 ∷ [])
directive_text false word = []

abbrev pub flow_text : Flow → List ℕ
flow_text f = directive_text f.nopart (codes "nopart") ++ (directive_text f.nosort (codes "nosort") ++ lines f.links 0 f.ops)
