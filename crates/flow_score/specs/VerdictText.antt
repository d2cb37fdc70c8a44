-- What is printed of a verdict: the state of each link and the grade of each sink, or the link that is refused.
use Rattle.std.specs.Prelude.{ℕ, Bool, true, false, cond, List, [], ◌∷◌, ◌++◌, ◌==◌, ◌≡◌, ◌<◌, length, get_or, codes}
use Rattle.std.specs.List.{filter, flat_map, range_with_len}
use Rattle.std.specs.Fmt.{decimal}
use Rattle.ds_schema.specs.declared.schema.Field.{Field}
use Rattle.flow_graph.specs.declared.op_kind.OpKind.{OpKind}
use Rattle.flow_graph.specs.declared.op_kind.OpKind.TheVariants as kind
use Rattle.flow_graph.specs.declared.flow.LinkSpec.{LinkSpec}
use Rattle.flow_graph.specs.declared.state.State.{State}
use Rattle.flow_graph.specs.Charts.{Chart, op_at, no_link}
use Rattle.flow_graph.specs.Grades.{grade}
use Rattle.flow_rules.specs.declared.need.Need.{Need}
use Rattle.flow_rules.specs.declared.verdict.Verdict.{Verdict}
use Rattle.flow_rules.specs.declared.verdict.Verdict.TheVariants.{Accepted, Refused}
use Rattle.flow_derive.specs.LinkStates.{state_at}
use Rattle.flow_score.specs.Texts.{state_text, need_text, grade_text}

-- the columns of a link
abbrev pub fields_at : Chart → ℕ → List Field
fields_at c l = get_or c.schemas l []

abbrev pub state_line : ℕ → List Field → State → List ℕ
state_line l fields s = codes "link " ++ (decimal l ++ (codes " " ++ (state_text fields s ++ codes "\n")))

unfoldable pub line_of : Chart → List State → ℕ → List ℕ
line_of c states l = state_line l (fields_at c l) (state_at states l)

abbrev pub state_lines : Chart → List State → List ℕ
state_lines c states = flat_map (line_of c states) (range_with_len 0 (length states))

-- the links into an operator
abbrev pub links_to : List LinkSpec → ℕ → List ℕ
links_to links o = filter (λ l. (get_or links l no_link).to == o) (range_with_len 0 (length links))

-- operators that leave something behind
abbrev pub is_sink : OpKind → Bool
is_sink (kind.Export file delim fixed) = true
is_sink (kind.Dswrite ds) = true
is_sink k = false

abbrev pub sink_line : ℕ → List Field → State → List ℕ
sink_line o fields s = codes "sink " ++ (decimal o ++ (codes " " ++ (grade_text fields (grade (length fields) s) ++ codes "\n")))

-- the grade of what comes at a sink
abbrev pub sink_at : Chart → List State → ℕ → List ℕ
sink_at c states o = let l = get_or (links_to c.flow.links o) 0 0 in cond (is_sink (op_at c o).kind) (sink_line o (fields_at c l) (state_at states l)) []

abbrev pub sink_lines : Chart → List State → List ℕ
sink_lines c states = flat_map (sink_at c states) (range_with_len 0 (length c.flow.ops))

unfoldable pub missed_text : List Field → Need → State → List ℕ
missed_text fields need have = codes "need " ++ (need_text fields need ++ (codes " have " ++ (state_text fields have ++ codes "\n")))

unfoldable pub refused : List ℕ
refused = codes "verdict refused "

abbrev pub refusal_text : ℕ → List Field → Need → State → List ℕ
refusal_text l fields need have = refused ++ (codes "link " ++ (decimal l ++ (codes " " ++ missed_text fields need have)))

abbrev pub verdict_text : Chart → Verdict → List ℕ
verdict_text c (Accepted states choices) = codes "verdict accepted\n" ++ (state_lines c states ++ sink_lines c states)
verdict_text c (Refused link need have) = refusal_text link (fields_at c link) need have

-- a verdict on this flow has a state for each link, or names a link of it
abbrev pub IsOf : Chart → Verdict → Type 0
IsOf c (Accepted states choices) = length states ≡ length c.flow.links
IsOf c (Refused link need have) = link < length c.flow.links
