-- Lists on their way: what one operator does with those that are held.
use Rattle.std.specs.Prelude.{◌≡◌, ◌≢◌, ℕ, ◌<◌, ◌==◌, Bool, true, false, cond, List, [], ◌∷◌, length, map, get_or, nat_lt, All}
use Rattle.op_base.specs.declared.fault.Fault.{Fault}
use Rattle.std.specs.List.{AllByRecursion}
use Rattle.op_base.specs.Columns.{Row, IsIn}
use Rattle.flow_graph.specs.declared.op_kind.OpKind.{OpKind}
use Rattle.flow_graph.specs.declared.op_kind.OpKind.TheVariants as kind
use Rattle.flow_graph.specs.declared.parts.OpParts.{OpParts}
use Rattle.flow_graph.specs.Charts.{Chart, link_at, links_into, op_at, keys_at, parts_of, into_seq}
use Rattle.flow_graph.specs.Fitting.{FitsFields}
use Rattle.flow_derive.specs.LinkStates.{choice_at}
use Rattle.list_run.specs.declared.held.Held.{Held}
use Rattle.list_run.specs.Found.{Grows, found_by}
use Rattle.list_run.specs.Made.{made, made_by}
use Rattle.list_run.specs.Routed.{Joins, SuitsRoute, delivered}
use Rattle.flow_rules.specs.Exports.{IsExport, input_of}
use Rattle.list_run.specs.Runnable.{degree_at, row_count}
use Rattle.flow_ops.specs.Kinds.{widths_into}
use Rattle.list_run.specs.Worked.{place_of}

-- what the operator with the number o puts on a link that leaves its output q, of the partitions that came at its inputs and of the rows that are given for the link
abbrev pub sent_by : ℕ → OpKind → OpParts → List ℕ → ℕ → List (List (List Row)) → List Row → List (List Row)
sent_by o (kind.Import file schema delim fixed reject) parts widths q inputs rows = rows ∷ []
sent_by o k parts widths q inputs rows = made_by o k parts widths q inputs

-- the same of a link of the flow
abbrev pub sent_from : Chart → ℕ → ℕ → List (List (List Row)) → List Row → List (List Row)
sent_from c l o inputs rows = sent_by o (op_at c o).kind (parts_of c o) (widths_into c o) (link_at c l).out inputs rows

-- what comes at the inputs of an operator, by port
abbrev pub inputs_of : Chart → ℕ → (ℕ → List (List Row)) → List (List (List Row))
inputs_of c o got = map got (links_into c o)

abbrev pub sent_on : Chart → (ℕ → List (List Row)) → (ℕ → List Row) → ℕ → List (List Row)
sent_on c got given l = sent_from c l (link_at c l).from (inputs_of c (link_at c l).from got) (given l)

-- what waits on a link
abbrev pub waits : Held → ℕ → List (List Row)
waits held l = get_or held.waiting.items l []

-- and what comes of it
abbrev pub got_on : Chart → ℕ → ℕ → List (List Row) → List (List Row)
got_on c nodes l sent = delivered (into_seq c l) (choice_at c l) (degree_at c nodes (link_at c l).to) sent

-- there is a place for each link and each operator
pub record HasRoom (c : Chart) (held : Held) : Type 0 where
  pub waiting : length held.waiting.items ≡ length c.flow.links
  pub counts : length held.counts.items ≡ length c.flow.links
  pub sinks : length held.sinks.items ≡ length c.flow.ops

-- some links are put: what comes of what was sent on them waits, and its rows are counted
pub record Puts (c : Chart) (nodes : ℕ) (takes : ℕ → Bool) (sent : ℕ → List (List Row)) (old new : Held) : Type 0 where
  pub room : HasRoom c new
  pub waiting : (l : ℕ) → l < length c.flow.links → takes l ≡ true → get_or new.waiting.items l [] ≡ got_on c nodes l (sent l)
  pub counts : (l : ℕ) → l < length c.flow.links → takes l ≡ true → get_or new.counts.items l 0 ≡ row_count (sent l)
  pub kept : (l : ℕ) → takes l ≡ false → get_or new.waiting.items l [] ≡ get_or old.waiting.items l []
  pub kept_counts : (l : ℕ) → takes l ≡ false → get_or new.counts.items l 0 ≡ get_or old.counts.items l 0
  pub sinks : new.sinks.items ≡ old.sinks.items
  pub tally : new.tally ≡ old.tally

-- what an operator sends may go on each link that leaves it
abbrev pub MaySend : Chart → ℕ → ℕ → (ℕ → List (List Row)) → Type 0
MaySend c nodes o sent = (l : ℕ) → l < length c.flow.links → (link_at c l).from ≡ o → Joins (into_seq c l) (choice_at c l).method (length (sent l)) (degree_at c nodes (link_at c l).to) × All (All (SuitsRoute (choice_at c l).method)) (sent l)

abbrev pub leaves : Chart → ℕ → ℕ → Bool
leaves c o l = (link_at c l).from == o

-- the links that leave an operator, but one
abbrev pub leaves_but : Chart → ℕ → ℕ → ℕ → Bool
leaves_but c o last l = cond (l == last) false (leaves c o l)

-- what waited at an operator's inputs is taken, some faults are found in it, and some links are put
pub record Moves (c : Chart) (nodes o : ℕ) (takes : ℕ → Bool) (sent : ℕ → List (List Row)) (faults : List Fault) (old new : Held) : Type 0 where
  pub mid : Held
  pub others : (l : ℕ) → (link_at c l).to ≢ o → waits mid l ≡ waits old l
  pub counts : mid.counts.items ≡ old.counts.items
  pub sinks : mid.sinks.items ≡ old.sinks.items
  pub found : Grows old.tally mid.tally faults
  pub puts : Puts c nodes takes sent mid new

-- the links that leave an operator
abbrev pub outputs : Chart → ℕ → ℕ → Bool
outputs c o l = cond (nat_lt l (length c.flow.links)) (leaves c o l) false

-- what a copy, a tsort or a remdup makes of what waits at its input
abbrev pub made_at : Chart → ℕ → Held → List (List Row)
made_at c o held = map (made (op_at c o).kind (keys_at c o)) (get_or held.waiting.items (input_of c o) [])

-- what an operator makes of what waits at its inputs for a link
abbrev pub worked_at : Chart → ℕ → Held → ℕ → List (List Row)
worked_at c o held l = made_by o (op_at c o).kind (parts_of c o) (widths_into c o) (link_at c l).out (inputs_of c o (waits held))

-- and what it finds in what comes at its inputs
abbrev pub found_at : Chart → ℕ → (ℕ → List (List Row)) → List Fault
found_at c o got = found_by o (op_at c o).kind (parts_of c o) (widths_into c o) (inputs_of c o got)

-- the rows that come at an operator's inputs have the fields of their links
abbrev pub CameFits : Chart → ℕ → (ℕ → List (List Row)) → Type 0
CameFits c o got = (l : ℕ) → IsIn l (links_into c o) → AllByRecursion (AllByRecursion (FitsFields (get_or c.schemas l []))) (got l)

-- which of some lists a link has, where one list stands for each output, and what that is
abbrev pub place_on : Chart → ℕ → ℕ → ℕ
place_on c outs l = place_of outs (link_at c l).out

abbrev pub out_on : Chart → List (List (List Row)) → ℕ → List (List Row)
out_on c outs l = get_or outs (place_on c (length outs) l) []

-- an operator has its turn
pub record Steps (c : Chart) (nodes o : ℕ) (before after : List (List Row)) (old new : Held) : Type 0 where
  pub room : HasRoom c new
  pub given : length after ≡ length before
  pub waiting : (l : ℕ) → l < length c.flow.links → (link_at c l).from ≡ o → get_or new.waiting.items l [] ≡ got_on c nodes l (sent_on c (waits old) (λ i. get_or before i []) l)
  pub counts : (l : ℕ) → l < length c.flow.links → (link_at c l).from ≡ o → get_or new.counts.items l 0 ≡ row_count (sent_on c (waits old) (λ i. get_or before i []) l)
  pub kept : (l : ℕ) → l < length c.flow.links → (link_at c l).from ≢ o → (link_at c l).to ≢ o → get_or new.waiting.items l [] ≡ get_or old.waiting.items l []
  pub kept_counts : (l : ℕ) → l < length c.flow.links → (link_at c l).from ≢ o → get_or new.counts.items l 0 ≡ get_or old.counts.items l 0
  pub kept_given : (l : ℕ) → l < length c.flow.links → (link_at c l).from ≢ o → get_or after l [] ≡ get_or before l []
  pub sink : IsExport (op_at c o).kind → get_or new.sinks.items o [] ≡ get_or old.waiting.items (input_of c o) []
  pub kept_sinks : (p : ℕ) → p ≢ o → get_or new.sinks.items p [] ≡ get_or old.sinks.items p []
  pub found : Grows old.tally new.tally (found_at c o (waits old))
