-- The lists of a run on all links, and what is held after some operators' turns.
use Rattle.std.specs.Prelude.{◌≡◌, ℕ, zero, suc, ◌<◌, List, [], length, get_or, take}
use Rattle.std.specs.List.{flat_map}
use Rattle.op_base.specs.declared.fault.Fault.{Fault}
use Rattle.op_base.specs.Columns.{Row, IsIn}
use Rattle.flow_graph.specs.Charts.{Chart, link_at, op_at}
use Rattle.list_run.specs.declared.held.Held.{Held}
use Rattle.list_run.specs.Found.{Tallies}
use Rattle.list_run.specs.Held.{HasRoom, sent_on, got_on, found_at}
use Rattle.flow_rules.specs.Exports.{IsExport, input_of}
use Rattle.list_run.specs.Runnable.{row_count}

-- what comes on a link after so many turns, where each operator has one at once
unfoldable pub lists_after : Chart → ℕ → List (List Row) → ℕ → ℕ → List (List Row)
lists_after c nodes given zero l = []
lists_after c nodes given (suc k) l = got_on c nodes l (sent_on c (lists_after c nodes given k) (λ i. get_or given i []) l)

-- what comes on a link in the end, and what is sent on it
abbrev pub got_in : Chart → ℕ → List (List Row) → ℕ → List (List Row)
got_in c nodes given l = lists_after c nodes given (length c.order) l

abbrev pub sent_in : Chart → ℕ → List (List Row) → ℕ → List (List Row)
sent_in c nodes given l = sent_on c (got_in c nodes given) (λ i. get_or given i []) l

-- an operator is one of the first n in the order
abbrev pub HadTurn : Chart → ℕ → ℕ → Type 0
HadTurn c n o = IsIn o (take n c.order)

-- the faults that the first n operators find, in their order
abbrev pub found_after : Chart → ℕ → List (List Row) → ℕ → List Fault
found_after c nodes given n = flat_map (λ o. found_at c o (got_in c nodes given)) (take n c.order)

-- the first n operators have had their turns
pub record Stands (c : Chart) (nodes : ℕ) (given : List (List Row)) (n : ℕ) (rest : List (List Row)) (held : Held) : Type 0 where
  pub room : HasRoom c held
  pub waiting : (l : ℕ) → l < length c.flow.links → HadTurn c n (link_at c l).from → (HadTurn c n (link_at c l).to → ⊥) → get_or held.waiting.items l [] ≡ got_in c nodes given l
  pub counts : (l : ℕ) → l < length c.flow.links → HadTurn c n (link_at c l).from → get_or held.counts.items l 0 ≡ row_count (sent_in c nodes given l)
  pub rest_is : (l : ℕ) → l < length c.flow.links → (HadTurn c n (link_at c l).from → ⊥) → get_or rest l [] ≡ get_or given l []
  pub sinks : (o : ℕ) → HadTurn c n o → IsExport (op_at c o).kind → get_or held.sinks.items o [] ≡ got_in c nodes given (input_of c o)
  pub found : Tallies (found_after c nodes given n) held.tally
