-- Operators that work key value by key value, run by run, as streams of any number of ports.
use Rattle.std.specs.Prelude.{ℕ, zero, suc, Bool, not, List, [], ◌∷◌, ◌++◌, drop, length, get_or}
use Rattle.streams.specs.Streams.{Feed, Out, ended, rows_of}
use Rattle.streams.specs.Operators.{picks, by_number}
use Rattle.ds_value.specs.declared.value.Value.{Value}
use Rattle.op_base.specs.declared.fault.Fault.{Fault}
use Rattle.op_base.specs.Columns.{Row}
use Rattle.op_base.specs.Feeds.{run_done, emits, left}
use Rattle.op_base.specs.Meanings.{input}
use Rattle.op_base.specs.Standing.{RowStream}

-- what is given for a key value and the rows that have it on each port
abbrev pub KeyRule : Type 0
KeyRule = List Value → List (List Row) → List (Out Row Fault)

-- what there is at each of n ports, from port i on
abbrev pub at_ports : {A : Type 0} → (ℕ → A) → ℕ → ℕ → List A
at_ports f i zero = []
at_ports f i (suc n) = f i ∷ at_ports f (suc i) n

-- the rows that came on each port, and whether it has ended
abbrev pub port_rows : ℕ → List (Feed Row) → List (List Row)
port_rows n feeds = at_ports (λ i. rows_of i feeds) 0 n

abbrev pub port_ends : ℕ → List (Feed Row) → List Bool
port_ends n feeds = at_ports (λ i. ended i feeds) 0 n

-- of the rows that came, what the rule has given, and those that aren't taken off yet
abbrev pub given : List Bool → List (List ℕ) → KeyRule → List (Feed Row) → List (Out Row Fault)
given ds columns rule feeds = emits ds columns rule (port_ends (length columns) feeds) (port_rows (length columns) feeds)

abbrev pub waiting : List Bool → List (List ℕ) → List (Feed Row) → List (List Row)
waiting ds columns feeds = left ds columns (port_ends (length columns) feeds) (port_rows (length columns) feeds)

-- the first run of a port isn't complete
abbrev pub run_asks : List (List ℕ) → List (Feed Row) → List (List Row) → ℕ → Bool
run_asks columns feeds inputs i = not (run_done (get_or columns i []) (ended i feeds) (input i inputs))

-- it wants the least port whose first run isn't complete, and gives what one more feed adds
abbrev pub keyed_stream : List Bool → List (List ℕ) → KeyRule → RowStream
keyed_stream ds columns rule = record {
  ports = length columns;
  wants = λ feeds. picks (length columns) by_number (run_asks columns feeds (waiting ds columns feeds));
  gives = λ feeds f. drop (length (given ds columns rule feeds)) (given ds columns rule (feeds ++ f ∷ []));
}
