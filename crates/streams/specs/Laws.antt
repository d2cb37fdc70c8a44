-- What the collectors are and give.
use Rattle.std.specs.Prelude.{◌≡◌, ℕ, ◌<◌, Bool, true, List}
use Rattle.std.specs.List.{flat_map}
use Rattle.std.specs.declared.cmp.Ordering.{Ordering}
use Rattle.streams.specs.Streams.{Stream, Out, Gives, IsStream, IsSingle, IsCollector, rows_out}
use Rattle.streams.specs.Operators.{any_stream, ordered_stream, round_robin_stream, merge_stream, join_stream, all_rounds, rowwise, at_end, remdup_stream, run_stream, first_outs, lookup_stream}
use Rattle.streams.specs.Lists.{Interleaves, Merges, IsOrder, lists_from, joined_from, runs_of}

-- where one port at a time is wanted, what is emitted depends on the port lists alone
abbrev pub Decided : Type 0 → Type 0 → Type 0
Decided X F = (operator : Stream X F) → IsStream operator → IsSingle operator → (lists : ℕ → List X) (outs more : List (Out X F)) → Gives operator lists outs → Gives operator lists more → outs ≡ more

pub record CollectorsFit (X F : Type 0) : Type 0 where
  pub any : (n : ℕ) → 0 < n → IsCollector (any_stream {X = X} {F = F} n) × ((lists : ℕ → List X) (outs : List (Out X F)) → Gives (any_stream n) lists outs → Interleaves (lists_from lists 0 n) (rows_out outs))
  pub round_robin : (n : ℕ) → 0 < n → IsCollector (round_robin_stream {X = X} {F = F} n) × IsSingle (round_robin_stream {X = X} {F = F} n) × ((lists : ℕ → List X) (outs : List (Out X F)) → Gives (round_robin_stream n) lists outs → Interleaves (lists_from lists 0 n) (rows_out outs))
  pub ordered : (n : ℕ) → 0 < n → IsCollector (ordered_stream {X = X} {F = F} n) × IsSingle (ordered_stream {X = X} {F = F} n) × ((lists : ℕ → List X) (outs : List (Out X F)) → Gives (ordered_stream n) lists outs → rows_out outs ≡ joined_from lists 0 n)
  pub merge : (n : ℕ) → 0 < n → (cmp : X → X → Ordering) → IsCollector (merge_stream {F = F} n cmp) × IsSingle (merge_stream {F = F} n cmp) × (IsOrder cmp → (lists : ℕ → List X) (outs : List (Out X F)) → Gives (merge_stream n cmp) lists outs → Merges cmp (lists_from lists 0 n) (rows_out outs))

-- what the operators with one port, and lookup, give is a function of their whole lists
pub record OperatorsGive (X F : Type 0) : Type 0 where
  pub rowwise : (g : X → List (Out X F)) → IsStream (rowwise g) × ((lists : ℕ → List X) (outs : List (Out X F)) → Gives (rowwise g) lists outs → outs ≡ flat_map g (lists 0))
  pub at_end : (f : List X → List (Out X F)) → IsStream (at_end f) × ((lists : ℕ → List X) (outs : List (Out X F)) → Gives (at_end f) lists outs → outs ≡ f (lists 0))
  pub remdup : (same : X → X → Bool) → IsStream (remdup_stream {F = F} same) × ((lists : ℕ → List X) (outs : List (Out X F)) → Gives (remdup_stream same) lists outs → outs ≡ flat_map first_outs (runs_of same (lists 0)))
  pub run : (same : X → X → Bool) (rule : List X → List (Out X F)) → IsStream (run_stream same rule) × ((lists : ℕ → List X) (outs : List (Out X F)) → Gives (run_stream same rule) lists outs → outs ≡ flat_map rule (runs_of same (lists 0)))
  pub lookup : (rule : X → List X → List (Out X F)) → IsStream (lookup_stream rule) × ((lists : ℕ → List X) (outs : List (Out X F)) → Gives (lookup_stream rule) lists outs → outs ≡ flat_map (λ x. rule x (lists 1)) (lists 0))

-- what a join gives is one function of its whole lists: rounds over them
abbrev pub JoinGives : Type 0 → Type 0 → Type 0
JoinGives X F = (same : X → X → Bool) → ((x : X) → same x x ≡ true) → ((k x y : X) → same k x ≡ true → same x y ≡ same k y) → (cmp : X → X → Ordering) (rule : List X → List X → List (Out X F)) →
    IsStream (join_stream same cmp rule) × ((lists : ℕ → List X) (outs : List (Out X F)) → Gives (join_stream same cmp rule) lists outs →
    outs ≡ (all_rounds same cmp rule (record { left = record { rows = lists 0; over = true }; right = record { rows = lists 1; over = true } })).outs)
