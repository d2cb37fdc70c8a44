-- Flows that meet all that the law of flows asks, by computing.
use Rattle.std.proofs.Common.{List, None, Option, Some, ap, false, flat_map, inl, inr, length, lit<, lit≤, refl, suc, sym, true, zero, ℕ, ◌≡◌, ◌+◌, ◌∷◌, []}
use Rattle.std.specs.List.{AllByRecursion}
use Rattle.std.specs.Prelude.{pos}
use Rattle.ds_schema.specs.declared.key.Key.{Key}
use Rattle.ds_value.specs.declared.value.Value.{Value}
use Rattle.ds_value.specs.declared.value.Value.TheVariants.{Int, Null}
use Rattle.flow_graph.specs.Operators.{by_row, group, import, join, result}
use Rattle.flow_graph.specs.Shapes.{Wide}
use Rattle.ds_place.specs.declared.place.Place.TheVariants.{Hash}
use Rattle.flow_graph.specs.declared.state.State.{State}
use Rattle.flow_rules.specs.Soundness.{Sound}
use Rattle.op_base.specs.Columns.{only, Row}
use Rattle.op_base.specs.Meanings.{Grouping, Join, Line, good, line_rows}
use Rattle.op_base.specs.RowOperators.{RowRule}
use Rattle.op_base.specs.declared.fault.Fault.{Fault}
use Rattle.op_base.specs.declared.fault.FaultKind.TheVariants.{Overflow}
use Rattle.flow_graph.specs.declared.state.Spot.TheVariants as spot
use Rattle.flow_graph.specs.declared.route.Route.TheVariants as route

row : ℕ → ℕ → Row
row a b = Int (pos a) ∷ (Int (pos b) ∷ [])

up : List Key
up = record { col = 0; desc = false } ∷ []

left : Join
left = record { left_keys = up; right_keys = up; left_others = 1 ∷ []; right_others = 1 ∷ []; keeps_left = true; keeps_right = false }

sink : RowRule
sink = record { rows = λ q r. []; faults = λ r. []; passes = λ q. only [] }

as1 : List Row
as1 = row 2 10 ∷ (row 1 11 ∷ (row 2 12 ∷ []))

bs : List Row
bs = row 2 20 ∷ (row 3 21 ∷ [])

-- a left outer join, of keys 1 (alone) and 2 (twice)
meant : List Row
meant = (Int (pos 1) ∷ (Int (pos 11) ∷ (Null ∷ []))) ∷ ((Int (pos 2) ∷ (Int (pos 10) ∷ (Int (pos 20) ∷ []))) ∷ ((Int (pos 2) ∷ (Int (pos 12) ∷ (Int (pos 20) ∷ []))) ∷ []))

joins_left : result (join left) 0 (as1 ∷ (bs ∷ [])) ≡ meant
unfolding left as1 bs meant row up
joins_left = refl

as_sorted : List Row
as_sorted = row 1 11 ∷ (row 2 10 ∷ (row 2 12 ∷ []))

abbrev wholes : ℕ → List Row
wholes zero = as1
wholes (suc zero) = bs
wholes (suc (suc l)) = meant

abbrev gots : ℕ → List (List Row)
gots zero = as_sorted ∷ []
gots (suc zero) = bs ∷ []
gots (suc (suc l)) = meant ∷ []

abbrev sents : ℕ → List (List Row)
sents zero = as1 ∷ []
sents (suc zero) = bs ∷ []
sents (suc (suc l)) = meant ∷ []

abbrev sorts_at : ℕ → Option (List Key)
sorts_at zero = Some up
sorts_at (suc zero) = Some up
sorts_at (suc (suc l)) = None

abbrev widths : ℕ → ℕ
widths zero = 2
widths (suc zero) = 2
widths (suc (suc l)) = 3

abbrev states_at : ℕ → State
states_at l = record { agree = Some []; place = spot.Solo; sort = up }

lines_of : List Row → List Line
lines_of [] = []
lines_of (r ∷ rows) = good r ∷ lines_of rows

join_flow : Sound true
    (record { number = 0; op = import (good (row 2 10) ∷ (good (row 1 11) ∷ (good (row 2 12) ∷ []))) false []; ins = []; outs = record { port = 0; link = 0; route = route.Same; sequential = true } ∷ [] }
    ∷ (record { number = 1; op = import (good (row 2 20) ∷ (good (row 3 21) ∷ [])) false []; ins = []; outs = record { port = 0; link = 1; route = route.Same; sequential = true } ∷ [] }
    ∷ (record { number = 2; op = join left; ins = 0 ∷ (1 ∷ []); outs = record { port = 0; link = 2; route = route.Same; sequential = true } ∷ [] }
    ∷ (record { number = 3; op = by_row sink; ins = 2 ∷ []; outs = [] } ∷ []))))
    widths sorts_at states_at wholes (record { sent = sents; got = gots; failed = λ n. [] ∷ [] })
unfolding left as1 bs meant row up sink as_sorted
join_flow = record {
  forward = (tt, (tt, ((inr (inl refl), (inl refl, tt)), ((inl refl, tt), tt))));
  shaped = (
    ((λ q. 2), (λ q. wide3 q), refl, tt, ((refl, tt, tt), tt)),
    (
      ((λ q. 2), (λ q. wide2 q), refl, tt, ((refl, tt, tt), tt)),
      (
        ((λ q. 3), (refl, λ q. refl), refl, ((tt, tt), (tt, tt)), ((refl, tt, tt), tt)),
        (((λ q. 0), record { wide = λ q r h. tt; passes = λ q r h. tt; one = λ q r. lit≤ tt; inside = λ q. tt }, refl, tt, tt), tt),
      ),
    ),
  );
  inserted = (tt, (tt, ((inr refl, (inr refl, tt)), ((inl refl, tt), tt))));
  derives = ((refl, tt), ((refl, tt), ((refl, tt), (tt, tt))));
  accepted = ((tt, (refl, tt)), ((tt, (refl, tt)), (((refl, (refl, tt)), (refl, tt)), (((refl, tt), tt), tt))));
  means = ((refl, tt), ((refl, tt), ((refl, tt), (tt, tt))));
  runs = (
    record { degree = 1; some = lit< tt; fits = refl; degrees = tt; gives = (refl, tt); fails = refl; comes = (record { mid = as1 ∷ []; some = lit< tt; arrives = refl; sorted = refl }, tt) },
    (
      record { degree = 1; some = lit< tt; fits = refl; degrees = tt; gives = (refl, tt); fails = refl; comes = (record { mid = bs ∷ []; some = lit< tt; arrives = refl; sorted = refl }, tt) },
      (
        record { degree = 1; some = lit< tt; fits = tt; degrees = (refl, (refl, tt)); gives = (refl, tt); fails = refl; comes = (record { mid = meant ∷ []; some = lit< tt; arrives = refl; sorted = refl }, tt) },
        (record { degree = 1; some = lit< tt; fits = tt; degrees = (refl, tt); gives = tt; fails = refl; comes = tt }, tt),
      ),
    ),
  );
}
  where
    wide3 : (q : ℕ) → Rattle.std.specs.List.AllByRecursion (Wide 2) (Rattle.std.specs.List.flat_map (line_rows q false) (good (Int (pos 2) ∷ (Int (pos 10) ∷ [])) ∷ (good (Int (pos 1) ∷ (Int (pos 11) ∷ [])) ∷ (good (Int (pos 2) ∷ (Int (pos 12) ∷ [])) ∷ []))))
    wide3 zero = (refl, (refl, (refl, tt)))
    wide3 (suc q) = tt

    wide2 : (q : ℕ) → Rattle.std.specs.List.AllByRecursion (Wide 2) (Rattle.std.specs.List.flat_map (line_rows q false) (good (Int (pos 2) ∷ (Int (pos 20) ∷ [])) ∷ (good (Int (pos 3) ∷ (Int (pos 21) ∷ [])) ∷ [])))
    wide2 zero = (refl, (refl, tt))
    wide2 (suc q) = tt

-- counts of rows by key, on two partitions that nothing comes to
counts : Grouping
counts = record { keys = up; hashes = false; sees_order = false; results = λ rows. Some (Null ∷ []); over = λ v. record { op = 1; kind = Overflow; place = 0; bytes = [] } }

abbrev group_sorts : ℕ → Option (List Key)
group_sorts zero = Some up
group_sorts (suc l) = None

abbrev group_gots : ℕ → List (List Row)
group_gots zero = [] ∷ ([] ∷ [])
group_gots (suc l) = [] ∷ []

abbrev group_sents : ℕ → List (List Row)
group_sents zero = [] ∷ []
group_sents (suc l) = [] ∷ ([] ∷ [])

abbrev group_fails : ℕ → List (List Fault)
group_fails zero = [] ∷ []
group_fails (suc zero) = [] ∷ ([] ∷ [])
group_fails (suc (suc n)) = [] ∷ []

abbrev group_states : ℕ → State
group_states zero = record { agree = Some (0 ∷ []); place = spot.Placed (Hash (0 ∷ [])); sort = up }
group_states (suc l) = record { agree = Some []; place = spot.Solo; sort = up }

group_flow : Sound true
    (record { number = 0; op = import [] false []; ins = []; outs = record { port = 0; link = 0; route = route.Hash (0 ∷ []); sequential = false } ∷ [] }
    ∷ (record { number = 1; op = group counts; ins = 0 ∷ []; outs = record { port = 0; link = 1; route = route.Merge up; sequential = true } ∷ [] }
    ∷ (record { number = 2; op = by_row sink; ins = 1 ∷ []; outs = [] } ∷ [])))
    (λ l. 2) group_sorts group_states (λ l. []) (record { sent = group_sents; got = group_gots; failed = group_fails })
unfolding counts up sink
group_flow = record {
  forward = (tt, ((inl refl, tt), ((inl refl, tt), tt)));
  shaped = (
    ((λ q. 2), (λ q. tt), refl, tt, ((refl, tt, (inl refl, tt)), tt)),
    (
      ((λ q. 2), record { wide = λ q rows xs e. wide xs e; room = λ q. lit≤ tt; blind = λ e xs ys h. refl }, refl, tt, ((refl, tt, tt), tt)),
      (((λ q. 0), record { wide = λ q r h. tt; passes = λ q r h. tt; one = λ q r. lit≤ tt; inside = λ q. tt }, refl, tt, tt), tt),
    ),
  );
  inserted = (tt, ((inr refl, tt), ((inl refl, tt), tt)));
  derives = ((refl, tt), ((refl, tt), (tt, tt)));
  accepted = ((tt, (refl, tt)), (((refl, tt), (refl, tt)), (((refl, tt), tt), tt)));
  means = ((refl, tt), ((refl, tt), (tt, tt)));
  runs = (
    record { degree = 1; some = lit< tt; fits = refl; degrees = tt; gives = (refl, tt); fails = refl; comes = (record { mid = [] ∷ ([] ∷ []); some = lit< tt; arrives = ((refl, tt), ((refl, tt), tt)); sorted = refl }, tt) },
    (
      record { degree = 2; some = lit< tt; fits = tt; degrees = (refl, tt); gives = (refl, tt); fails = refl; comes = (record { mid = [] ∷ []; some = lit< tt; arrives = ([], refl, (refl, (refl, tt))); sorted = refl }, tt) },
      (record { degree = 1; some = lit< tt; fits = tt; degrees = (refl, tt); gives = tt; fails = refl; comes = tt }, tt),
    ),
  );
}
  where
    wide : (xs : List Value) → Some (Null ∷ []) ≡ Some xs → 1 + length xs ≡ 2
    wide xs e = let f : Null ∷ [] ≡ xs = cc in ap (λ ys. 1 + length ys) (sym f)
