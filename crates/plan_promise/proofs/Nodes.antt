-- The degrees of a flow's operators on some nodes.
use Rattle.std.proofs.Common.{◌≡◌, ℕ, ◌<◌, ◌==◌, Bool, true, false, not, refl, arith}
use Rattle.std.specs.Prelude.{◌&&◌, Option}
use Rattle.flow_graph.specs.declared.flow.Mark.{Mark}
use Rattle.flow_graph.specs.declared.flow.Mark.TheVariants as mark
use Rattle.flow_graph.specs.declared.parts.Stored.{Stored}
use Rattle.flow_graph.specs.Charts.{is_seq, into_seq, op_at, width_at}
use Rattle.flow_score.specs.Scores.{degree, choice_of, is_same}
use Rattle.flow_choices.proofs.Accepted.{route_stands}
use Rattle.plan_promise.specs.Promised.{NodesFit}

some_of : (nodes : ℕ) (m : Mark) (stored : Option Stored) → 0 < nodes → (m ≡ mark.Stored → ⊥) → 0 < degree nodes m stored
some_of nodes mark.Seq stored h n = omega arith
some_of nodes mark.Par stored h n = h
some_of nodes mark.Stored stored h n = absurd (n refl)

one_of : (nodes : ℕ) (m : Mark) (stored : Option Stored) → is_seq m ≡ true → degree nodes m stored ≡ 1
one_of nodes mark.Seq stored e = refl
one_of nodes mark.Par stored e = cc
one_of nodes mark.Stored stored e = cc

equal_by : (a b : ℕ) (same : Bool) → same ≡ true → (same && not (a == b)) ≡ false → a ≡ b
equal_by a b true e h = go (a == b) refl h
  where
    go : (t : Bool) → (a == b) ≡ t → not t ≡ false → a ≡ b
    go true e h = grind (arith, Rattle.std.proofs.lemmas.Bool.Decides.nat_tests)
    go false e h = cc
equal_by a b false e h = cc

pub nodes_fit : NodesFit
nodes_fit c choices nodes are some none joins = record {
  some = λ o h. some_of nodes (op_at c o).mark _ some (none o h);
  one = λ o h e. one_of nodes (op_at c o).mark _ e;
  may_stand = λ l h. route_stands (into_seq c l) (width_at c l) (choice_of choices l).method (are.routes l h);
  equal = λ l h e. equal_by _ _ (is_same (choice_of choices l).method) e (joins l h);
}
