use Rattle.std.proofs.Common.{◌≡◌, ◌<◌, ◌==◌, ◌++◌, ◌∷◌, [], ℕ, zero, suc, List, Bool, true, false, cond, refl, sym, ap, ◌∙◌, arith, length, get_or, subst}
use Rattle.std.specs.List.{AllByRecursion}
use Rattle.std.proofs.lemmas.Bool.{eqb-true}
use Rattle.flow_graph.specs.declared.flow.Flag.TheVariants as flag
use Rattle.flow_graph.specs.declared.flow.Flow.{Flow}
use Rattle.flow_graph.specs.declared.flow.LinkSpec.{LinkSpec}
use Rattle.flow_graph.specs.declared.flow.Method.TheVariants as method
use Rattle.flow_graph.specs.declared.flow.OpSpec.{OpSpec}
use Rattle.op_shape.specs.Options.{IsKnown, KeysDistinct, OptionsStand}
use Rattle.flow_shape.specs.Spelled.{IsJoined}
use Rattle.flow_tests.proofs.keyed_flow_shapes.flow_of.Goals as goal

abbrev flow_with : List OpSpec → List LinkSpec → Flow
flow_with ops links = record { nopart = false; nosort = false; ops = ops; links = links }

abbrev link_between : ℕ → ℕ → ℕ → LinkSpec
link_between a b port = record { from = a; out = 0; to = b; port = port; method = method.Auto; flag = flag.Prop }

abbrev three : List LinkSpec
three = link_between 0 2 0 ∷ (link_between 1 2 1 ∷ (link_between 2 3 0 ∷ []))

-- the numbers of the links into one operator, where the first two lead into the same
abbrev chosen : Bool → Bool → List ℕ
chosen x y = let last = cond y (2 ∷ []) [] in let more = cond x (1 ∷ last) last in cond x (0 ∷ more) more

in_order : (x y : Bool) (f : ℕ → ℕ) → f 0 ≡ 0 → f 1 ≡ 1 → f 2 ≡ 0 → (x ≡ true → y ≡ true → ⊥) → (i : ℕ) → i < length (chosen x y) → f (get_or (chosen x y) i 0) ≡ i
in_order true true f a b c apart i h = absurd (apart refl refl)
in_order true false f a b c apart zero h = a
in_order true false f a b c apart (suc zero) h = b
in_order true false f a b c apart (suc (suc i)) h = absurd (omega arith)
in_order false true f a b c apart zero h = c
in_order false true f a b c apart (suc i) h = absurd (omega arith)
in_order false false f a b c apart i h = absurd (omega arith)

apart_at : (o : ℕ) → (2 == o) ≡ true → (3 == o) ≡ true → ⊥
apart_at o e f = let two = eqb-true 2 o e in let three = eqb-true 3 o f in omega (arith, two, three)

abbrev Stands : OpSpec → Type 0
Stands s = IsKnown s.kind × (KeysDistinct s.kind × OptionsStand s.kind)

each_known : (ops : List OpSpec) → AllByRecursion Stands ops → AllByRecursion (λ (s : OpSpec). IsKnown s.kind) ops
each_known [] a = tt
each_known (s ∷ ops) a = (a.0.0, each_known ops a.1)

each_differ : (ops : List OpSpec) → AllByRecursion Stands ops → AllByRecursion (λ (s : OpSpec). KeysDistinct s.kind) ops
each_differ [] a = tt
each_differ (s ∷ ops) a = (a.0.1.0, each_differ ops a.1)

each_stand : (ops : List OpSpec) → AllByRecursion Stands ops → AllByRecursion (λ (s : OpSpec). OptionsStand s.kind) ops
each_stand [] a = tt
each_stand (s ∷ ops) a = (a.0.1.1, each_stand ops a.1)

joined : (ops : List OpSpec) → length ops ≡ 4 → AllByRecursion Stands ops → IsJoined (flow_with ops three)
joined ops n a = record {
  few = omega (arith, n);
  within = ((omega (arith, n), omega (arith, n)), ((omega (arith, n), omega (arith, n)), ((omega (arith, n), omega (arith, n)), tt)));
  ports = λ o i h. in_order (2 == o) (3 == o) (λ l. (get_or three l (link_between 0 0 0)).port) refl refl refl (apart_at o) i h;
  keys = each_differ ops a;
  options = each_stand ops a;
  methods = (tt, (tt, (tt, tt)));
}

pub returns-clause-joined : goal.returns-clause-joined
returns-clause-joined c = subst (λ ls. IsJoined (flow_with c.args.ops ls)) (sym c.in_ok-links.ensures) (joined c.args.ops c.requires.four c.requires.stand)

pub returns-clause-known : goal.returns-clause-known
returns-clause-known c = each_known c.args.ops c.requires.stand
