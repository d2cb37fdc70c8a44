use Rattle.std.proofs.Common.{◌≡◌, ◌<◌, ◌==◌, ◌++◌, ◌∷◌, [], ℕ, zero, suc, List, Bool, true, false, cond, refl, sym, ap, ◌∙◌, arith, length, get_or, subst}
use Rattle.std.proofs.lemmas.Bool.{eqb-true}
use Rattle.flow_graph.specs.declared.flow.Flag.TheVariants as flag
use Rattle.flow_graph.specs.declared.flow.Flow.{Flow}
use Rattle.flow_graph.specs.declared.flow.LinkSpec.{LinkSpec}
use Rattle.flow_graph.specs.declared.flow.Method.{Method}
use Rattle.flow_graph.specs.declared.flow.Method.TheVariants as method
use Rattle.flow_graph.specs.declared.flow.OpSpec.{OpSpec}
use Rattle.op_shape.specs.Options.{IsKnown, KeysDistinct, OptionsStand}
use Rattle.flow_shape.specs.Methods.{MethodDiffers}
use Rattle.flow_shape.specs.Refusals.{HasOnlyKnown}
use Rattle.flow_shape.specs.Spelled.{IsJoined}
use Rattle.flow_tests.proofs.flow_shapes.flow_of.Goals as goal

abbrev flow_with : List OpSpec → List LinkSpec → Flow
flow_with ops links = record { nopart = false; nosort = false; ops = ops; links = links }

abbrev link_between : ℕ → ℕ → Method → LinkSpec
link_between a b m = record { from = a; out = 0; to = b; port = 0; method = m; flag = flag.Prop }

-- the numbers of two links, each where it is chosen
abbrev chosen : Bool → Bool → List ℕ
chosen x y = cond x (0 ∷ cond y (1 ∷ []) []) (cond y (1 ∷ []) [])

in_order : (x y : Bool) (f : ℕ → ℕ) → f 0 ≡ 0 → f 1 ≡ 0 → (x ≡ true → y ≡ true → ⊥) → (i : ℕ) → i < length (chosen x y) → f (get_or (chosen x y) i 0) ≡ i
in_order true true f a b apart i h = absurd (apart refl refl)
in_order true false f a b apart zero h = a
in_order true false f a b apart (suc i) h = absurd (omega arith)
in_order false true f a b apart zero h = b
in_order false true f a b apart (suc i) h = absurd (omega arith)
in_order false false f a b apart i h = absurd (omega arith)

apart_at : (o : ℕ) → (1 == o) ≡ true → (2 == o) ≡ true → ⊥
apart_at o e f = let one = eqb-true 1 o e in let two = eqb-true 2 o f in omega (arith, one, two)

joined : (first middle last : OpSpec) (m : Method) → IsKnown first.kind × KeysDistinct first.kind × OptionsStand first.kind → IsKnown middle.kind × KeysDistinct middle.kind × OptionsStand middle.kind
    → IsKnown last.kind × KeysDistinct last.kind × OptionsStand last.kind → MethodDiffers m → IsJoined (flow_with (first ∷ middle ∷ last ∷ []) (link_between 0 1 m ∷ link_between 1 2 method.Auto ∷ []))
joined first middle last m a b c d = record {
  few = omega arith;
  within = ((omega arith, omega arith), ((omega arith, omega arith), tt));
  ports = λ o i h. in_order (1 == o) (2 == o) (λ l. (get_or (link_between 0 1 m ∷ link_between 1 2 method.Auto ∷ []) l (link_between 0 0 method.Auto)).port) refl refl (apart_at o) i h;
  keys = (a.1, (b.1, (c.1, tt)));
  options = (a.2, (b.2, (c.2, tt)));
  methods = (d, (tt, tt));
}

ops_are : (none one two three : List OpSpec) (first middle last : OpSpec) → none ≡ [] → one ≡ none ++ first ∷ [] → two ≡ one ++ middle ∷ [] → three ≡ two ++ last ∷ [] → three ≡ first ∷ middle ∷ last ∷ []
ops_are none one two three first middle last a b c d = d ∙ ap (λ xs. xs ++ last ∷ []) (c ∙ ap (λ xs. xs ++ middle ∷ []) (b ∙ ap (λ xs. xs ++ first ∷ []) a))

links_are : (none one two : List LinkSpec) (l k p q : LinkSpec) → none ≡ [] → one ≡ none ++ l ∷ [] → two ≡ one ++ k ∷ [] → l ≡ p → k ≡ q → two ≡ p ∷ q ∷ []
links_are none one two l k p q a b c d e = c ∙ ap (λ xs. xs ++ k ∷ []) (b ∙ ap (λ xs. xs ++ l ∷ []) a) ∙ ap (λ x. x ∷ k ∷ []) d ∙ ap (λ x. p ∷ x ∷ []) e

pub returns-clause-joined : goal.returns-clause-joined
returns-clause-joined c =
    let ops = ops_are _ _ _ _ _ _ _ c.new-ops.ensures c.in_ok-push.ensures.ok c.in_ok-push-2.ensures.ok c.in_ok-push-3.ensures.ok in
    let links = links_are _ _ _ _ _ _ _ c.new-links.ensures c.in_ok-push-4.ensures.ok c.in_ok-push-5.ensures.ok c.link.ensures c.link-2.ensures in
    subst (λ os. IsJoined (flow_with os c.push-5.new.self)) (sym ops) (subst (λ ls. IsJoined (flow_with (c.args.first ∷ c.args.middle ∷ c.args.last ∷ []) ls)) (sym links)
    (joined c.args.first c.args.middle c.args.last c.args.method c.requires.first c.requires.middle c.requires.last c.requires.method))

pub returns-clause-known : goal.returns-clause-known
returns-clause-known c =
    let ops = ops_are _ _ _ _ _ _ _ c.new-ops.ensures c.in_ok-push.ensures.ok c.in_ok-push-2.ensures.ok c.in_ok-push-3.ensures.ok in
    subst (λ os. HasOnlyKnown (flow_with os c.push-5.new.self)) (sym ops) (c.requires.first.0, (c.requires.middle.0, (c.requires.last.0, tt)))
