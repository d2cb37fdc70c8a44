-- The links that leave an operator, counted by number and as links.
use Rattle.std.proofs.Common.{◌≡◌, ◌==◌, ◌∷◌, [], ℕ, List, Bool, true, false, cond, count_by, refl, ap, ◌∙◌, length, get_or}
use Rattle.std.specs.Prelude.{◌&&◌}
use Rattle.std.specs.List.{filter, range_with_len}
use Rattle.flow_graph.specs.declared.flow.Flow.{Flow}
use Rattle.flow_graph.specs.declared.flow.LinkSpec.{LinkSpec}
use Rattle.flow_graph.specs.Charts.{no_link}
use Rattle.flow_shape.specs.Ports.{count_out}
use Rattle.flow_shape.proofs.Numbers.{numbers_of, numbers_count}

-- one test after another is both
pub filter_both : {X : Type 0} (p q : X → Bool) (xs : List X) → filter q (filter p xs) ≡ filter (λ x. p x && q x) xs
filter_both p q [] = refl
filter_both p q (x ∷ xs) = by (p x) (q x) refl (filter_both p q xs)
  where
    by : (a b : Bool) → q x ≡ b → filter q (filter p xs) ≡ filter (λ x. p x && q x) xs → filter q (cond a (x ∷ filter p xs) (filter p xs)) ≡ cond (a && b) (x ∷ filter (λ x. p x && q x) xs) (filter (λ x. p x && q x) xs)
    by true true e more = rw e (ap (λ ys. x ∷ ys) more)
    by true false e more = rw e more
    by false b e more = more

pub counted : (p : LinkSpec → Bool) (links : List LinkSpec) → length (filter (λ l. p (get_or links l no_link)) (range_with_len 0 (length links))) ≡ count_by p links
counted p links = ap length (numbers_of p links) ∙ numbers_count p 0 links

pub from_count : (flow : Flow) (o : ℕ) → length (filter (λ l. (get_or flow.links l no_link).from == o) (range_with_len 0 (length flow.links))) ≡ count_out flow.links o
from_count flow o = counted (λ (l : LinkSpec). l.from == o) flow.links
