-- The numbers of the links that pass a test.
use Rattle.std.proofs.Common.{◌≡◌, ◌+◌, ◌++◌, ◌∷◌, ◌==◌, [], ℕ, List, Bool, true, false, cond, count_by, arith, refl, sym, ap, subst, ◌∙◌, length, get_or, append_assoc, length-append}
use Rattle.std.specs.List.{filter, range_with_len}
use Rattle.std.proofs.lemmas.List.Sums.{sum_by-cons}
use Rattle.flow_graph.specs.declared.flow.Flow.{Flow}
use Rattle.flow_graph.specs.declared.flow.LinkSpec.{LinkSpec}
use Rattle.flow_graph.specs.Charts.{no_link}
use Rattle.flow_shape.specs.Ports.{count_in}

-- counted from a number on
abbrev pub numbers : (LinkSpec → Bool) → ℕ → List LinkSpec → List ℕ
numbers p a [] = []
numbers p a (l ∷ links) = cond (p l) (a ∷ numbers p (a + 1) links) (numbers p (a + 1) links)

get_at : (pre : List LinkSpec) (l : LinkSpec) (links : List LinkSpec) → get_or (pre ++ l ∷ links) (length pre) no_link ≡ l
get_at [] l links = refl
get_at (x ∷ pre) l links = get_at pre l links

len_more : (pre : List LinkSpec) (l : LinkSpec) → length (pre ++ l ∷ []) ≡ length pre + 1
len_more pre l = simp length-append

step : (q : ℕ → Bool) (x : Bool) (a : ℕ) (r s : List ℕ) → q a ≡ x → r ≡ s → cond (q a) (a ∷ r) r ≡ cond x (a ∷ s) s
step q x a r s e h = rw (e, h) refl

from_on : (p : LinkSpec → Bool) (all pre links : List LinkSpec) → all ≡ pre ++ links → filter (λ l. p (get_or all l no_link)) (range_with_len (length pre) (length links)) ≡ numbers p (length pre) links
from_on p all pre [] e = refl
from_on p all pre (l ∷ links) e =
    let len : length (pre ++ l ∷ []) ≡ length pre + 1 = len_more pre l in
    let rest : filter (λ x. p (get_or all x no_link)) (range_with_len (length pre + 1) (length links)) ≡ numbers p (length pre + 1) links =
    subst (λ n. filter (λ x. p (get_or all x no_link)) (range_with_len n (length links)) ≡ numbers p n links) len
    (from_on p all (pre ++ l ∷ []) links (e ∙ sym (append_assoc pre (l ∷ []) links))) in
    step (λ x. p (get_or all x no_link)) (p l) (length pre) _ _ (ap p (ap (λ xs. get_or xs (length pre) no_link) e ∙ get_at pre l links)) rest

pub numbers_of : (p : LinkSpec → Bool) (links : List LinkSpec) → filter (λ l. p (get_or links l no_link)) (range_with_len 0 (length links)) ≡ numbers p 0 links
numbers_of p links = from_on p links [] links refl

-- how many they are
length_by : (x : Bool) (a c : ℕ) (ns : List ℕ) → length ns ≡ c → length (cond x (a ∷ ns) ns) ≡ cond x 1 0 + c
length_by true a c ns e = omega (arith, e)
length_by false a c ns e = omega (arith, e)

pub numbers_count : (p : LinkSpec → Bool) (a : ℕ) (links : List LinkSpec) → length (numbers p a links) ≡ count_by p links
numbers_count p a [] = refl
numbers_count p a (l ∷ links) = length_by (p l) a (count_by p links) (numbers p (a + 1) links) (numbers_count p (a + 1) links) ∙ sym (sum_by-cons (λ x. cond (p x) 1 0) l links)

pub into_count : (flow : Flow) (o : ℕ) → length (filter (λ l. (get_or flow.links l no_link).to == o) (range_with_len 0 (length flow.links))) ≡ count_in flow.links o
into_count flow o = ap length (numbers_of (λ (l : LinkSpec). l.to == o) flow.links) ∙ numbers_count (λ (l : LinkSpec). l.to == o) 0 flow.links
