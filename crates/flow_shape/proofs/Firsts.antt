-- The first cause of several places, where the places are those of the links that pass a test.
use Rattle.std.proofs.Common.{◌≡◌, ◌+◌, ◌∷◌, ℕ, List, Bool, true, false, Option, Some, None, cond, refl, map}
use Rattle.flow_graph.specs.declared.flow.LinkSpec.{LinkSpec}
use Rattle.shape_base.specs.declared.fault.ShapeWhy.{ShapeWhy}
use Rattle.shape_base.specs.Causes.{first_cause}
use Rattle.shape_base.proofs.Firsts.{or_else}
use Rattle.flow_shape.proofs.Numbers.{numbers}

head_by : (x : Bool) (c : Option ShapeWhy) (f : ℕ → Option ShapeWhy) (a : ℕ) (ns : List ℕ) → cond x (f a) None ≡ c → first_cause (map f (cond x (a ∷ ns) ns)) ≡ or_else c (first_cause (map f ns))
head_by true None f a ns e = rw e refl
head_by true (Some why) f a ns e = rw e refl
head_by false None f a ns e = refl
head_by false (Some why) f a ns e = cc

-- one link more
pub first_next : (p : LinkSpec → Bool) (f : ℕ → Option ShapeWhy) (a : ℕ) (l : LinkSpec) (links : List LinkSpec) (c : Option ShapeWhy) → cond (p l) (f a) None ≡ c
    → first_cause (map f (numbers p a (l ∷ links))) ≡ or_else c (first_cause (map f (numbers p (a + 1) links)))
first_next p f a l links c e = head_by (p l) c f a (numbers p (a + 1) links) e
