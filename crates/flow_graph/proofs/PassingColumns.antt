-- Columns that pass, and columns of rows of some width.
use Rattle.std.proofs.Common.{List, arith, suc, zero, ℕ, ◌≡◌, ◌+◌, ◌<◌, ◌≤◌, ◌∷◌, []}
use Rattle.std.specs.List.{AllByRecursion, range_with_len}
use Rattle.ds_schema.specs.Rows.{at, val}
use Rattle.flow_graph.specs.Shapes.{Carries}
use Rattle.op_base.specs.Columns.{IsIn, Lies, Row, all_columns, pairs_of}
use Rattle.op_base.proofs.All.{all_map}
use Rattle.op_base.proofs.ColumnLaws.{in_bounds, in_range}

pub carries_same : (K H : List ℕ) (r y : Row) → val K r ≡ val H y → Carries (pairs_of K H) r y
carries_same [] H r y e = tt
carries_same (c ∷ K) [] r y e = tt
carries_same (c ∷ K) (d ∷ H) r y e = let f : at y d ≡ at r c = cc in let g : val K r ≡ val H y = cc in (f, carries_same K H r y g)

pub inside : (c w : ℕ) → c < w → IsIn c (all_columns w)
inside c w l = in_range c 0 w (omega arith) (omega arith)

pub below : (c w : ℕ) → IsIn c (all_columns w) → c < w
below c w i = let h = in_bounds c 0 w i in let a = h.1 in omega arith

pub grow : (C : List ℕ) (a b : ℕ) → a ≤ b → Lies C (all_columns a) → Lies C (all_columns b)
grow C a b l h = all_map (λ c. IsIn c (all_columns a)) (λ c. IsIn c (all_columns b)) (λ c i. inside c b (let k = below c a i in omega arith)) C h

pub lies_fit : (w : ℕ) (C : List ℕ) → Lies C (all_columns w) → AllByRecursion (λ (c : ℕ). c < w) C
lies_fit w C h = all_map (λ (c : ℕ). IsIn c (all_columns w)) (λ (c : ℕ). c < w) (λ c i. below c w i) C h

pub pairs_fit : (w : ℕ) (K H : List ℕ) → AllByRecursion (λ (c : ℕ). c < w) H → AllByRecursion (λ (e : ℕ × ℕ). e.1 < w) (pairs_of K H)
pairs_fit w [] H h = tt
pairs_fit w (c ∷ K) [] h = tt
pairs_fit w (c ∷ K) (d ∷ H) h = (h.0, pairs_fit w K H h.1)

pub range_fit : (w n k : ℕ) → n + k ≤ w → AllByRecursion (λ (c : ℕ). c < w) (range_with_len n k)
range_fit w n zero l = tt
range_fit w n (suc k) l = (omega arith, range_fit w (n + 1) k (omega arith))
