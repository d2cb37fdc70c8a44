-- Agree sets as sets, in states.
use Rattle.std.proofs.Common.{List, None, Option, Some, add-one, ap, arith, false, refl, suc, zero, ℕ, ◌+◌, ◌≡◌, ◌∷◌, ◌++◌, ◌∙◌, []}
use Rattle.std.specs.List.{range_with_len}
use Rattle.op_base.specs.Columns.{all_columns}
use Rattle.flow_graph.specs.Columns.{set_of}
use Rattle.flow_graph.specs.declared.state.State.{State}
use Rattle.flow_graph.proofs.ColumnSets as sets
use Rattle.flow_derive.specs.Derive.{filled_agree, or_filled, refined, set_if, settled}

pub set_twice : (cs : List ℕ) → set_of (set_of cs) ≡ set_of cs
set_twice cs = sets.set_twice cs

range_more : (a n : ℕ) → range_with_len a (suc n) ≡ range_with_len a n ++ (a + n) ∷ []
range_more a zero = ap (λ m. m ∷ []) (omega arith)
range_more a (suc n) = ap (λ ms. a ∷ ms) (range_more (a + 1) n ∙ ap (λ m. range_with_len (a + 1) n ++ m ∷ []) (omega arith))

pub columns_more : (n : ℕ) → all_columns (n + 1) ≡ all_columns n ++ n ∷ []
columns_more n = rw add-one (range_more 0 n ∙ ap (λ m. all_columns n ++ m ∷ []) (omega arith))

same_agree : (G H U : Option (List ℕ)) → set_if G ≡ set_if H → set_if (or_filled G U) ≡ set_if (or_filled H U)
same_agree None None U e = refl
same_agree None (Some H) U e = cc
same_agree (Some G) None U e = cc
same_agree (Some G) (Some H) U e = e

-- refining sees of an agree set only which columns are in it
pub refined_same : (width : ℕ) (s t : State) → settled s ≡ settled t → refined false width s ≡ refined false width t
refined_same width s t e =
    let place : s.place ≡ t.place = ap (λ (r : State). r.place) e in
    let sort : s.sort ≡ t.sort = ap (λ (r : State). r.sort) e in
    let agree : set_if s.agree ≡ set_if t.agree = ap (λ (r : State). r.agree) e in
    let both : set_if (or_filled s.agree (filled_agree width s.place)) ≡ set_if (or_filled t.agree (filled_agree width t.place)) = same_agree s.agree t.agree (filled_agree width s.place) agree ∙ ap (λ p. set_if (or_filled t.agree (filled_agree width p))) place in
    cc
