-- Copies of a row on outputs.
use Rattle.std.proofs.Common.{◌≡◌, ℕ, ◌-◌, zero, suc, refl, ap, [], ◌∷◌, ◌++◌, arith}
use Rattle.streams.specs.Streams.{sends}
use Rattle.op_base.specs.Columns.{Row}
use Rattle.op_base.specs.RowOperators.{copy_rule}
use Rattle.op_row.specs.ByRow.{to_outputs}

-- those for the outputs before the last, and the one for the last
pub to_last : (outs : ℕ) (r : Row) → (outs ≡ 0 → ⊥) → to_outputs copy_rule (outs - 1) r ++ sends (outs - 1) r ∷ [] ≡ to_outputs copy_rule outs r
to_last zero r h = absurd (h refl)
to_last (suc n) r h = ap (λ m. to_outputs copy_rule m r ++ sends m r ∷ []) (before n)
  where
    before : (n : ℕ) → suc n - 1 ≡ n
    before n = omega arith
