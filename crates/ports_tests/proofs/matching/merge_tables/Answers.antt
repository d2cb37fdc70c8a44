use Rattle.std.proofs.Common.{◌≡◌, ℕ, List, refl, sym, subst, ap, ◌∙◌}
use Rattle.std.specs.List.{AllByRecursion}
use Rattle.op_match.specs.Suiting.{WideSuit}
use Rattle.op_match.proofs.Suiting.{merges_wide}
use Rattle.ports_tests.proofs.matching.merge_tables.Goals as goal

pub emitted-requires-clause-stands : goal.emitted-requires-clause-stands
emitted-requires-clause-stands c = c.in_ok-op.ensures.stands

pub emitted-requires-clause-wide : goal.emitted-requires-clause-wide
emitted-requires-clause-wide c = subst (WideSuit 2) (sym c.in_ok-op.ensures.suits) (merges_wide 2 0 c.in_ok-widths.widths.items (subst (AllByRecursion (λ (w : ℕ). w ≡ 2)) (sym c.in_ok-widths.ensures.items) (refl, (refl, (refl, tt)))))
