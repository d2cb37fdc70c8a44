use Rattle.std.proofs.Common.{◌≡◌, List, refl, sym, subst, true, ◌∙◌, ap}
use Rattle.std.specs.Prelude.{nat_lt}
use Rattle.std.specs.List.{list_all}
use Rattle.ds_schema.specs.declared.key.Key.{Key}
use Rattle.ds_schema.specs.Rows.{cols}
use Rattle.op_base.specs.Standing.{RowStream}
use Rattle.op_match.specs.Suiting.{WideSuit}
use Rattle.op_match.proofs.Suiting.{captures_wide}
use Rattle.ports_tests.proofs.matching.capture_tables.Goals as goal

pub emitted-requires-clause-stands : goal.emitted-requires-clause-stands
emitted-requires-clause-stands c = c.in_ok-op.ensures.stands

pub emitted-requires-clause-ports : goal.emitted-requires-clause-ports
emitted-requires-clause-ports c = ap (λ (s : RowStream). s.ports) c.in_ok-op.ensures.stream

pub emitted-requires-clause-wide : goal.emitted-requires-clause-wide
emitted-requires-clause-wide c =
    subst (WideSuit 2) (sym c.in_ok-op.ensures.suits)
    (captures_wide 2 c.in_ok-keys.keys c.in_ok-values.values.items (subst (λ (ks : List Key). list_all (λ n. nat_lt n 2) (cols ks) ≡ true) (sym c.in_ok-keys.ensures) refl)
    (ap (list_all (λ n. nat_lt n 2)) (sym c.as_slice.ensures.value) ∙ sym c.are_columns.ensures ∙ c.if-not-are_columns.false))
