-- What is said of an operator by rows, by its type.
use Rattle.streams.specs.Streams.{IsStream}
use Rattle.op_base.specs.Standing.{RowStream}
use Rattle.op_row.specs.declared.copying.Copier.{Copier}
use Rattle.op_row.specs.declared.sifting.Filter.{Filter}
use Rattle.op_row.specs.declared.transforming.Transform.{Transform}
use Rattle.op_row.specs.declared.keeping.Modify.{Modify}
use Rattle.op_row.specs.declared.switching.Switcher.{Switcher}
use Rattle.op_any.specs.declared.row_operator.RowOperator.{RowOperator}
use Rattle.op_any.specs.declared.row_operator.RowOperator.TheVariants as any

abbrev pub by_type {ℓ} : {A : Type ℓ} → (Copier → A) → (Filter → A) → (Transform → A) → (Modify → A) → (Switcher → A) → RowOperator → A
by_type copier filter transform modify switcher (any.Copier op) = copier op
by_type copier filter transform modify switcher (any.Filter op) = filter op
by_type copier filter transform modify switcher (any.Transform op) = transform op
by_type copier filter transform modify switcher (any.Modify op) = modify op
by_type copier filter transform modify switcher (any.Switcher op) = switcher op

-- each is a stream
abbrev pub are_streams : (copier : Copier → RowStream) (filter : Filter → RowStream) (transform : Transform → RowStream) (modify : Modify → RowStream) (switcher : Switcher → RowStream) →
    ((op : Copier) → IsStream (copier op)) → ((op : Filter) → IsStream (filter op)) → ((op : Transform) → IsStream (transform op)) → ((op : Modify) → IsStream (modify op)) → ((op : Switcher) → IsStream (switcher op)) →
    (op : RowOperator) → IsStream (by_type copier filter transform modify switcher op)
are_streams a b c d e copier filter transform modify switcher (any.Copier op) = copier op
are_streams a b c d e copier filter transform modify switcher (any.Filter op) = filter op
are_streams a b c d e copier filter transform modify switcher (any.Transform op) = transform op
are_streams a b c d e copier filter transform modify switcher (any.Modify op) = modify op
are_streams a b c d e copier filter transform modify switcher (any.Switcher op) = switcher op
