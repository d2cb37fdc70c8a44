use Rattle.std.proofs.Common.{sym}
use Rattle.std.proofs.lemmas.Slice.Eq.{slice_eq-Decides}
use Rattle.expr_table.proofs.Names.{name_same, shape_same, has_is, same_test}
use Rattle.expr_table.proofs.find.has.Goals as goal

pub returns-then-eq : goal.returns-then-eq
returns-then-eq c =
    let shapes = slice_eq-Decides shape_same _ _ c.eq-then-eq.result c.eq-then-eq.ensures in
    let name = name_same c.args.row.now.name c.args.name in
    let is = has_is c.args.name c.args.args.now c.args.row.now in
    same_test _ _ (λ t. is.1 (name.0 (sym c.if-eq.ensures), shapes.0 t)) (λ t. shapes.1 (is.0 t).1)
