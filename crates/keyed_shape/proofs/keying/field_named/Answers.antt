use Rattle.std.proofs.Common.{arith, sym}
use Rattle.shape_base.specs.Naming.{is_named}
use Rattle.shape_base.proofs.Held.{column_within}
use Rattle.shape_base.proofs.Places.{place_none}
use Rattle.keyed_shape.proofs.keying.field_named.Goals as goal

pub unreachable-requires : goal.unreachable-requires
unreachable-requires c =
    let within = column_within c.args.fields.now c.args.name.now c.requires in
    let end = place_none (is_named c.args.name.now) c.args.fields.now (sym c.in-None.ensures.place) in
    omega (arith, within, end)
