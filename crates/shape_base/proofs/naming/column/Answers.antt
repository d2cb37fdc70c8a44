use Rattle.std.proofs.Common.{sym}
use Rattle.shape_base.specs.Naming.{is_named}
use Rattle.shape_base.proofs.Places.{place_some, place_none}
use Rattle.shape_base.proofs.naming.column.Goals as goal

pub returns-in-Some : goal.returns-in-Some
returns-in-Some c = place_some (is_named c.args.name.now) c.args.fields.now c.in-Some.at (sym c.in-Some.ensures.place)

pub returns-in-None : goal.returns-in-None
returns-in-None c = place_none (is_named c.args.name.now) c.args.fields.now (sym c.in-None.ensures.place)
