use Rattle.std.proofs.Common.{◌≡◌, drop}
use Rattle.ds_schema.specs.Schemas.{row_fits}
use Rattle.ds_schema.proofs.schema.row_fits.Given as goal

-- the fields that are left decide
abbrev pub invariant-loop-i : goal.invariant-loop-i
invariant-loop-i l = row_fits (drop l.i l.fields) (drop l.i l.values) ≡ row_fits l.fields l.values
