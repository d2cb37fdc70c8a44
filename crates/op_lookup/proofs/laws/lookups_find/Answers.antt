use Rattle.op_lookup.proofs.Finding.{own-values-stay}
use Rattle.op_lookup.proofs.Means.{lookups-find, lookups-find-in-one-way}
use Rattle.op_lookup.proofs.laws.lookups_find.Goals as goal

pub returns : goal.returns
returns c = record { each = lookups-find; one_width = lookups-find-in-one-way; own = own-values-stay }
