use Rattle.ds_text.proofs.RecordProofs.{in_fits}
use Rattle.ds_text.proofs.record.read_record.Goals as goal

pub returns-in-Ok-clause-fits : goal.returns-in-Ok-clause-fits
returns-in-Ok-clause-fits c = rw c.from_vec.ensures (in_fits _ _ _ _ (rw c.as_slice.ensures.fields at c.in-Ok.ensures.found))
