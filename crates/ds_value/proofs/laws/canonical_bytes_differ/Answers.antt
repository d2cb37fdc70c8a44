use Rattle.ds_value.proofs.CanonicalBytes.{canonical_once, fits_held}
use Rattle.ds_value.proofs.laws.canonical_bytes_differ.Goals as goal

pub returns-clause-differ : goal.returns-clause-differ
returns-clause-differ c = canonical_once

pub returns-clause-held : goal.returns-clause-held
returns-clause-held c = fits_held
