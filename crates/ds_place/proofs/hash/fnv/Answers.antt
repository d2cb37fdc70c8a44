use Rattle.std.proofs.Common.{sym, ◌∙◌}
use Rattle.ds_place.proofs.Hashes.{fnv-is}
use Rattle.ds_place.proofs.hash.fnv.Goals as goal

pub returns : goal.returns
returns c = c.with_bytes.ensures ∙ sym (fnv-is c.args.bytes.now)
