use Rattle.std.proofs.Common.{◌∙◌}
use Rattle.memchr.specs.Find.{is_byte}
use Rattle.ds_text.proofs.Searches.{any_found}
use Rattle.ds_text.proofs.write_fields.has_byte.Goals as goal

pub returns : goal.returns
returns c = c.is_some.ensures ∙ any_found (is_byte c.args.byte) c.args.bytes.now c.memchr.result c.memchr.ensures
