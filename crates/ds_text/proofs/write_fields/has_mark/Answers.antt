use Rattle.std.proofs.Common.{◌∙◌}
use Rattle.memchr.specs.Find.{is_byte3}
use Rattle.ds_text.proofs.Searches.{any_found}
use Rattle.ds_text.proofs.write_fields.has_mark.Goals as goal

pub returns : goal.returns
returns c = c.is_some.ensures ∙ any_found (is_byte3 c.args.delimiter 34 13) c.args.bytes.now c.memchr3.result c.memchr3.ensures
