use Rattle.std.proofs.Common.{◌∙◌}
use Rattle.op_lookup.proofs.Finding.{others_there}
use Rattle.op_lookup.proofs.looker.keep_reference.Goals as goal

pub keep_first-requires : goal.keep_first-requires
keep_first-requires c = others_there c.args.columns.now.reference.items c.args.columns.now.width c.args.row.now c.as_slice-2.result.now c.requires.width (c.as_slice-2.ensures.value ∙ c.args.columns.now.others_are)
