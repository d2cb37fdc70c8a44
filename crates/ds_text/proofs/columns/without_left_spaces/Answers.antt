use Rattle.std.proofs.Common.{◌∙◌, ap, drop}
use Rattle.std.proofs.lemmas.List.{take_rest}
use Rattle.ds_text.proofs.Spaces.{left_len}
use Rattle.ds_text.proofs.columns.without_left_spaces.Goals as goal

pub returns : goal.returns
returns c = take_rest c.args.bytes.now c.left_len.result ∙ (ap (λ n. drop n c.args.bytes.now) c.left_len.ensures.len ∙ left_len c.args.bytes.now)
