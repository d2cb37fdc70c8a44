use Rattle.std.proofs.Common.{◌≡◌, sym, ap, ◌∙◌, subst}
use Rattle.std.proofs.lemmas.List.{take_all}
use Rattle.ds_schema.specs.Rows.{KeysDiffer}
use Rattle.shape_base.specs.Naming.{key_columns}
use Rattle.shape_base.proofs.Keys.{keys_differ}
use Rattle.shape_base.proofs.naming.key_list.Goals as goal

pub from_vec-requires : goal.from_vec-requires
from_vec-requires c =
    let whole : c.loop-name.list.items ≡ key_columns c.args.fields.now c.args.keys.now =
    c.loop-name.invariant ∙ ap (key_columns c.args.fields.now) (take_all c.loop-name.name-index c.args.keys.now c.loop-name-test.false) in
    subst KeysDiffer (sym whole) (keys_differ c.args.fields.now c.args.keys.now c.requires.named c.requires.differ)
