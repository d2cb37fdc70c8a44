use Rattle.std.proofs.Common.{List, sym, subst}
use Rattle.std.specs.List.{All}
use Rattle.ds_value.specs.declared.value.Value.{Value}
use Rattle.ds_value.specs.Canonical.{IsShort}
use Rattle.op_base.specs.Emits.{Adds}
use Rattle.op_group.specs.Results.{results}
use Rattle.op_group.specs.Kept.{given}
use Rattle.op_group.proofs.GiveLaws.{keys_there, keys_short}
use Rattle.op_group.proofs.sorted.Run.give.Goals as goal

pub key_values-requires : goal.key_values-requires
key_values-requires c = keys_there c.args.keys.now c.requires.0 c.args.self.first c.requires.1

pub give-requires : goal.give-requires
give-requires c =
    let P : List Value → Type 0 = λ vs. All IsShort vs in
    subst P (sym c.in_ok-values.ensures) (keys_short c.args.keys.now c.requires.0 c.args.self.first c.requires.1)

pub returns : goal.returns
returns c = λ aggs rows stands.
    let P : List Value → Type 0 = λ vs. Adds c.args.emit.now c.give.new.emit (given vs (results aggs rows)) in
    subst P c.in_ok-values.ensures (c.in_ok-give.ensures aggs rows stands)
