use Rattle.std.proofs.Common.{ℕ, List, [], ◌∷◌, ◌++◌, sym, subst}
use Rattle.streams.specs.Streams.{Out}
use Rattle.ds_schema.specs.declared.key.Key.{Key}
use Rattle.op_base.specs.declared.fault.Fault.{Fault}
use Rattle.op_base.specs.Columns.{Row}
use Rattle.op_base.specs.Emits.{Adds}
use Rattle.op_base.specs.Standing.{end_feed}
use Rattle.op_collect.specs.Merging.{MergeStands}
use Rattle.op_collect.proofs.Lanes.{wanted_asks, merge_stands, merge_emits}
use Rattle.op_collect.proofs.merging.SortMergeOperator.end.Goals as goal

pub returns-clause-stands : goal.returns-clause-stands
returns-clause-stands c = λ feeds stands.
    let self = c.args.self.now in
    let new = c.settle.new.self in
    let f = end_feed c.args.port in
    let asks = wanted_asks self.ports self.some self.keys self.lanes.items c.requires.feeds c.args.port c.requires.stands c.requires.wanted in
    subst (λ (n : ℕ). MergeStands n new.keys new.lanes.items (feeds ++ f ∷ [])) (sym c.in_ok-settle.ensures.ports)
    (subst (λ (keys : List Key). MergeStands self.ports keys new.lanes.items (feeds ++ f ∷ [])) (sym c.in_ok-settle.ensures.keys)
    (merge_stands self.ports self.some self.keys self.lanes.items new.lanes.items feeds f self.each asks.0 asks.1 c.in_ok-settle.ensures.lanes stands))

pub returns-clause-emits : goal.returns-clause-emits
returns-clause-emits c = λ feeds stands.
    let self = c.args.self.now in
    let f = end_feed c.args.port in
    let asks = wanted_asks self.ports self.some self.keys self.lanes.items c.requires.feeds c.args.port c.requires.stands c.requires.wanted in
    let P : List (Out Row Fault) → Type 0 = λ outs. Adds c.args.emit.now c.settle.new.emit outs in
    subst P (merge_emits self.ports self.some self.keys self.lanes.items feeds f self.each asks.0 asks.1 stands) c.in_ok-settle.ensures.sent
