use Rattle.op_match.proofs.Pairing.{changes_sent}
use Rattle.op_match.proofs.change.Changes.send_changes.Goals as goal

pub returns : goal.returns
returns c = λ keys.
    changes_sent c.args.self.now.values.items c.args.self.now.keep keys c.args.emit.now c.send_pairs.new.emit c.send_left_over.new.emit c.send_left_over-2.new.emit c.args.befores.now c.args.afters.now c.min-paired.result c.min-paired.ensures
    c.in_ok-send_pairs.ensures c.in_ok-send_left_over.ensures c.in_ok-send_left_over-2.ensures
