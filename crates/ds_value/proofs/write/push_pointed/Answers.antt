use Rattle.std.proofs.lemmas.Result.{on_ok_weaker}
use Rattle.ds_value.proofs.Pointed.{appended_few}
use Rattle.ds_value.proofs.write.push_pointed.Goals as goal

pub returns-then-digits-s-clause-ok : goal.returns-then-digits-s-clause-ok
returns-then-digits-s-clause-ok c =
    on_ok_weaker c.append-then-digits-s-2.result (appended_few c.args.s c.args.into.now c.append.new.self c.append-then-digits-s.new.self c.append-then-digits-s-2.new.self c.args.digits.now c.if-digits-s.true c.requires.some c.requires.scale c.in_ok-append.ensures.ok c.in_ok-append-2.ensures.ok) c.append-then-digits-s-2.ensures.ok
