use Rattle.std.proofs.Common.{sym, ◌∙◌}
use Rattle.op_match.proofs.Pieces.{kept_cut, kept_run, taken_cut, taken_run}
use Rattle.op_match.proofs.side.Side.take_run.Goals as goal

pub returns-then-not-starts-clause-run : goal.returns-then-not-starts-clause-run
returns-then-not-starts-clause-run c = c.new.ensures ∙ kept_run c.args.self.now c.args.key.now c.requires.ready (sym c.starts.ensures ∙ c.if-not-starts.true)

pub returns-then-not-starts-clause-cut : goal.returns-then-not-starts-clause-cut
returns-then-not-starts-clause-cut c = kept_cut c.args.self.now c.args.key.now c.requires.ready (sym c.starts.ensures ∙ c.if-not-starts.true)

pub returns-clause-run : goal.returns-clause-run
returns-clause-run c = c.in_ok-run.ensures.run ∙ taken_run c.args.self.now c.args.key.now c.requires.ready (sym c.starts.ensures ∙ c.if-not-starts.false)

pub returns-clause-cut : goal.returns-clause-cut
returns-clause-cut c =
    taken_cut c.args.self.now c.take_first.new.self c.args.key.now c.requires.ready (sym c.starts.ensures ∙ c.if-not-starts.false)
    c.in_ok-run.ensures.keys c.in_ok-run.ensures.over c.in_ok-run.ensures.rest c.in_ok-run.ensures.next
