use Rattle.std.proofs.Common.{◌∙◌, ap, length}
use Rattle.run_finish.proofs.Reporting.{report_is}
use Rattle.run_finish.proofs.report.report_text.Goals as goal

pub returns : goal.returns
returns c = λ states whole e h.
    report_is c.args.shaped.now states c.args.choices.now c.args.nodes whole c.args.counts.now c.args.verdict.now (length c.as_slice-links.result.now) c.in_ok-text.text c.put_counts.new.text c.put.new.text e h
    (ap length (c.as_slice-links.ensures ∙ ap (λ f. f.links) c.flow.ensures)) c.in_ok-text.ensures c.in_ok-put_counts.ensures c.in_ok-put.ensures
