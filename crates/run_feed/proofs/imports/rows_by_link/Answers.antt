use Rattle.run_feed.proofs.Sourcing.{can_feed, sourced}
use Rattle.run_feed.proofs.imports.rows_by_link.Goals as goal

pub returns-in-Ok-clause-told : goal.returns-in-Ok-clause-told
returns-in-Ok-clause-told g c = λ tells files are.
    let reads = c.in_ok-reads.reads in
    sourced files c.args.shaped.now reads.rows reads.rejected c.in-Ok.sources c.args.tally.now c.read_all.new.tally c.requires.built (c.in_ok-reads.ensures.told tells files are) c.in-Ok.ensures.each

pub returns-in-Ok-clause-feeds : goal.returns-in-Ok-clause-feeds
returns-in-Ok-clause-feeds g c =
    let reads = c.in_ok-reads.reads in
    can_feed c.args.shaped.now reads.rows reads.rejected c.in-Ok.sources c.is_shaped.ensures c.requires.shape c.requires.built c.in_ok-reads.ensures.fit c.in-Ok.ensures.count c.in-Ok.ensures.each
