use Rattle.std.proofs.Common.{Bool, List, ap, sym, ◌∙◌, ◌∷◌, ◌++◌, []}
use Rattle.streams.specs.Streams.{Feed}
use Rattle.op_base.specs.Columns.{Row}
use Rattle.op_base.specs.Standing.{row_feed}
use Rattle.op_lookup.specs.Looked.{looked_stream}
use Rattle.op_lookup.proofs.Suiting.{port_wanted, suits-row}
use Rattle.ports_tests.proofs.lookups.feed_row.Goals as goal

pub feed-requires : goal.feed-requires
feed-requires c = record {
  feeds = c.requires.stands.0;
  stands = c.requires.stands.1;
  wanted = port_wanted (looked_stream c.args.op.now.columns.main.items c.args.op.now.columns.reference.items c.args.op.now.columns.width c.args.op.now.missing) c.requires.stands.0 c.wants.result c.in-Port.wanted c.args.port c.in-Port.is c.if-wanted-port.false
      (c.wants.ensures c.requires.stands.0 c.requires.stands.1);
  suited = ap (λ (suits : List (Feed Row) → Bool). suits (c.requires.stands.0 ++ row_feed c.args.port c.args.row ∷ [])) c.requires.suits
      ∙ suits-row c.args.main.now c.args.width c.requires.stands.0 c.args.port c.args.row c.requires.stands.2 (sym c.suits.ensures ∙ c.if-not-suits.false);
}

pub returns-clause-stands : goal.returns-clause-stands
returns-clause-stands c = (
  c.requires.stands.0 ++ row_feed c.args.port c.args.row ∷ [],
  c.in_ok-feed.ensures.stands c.requires.stands.0 c.requires.stands.1,
  suits-row c.args.main.now c.args.width c.requires.stands.0 c.args.port c.args.row c.requires.stands.2 (sym c.suits.ensures ∙ c.if-not-suits.false),
)
