use Rattle.std.proofs.Common.{◌∙◌, ap, refl}
use Rattle.streams.specs.Streams.{all_ended}
use Rattle.op_base.specs.Standing.{RowStream}
use Rattle.op_base.proofs.ListFeeds.{fresh_adds}
use Rattle.run_ports.proofs.run.run_ports.Goals as goal

pub finish-requires : goal.finish-requires
finish-requires g c =
    let fed = c.in_ok-feed_lists.ensures.fed in
    (fed.feeds, fed.stands, ap (λ (s : RowStream). all_ended s fed.feeds) c.in_ok-feed_lists.ensures.stream ∙ fed.ended)

pub returns : goal.returns
returns g c =
    let fed = c.in_ok-feed_lists.ensures.fed in
    record {
      outs = _;
      gives = record { feeds = fed.feeds; fed = fed.fed; taken = fed.taken; made = refl };
      emitted = fresh_adds c.new-emit.result _ _ _ c.new-emit.ensures fed.emitted c.in_ok-finish.ensures.emits;
    }
