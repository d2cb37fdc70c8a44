use Rattle.std.proofs.Common.{◌∙◌, refl}
use Rattle.list_run.specs.declared.ran.Ran.{Ran}
use Rattle.run_feed.proofs.Ready.{can_run}
use Rattle.run_feed.proofs.Running.{fed, sinks_fit}
use Rattle.run_feed.proofs.feeding.feed.Goals as goal

pub run_lists-requires : goal.run_lists-requires
run_lists-requires g c = can_run c.args.shaped.now c.args.choices.now c.args.nodes c.in_ok-sources.sources c.is_shaped.ensures c.requires.ready c.in_ok-sources.ensures.feeds.given c.in_ok-sources.ensures.feeds.rows

pub returns-in-Ok-clause-fed : goal.returns-in-Ok-clause-fed
returns-in-Ok-clause-fed g c = λ tells states v.
    let left : Ran = record c.in-Ok.ran { least = c.take.new.self } in
    fed (g.F.Files.holds c.args.files.now) c.args.shaped.now c.args.choices.now c.args.nodes states c.in_ok-sources.sources c.in-Ok.ran left c.args.tally.now c.import_all.new.tally c.add_emitted.new.self
    c.is_shaped.ensures c.requires.ready v (c.in_ok-sources.ensures.told tells) c.in-Ok.ensures refl refl (λ more n l. c.add_emitted.ensures more n (c.take.ensures.value ∙ l))

pub returns-in-Ok-clause-fit : goal.returns-in-Ok-clause-fit
returns-in-Ok-clause-fit g c =
    let left : Ran = record c.in-Ok.ran { least = c.take.new.self } in
    sinks_fit c.args.shaped.now c.args.choices.now c.args.nodes c.in_ok-sources.sources c.in-Ok.ran left c.is_shaped.ensures c.requires.ready c.in_ok-sources.ensures.feeds c.in-Ok.ensures refl
