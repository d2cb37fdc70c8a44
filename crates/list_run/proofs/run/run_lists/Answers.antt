use Rattle.std.proofs.Common.{refl, subst, length, List}
use Rattle.op_base.specs.Columns.{Row}
use Rattle.list_run.specs.Turns.{Stands}
use Rattle.list_run.proofs.Legal.{is_run}
use Rattle.list_run.proofs.run.run_lists.Goals as goal

pub returns : goal.returns
returns c =
    let chart = c.args.shaped.now in
    let stands = subst (λ (given : List (List Row)). Stands chart c.args.nodes given (length chart.order) c.run_all.new.sources.items c.run_all.new.held) c.into_vec-sources.ensures c.in_ok-run_all.ensures in
    is_run chart c.args.choices.now c.args.nodes c.args.sources c.run_all.new.sources.items c.run_all.new.held (record { counts = c.from_vec.result; sinks = c.from_vec-2.result; faults = c.run_all.new.held.tally.faults; least = c.run_all.new.held.tally.least }) (record { shape = c.is_shaped.ensures; run = c.requires }) stands c.from_vec.ensures c.from_vec-2.ensures refl refl
