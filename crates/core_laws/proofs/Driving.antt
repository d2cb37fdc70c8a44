-- The laws of the step core, of a wired plan.
use Rattle.streams.specs.Wiring.{net_of}
use Rattle.streams.proofs.Wired.{wired-is-plan}
use Rattle.streams.proofs.PlayerLaws.{are_players}
use Rattle.streams.proofs.Cutting.{owed_cuts}
use Rattle.streams.proofs.Stuck.{never-stuck}
use Rattle.streams.proofs.Measure.{each-falls}
use Rattle.streams.proofs.Ending.{ends}
use Rattle.streams.proofs.Legal.{finished-is-legal, batch-finished-is-legal}
use Rattle.streams.proofs.BatchStuck.{batch-never-stuck}
use Rattle.streams.proofs.BatchMeasure.{batch-each-falls}
use Rattle.core_laws.specs.Driven.{plan_shape, PlanNeverStuck, PlanEachFalls, PlanDriversEnd, PlanFinishedIsLegal, PlanBatchNeverStuck, PlanBatchEachFalls, PlanBatchFinishedIsLegal}

pub plan_never_stuck : {X F : Type 0} → PlanNeverStuck X F
plan_never_stuck plan wired files full capacity room events =
    let fits = wired-is-plan plan wired in
    never-stuck (plan_shape plan) fits.is_net (are_players (net_of plan) fits) files full capacity room events

pub plan_each_falls : {X F : Type 0} → PlanEachFalls X F
plan_each_falls plan wired capacity s event h =
    let fits = wired-is-plan plan wired in
    each-falls (plan_shape plan) fits.is_net (are_players (net_of plan) fits) capacity s event h

pub plan_drivers_end : {X F : Type 0} → PlanDriversEnd X F
plan_drivers_end plan wired files full capacity room choose chooses =
    let fits = wired-is-plan plan wired in
    ends (plan_shape plan) fits.is_net (are_players (net_of plan) fits) files full capacity room choose chooses

pub plan_finished_is_legal : {X F : Type 0} → PlanFinishedIsLegal X F
plan_finished_is_legal plan wired files full capacity events h = finished-is-legal (net_of plan) (wired-is-plan plan wired) files full capacity events h

pub plan_batch_never_stuck : {X F : Type 0} → PlanBatchNeverStuck X F
plan_batch_never_stuck plan wired size limit files full capacity room events =
    let fits = wired-is-plan plan wired in
    batch-never-stuck (plan_shape plan) fits.is_net (are_players (net_of plan) fits) _ (owed_cuts (net_of plan) fits size limit) files full capacity room events

pub plan_batch_each_falls : {X F : Type 0} → PlanBatchEachFalls X F
plan_batch_each_falls plan wired size limit files full capacity events event h =
    let fits = wired-is-plan plan wired in
    batch-each-falls (plan_shape plan) fits.is_net (are_players (net_of plan) fits) _ (owed_cuts (net_of plan) fits size limit) files full capacity events event h

pub plan_batch_finished_is_legal : {X F : Type 0} → PlanBatchFinishedIsLegal X F
plan_batch_finished_is_legal plan wired size limit files full capacity events h = batch-finished-is-legal (net_of plan) (wired-is-plan plan wired) size limit files full capacity events h
