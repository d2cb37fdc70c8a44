use Rattle.plan_promise.proofs.Playing.{executions_keep, finished_keeps, untold_keeps, runs_keep, batches_keep}
use Rattle.plan_promise.proofs.Nodes.{nodes_fit}
use Rattle.plan_promise.proofs.laws.executions_keep.Goals as goal

pub returns : goal.returns
returns c = record { nodes = nodes_fit; keep = executions_keep; finished = finished_keeps; untold = untold_keeps; runs = runs_keep; batches = batches_keep }
