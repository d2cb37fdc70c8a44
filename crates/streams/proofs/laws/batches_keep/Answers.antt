use Rattle.streams.proofs.BatchStuck.{batch-never-stuck}
use Rattle.streams.proofs.Legal.{batch-finished-is-legal}
use Rattle.streams.proofs.BatchMeasure.{batch-each-falls}
use Rattle.streams.proofs.laws.batches_keep.Goals as goal

pub returns : goal.returns
returns g c = record { stuck = batch-never-stuck; legal = batch-finished-is-legal; falls = batch-each-falls }
