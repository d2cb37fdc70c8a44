use Rattle.std.proofs.Common.{◌≡◌, drop}
use Rattle.flow_derive.specs.Derive.{all_at_place}
use Rattle.flow_derive.proofs.places.all_at_place.Given as goal

abbrev pub invariant-loop-other : goal.invariant-loop-other
invariant-loop-other l = all_at_place l.place l.places ≡ all_at_place l.place (drop l.other-index l.places)
