use Rattle.ds_place.specs.Places.{place_number}
use Rattle.list_run.specs.Dealt.{Dealt}
use Rattle.list_run.proofs.lanes.by_place.Given as goal

abbrev pub invariant-loop-rows : goal.invariant-loop-rows
invariant-loop-rows l = Dealt (λ p t r. place_number l.place r l.count) l.yielded l.count l.lists.items
