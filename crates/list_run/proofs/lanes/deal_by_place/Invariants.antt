use Rattle.ds_place.specs.Places.{place_number}
use Rattle.list_run.specs.Dealt.{Deals}
use Rattle.list_run.proofs.lanes.deal_by_place.Given as goal

abbrev pub invariant-loop-row : goal.invariant-loop-row
invariant-loop-row l = Deals (λ t r. place_number l.place r l.count) l.yielded l.fn.lists.items l.lists.items
