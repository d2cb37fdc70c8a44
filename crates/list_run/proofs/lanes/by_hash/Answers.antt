use Rattle.std.proofs.Common.{◌∙◌, ap, sym, subst, All}
use Rattle.ds_place.specs.declared.place.Place.TheVariants.{Hash}
use Rattle.ds_place.specs.Places.{place_number}
use Rattle.list_run.specs.Dealt.{dealt}
use Rattle.list_run.specs.Routed.{SuitsPlace}
use Rattle.list_run.proofs.Places.{hash_suits}
use Rattle.list_run.proofs.lanes.by_hash.Goals as goal

pub by_place-requires-clause-rows : goal.by_place-requires-clause-rows
by_place-requires-clause-rows c = subst (λ K. All (All (SuitsPlace (Hash K))) c.args.sent) (sym c.in_ok-copied.ensures) (hash_suits c.args.columns.now c.args.sent c.requires.rows)

pub returns : goal.returns
returns c = c.in_ok-got.ensures ∙ ap (λ K. dealt (λ p t r. place_number (Hash K) r c.args.count) c.args.count c.args.sent) c.in_ok-copied.ensures
