use Rattle.std.proofs.Common.{rules, ◌≡◌, ◌∙◌, ap, [], ◌∷◌, append_assoc, FitsSigned, of_z}
use Rattle.std.specs.Int.{w128, to_be_bytes}
use Rattle.std.proofs.lemmas.Int.{to_z-of_z}
use Rattle.std.proofs.lemmas.Result.{on_ok_weaker}
use Rattle.ds_value.proofs.canonical_form.push_canonical.Goals as goal

pub returns-in_ok-push-in-Dec-clause-ok : goal.returns-in_ok-push-in-Dec-clause-ok
returns-in_ok-push-in-Dec-clause-ok c =
    let fits : FitsSigned w128 c.in-Dec.units = search rules in
    let bytes : c.to_be_bytes-in-Dec.result ≡ to_be_bytes w128 (of_z w128 c.in-Dec.units) = c.to_be_bytes-in-Dec.ensures ∙ ap (λ z. to_be_bytes w128 (of_z w128 z)) (to_z-of_z w128 c.in-Dec.units fits) in
    on_ok_weaker c.append-in-Dec.result (λ e. e ∙ rw (c.in_ok-push-in-Dec.ensures.ok, bytes, c.in-Dec.is) (append_assoc c.args.into.now (3 ∷ []) (to_be_bytes w128 (of_z w128 c.in-Dec.units)))) c.append-in-Dec.ensures.ok
