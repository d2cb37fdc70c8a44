use Rattle.std.proofs.Common.{rules, ◌≡◌, ◌∙◌, ap, refl, FitsSigned, of_z}
use Rattle.std.specs.Int.{w128, to_be_bytes}
use Rattle.std.proofs.lemmas.Int.{to_z-of_z}
use Rattle.ds_place.proofs.hash.with_value.Goals as goal

pub returns-in-Dec : goal.returns-in-Dec
returns-in-Dec c =
    let fits : FitsSigned w128 c.in-Dec.units = search rules in
    let bytes : c.to_be_bytes-in-Dec.result ≡ to_be_bytes w128 (of_z w128 c.in-Dec.units) = c.to_be_bytes-in-Dec.ensures ∙ ap (λ z. to_be_bytes w128 (of_z w128 z)) (to_z-of_z w128 c.in-Dec.units fits) in
    c.with_bytes-in-Dec.ensures ∙ rw (c.with_byte-in-Dec.ensures, bytes, c.in-Dec.is) refl
