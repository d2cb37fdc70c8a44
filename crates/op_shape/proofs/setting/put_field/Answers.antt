use Rattle.std.proofs.Common.{◌≡◌, ◌<◌, Some, ap, arith, length, position, set, sym, ◌∙◌}
use Rattle.shape_base.specs.Naming.{column, is_named}
use Rattle.shape_base.proofs.Places.{place_none, place_some}
use Rattle.op_shape.proofs.Putting.{put_behind, put_set}
use Rattle.op_shape.proofs.setting.put_field.Goals as goal

pub returns-in-Some : goal.returns-in-Some
returns-in-Some c =
    let fields = c.args.fields.now.items in
    let new = c.args.new in
    let place : Some c.in-Some.at ≡ position (is_named new.name) fields = c.in-Some.ensures.place ∙ ap (position (is_named new.name)) c.as_slice.ensures.value in
    let within : c.in-Some.at < length fields = rw c.as_slice.ensures.value at c.in-Some.ensures.within in
    let at : c.in-Some.at ≡ column fields new.name = place_some (is_named new.name) fields c.in-Some.at (sym place) in
    ap (λ k. set fields k new) at ∙ sym (put_set new fields (omega (arith, at, within)))

pub returns-in_ok-push-in-None : goal.returns-in_ok-push-in-None
returns-in_ok-push-in-None c =
    let fields = c.args.fields.now.items in
    let new = c.args.new in
    let place = c.in-None.ensures.place ∙ ap (position (is_named new.name)) c.as_slice.ensures.value in
    let end : length fields ≡ column fields new.name = place_none (is_named new.name) fields (sym place) in
    c.in_ok-push-in-None.ensures.items ∙ sym (put_behind new fields (omega (arith, end)))
