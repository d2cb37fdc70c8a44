use Rattle.std.proofs.Common.{◌≡◌, ◌+◌, ◌-◌, ◌++◌, ◌∙◌, ap, sym, arith, take, drop, Some}
use Rattle.std.proofs.lemmas.List.{take_rest}
use Rattle.ds_text.specs.Reading.{HasPiece}
use Rattle.ds_text.proofs.Unquoting.{taken_end, taken_more}
use Rattle.ds_text.proofs.cell.unquote.Goals as goal

pub returns-then-not-begins_quoted-clause-some : goal.returns-then-not-begins_quoted-clause-some
returns-then-not-begins_quoted-clause-some c = λ n e.
    let bytes = c.args.bytes.now in
    let at = c.loop-len.at in
    let len = c.in-Some.len in
    let piece : HasPiece (drop at bytes) len = rw (take_rest bytes at) at c.in-Some.ensures.piece in
    let span : at + len - at ≡ len = omega arith in
    let more = c.in_ok-append.ensures.ok ∙ ap (λ m. c.loop-len.into ++ take m (drop at bytes)) span in
    let ends = rw (take_rest bytes (at + (len + 1))) at c.begins_quoted.ensures in
    let same : at + (len + 1) ≡ n = cc e in
    taken_end bytes c.loop-len.into c.append.new.self at len c.loop-len.invariant piece more (sym ends ∙ c.if-not-begins_quoted.true)
    ∙ ap (λ m. Some (record { bytes = c.append.new.self; rest = drop m bytes })) same

pub loop-len-preserved : goal.loop-len-preserved
loop-len-preserved c =
    let bytes = c.args.bytes.now in
    let at = c.loop-len.at in
    let len = c.in-Some.len in
    let piece : HasPiece (drop at bytes) len = rw (take_rest bytes at) at c.in-Some.ensures.piece in
    let span : at + len - at ≡ len = omega arith in
    let more = c.in_ok-append.ensures.ok ∙ ap (λ m. c.loop-len.into ++ take m (drop at bytes)) span in
    let goes_on = rw (take_rest bytes (at + (len + 1))) at c.begins_quoted.ensures in
    taken_more bytes c.loop-len.into c.append.new.self c.push.new.self at len c.loop-len.invariant piece more (sym goes_on ∙ c.if-not-begins_quoted.false) c.in_ok-push.ensures.ok
