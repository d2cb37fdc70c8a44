use Rattle.std.proofs.Common.{◌≡◌, ◌≢◌, ◌-◌, ◌+◌, Ok, true, false, sym, ◌∙◌, arith}
use Rattle.std.proofs.lemmas.Result.{err_from_is_err_and}
use Rattle.ds_schema.specs.SchemaReading.{separator_at}
use Rattle.ds_schema.proofs.FieldLoops.{fields_no_name, fields_full, fields_fail, fields_no_separator, fields_last, fields_next}
use Rattle.ds_schema.proofs.schema_text.fields.fields.Goals as goal

pub returns-in_err-field : goal.returns-in_err-field
returns-in_err-field c =
    let p = err_from_is_err_and c.from_residual.result c.from_residual.ensures.1 in
    let ne : 256 - c.loop-count._count ≢ 0 = omega arith in
    let failed = rw c.as_slice.ensures.value at c.in_err-field.ensures in
    rw (p.1, p.2, ← c.loop-count.invariant) (fields_fail _ _ _ _ ne failed)

pub returns-in_err-more : goal.returns-in_err-more
returns-in_err-more c =
    let p = err_from_is_err_and c.from_residual-in_err-more.result c.from_residual-in_err-more.ensures.1 in
    let ne : 256 - c.loop-count._count ≢ 0 = omega arith in
    let field = rw c.as_slice.ensures.value at c.in_ok-field.ensures in
    rw (p.1, p.2, ← c.loop-count.invariant) (fields_no_separator _ _ _ _ _ _ ne field (sym c.in_err-more.ensures))

pub returns-then-not-more : goal.returns-then-not-more
returns-then-not-more c =
    let ne : 256 - c.loop-count._count ≢ 0 = omega arith in
    let field = rw c.as_slice.ensures.value at c.in_ok-field.ensures in
    let closed : separator_at c.further_field.new.cursor ≡ Ok (false, c.separator.new.cursor) = rw (← c.if-not-more.true) (sym c.in_ok-more.ensures) in
    rw (c.from_vec.ensures, c.in_ok-push.ensures.items, ← c.loop-count.invariant) (fields_last _ _ _ _ _ _ ne field closed)

pub loop-count-preserved : goal.loop-count-preserved
loop-count-preserved c =
    let ne : 256 - c.loop-count._count ≢ 0 = omega arith in
    let k : 256 - (c.loop-count._count + 1) ≡ 256 - c.loop-count._count - 1 = omega arith in
    let field = rw c.as_slice.ensures.value at c.in_ok-field.ensures in
    let further : separator_at c.further_field.new.cursor ≡ Ok (true, c.separator.new.cursor) = rw (← c.if-not-more.false) (sym c.in_ok-more.ensures) in
    rw (k, c.in_ok-push.ensures.items) (sym (fields_next _ _ _ _ _ _ ne field further) ∙ c.loop-count.invariant)

pub returns-in_err-word : goal.returns-in_err-word
returns-in_err-word c =
    let p = err_from_is_err_and c.from_residual-in_err-word.result c.from_residual-in_err-word.ensures.1 in
    let none : 256 - c.loop-count._count ≡ 0 = omega arith in
    let failed = rw c.as_slice-2.ensures.value at c.in_err-word.ensures.read in
    rw (p.1, p.2, ← c.loop-count.invariant) (fields_no_name _ _ _ _ none (sym failed))

pub returns : goal.returns
returns c =
    let none : 256 - c.loop-count._count ≡ 0 = omega arith in
    let name = rw c.as_slice-2.ensures.value at c.in_ok-word.ensures.read in
    rw (c.refuse.ensures, ← c.loop-count.invariant) (fields_full _ _ _ _ _ none (sym name))
