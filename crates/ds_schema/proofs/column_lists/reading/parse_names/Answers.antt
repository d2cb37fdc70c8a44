use Rattle.std.proofs.Common.{◌∙◌, sym, arith}
use Rattle.std.proofs.lemmas.Result.{err_from_is_err_and}
use Rattle.ds_schema.specs.ColumnReading.{new_name_at}
use Rattle.ds_schema.proofs.ListLoops.{name_shrinks, comma_fewer, list_ends, list_goes_on, list_fails}
use Rattle.ds_schema.proofs.column_lists.reading.parse_names.Goals as goal

pub returns-in_err-name : goal.returns-in_err-name
returns-in_err-name g c =
    let p = err_from_is_err_and c.from_residual-in_err-name.result c.from_residual-in_err-name.ensures.1 in
    let failed = rw c.as_slice.ensures.value at c.in_err-name.ensures in
    rw (p.1, p.2, ← c.loop-alloc.invariant) (list_fails (new_name_at c.args.why) c.loop-alloc.names.items c.loop-alloc.cursor c.accept.new.self _ (rw c.loop-alloc-test.true at c.accept.ensures) failed)

pub loop-alloc-smaller : goal.loop-alloc-smaller
loop-alloc-smaller g c =
    let less = name_shrinks c.args.why _ _ _ _ c.in_ok-name.ensures in
    let comma = comma_fewer c.loop-alloc.cursor c.accept.new.self (rw c.loop-alloc-test.true at c.accept.ensures) in
    omega (arith, less, comma)

pub loop-alloc-preserved : goal.loop-alloc-preserved
loop-alloc-preserved g c =
    let one = rw c.as_slice.ensures.value at c.in_ok-name.ensures in
    rw c.in_ok-push-2.ensures.items (sym (list_goes_on (new_name_at c.args.why) c.loop-alloc.names.items c.in_ok-name.name c.loop-alloc.cursor c.accept.new.self _ (name_shrinks c.args.why) (rw c.loop-alloc-test.true at c.accept.ensures) one) ∙ c.loop-alloc.invariant)

pub returns : goal.returns
returns g c = rw c.from_vec.ensures (sym c.loop-alloc.invariant ∙ list_ends (new_name_at c.args.why) c.loop-alloc.names.items c.loop-alloc.cursor c.accept.new.self (rw c.loop-alloc-test.false at c.accept.ensures))
