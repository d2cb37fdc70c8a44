use Rattle.std.proofs.Common.{◌<◌, ◌+◌, length, arith}
use Rattle.ds_value.proofs.Decimals.{counted_digits, all_counted, whole_alone, point_at, point_split}
use Rattle.ds_value.proofs.decimal.split_point.Goals as goal
use Rattle.ds_value.proofs.decimal.split_point.Goals.{then-bytes-count-ne46-via-then-bytes-count-ne46, then-bytes-count-ne46-via-else-bytes-count-ne46+then-count-bytes-2}

pub returns-then-count-bytes : goal.returns-then-count-bytes
returns-then-count-bytes c =
    (all_counted c.digit_count-count.result c.args.bytes.now c.digit_count-count.ensures.count c.if-count-bytes.true, whole_alone c.digit_count-count.result c.args.bytes.now c.if-count-bytes.true)

pub returns-then-bytes-count-ne46 : goal.returns-then-bytes-count-ne46
returns-then-bytes-count-ne46 c = λ whole fraction digits text.
    let point = point_at c.digit_count-count.result c.args.bytes.now whole fraction digits text c.digit_count-count.ensures.count c.if-count-bytes.false in
    elim c.then-bytes-count-ne46.branch [
      | then-bytes-count-ne46-via-then-bytes-count-ne46 w ↦ w.if-bytes-count-ne46.true point.0
      | then-bytes-count-ne46-via-else-bytes-count-ne46+then-count-bytes-2 w ↦ let short = w.if-count-bytes-2.true in let long = point.1 in omega arith
    ]

pub returns : goal.returns
returns c =
    let within = c.digit_count-count.ensures.within in
    let some : c.digit_count-count.result + 1 < length c.args.bytes.now = omega (arith, c.if-count-bytes.false, c.if-count-bytes-2.false) in
    (rw (c.digit_count-count.ensures.count) (counted_digits c.args.bytes.now), point_split c.digit_count-count.result c.args.bytes.now c.if-bytes-count-ne46.false some)
