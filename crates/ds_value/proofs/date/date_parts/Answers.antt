use Rattle.ds_value.proofs.DateTexts.{parts_read}
use Rattle.ds_value.proofs.date.date_parts.Goals as goal

pub returns : goal.returns
returns c =
    parts_read c.args.bytes.now c.in_ok-year.year c.in_ok-month.month c.in_ok-day.day c.if-bytes-ne10.false c.if-bytes-ne45.false c.if-bytes-ne45-2.false c.in_ok-year.ensures c.in_ok-month.ensures c.in_ok-day.ensures
