use Rattle.std.proofs.Common.{sym, ◌∙◌, arith}
use Rattle.osh_words.proofs.Single.{unparsed}
use Rattle.osh_words.proofs.word.number.Goals as goal

pub returns-in-Err-clause-value : goal.returns-in-Err-clause-value
returns-in-Err-clause-value c =
    let d = rw c.as_bytes.ensures.value at c.is_all_digits.ensures in
    sym (unparsed _ _ c.args.word.now c.in-Err.field-0 (sym d ∙ c.if-not-is_all_digits.false) (omega arith) c.in-Err.ensures.value.0)
