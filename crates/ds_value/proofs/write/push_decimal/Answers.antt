use Rattle.std.proofs.Common.{◌∙◌, ap, [], ◌∷◌, length, arith}
use Rattle.std.proofs.lemmas.Result.{on_err_weaker}
use Rattle.ds_value.proofs.Pointed.{decimal_some, kept_front}
use Rattle.ds_value.proofs.write.push_decimal.Goals as goal
use Rattle.ds_value.proofs.write.push_decimal.Goals.{then-units-lt0+in_ok-push, else-units-lt0}

pub push_pointed-requires-clause-some : goal.push_pointed-requires-clause-some
push_pointed-requires-clause-some c =
    let some = decimal_some c.unsigned_abs.result (omega arith) in
    omega (arith, ap length (c.as_bytes.ensures.value ∙ c.format.ensures.text))

pub returns-clause-err : goal.returns-clause-err
returns-clause-err c = elim c.if-units-lt0.branch [
  | then-units-lt0+in_ok-push w ↦ on_err_weaker c.push_pointed.result (λ kept. kept_front c.args.into.now (45 ∷ []) c.push_pointed.new.into (let longer = w.into-is ∙ w.in_ok-push.ensures.ok in rw longer at kept)) c.push_pointed.ensures.err
  | else-units-lt0 w ↦ let same = w.into-is in rw same at c.push_pointed.ensures.err
]
