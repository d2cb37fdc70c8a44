use Rattle.std.proofs.Common.{rules, ◌≡◌, ◌∙◌, subst, true, FitsSigned}
use Rattle.std.specs.Int.{w128}
use Rattle.std.specs.Option.{SomeIff}
use Rattle.std.proofs.lemmas.Int.{to_z-of_z}
use Rattle.ds_value.specs.Kinds.{is_between, least_int, greatest_int}
use Rattle.ds_value.specs.Spellings.{IsNumeral}
use Rattle.ds_value.proofs.Wholes.{int_of, int_found}
use Rattle.ds_value.proofs.numeral.read_int.Goals as goal

pub returns : goal.returns
returns c =
    let fits : FitsSigned w128 c.signed.result = search rules in
    let number = c.in_ok-number.ensures in
    let rest = c.split_sign-minus.ensures.rest in
    let value : c.signed.result ≡ int_of c.args.bytes.now = c.signed.ensures ∙ rw (c.split_sign-minus.ensures.minus, number.1, rest) in
    let found = subst (λ z. SomeIff c.fit_int.result (is_between (least_int c.args.bits) (greatest_int c.args.bits) z ≡ true) z) (to_z-of_z w128 c.signed.result fits ∙ value) c.fit_int.ensures in
    int_found c.args.bits c.args.bytes.now c.fit_int.result (subst IsNumeral rest number.0.0) found
