use Rattle.std.proofs.Common.{◌≡◌, ◌+◌, ◌*◌, ◌^◌, arith, sym, ap, ◌∙◌, subst, to_z, of_z, ℤ, ◌+ℤ◌}
use Rattle.std.proofs.lemmas.Int.{ints, to_z-of_z}
use Rattle.ds_value.specs.Values.{number}
use Rattle.op_group.specs.Kept.{IsWithin, wider}
use Rattle.op_group.proofs.SumLaws.{SumStands-more}
use Rattle.op_group.proofs.sum.Sum.add.Goals as goal

pub returns-clause-stands : goal.returns-clause-stands
returns-clause-stands c = λ values stands.
    let sum : to_z mir.Syntax.w128 (of_z mir.Syntax.w128 c.plus-self.result) ≡ c.args.self.now.total +ℤ number c.args.value.now = search (arith, ints, to_z-of_z, c.plus-self.ensures.sum, c.plus-self.type_inv, c.amount.ensures.number, c.amount.ensures.within, c.requires.total) in
    let same : to_z mir.Syntax.w128 (of_z mir.Syntax.w128 c.plus-self.result) ≡ c.plus-self.result = search (arith, ints, to_z-of_z, c.plus-self.type_inv) in
    let P : ℤ → Type 0 = λ z. IsWithin ((c.args.before + 1) * 2 ^ 64) z in
    SumStands-more c.args.before values c.args.self.now _ c.args.value.now sum (subst P (sym same) c.plus-self.ensures.within) (c.wider-self.ensures ∙ ap (wider c.args.self.now.kind) c.number_kind.ensures) stands
