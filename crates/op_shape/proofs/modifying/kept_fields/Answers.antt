use Rattle.std.proofs.Common.{◌<◌, length, sym, subst, ◌∙◌}
use Rattle.std.specs.List.{AllByRecursion}
use Rattle.op_shape.proofs.Keeping.{kept_within}
use Rattle.op_shape.proofs.modifying.kept_fields.Goals as goal

pub fields_at-requires : goal.fields_at-requires
fields_at-requires c =
    subst (λ cs. AllByRecursion (λ n. n < length c.args.fields.now) cs) (sym (c.as_slice.ensures ∙ c.in_ok-cols.ensures)) (kept_within c.args.keep.now c.args.drop.now c.args.fields.now c.requires.there)
