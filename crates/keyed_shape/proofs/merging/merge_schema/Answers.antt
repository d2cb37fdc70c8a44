use Rattle.std.proofs.Common.{◌≡◌, ◌∙◌, ap, arith, subst, sym, List}
use Rattle.std.specs.Prelude.{IfOk, map}
use Rattle.std.proofs.lemmas.Bool.{ltb-false, ltb-true}
use Rattle.ds_schema.specs.declared.schema.Field.{Field}
use Rattle.shape_base.specs.Widths.{fields_cause}
use Rattle.shape_base.proofs.Making.{made_schema}
use Rattle.keyed_shape.proofs.Matched.{merge_made, rejected_at, rejected_beyond}
use Rattle.keyed_shape.proofs.merging.merge_schema.Goals as goal

pub from_vec-requires : goal.from_vec-requires
from_vec-requires c = made_schema c.in_ok-fields.fields.items c.in_ok-fields.ensures.each (ap fields_cause c.in_ok-fields.ensures.made ∙ merge_made c.args.key.now c.args.keepbad (map (λ s. s.now) c.args.ins.now) c.requires.sound)

pub returns-in-Some : goal.returns-in-Some
returns-in-Some c = subst (λ (fields : List Field). IfOk c.copied.result (λ schema. schema ≡ fields))
    (rejected_at (λ s. s.now) c.args.key.now c.args.keepbad c.args.ins.now c.args.out _ (omega arith) (ltb-true _ _ (sym c.in-Some.ensures.lookup.0)) c.in-Some.ensures.lookup.1) c.copied.ensures

pub returns-in-None : goal.returns-in-None
returns-in-None c = subst (λ (fields : List Field). IfOk c.copied-in-None.result (λ schema. schema ≡ fields))
    (c.first.ensures ∙ rejected_beyond (λ s. s.now) c.args.key.now c.args.keepbad c.args.ins.now c.args.out (omega arith) (ltb-false _ _ (sym c.in-None.ensures.lookup.0))) c.copied-in-None.ensures
