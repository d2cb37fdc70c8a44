use Rattle.std.proofs.Common.{refl, ap, ◌∙◌, inl, inr}
use Rattle.op_join.specs.declared.kind.JoinKind.TheVariants.{Inner, Left, Right, Full}
use Rattle.list_run.specs.Worked.{ports_of}
use Rattle.list_run.proofs.Matched.{lookup_does, match_does}
use Rattle.list_run.proofs.emitting.work.Goals as goal

pub work_alone-requires-clause-alone : goal.work_alone-requires-clause-alone
work_alone-requires-clause-alone c = elim c.in-Filter.is [
  | inl e ↦ ap ports_of e.2
  | inr t ↦ elim t [
    | inl e ↦ ap ports_of e.2
    | inr u ↦ elim u [
      | inl e ↦ ap ports_of e.3
      | inr v ↦ elim v [ inl e ↦ ap ports_of e.3 | inr e ↦ ap ports_of e.3 ]
    ]
  ]
]

pub work_alone-requires-clause-one : goal.work_alone-requires-clause-one
work_alone-requires-clause-one c = c.requires.ports ∙ work_alone-requires-clause-alone c

pub returns-in-InnerJoin : goal.returns-in-InnerJoin
returns-in-InnerJoin c = match_does c.args.kind.now _ Inner c.args.parts.now c.args.widths.now c.args.lists c.match_rows.result c.in-InnerJoin.is refl (λ o q. refl) (λ o. refl) c.match_rows.ensures

pub returns-in-LeftOuterJoin : goal.returns-in-LeftOuterJoin
returns-in-LeftOuterJoin c = match_does c.args.kind.now _ Left c.args.parts.now c.args.widths.now c.args.lists c.match_rows-in-LeftOuterJoin.result c.in-LeftOuterJoin.is refl (λ o q. refl) (λ o. refl) c.match_rows-in-LeftOuterJoin.ensures

pub returns-in-RightOuterJoin : goal.returns-in-RightOuterJoin
returns-in-RightOuterJoin c = match_does c.args.kind.now _ Right c.args.parts.now c.args.widths.now c.args.lists c.match_rows-in-RightOuterJoin.result c.in-RightOuterJoin.is refl (λ o q. refl) (λ o. refl) c.match_rows-in-RightOuterJoin.ensures

pub returns-in-FullOuterJoin : goal.returns-in-FullOuterJoin
returns-in-FullOuterJoin c = match_does c.args.kind.now _ Full c.args.parts.now c.args.widths.now c.args.lists c.match_rows-in-FullOuterJoin.result c.in-FullOuterJoin.is refl (λ o q. refl) (λ o. refl) c.match_rows-in-FullOuterJoin.ensures

pub returns-in-Lookup : goal.returns-in-Lookup
returns-in-Lookup c = lookup_does c.args.kind.now _ _ c.args.parts.now c.args.widths.now c.args.lists c.look_up.result c.in-Lookup.is c.look_up.ensures
