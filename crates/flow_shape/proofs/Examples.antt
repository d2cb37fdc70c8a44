-- Answers, computed: names that clash, columns and methods, and flows with their first faults.
use Rattle.std.proofs.Common.{◌≡◌, ◌≢◌, ◌<◌, ◌==◌, ◌⊎◌, inl, inr, ℕ, zero, suc, Bool, true, false, List, [], ◌∷◌, Option, Some, None, refl, codes, arith, length, pos}
use Rattle.std.specs.List.{AllByRecursion}
use Rattle.ds_value.specs.declared.kind.Kind.{Kind}
use Rattle.ds_value.specs.declared.kind.Kind.TheVariants as data_kind
use Rattle.ds_schema.specs.declared.schema.Field.{Field}
use Rattle.flow_graph.specs.declared.flow.Flag.TheVariants as flag
use Rattle.flow_graph.specs.declared.flow.Flow.{Flow}
use Rattle.flow_graph.specs.declared.flow.LinkSpec.{LinkSpec}
use Rattle.flow_graph.specs.declared.flow.Mark.TheVariants as mark
use Rattle.flow_graph.specs.declared.flow.Method.{Method}
use Rattle.flow_graph.specs.declared.flow.Method.TheVariants as method
use Rattle.flow_graph.specs.declared.flow.OpSpec.{OpSpec}
use Rattle.flow_graph.specs.declared.op_kind.OpKind.{OpKind}
use Rattle.flow_graph.specs.declared.op_kind.OpKind.TheVariants as kind
use Rattle.flow_graph.specs.declared.route.Route.TheVariants as route
use Rattle.shape_base.specs.declared.fault.ShapeWhy.TheVariants as why
use Rattle.flow_shape.specs.Files.{names_clash}
use Rattle.flow_shape.specs.Links.{OnCycle, is_ready}
use Rattle.flow_shape.specs.Methods.{method_cause, written_route}
use Rattle.flow_shape.specs.Ports.{ports_fit}
use Rattle.flow_shape.specs.Refusals.{chart_of, operator_cause, given_on}
use Rattle.shape_base.specs.Widths.{fields_cause}

-- names of files
part_clashes : names_clash (codes "a") (codes "a.part") ≡ true
part_clashes = refl

digits_clash : names_clash (codes "a.12.part") (codes "a") ≡ true
digits_clash = refl

same_clash : names_clash (codes "a") (codes "a") ≡ true
same_clash = refl

-- a point alone, two numbers, or two names that only begin alike
others_are_apart : names_clash (codes "a") (codes "a.") ≡ false
others_are_apart = refl

numbers_are_apart : names_clash (codes "f") (codes "f.0.0") ≡ false
numbers_are_apart = refl

not_accepted : names_clash (codes "a") (codes "a.part") ≢ false
not_accepted e = cc

field : List ℕ → Kind → Field
field name k = record { name = name; nullable = false; kind = k }

-- record ( id: int32; name: string[max=10]; )
people : List Field
people = field (codes "id") (data_kind.Int 32) ∷ field (codes "name") (data_kind.Text 10 false) ∷ []

-- methods: where it can't stand first, then an unknown name, then a wrong kind
hash_into_sequential : method_cause true people (method.Hash (codes "zip" ∷ [])) ≡ Some why.Method
unfolding people field
hash_into_sequential = refl

unknown_column : method_cause false people (method.Hash (codes "id" ∷ codes "zip" ∷ [])) ≡ Some why.Field
unfolding people field
unknown_column = refl

modulus_of_text : method_cause false people (method.Modulus (codes "name")) ≡ Some why.Kind
unfolding people field
modulus_of_text = refl

second_column : written_route people (method.Modulus (codes "name")) ≡ Some (route.Modulus 1)
unfolding people field
second_column = refl

-- fields: a doubled name comes before a width
doubled : fields_cause (field (codes "a") (data_kind.Text 3000000 false) ∷ field (codes "a") data_kind.Date ∷ []) ≡ Some why.Double
unfolding field
doubled = refl

too_wide : fields_cause (field (codes "a") (data_kind.Text 3000000 false) ∷ []) ≡ Some why.Wide
unfolding field
too_wide = refl

no_field : fields_cause [] ≡ Some why.Wide
no_field = refl

op : OpKind → OpSpec
op k = record { kind = k; mark = mark.Seq }

link : ℕ → ℕ → LinkSpec
link a b = record { from = a; out = 0; to = b; port = 0; method = method.Auto; flag = flag.Prop }

-- import | tsort | export
sorting : List ℕ → Flow
sorting name = record {
  nopart = false;
  nosort = false;
  ops = op (kind.Import (codes "in") people 44 None false) ∷ op (kind.Tsort ((name, false) ∷ [])) ∷ op (kind.Export (codes "out") 44 None) ∷ [];
  links = link 0 1 ∷ link 1 2 ∷ [];
}

known_key : operator_cause (chart_of (sorting (codes "name")) (people ∷ people ∷ [])) 1 ≡ None
unfolding sorting people field op link
known_key = refl

unknown_key : operator_cause (chart_of (sorting (codes "zip")) (people ∷ people ∷ [])) 1 ≡ Some why.Field
unfolding sorting people field op link
unknown_key = refl

key_not_ignored : operator_cause (chart_of (sorting (codes "zip")) (people ∷ people ∷ [])) 1 ≢ None
unfolding sorting people field op link
key_not_ignored e = cc

sorted_fields : given_on (chart_of (sorting (codes "id")) (people ∷ [] ∷ [])) 1 ≡ people
unfolding sorting people field op link
sorted_fields = refl

-- import | modify | export
modifying : List (List ℕ) → List (List ℕ) → List (List ℕ × List ℕ) → Flow
modifying keep drop rename = record {
  nopart = false;
  nosort = false;
  ops = op (kind.Import (codes "in") people 44 None false) ∷ op (kind.Modify keep drop rename) ∷ op (kind.Export (codes "out") 44 None) ∷ [];
  links = link 0 1 ∷ link 1 2 ∷ [];
}

-- kept in the written order, then renamed
modified_names : given_on (chart_of (modifying (codes "name" ∷ codes "id" ∷ []) [] ((codes "key", codes "id") ∷ [])) (people ∷ [] ∷ [])) 1 ≡ field (codes "name") (data_kind.Text 10 false) ∷ field (codes "key") (data_kind.Int 32) ∷ []
unfolding modifying people field op link
modified_names = refl

modified_well : operator_cause (chart_of (modifying (codes "name" ∷ codes "id" ∷ []) [] ((codes "key", codes "id") ∷ [])) (people ∷ people ∷ [])) 1 ≡ None
unfolding modifying people field op link
modified_well = refl

unknown_kept : operator_cause (chart_of (modifying (codes "zip" ∷ []) [] []) (people ∷ people ∷ [])) 1 ≡ Some why.Field
unfolding modifying people field op link
unknown_kept = refl

-- a column that isn't kept can't be renamed
renamed_unkept : operator_cause (chart_of (modifying [] (codes "id" ∷ []) ((codes "key", codes "id") ∷ [])) (people ∷ people ∷ [])) 1 ≡ Some why.Field
unfolding modifying people field op link
renamed_unkept = refl

renamed_alike : operator_cause (chart_of (modifying [] [] ((codes "name", codes "id") ∷ [])) (people ∷ people ∷ [])) 1 ≡ Some why.Double
unfolding modifying people field op link
renamed_alike = refl

-- all pairs at once, so names can be exchanged
exchanged : operator_cause (chart_of (modifying [] [] ((codes "name", codes "id") ∷ ((codes "id", codes "name") ∷ []))) (people ∷ people ∷ [])) 1 ≡ None
unfolding modifying people field op link
exchanged = refl

all_dropped : operator_cause (chart_of (modifying [] (codes "id" ∷ codes "name" ∷ []) []) (people ∷ people ∷ [])) 1 ≡ Some why.Wide
unfolding modifying people field op link
all_dropped = refl

-- widths for one of two columns
one_width : operator_cause (chart_of (record { nopart = false; nosort = false; ops = op (kind.Import (codes "in") people 44 (Some (5 ∷ [])) false) ∷ []; links = [] }) []) 0 ≡ Some why.Schemas
unfolding people field op
one_width = refl

-- ports: a reject output is there exactly where it is asked for
rejecting : ports_fit (kind.Import (codes "in") people 44 None true) 0 1 ≡ false
unfolding people field
rejecting = refl

filter_rejecting : ports_fit (kind.Filter (codes "id > 1") true) 1 1 ≡ false
filter_rejecting = refl

-- a switch has an output for each case, and one more where it rejects
two_cases : ports_fit (kind.Switch (codes "id") (pos 1 ∷ pos 2 ∷ []) false) 1 2 ≡ true
two_cases = refl

two_cases_rejecting : ports_fit (kind.Switch (codes "id") (pos 1 ∷ pos 2 ∷ []) true) 1 2 ≡ false
two_cases_rejecting = refl

many_copies : ports_fit kind.Copy 1 17 ≡ false
many_copies = refl

-- a cycle of two, and an operator that is only behind it
round : List LinkSpec
round = link 0 1 ∷ link 1 0 ∷ link 1 2 ∷ []

on_cycle : OnCycle round 0
unfolding round link
on_cycle = (1, (1, (0, refl, refl), refl))

never_ready : is_ready round [] 0 ≡ false
unfolding round link
never_ready = refl
