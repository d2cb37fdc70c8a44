-- The operator that options with their values say.
use Rattle.std.specs.Prelude.{ℕ, ℤ, List, [], ◌∷◌, filter_map, Option, Some, None, Bool, true, false, ◌==◌, if◌then◌else◌}
use Rattle.op_base.specs.declared.missing.Missing.{Missing}
use Rattle.op_base.specs.declared.missing.Missing.TheVariants as missing
use Rattle.ds_schema.specs.declared.schema.Field.{Field}
use Rattle.flow_graph.specs.declared.op_kind.AggSpec.{AggSpec}
use Rattle.flow_graph.specs.declared.op_kind.SetSpec.{SetSpec}
use Rattle.flow_graph.specs.declared.op_kind.OpKind.{OpKind}
use Rattle.flow_graph.specs.declared.op_kind.OpKind.TheVariants as kind
use Rattle.osh_table.specs.declared.operator.OpName.{OpName}
use Rattle.osh_table.specs.declared.operator.OpName.TheVariants as op
use Rattle.osh_table.specs.declared.option.OptName.{OptName}
use Rattle.osh_table.specs.declared.option.OptName.TheVariants as opt
use Rattle.osh_value.specs.declared.value.OptValue.{OptValue}
use Rattle.osh_value.specs.declared.value.OptValue.TheVariants as value
use Rattle.osh_value.specs.declared.setting.Setting.{Setting}

-- an option's number, by which options are told apart
abbrev pub number_of : OptName → ℕ
number_of opt.File = 0
number_of opt.Schema = 1
number_of opt.Delim = 2
number_of opt.Fixed = 3
number_of opt.Reject = 4
number_of opt.Ds = 5
number_of opt.Where = 6
number_of opt.Set = 7
number_of opt.Keep = 8
number_of opt.Drop = 9
number_of opt.Rename = 10
number_of opt.On = 11
number_of opt.Cases = 12
number_of opt.Key = 13
number_of opt.Last = 14
number_of opt.Hash = 15
number_of opt.Sum = 16
number_of opt.Count = 17
number_of opt.Min = 18
number_of opt.Max = 19
number_of opt.First = 20
number_of opt.Keepbad = 21
number_of opt.Missing = 22
number_of opt.Values = 23
number_of opt.Keepcopy = 24
number_of opt.Sequence = 25
number_of opt.Sort = 26

-- the value of the first of these options, where it stands
abbrev pub found_value : OptName → List Setting → Option OptValue
found_value o [] = None
found_value o (s ∷ ss) = if number_of s.opt == number_of o then Some s.value else found_value o ss

abbrev pub stands : Option OptValue → Bool
stands None = false
stands (Some v) = true

abbrev pub name_in : Option OptValue → Option (List ℕ)
name_in (Some (value.Name name)) = Some name
name_in other = None

abbrev pub schema_in : Option OptValue → Option (List Field)
schema_in (Some (value.Schema fields)) = Some fields
schema_in other = None

-- a comma where the option doesn't stand
abbrev pub delim_in : Option OptValue → ℕ
delim_in (Some (value.Delim b)) = b
delim_in other = 44

abbrev pub widths_in : Option OptValue → Option (List ℕ)
widths_in (Some (value.Widths widths)) = Some widths
widths_in other = None

abbrev pub keys_in : Option OptValue → List (List ℕ × Bool)
keys_in (Some (value.Keys keys)) = keys
keys_in other = []

abbrev pub columns_in : Option OptValue → List (List ℕ)
columns_in (Some (value.Columns names)) = names
columns_in other = []

abbrev pub renames_in : Option OptValue → List (List ℕ × List ℕ)
renames_in (Some (value.Renames pairs)) = pairs
renames_in other = []

abbrev pub missing_in : Option OptValue → Missing
missing_in (Some (value.Missing m)) = m
missing_in other = missing.Fail

abbrev pub expression_in : Option OptValue → Option (List ℕ)
expression_in (Some (value.Expression expr)) = Some expr
expression_in other = None

abbrev pub cases_in : Option OptValue → Option (List ℤ)
cases_in (Some (value.Cases cases)) = Some cases
cases_in other = None

abbrev pub set_in : OptValue → Option SetSpec
set_in (value.Set set) = Some set
set_in other = None

-- the columns that a transform sets, in the written order
abbrev pub sets_of : List Setting → List SetSpec
sets_of ss = filter_map (λ (s : Setting). set_in s.value) ss

abbrev pub result_in : OptValue → Option AggSpec
result_in (value.Result r) = Some r
result_in other = None

-- the results of a group, in the written order
abbrev pub results_of : List Setting → List AggSpec
results_of ss = filter_map (λ (s : Setting). result_in s.value) ss

-- what is made of a value, where it stands
abbrev pub with_value : {A B : Type 0} → Option A → (A → Option B) → Option B
with_value None make = None
with_value (Some x) make = make x

abbrev pub import_of : List Setting → Option OpKind
import_of ss = with_value (name_in (found_value opt.File ss)) (λ file. with_value (schema_in (found_value opt.Schema ss)) (λ schema.
    Some (kind.Import file schema (delim_in (found_value opt.Delim ss)) (widths_in (found_value opt.Fixed ss)) (stands (found_value opt.Reject ss)))))

abbrev pub export_of : List Setting → Option OpKind
export_of ss = with_value (name_in (found_value opt.File ss)) (λ file. Some (kind.Export file (delim_in (found_value opt.Delim ss)) (widths_in (found_value opt.Fixed ss))))

abbrev pub stored_kind : OpName → List ℕ → OpKind
stored_kind op.Dsread ds = kind.Dsread ds
stored_kind other ds = kind.Dswrite ds

abbrev pub stored : OpName → List Setting → Option OpKind
stored o ss = with_value (name_in (found_value opt.Ds ss)) (λ ds. Some (stored_kind o ds))

abbrev pub filter_of : List Setting → Option OpKind
filter_of ss = with_value (expression_in (found_value opt.Where ss)) (λ test. Some (kind.Filter test (stands (found_value opt.Reject ss))))

-- a transform sets at least one column
abbrev pub transform_by : List SetSpec → Bool → Option OpKind
transform_by [] reject = None
transform_by (s ∷ set) reject = Some (kind.Transform (s ∷ set) reject)

abbrev pub transform_of : List Setting → Option OpKind
transform_of ss = transform_by (sets_of ss) (stands (found_value opt.Reject ss))

abbrev pub switch_of : List Setting → Option OpKind
switch_of ss = with_value (expression_in (found_value opt.On ss)) (λ on. with_value (cases_in (found_value opt.Cases ss)) (λ cases.
    Some (kind.Switch on cases (stands (found_value opt.Reject ss)))))

abbrev pub modify_of : List Setting → OpKind
modify_of ss = kind.Modify (columns_in (found_value opt.Keep ss)) (columns_in (found_value opt.Drop ss)) (renames_in (found_value opt.Rename ss))

abbrev pub group_of : List Setting → OpKind
group_of ss = kind.Group (keys_in (found_value opt.Key ss)) (stands (found_value opt.Hash ss)) (results_of ss)

abbrev pub changecapture_of : List Setting → OpKind
changecapture_of ss = kind.Changecapture (keys_in (found_value opt.Key ss)) (columns_in (found_value opt.Values ss)) (stands (found_value opt.Keepcopy ss))

abbrev pub funnel_of : List Setting → OpKind
funnel_of ss = kind.Funnel (stands (found_value opt.Sequence ss)) (keys_in (found_value opt.Sort ss))

abbrev pub keyed_by : OpName → List (List ℕ × Bool) → List Setting → OpKind
keyed_by op.Tsort key ss = kind.Tsort key
keyed_by op.Remdup key ss = kind.Remdup key (stands (found_value opt.Last ss))
keyed_by op.InnerJoin key ss = kind.InnerJoin key
keyed_by op.LeftOuterJoin key ss = kind.LeftOuterJoin key
keyed_by op.RightOuterJoin key ss = kind.RightOuterJoin key
keyed_by op.FullOuterJoin key ss = kind.FullOuterJoin key
keyed_by op.Merge key ss = kind.Merge key (stands (found_value opt.Keepbad ss)) (stands (found_value opt.Reject ss))
keyed_by other key ss = kind.Lookup key (missing_in (found_value opt.Missing ss))

abbrev pub keyed : OpName → List Setting → OpKind
keyed o ss = keyed_by o (keys_in (found_value opt.Key ss)) ss

-- the operator that the options say; none where one lacks that it must have
abbrev pub kind_of : OpName → List Setting → Option OpKind
kind_of op.Import ss = import_of ss
kind_of op.Export ss = export_of ss
kind_of op.Dsread ss = stored op.Dsread ss
kind_of op.Dswrite ss = stored op.Dswrite ss
kind_of op.Copy ss = Some kind.Copy
kind_of op.Filter ss = filter_of ss
kind_of op.Transform ss = transform_of ss
kind_of op.Switch ss = switch_of ss
kind_of op.Modify ss = Some (modify_of ss)
kind_of op.Group ss = Some (group_of ss)
kind_of op.Changecapture ss = Some (changecapture_of ss)
kind_of op.Funnel ss = Some (funnel_of ss)
kind_of other ss = Some (keyed other ss)
