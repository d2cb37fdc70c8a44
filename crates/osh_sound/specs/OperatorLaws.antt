-- An operator as the options that are printed of it.
use Rattle.std.specs.Prelude.{◌≡◌, ◌≤◌, ℕ, Bool, true, false, ◌==◌, if◌then◌else◌, List, [], ◌∷◌, ◌++◌, length, map, Option, Some, None}
use Rattle.std.specs.List.{flat_map}
use Rattle.op_base.specs.declared.missing.Missing.{Missing}
use Rattle.op_base.specs.declared.missing.Missing.TheVariants as missing
use Rattle.flow_graph.specs.declared.op_kind.AggSpec.{AggSpec}
use Rattle.flow_graph.specs.declared.op_kind.AggSpec.TheVariants as agg
use Rattle.flow_graph.specs.declared.op_kind.SetSpec.{SetSpec}
use Rattle.flow_graph.specs.declared.op_kind.OpKind.{OpKind}
use Rattle.flow_graph.specs.declared.op_kind.OpKind.TheVariants as kind
use Rattle.osh_table.specs.declared.option.OptName.{OptName}
use Rattle.osh_table.specs.declared.option.OptName.TheVariants as opt
use Rattle.osh_table.specs.declared.option.Form.{Form}
use Rattle.osh_table.specs.declared.option.Form.TheVariants as form
use Rattle.osh_table.specs.Options.{row}
use Rattle.osh_value.specs.declared.value.OptValue.{OptValue}
use Rattle.osh_value.specs.declared.value.OptValue.TheVariants as value
use Rattle.osh_value.specs.Kinds.{kind_of}
use Rattle.osh_print.specs.OptionText.{name_of, options_text}
use Rattle.osh_sound.specs.Grammar.{WrittenOption, setting_of}
use Rattle.osh_sound.specs.ValueLaws.{agg_form}
use Rattle.osh_sound.specs.OptionLaws.{written_text}

abbrev pub one : OptName → Form → Bool → ℕ → OptValue → WrittenOption
one o f required group v = record { row = row o f required group; value = v }

abbrev pub flag_of : OptName → ℕ → Bool → List WrittenOption
flag_of o group true = one o form.Flag false group value.Flag ∷ []
flag_of o group false = []

abbrev pub delim_of : ℕ → ℕ → List WrittenOption
delim_of group b = if b == 44 then [] else one opt.Delim form.Delim false group (value.Delim b) ∷ []

abbrev pub widths_of : ℕ → Option (List ℕ) → List WrittenOption
widths_of group None = []
widths_of group (Some widths) = one opt.Fixed form.Widths false group (value.Widths widths) ∷ []

abbrev pub keys_of : OptName → Bool → ℕ → List (List ℕ × Bool) → List WrittenOption
keys_of o required group [] = []
keys_of o required group (k ∷ keys) = one o form.Keys required group (value.Keys (k ∷ keys)) ∷ []

abbrev pub columns_of : OptName → ℕ → List (List ℕ) → List WrittenOption
columns_of o group [] = []
columns_of o group (n ∷ names) = one o form.Columns false group (value.Columns (n ∷ names)) ∷ []

abbrev pub renames_of : List (List ℕ × List ℕ) → List WrittenOption
renames_of [] = []
renames_of (p ∷ pairs) = one opt.Rename form.Renames false 2 (value.Renames (p ∷ pairs)) ∷ []

abbrev pub missing_of : Missing → List WrittenOption
missing_of missing.Fail = []
missing_of missing.Continue = one opt.Missing form.Missing false 2 (value.Missing missing.Continue) ∷ []
missing_of missing.Drop = one opt.Missing form.Missing false 2 (value.Missing missing.Drop) ∷ []
missing_of missing.Reject = one opt.Missing form.Missing false 2 (value.Missing missing.Reject) ∷ []

abbrev pub agg_opt : AggSpec → OptName
agg_opt (agg.Count new) = opt.Count
agg_opt (agg.Sum new old) = opt.Sum
agg_opt (agg.Min new old) = opt.Min
agg_opt (agg.Max new old) = opt.Max
agg_opt (agg.First new old) = opt.First
agg_opt (agg.Last new old) = opt.Last

abbrev pub result_of : AggSpec → WrittenOption
result_of r = one (agg_opt r) (agg_form r) false 0 (value.Result r)

abbrev pub set_of : SetSpec → WrittenOption
set_of s = one opt.Set form.Setting true 0 (value.Set s)

-- the options of an operator, but for what stands by default
abbrev pub written : OpKind → List WrittenOption
written (kind.Import file schema delim fixed reject) = one opt.File form.File true 1 (value.Name file) ∷ one opt.Schema form.Schema true 2 (value.Schema schema) ∷ (delim_of 3 delim ++ (widths_of 3 fixed ++ flag_of opt.Reject 4 reject))
written (kind.Export file delim fixed) = one opt.File form.File true 1 (value.Name file) ∷ (delim_of 2 delim ++ widths_of 2 fixed)
written (kind.Dsread ds) = one opt.Ds form.DataSet true 1 (value.Name ds) ∷ []
written (kind.Dswrite ds) = one opt.Ds form.DataSet true 1 (value.Name ds) ∷ []
written kind.Copy = []
written (kind.Filter test reject) = one opt.Where form.Expression true 1 (value.Expression test) ∷ flag_of opt.Reject 2 reject
written (kind.Transform set reject) = map set_of set ++ flag_of opt.Reject 1 reject
written (kind.Switch on cases reject) = one opt.On form.Expression true 1 (value.Expression on) ∷ one opt.Cases form.Cases true 2 (value.Cases cases) ∷ flag_of opt.Reject 3 reject
written (kind.Modify keep drop rename) = columns_of opt.Keep 1 keep ++ (columns_of opt.Drop 1 drop ++ renames_of rename)
written (kind.Tsort key) = keys_of opt.Key true 1 key
written (kind.Remdup key last) = keys_of opt.Key true 1 key ++ flag_of opt.Last 2 last
written (kind.Group key hash results) = keys_of opt.Key false 1 key ++ (flag_of opt.Hash 2 hash ++ map result_of results)
written (kind.InnerJoin key) = keys_of opt.Key true 1 key
written (kind.LeftOuterJoin key) = keys_of opt.Key true 1 key
written (kind.RightOuterJoin key) = keys_of opt.Key true 1 key
written (kind.FullOuterJoin key) = keys_of opt.Key true 1 key
written (kind.Merge key keepbad reject) = keys_of opt.Key true 1 key ++ (flag_of opt.Keepbad 2 keepbad ++ flag_of opt.Reject 3 reject)
written (kind.Lookup key missing) = keys_of opt.Key true 1 key ++ missing_of missing
written (kind.Changecapture key values keepcopy) = keys_of opt.Key true 1 key ++ (columns_of opt.Values 2 values ++ flag_of opt.Keepcopy 3 keepcopy)
written (kind.Funnel sequence sort) = flag_of opt.Sequence 1 sequence ++ keys_of opt.Sort false 1 sort

-- an operator that options can say: a transform sets a column
abbrev pub CanBeSaid : OpKind → Type 0
CanBeSaid (kind.Transform set reject) = 1 ≤ length set
CanBeSaid k = Unit {0}

-- the options that are printed of an operator say it
abbrev pub WrittenSays : Type 0
WrittenSays = (k : OpKind) → CanBeSaid k → kind_of (name_of k) (map setting_of (written k)) ≡ Some k

-- they are what is printed
abbrev pub WrittenIsPrinted : Type 0
WrittenIsPrinted = (k : OpKind) → CanBeSaid k → options_text k ≡ flat_map written_text (written k)
