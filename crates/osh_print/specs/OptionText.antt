-- Operators with their options, as they are printed: every value in quotes, and what stands by default left out.
use Rattle.std.specs.Prelude.{ℕ, ℤ, List, [], ◌∷◌, ◌++◌, Option, Some, None, Bool, true, false, ◌==◌, if◌then◌else◌, codes}
use Rattle.std.specs.List.{flat_map, list_any}
use Rattle.std.specs.Fmt.{decimal, signed_decimal}
use Rattle.op_base.specs.declared.missing.Missing.{Missing}
use Rattle.op_base.specs.declared.missing.Missing.TheVariants as missing
use Rattle.ds_schema.specs.SchemaText.{kind_text, nullable_text, schema_text}
use Rattle.ds_schema.specs.ColumnText.{names_text, keys_text}
use Rattle.flow_graph.specs.declared.op_kind.SetSpec.{SetSpec}
use Rattle.flow_graph.specs.declared.op_kind.AggSpec.{AggSpec}
use Rattle.flow_graph.specs.declared.op_kind.AggSpec.TheVariants as agg
use Rattle.flow_graph.specs.declared.op_kind.OpKind.{OpKind}
use Rattle.flow_graph.specs.declared.op_kind.OpKind.TheVariants as kind
use Rattle.osh_table.specs.declared.operator.OpName.{OpName}
use Rattle.osh_table.specs.declared.operator.OpName.TheVariants as op
use Rattle.osh_table.specs.declared.option.OptName.{OptName}
use Rattle.osh_table.specs.declared.option.OptName.TheVariants as opt
use Rattle.osh_table.specs.Words.{option_word}
use Rattle.osh_value.specs.ValueGrammar.{missing_word}

-- ---- values

abbrev pub has_quote : List ℕ → Bool
has_quote bytes = list_any (λ b. b == 34) bytes

-- in `"`, or in `'` where the bytes have a `"`
abbrev pub quote_of : List ℕ → ℕ
quote_of bytes = if has_quote bytes then 39 else 34

abbrev pub quoted : List ℕ → List ℕ
quoted bytes = quote_of bytes ∷ (bytes ++ quote_of bytes ∷ [])

-- with commas between them
abbrev pub with_commas : {A : Type 0} → (A → List ℕ) → List A → List ℕ
with_commas text [] = []
with_commas text (x ∷ xs) = text x ++ flat_map (λ y. codes "," ++ text y) xs

abbrev pub pair_text : List ℕ × List ℕ → List ℕ
pair_text pair = pair.0 ++ (codes "=" ++ pair.1)

-- the field as in a schema, then its expression
abbrev pub set_text : SetSpec → List ℕ
set_text s = s.field.name ++ (codes ": " ++ (nullable_text s.field.nullable ++ (kind_text s.field.kind ++ (codes " = " ++ s.expr))))

-- ---- options

abbrev pub option_text : OptName → List ℕ → List ℕ
option_text o value = codes " " ++ (option_word o ++ (codes " " ++ quoted value))

abbrev pub flag_text : OptName → Bool → List ℕ
flag_text o true = codes " " ++ option_word o
flag_text o false = []

-- the delimiter, but for a comma
abbrev pub delim_text : ℕ → List ℕ
delim_text b = if b == 44 then [] else option_text opt.Delim (b ∷ [])

abbrev pub widths_text : Option (List ℕ) → List ℕ
widths_text None = []
widths_text (Some widths) = option_text opt.Fixed (with_commas decimal widths)

-- nothing for a list that isn't written
abbrev pub keys_option : OptName → List (List ℕ × Bool) → List ℕ
keys_option o [] = []
keys_option o (k ∷ keys) = option_text o (keys_text (k ∷ keys))

abbrev pub columns_option : OptName → List (List ℕ) → List ℕ
columns_option o [] = []
columns_option o (n ∷ names) = option_text o (names_text (n ∷ names))

abbrev pub renames_option : List (List ℕ × List ℕ) → List ℕ
renames_option [] = []
renames_option (p ∷ pairs) = option_text opt.Rename (with_commas pair_text (p ∷ pairs))

abbrev pub missing_text : Missing → List ℕ
missing_text missing.Fail = []
missing_text missing.Continue = option_text opt.Missing (missing_word missing.Continue)
missing_text missing.Drop = option_text opt.Missing (missing_word missing.Drop)
missing_text missing.Reject = option_text opt.Missing (missing_word missing.Reject)

abbrev pub result_text : AggSpec → List ℕ
result_text (agg.Sum new old) = option_text opt.Sum (pair_text (new, old))
result_text (agg.Count new) = option_text opt.Count new
result_text (agg.Min new old) = option_text opt.Min (pair_text (new, old))
result_text (agg.Max new old) = option_text opt.Max (pair_text (new, old))
result_text (agg.First new old) = option_text opt.First (pair_text (new, old))
result_text (agg.Last new old) = option_text opt.Last (pair_text (new, old))

abbrev pub results_text : List AggSpec → List ℕ
results_text results = flat_map result_text results

-- one option for each column that is set, in the written order
abbrev pub sets_text : List SetSpec → List ℕ
sets_text sets = flat_map (λ s. option_text opt.Set (set_text s)) sets

abbrev pub cases_text : List ℤ → List ℕ
cases_text cases = option_text opt.Cases (with_commas signed_decimal cases)

-- ---- operators

abbrev pub name_of : OpKind → OpName
name_of (kind.Import file schema delim fixed reject) = op.Import
name_of (kind.Export file delim fixed) = op.Export
name_of (kind.Dsread ds) = op.Dsread
name_of (kind.Dswrite ds) = op.Dswrite
name_of kind.Copy = op.Copy
name_of (kind.Filter test reject) = op.Filter
name_of (kind.Transform set reject) = op.Transform
name_of (kind.Modify keep drop rename) = op.Modify
name_of (kind.Switch on cases reject) = op.Switch
name_of (kind.Tsort key) = op.Tsort
name_of (kind.Remdup key last) = op.Remdup
name_of (kind.Group key hash results) = op.Group
name_of (kind.InnerJoin key) = op.InnerJoin
name_of (kind.LeftOuterJoin key) = op.LeftOuterJoin
name_of (kind.RightOuterJoin key) = op.RightOuterJoin
name_of (kind.FullOuterJoin key) = op.FullOuterJoin
name_of (kind.Merge key keepbad reject) = op.Merge
name_of (kind.Lookup key missing) = op.Lookup
name_of (kind.Changecapture key values keepcopy) = op.Changecapture
name_of (kind.Funnel sequence sort) = op.Funnel

-- the options of the operators at the ends of a flow
abbrev pub ends_text : OpKind → List ℕ
ends_text (kind.Import file schema delim fixed reject) = (option_text opt.File file ++ option_text opt.Schema (schema_text schema)) ++ ((delim_text delim ++ widths_text fixed) ++ flag_text opt.Reject reject)
ends_text (kind.Export file delim fixed) = option_text opt.File file ++ (delim_text delim ++ widths_text fixed)
ends_text (kind.Dsread ds) = option_text opt.Ds ds
ends_text (kind.Dswrite ds) = option_text opt.Ds ds
ends_text other = []

-- the key, where an operator has one
abbrev pub key_of : OpKind → List (List ℕ × Bool)
key_of (kind.Tsort key) = key
key_of (kind.Remdup key last) = key
key_of (kind.Group key hash results) = key
key_of (kind.InnerJoin key) = key
key_of (kind.LeftOuterJoin key) = key
key_of (kind.RightOuterJoin key) = key
key_of (kind.FullOuterJoin key) = key
key_of (kind.Merge key keepbad reject) = key
key_of (kind.Lookup key missing) = key
key_of (kind.Changecapture key values keepcopy) = key
key_of other = []

-- the options behind the key; results of a group in their written order
abbrev pub behind_key : OpKind → List ℕ
behind_key (kind.Remdup key last) = flag_text opt.Last last
behind_key (kind.Group key hash results) = flag_text opt.Hash hash ++ results_text results
behind_key (kind.Merge key keepbad reject) = flag_text opt.Keepbad keepbad ++ flag_text opt.Reject reject
behind_key (kind.Lookup key missing) = missing_text missing
behind_key (kind.Changecapture key values keepcopy) = columns_option opt.Values values ++ flag_text opt.Keepcopy keepcopy
behind_key other = []

-- the options of an operator, in the order of the table
abbrev pub options_text : OpKind → List ℕ
options_text (kind.Filter test reject) = option_text opt.Where test ++ flag_text opt.Reject reject
options_text (kind.Transform set reject) = sets_text set ++ flag_text opt.Reject reject
options_text (kind.Switch on cases reject) = option_text opt.On on ++ (cases_text cases ++ flag_text opt.Reject reject)
options_text (kind.Modify keep drop rename) = columns_option opt.Keep keep ++ (columns_option opt.Drop drop ++ renames_option rename)
options_text (kind.Funnel sequence sort) = flag_text opt.Sequence sequence ++ keys_option opt.Sort sort
options_text other = ends_text other ++ (keys_option opt.Key (key_of other) ++ behind_key other)
