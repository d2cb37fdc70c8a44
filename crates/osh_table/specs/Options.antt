-- The options of each operator.
use Rattle.std.specs.Prelude.{ℕ, List, [], ◌∷◌, Option, Some, None, Bool, true, false, if◌then◌else◌}
use Rattle.std.specs.Str.{bytes_eq}
use Rattle.osh_table.specs.declared.operator.OpName.{OpName}
use Rattle.osh_table.specs.declared.operator.OpName.TheVariants as op
use Rattle.osh_table.specs.declared.option.OptName.{OptName}
use Rattle.osh_table.specs.declared.option.OptName.TheVariants as opt
use Rattle.osh_table.specs.declared.option.Form.{Form}
use Rattle.osh_table.specs.declared.option.Form.TheVariants as form
use Rattle.osh_table.specs.declared.option.OptRow.{OptRow}
use Rattle.osh_table.specs.Words.{option_word}

abbrev pub row : OptName → Form → Bool → ℕ → OptRow
row opt form required group = record { opt = opt; form = form; required = required; group = group }

-- an operator whose one option is the name of a data set
abbrev pub data_set : List OptRow
data_set = row opt.Ds form.DataSet true 1 ∷ []

-- an operator whose one option is its key
abbrev pub keyed : List OptRow
keyed = row opt.Key form.Keys true 1 ∷ []

-- Per operator: its options in the order in which they are printed, the form of the value, whether the option must be
-- there, and a group: two options with one group, which isn't 0, exclude each other.
abbrev pub options_of : OpName → List OptRow
options_of op.Import = row opt.File form.File true 1 ∷ row opt.Schema form.Schema true 2 ∷ row opt.Delim form.Delim false 3 ∷ row opt.Fixed form.Widths false 3 ∷ row opt.Reject form.Flag false 4 ∷ []
options_of op.Export = row opt.File form.File true 1 ∷ row opt.Delim form.Delim false 2 ∷ row opt.Fixed form.Widths false 2 ∷ []
options_of op.Dsread = data_set
options_of op.Dswrite = data_set
options_of op.Copy = []
options_of op.Filter = row opt.Where form.Expression true 1 ∷ row opt.Reject form.Flag false 2 ∷ []
options_of op.Transform = row opt.Set form.Setting true 0 ∷ row opt.Reject form.Flag false 1 ∷ []
options_of op.Modify = row opt.Keep form.Columns false 1 ∷ row opt.Drop form.Columns false 1 ∷ row opt.Rename form.Renames false 2 ∷ []
options_of op.Switch = row opt.On form.Expression true 1 ∷ row opt.Cases form.Cases true 2 ∷ row opt.Reject form.Flag false 3 ∷ []
options_of op.Tsort = keyed
options_of op.Remdup = row opt.Key form.Keys true 1 ∷ row opt.Last form.Flag false 2 ∷ []
options_of op.Group =
    row opt.Key form.Keys false 1 ∷ row opt.Hash form.Flag false 2
    ∷ row opt.Sum form.Sum false 0 ∷ row opt.Count form.Count false 0 ∷ row opt.Min form.Min false 0 ∷ row opt.Max form.Max false 0 ∷ row opt.First form.First false 0 ∷ row opt.Last form.Last false 0 ∷ []
options_of op.InnerJoin = keyed
options_of op.LeftOuterJoin = keyed
options_of op.RightOuterJoin = keyed
options_of op.FullOuterJoin = keyed
options_of op.Merge = row opt.Key form.Keys true 1 ∷ row opt.Keepbad form.Flag false 2 ∷ row opt.Reject form.Flag false 3 ∷ []
options_of op.Lookup = row opt.Key form.Keys true 1 ∷ row opt.Missing form.Missing false 2 ∷ []
options_of op.Changecapture = row opt.Key form.Keys true 1 ∷ row opt.Values form.Columns false 2 ∷ row opt.Keepcopy form.Flag false 3 ∷ []
options_of op.Funnel = row opt.Sequence form.Flag false 1 ∷ row opt.Sort form.Keys false 1 ∷ []

abbrev pub row_among : List OptRow → List ℕ → Option OptRow
row_among [] word = None
row_among (r ∷ rs) word = if bytes_eq (option_word r.opt) word then Some r else row_among rs word

-- the operator's option that is called so
abbrev pub row_named : OpName → List ℕ → Option OptRow
row_named op word = row_among (options_of op) word
