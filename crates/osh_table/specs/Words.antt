-- The words of the operators and of their options.
use Rattle.std.specs.Prelude.{ℕ, List, [], ◌∷◌, Option, Some, None, if◌then◌else◌, codes}
use Rattle.std.specs.Str.{bytes_eq}
use Rattle.osh_table.specs.declared.operator.OpName.{OpName}
use Rattle.osh_table.specs.declared.operator.OpName.TheVariants as op
use Rattle.osh_table.specs.declared.option.OptName.{OptName}
use Rattle.osh_table.specs.declared.option.OptName.TheVariants as opt

abbrev pub operator_word : OpName → List ℕ
operator_word op.Import = codes "import"
operator_word op.Export = codes "export"
operator_word op.Dsread = codes "dsread"
operator_word op.Dswrite = codes "dswrite"
operator_word op.Copy = codes "copy"
operator_word op.Filter = codes "filter"
operator_word op.Transform = codes "transform"
operator_word op.Modify = codes "modify"
operator_word op.Switch = codes "switch"
operator_word op.Tsort = codes "tsort"
operator_word op.Remdup = codes "remdup"
operator_word op.Group = codes "group"
operator_word op.InnerJoin = codes "innerjoin"
operator_word op.LeftOuterJoin = codes "leftouterjoin"
operator_word op.RightOuterJoin = codes "rightouterjoin"
operator_word op.FullOuterJoin = codes "fullouterjoin"
operator_word op.Merge = codes "merge"
operator_word op.Lookup = codes "lookup"
operator_word op.Changecapture = codes "changecapture"
operator_word op.Funnel = codes "funnel"

abbrev pub option_word : OptName → List ℕ
option_word opt.File = codes "-file"
option_word opt.Schema = codes "-schema"
option_word opt.Delim = codes "-delim"
option_word opt.Fixed = codes "-fixed"
option_word opt.Reject = codes "-reject"
option_word opt.Ds = codes "-ds"
option_word opt.Where = codes "-where"
option_word opt.Set = codes "-set"
option_word opt.Keep = codes "-keep"
option_word opt.Drop = codes "-drop"
option_word opt.Rename = codes "-rename"
option_word opt.On = codes "-on"
option_word opt.Cases = codes "-cases"
option_word opt.Key = codes "-key"
option_word opt.Last = codes "-last"
option_word opt.Hash = codes "-hash"
option_word opt.Sum = codes "-sum"
option_word opt.Count = codes "-count"
option_word opt.Min = codes "-min"
option_word opt.Max = codes "-max"
option_word opt.First = codes "-first"
option_word opt.Keepbad = codes "-keepbad"
option_word opt.Missing = codes "-missing"
option_word opt.Values = codes "-values"
option_word opt.Keepcopy = codes "-keepcopy"
option_word opt.Sequence = codes "-sequence"
option_word opt.Sort = codes "-sort"

abbrev pub operators : List OpName
operators =
    op.Import ∷ op.Export ∷ op.Dsread ∷ op.Dswrite ∷ op.Copy ∷ op.Filter ∷ op.Transform ∷ op.Modify ∷ op.Switch ∷ op.Tsort ∷ op.Remdup ∷ op.Group
    ∷ op.InnerJoin ∷ op.LeftOuterJoin ∷ op.RightOuterJoin ∷ op.FullOuterJoin ∷ op.Merge ∷ op.Lookup ∷ op.Changecapture ∷ op.Funnel ∷ []

abbrev pub operator_among : List OpName → List ℕ → Option OpName
operator_among [] word = None
operator_among (o ∷ os) word = if bytes_eq (operator_word o) word then Some o else operator_among os word

-- the operator that is called so
abbrev pub operator_named : List ℕ → Option OpName
operator_named word = operator_among operators word
