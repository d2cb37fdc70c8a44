-- What a call leaves: files, what is on out and on err, and its status.
use Rattle.std.specs.Prelude.{◌≡◌, ◌⊎◌, ℕ, Bool, IsTrue, List, [], ◌∷◌, ◌++◌, take, codes}
use Rattle.std.specs.Fmt.{decimal}
use Rattle.config_read.specs.declared.fault.ConfigWhy.{ConfigWhy}
use Rattle.config_read.specs.declared.fault.ConfigWhy.TheVariants as config_why
use Rattle.ds_port.specs.Causes.{Rose}
use Rattle.ds_port.specs.FileMap.{FileMap}
use Rattle.flow_outputs.specs.Outputs.{NamedFile, with_files}
use Rattle.shape_base.specs.declared.fault.ShapeWhy.{ShapeWhy}
use Rattle.shape_base.specs.declared.fault.ShapeWhy.TheVariants as shape_why
use Rattle.osh_read.specs.declared.fault.OshWhy.{OshWhy}
use Rattle.osh_read.specs.declared.fault.OshWhy.TheVariants as flow_why
use Rattle.osh_ends.specs.Ends.{End, usage, unbuilt, bad_flow, bad_config, bad_shape, absent, refused, checked, mismatch, crowded, done, faulty, end_status, ComesTo}

abbrev pub outputs : End → List NamedFile
outputs usage = []
outputs unbuilt = []
outputs (bad_flow at why) = []
outputs (bad_config at why) = []
outputs (bad_shape why op) = []
outputs (absent name) = []
outputs (refused text) = []
outputs (checked text) = []
outputs (mismatch link from to) = []
outputs (crowded n) = []
outputs (done made text) = made
outputs (faulty text) = []

-- what is printed on out
abbrev pub printed : End → List ℕ
printed usage = []
printed unbuilt = []
printed (bad_flow at why) = []
printed (bad_config at why) = []
printed (bad_shape why op) = []
printed (absent name) = []
printed (refused text) = text
printed (checked text) = text
printed (mismatch link from to) = []
printed (crowded n) = []
printed (done made text) = text
printed (faulty text) = text

abbrev pub flow_why_text : OshWhy → List ℕ
flow_why_text flow_why.TooLong = codes "TooLong"
flow_why_text flow_why.Token = codes "Token"
flow_why_text flow_why.Syntax = codes "Syntax"
flow_why_text flow_why.UnknownOperator = codes "UnknownOperator"
flow_why_text flow_why.UnknownOption = codes "UnknownOption"
flow_why_text flow_why.BadValue = codes "BadValue"
flow_why_text flow_why.DoubleOption = codes "DoubleOption"
flow_why_text flow_why.MissingOption = codes "MissingOption"
flow_why_text flow_why.Constraint = codes "Constraint"
flow_why_text flow_why.TooMany = codes "TooMany"
flow_why_text flow_why.Unjoined = codes "Unjoined"

abbrev pub config_why_text : ConfigWhy → List ℕ
config_why_text config_why.TooLong = codes "TooLong"
config_why_text config_why.Token = codes "Token"
config_why_text config_why.Syntax = codes "Syntax"
config_why_text config_why.Name = codes "Name"
config_why_text config_why.DoubleNode = codes "DoubleNode"
config_why_text config_why.TooMany = codes "TooMany"
config_why_text config_why.NoDefault = codes "NoDefault"

abbrev pub shape_why_text : ShapeWhy → List ℕ
shape_why_text shape_why.Ports = codes "Ports"
shape_why_text shape_why.Cycle = codes "Cycle"
shape_why_text shape_why.Method = codes "Method"
shape_why_text shape_why.Field = codes "Field"
shape_why_text shape_why.Kind = codes "Kind"
shape_why_text shape_why.Expression = codes "Expression"
shape_why_text shape_why.Schemas = codes "Schemas"
shape_why_text shape_why.Double = codes "Double"
shape_why_text shape_why.Wide = codes "Wide"
shape_why_text shape_why.Files = codes "Files"

-- the line on err
abbrev pub line : End → List ℕ
line usage = codes "osh: usage\n"
line unbuilt = codes "osh: unbuilt\n"
line (bad_flow at why) = codes "osh: flow " ++ (decimal at ++ (codes " " ++ (flow_why_text why ++ codes "\n")))
line (bad_config at why) = codes "osh: configuration " ++ (decimal at ++ (codes " " ++ (config_why_text why ++ codes "\n")))
line (bad_shape why op) = codes "osh: shape " ++ (shape_why_text why ++ (codes " op " ++ (decimal op ++ codes "\n")))
line (absent name) = codes "osh: absent \"" ++ (name ++ codes "\"\n")
line (refused text) = []
line (checked text) = []
line (mismatch link from to) = codes "osh: degree link " ++ (decimal link ++ (codes " " ++ (decimal from ++ (codes " " ++ (decimal to ++ codes "\n")))))
line (crowded n) = codes "osh: players " ++ (decimal n ++ codes "\n")
line (done made text) = []
line (faulty text) = []

-- all of a line was added, or a part where the device failed
abbrev pub Tells : List ℕ → ℕ → ℕ → List ℕ → List ℕ → Type 0
Tells text before now old new = (new ≡ old ++ text) ⊎ (Rose before now × ((n : ℕ) × (new ≡ old ++ take n text)))

-- the files are these, and out has these bytes more, where it tells what it holds
pub record Leaves (files new : FileMap) (tells : Bool) (out_old out_new text : List ℕ) : Type 0 where
  pub files_are : new ≡ files
  pub out : IsTrue tells → out_new ≡ out_old ++ text

-- What a call did that came to its end.
pub record Ended (words : List (List ℕ)) (old new : FileMap) (tells : Bool) (out_old out_new err_text : List ℕ) (status : ℕ) : Type 0 where
  pub end : End
  pub comes : ComesTo words old end
  pub leaves : Leaves (with_files old (outputs end)) new tells out_old out_new (printed end)
  pub err_is : err_text ≡ line end
  pub status_is : status ≡ end_status end

-- A device failed: one of files, before anything was left; or one file couldn't be made, when those before it were, and it and those behind it weren't; or out failed, when all files were made and a part of what is printed was out.
abbrev pub Broke : (End → Type 0) → FileMap → FileMap → Bool → List ℕ → List ℕ → (files_rose out_rose : Type 0) → Type 0
Broke Comes old new tells out_old out_new files_rose out_rose =
    (Leaves old new tells out_old out_new [] × files_rose)
    ⊎ (((end : End) × (made : List NamedFile) × (failed : NamedFile) × (behind : List NamedFile) × Comes end × (outputs end ≡ made ++ failed ∷ behind) × Leaves (with_files old made) new tells out_old out_new [] × files_rose)
    ⊎ ((end : End) × (n : ℕ) × Comes end × Leaves (with_files old (outputs end)) new tells out_old out_new (take n (printed end)) × out_rose))

-- A whole call: it came to its end, or a device failed, or memory was wanting and nothing is left.
abbrev pub Runs : List (List ℕ) → FileMap → FileMap → Bool → List ℕ → List ℕ → (files_rose out_rose : Type 0) → List ℕ → ℕ → Type 0
Runs words old new tells out_old out_new files_rose out_rose err_text status =
    Ended words old new tells out_old out_new err_text status
    ⊎ (((status ≡ 10) × (err_text ≡ codes "osh: device\n") × Broke (ComesTo words old) old new tells out_old out_new files_rose out_rose)
    ⊎ ((status ≡ 12) × (err_text ≡ codes "osh: memory\n") × Leaves old new tells out_old out_new []))

-- the status is that of what the call comes to, or 10 or 12
abbrev pub IsExact : List (List ℕ) → FileMap → ℕ → Type 0
IsExact words files status = (end : End) → ComesTo words files end → (status ≡ end_status end) ⊎ ((status ≡ 10) ⊎ (status ≡ 12))

-- where no count of files or out rose it is that, or 12
abbrev pub IsComplete : List (List ℕ) → FileMap → (rose : Type 0) → ℕ → Type 0
IsComplete words files rose status = (rose → ⊥) → (end : End) → ComesTo words files end → (status ≡ end_status end) ⊎ (status ≡ 12)
