-- Methods, and the inputs and outputs of an operator, as they are printed. A link is the virtual data set `k`, its number and
-- `.v`.
use Rattle.std.specs.Prelude.{ℕ, zero, suc, ◌+◌, List, [], ◌∷◌, ◌++◌, length, filter, position, Option, Some, None, Bool, ◌&&◌, ◌==◌, if◌then◌else◌, codes}
use Rattle.std.specs.Fmt.{decimal}
use Rattle.ds_schema.specs.ColumnText.{names_text, keys_text}
use Rattle.flow_graph.specs.declared.flow.Method.{Method}
use Rattle.flow_graph.specs.declared.flow.Method.TheVariants as method
use Rattle.flow_graph.specs.declared.flow.Flag.{Flag}
use Rattle.flow_graph.specs.declared.flow.Flag.TheVariants as flag
use Rattle.flow_graph.specs.declared.flow.LinkSpec.{LinkSpec}

abbrev pub kind_text : Method → List ℕ
kind_text method.Auto = codes "auto"
kind_text method.Same = codes "same"
kind_text method.RoundRobin = codes "rr"
kind_text method.Entire = codes "entire"
kind_text (method.Hash names) = codes "hash " ++ names_text names
kind_text (method.Modulus name) = codes "modulus " ++ name
kind_text method.Any = codes "any"
kind_text method.Ordered = codes "ordered"
kind_text (method.Merge keys) = codes "merge " ++ keys_text keys

abbrev pub link_flag : Flag → List ℕ
link_flag flag.Set = codes " set"
link_flag flag.Clear = codes " clear"
link_flag flag.Prop = []

abbrev pub bracketed : Method → Flag → List ℕ
bracketed m f = codes "[" ++ (kind_text m ++ (link_flag f ++ codes "]"))

-- nothing for auto with prop
abbrev pub method_text : Method → Flag → List ℕ
method_text method.Auto flag.Prop = []
method_text method.Auto flag.Set = bracketed method.Auto flag.Set
method_text method.Auto flag.Clear = bracketed method.Auto flag.Clear
method_text method.Same f = bracketed method.Same f
method_text method.RoundRobin f = bracketed method.RoundRobin f
method_text method.Entire f = bracketed method.Entire f
method_text (method.Hash names) f = bracketed (method.Hash names) f
method_text (method.Modulus name) f = bracketed (method.Modulus name) f
method_text method.Any f = bracketed method.Any f
method_text method.Ordered f = bracketed method.Ordered f
method_text (method.Merge keys) f = bracketed (method.Merge keys) f

abbrev pub link_name : ℕ → List ℕ
link_name number = codes "k" ++ (decimal number ++ codes ".v")

-- a link of this number as an input of operator `to`, where it is one
abbrev pub input_text : ℕ → ℕ → LinkSpec → List ℕ
input_text to number l = if l.to == to then codes " < " ++ (method_text l.method l.flag ++ link_name number) else []

-- the inputs of an operator, in the order of the links, of which the first has this number
abbrev pub inputs_text : ℕ → ℕ → List LinkSpec → List ℕ
inputs_text to number [] = []
inputs_text to number (l ∷ ls) = input_text to number l ++ inputs_text to (number + 1) ls

abbrev pub leaves : ℕ → ℕ → LinkSpec → Bool
leaves from out l = (l.from == from) && (l.out == out)

abbrev pub output_text : Option ℕ → List ℕ
output_text None = []
output_text (Some number) = codes " > " ++ link_name number

-- the outputs of an operator from port `out` on, so many of them
abbrev pub outputs_from : List LinkSpec → ℕ → ℕ → ℕ → List ℕ
outputs_from links from zero out = []
outputs_from links from (suc n) out = output_text (position (leaves from out) links) ++ outputs_from links from n (out + 1)

-- the outputs of an operator by port: as many as links leave it
abbrev pub outputs_text : ℕ → List LinkSpec → List ℕ
outputs_text from links = outputs_from links from (length (filter (λ (l : LinkSpec). l.from == from) links)) 0
