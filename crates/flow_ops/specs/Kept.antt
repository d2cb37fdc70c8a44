-- Rows of operators with inputs by keys, against the fields of their links; and whose faults are found between imports and exports.
use Rattle.std.specs.Prelude.{◌≡◌, ◌≤◌, ℕ, List, [], ◌∷◌, get_or, map, All}
use Rattle.std.specs.List.{AllByRecursion}
use Rattle.ds_value.specs.declared.kind.Kind.{Kind}
use Rattle.ds_value.specs.declared.kind.Kind.TheVariants as data_kind
use Rattle.ds_schema.specs.declared.schema.Field.{Field}
use Rattle.op_base.specs.declared.fault.Fault.{Fault}
use Rattle.op_base.specs.Columns.{Row, IsIn}
use Rattle.op_group.specs.declared.agg.Agg.{Agg}
use Rattle.op_group.specs.declared.agg.Agg.TheVariants.{Sum, Count, Min, Max, First, Last}
use Rattle.flow_graph.specs.declared.op_kind.OpKind.{OpKind}
use Rattle.flow_graph.specs.declared.op_kind.OpKind.TheVariants as kind
use Rattle.flow_graph.specs.Charts.{Chart, link_at, links_from, links_into}
use Rattle.flow_graph.specs.Fitting.{FitsFields}
use Rattle.flow_graph.specs.Operators.{Op}
use Rattle.flow_graph.specs.Runs.{result_on}

-- each list has rows that fit the fields of its input
abbrev pub InputsFit : List (List Field) → List (List Row) → Type 0
InputsFit [] [] = Unit {0}
InputsFit (fields ∷ more) (rows ∷ inputs) = All (FitsFields fields) rows × InputsFit more inputs
InputsFit fields inputs = ⊥

-- the fields of an operator's inputs, by port
abbrev pub fields_into : Chart → ℕ → List (List Field)
fields_into c o = map (λ l. get_or c.schemas l []) (links_into c o)

-- what a partition of the operator gives of rows that fit its inputs fits the fields of each link that leaves it
abbrev pub GivesFields : Chart → ℕ → Op → Type 0
GivesFields c o op = (l : ℕ) → IsIn l (links_from c o) → (inputs : List (List Row)) → InputsFit (fields_into c o) inputs → AllByRecursion (FitsFields (get_or c.schemas l [])) (result_on op (link_at c l).out 0 inputs)

-- whole numbers can be summed, and decimals of at most 18 digits
abbrev pub CanBeSummed : Kind → Type 0
CanBeSummed (data_kind.Int bits) = Unit {0}
CanBeSummed (data_kind.UInt bits) = Unit {0}
CanBeSummed (data_kind.Dec p s) = p ≤ 18
CanBeSummed (data_kind.Text max fixed) = ⊥
CanBeSummed data_kind.Date = ⊥

-- each column that is summed is one of these fields whose kind can be summed
abbrev pub SumsFit : List Field → Agg → Type 0
SumsFit fields (Sum col) = (field : Field) → get_or (map (λ (f : Field). f ∷ []) fields) col [] ≡ field ∷ [] → CanBeSummed field.kind
SumsFit fields Count = Unit {0}
SumsFit fields (Min col) = Unit {0}
SumsFit fields (Max col) = Unit {0}
SumsFit fields (First col) = Unit {0}
SumsFit fields (Last col) = Unit {0}

-- what is found, where an operator is neither an import nor an export
abbrev pub if_between : OpKind → List Fault → List Fault
if_between (kind.Import file schema delim fixed reject) found = []
if_between (kind.Export file delim fixed) found = []
if_between k found = found
