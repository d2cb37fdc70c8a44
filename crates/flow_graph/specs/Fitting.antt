-- Rows against the fields of their links.
use Rattle.std.specs.Prelude.{◌≡◌, ℕ, true, List, [], get_or, All}
use Rattle.std.specs.List.{AllByRecursion}
use Rattle.ds_value.specs.Canonical.{IsShort}
use Rattle.ds_schema.specs.declared.schema.Field.{Field}
use Rattle.ds_schema.specs.Schemas.{row_fits}
use Rattle.op_base.specs.Columns.{Row, IsIn}
use Rattle.flow_graph.specs.Charts.{Chart, op_at, parts_of, first_fields, link_at, links_from}
use Rattle.flow_graph.specs.RowRules.{row_rule}

-- a row fits its fields, and its texts are short
abbrev pub FitsFields : List Field → Row → Type 0
FitsFields fields r = (row_fits fields r ≡ true) × All IsShort r

-- each link that leaves an operator has the fields of its input
abbrev pub PassesFields : Chart → ℕ → Type 0
PassesFields c o = (l : ℕ) → IsIn l (links_from c o) → get_or c.schemas l [] ≡ first_fields c o

-- what an operator by rows makes of a row that fits its input fits the fields of each link that leaves it
abbrev pub KeepsFields : Chart → ℕ → Type 0
KeepsFields c o = (l : ℕ) → IsIn l (links_from c o) → (r : Row) → FitsFields (first_fields c o) r → AllByRecursion (FitsFields (get_or c.schemas l [])) ((row_rule o (op_at c o).kind (parts_of c o)).rows (link_at c l).out r)
