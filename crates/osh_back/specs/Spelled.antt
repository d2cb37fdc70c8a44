-- Which flows can be spelled.
use Rattle.std.specs.Prelude.{◌≡◌, ◌≤◌, ◌<◌, ◌+◌, ◌==◌, ◌||◌, ℕ, true, false, List, [], ◌∷◌, length, filter, Option, Some, None}
use Rattle.std.specs.List.{AllByRecursion}
use Rattle.ds_value.specs.Names.{IsName}
use Rattle.ds_lex.specs.Pieces.{is_text_byte}
use Rattle.ds_schema.specs.Schemas.{IsField, IsSchema}
use Rattle.flow_graph.specs.declared.flow.Method.{Method}
use Rattle.flow_graph.specs.declared.flow.Method.TheVariants as method
use Rattle.flow_graph.specs.declared.flow.LinkSpec.{LinkSpec}
use Rattle.flow_graph.specs.declared.flow.OpSpec.{OpSpec}
use Rattle.flow_graph.specs.declared.flow.Flow.{Flow}
use Rattle.flow_graph.specs.declared.op_kind.SetSpec.{SetSpec}
use Rattle.flow_graph.specs.declared.op_kind.OpKind.{OpKind}
use Rattle.flow_graph.specs.declared.op_kind.OpKind.TheVariants as kind
use Rattle.osh_print.specs.LinkText.{leaves}
use Rattle.osh_sound.specs.Sound.{MarkFits}
use Rattle.osh_sound.specs.ValueLaws.{IsColumn, IsResult, IsExpression, AreWidths, ArePairs, AreCases, AreColumns, AreKeys}
use Rattle.osh_sound.specs.OptionLaws.{IsQuotable}

-- ---- operators

-- a list that isn't written, or one that can be
abbrev pub Maybe : {A : Type 0} → (List A → Type 0) → List A → Type 0
Maybe Fits [] = Unit {0}
Maybe Fits (x ∷ xs) = Fits (x ∷ xs)

-- a byte that a value in quotes can have, and no end of a line and no quote
pub record IsDelimiter (b : ℕ) : Type 0 where
  pub text : is_text_byte b ≡ true
  pub other : ((b == 10) || (b == 13) || (b == 34)) ≡ false

-- a delimiter, or widths, where the delimiter stays the comma
abbrev pub FormFits : ℕ → Option (List ℕ) → Type 0
FormFits delim None = IsDelimiter delim
FormFits delim (Some widths) = (delim ≡ 44) × AreWidths widths

-- segments have the name of their data set and a number, so the name is shorter than others
pub record IsDataSet (name : List ℕ) : Type 0 where
  pub named : IsName name
  pub short : length name ≤ 252

-- columns to keep, or columns to drop, or neither
abbrev pub KeepsOrDrops : List (List ℕ) → List (List ℕ) → Type 0
KeepsOrDrops [] drop = Maybe AreColumns drop
KeepsOrDrops (name ∷ keep) drop = AreColumns (name ∷ keep) × (drop ≡ [])

-- what is kept of an expression, which can stand between quotes
abbrev pub ExpressionFits : List ℕ → Type 0
ExpressionFits kept = IsExpression kept × IsQuotable kept

abbrev pub SetFits : SetSpec → Type 0
SetFits s = IsField s.field × ExpressionFits s.expr

-- the options of an operator have their forms, those that it must have are there, and none excludes another
abbrev pub KindFits : OpKind → Type 0
KindFits (kind.Import file schema delim fixed reject) = IsName file × IsSchema schema × FormFits delim fixed
KindFits (kind.Export file delim fixed) = IsName file × FormFits delim fixed
KindFits (kind.Dsread ds) = IsDataSet ds
KindFits (kind.Dswrite ds) = IsDataSet ds
KindFits kind.Copy = Unit {0}
KindFits (kind.Filter test reject) = ExpressionFits test
KindFits (kind.Transform set reject) = (1 ≤ length set) × AllByRecursion SetFits set
KindFits (kind.Switch on cases reject) = ExpressionFits on × AreCases cases
KindFits (kind.Modify keep drop rename) = KeepsOrDrops keep drop × Maybe ArePairs rename × (1 ≤ length keep + length drop + length rename)
KindFits (kind.Tsort key) = AreKeys key
KindFits (kind.Remdup key last) = AreKeys key
KindFits (kind.Group key hash results) = Maybe AreKeys key × AllByRecursion IsResult results
KindFits (kind.InnerJoin key) = AreKeys key
KindFits (kind.LeftOuterJoin key) = AreKeys key
KindFits (kind.RightOuterJoin key) = AreKeys key
KindFits (kind.FullOuterJoin key) = AreKeys key
KindFits (kind.Merge key keepbad reject) = AreKeys key
KindFits (kind.Lookup key missing) = AreKeys key
KindFits (kind.Changecapture key values keepcopy) = AreKeys key × Maybe AreColumns values
KindFits (kind.Funnel true sort) = sort ≡ []
KindFits (kind.Funnel false sort) = Maybe AreKeys sort

abbrev pub OpFits : OpSpec → Type 0
OpFits o = KindFits o.kind × MarkFits o.kind o.mark

-- ---- links

-- the keys of a method are those that its kind takes
abbrev pub MethodFits : Method → Type 0
MethodFits (method.Hash names) = AreColumns names
MethodFits (method.Modulus name) = IsColumn name
MethodFits (method.Merge keys) = AreKeys keys
MethodFits other = Unit {0}

-- consumers don't descend
abbrev pub ByConsumer : ℕ → List LinkSpec → Type 0
ByConsumer to [] = Unit {0}
ByConsumer to (l ∷ links) = (to ≤ l.to) × ByConsumer l.to links

-- the input ports are these, one after the other
abbrev pub InPorts : ℕ → List LinkSpec → Type 0
InPorts port [] = Unit {0}
InPorts port (l ∷ links) = (l.port ≡ port) × InPorts (port + 1) links

-- the output ports of an operator: each below this number is on one link, and no other is on any
pub record HasOutputs (links : List LinkSpec) (from : ℕ) : Type 0 where
  pub ports : ℕ
  pub each : (out : ℕ) → out < ports → length (filter (leaves from out) links) ≡ 1
  pub none : (out : ℕ) → ports ≤ out → length (filter (leaves from out) links) ≡ 0

-- Links run between these operators. They are numbered by consumer, then by its input port, and the ports of each operator are
-- numbered from 0 without a gap, each on one link.
pub record AreLinked (operators : ℕ) (links : List LinkSpec) : Type 0 where
  pub within : AllByRecursion (λ (l : LinkSpec). (l.from < operators) × (l.to < operators)) links
  pub ordered : ByConsumer 0 links
  pub inputs : (to : ℕ) → InPorts 0 (filter (λ (l : LinkSpec). l.to == to) links)
  pub outputs : (from : ℕ) → HasOutputs links from
  pub methods : AllByRecursion (λ (l : LinkSpec). MethodFits l.method) links

-- ---- flows

pub record CanBeSpelled (flow : Flow) : Type 0 where
  pub some : 1 ≤ length flow.ops
  pub few : length flow.ops ≤ 200
  pub operators : AllByRecursion OpFits flow.ops
  pub links : AreLinked (length flow.ops) flow.links
