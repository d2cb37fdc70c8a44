-- The forms of the files of a flow suit their columns.
use Rattle.std.proofs.Common.{◌≡◌, ◌<◌, ℕ, List, [], length, get_or, Option, Some, None, subst, arith}
use Rattle.std.specs.List.{AllByRecursion}
use Rattle.ds_text.specs.Forms.{FormFits, IsWidth}
use Rattle.ds_schema.specs.declared.key.Key.{Key}
use Rattle.flow_graph.specs.Charts.{Chart, cols_at, first_width, keys_at, kind_form, links_into, no_op, op_at}
use Rattle.flow_graph.specs.FlowShape.{FormPorts, IsShape}
use Rattle.flow_graph.specs.declared.flow.OpSpec.{OpSpec}
use Rattle.flow_graph.specs.declared.op_kind.OpKind.{OpKind}
use Rattle.flow_graph.specs.declared.op_kind.OpKind.TheVariants as kind
use Rattle.flow_graph.specs.declared.parts.Stored.{Stored}
use Rattle.shape_base.specs.Causes.{first_cause}
use Rattle.shape_base.specs.Fields.{first_fields}
use Rattle.op_shape.specs.Options.{option_causes}
use Rattle.flow_shape.specs.Refusals.{IsShapeOf, fields_at, inputs_at}
use Rattle.flow_shape.proofs.Causing.{all_at}
use Rattle.flow_shape.proofs.Holding.{first_of}
use Rattle.flow_rules.specs.Exports.{IsExport, input_of}
use Rattle.osh_ends.specs.FlowFiles.{fields_of, form}
use Rattle.osh_ends.proofs.Forms.{FormSuits, form_fits, options_sound}
use Rattle.osh_sound.specs.Sound.{AreWidths, FormStands, KeepsForms}
use Rattle.run_feed.specs.Sources.{CanRead}

-- the columns that lead into an export are those of its first input
exported : (c : Chart) (o : ℕ) (k : OpKind) (keys : List (List Key)) (columns : List ℕ) (stored : Option Stored) (width : ℕ) → FormPorts (kind_form k keys columns stored width) (length (links_into c o)) → IsExport k → first_fields (inputs_at c o) ≡ fields_of c (input_of c o)
exported c o (kind.Export file delim fixed) keys columns stored width ports e = first_of (fields_at c) (links_into c o) [] 0 (omega (arith, ports))
exported c o k keys columns stored width ports e = absurd e

widths_stand : (fixed : Option (List ℕ)) → AreWidths fixed → (widths : List ℕ) → fixed ≡ Some widths → AllByRecursion IsWidth widths
widths_stand fixed h widths e = subst AreWidths e h

suits_by : (c : Chart) (o : ℕ) (k : OpKind) → (IsExport k → first_fields (inputs_at c o) ≡ fields_of c (input_of c o)) → FormStands k → first_cause (option_causes k (inputs_at c o)) ≡ None → FormSuits c o k
suits_by c o (kind.Import file schema delim fixed reject) e h n = form_fits schema delim fixed h.0 (widths_stand fixed h.1) n
suits_by c o (kind.Export file delim fixed) e h n = subst (λ fields. FormFits fields (form delim fixed)) (e tt) (form_fits (first_fields (inputs_at c o)) delim fixed h.0 (widths_stand fixed h.1) n)
suits_by c o k e h n = tt

pub forms_suit : (c : Chart) → IsShape c → IsShapeOf c.flow [] c → KeepsForms c.flow → (o : ℕ) → o < length c.flow.ops → FormSuits c o (op_at c o).kind
forms_suit c s f h o b =
    suits_by c o (op_at c o).kind (exported c o (op_at c o).kind (keys_at c o) (cols_at c o) (get_or c.stored o None) (first_width c o) (s.ops o b).inputs)
    (all_at (λ (p : OpSpec). FormStands p.kind) c.flow.ops o no_op h b) (options_sound c o (f.schemas.fits o b))

read_by : (c : Chart) (o : ℕ) (k : OpKind) → FormSuits c o k → CanRead k
read_by c o (kind.Import file schema delim fixed reject) h = h
read_by c o k h = tt

pub can_read : (c : Chart) → IsShape c → IsShapeOf c.flow [] c → KeepsForms c.flow → (o : ℕ) → o < length c.flow.ops → CanRead (op_at c o).kind
can_read c s f h o b = read_by c o (op_at c o).kind (forms_suit c s f h o b)
