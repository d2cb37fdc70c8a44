-- The link into an export, which has columns.
use Rattle.std.proofs.Common.{◌<◌, ◌^◌, ℕ, List, length, subst, sym, arith}
use Rattle.std.specs.List.{AllByRecursion}
use Rattle.op_base.specs.Columns.{Row}
use Rattle.flow_files.specs.Lines.{AllFit}
use Rattle.flow_graph.specs.declared.op_kind.OpKind.{OpKind}
use Rattle.flow_graph.specs.declared.op_kind.OpKind.TheVariants as kind
use Rattle.flow_graph.specs.Charts.{Chart, op_at}
use Rattle.flow_graph.specs.FlowShape.{IsShape}
use Rattle.flow_sound.proofs.Keeping.{export_link}
use Rattle.flow_rules.specs.Exports.{IsExport, input_of}
use Rattle.osh_ends.specs.FlowFiles.{fields_of}
use Rattle.osh_ends.proofs.Forms.{FormSuits}
use Rattle.run_finish.specs.Written.{CanWrite, CanWriteAll, sink_at}

pub input_there : (c : Chart) (o : ℕ) → IsShape c → o < length c.flow.ops → IsExport (op_at c o).kind → input_of c o < length c.schemas
input_there c o s b e = subst (λ n. input_of c o < n) (sym s.lists.schemas) (export_link c o s b e)

pub input_few : (c : Chart) (o : ℕ) → IsShape c → o < length c.flow.ops → IsExport (op_at c o).kind → input_of c o < 2 ^ 32
input_few c o s b e = let l = export_link c o s b e in let few = s.few_links in omega (arith, l, few)

can_write : (c : Chart) (o : ℕ) (parts : List (List Row)) (k : OpKind) → FormSuits c o k → (IsExport k → AllByRecursion (AllFit (fields_of c (input_of c o))) parts) → CanWrite c o parts k
can_write c o parts (kind.Export file delim fixed) form fit = (form, fit tt)
can_write c o parts k form fit = tt

-- forms that suit their columns, and rows that fit the inputs of the exports
pub can_write_all : (c : Chart) (sinks : List (List (List Row))) → ((o : ℕ) → o < length c.flow.ops → FormSuits c o (op_at c o).kind) → ((o : ℕ) → o < length c.flow.ops → IsExport (op_at c o).kind → AllByRecursion (AllFit (fields_of c (input_of c o))) (sink_at sinks o)) → CanWriteAll c sinks
can_write_all c sinks forms fit o b = can_write c o (sink_at sinks o) (op_at c o).kind (forms o b) (fit o b)
