use Rattle.std.proofs.Common.{◌++◌, [], ◌∙◌, ap}
use Rattle.flow_graph.specs.Columns.{set_of}
use Rattle.flow_graph.proofs.ColumnSets.{is_set, set_alone, set_onto}
use Rattle.flow_graph.proofs.columns.ColSet.with.Goals as goal

pub insert_all-requires-2 : goal.insert_all-requires-2
insert_all-requires-2 c = is_set c.insert_all.new.found.items (c.args.columns.now ++ c.new-found.result.items) c.in_ok-insert_all.ensures

pub invariant_of-result : goal.invariant_of-result
invariant_of-result c = is_set c.insert_all-2.new.found.items (c.as_slice.result.now ++ c.insert_all.new.found.items) c.in_ok-insert_all-2.ensures

pub returns : goal.returns
returns c =
    c.in_ok-insert_all-2.ensures
    ∙ ap (λ cs. set_of (cs ++ c.insert_all.new.found.items)) (c.as_slice.ensures.value ∙ c.self.view_is)
    ∙ ap (λ ds. set_of (c.args.self.now ++ ds)) (c.in_ok-insert_all.ensures ∙ ap (λ ds. set_of (c.args.columns.now ++ ds)) c.new-found.ensures.items ∙ set_alone c.args.columns.now)
    ∙ set_onto c.args.self.now c.args.columns.now
