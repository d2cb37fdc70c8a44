use Rattle.flow_graph.specs.Operators.{import, dsread, by_row, tsort, remdup, group, join, merge, lookup, changecapture, funnel, funnel_sequence, funnel_sort}
use Rattle.flow_rules.proofs.LawProofs.{operator_holds}
use Rattle.flow_rules.proofs.laws.operators_keep.Goals as goal

pub returns-clause-import : goal.returns-clause-import
returns-clause-import c = λ lines rejects beyond. operator_holds (import lines rejects beyond)

pub returns-clause-dsread : goal.returns-clause-dsread
returns-clause-dsread c = λ segments declared. operator_holds (dsread segments declared)

pub returns-clause-by_row : goal.returns-clause-by_row
returns-clause-by_row c = λ rule. operator_holds (by_row rule)

pub returns-clause-tsort : goal.returns-clause-tsort
returns-clause-tsort c = λ keys. operator_holds (tsort keys)

pub returns-clause-remdup : goal.returns-clause-remdup
returns-clause-remdup c = λ last keys. operator_holds (remdup last keys)

pub returns-clause-group : goal.returns-clause-group
returns-clause-group c = λ g. operator_holds (group g)

pub returns-clause-join : goal.returns-clause-join
returns-clause-join c = λ j. operator_holds (join j)

pub returns-clause-merge : goal.returns-clause-merge
returns-clause-merge c = λ m. operator_holds (merge m)

pub returns-clause-lookup : goal.returns-clause-lookup
returns-clause-lookup c = λ k. operator_holds (lookup k)

pub returns-clause-changecapture : goal.returns-clause-changecapture
returns-clause-changecapture c = λ f. operator_holds (changecapture f)

pub returns-clause-funnel : goal.returns-clause-funnel
returns-clause-funnel c = operator_holds funnel

pub returns-clause-funnel_sequence : goal.returns-clause-funnel_sequence
returns-clause-funnel_sequence c = operator_holds funnel_sequence

pub returns-clause-funnel_sort : goal.returns-clause-funnel_sort
returns-clause-funnel_sort c = λ keys. operator_holds (funnel_sort keys)
