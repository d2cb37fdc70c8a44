use Rattle.flow_rules.proofs.Wrong.{not_any_keeps_sort}
use Rattle.flow_rules.proofs.Wrong.{not_joins_lie_apart}
use Rattle.flow_rules.proofs.Wrong.{not_regain_without_sort}
use Rattle.flow_rules.proofs.Wrong.{not_remdup_where_colocated}
use Rattle.flow_rules.proofs.Wrong.{not_repartition_agrees_alone}
use Rattle.flow_rules.proofs.laws.wrong_rules_fail.Goals as goal

pub returns-clause-remdup_where_colocated : goal.returns-clause-remdup_where_colocated
returns-clause-remdup_where_colocated c = not_remdup_where_colocated

pub returns-clause-repartition_agrees_alone : goal.returns-clause-repartition_agrees_alone
returns-clause-repartition_agrees_alone c = not_repartition_agrees_alone

pub returns-clause-any_keeps_sort : goal.returns-clause-any_keeps_sort
returns-clause-any_keeps_sort c = not_any_keeps_sort

pub returns-clause-joins_lie_apart : goal.returns-clause-joins_lie_apart
returns-clause-joins_lie_apart c = not_joins_lie_apart

pub returns-clause-regain_without_sort : goal.returns-clause-regain_without_sort
returns-clause-regain_without_sort c = not_regain_without_sort
