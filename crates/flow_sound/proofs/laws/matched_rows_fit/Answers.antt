use Rattle.flow_sound.proofs.MatchedRows.{changes_fit, funnels_fit, merges_fit}
use Rattle.flow_sound.proofs.laws.matched_rows_fit.Goals as goal

pub returns-clause-merges : goal.returns-clause-merges
returns-clause-merges c = merges_fit

pub returns-clause-changes : goal.returns-clause-changes
returns-clause-changes c = changes_fit

pub returns-clause-funnels : goal.returns-clause-funnels
returns-clause-funnels c = funnels_fit
