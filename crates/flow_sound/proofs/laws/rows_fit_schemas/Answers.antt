use Rattle.flow_sound.proofs.RowsFitting.{exports_fit, meaning_fits}
use Rattle.flow_sound.proofs.laws.rows_fit_schemas.Goals as goal

pub returns-clause-meaning : goal.returns-clause-meaning
returns-clause-meaning c = meaning_fits

pub returns-clause-exports : goal.returns-clause-exports
returns-clause-exports c = exports_fit
