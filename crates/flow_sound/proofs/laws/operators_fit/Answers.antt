use Rattle.flow_sound.proofs.Fitting.{forms_fit, operators_fit}
use Rattle.flow_sound.proofs.laws.operators_fit.Goals as goal

pub returns-clause-forms : goal.returns-clause-forms
returns-clause-forms c = forms_fit

pub returns-clause-shapes : goal.returns-clause-shapes
returns-clause-shapes c = operators_fit
