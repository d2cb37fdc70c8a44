use Rattle.ds_lex.specs.declared.token.Mode.TheVariants.{Osh}
use Rattle.ds_lex.specs.Lexemes.{limited_text}
use Rattle.osh_sound.proofs.FlowsHold.{text_holds}
use Rattle.osh_sound.proofs.FlowsKeep.{spelled_forms, spelled_joined, spelled_keeps}
use Rattle.osh_sound.proofs.flows_can_be_shaped.Goals as goal

pub returns-clause-joined : goal.returns-clause-joined
returns-clause-joined c = λ bytes flow h. spelled_joined (limited_text Osh bytes).lexemes flow (text_holds bytes flow h).tokens

pub returns-clause-marks : goal.returns-clause-marks
returns-clause-marks c = λ bytes flow h. spelled_keeps (limited_text Osh bytes).lexemes flow (text_holds bytes flow h).tokens

pub returns-clause-forms : goal.returns-clause-forms
returns-clause-forms c = λ bytes flow h. spelled_forms (limited_text Osh bytes).lexemes flow (text_holds bytes flow h).tokens
