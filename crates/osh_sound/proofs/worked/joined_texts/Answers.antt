use Rattle.osh_sound.proofs.WorkedTexts as w
use Rattle.osh_sound.proofs.worked.joined_texts.Goals as goal

pub returns-clause-numbered : goal.returns-clause-numbered
returns-clause-numbered c = w.links_numbered

pub returns-clause-set_is_auto : goal.returns-clause-set_is_auto
returns-clause-set_is_auto c = w.set_is_auto
