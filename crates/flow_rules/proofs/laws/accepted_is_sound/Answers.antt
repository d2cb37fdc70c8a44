use Rattle.flow_rules.proofs.VerdictLaws.{accepted_derives, accepted_meets, accepted_inserts}
use Rattle.flow_rules.proofs.laws.accepted_is_sound.Goals as goal

pub returns : goal.returns
returns c = λ regains chart states choices ops s p f. record { inserted = accepted_inserts chart ops; derives = accepted_derives regains chart states choices ops s f; accepted = accepted_meets regains chart states choices ops s p f }
