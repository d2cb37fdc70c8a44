use Rattle.osh_sound.proofs.OptionsPrinted.{options_printed}
use Rattle.osh_sound.proofs.options_are_printed.Goals as goal

pub returns : goal.returns
returns c = options_printed
