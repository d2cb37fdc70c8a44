use Rattle.read_links.proofs.Numbered.{read_links_outputs, read_numbers_outputs}
use Rattle.read_links.proofs.laws.read_outputs_are_linked.Goals as goal

pub returns : goal.returns
returns c = record { numbered = read_numbers_outputs; linked = read_links_outputs }
