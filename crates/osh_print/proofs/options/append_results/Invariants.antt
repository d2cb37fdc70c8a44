use Rattle.std.proofs.Common.{◌≡◌, ◌++◌, drop}
use Rattle.osh_print.specs.OptionText.{results_text}
use Rattle.osh_print.proofs.options.append_results.Given as goal

-- the text so far and the results that are left are the text of all
abbrev pub invariant-loop-spec : goal.invariant-loop-spec
invariant-loop-spec l = l.text ++ results_text (drop l.spec-index l.results) ≡ l.fn.text ++ results_text l.results
