use Rattle.std.proofs.Common.{◌≡◌, ◌++◌, drop}
use Rattle.osh_print.specs.OptionText.{sets_text}
use Rattle.osh_print.proofs.options.append_sets.Given as goal

-- the text so far and the sets that are left are the text of all
abbrev pub invariant-loop-spec : goal.invariant-loop-spec
invariant-loop-spec l = l.text ++ sets_text (drop l.spec-index l.sets) ≡ l.fn.text ++ sets_text l.sets
