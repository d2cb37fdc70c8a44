use Rattle.std.proofs.Common.{◌≡◌, ◌-◌, map, string_bytes}
use Rattle.osh_words.specs.Read.{after_options, no_options}
use Rattle.osh_words.proofs.options.leading_options.Given as goal

-- the options that may still come lead to the same end
abbrev pub invariant-loop : goal.invariant-loop
invariant-loop l = after_options (3 - l.counter) l.options (map string_bytes l.rest) ≡ after_options 3 no_options (map string_bytes l.words)
