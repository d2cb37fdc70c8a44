use Rattle.std.proofs.Common.{◌≡◌, ◌≢◌, ◌-◌, ◌+◌, ℕ, zero, suc, List, refl, ◌∙◌, arith}
use Rattle.osh_words.specs.declared.options.Options.{Options}
use Rattle.osh_words.specs.Read.{after_option, after_options}
use Rattle.osh_words.proofs.options.leading_options.Goals as goal

one_less : (n : ℕ) (o p : Options) (words rest : List (List ℕ)) → n ≢ 0 → (p, rest) ≡ after_option o words → after_options (n - 1) p rest ≡ after_options n o words
one_less zero o p words rest h e = absurd (h refl)
one_less (suc n) o p words rest h e = let k : suc n - 1 ≡ n = omega arith in rw (k, ← e) refl

pub loop-preserved : goal.loop-preserved
loop-preserved c =
    let ne : 3 - c.loop.counter ≢ 0 = omega arith in
    let k : 3 - (c.loop.counter + 1) ≡ 3 - c.loop.counter - 1 = omega arith in
    rw k (one_less _ _ _ _ _ ne c.after_option.ensures ∙ c.loop.invariant)
