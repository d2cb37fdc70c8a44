-- What the words alone decide of an answer and its status.
use Rattle.std.proofs.Common.{◌≡◌, ◌⊎◌, ◌∙◌, inl, inr, ℕ, Bool, true, List, ap, sym, subst, refl, arith}
use Rattle.osh_call.specs.declared.answer.Answer.{Answer}
use Rattle.osh_call.specs.declared.answer.Answer.TheVariants as answer
use Rattle.osh_call.specs.Answers.{IsOfCommand}
use Rattle.osh_call.specs.Saying.{answer_status, IsMade, SaidAs}
use Rattle.osh_words.specs.declared.command.Command.{Command}
use Rattle.osh_words.specs.declared.command.Command.TheVariants as command
use Rattle.osh_words.specs.Spelled.{Spells}
use Rattle.osh_words.proofs.Sound.{one_command}
use Rattle.osh.specs.Calls.{IsNoCommand, IsUnbuilt, WordsDecide}

-- the answer of a command isn't that the words are none
pub no_usage : (P : Type 0) (a : Answer) → IsOfCommand a → a ≡ answer.Usage → P
no_usage P a h e = absurd (subst IsOfCommand e h)

-- words that spell a command that isn't built spell no other
pub unbuilt_by : (words : List (List ℕ)) (spelled c : Command) (a : Answer) → Spells words spelled → (IsUnbuilt spelled → a ≡ answer.Unbuilt) → Spells words c → IsUnbuilt c → (a ≡ answer.Unbuilt) ⊎ (a ≡ answer.Memory)
unbuilt_by words spelled c a s f t u = inl (f (subst IsUnbuilt (one_command words c spelled t s) u))

-- commands that are built
pub check_built : (P : Type 0) (c : Command) (flow : List ℕ) → c ≡ command.Check flow → IsUnbuilt c → P
check_built P c flow is u = absurd (subst IsUnbuilt is u)

pub run_built : (P : Type 0) (c : Command) (serial : Bool) (cap spill : ℕ) (flow config : List ℕ) → c ≡ command.Run serial cap spill flow config → serial ≡ true → IsUnbuilt c → P
run_built P c serial cap spill flow config is set u = absurd (subst IsUnbuilt (is ∙ ap (λ b. command.Run b cap spill flow config) set) u)

is_usage : (a : Answer) → answer_status a ≡ 1 → a ≡ answer.Usage
is_usage answer.Usage h = refl
is_usage answer.Unbuilt h = absurd (omega (arith, h))
is_usage (answer.BadFlow at why) h = absurd (omega (arith, h))
is_usage (answer.BadConfig at why) h = absurd (omega (arith, h))
is_usage (answer.BadShape why op) h = absurd (omega (arith, h))
is_usage (answer.Absent name) h = absurd (omega (arith, h))
is_usage answer.Refused h = absurd (omega (arith, h))
is_usage answer.Checked h = absurd (omega (arith, h))
is_usage (answer.Mismatch link from to) h = absurd (omega (arith, h))
is_usage (answer.Crowded players) h = absurd (omega (arith, h))
is_usage answer.Done h = absurd (omega (arith, h))
is_usage answer.Faulty h = absurd (omega (arith, h))
is_usage answer.Device h = absurd (omega (arith, h))
is_usage answer.Memory h = absurd (omega (arith, h))

-- words of no command are said as they were answered
said_usage : (a said : Answer) → SaidAs a said → said ≡ answer.Usage → a ≡ answer.Usage
said_usage a said (inl e) h = sym e ∙ h
said_usage a said (inr e) h = let same : answer.Memory ≡ answer.Usage = sym (e.0) ∙ h in absurd (cc same)

-- the status of an answer whose line hasn't to be made
plain_status : (a b said : Answer) (status : ℕ) → (IsMade b → ⊥) → a ≡ b → SaidAs a said → status ≡ answer_status said → status ≡ answer_status b
plain_status a b said status plain e (inl s) is = is ∙ ap answer_status (s ∙ e)
plain_status a b said status plain e (inr s) is = absurd (plain (subst IsMade e s.1))

or_memory : (a b said : Answer) (status : ℕ) → (IsMade b → ⊥) → (a ≡ b) ⊎ (a ≡ answer.Memory) → SaidAs a said → status ≡ answer_status said → (status ≡ answer_status b) ⊎ (status ≡ 12)
or_memory a b said status plain (inl e) s is = inl (plain_status a b said status plain e s is)
or_memory a b said status plain (inr e) s is = inr (plain_status a answer.Memory said status (λ m. m) e s is)

pub words_decide : (words : List (List ℕ)) (a said : Answer) (status : ℕ) → (IsNoCommand words → (a ≡ answer.Usage) ⊎ (a ≡ answer.Memory)) → (a ≡ answer.Usage → IsNoCommand words)
    → ((c : Command) → Spells words c → IsUnbuilt c → (a ≡ answer.Unbuilt) ⊎ (a ≡ answer.Memory)) → SaidAs a said → status ≡ answer_status said → WordsDecide words status
words_decide words a said status none only unbuilt s is = record {
  usage = λ n. or_memory a answer.Usage said status (λ m. m) (none n) s is;
  only = λ one. only (said_usage a said s (is_usage said (sym is ∙ one)));
  unbuilt = λ c t u. or_memory a answer.Unbuilt said status (λ m. m) (unbuilt c t u) s is;
}
