-- What the status of an answer decides of out and err.
use Rattle.std.proofs.Common.{◌≡◌, ◌⊎◌, inl, inr, ℕ, IsTrue, List, sym, subst, refl}
use Rattle.osh_call.specs.declared.answer.Answer.{Answer}
use Rattle.osh_call.specs.declared.answer.Answer.TheVariants as answer
use Rattle.osh_call.specs.Answers.{IsSilent}
use Rattle.osh_call.specs.Saying.{err_line, answer_status, IsMade, SaidAs}
use Rattle.osh_ends.specs.Leaves.{Tells}
use Rattle.osh.specs.Calls.{Object}
use Rattle.osh.specs.Says.{IsLineOf, success, usage, flow, configuration, shape, degree, players, missing, unbuilt, device, memory, MayPrint, Says}

line_of : (a : Answer) → IsLineOf (answer_status a) (err_line a)
line_of answer.Usage = usage refl refl
line_of answer.Unbuilt = unbuilt refl refl
line_of (answer.BadFlow at why) = flow at why refl refl
line_of (answer.BadConfig at why) = configuration at why refl refl
line_of (answer.BadShape why op) = shape why op refl refl
line_of (answer.Absent name) = missing name refl refl
line_of answer.Refused = success (inr (inl refl)) refl
line_of answer.Checked = success (inl refl) refl
line_of (answer.Mismatch link from to) = degree link from to refl refl
line_of (answer.Crowded n) = players n refl refl
line_of answer.Done = success (inl refl) refl
line_of answer.Faulty = success (inr (inr refl)) refl
line_of answer.Device = device refl refl
line_of answer.Memory = memory refl refl

-- out may have something, or the answer is one where nothing is printed
silent_else : (a : Answer) → MayPrint (answer_status a) ⊎ IsSilent a
silent_else answer.Usage = inr tt
silent_else answer.Unbuilt = inr tt
silent_else (answer.BadFlow at why) = inr tt
silent_else (answer.BadConfig at why) = inr tt
silent_else (answer.BadShape why op) = inr tt
silent_else (answer.Absent name) = inr tt
silent_else answer.Refused = inl (inr (inl refl))
silent_else answer.Checked = inl (inl refl)
silent_else (answer.Mismatch link from to) = inr tt
silent_else (answer.Crowded n) = inr tt
silent_else answer.Done = inl (inl refl)
silent_else answer.Faulty = inl (inr (inr (inl refl)))
silent_else answer.Device = inl (inr (inr (inr refl)))
silent_else answer.Memory = inr tt

-- nothing is printed where the line has to be made
made_silent : (a : Answer) → IsMade a → IsSilent a
made_silent (answer.BadFlow at why) m = tt
made_silent (answer.BadConfig at why) m = tt
made_silent (answer.BadShape why op) m = tt
made_silent (answer.Absent name) m = tt
made_silent (answer.Mismatch link from to) m = tt
made_silent (answer.Crowded n) m = tt
made_silent answer.Usage m = absurd m
made_silent answer.Unbuilt m = absurd m
made_silent answer.Refused m = absurd m
made_silent answer.Checked m = absurd m
made_silent answer.Done m = absurd m
made_silent answer.Faulty m = absurd m
made_silent answer.Device m = absurd m
made_silent answer.Memory m = absurd m

-- where what is said is silent, so was the answer
said_silent : (a said : Answer) → SaidAs a said → IsSilent said → IsSilent a
said_silent a said (inl e) s = subst IsSilent e s
said_silent a said (inr e) s = made_silent a e.1

or_else : {P Q : Type 0} → P ⊎ Q → (P → ⊥) → Q
or_else (inl p) h = absurd (h p)
or_else (inr q) h = q

pub said_says : (a said : Answer) (status : ℕ) (out err : Object (List ℕ)) → SaidAs a said → status ≡ answer_status said → (IsSilent a → out.new ≡ out.old)
    → (IsTrue err.tells → Tells (err_line said) err.before err.now err.old err.new) → Says status out err
said_says a said status out err s is silent told = record {
  text = err_line said;
  is = subst (λ n. IsLineOf n (err_line said)) (sym is) (line_of said);
  told = told;
  kept = λ h. silent (said_silent a said s (or_else (silent_else said) (λ m. h (subst MayPrint (sym is) m))));
}
