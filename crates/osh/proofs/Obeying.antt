-- How a call is served by what its command answers.
use Rattle.std.proofs.Common.{◌≡◌, ◌⊎◌, inl, inr, ℕ, Bool, true, List, refl, ap, sym, subst, ◌∙◌}
use Rattle.ds_port.specs.FileMap.{FileMap}
use Rattle.osh_call.specs.declared.answer.Answer.{Answer}
use Rattle.osh_call.specs.declared.answer.Answer.TheVariants as answer
use Rattle.osh_call.specs.Answers.{Serves}
use Rattle.osh_call.proofs.Serving.{halts_serve, serves_by}
use Rattle.osh_ends.specs.Ends.{End, ChecksFile, Commands, ComesTo, RunsFile}
use Rattle.osh_words.specs.declared.command.Command.{Command}
use Rattle.osh_words.specs.declared.command.Command.TheVariants as command
use Rattle.osh_words.specs.Spelled.{Spells}

pub words_serve : (words : List (List ℕ)) (old new : FileMap) (spelled : Command) (tells : Bool) (out_old out_new : List ℕ) (files_rose out_rose : Type 0) (a : Answer) → Spells words spelled
    → Serves (Commands old spelled) old new tells out_old out_new files_rose out_rose a → Serves (ComesTo words old) old new tells out_old out_new files_rose out_rose a
words_serve words old new spelled tells out_old out_new files_rose out_rose a s h =
    serves_by (Commands old spelled) (ComesTo words old) old new tells out_old out_new files_rose out_rose a (λ end c. inr (spelled, s, c)) h

pub usage_serves : (words : List (List ℕ)) (files : FileMap) (tells : Bool) (out : List ℕ) (files_rose out_rose : Type 0) → ((c : Command) → Spells words c → ⊥) → Serves (ComesTo words files) files files tells out out files_rose out_rose answer.Usage
usage_serves words files tells out files_rose out_rose h = halts_serve (ComesTo words files) files files tells out out files_rose out_rose answer.Usage (inl (h, refl)) refl refl (λ e. absurd (cc e))

pub memory_serves : (Comes : End → Type 0) (files : FileMap) (tells : Bool) (out : List ℕ) (files_rose out_rose : Type 0) → Serves Comes files files tells out out files_rose out_rose answer.Memory
memory_serves Comes files tells out files_rose out_rose = halts_serve Comes files files tells out out files_rose out_rose answer.Memory tt refl refl (λ e. absurd (cc e))

pub check_serves : (old new : FileMap) (c : Command) (name : List ℕ) (tells : Bool) (out_old out_new : List ℕ) (files_rose out_rose : Type 0) (a : Answer) → c ≡ command.Check name
    → Serves (ChecksFile old name) old new tells out_old out_new files_rose out_rose a → Serves (Commands old c) old new tells out_old out_new files_rose out_rose a
check_serves old new c name tells out_old out_new files_rose out_rose a is s = subst (λ k. Serves (Commands old k) old new tells out_old out_new files_rose out_rose a) (sym is) s

pub run_serves : (old new : FileMap) (c : Command) (serial : Bool) (cap spill : ℕ) (name config : List ℕ) (tells : Bool) (out_old out_new : List ℕ) (files_rose out_rose : Type 0) (a : Answer) → c ≡ command.Run serial cap spill name config → serial ≡ true
    → Serves (RunsFile old name config) old new tells out_old out_new files_rose out_rose a → Serves (Commands old c) old new tells out_old out_new files_rose out_rose a
run_serves old new c serial cap spill name config tells out_old out_new files_rose out_rose a is set s =
    subst (λ k. Serves (Commands old k) old new tells out_old out_new files_rose out_rose a) (sym (is ∙ ap (λ b. command.Run b cap spill name config) set)) s
