-- A step of reading stages.
use Rattle.std.proofs.Common.{◌≡◌, ◌≢◌, ◌-◌, ◌++◌, ◌∷◌, [], ℕ, zero, suc, List, Result, Ok, Err, Option, Some, None, Bool, length, refl, ap, sym, ◌∙◌, arith}
use Rattle.ds_lex.specs.declared.refusal.Refusal.TheVariants as refusal
use Rattle.ds_lex.specs.declared.refusal.Stop.{Stop}
use Rattle.ds_lex.specs.declared.refusal.Stop.TheVariants as stop
use Rattle.ds_lex.specs.Lexemes.{Lexeme}
use Rattle.ds_lex.specs.Reading.{◌>>=◌, Fails}
use Rattle.ds_lex.proofs.Readers.{fails_bind}
use Rattle.osh_read.specs.declared.fault.OshWhy.{OshWhy}
use Rattle.osh_read.specs.declared.stage.Joint.{Joint}
use Rattle.osh_read.specs.declared.stage.Stage.{Stage}
use Rattle.osh_read.specs.Reading.{if_comes}
use Rattle.osh_read.specs.Stages.{stage_at, joint_at, stages_at}

pub stages_none : (n : ℕ) (cut : Bool) (joined : Joint) (found : List Stage) (ts : List Lexeme) → n ≡ 0 → stages_at n cut joined found ts ≡ Err refusal.AtEnd
unfolding stages_at
stages_none zero cut joined found ts h = refl
stages_none (suc n) cut joined found ts h = absurd (omega arith)

more : (n : ℕ) (cut : Bool) (joined : Joint) (found : List Stage) (ts : List Lexeme) → n ≢ 0
    → stages_at n cut joined found ts ≡ (stage_at (length found) cut joined ts >>= λ s. joint_at cut s.1 >>= λ j. if_comes j.0 (λ next. stages_at (n - 1) cut next (found ++ s.0 ∷ []) j.1) (Ok (found ++ s.0 ∷ [], j.1)))
unfolding stages_at
more zero cut joined found ts h = absurd (h refl)
more (suc n) cut joined found ts h = let e : suc n - 1 ≡ n = omega arith in rw e refl

pub stages_fail : (n : ℕ) (cut : Bool) (joined : Joint) (found : List Stage) (ts : List Lexeme) (e : Stop OshWhy) → n ≢ 0 → Fails e (stage_at (length found) cut joined ts) → Fails e (stages_at n cut joined found ts)
stages_fail n cut joined found ts e h f = rw (more n cut joined found ts h) (fails_bind e (stage_at (length found) cut joined ts) _ f)

pub stages_fail_joint : (n : ℕ) (cut : Bool) (joined : Joint) (found : List Stage) (ts us : List Lexeme) (s : Stage) (e : Stop OshWhy) → n ≢ 0 → stage_at (length found) cut joined ts ≡ Ok (s, us) → Fails e (joint_at cut us) → Fails e (stages_at n cut joined found ts)
stages_fail_joint n cut joined found ts us s e h a f = rw (more n cut joined found ts h, a) (fails_bind e (joint_at cut us) _ f)

pub stages_last : (n : ℕ) (cut : Bool) (joined : Joint) (found : List Stage) (ts us rest : List Lexeme) (s : Stage) → n ≢ 0 → stage_at (length found) cut joined ts ≡ Ok (s, us) → joint_at cut us ≡ Ok (None, rest) → stages_at n cut joined found ts ≡ Ok (found ++ s ∷ [], rest)
stages_last n cut joined found ts us rest s h a b = rw (more n cut joined found ts h, a, b) refl

pub stages_next : (n : ℕ) (cut : Bool) (joined next : Joint) (found : List Stage) (ts us rest : List Lexeme) (s : Stage) → n ≢ 0 → stage_at (length found) cut joined ts ≡ Ok (s, us) → joint_at cut us ≡ Ok (Some next, rest) → stages_at n cut joined found ts ≡ stages_at (n - 1) cut next (found ++ s ∷ []) rest
stages_next n cut joined next found ts us rest s h a b = rw (more n cut joined found ts h, a, b) refl
