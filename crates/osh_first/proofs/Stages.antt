-- Stages, and what joins them: where reading them stops nothing is read, whatever follows.
use Rattle.std.proofs.Common.{◌≡◌, ℕ, zero, suc, List, [], ◌∷◌, ◌++◌, length, Bool, true, false, Ok, Err, Option, Some, None, refl, sym, ap, ◌∙◌, subst, append_assoc, arith, ◌≤◌}
use Rattle.std.specs.Prelude.{codes, ◌==◌, if◌then◌else◌}
use Rattle.std.proofs.lemmas.Bool.{ne_eqb}
use Rattle.ds_lex.specs.declared.refusal.Refusal.TheVariants as refusal
use Rattle.ds_lex.specs.Lexemes.{Lexeme}
use Rattle.ds_lex.specs.Reading.{◌>>=◌, expect_at, accept_at, finish_at, first_of}
use Rattle.ds_lex.proofs.Readers.{bind, bind_ok, first_append}
use Rattle.ds_schema.proofs.ListReaders.{accepted, passed, word_fewer}
use Rattle.flow_graph.specs.declared.flow.Mark.{Mark}
use Rattle.flow_graph.specs.declared.op_kind.OpKind.{OpKind}
use Rattle.osh_table.specs.declared.operator.OpName.{OpName}
use Rattle.osh_read.specs.declared.fault.OshWhy.{OshWhy}
use Rattle.osh_read.specs.declared.fault.OshWhy.TheVariants as causes
use Rattle.osh_read.specs.declared.stage.Joint.{Joint}
use Rattle.osh_read.specs.declared.stage.Joint.TheVariants as joint
use Rattle.osh_read.specs.declared.stage.Redirect.{Redirect}
use Rattle.osh_read.specs.declared.stage.Stage.{Stage}
use Rattle.osh_read.specs.declared.stage.Directive.{Directive}
use Rattle.osh_read.specs.declared.stage.Directive.TheVariants as directive
use Rattle.osh_read.specs.declared.stage.Directives.{Directives}
use Rattle.osh_read.specs.Reading.{Read, if_comes}
use Rattle.osh_read.specs.Methods.{method_at}
use Rattle.osh_read.specs.Options.{head_at}
use Rattle.osh_read.specs.Stages.{mark_at, redirects_at, stage_at, piped_at, apart_at, ended_at, behind_stage_at, joint_at, stages_at, directed_at, nosort_at, directive_at, directed, no_directives, directives_at}
use Rattle.osh_sound.specs.Grammar.{options_phrase}
use Rattle.osh_sound.proofs.PhrasesPass.{options_pass}
use Rattle.osh_first.specs.Places.{IsMark, StageFails, IsPlace}
use Rattle.osh_first.proofs.Local.{Reads, Placing, Act, Went, Stuck, Outcome, IsLocal, Fewer, no_answer, passes, together, then_with, then_by, place_as, stuck_first, end_by, act_by, gives_local, bind_local, same_local, all_local, fewer_by}
use Rattle.osh_first.proofs.Lists.{accept, accept_local, expect_local, either_at, either_local, by_choice}
use Rattle.osh_first.proofs.Parts.{MarkUnborne, MarkFails, syntax_places, method_local, redirects_local, mark_local, mark_then}
use Rattle.osh_first.proofs.Heads.{HeadSaid, head_local, head_said}

-- ---- stages

shift_place : (cut : Bool) (at : ℕ) (why : OshWhy) (pre front left : List Lexeme) → IsPlace cut at why front left → IsPlace cut at why (pre ++ front) left
shift_place cut at causes.Syntax pre front left p = p
shift_place cut at other pre front left p = record { before = pre ++ p.before; inside = p.inside; parts = ap (λ (xs : List Lexeme). pre ++ xs) p.parts ∙ sym (append_assoc pre p.before p.inside); fails = p.fails }

abbrev flow_places : Bool → Placing
flow_places cut = record { Is = IsPlace cut; shift = shift_place cut; syntax = λ t ts. (refl, tt) }

place_within : (cut : Bool) (at : ℕ) (why : OshWhy) (front left : List Lexeme) → StageFails cut at why front left → IsPlace cut at why front left
place_within cut at causes.Syntax front left p = p
place_within cut at other front left p = record { before = []; inside = front; parts = refl; fails = p }

-- the tokens of an operator with its options
split_front : (w : Lexeme) (us pre mid : List Lexeme) → pre ++ mid ≡ w ∷ us → length mid ≤ length us → (options : List Lexeme) × (pre ≡ w ∷ options) × (us ≡ options ++ mid)
split_front w us [] mid e l = let k = ap length e in absurd (omega arith)
split_front w us (t ∷ options) mid e l = (options, (let same : t ≡ w = cc in ap (λ (x : Lexeme). x ∷ options) same), (let rest : options ++ mid ≡ us = cc in sym rest))

mark_in : (cut : Bool) (op : OpName) (ts mid pre : List Lexeme) → ts ≡ pre ++ mid → HeadSaid cut op ts mid → (at : ℕ) (front left : List Lexeme) → mid ≡ front ++ left → MarkUnborne op at front left → IsMark at (pre ++ front) left
mark_in cut op ts mid pre parts said at front left e x =
    let options = said.options in
    let split = split_front said.operator said.behind pre mid (sym parts ∙ said.tokens) (options_pass op options.others said.behind mid options.written).fewer in
    let rest : mid ≡ x.bracket ∷ x.name ∷ left = e ∙ ap (λ (xs : List Lexeme). xs ++ left) x.parts in
    record {
      operator = said.operator;
      options = split.0;
      bracket = x.bracket;
      name = x.name;
      parts = ap (λ (xs : List Lexeme). xs ++ front) split.1 ∙ ap (λ (xs : List Lexeme). said.operator ∷ (split.0 ++ xs)) x.parts;
      is_word = said.is_word;
      op = op;
      named = said.named;
      others = options.others;
      written = subst (λ (xs : List Lexeme). options_phrase op options.others (split.0 ++ xs) xs) rest (subst (λ (xs : List Lexeme). options_phrase op options.others xs mid) split.2 options.written);
      together = options.together;
      opens = x.opens;
      mark = x.mark;
      says = x.says;
      closes = x.closes;
      unborne = x.unborne;
      place = x.place;
    }

mark_in_stage : (cut : Bool) (op : OpName) (ts mid pre : List Lexeme) → ts ≡ pre ++ mid → HeadSaid cut op ts mid → (at : ℕ) (why : OshWhy) (front left : List Lexeme) → mid ≡ front ++ left → MarkFails op at why front left → StageFails cut at why (pre ++ front) left
mark_in_stage cut op ts mid pre parts said at causes.Syntax front left e x = x
mark_in_stage cut op ts mid pre parts said at causes.Constraint front left e x = mark_in cut op ts mid pre parts said at front left e x
mark_in_stage cut op ts mid pre parts said at other front left e x = absurd x

head_then : {X : Type 0} (before : ℕ) (cut : Bool) (g : OpName × OpKind → Reads X) → ((h : OpName × OpKind) (us : List Lexeme) → Outcome (MarkFails h.0) (g h) us (g h us)) → (ts : List Lexeme) (v : Read (OpName × OpKind)) → head_at before cut ts ≡ v → Outcome (StageFails cut) (head_at before false) ts v
    → Outcome (StageFails cut) (bind (head_at before false) g) ts (v >>= λ p. g p.0 p.1)
head_then before cut g locals ts (Ok p) e a = then_with (MarkFails p.0.0) (StageFails cut) (head_at before false) g ts p.0 p.1 a (mark_in_stage cut p.0.0 ts p.1 a.front a.parts (head_said before cut ts p.1 p.0 e)) (g p.0 p.1) (locals p.0 p.1)
head_then before cut g locals ts (Err refusal.AtEnd) e a = tt
head_then before cut g locals ts (Err (refusal.At at why)) e a = stuck_first (StageFails cut) (head_at before false) g ts at why a

abbrev stage_of : Joint → OpName × OpKind → Mark → List Redirect → Stage
stage_of joined h m r = record { kind = h.1; mark = m; joined = joined; redirects = r }

abbrev behind_mark : Joint → OpName × OpKind → Mark → Reads Stage
behind_mark joined h m = bind redirects_at (λ r ts. Ok (stage_of joined h m r, ts))

abbrev behind_head : Joint → OpName × OpKind → Reads Stage
behind_head joined h = bind (mark_at h.0) (behind_mark joined h)

mark_local_in : (joined : Joint) (h : OpName × OpKind) (m : Mark) → IsLocal syntax_places (behind_mark joined h m) (behind_mark joined h m)
mark_local_in joined h m = bind_local syntax_places redirects_at redirects_at _ _ (redirects_local syntax_places) (λ r. gives_local syntax_places (stage_of joined h m r))

head_behind : (joined : Joint) (h : OpName × OpKind) (us : List Lexeme) → Outcome (MarkFails h.0) (behind_head joined h) us (behind_head joined h us)
head_behind joined h us = mark_then h.0 (behind_mark joined h) (mark_local_in joined h) us (mark_at h.0 us) (mark_local h.0 us)

stage_fails : (before : ℕ) (cut : Bool) (joined : Joint) (ts : List Lexeme) → Outcome (StageFails cut) (stage_at before false joined) ts (stage_at before cut joined ts)
unfolding stage_at
stage_fails before cut joined ts = head_then before cut (behind_head joined) (head_behind joined) ts (head_at before cut ts) refl (head_local before cut ts)

stage_local : (before : ℕ) (cut : Bool) (joined : Joint) → IsLocal (flow_places cut) (stage_at before cut joined) (stage_at before false joined)
stage_local before cut joined ts = place_as (StageFails cut) (IsPlace cut) (stage_at before false joined) ts (place_within cut) (stage_at before cut joined ts) (stage_fails before cut joined ts)

-- ---- what joins them

piped_local : (cut : Bool) → IsLocal (flow_places cut) piped_at piped_at
unfolding piped_at
piped_local cut = bind_local (flow_places cut) method_at method_at _ _ (method_local (flow_places cut)) (λ m. gives_local (flow_places cut) (Some (joint.Piped m.0 m.1)))

some_left : (t : Lexeme) (ts : List Lexeme) → (length (t ∷ ts) == 0) ≡ false
some_left t ts = ne_eqb (length (t ∷ ts)) 0 (omega arith)

apart_step : (cut : Bool) (t : Lexeme) (ts : List Lexeme) → apart_at cut (t ∷ ts) ≡ Ok (Some joint.Apart, t ∷ ts)
apart_step cut t ts = rw (some_left t ts) refl

apart_local : (cut : Bool) → IsLocal (flow_places cut) (apart_at cut) (apart_at false)
apart_local true [] = tt
apart_local false [] = end_by (IsPlace false) (apart_at false) (Some None) refl
apart_local cut (t ∷ ts) = rw (apart_step cut t ts) (act_by (flow_places cut) (apart_at false) t ts (Act.Leave (Some joint.Apart)) (λ more. apart_step false t more))

ended_local : (cut : Bool) → IsLocal (flow_places cut) (ended_at cut) (ended_at false)
unfolding ended_at finish_at
ended_local true [] = tt
ended_local false [] = end_by (IsPlace false) (ended_at false) (Some None) refl
ended_local cut (t ∷ ts) = act_by (flow_places cut) (ended_at false) t ts Act.Refuse (λ more. refl)

behind_parts : (cut : Bool) (ts : List Lexeme) → behind_stage_at cut ts ≡ bind (accept (codes ";")) (either_at (apart_at cut) (ended_at cut)) ts
behind_parts cut ts = by_choice (apart_at cut) (ended_at cut) (accept_at (codes ";") ts)

joint_parts : (cut : Bool) (ts : List Lexeme) → joint_at cut ts ≡ bind (accept (codes "|")) (either_at piped_at (behind_stage_at cut)) ts
joint_parts cut ts = by_choice piped_at (behind_stage_at cut) (accept_at (codes "|") ts)

behind_local : (cut : Bool) → IsLocal (flow_places cut) (behind_stage_at cut) (behind_stage_at false)
behind_local cut =
    same_local (flow_places cut) (bind (accept (codes ";")) (either_at (apart_at cut) (ended_at cut))) (bind (accept (codes ";")) (either_at (apart_at false) (ended_at false))) (behind_stage_at cut) (behind_stage_at false) (behind_parts cut) (behind_parts false)
    (bind_local (flow_places cut) (accept (codes ";")) (accept (codes ";")) (either_at (apart_at cut) (ended_at cut)) (either_at (apart_at false) (ended_at false)) (accept_local (flow_places cut) (codes ";")) (either_local (flow_places cut) (apart_at cut) (ended_at cut) (apart_at false) (ended_at false) (apart_local cut) (ended_local cut)))

joint_local : (cut : Bool) → IsLocal (flow_places cut) (joint_at cut) (joint_at false)
joint_local cut =
    same_local (flow_places cut) (bind (accept (codes "|")) (either_at piped_at (behind_stage_at cut))) (bind (accept (codes "|")) (either_at piped_at (behind_stage_at false))) (joint_at cut) (joint_at false) (joint_parts cut) (joint_parts false)
    (bind_local (flow_places cut) (accept (codes "|")) (accept (codes "|")) (either_at piped_at (behind_stage_at cut)) (either_at piped_at (behind_stage_at false)) (accept_local (flow_places cut) (codes "|")) (either_local (flow_places cut) piped_at (behind_stage_at cut) piped_at (behind_stage_at false) (piped_local cut) (behind_local cut)))

-- ---- all stages

-- a stage and what joins the next
abbrev step_at : Bool → Joint → List Stage → Reads (Stage × Option Joint)
step_at cut joined found = bind (stage_at (length found) cut joined) (λ s. bind (joint_at cut) (λ j ts. Ok ((s, j), ts)))

step_local : (cut : Bool) (joined : Joint) (found : List Stage) → IsLocal (flow_places cut) (step_at cut joined found) (step_at false joined found)
step_local cut joined found =
    bind_local (flow_places cut) (stage_at (length found) cut joined) (stage_at (length found) false joined) (λ s. bind (joint_at cut) (λ j ts. Ok ((s, j), ts))) (λ s. bind (joint_at false) (λ j ts. Ok ((s, j), ts))) (stage_local (length found) cut joined)
    (λ s. bind_local (flow_places cut) (joint_at cut) (joint_at false) (λ j ts. Ok ((s, j), ts)) (λ j ts. Ok ((s, j), ts)) (joint_local cut) (λ j. gives_local (flow_places cut) (s, j)))

-- the stages behind one that was read
abbrev next_at : ℕ → Bool → List Stage → Stage × Option Joint → Reads (List Stage)
next_at n cut found x ts = if_comes x.1 (λ next. stages_at n cut next (found ++ x.0 ∷ []) ts) (Ok (found ++ x.0 ∷ [], ts))

joint_by : (n : ℕ) (cut : Bool) (found : List Stage) (s : Stage) (v : Read (Option Joint)) → (v >>= λ j. next_at n cut found (s, j.0) j.1) ≡ (bind (λ ts. v) (λ j ts. Ok ((s, j), ts)) [] >>= λ p. next_at n cut found p.0 p.1)
joint_by n cut found s (Ok j) = refl
joint_by n cut found s (Err e) = refl

stage_by : (n : ℕ) (cut : Bool) (found : List Stage) (v : Read Stage) → (v >>= λ s. joint_at cut s.1 >>= λ j. next_at n cut found (s.0, j.0) j.1) ≡ (bind (λ ts. v) (λ s. bind (joint_at cut) (λ j ts. Ok ((s, j), ts))) [] >>= λ p. next_at n cut found p.0 p.1)
stage_by n cut found (Ok s) = joint_by n cut found s.0 (joint_at cut s.1)
stage_by n cut found (Err e) = refl

stages_parts : (n : ℕ) (cut : Bool) (joined : Joint) (found : List Stage) (ts : List Lexeme) → stages_at (suc n) cut joined found ts ≡ bind (step_at cut joined found) (next_at n cut found) ts
unfolding stages_at
stages_parts n cut joined found ts = stage_by n cut found (stage_at (length found) cut joined ts)

none_at_all : (cut : Bool) (joined : Joint) (found : List Stage) (ts : List Lexeme) → stages_at 0 cut joined found ts ≡ Err refusal.AtEnd
unfolding stages_at
none_at_all cut joined found ts = refl

-- reading stages stopped, and however far they are read nothing is read, whatever follows
record Halts (cut : Bool) (joined : Joint) (found : List Stage) (ts : List Lexeme) (at : ℕ) (why : OshWhy) : Type 0 where
  front : List Lexeme
  left : List Lexeme
  parts : ts ≡ front ++ left
  never : (m : ℕ) (more : List Lexeme) (p : List Stage × List Lexeme) → first_of more ≡ first_of left → stages_at m false joined found (front ++ more) ≡ Ok p → ⊥
  place : IsPlace cut at why front left

abbrev Halting : Bool → Joint → List Stage → List Lexeme → Read (List Stage) → Type 0
Halting cut joined found ts (Ok p) = Unit {0}
Halting cut joined found ts (Err refusal.AtEnd) = Unit {0}
Halting cut joined found ts (Err (refusal.At at why)) = Halts cut joined found ts at why

-- a step that stopped
stuck_halts : (cut : Bool) (joined : Joint) (found : List Stage) (ts : List Lexeme) (at : ℕ) (why : OshWhy) (a : Stuck (IsPlace cut) (step_at false joined found) ts at why) (m : ℕ) (more : List Lexeme) (p : List Stage × List Lexeme) → first_of more ≡ first_of a.left → stages_at m false joined found (a.front ++ more) ≡ Ok p → ⊥
stuck_halts cut joined found ts at why a zero more p h e = no_answer (stages_at 0 false joined found (a.front ++ more)) refusal.AtEnd p (none_at_all false joined found (a.front ++ more)) e
stuck_halts cut joined found ts at why a (suc m) more p h e =
    let k = bind_ok (step_at false joined found (a.front ++ more)) (λ x. next_at m false found x.0 x.1) p (sym (stages_parts m false joined found (a.front ++ more)) ∙ e) in
    a.never more k.0 h k.1

-- a step that was made, and stages that stopped behind it
behind_halts : (cut : Bool) (joined next : Joint) (found : List Stage) (s : Stage) (ts us : List Lexeme) (at : ℕ) (why : OshWhy) (a : Went (step_at false joined found) ts (s, Some next) us) (b : Halts cut next (found ++ s ∷ []) us at why) (m : ℕ) (more : List Lexeme) (p : List Stage × List Lexeme) → first_of more ≡ first_of b.left → stages_at m false joined found ((a.front ++ b.front) ++ more) ≡ Ok p → ⊥
behind_halts cut joined next found s ts us at why a b zero more p h e = no_answer (stages_at 0 false joined found ((a.front ++ b.front) ++ more)) refusal.AtEnd p (none_at_all false joined found ((a.front ++ b.front) ++ more)) e
behind_halts cut joined next found s ts us at why a b (suc m) more p h e =
    b.never m more p h (passes (step_at false joined found) (next_at m false found) ts (s, Some next) us a b.front more p (first_append b.front more b.left h ∙ sym (ap first_of b.parts)) (sym (stages_parts m false joined found ((a.front ++ b.front) ++ more)) ∙ e))

next_by : (cut : Bool) (joined next : Joint) (found : List Stage) (s : Stage) (ts us : List Lexeme) → Went (step_at false joined found) ts (s, Some next) us → (v : Read (List Stage)) → Halting cut next (found ++ s ∷ []) us v → Halting cut joined found ts v
next_by cut joined next found s ts us a (Ok p) b = tt
next_by cut joined next found s ts us a (Err refusal.AtEnd) b = tt
next_by cut joined next found s ts us a (Err (refusal.At at why)) b = record {
  front = a.front ++ b.front;
  left = b.left;
  parts = together a.front b.front ts us b.left a.parts b.parts;
  never = λ m more p h e. behind_halts cut joined next found s ts us at why a b m more p h e;
  place = shift_place cut at why a.front b.front b.left b.place;
}

step_by : (n : ℕ) (cut : Bool) (joined : Joint) (found : List Stage) (ts : List Lexeme) → ((next : Joint) (more : List Stage) (us : List Lexeme) → Halting cut next more us (stages_at n cut next more us))
    → (v : Read (Stage × Option Joint)) → Outcome (IsPlace cut) (step_at false joined found) ts v → Halting cut joined found ts (v >>= λ p. next_at n cut found p.0 p.1)
step_by n cut joined found ts more (Ok ((s, None), us)) a = tt
step_by n cut joined found ts more (Ok ((s, Some next), us)) a = next_by cut joined next found s ts us a (stages_at n cut next (found ++ s ∷ []) us) (more next (found ++ s ∷ []) us)
step_by n cut joined found ts more (Err refusal.AtEnd) a = tt
step_by n cut joined found ts more (Err (refusal.At at why)) a = record { front = a.front; left = a.left; parts = a.parts; never = λ m xs p h e. stuck_halts cut joined found ts at why a m xs p h e; place = a.place }

stages_halt : (n : ℕ) (cut : Bool) (joined : Joint) (found : List Stage) (ts : List Lexeme) → Halting cut joined found ts (stages_at n cut joined found ts)
stages_halt zero cut joined found ts = rw (none_at_all cut joined found ts) tt
stages_halt (suc n) cut joined found ts =
    rw (stages_parts n cut joined found ts) (step_by n cut joined found ts (λ next more us. stages_halt n cut next more us) (step_at cut joined found ts) (step_local cut joined found ts))

-- ---- the words before the first statement

directed_local : (cut : Bool) (d : Directive) → IsLocal (flow_places cut) (directed_at d) (directed_at d)
unfolding directed_at
directed_local cut d = bind_local (flow_places cut) (expect_at (codes ";") causes.Syntax) (expect_at (codes ";") causes.Syntax) _ _ (expect_local (flow_places cut) (codes ";")) (λ s. gives_local (flow_places cut) (Some d))

abbrev no_word : Reads (Option Directive)
no_word ts = Ok (None, ts)

nosort_parts : (ts : List Lexeme) → nosort_at ts ≡ bind (accept (codes "nosort")) (either_at (directed_at directive.NoSort) no_word) ts
nosort_parts ts = by_choice (directed_at directive.NoSort) no_word (accept_at (codes "nosort") ts)

nopart_parts : (ts : List Lexeme) → directive_at ts ≡ bind (accept (codes "nopart")) (either_at (directed_at directive.NoPart) nosort_at) ts
nopart_parts ts = by_choice (directed_at directive.NoPart) nosort_at (accept_at (codes "nopart") ts)

nosort_local : (cut : Bool) → IsLocal (flow_places cut) nosort_at nosort_at
nosort_local cut =
    same_local (flow_places cut) (bind (accept (codes "nosort")) (either_at (directed_at directive.NoSort) no_word)) (bind (accept (codes "nosort")) (either_at (directed_at directive.NoSort) no_word)) nosort_at nosort_at nosort_parts nosort_parts
    (bind_local (flow_places cut) (accept (codes "nosort")) (accept (codes "nosort")) (either_at (directed_at directive.NoSort) no_word) (either_at (directed_at directive.NoSort) no_word) (accept_local (flow_places cut) (codes "nosort")) (either_local (flow_places cut) (directed_at directive.NoSort) no_word (directed_at directive.NoSort) no_word (directed_local cut directive.NoSort) (gives_local (flow_places cut) None)))

directive_local : (cut : Bool) → IsLocal (flow_places cut) directive_at directive_at
directive_local cut =
    same_local (flow_places cut) (bind (accept (codes "nopart")) (either_at (directed_at directive.NoPart) nosort_at)) (bind (accept (codes "nopart")) (either_at (directed_at directive.NoPart) nosort_at)) directive_at directive_at nopart_parts nopart_parts
    (bind_local (flow_places cut) (accept (codes "nopart")) (accept (codes "nopart")) (either_at (directed_at directive.NoPart) nosort_at) (either_at (directed_at directive.NoPart) nosort_at) (accept_local (flow_places cut) (codes "nopart")) (either_local (flow_places cut) (directed_at directive.NoPart) nosort_at (directed_at directive.NoPart) nosort_at (directed_local cut directive.NoPart) (nosort_local cut)))

nosort_by : (ts : List Lexeme) (p : Bool × List Lexeme) → accept_at (codes "nosort") ts ≡ p → Fewer ts (if p.0 then directed_at directive.NoSort p.1 else Ok (None, p.1))
nosort_by ts (true, us) e = fewer_by (IsPlace false) (directed_at directive.NoSort) ts us (word_fewer (codes "nosort") ts us (accepted (codes "nosort") ts us e)) (directed_at directive.NoSort us) (directed_local false directive.NoSort us)
nosort_by ts (false, us) e = tt

nopart_by : (ts : List Lexeme) (p : Bool × List Lexeme) → accept_at (codes "nopart") ts ≡ p → Fewer ts (if p.0 then directed_at directive.NoPart p.1 else nosort_at p.1)
nopart_by ts (true, us) e = fewer_by (IsPlace false) (directed_at directive.NoPart) ts us (word_fewer (codes "nopart") ts us (accepted (codes "nopart") ts us e)) (directed_at directive.NoPart us) (directed_local false directive.NoPart us)
nopart_by ts (false, us) e = subst (λ (xs : List Lexeme). Fewer ts (nosort_at xs)) (sym (passed (codes "nopart") ts us e)) (nosort_by ts (accept_at (codes "nosort") ts) refl)

no_directive : directive_at [] ≡ Ok (None, [])
unfolding accept_at
no_directive = refl

directives_local : (cut : Bool) → IsLocal (flow_places cut) directives_at directives_at
directives_local cut = all_local (flow_places cut) (λ found. directive_at) (λ found. directive_at) directed (λ found. no_directive) (λ found. directive_local cut) (λ found ts. nopart_by ts (accept_at (codes "nopart") ts) refl) no_directives

-- ---- all of the tokens

abbrev from_here : Bool → Reads (List Stage)
from_here cut ts = stages_at (length ts) cut joint.Apart [] ts

-- the stages of a text that isn't cut off
abbrev pub whole_at : Reads (List Stage)
whole_at = bind directives_at (λ d. from_here false)

halts_by : (cut : Bool) (ts : List Lexeme) (at : ℕ) (why : OshWhy) → Halts cut joint.Apart [] ts at why → Stuck (IsPlace cut) (from_here false) ts at why
halts_by cut ts at why a = record { front = a.front; left = a.left; parts = a.parts; never = λ more p h e. a.never (length (a.front ++ more)) more p h e; place = a.place }

-- where the words before the first statement or the stages stop
pub directives_stop : (cut : Bool) (ts : List Lexeme) (at : ℕ) (why : OshWhy) → directives_at ts ≡ Err (refusal.At at why) → Stuck (IsPlace cut) whole_at ts at why
directives_stop cut ts at why h =
    let a : Stuck (IsPlace cut) directives_at ts at why = subst (Outcome (IsPlace cut) directives_at ts) h (directives_local cut ts) in
    record {
      front = a.front;
      left = a.left;
      parts = a.parts;
      never = λ more p k e. (let b = bind_ok (directives_at (a.front ++ more)) (λ d. from_here false d.1) p e in a.never more b.0 k b.1);
      place = a.place;
    }

pub stages_stop : (cut : Bool) (ts us : List Lexeme) (d : Directives) (at : ℕ) (why : OshWhy) → directives_at ts ≡ Ok (d, us) → stages_at (length us) cut joint.Apart [] us ≡ Err (refusal.At at why) → Stuck (IsPlace cut) whole_at ts at why
stages_stop cut ts us d at why h k =
    let a : Went directives_at ts d us = subst (Outcome (IsPlace cut) directives_at ts) h (directives_local cut ts) in
    let b : Halts cut joint.Apart [] us at why = subst (Halting cut joint.Apart [] us) k (stages_halt (length us) cut joint.Apart [] us) in
    then_by (flow_places cut) directives_at (λ x. from_here false) ts d us a (Err (refusal.At at why)) (halts_by cut us at why b)
