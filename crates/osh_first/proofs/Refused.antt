-- A text that is refused stops being a flow at the fault's place.
use Rattle.std.proofs.Common.{◌≡◌, inl, inr, ℕ, List, [], ◌∷◌, ◌++◌, length, Bool, false, Result, Ok, Err, Option, Some, None, refl, sym, ap, ◌∙◌, subst, arith}
use Rattle.ds_lex.specs.declared.token.Mode.TheVariants.{Osh}
use Rattle.ds_lex.specs.declared.refusal.Refusal.{Refusal}
use Rattle.ds_lex.specs.declared.refusal.Refusal.TheVariants as refusal
use Rattle.ds_lex.specs.Lexemes.{Lexeme, LimitedText, place_of, limited_text}
use Rattle.ds_lex.specs.Reading.{◌>>=◌}
use Rattle.ds_lex.specs.Phrases.{◌~◌}
use Rattle.flow_graph.specs.declared.flow.Flow.{Flow}
use Rattle.osh_read.specs.declared.fault.OshWhy.{OshWhy}
use Rattle.osh_read.specs.declared.fault.OshWhy.TheVariants as causes
use Rattle.osh_read.specs.declared.stage.Joint.TheVariants as joint
use Rattle.osh_read.specs.declared.stage.Stage.{Stage}
use Rattle.osh_read.specs.declared.stage.Directives.{Directives}
use Rattle.osh_read.specs.Reading.{Read}
use Rattle.osh_read.specs.Stages.{directives_at, stages_at, no_directives}
use Rattle.osh_read.specs.Joining.{unjoined}
use Rattle.osh_read.specs.Flows.{Fault, joined, flow_at, is_cut_off, end_why, fault_of, settled, flow_of}
use Rattle.osh_sound.specs.Grammar.{stage_phrase, further_phrase, stages_of}
use Rattle.osh_sound.proofs.StagesHold.{stages_hold, directives_hold}
use Rattle.osh_sound.proofs.TokensSound.{AllSound, limited_sound}
use Rattle.osh_first.specs.First.{SpellsStages, NoneGoesOn, BreaksOff, LeavesName, Stops}
use Rattle.osh_first.specs.Places.{IsPlace}
use Rattle.osh_first.specs.FirstLaws.{RefusedStops}
use Rattle.osh_first.proofs.Local.{Stuck}
use Rattle.osh_first.proofs.Stages.{whole_at, directives_stop, stages_stop}
use Rattle.osh_first.proofs.Wholes.{whole_read, sound_front, sound_both}

-- ---- where reading stopped no flow goes on

none_goes_on : (cut : Bool) (ts : List Lexeme) (at : ℕ) (why : OshWhy) → AllSound ts → (a : Stuck (IsPlace cut) whole_at ts at why) → NoneGoesOn a.front a.left
none_goes_on cut ts at why sound a more tokens first spelled =
    let front = sound_front a.front a.left (subst AllSound a.parts sound) in
    let w = whole_read (a.front ++ more) (sound_both a.front more front tokens) spelled in
    let read : whole_at (a.front ++ more) ≡ Ok (stages_of spelled.written, []) = rw (w.directives, w.stages) refl in
    a.never more (stages_of spelled.written, []) first read

stopped : (text : LimitedText) (at : ℕ) (why : OshWhy) → AllSound text.lexemes → Stuck (IsPlace (is_cut_off text.end)) whole_at text.lexemes at why → Stops text at why
stopped text at why sound a = inl (record { front = a.front; left = a.left; parts = a.parts; stops = none_goes_on (is_cut_off text.end) text.lexemes at why sound a; place = a.place })

-- ---- the names come last

refused_is : {A : Type 0} (d e : Refusal OshWhy) → (let r : Result A (Refusal OshWhy) = Err d in r) ≡ Err e → d ≡ e
refused_is d e h = cc

at_is : (at place : ℕ) (why cause : OshWhy) → (let r : Refusal OshWhy = refusal.At at why in r) ≡ refusal.At place cause → (at ≡ place) × (why ≡ cause)
at_is at place why cause h = (cc, cc)

name_left : (d : Directives) (stages : List Stage) (o : Option ℕ) (at : ℕ) (why : OshWhy) → joined d stages o ≡ Err (refusal.At at why) → (o ≡ Some at) × (why ≡ causes.Unjoined)
name_left d stages None at why h = absurd cc
name_left d stages (Some place) at why h =
    let k = at_is place at causes.Unjoined why (refused_is {A = Flow} (refusal.At place causes.Unjoined) (refusal.At at why) h) in
    (ap (λ x. Some x) k.0, sym k.1)

leaves_name : (text : LimitedText) (at : ℕ) (why : OshWhy) (d : Directives) (us vs : List Lexeme) (all : List Stage) → directives_at text.lexemes ≡ Ok (d, us) → stages_at (length us) (is_cut_off text.end) joint.Apart [] us ≡ Ok (all, vs) → unjoined all ≡ Some at → why ≡ causes.Unjoined → LeavesName text at why
leaves_name text at why d us vs all h k u c =
    let a = directives_hold (length text.lexemes) no_directives d text.lexemes us h in
    let s = stages_hold (length us) (is_cut_off text.end) joint.Apart [] all us vs k in
    let few = s.few in
    record {
      flow = record {
        directives = a.directives;
        written = s.first ∷ s.others;
        tokens = (us, a.stand, (s.joint, subst (λ (xs : List Lexeme). (stage_phrase s.first ~ further_phrase s.others) us xs) s.ends s.phrase));
        stages = s.stages;
        few = omega arith;
      };
      first = ap unjoined (sym s.parts) ∙ u;
      whole = s.whole;
      cause = c;
    }

-- ---- the parts of a text

-- what was read of the stages
stages_by : (text : LimitedText) (at : ℕ) (why : OshWhy) (d : Directives) (us : List Lexeme) (v : Read (List Stage)) → AllSound text.lexemes → directives_at text.lexemes ≡ Ok (d, us) → stages_at (length us) (is_cut_off text.end) joint.Apart [] us ≡ v → (v >>= λ s. joined d s.0 (unjoined s.0)) ≡ Err (refusal.At at why) → Stops text at why
stages_by text at why d us (Ok (all, vs)) sound e f h =
    let k = name_left d all (unjoined all) at why h in
    inr (inr (leaves_name text at why d us vs all e f k.0 k.1))
stages_by text at why d us (Err r) sound e f h =
    let same = refused_is {A = Flow} r (refusal.At at why) h in
    stopped text at why sound (stages_stop (is_cut_off text.end) text.lexemes us d at why e (f ∙ ap (λ x. Err x) same))

directives_by : (text : LimitedText) (at : ℕ) (why : OshWhy) (v : Read Directives) → AllSound text.lexemes → directives_at text.lexemes ≡ v → (v >>= λ d. stages_at (length d.1) (is_cut_off text.end) joint.Apart [] d.1 >>= λ s. joined d.0 s.0 (unjoined s.0)) ≡ Err (refusal.At at why) → Stops text at why
directives_by text at why (Ok (d, us)) sound e h = stages_by text at why d us (stages_at (length us) (is_cut_off text.end) joint.Apart [] us) sound e refl h
directives_by text at why (Err r) sound e h =
    let same = refused_is {A = Flow} r (refusal.At at why) h in
    stopped text at why sound (directives_stop (is_cut_off text.end) text.lexemes at why (e ∙ ap (λ x. Err x) same))

flow_stops : (text : LimitedText) (at : ℕ) (why : OshWhy) → AllSound text.lexemes → flow_at (is_cut_off text.end) text.lexemes ≡ Err (refusal.At at why) → Stops text at why
unfolding flow_at
flow_stops text at why sound h = directives_by text at why (directives_at text.lexemes) sound refl h

-- ---- the end of the tokens

not_at_end : (d : Directives) (stages : List Stage) (o : Option ℕ) → joined d stages o ≡ Err refusal.AtEnd → ⊥
not_at_end d stages None h = absurd cc
not_at_end d stages (Some at) h = absurd cc

-- what spells a whole flow isn't refused at its end
whole_goes : (ts : List Lexeme) → AllSound ts → SpellsStages ts → flow_at false ts ≡ Err refusal.AtEnd → ⊥
unfolding flow_at
whole_goes ts sound spelled h =
    let w = whole_read ts sound spelled in
    let read : flow_at false ts ≡ joined w.found (stages_of spelled.written) (unjoined (stages_of spelled.written)) = rw (w.directives, w.stages) refl in
    not_at_end w.found (stages_of spelled.written) (unjoined (stages_of spelled.written)) (sym read ∙ h)

breaks_off : (text : LimitedText) (at : ℕ) (why : OshWhy) → AllSound text.lexemes → flow_at (is_cut_off text.end) text.lexemes ≡ Err refusal.AtEnd → at ≡ place_of text.end → why ≡ end_why text.end → BreaksOff text at why
breaks_off text at why sound h p c = record {
  unfinished = λ len e spelled. whole_goes text.lexemes sound spelled (ap (λ b. flow_at b text.lexemes) (sym (ap is_cut_off e)) ∙ h);
  place = p;
  cause = c;
}

-- ---- texts

fault_is : {A : Type 0} (d e : Fault) → (let r : Result A Fault = Err d in r) ≡ Err e → (d.at ≡ e.at) × (d.why ≡ e.why)
fault_is {A = A} d e h = (ap at_of h, ap why_of h)
  where
    at_of : Result A Fault → ℕ
    at_of (Ok x) = e.at
    at_of (Err f) = f.at

    why_of : Result A Fault → OshWhy
    why_of (Ok x) = e.why
    why_of (Err f) = f.why

text_by : (text : LimitedText) (at : ℕ) (why : OshWhy) (r : Result Flow (Refusal OshWhy)) → AllSound text.lexemes → flow_at (is_cut_off text.end) text.lexemes ≡ r → settled text.end r ≡ Err (record { at = at; why = why }) → Stops text at why
text_by text at why (Ok flow) sound e h = absurd cc
text_by text at why (Err refusal.AtEnd) sound e h =
    let k = fault_is {A = Flow} (fault_of text.end refusal.AtEnd) (record { at = at; why = why }) h in
    inr (inl (breaks_off text at why sound e (sym k.0) (sym k.1)))
text_by text at why (Err (refusal.At place cause)) sound e h =
    let k = fault_is {A = Flow} (fault_of text.end (refusal.At place cause)) (record { at = at; why = why }) h in
    flow_stops text at why sound (e ∙ (ap (λ x. Err (refusal.At x cause)) k.0 ∙ ap (λ x. Err (refusal.At at x)) k.1))

pub refused_stops : RefusedStops
unfolding flow_of
refused_stops bytes at why h =
    text_by (limited_text Osh bytes) at why (flow_at (is_cut_off (limited_text Osh bytes).end) (limited_text Osh bytes).lexemes) (limited_sound bytes) refl h
