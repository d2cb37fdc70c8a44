-- What is read can be shaped, and keeps its marks.
use Rattle.std.proofs.Common.{◌≡◌, ◌≤◌, ◌<◌, inl, inr, suc, List, [], ◌∷◌, length, None, refl, sym, ap, subst}
use Rattle.std.specs.List.{AllByRecursion}
use Rattle.ds_lex.specs.Lexemes.{Lexeme}
use Rattle.flow_graph.specs.declared.flow.Method.{Method}
use Rattle.flow_graph.specs.declared.flow.Method.TheVariants as method
use Rattle.flow_graph.specs.declared.flow.Flag.{Flag}
use Rattle.flow_graph.specs.declared.flow.LinkSpec.{LinkSpec}
use Rattle.flow_graph.specs.declared.flow.OpSpec.{OpSpec}
use Rattle.flow_graph.specs.declared.flow.Flow.{Flow}
use Rattle.flow_shape.specs.Methods.{MethodDiffers}
use Rattle.op_shape.specs.Options.{KeysDistinct, OptionsStand}
use Rattle.flow_shape.specs.Spelled.{IsJoined}
use Rattle.osh_read.specs.declared.stage.Redirect.{Redirect}
use Rattle.osh_read.specs.declared.stage.Redirect.TheVariants as redirect
use Rattle.osh_read.specs.declared.stage.Joint.{Joint}
use Rattle.osh_read.specs.declared.stage.Joint.TheVariants as joint
use Rattle.osh_read.specs.declared.stage.Stage.{Stage}
use Rattle.osh_read.specs.declared.stage.Directives.{Directives}
use Rattle.osh_read.specs.Joining.{ops, links, unjoined}
use Rattle.osh_read.specs.Flows.{made}
use Rattle.osh_sound.specs.Grammar.{method_phrase, redirect_phrase, redirects_phrase, joint_phrase, WrittenStage, stage_phrase, IsStage, AreStages, stages_of, further_phrase, stages_phrase, SpellsFlow}
use Rattle.osh_sound.specs.Sound.{FormStands, KeepsForms, MarkFits, KeepsMarks}
use Rattle.osh_sound.proofs.KindsKeep.{Keeps, differ, operator_keeps}
use Rattle.osh_sound.proofs.JoinsKeep.{RedirectFits, JointFits, StageFits, all_lie, lies_within, lies_differing, in_order, stage_ports}

-- ---- methods

method_differs : (m : Method) (f : Flag) (ts rest : List Lexeme) → method_phrase m f ts rest → MethodDiffers m
method_differs (method.Merge keys) f ts rest h =
    elim h [
      | inl a ↦ elim a.2.1 [
        | inl b ↦ (let e = b.1.0 in absurd cc)
        | inr c ↦ differ keys c.1.2.0.differ
      ]
      | inr b ↦ (let e = b.0.0 in absurd cc)
    ]
method_differs m f ts rest h = tt

redirect_fits : (r : Redirect) (ts rest : List Lexeme) → redirect_phrase r ts rest → RedirectFits r
redirect_fits (redirect.In at name m f) ts rest h = method_differs m f h.0 h.2.0 h.2.1
redirect_fits (redirect.Out at name) ts rest h = tt

redirects_fit : (rs : List Redirect) (ts rest : List Lexeme) → redirects_phrase rs ts rest → AllByRecursion RedirectFits rs
redirects_fit [] ts rest h = tt
redirects_fit (r ∷ rs) ts rest h = (redirect_fits r ts h.0 h.1, redirects_fit rs h.0 rest h.2)

joint_fits : (j : Joint) (ts rest : List Lexeme) → joint_phrase j ts rest → JointFits j
joint_fits joint.Apart ts rest h = tt
joint_fits (joint.Piped m f) ts rest h = method_differs m f h.0 rest h.2

-- ---- stages

abbrev OpKeeps : Stage → Type 0
OpKeeps s = Keeps s.mark s.kind

abbrev Fits : Stage → Type 0
Fits s = OpKeeps s × StageFits s

stage_fits : (w : WrittenStage) (ts rest : List Lexeme) → stage_phrase w ts rest → IsStage w → JointFits w.stage.joined → Fits w.stage
stage_fits w ts rest h s j =
    (let behind = h.2.2 in (operator_keeps w.op w.options w.stage.kind w.stage.mark h.2.0 behind.0 behind.0 behind.2.0 behind.1 behind.2.1 s.says, (j, redirects_fit w.stage.redirects behind.2.0 rest behind.2.2)))

further_fit : (ws : List WrittenStage) (ts rest : List Lexeme) → further_phrase ws ts rest → AreStages ws → AllByRecursion Fits (stages_of ws)
further_fit [] ts rest h s = tt
further_fit (w ∷ ws) ts rest h s = (stage_fits w h.0 h.2.0 h.2.1 s.0 (joint_fits w.stage.joined ts h.0 h.1), further_fit ws h.2.0 rest h.2.2 s.1)

none_before : (j : Joint) → j ≡ joint.Apart → JointFits j
none_before j e = subst JointFits (sym e) tt

stages_fit : (ws : List WrittenStage) (ts rest : List Lexeme) → stages_phrase ws ts rest → AreStages ws → AllByRecursion Fits (stages_of ws)
stages_fit [] ts rest h s = absurd h
stages_fit (w ∷ ws) ts rest h s = (stage_fits w ts h.1.0 h.1.1 s.0 (none_before w.stage.joined h.0), further_fit ws h.1.0 rest h.1.2 s.1)

-- ---- flows

fit_stages : (ss : List Stage) → AllByRecursion Fits ss → AllByRecursion StageFits ss
fit_stages [] h = tt
fit_stages (s ∷ ss) h = (h.0.1, fit_stages ss h.1)

fit_keys : (ss : List Stage) → AllByRecursion Fits ss → AllByRecursion (λ (o : OpSpec). KeysDistinct o.kind) (ops ss)
fit_keys [] h = tt
fit_keys (s ∷ ss) h = (h.0.0.0, fit_keys ss h.1)

fit_marks : (ss : List Stage) → AllByRecursion Fits ss → AllByRecursion (λ (o : OpSpec). MarkFits o.kind o.mark) (ops ss)
fit_marks [] h = tt
fit_marks (s ∷ ss) h = (h.0.0.1, fit_marks ss h.1)

fit_forms : (ss : List Stage) → AllByRecursion Fits ss → AllByRecursion (λ (o : OpSpec). FormStands o.kind) (ops ss)
fit_forms [] h = tt
fit_forms (s ∷ ss) h = (h.0.0.2, fit_forms ss h.1)

fit_options : (ss : List Stage) → AllByRecursion Fits ss → AllByRecursion (λ (o : OpSpec). OptionsStand o.kind) (ops ss)
fit_options [] h = tt
fit_options (s ∷ ss) h = (h.0.0.3, fit_options ss h.1)

as_many : (ss : List Stage) → length (ops ss) ≡ length ss
as_many [] = refl
as_many (s ∷ ss) = ap (λ n. suc n) (as_many ss)

as_written : (ws : List WrittenStage) → length (stages_of ws) ≡ length ws
as_written [] = refl
as_written (w ∷ ws) = ap (λ n. suc n) (as_written ws)

made_joined : (d : Directives) (ss : List Stage) → length ss ≤ 200 → AllByRecursion Fits ss → unjoined ss ≡ None → IsJoined (made d ss)
made_joined d ss few h u =
    let lie = all_lie ss (fit_stages ss h) in
    record {
      few = subst (λ n. n ≤ 200) (sym (as_many ss)) few;
      within = subst (λ n. AllByRecursion (λ (l : LinkSpec). (l.from < n) × (l.to < n)) (links ss)) (sym (as_many ss)) (lies_within (length ss) (links ss) lie);
      ports = λ o. in_order (made d ss) o (stage_ports ss o u);
      keys = fit_keys ss h;
      options = fit_options ss h;
      methods = lies_differing (length ss) (links ss) lie;
    }

spelled_fits : (ts : List Lexeme) (flow : Flow) (s : SpellsFlow ts flow) → AllByRecursion Fits (stages_of s.written)
spelled_fits ts flow s = stages_fit s.written s.tokens.0 [] s.tokens.2 s.stages

pub spelled_joined : (ts : List Lexeme) (flow : Flow) → SpellsFlow ts flow → IsJoined flow
spelled_joined ts flow s =
    subst IsJoined (sym s.made) (made_joined _ (stages_of s.written) (subst (λ n. n ≤ 200) (sym (as_written s.written)) s.few) (spelled_fits ts flow s) s.joined)

pub spelled_keeps : (ts : List Lexeme) (flow : Flow) → SpellsFlow ts flow → KeepsMarks flow
spelled_keeps ts flow s = subst KeepsMarks (sym s.made) (fit_marks (stages_of s.written) (spelled_fits ts flow s))

pub spelled_forms : (ts : List Lexeme) (flow : Flow) → SpellsFlow ts flow → KeepsForms flow
spelled_forms ts flow s = subst KeepsForms (sym s.made) (fit_forms (stages_of s.written) (spelled_fits ts flow s))
