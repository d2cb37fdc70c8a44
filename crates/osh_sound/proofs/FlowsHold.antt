-- What is read as a flow is spelled.
use Rattle.std.proofs.Common.{◌≡◌, ℕ, List, [], ◌∷◌, length, take, Bool, true, false, Result, Ok, Err, Option, Some, None, refl, sym, ap, ◌∙◌, subst, arith}
use Rattle.std.specs.Prelude.{nat_lt, if◌then◌else◌}
use Rattle.ds_lex.specs.declared.token.Mode.TheVariants.{Osh}
use Rattle.ds_lex.specs.declared.lexeme.End.{End}
use Rattle.ds_lex.specs.declared.lexeme.End.TheVariants as ends
use Rattle.ds_lex.specs.declared.refusal.Refusal.{Refusal}
use Rattle.ds_lex.specs.Lexemes.{Lexeme, end_of, limited_text, lexed_text}
use Rattle.ds_lex.specs.Phrases.{◌~◌}
use Rattle.ds_lex.proofs.Readers.{bind_ok}
use Rattle.flow_graph.specs.declared.flow.Flow.{Flow}
use Rattle.osh_read.specs.declared.fault.OshWhy.{OshWhy}
use Rattle.osh_read.specs.declared.stage.Joint.TheVariants as joint
use Rattle.osh_read.specs.declared.stage.Stage.{Stage}
use Rattle.osh_read.specs.declared.stage.Directives.{Directives}
use Rattle.osh_read.specs.Stages.{directives_at, stages_at, no_directives}
use Rattle.osh_read.specs.Joining.{unjoined}
use Rattle.osh_read.specs.Flows.{made, joined, flow_at, is_cut_off, settled, flow_of}
use Rattle.osh_sound.specs.Grammar.{stage_phrase, further_phrase, all_directed, SpellsFlow, SpellsText}
use Rattle.osh_sound.proofs.StagesHold.{stages_hold, directives_hold}

joined_by : (d : Directives) (stages : List Stage) (flow : Flow) (o : Option ℕ) → joined d stages o ≡ Ok flow → (o ≡ None) × (flow ≡ made d stages)
joined_by d stages flow (Some at) h = absurd cc
joined_by d stages flow None h = (refl, (let e : flow ≡ made d stages = cc in e))

pub flow_holds : (cut : Bool) (ts : List Lexeme) (flow : Flow) → flow_at cut ts ≡ Ok flow → (cut ≡ false) × SpellsFlow ts flow
unfolding flow_at
flow_holds cut ts flow h =
    let a = bind_ok (directives_at ts) _ flow h in
    let b = bind_ok (stages_at (length a.0.1) cut joint.Apart [] a.0.1) _ flow a.2 in
    let j = joined_by a.0.0 b.0.0 flow (unjoined b.0.0) b.2 in
    let d = directives_hold (length ts) no_directives a.0.0 ts a.0.1 a.1 in
    let s = stages_hold (length a.0.1) cut joint.Apart [] b.0.0 a.0.1 b.0.1 b.1 in
    let few = s.few in (
      s.whole,
      record {
        directives = d.directives;
        written = s.first ∷ s.others;
        tokens = (a.0.1, d.stand, (s.joint, subst (λ (us : List Lexeme). (stage_phrase s.first ~ further_phrase s.others) a.0.1 us) s.ends s.phrase));
        stages = s.stages;
        few = omega arith;
        joined = ap unjoined (sym s.parts) ∙ j.0;
        made = j.1 ∙ (ap (λ (x : Directives). made x b.0.0) d.folded ∙ ap (made (all_directed no_directives d.directives)) s.parts);
      },
    )

end_by : (limit len : ℕ) (bad : Option ℕ) → is_cut_off (end_of limit len bad) ≡ false → end_of limit len bad ≡ ends.Text len
end_by limit len (Some at) h = absurd cc
end_by limit len None h = over (nat_lt limit len) h
  where
    over : (b : Bool) → is_cut_off (if b then ends.Limit limit else ends.Text len) ≡ false → (if b then ends.Limit limit else ends.Text len) ≡ ends.Text len
    over true h = absurd cc
    over false h = refl

whole_by : (bytes : List ℕ) → is_cut_off (limited_text Osh bytes).end ≡ false → (limited_text Osh bytes).end ≡ ends.Text (length bytes)
unfolding limited_text
whole_by bytes h = end_by 1_048_576 (length bytes) (lexed_text Osh (take 1_048_576 bytes)).bad h

settled_by : (end : End) (r : Result Flow (Refusal OshWhy)) (flow : Flow) → settled end r ≡ Ok flow → r ≡ Ok flow
settled_by end (Ok f) flow h = (let e : f ≡ flow = cc in ap (λ x. Ok x) e)
settled_by end (Err r) flow h = absurd cc

pub text_holds : (bytes : List ℕ) (flow : Flow) → flow_of bytes ≡ Ok flow → SpellsText bytes flow
unfolding flow_of
text_holds bytes flow h =
    let r = settled_by (limited_text Osh bytes).end (flow_at (is_cut_off (limited_text Osh bytes).end) (limited_text Osh bytes).lexemes) flow h in
    let f = flow_holds (is_cut_off (limited_text Osh bytes).end) (limited_text Osh bytes).lexemes flow r in
    record { whole = whole_by bytes f.0; tokens = f.1 }
