-- What the first bytes of a text say of the whole: one more than the limit are enough.
use Rattle.std.proofs.Common.{◌≡◌, ◌≤◌, ◌<◌, ◌+◌, ◌∙◌, min, ℕ, Bool, true, false, List, length, take, drop, ap, sym, subst, refl, arith, Option, Some, None, Ok, Err, length-take}
use Rattle.std.specs.Prelude.{nat_lt, Result, IfOk, IfErr}
use Rattle.std.proofs.lemmas.Bool.{lt-ltb, ltb-true, ltb-false}
use Rattle.std.proofs.lemmas.List.{take_all, take-append-le, take-append-drop}
use Rattle.config_read.specs.First.{IsFirst, IsSpelled}
use Rattle.config_read.specs.declared.config.Config.{Config}
use Rattle.ds_lex.specs.Lexemes.{LimitedText, end_of, front_text, lexed_text, limited_text}
use Rattle.ds_lex.specs.declared.lexeme.End.{End}
use Rattle.ds_lex.specs.declared.lexeme.End.TheVariants as ends
use Rattle.ds_lex.specs.declared.token.Mode.{Mode}
use Rattle.ds_lex.specs.declared.token.Mode.TheVariants.{Inner, Osh}
use Rattle.ds_port.specs.FileMap.{FileMap, file_at}
use Rattle.flow_graph.specs.declared.flow.Flow.{Flow}
use Rattle.flow_outputs.specs.Fronts.{IsFrontOf}
use Rattle.osh_call.specs.declared.answer.Answer.{Answer}
use Rattle.osh_call.specs.declared.answer.Answer.TheVariants as answer
use Rattle.osh_call.specs.Stages.{Has, IsFlowIn, IsNodesIn, FileStops, FlowInStops, NodesInStops}
use Rattle.osh_read.specs.Flows.{flow_of, flow_in}

take_less : (limit : ℕ) (text : List ℕ) → take limit (take (limit + 1) text) ≡ take limit text
take_less limit text = by_length (nat_lt limit (length text)) refl
  where
    by_length : (b : Bool) → nat_lt limit (length text) ≡ b → take limit (take (limit + 1) text) ≡ take limit text
    by_length true e =
        let more : limit < length text = ltb-true limit (length text) e in
        let room : limit ≤ length (take (limit + 1) text) = omega (arith, more, length-take (limit + 1) text) in
        sym (take-append-le limit (take (limit + 1) text) (drop (limit + 1) text) room) ∙ ap (take limit) (take-append-drop (limit + 1) text)
    by_length false e = ap (take limit) (take_all (limit + 1) text (let few : length text ≤ limit = ltb-false limit (length text) e in omega (arith, few)))

end_same : (limit a b : ℕ) (bad : Option ℕ) → a ≡ min (limit + 1) b → end_of limit a bad ≡ end_of limit b bad
end_same limit a b (Some at) e = refl
end_same limit a b None e = by_length (nat_lt limit b) refl
  where
    by_length : (more : Bool) → nat_lt limit b ≡ more → end_of limit a None ≡ end_of limit b None
    by_length true h =
        let over : limit < b = ltb-true limit b h in
        let here : nat_lt limit a ≡ true = lt-ltb limit a (omega (arith, over, e)) in
        rw (here, h) refl
    by_length false h = let few : b ≤ limit = ltb-false limit b h in ap (λ n. end_of limit n None) (let same : a ≡ b = omega (arith, few, e) in same)

front_same : (mode : Mode) (limit : ℕ) (text : List ℕ) → front_text mode limit (take (limit + 1) text) ≡ front_text mode limit text
front_same mode limit text =
    ap (λ (t : List ℕ). made t (length (take (limit + 1) text))) (take_less limit text)
    ∙ ap (λ (end : End). ended end) (end_same limit (length (take (limit + 1) text)) (length text) (lexed_text mode (take limit text)).bad (length-take (limit + 1) text))
  where
    made : List ℕ → ℕ → LimitedText
    made t n = record { lexemes = (lexed_text mode t).lexemes; end = end_of limit n (lexed_text mode t).bad }

    ended : End → LimitedText
    ended end = record { lexemes = (lexed_text mode (take limit text)).lexemes; end = end }

limited_same : (mode : Mode) (text : List ℕ) → limited_text mode (take (1_048_576 + 1) text) ≡ limited_text mode text
unfolding limited_text
limited_same mode text = front_same mode 1_048_576 text

flow_same : (text : List ℕ) → flow_of (take (1_048_576 + 1) text) ≡ flow_of text
unfolding flow_of
flow_same text = ap flow_in (limited_same Osh text)

-- ---- flows

flow_whole : (front text : List ℕ) (flow : Flow) → flow_of front ≡ flow_of text → IsFlowIn front flow → IsFlowIn text flow
flow_whole front text flow e h = record { spelled = sym e ∙ h.spelled; built = h.built }

flow_stops : (front text : List ℕ) (a : Answer) → flow_of front ≡ flow_of text → FlowInStops front a → FlowInStops text a
flow_stops front text (answer.BadFlow at why) e h = sym e ∙ h
flow_stops front text answer.Unbuilt e h = (h.0, sym e ∙ h.1, h.2)
flow_stops front text answer.Memory e h = tt
flow_stops front text answer.Usage e h = absurd h
flow_stops front text (answer.BadConfig at why) e h = absurd h
flow_stops front text (answer.BadShape why op) e h = absurd h
flow_stops front text (answer.Absent name) e h = absurd h
flow_stops front text answer.Refused e h = absurd h
flow_stops front text answer.Checked e h = absurd h
flow_stops front text (answer.Mismatch link from to) e h = absurd h
flow_stops front text (answer.Crowded players) e h = absurd h
flow_stops front text answer.Done e h = absurd h
flow_stops front text answer.Faulty e h = absurd h
flow_stops front text answer.Device e h = absurd h

-- ---- configurations

-- a text that goes on behind the limit spells none
cut_short : (limit len at : ℕ) (bad : Option ℕ) → limit < len → end_of limit len bad ≡ ends.Text at → ⊥
cut_short limit len at (Some bad) l h = absurd cc
cut_short limit len at None l h =
    let over : nat_lt limit len ≡ true = lt-ltb limit len l in
    absurd (let k : ends.Limit limit ≡ ends.Text at = rw over at h in cc)

cut_end : (bytes : List ℕ) (at : ℕ) → 1_048_576 < length bytes → (limited_text Inner bytes).end ≡ ends.Text at → ⊥
unfolding limited_text
cut_end bytes at l h = cut_short 1_048_576 (length bytes) at (lexed_text Inner (take 1_048_576 bytes)).bad l h

config_whole : (text : List ℕ) (config : Config) → IsSpelled (take (1_048_576 + 1) text) config → IsSpelled text config
config_whole text config h = by_length (nat_lt 1_048_576 (length text)) refl
  where
    by_length : (b : Bool) → nat_lt 1_048_576 (length text) ≡ b → IsSpelled text config
    by_length false e = let few : length text ≤ 1_048_576 = ltb-false 1_048_576 (length text) e in subst (λ t. IsSpelled t config) (take_all (1_048_576 + 1) text (omega (arith, few))) h
    by_length true e =
        let more : 1_048_576 < length text = ltb-true 1_048_576 (length text) e in
        absurd (cut_end (take (1_048_576 + 1) text) (length (take (1_048_576 + 1) text)) (omega (arith, more, length-take (1_048_576 + 1) text)) h.whole)

nodes_whole : (text : List ℕ) (nodes : ℕ) → IsNodesIn (take (1_048_576 + 1) text) nodes → IsNodesIn text nodes
nodes_whole text nodes h = record { config = h.config; spelled = config_whole text h.config h.spelled; count = h.count }

nodes_stop : (text : List ℕ) (a : Answer) → NodesInStops (take (1_048_576 + 1) text) a → NodesInStops text a
nodes_stop text (answer.BadConfig at why) h = subst (λ (t : LimitedText). IsFirst t at why) (limited_same Inner text) h
nodes_stop text answer.Memory h = tt
nodes_stop text answer.Usage h = absurd h
nodes_stop text answer.Unbuilt h = absurd h
nodes_stop text (answer.BadFlow at why) h = absurd h
nodes_stop text (answer.BadShape why op) h = absurd h
nodes_stop text (answer.Absent name) h = absurd h
nodes_stop text answer.Refused h = absurd h
nodes_stop text answer.Checked h = absurd h
nodes_stop text (answer.Mismatch link from to) h = absurd h
nodes_stop text (answer.Crowded players) h = absurd h
nodes_stop text answer.Done h = absurd h
nodes_stop text answer.Faulty h = absurd h
nodes_stop text answer.Device h = absurd h

-- ---- files

-- what stops a text stops the file
file_stops : (files : FileMap) (name : List ℕ) (P : List ℕ → Answer → Type 0) (text : List ℕ) (a : Answer) → file_at files name ≡ Some text → ((missing : List ℕ) → P text (answer.Absent missing) → ⊥) → P text a → FileStops files name P a
file_stops files name P text (answer.Absent missing) found none h = absurd (none missing h)
file_stops files name P text answer.Device found none h = tt
file_stops files name P text answer.Memory found none h = tt
file_stops files name P text answer.Usage found none h = record { text = text; found = found; is = h }
file_stops files name P text answer.Unbuilt found none h = record { text = text; found = found; is = h }
file_stops files name P text (answer.BadFlow at why) found none h = record { text = text; found = found; is = h }
file_stops files name P text (answer.BadConfig at why) found none h = record { text = text; found = found; is = h }
file_stops files name P text (answer.BadShape why op) found none h = record { text = text; found = found; is = h }
file_stops files name P text answer.Refused found none h = record { text = text; found = found; is = h }
file_stops files name P text answer.Checked found none h = record { text = text; found = found; is = h }
file_stops files name P text (answer.Mismatch link from to) found none h = record { text = text; found = found; is = h }
file_stops files name P text (answer.Crowded players) found none h = record { text = text; found = found; is = h }
file_stops files name P text answer.Done found none h = record { text = text; found = found; is = h }
file_stops files name P text answer.Faulty found none h = record { text = text; found = found; is = h }

-- the front of a file is read as the file
pub flow_has : (files : FileMap) (name bytes front : List ℕ) (r : Result Flow Answer) → front ≡ bytes → IsFrontOf (file_at files name) 1_048_576 bytes → IfOk r (IsFlowIn front) → IfOk r (λ flow. Has files name (λ text. IsFlowIn text flow))
flow_has files name bytes front (Ok flow) e f h = record { text = f.all; found = f.there; is = flow_whole front f.all flow (ap flow_of (e ∙ f.is) ∙ flow_same f.all) h }
flow_has files name bytes front (Err a) e f h = tt

pub flow_has_none : (files : FileMap) (name bytes front : List ℕ) (r : Result Flow Answer) → front ≡ bytes → IsFrontOf (file_at files name) 1_048_576 bytes → IfErr r (FlowInStops front) → IfErr r (FileStops files name FlowInStops)
flow_has_none files name bytes front (Ok flow) e f h = tt
flow_has_none files name bytes front (Err a) e f h = file_stops files name FlowInStops f.all a f.there (λ missing n. n) (flow_stops front f.all a (ap flow_of (e ∙ f.is) ∙ flow_same f.all) h)

pub nodes_have : (files : FileMap) (name bytes front : List ℕ) (r : Result ℕ Answer) → front ≡ bytes → IsFrontOf (file_at files name) 1_048_576 bytes → IfOk r (IsNodesIn front) → IfOk r (λ nodes. Has files name (λ text. IsNodesIn text nodes))
nodes_have files name bytes front (Ok nodes) e f h = record { text = f.all; found = f.there; is = nodes_whole f.all nodes (subst (λ t. IsNodesIn t nodes) (e ∙ f.is) h) }
nodes_have files name bytes front (Err a) e f h = tt

pub nodes_have_none : (files : FileMap) (name bytes front : List ℕ) (r : Result ℕ Answer) → front ≡ bytes → IsFrontOf (file_at files name) 1_048_576 bytes → IfErr r (NodesInStops front) → IfErr r (FileStops files name NodesInStops)
nodes_have_none files name bytes front (Ok nodes) e f h = tt
nodes_have_none files name bytes front (Err a) e f h = file_stops files name NodesInStops f.all a f.there (λ missing n. n) (nodes_stop f.all a (subst (λ t. NodesInStops t a) (e ∙ f.is) h))
