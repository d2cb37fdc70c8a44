-- Each flow that is read can be spelled.
use Rattle.std.proofs.Common.{◌≡◌, ◌≤◌, ◌<◌, ◌+◌, inl, inr, ℕ, suc, List, [], ◌∷◌, ◌++◌, length, filter, get_or, cond, Bool, true, false, Option, Some, None, refl, sym, ap, ◌∙◌, subst, append_assoc, arith, length-append}
use Rattle.std.specs.Prelude.{codes, ◌==◌}
use Rattle.std.specs.List.{AllByRecursion}
use Rattle.op_base.proofs.All.{all_append}
use Rattle.ds_lex.specs.declared.token.Mode.TheVariants.{Osh}
use Rattle.ds_lex.specs.declared.token.Sort.TheVariants as sort
use Rattle.ds_lex.specs.Lexemes.{Lexeme, limited_text}
use Rattle.ds_lex.specs.Phrases.{word}
use Rattle.flow_graph.specs.declared.flow.Mark.{Mark}
use Rattle.flow_graph.specs.declared.flow.LinkSpec.{LinkSpec}
use Rattle.flow_graph.specs.declared.flow.OpSpec.{OpSpec}
use Rattle.flow_graph.specs.declared.flow.Flow.{Flow}
use Rattle.flow_graph.specs.Charts.{no_link}
use Rattle.flow_graph.specs.FlowShape.{PortsInOrder}
use Rattle.flow_shape.specs.Refusals.{chart_of}
use Rattle.flow_shape.proofs.Numbers.{numbers}
use Rattle.flow_shape.proofs.Entries.{into_numbers}
use Rattle.osh_table.specs.declared.operator.OpName.{OpName}
use Rattle.osh_table.specs.Words.{operator_named}
use Rattle.osh_read.specs.declared.stage.Redirect.{Redirect}
use Rattle.osh_read.specs.declared.stage.Redirect.TheVariants as redirect
use Rattle.osh_read.specs.declared.stage.Joint.{Joint}
use Rattle.osh_read.specs.declared.stage.Joint.TheVariants as joint
use Rattle.osh_read.specs.declared.stage.Stage.{Stage}
use Rattle.osh_read.specs.declared.stage.Directive.{Directive}
use Rattle.osh_read.specs.declared.links.Output.{Output}
use Rattle.osh_read.specs.Joining.{name_of, pipe_ports, source, link_from, link_of, next_input, links_of, pipe_link, links_from, ops, links, outputs, unjoined}
use Rattle.osh_sound.proofs.OptionsComplete.{none_lacks}
use Rattle.osh_sound.specs.Grammar.{mark_phrase, redirect_phrase, redirects_phrase, joint_phrase, WrittenStage, stage_phrase, IsStage, AreStages, stages_of, further_phrase, stages_phrase, directives_phrase, SpellsFlow}
use Rattle.osh_sound.specs.Sound.{MarkFits}
use Rattle.osh_sound.proofs.TokensSound.{AllSound, limited_sound, sign_plain}
use Rattle.osh_sound.proofs.PhrasesPass.{word_pass, token_pass, mark_pass, redirect_pass, redirects_pass, method_pass}
use Rattle.osh_sound.proofs.OptionsRead.{PlainFront}
use Rattle.osh_sound.proofs.StagesRead.{Front, Closes, further_front}
use Rattle.osh_sound.proofs.FlowsHold.{text_holds}
use Rattle.osh_sound.proofs.FlowsKeep.{spelled_joined, spelled_keeps}
use Rattle.osh_back.specs.Spelled.{MethodFits, KindFits, ByConsumer, InPorts, HasOutputs, CanBeSpelled}
use Rattle.osh_back.specs.BackLaws.{ReadCanBeSpelled}
use Rattle.osh_back.proofs.ReadLists.{read_method}
use Rattle.osh_back.proofs.ReadKinds.{options_good, Whole, kind_fits}
use Rattle.osh_back.proofs.ReadOutputs.{read_outputs}

-- ---- what stands behind the options

closes_plain : (ts : List Lexeme) → AllSound ts → Front Closes ts → PlainFront ts
closes_plain [] s h = tt
closes_plain (t ∷ ts) s h = elim h [ inl e ↦ sign_plain t _ refl refl e s.0 | inr e ↦ sign_plain t _ refl refl e s.0 ]

redirects_plain : (rs : List Redirect) (ts rest : List Lexeme) → redirects_phrase rs ts rest → AllSound ts → PlainFront rest → PlainFront ts
redirects_plain [] ts rest h s p = subst PlainFront (sym h) p
redirects_plain (redirect.In at name m f ∷ rs) [] rest h s p = absurd h.1.1
redirects_plain (redirect.Out at name ∷ rs) [] rest h s p = absurd h.1.1
redirects_plain (redirect.In at name m f ∷ rs) (t ∷ ts) rest h s p = sign_plain t _ refl refl h.1.1.1 s.0
redirects_plain (redirect.Out at name ∷ rs) (t ∷ ts) rest h s p = sign_plain t _ refl refl h.1.1.1 s.0

bracket_plain : (ts rest : List Lexeme) → word (codes "[") ts rest → AllSound ts → PlainFront ts
bracket_plain [] rest h s = absurd h
bracket_plain (t ∷ ts) rest h s = sign_plain t _ refl refl h.0 s.0

mark_plain : (o : OpName) (m : Mark) (ts rest : List Lexeme) → mark_phrase o m ts rest → AllSound ts → PlainFront rest → PlainFront ts
mark_plain o m ts rest h s p =
    elim h [
      | inl a ↦ bracket_plain ts a.2.0 (subst (λ (xs : List Lexeme). word (codes "[") xs a.2.0) (sym a.1.1) a.2.1) s
      | inr b ↦ subst PlainFront (sym b.1) p
    ]

-- ---- stages

abbrev RedirectGood : Redirect → Type 0
RedirectGood (redirect.In at name m f) = MethodFits m
RedirectGood (redirect.Out at name) = Unit {0}

abbrev JointGood : Joint → Type 0
JointGood joint.Apart = Unit {0}
JointGood (joint.Piped m f) = MethodFits m

abbrev Good : Stage → Type 0
Good s = KindFits s.kind × (JointGood s.joined × AllByRecursion RedirectGood s.redirects)

redirect_good : (r : Redirect) (ts rest : List Lexeme) → AllSound ts → redirect_phrase r ts rest → RedirectGood r
redirect_good (redirect.In at name m f) [] rest s h = absurd h.1
redirect_good (redirect.In at name m f) (t ∷ ts) rest s h = read_method m f h.0 h.2.0 (subst AllSound h.1.2 s.1) h.2.1
redirect_good (redirect.Out at name) ts rest s h = tt

redirects_good : (rs : List Redirect) (ts rest : List Lexeme) → AllSound ts → redirects_phrase rs ts rest → AllByRecursion RedirectGood rs
redirects_good [] ts rest s h = tt
redirects_good (r ∷ rs) ts rest s h = (redirect_good r ts h.0 s h.1, redirects_good rs h.0 rest ((redirect_pass r ts h.0 h.1).sound s) h.2)

joint_good : (j : Joint) (ts rest : List Lexeme) → AllSound ts → joint_phrase j ts rest → JointGood j × AllSound rest
joint_good joint.Apart ts rest s h = (tt, (word_pass (codes ";") ts rest h).sound s)
joint_good (joint.Piped m f) ts rest s h =
    let sound = (word_pass (codes "|") ts h.0 h.1).sound s in
    (read_method m f h.0 rest sound h.2, (method_pass m f h.0 rest h.2).sound sound)

stage_good : (w : WrittenStage) (ts rest : List Lexeme) → AllSound ts → stage_phrase w ts rest → Front Closes rest → IsStage w → JointGood w.stage.joined → Good w.stage × AllSound rest
stage_good w ts rest s h f i j =
    let at_full = (token_pass sort.Word (λ bytes. operator_named bytes ≡ Some w.op) ts h.0 h.1).sound s in
    let at_options : AllSound h.2.0 = subst AllSound h.2.1.1 at_full in
    let behind = h.2.2 in
    let options = options_good w.op w.options h.2.0 behind.0 at_options behind.1 in
    let at_redirects = (mark_pass w.op w.stage.mark behind.0 behind.2.0 behind.2.1).sound options.1 in
    let at_end = (redirects_pass w.stage.redirects behind.2.0 rest behind.2.2).sound at_redirects in
    let plain = mark_plain w.op w.stage.mark behind.0 behind.2.0 behind.2.1 options.1 (redirects_plain w.stage.redirects behind.2.0 rest behind.2.2 at_redirects (closes_plain rest at_end f)) in
    let whole : Whole w.op w.options = record { good = options.0; together = i.together; ts = h.2.0; rest = behind.0; phrase = behind.1; plain = plain; full = none_lacks w.op w.options h.2.0 behind.0 h.2.1.0 behind.1 } in
    ((kind_fits w.op w.options w.stage.kind whole i.says, (j, redirects_good w.stage.redirects behind.2.0 rest at_redirects behind.2.2)), at_end)

further_good : (ws : List WrittenStage) (ts : List Lexeme) → AllSound ts → further_phrase ws ts [] → AreStages ws → AllByRecursion Good (stages_of ws)
further_good [] ts s h a = tt
further_good (w ∷ ws) ts s h a =
    let j = joint_good w.stage.joined ts h.0 s h.1 in
    let g = stage_good w h.0 h.2.0 j.1 h.2.1 (further_front ws h.2.0 h.2.2) a.0 j.0 in
    (g.0, further_good ws h.2.0 g.1 h.2.2 a.1)

directives_sound : (ds : List Directive) (ts rest : List Lexeme) → AllSound ts → directives_phrase ds ts rest → AllSound rest
directives_sound [] ts rest s h = subst AllSound h s
directives_sound (d ∷ ds) ts rest s h = directives_sound ds h.2.0 rest ((word_pass (codes ";") h.0 h.2.0 h.2.1).sound ((word_pass _ ts h.0 h.1).sound s)) h.2.2

-- ---- links

link_good : (o : Option Output) (to port : ℕ) (r : Redirect) → RedirectGood r → AllByRecursion (λ (l : LinkSpec). MethodFits l.method) (link_from o to port r)
link_good (Some x) to port (redirect.In at name m f) h = (h, tt)
link_good (Some x) to port (redirect.Out at name) h = tt
link_good None to port r h = tt

redirect_links : (os : List Output) (to port : ℕ) (rs : List Redirect) → AllByRecursion RedirectGood rs → AllByRecursion (λ (l : LinkSpec). MethodFits l.method) (links_of os to port rs)
redirect_links os to port [] h = tt
redirect_links os to port (r ∷ rs) h = all_append (λ (l : LinkSpec). MethodFits l.method) (link_of os to port r) (links_of os to (next_input port r) rs) (link_good (source os (name_of r)) to port r h.0) (redirect_links os to (next_input port r) rs h.1)

pipe_good : (to : ℕ) (j : Joint) → JointGood j → AllByRecursion (λ (l : LinkSpec). MethodFits l.method) (pipe_link to j)
pipe_good to joint.Apart h = tt
pipe_good to (joint.Piped m f) h = (h, tt)

links_good : (os : List Output) (to : ℕ) (ss : List Stage) → AllByRecursion Good ss → AllByRecursion (λ (l : LinkSpec). MethodFits l.method) (links_from os to ss)
links_good os to [] h = tt
links_good os to (s ∷ ss) h =
    all_append (λ (l : LinkSpec). MethodFits l.method) (pipe_link to s.joined) (links_of os to (pipe_ports s.joined) s.redirects ++ links_from os (to + 1) ss) (pipe_good to s.joined h.0.1.0)
    (all_append (λ (l : LinkSpec). MethodFits l.method) (links_of os to (pipe_ports s.joined) s.redirects) (links_from os (to + 1) ss) (redirect_links os to (pipe_ports s.joined) s.redirects h.0.1.1) (links_good os (to + 1) ss h.1))

-- links into this operator, and behind them links into later ones
ordered_then : (from to : ℕ) (xs ys : List LinkSpec) → from ≤ to → AllByRecursion (λ (l : LinkSpec). l.to ≡ to) xs → ((n : ℕ) → n ≤ to → ByConsumer n ys) → ByConsumer from (xs ++ ys)
ordered_then from to [] ys f h k = k from f
ordered_then from to (x ∷ xs) ys f h k = (let e = h.0 in omega arith, ordered_then x.to to xs ys (let e = h.0 in omega arith) h.1 k)

link_into : (o : Option Output) (to port : ℕ) (r : Redirect) → AllByRecursion (λ (l : LinkSpec). l.to ≡ to) (link_from o to port r)
link_into (Some x) to port (redirect.In at name m f) = (refl, tt)
link_into (Some x) to port (redirect.Out at name) = tt
link_into None to port r = tt

redirects_into : (os : List Output) (to port : ℕ) (rs : List Redirect) → AllByRecursion (λ (l : LinkSpec). l.to ≡ to) (links_of os to port rs)
redirects_into os to port [] = tt
redirects_into os to port (r ∷ rs) = all_append (λ (l : LinkSpec). l.to ≡ to) (link_of os to port r) (links_of os to (next_input port r) rs) (link_into (source os (name_of r)) to port r) (redirects_into os to (next_input port r) rs)

pipe_into : (to : ℕ) (j : Joint) → AllByRecursion (λ (l : LinkSpec). l.to ≡ to) (pipe_link to j)
pipe_into to joint.Apart = tt
pipe_into to (joint.Piped m f) = (refl, tt)

ordered : (os : List Output) (from to : ℕ) (ss : List Stage) → from ≤ to → ByConsumer from (links_from os to ss)
ordered os from to [] f = tt
ordered os from to (s ∷ ss) f =
    ordered_then from to (pipe_link to s.joined) (links_of os to (pipe_ports s.joined) s.redirects ++ links_from os (to + 1) ss) f (pipe_into to s.joined)
    (λ n k. ordered_then n to (links_of os to (pipe_ports s.joined) s.redirects) (links_from os (to + 1) ss) k (redirects_into os to (pipe_ports s.joined) s.redirects)
    (λ m j. ordered os m (to + 1) ss (omega arith)))

-- ports by the numbers of links, in a list
get_at : (pre : List LinkSpec) (l : LinkSpec) (ls : List LinkSpec) → get_or (pre ++ l ∷ ls) (length pre) no_link ≡ l
get_at [] l ls = refl
get_at (x ∷ pre) l ls = get_at pre l ls

listed : (p : LinkSpec → Bool) (all pre ls : List LinkSpec) (q : ℕ) → all ≡ pre ++ ls → ((i : ℕ) → i < length (numbers p (length pre) ls) → (get_or all (get_or (numbers p (length pre) ls) i 0) no_link).port ≡ q + i) → InPorts q (filter p ls)
listed p all pre [] q e h = tt
listed p all pre (l ∷ ls) q e h =
    let len : length (pre ++ l ∷ []) ≡ length pre + 1 = length-append pre (l ∷ []) in
    by (p l) h (λ r k. listed p all (pre ++ l ∷ []) ls r (e ∙ sym (append_assoc pre (l ∷ []) ls)) (subst (λ n. (i : ℕ) → i < length (numbers p n ls) → (get_or all (get_or (numbers p n ls) i 0) no_link).port ≡ r + i) (sym len) k))
  where
    here : get_or all (length pre) no_link ≡ l
    here = ap (λ (xs : List LinkSpec). get_or xs (length pre) no_link) e ∙ get_at pre l ls

    by : (b : Bool) → ((i : ℕ) → i < length (cond b (length pre ∷ numbers p (length pre + 1) ls) (numbers p (length pre + 1) ls)) → (get_or all (get_or (cond b (length pre ∷ numbers p (length pre + 1) ls) (numbers p (length pre + 1) ls)) i 0) no_link).port ≡ q + i)
        → ((r : ℕ) → ((i : ℕ) → i < length (numbers p (length pre + 1) ls) → (get_or all (get_or (numbers p (length pre + 1) ls) i 0) no_link).port ≡ r + i) → InPorts r (filter p ls)) → InPorts q (cond b (l ∷ filter p ls) (filter p ls))
    by true k more =
        (let first = k 0 (omega arith) in
        let z : q + 0 ≡ q = omega arith in
        (sym (ap (λ (x : LinkSpec). x.port) here) ∙ (first ∙ z), more (q + 1) (λ i m. k (suc i) (omega arith) ∙ (let y : q + suc i ≡ q + 1 + i = omega arith in y))))
    by false k more = more q k

in_ports : (flow : Flow) (o : ℕ) → PortsInOrder (chart_of flow []) o → InPorts 0 (filter (λ (l : LinkSpec). l.to == o) flow.links)
in_ports flow o h =
    let same = into_numbers flow [] o in
    listed (λ (l : LinkSpec). l.to == o) flow.links [] flow.links 0 refl
    (λ i k. (let z : i ≡ 0 + i = omega arith in
    subst (λ (ns : List ℕ). (get_or flow.links (get_or ns i 0) no_link).port ≡ i) same (h i (subst (λ (ns : List ℕ). i < length ns) (sym same) k)) ∙ z))

-- ---- flows

both : {X : Type 0} (P Q : X → Type 0) (xs : List X) → AllByRecursion P xs → AllByRecursion Q xs → AllByRecursion (λ x. P x × Q x) xs
both P Q [] a b = tt
both P Q (x ∷ xs) a b = ((a.0, b.0), both P Q xs a.1 b.1)

ops_fit : (ss : List Stage) → AllByRecursion Good ss → AllByRecursion (λ (o : OpSpec). KindFits o.kind) (ops ss)
ops_fit [] h = tt
ops_fit (s ∷ ss) h = (h.0.0, ops_fit ss h.1)

stages_good : (ws : List WrittenStage) (ts : List Lexeme) → AllSound ts → stages_phrase ws ts [] → AreStages ws → AllByRecursion Good (stages_of ws)
stages_good [] ts s h a = absurd h
stages_good (w ∷ ws) ts s h a =
    let g = stage_good w ts h.1.0 s h.1.1 (further_front ws h.1.0 h.1.2) a.0 (subst JointGood (sym h.0) tt) in
    (g.0, further_good ws h.1.0 g.1 h.1.2 a.1)

some_ops : (ws : List WrittenStage) (ts : List Lexeme) → stages_phrase ws ts [] → 1 ≤ length (ops (stages_of ws))
some_ops [] ts h = absurd h
some_ops (w ∷ ws) ts h = omega arith

all_outputs : (ws : List WrittenStage) (ts : List Lexeme) (p : ℕ) → stages_phrase ws ts [] → unjoined (stages_of ws) ≡ None → HasOutputs (links (stages_of ws)) p
all_outputs [] ts p h u = absurd h
all_outputs (w ∷ ws) ts p h u = read_outputs w.stage (stages_of ws) p h.0 u

spelled_fits : (ts : List Lexeme) (flow : Flow) → SpellsFlow ts flow → AllSound ts → CanBeSpelled flow
spelled_fits ts flow s a =
    let sound = directives_sound s.directives ts s.tokens.0 a s.tokens.1 in
    let good = stages_good s.written s.tokens.0 sound s.tokens.2 s.stages in
    let joined = spelled_joined ts flow s in
    let marks = spelled_keeps ts flow s in
    let same_ops : flow.ops ≡ ops (stages_of s.written) = ap (λ (f : Flow). f.ops) s.made in
    let same_links : flow.links ≡ links (stages_of s.written) = ap (λ (f : Flow). f.links) s.made in
    record {
      some = subst (λ (os : List OpSpec). 1 ≤ length os) (sym same_ops) (some_ops s.written s.tokens.0 s.tokens.2);
      few = joined.few;
      operators = both (λ (o : OpSpec). KindFits o.kind) (λ (o : OpSpec). MarkFits o.kind o.mark) flow.ops (subst (AllByRecursion (λ (o : OpSpec). KindFits o.kind)) (sym same_ops) (ops_fit (stages_of s.written) good)) marks;
      links = record {
        within = joined.within;
        ordered = subst (ByConsumer 0) (sym same_links) (ordered (outputs 0 (stages_of s.written)) 0 0 (stages_of s.written) (omega arith));
        inputs = λ to. in_ports flow to (joined.ports to);
        outputs = λ from. subst (λ (ls : List LinkSpec). HasOutputs ls from) (sym same_links) (all_outputs s.written s.tokens.0 from s.tokens.2 s.joined);
        methods = subst (AllByRecursion (λ (l : LinkSpec). MethodFits l.method)) (sym same_links) (links_good (outputs 0 (stages_of s.written)) 0 (stages_of s.written) good);
      };
    }

pub read_spelled : ReadCanBeSpelled
read_spelled bytes flow h = spelled_fits (limited_text Osh bytes).lexemes flow (text_holds bytes flow h).tokens (limited_sound bytes)
