-- What is read as stages are stages.
use Rattle.std.proofs.Common.{◌≡◌, ◌≤◌, ◌<◌, ◌+◌, inl, inr, ℕ, zero, suc, List, [], ◌∷◌, ◌++◌, length, Bool, true, false, Ok, Option, Some, None, refl, sym, ap, ◌∙◌, subst, append_assoc, arith, length-append}
use Rattle.std.specs.Prelude.{if◌then◌else◌, nat_le, ◌==◌, codes}
use Rattle.std.specs.Str.{bytes_eq}
use Rattle.std.proofs.lemmas.List.{append-nil}
use Rattle.std.proofs.lemmas.Bool.{eqb-true}
use Rattle.ds_lex.specs.declared.token.Sort.TheVariants as sort
use Rattle.ds_lex.specs.Lexemes.{Lexeme}
use Rattle.ds_lex.specs.Reading.{refuse, token_at, sort_at, expect_at, accept_at, finish_at}
use Rattle.ds_lex.specs.Phrases.{word, token, nothing, ◌~◌, ◌<|>◌}
use Rattle.ds_lex.proofs.Readers.{bind_ok, same_bytes}
use Rattle.ds_schema.proofs.ListReaders.{ok_parts, accepted, passed}
use Rattle.flow_graph.specs.declared.flow.Mark.{Mark}
use Rattle.flow_graph.specs.declared.flow.Mark.TheVariants as mark
use Rattle.osh_table.specs.declared.operator.OpName.{OpName}
use Rattle.osh_read.specs.declared.fault.OshWhy.{OshWhy}
use Rattle.osh_read.specs.declared.fault.OshWhy.TheVariants as why
use Rattle.osh_read.specs.declared.stage.Redirect.{Redirect}
use Rattle.osh_read.specs.declared.stage.Redirect.TheVariants as redirect
use Rattle.osh_read.specs.declared.stage.Joint.{Joint}
use Rattle.osh_read.specs.declared.stage.Joint.TheVariants as joint
use Rattle.osh_read.specs.declared.stage.Stage.{Stage}
use Rattle.osh_read.specs.declared.stage.Directive.{Directive}
use Rattle.osh_read.specs.declared.stage.Directive.TheVariants as directive
use Rattle.osh_read.specs.declared.stage.Directives.{Directives}
use Rattle.osh_read.specs.Reading.{Read, sign_at, repeated, append, if_comes}
use Rattle.osh_read.specs.Methods.{method_at}
use Rattle.osh_read.specs.Options.{head_at}
use Rattle.osh_read.specs.Stages.{plain_mark, bears, mark_named, mark_of, marked_at, mark_at, input_at, output_at, maybe_output_at, redirect_at, redirects_at, stage_at, over_at, piped_at, apart_at, ended_at, behind_stage_at, joint_at, stages_at, directed_at, nosort_at, directive_at, directed}
use Rattle.std.proofs.lemmas.Bool.{leb-false}
use Rattle.osh_sound.specs.Grammar.{method_phrase, mark_word, mark_phrase, redirect_phrase, redirects_phrase, WrittenStage, stage_phrase, IsStage, joint_phrase, further_phrase, AreStages, stages_of, directive_word, directives_phrase, all_directed}
use Rattle.osh_sound.proofs.Fronts.{one_of, sort_taken, token_taken, expect_taken, sign_came, sign_missed}
use Rattle.osh_sound.proofs.MethodsHold.{method_holds}
use Rattle.osh_sound.proofs.OptionsHold.{head_holds}

-- ---- marks

mark_meant : (w : Lexeme) (ts : List Lexeme) (m : Mark) → mark_named w.bytes ≡ Some m → mark_word m (w ∷ ts) ts
mark_meant w ts m h =
    elim (one_of (bytes_eq w.bytes (codes "seq")) mark.Seq m _ h) [
      | inl a ↦ subst (λ x. mark_word x (w ∷ ts) ts) a.1 (same_bytes w.bytes _ a.0, refl)
      | inr b ↦ elim (one_of (bytes_eq w.bytes (codes "par")) mark.Par m None b) [
        | inl a ↦ subst (λ x. mark_word x (w ∷ ts) ts) a.1 (same_bytes w.bytes _ a.0, refl)
        | inr c ↦ absurd cc
      ]
    ]

mark_is : (o : Option Mark) (w : Lexeme) (m : Mark) → mark_of o w ≡ Ok m → o ≡ Some m
mark_is None w m h = absurd cc
mark_is (Some k) w m h = let e : k ≡ m = cc in ap (λ x. Some x) e

bears_by : (t : Lexeme) (m n : Mark) (us rest : List Lexeme) (b : Bool) → (let r : Read Mark = if b then Ok (m, us) else refuse t why.Constraint in r) ≡ Ok (n, rest) → (b ≡ true) × (m ≡ n) × (us ≡ rest)
bears_by t m n us rest true h = let k = ok_parts (m, us) (n, rest) h in (refl, k.0, k.1)
bears_by t m n us rest false h = absurd cc

marked_holds : (op : OpName) (t : Lexeme) (ts rest : List Lexeme) (m : Mark) → t.bytes ≡ codes "[" → marked_at op t ts ≡ Ok (m, rest) → mark_phrase op m (t ∷ ts) rest
unfolding marked_at
marked_holds op t ts rest m bracket h =
    let a = bind_ok (token_at OshWhy ts) _ (m, rest) h in
    let b = bind_ok (mark_of (mark_named a.0.0.bytes) a.0.0) _ (m, rest) a.2 in
    let c = bind_ok (expect_at (codes "]") why.Syntax a.0.1) _ (m, rest) b.2 in
    let d = bears_by t b.0 m c.0.1 rest (bears (plain_mark op) b.0) c.2 in
    let named : mark_word m (a.0.0 ∷ a.0.1) a.0.1 = mark_meant a.0.0 a.0.1 m (mark_is (mark_named a.0.0.bytes) a.0.0 b.0 b.1 ∙ ap (λ x. Some x) d.1) in
    let front : mark_word m ts a.0.1 = subst (λ (us : List Lexeme). mark_word m us a.0.1) (sym (token_taken ts a.0.1 a.0.0 a.1)) named in
    let closed : word (codes "]") a.0.1 rest = subst (word (codes "]") a.0.1) d.2 (expect_taken (codes "]") why.Syntax a.0.1 c.0.1 c.0.0 c.1) in
    let fits : bears (plain_mark op) m ≡ true = ap (bears (plain_mark op)) (sym d.1) ∙ d.0 in
    inl (t ∷ ts, (fits, refl), (ts, (bracket, refl), (a.0.1, front, closed)))

mark_by : (op : OpName) (ts rest : List Lexeme) (m : Mark) (p : Option Lexeme × List Lexeme) → sign_at (codes "[") ts ≡ p → if_comes p.0 (λ t. marked_at op t p.1) (Ok (plain_mark op, p.1)) ≡ Ok (m, rest) → mark_phrase op m ts rest
mark_by op ts rest m (Some t, us) e h =
    let s = sign_came (codes "[") ts us t e in
    subst (λ (xs : List Lexeme). mark_phrase op m xs rest) (sym s.0) (marked_holds op t us rest m s.1 h)
mark_by op ts rest m (None, us) e h =
    let k = ok_parts (plain_mark op, us) (m, rest) h in
    inr (sym k.0, sym (sign_missed (codes "[") ts us e) ∙ k.1)

mark_holds : (op : OpName) (ts rest : List Lexeme) (m : Mark) → mark_at op ts ≡ Ok (m, rest) → mark_phrase op m ts rest
mark_holds op ts rest m h = mark_by op ts rest m (sign_at (codes "[") ts) refl h

-- ---- redirects

-- what was read of a redirect, where one comes
abbrev Next : List Lexeme → List Lexeme → Option Redirect → Type 0
Next ts rest None = ts ≡ rest
Next ts rest (Some r) = redirect_phrase r ts rest

made_next : (r : Redirect) (o : Option Redirect) (ts us rest : List Lexeme) → (let x : Read (Option Redirect) = Ok (Some r, us) in x) ≡ Ok (o, rest) → redirect_phrase r ts us → Next ts rest o
made_next r o ts us rest h p =
    let k = ok_parts (Some r, us) (o, rest) h in
    subst (Next ts rest) k.0 (subst (redirect_phrase r ts) k.1 p)

word_is : (ts us : List Lexeme) (w : Lexeme) → (ts ≡ w ∷ us) × (w.sort ≡ sort.Word) → token sort.Word (λ bytes. bytes ≡ w.bytes) ts us
word_is ts us w s = subst (λ (xs : List Lexeme). token sort.Word (λ bytes. bytes ≡ w.bytes) xs us) (sym s.0) (s.1, refl, refl)

input_holds : (t : Lexeme) (ts rest : List Lexeme) (o : Option Redirect) → t.bytes ≡ codes "<" → input_at t.at ts ≡ Ok (o, rest) → Next (t ∷ ts) rest o
unfolding input_at
input_holds t ts rest o s h =
    let a = bind_ok (method_at ts) _ (o, rest) h in
    let b = bind_ok (sort_at sort.Word why.Syntax a.0.1) _ (o, rest) a.2 in
    made_next (redirect.In t.at b.0.0.bytes a.0.0.0 a.0.0.1) o (t ∷ ts) b.0.1 rest b.2 (ts, (refl, s, refl), (a.0.1, method_holds ts a.0.1 a.0.0 a.1, word_is a.0.1 b.0.1 b.0.0 (sort_taken sort.Word why.Syntax a.0.1 b.0.1 b.0.0 b.1)))

output_holds : (t : Lexeme) (ts rest : List Lexeme) (o : Option Redirect) → t.bytes ≡ codes ">" → output_at t.at ts ≡ Ok (o, rest) → Next (t ∷ ts) rest o
unfolding output_at
output_holds t ts rest o s h =
    let b = bind_ok (sort_at sort.Word why.Syntax ts) _ (o, rest) h in
    made_next (redirect.Out t.at b.0.0.bytes) o (t ∷ ts) b.0.1 rest b.2 (ts, (refl, s, refl), word_is ts b.0.1 b.0.0 (sort_taken sort.Word why.Syntax ts b.0.1 b.0.0 b.1))

output_by : (ts rest : List Lexeme) (o : Option Redirect) (p : Option Lexeme × List Lexeme) → sign_at (codes ">") ts ≡ p → if_comes p.0 (λ t. output_at t.at p.1) (Ok (None, p.1)) ≡ Ok (o, rest) → Next ts rest o
output_by ts rest o (Some t, us) e h =
    let s = sign_came (codes ">") ts us t e in
    subst (λ (xs : List Lexeme). Next xs rest o) (sym s.0) (output_holds t us rest o s.1 h)
output_by ts rest o (None, us) e h =
    let k = ok_parts (None, us) (o, rest) h in
    subst (Next ts rest) k.0 (sym (sign_missed (codes ">") ts us e) ∙ k.1)

redirect_by : (ts rest : List Lexeme) (o : Option Redirect) (p : Option Lexeme × List Lexeme) → sign_at (codes "<") ts ≡ p → if_comes p.0 (λ t. input_at t.at p.1) (maybe_output_at p.1) ≡ Ok (o, rest) → Next ts rest o
redirect_by ts rest o (Some t, us) e h =
    let s = sign_came (codes "<") ts us t e in
    subst (λ (xs : List Lexeme). Next xs rest o) (sym s.0) (input_holds t us rest o s.1 h)
redirect_by ts rest o (None, us) e h =
    subst (λ (xs : List Lexeme). Next xs rest o) (sign_missed (codes "<") ts us e) (output_by us rest o (sign_at (codes ">") us) refl h)

redirect_holds : (ts rest : List Lexeme) (o : Option Redirect) → redirect_at ts ≡ Ok (o, rest) → Next ts rest o
redirect_holds ts rest o h = redirect_by ts rest o (sign_at (codes "<") ts) refl h

-- redirects behind those that were found
pub record AreRedirects (found all : List Redirect) (ts rest : List Lexeme) : Type 0 where
  pub others : List Redirect
  pub joined : all ≡ found ++ others
  pub stand : redirects_phrase others ts rest

redirects_by : (n : ℕ) (found all : List Redirect) (ts us rest : List Lexeme) (o : Option Redirect) → ((more : List Redirect) (vs : List Lexeme) → repeated (λ xs. redirect_at) append n more vs ≡ Ok (all, rest) → AreRedirects more all vs rest)
    → Next ts us o → if_comes o (λ r. repeated (λ xs. redirect_at) append n (append found r) us) (Ok (found, us)) ≡ Ok (all, rest) → AreRedirects found all ts rest
redirects_by n found all ts us rest None more x h =
    let k = ok_parts (found, us) (all, rest) h in
    record { others = []; joined = sym k.0 ∙ sym (append-nil found); stand = x ∙ k.1 }
redirects_by n found all ts us rest (Some r) more x h =
    let a = more (found ++ r ∷ []) us h in
    record { others = r ∷ a.others; joined = a.joined ∙ append_assoc found (r ∷ []) a.others; stand = (us, x, a.stand) }

redirects_hold : (n : ℕ) (found all : List Redirect) (ts rest : List Lexeme) → repeated (λ xs. redirect_at) append n found ts ≡ Ok (all, rest) → AreRedirects found all ts rest
unfolding repeated
redirects_hold zero found all ts rest h =
    let k = ok_parts (found, ts) (all, rest) h in
    record { others = []; joined = sym k.0 ∙ sym (append-nil found); stand = k.1 }
redirects_hold (suc n) found all ts rest h =
    let a = bind_ok (redirect_at ts) _ (all, rest) h in
    redirects_by n found all ts a.0.1 rest a.0.0 (λ more vs k. redirects_hold n more all vs rest k) (redirect_holds ts a.0.1 a.0.0 a.1) a.2

-- ---- stages

pub record StageHolds (before : ℕ) (cut : Bool) (joined : Joint) (s : Stage) (ts rest : List Lexeme) : Type 0 where
  pub written : WrittenStage
  pub same : written.stage ≡ s
  pub phrase : cut ≡ false → stage_phrase written ts rest
  pub stage : IsStage written
  pub joint : s.joined ≡ joined
  pub room : nat_le 200 before ≡ false

stage_holds : (before : ℕ) (cut : Bool) (joined : Joint) (s : Stage) (ts rest : List Lexeme) → stage_at before cut joined ts ≡ Ok (s, rest) → StageHolds before cut joined s ts rest
unfolding stage_at
stage_holds before cut joined s ts rest h =
    let a = bind_ok (head_at before cut ts) _ (s, rest) h in
    let b = bind_ok (mark_at a.0.0.0 a.0.1) _ (s, rest) a.2 in
    let c = bind_ok (redirects_at b.0.1) _ (s, rest) b.2 in
    let made : Stage = record { kind = a.0.0.1; mark = b.0.0; joined = joined; redirects = c.0.0 } in
    let k = ok_parts (made, c.0.1) (s, rest) c.2 in
    let head = head_holds before cut ts a.0.1 a.0.0 a.1 in
    let marked = mark_holds a.0.0.0 a.0.1 b.0.1 b.0.0 b.1 in
    let r = redirects_hold (length b.0.1) [] c.0.0 b.0.1 c.0.1 c.1 in
    let outs : redirects_phrase c.0.0 b.0.1 rest = subst (redirects_phrase c.0.0 b.0.1) k.1 (subst (λ (rs : List Redirect). redirects_phrase rs b.0.1 c.0.1) (sym r.joined) r.stand) in
    record {
      written = record { op = a.0.0.0; options = head.options; stage = made };
      same = k.0;
      phrase = λ whole. (let f = head.stand whole in (f.0, f.1, (f.2.0, f.2.1, (a.0.1, f.2.2, (b.0.1, marked, outs)))));
      stage = record { together = head.together; says = head.says };
      joint = ap (λ (x : Stage). x.joined) (sym k.0);
      room = head.room;
    }

-- ---- what joins stages

-- what was read behind a stage: what joins the next, or the end of the text
abbrev Joins : Bool → List Lexeme → List Lexeme → Option Joint → Type 0
Joins cut ts rest (Some j) = joint_phrase j ts rest
Joins cut ts rest None = (cut ≡ false) × (rest ≡ []) × (word (codes ";") <|> nothing) ts rest

over_by : (cut : Bool) (ts rest : List Lexeme) (o : Option Joint) → over_at cut ts ≡ Ok (o, rest) → (cut ≡ false) × (o ≡ None) × (ts ≡ rest)
over_by true ts rest o h = absurd cc
over_by false ts rest o h = let k = ok_parts (None, ts) (o, rest) h in (refl, sym k.0, k.1)

piped_holds : (cut : Bool) (ts us rest : List Lexeme) (o : Option Joint) → word (codes "|") ts us → piped_at us ≡ Ok (o, rest) → Joins cut ts rest o
unfolding piped_at
piped_holds cut ts us rest o w h =
    let a = bind_ok (method_at us) _ (o, rest) h in
    let k = ok_parts (Some (joint.Piped a.0.0.0 a.0.0.1), a.0.1) (o, rest) a.2 in
    subst (Joins cut ts rest) k.0 (us, w, subst (method_phrase a.0.0.0 a.0.0.1 us) k.1 (method_holds us a.0.1 a.0.0 a.1))

none_left : (ts : List Lexeme) → (length ts == 0) ≡ true → ts ≡ []
none_left [] h = refl
none_left (t ∷ ts) h = let e : suc (length ts) ≡ 0 = eqb-true _ _ h in absurd (omega arith)

apart_by : (cut : Bool) (ts us rest : List Lexeme) (o : Option Joint) (b : Bool) → word (codes ";") ts us → (length us == 0) ≡ b → (if b then over_at cut us else Ok (Some joint.Apart, us)) ≡ Ok (o, rest) → Joins cut ts rest o
apart_by cut ts us rest o true w e h =
    let v = over_by cut us rest o h in
    subst (Joins cut ts rest) (sym v.1) (v.0, sym v.2 ∙ none_left us e, inl (subst (word (codes ";") ts) v.2 w))
apart_by cut ts us rest o false w e h =
    let k = ok_parts (Some joint.Apart, us) (o, rest) h in
    subst (Joins cut ts rest) k.0 (subst (word (codes ";") ts) k.1 w)

finished : (ts : List Lexeme) (u : Unit {0}) → finish_at why.Syntax ts ≡ Ok u → ts ≡ []
unfolding finish_at
finished [] u h = refl
finished (t ∷ ts) u h = absurd cc

ended_holds : (cut : Bool) (ts rest : List Lexeme) (o : Option Joint) → ended_at cut ts ≡ Ok (o, rest) → Joins cut ts rest o
unfolding ended_at
ended_holds cut ts rest o h =
    let a = bind_ok (finish_at why.Syntax ts) _ (o, rest) h in
    let v = over_by cut ts rest o a.2 in
    subst (Joins cut ts rest) (sym v.1) (v.0, sym v.2 ∙ finished ts a.0 a.1, inr v.2)

semicolon_by : (cut : Bool) (ts rest : List Lexeme) (o : Option Joint) (p : Bool × List Lexeme) → accept_at (codes ";") ts ≡ p → (if p.0 then apart_at cut p.1 else ended_at cut p.1) ≡ Ok (o, rest) → Joins cut ts rest o
semicolon_by cut ts rest o (true, us) e h = apart_by cut ts us rest o (length us == 0) (accepted (codes ";") ts us e) refl h
semicolon_by cut ts rest o (false, us) e h = subst (λ (xs : List Lexeme). Joins cut xs rest o) (passed (codes ";") ts us e) (ended_holds cut us rest o h)

pipe_by : (cut : Bool) (ts rest : List Lexeme) (o : Option Joint) (p : Bool × List Lexeme) → accept_at (codes "|") ts ≡ p → (if p.0 then piped_at p.1 else behind_stage_at cut p.1) ≡ Ok (o, rest) → Joins cut ts rest o
pipe_by cut ts rest o (true, us) e h = piped_holds cut ts us rest o (accepted (codes "|") ts us e) h
pipe_by cut ts rest o (false, us) e h = subst (λ (xs : List Lexeme). Joins cut xs rest o) (passed (codes "|") ts us e) (semicolon_by cut us rest o (accept_at (codes ";") us) refl h)

joint_holds : (cut : Bool) (ts rest : List Lexeme) (o : Option Joint) → joint_at cut ts ≡ Ok (o, rest) → Joins cut ts rest o
joint_holds cut ts rest o h = pipe_by cut ts rest o (accept_at (codes "|") ts) refl h

-- ---- all stages

pub record AreRead (cut : Bool) (joined : Joint) (found all : List Stage) (ts rest : List Lexeme) : Type 0 where
  pub first : WrittenStage
  pub others : List WrittenStage
  pub parts : all ≡ found ++ (first.stage ∷ stages_of others)
  pub joint : first.stage.joined ≡ joined
  pub phrase : (stage_phrase first ~ further_phrase others) ts rest
  pub stages : AreStages (first ∷ others)
  pub few : length found + suc (length others) ≤ 200
  pub ends : rest ≡ []
  pub whole : cut ≡ false

few_before : (n : ℕ) → nat_le 200 n ≡ false → n < 200
few_before n h = leb-false 200 n h

stages_by : (n : ℕ) (cut : Bool) (joined : Joint) (found all : List Stage) (s : Stage) (ts us vs rest : List Lexeme) (o : Option Joint)
    → ((next : Joint) (more : List Stage) (xs : List Lexeme) → stages_at n cut next more xs ≡ Ok (all, rest) → AreRead cut next more all xs rest)
    → StageHolds (length found) cut joined s ts us → Joins cut us vs o → if_comes o (λ next. stages_at n cut next (found ++ s ∷ []) vs) (Ok (found ++ s ∷ [], vs)) ≡ Ok (all, rest) → AreRead cut joined found all ts rest
stages_by n cut joined found all s ts us vs rest None more st j h =
    let k = ok_parts (found ++ s ∷ [], vs) (all, rest) h in
    let room = few_before (length found) st.room in
    record {
      first = st.written;
      others = [];
      parts = sym k.0 ∙ ap (λ (x : Stage). found ++ x ∷ []) (sym st.same);
      joint = ap (λ (x : Stage). x.joined) st.same ∙ st.joint;
      phrase = (us, st.phrase j.0, subst (λ (xs : List Lexeme). (word (codes ";") <|> nothing) us xs) k.1 j.2);
      stages = (st.stage, tt);
      few = omega arith;
      ends = sym k.1 ∙ j.1;
      whole = j.0;
    }
stages_by n cut joined found all s ts us vs rest (Some next) more st j h =
    let r = more next (found ++ s ∷ []) vs h in
    let len : length (found ++ s ∷ []) ≡ length found + 1 = length-append found (s ∷ []) in
    let few = r.few in
    record {
      first = st.written;
      others = r.first ∷ r.others;
      parts = r.parts ∙ (append_assoc found (s ∷ []) (r.first.stage ∷ stages_of r.others) ∙ ap (λ (x : Stage). found ++ (x ∷ (r.first.stage ∷ stages_of r.others))) (sym st.same));
      joint = ap (λ (x : Stage). x.joined) st.same ∙ st.joint;
      phrase = (us, st.phrase r.whole, (vs, subst (λ (x : Joint). joint_phrase x us vs) (sym r.joint) j, r.phrase));
      stages = (st.stage, r.stages);
      few = omega arith;
      ends = r.ends;
      whole = r.whole;
    }

pub stages_hold : (n : ℕ) (cut : Bool) (joined : Joint) (found all : List Stage) (ts rest : List Lexeme) → stages_at n cut joined found ts ≡ Ok (all, rest) → AreRead cut joined found all ts rest
unfolding stages_at
stages_hold zero cut joined found all ts rest h = absurd cc
stages_hold (suc n) cut joined found all ts rest h =
    let a = bind_ok (stage_at (length found) cut joined ts) _ (all, rest) h in
    let b = bind_ok (joint_at cut a.0.1) _ (all, rest) a.2 in
    stages_by n cut joined found all a.0.0 ts a.0.1 b.0.1 rest b.0.0 (λ next more xs k. stages_hold n cut next more all xs rest k) (stage_holds (length found) cut joined a.0.0 ts a.0.1 a.1) (joint_holds cut a.0.1 b.0.1 b.0.0 b.1) b.2

-- ---- directives

abbrev Directs : List Lexeme → List Lexeme → Option Directive → Type 0
Directs ts rest None = ts ≡ rest
Directs ts rest (Some d) = (word (directive_word d) ~ word (codes ";")) ts rest

directed_holds : (d : Directive) (o : Option Directive) (ts us rest : List Lexeme) → word (directive_word d) ts us → directed_at d us ≡ Ok (o, rest) → Directs ts rest o
unfolding directed_at
directed_holds d o ts us rest w h =
    let a = bind_ok (expect_at (codes ";") why.Syntax us) _ (o, rest) h in
    let k = ok_parts (Some d, a.0.1) (o, rest) a.2 in
    subst (Directs ts rest) k.0 (us, w, subst (word (codes ";") us) k.1 (expect_taken (codes ";") why.Syntax us a.0.1 a.0.0 a.1))

nosort_by : (o : Option Directive) (ts rest : List Lexeme) (p : Bool × List Lexeme) → accept_at (codes "nosort") ts ≡ p → (if p.0 then directed_at directive.NoSort p.1 else Ok (None, p.1)) ≡ Ok (o, rest) → Directs ts rest o
nosort_by o ts rest (true, us) e h = directed_holds directive.NoSort o ts us rest (accepted (codes "nosort") ts us e) h
nosort_by o ts rest (false, us) e h =
    let k = ok_parts (None, us) (o, rest) h in
    subst (Directs ts rest) k.0 (sym (passed (codes "nosort") ts us e) ∙ k.1)

nopart_by : (o : Option Directive) (ts rest : List Lexeme) (p : Bool × List Lexeme) → accept_at (codes "nopart") ts ≡ p → (if p.0 then directed_at directive.NoPart p.1 else nosort_at p.1) ≡ Ok (o, rest) → Directs ts rest o
nopart_by o ts rest (true, us) e h = directed_holds directive.NoPart o ts us rest (accepted (codes "nopart") ts us e) h
nopart_by o ts rest (false, us) e h = subst (λ (xs : List Lexeme). Directs xs rest o) (passed (codes "nopart") ts us e) (nosort_by o us rest (accept_at (codes "nosort") us) refl h)

pub record AreDirected (found all : Directives) (ts rest : List Lexeme) : Type 0 where
  pub directives : List Directive
  pub folded : all ≡ all_directed found directives
  pub stand : directives_phrase directives ts rest

directives_by : (n : ℕ) (found all : Directives) (ts us rest : List Lexeme) (o : Option Directive) → ((more : Directives) (vs : List Lexeme) → repeated (λ xs. directive_at) directed n more vs ≡ Ok (all, rest) → AreDirected more all vs rest)
    → Directs ts us o → if_comes o (λ d. repeated (λ xs. directive_at) directed n (directed found d) us) (Ok (found, us)) ≡ Ok (all, rest) → AreDirected found all ts rest
directives_by n found all ts us rest None more x h =
    let k = ok_parts (found, us) (all, rest) h in
    record { directives = []; folded = sym k.0; stand = x ∙ k.1 }
directives_by n found all ts us rest (Some d) more x h =
    let a = more (directed found d) us h in
    record { directives = d ∷ a.directives; folded = a.folded; stand = (x.0, x.1, (us, x.2, a.stand)) }

pub directives_hold : (n : ℕ) (found all : Directives) (ts rest : List Lexeme) → repeated (λ xs. directive_at) directed n found ts ≡ Ok (all, rest) → AreDirected found all ts rest
unfolding repeated
directives_hold zero found all ts rest h =
    let k = ok_parts (found, ts) (all, rest) h in
    record { directives = []; folded = sym k.0; stand = k.1 }
directives_hold (suc n) found all ts rest h =
    let a = bind_ok (directive_at ts) _ (all, rest) h in
    directives_by n found all ts a.0.1 rest a.0.0 (λ more vs k. directives_hold n more all vs rest k) (nopart_by a.0.0 ts a.0.1 (accept_at (codes "nopart") ts) refl a.1) a.2
