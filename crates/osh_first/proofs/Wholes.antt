-- What spells a flow, but for the names of its data sets, is read up to its end.
use Rattle.std.proofs.Common.{◌≡◌, ◌≤◌, ◌<◌, ◌+◌, ℕ, zero, suc, List, [], ◌∷◌, ◌++◌, length, false, Ok, Some, None, refl, ap, ◌∙◌, subst, append_assoc, arith, length-append}
use Rattle.std.specs.Prelude.{nat_le, ◌==◌, codes}
use Rattle.std.specs.Str.{bytes_eq}
use Rattle.std.proofs.lemmas.Bool.{ne_eqb, lt-leb, false_from_ne_true}
use Rattle.ds_lex.specs.declared.token.Sort.TheVariants as sort
use Rattle.ds_lex.specs.Lexemes.{Lexeme}
use Rattle.ds_lex.specs.Phrases.{word, token, ◌~◌}
use Rattle.ds_lex.proofs.Readers.{lacks, lacks_other, same_bytes}
use Rattle.ds_schema.proofs.ListReaders.{accepts}
use Rattle.osh_table.specs.declared.operator.OpName.{OpName}
use Rattle.osh_table.specs.Words.{operator_named}
use Rattle.osh_read.specs.declared.fault.OshWhy.TheVariants as why
use Rattle.osh_read.specs.declared.stage.Joint.{Joint}
use Rattle.osh_read.specs.declared.stage.Joint.TheVariants as joint
use Rattle.osh_read.specs.declared.stage.Stage.{Stage}
use Rattle.osh_read.specs.declared.stage.Directive.{Directive}
use Rattle.osh_read.specs.declared.stage.Directive.TheVariants as directive
use Rattle.osh_read.specs.declared.stage.Directives.{Directives}
use Rattle.osh_read.specs.Reading.{repeated}
use Rattle.osh_read.specs.Stages.{joint_at, stages_at, directed_at, directive_at, directed, directives_at, no_directives}
use Rattle.osh_sound.specs.Grammar.{WrittenStage, stage_phrase, joint_phrase, further_phrase, AreStages, stages_of, stages_phrase, directive_word, directives_phrase, all_directed}
use Rattle.osh_sound.proofs.TokensSound.{AllSound}
use Rattle.osh_sound.proofs.PhrasesPass.{Left, then_left, same_left, word_pass, token_pass, method_pass, options_pass, mark_pass, redirects_pass}
use Rattle.osh_sound.proofs.MethodsRead.{expect_reads, word_lacks}
use Rattle.osh_sound.proofs.StagesRead.{stage_reads, further_front, name_front, piped_reads, apart_reads, over_reads}
use Rattle.osh_first.specs.First.{SpellsStages}

-- ---- stages

full_left : (o : OpName) (ts rest : List Lexeme) → ts ≡ rest → Left ts rest
full_left o ts rest e = same_left ts rest e

stage_left : (w : WrittenStage) (ts rest : List Lexeme) → stage_phrase w ts rest → Left ts rest
stage_left w ts rest h =
    then_left ts h.0 rest (token_pass sort.Word (λ bytes. operator_named bytes ≡ Some w.op) ts h.0 h.1)
    (then_left h.0 h.2.0 rest (full_left w.op h.0 h.2.0 h.2.1.1)
    (then_left h.2.0 h.2.2.0 rest (options_pass w.op w.options h.2.0 h.2.2.0 h.2.2.1)
    (then_left h.2.2.0 h.2.2.2.0 rest (mark_pass w.op w.stage.mark h.2.2.0 h.2.2.2.0 h.2.2.2.1) (redirects_pass w.stage.redirects h.2.2.2.0 rest h.2.2.2.2))))

joint_left : (j : Joint) (ts rest : List Lexeme) → joint_phrase j ts rest → Left ts rest
joint_left joint.Apart ts rest h = word_pass (codes ";") ts rest h
joint_left (joint.Piped m f) ts rest h = then_left ts h.0 rest (word_pass (codes "|") ts h.0 h.1) (method_pass m f h.0 rest h.2)

joint_fewer : (j : Joint) (ts rest : List Lexeme) → joint_phrase j ts rest → length rest < length ts
joint_fewer joint.Apart [] rest h = absurd h
joint_fewer joint.Apart (t ∷ ts) rest h = let l = ap length h.1 in omega arith
joint_fewer (joint.Piped m f) [] rest h = absurd h.1
joint_fewer (joint.Piped m f) (t ∷ ts) rest h = let l = ap length h.1.1 in let k = (method_pass m f h.0 rest h.2).fewer in omega arith

some_left : (w : WrittenStage) (ts rest : List Lexeme) → stage_phrase w ts rest → (length ts == 0) ≡ false
some_left w [] rest h = absurd h.1
some_left w (t ∷ ts) rest h = ne_eqb (length (t ∷ ts)) 0 (omega arith)

-- what joins a stage is read before it
joint_reads : (j : Joint) (w : WrittenStage) (ts us rest : List Lexeme) → AllSound ts → joint_phrase j ts us → stage_phrase w us rest → joint_at false ts ≡ Ok (Some j, us)
joint_reads joint.Apart w ts us rest s h p = apart_reads ts us (some_left w us rest p) h
joint_reads (joint.Piped m f) w ts us rest s h p =
    let first = word_pass (codes "|") ts h.0 h.1 in
    let sound = first.sound s in
    piped_reads m f ts h.0 us sound (name_front (λ bytes. operator_named bytes ≡ Some w.op) us p.0 ((method_pass m f h.0 us h.2).sound sound) p.1) h.1 h.2

stages_read : (n : ℕ) (found : List Stage) (w : WrittenStage) (ws : List WrittenStage) (ts : List Lexeme) → length ts ≤ n → AllSound ts → (stage_phrase w ~ further_phrase ws) ts [] → AreStages (w ∷ ws) → length found + suc (length ws) ≤ 200
    → stages_at n false w.stage.joined found ts ≡ Ok (found ++ (w.stage ∷ stages_of ws), [])
unfolding stages_at
stages_read n found w ws [] l s h a f = absurd h.1.1
stages_read zero found w ws (t ∷ ts) l s h a f = absurd (omega arith)
stages_read (suc n) found w [] (t ∷ ts) l s h a f =
    let room : nat_le 200 (length found) ≡ false = lt-leb 200 (length found) (omega arith) in
    rw (stage_reads (length found) w (t ∷ ts) h.0 s h.1 a.0 room (further_front [] h.0 h.2), over_reads h.0 h.2) refl
stages_read (suc n) found w (v ∷ ws) (t ∷ ts) l s h a f =
    let room : nat_le 200 (length found) ≡ false = lt-leb 200 (length found) (omega arith) in
    let left = stage_left w (t ∷ ts) h.0 h.1 in
    let next = h.2 in
    let sound = left.sound s in
    let more = (joint_left v.stage.joined h.0 next.0 next.1).sound sound in
    let few = left.fewer in
    let fewer = joint_fewer v.stage.joined h.0 next.0 next.1 in
    let len : length (found ++ w.stage ∷ []) ≡ length found + 1 = length-append found (w.stage ∷ []) in
    rw (stage_reads (length found) w (t ∷ ts) h.0 s h.1 a.0 room (further_front (v ∷ ws) h.0 h.2), joint_reads v.stage.joined v h.0 next.0 next.2.0 sound next.1 next.2.1)
    (stages_read n (found ++ w.stage ∷ []) v ws next.0 (omega arith) more next.2 a.1 (omega arith) ∙ ap (λ (xs : List Stage). Ok (xs, [])) (append_assoc found (w.stage ∷ []) (v.stage ∷ stages_of ws)))

-- ---- directives

operator_lacks : (bytes : List ℕ) (o : OpName) (ts rest : List Lexeme) → operator_named bytes ≡ None → token sort.Word (λ b. operator_named b ≡ Some o) ts rest → lacks bytes ts
operator_lacks bytes o [] rest n h = absurd h
operator_lacks bytes o (t ∷ ts) rest n h = lacks_other bytes t ts (false_from_ne_true (bytes_eq t.bytes bytes) (λ e. (let same = ap operator_named (same_bytes t.bytes bytes e) in let k = h.1 in absurd cc)))

no_directive : (o : OpName) (ts rest : List Lexeme) → token sort.Word (λ b. operator_named b ≡ Some o) ts rest → directive_at ts ≡ Ok (None, ts)
no_directive o ts rest h = rw (operator_lacks (codes "nopart") o ts rest refl h, operator_lacks (codes "nosort") o ts rest refl h) refl

one_directive : (d : Directive) (ts us rest : List Lexeme) → word (directive_word d) ts us → word (codes ";") us rest → directive_at ts ≡ Ok (Some d, rest)
unfolding directed_at
one_directive directive.NoPart ts us rest h w = let e = expect_reads (codes ";") why.Syntax us rest w in rw (accepts (codes "nopart") ts us h, e.1) refl
one_directive directive.NoSort ts us rest h w = let e = expect_reads (codes ";") why.Syntax us rest w in rw (word_lacks (codes "nopart") (codes "nosort") ts us refl h, accepts (codes "nosort") ts us h, e.1) refl

directives_read : (n : ℕ) (found : Directives) (ds : List Directive) (o : OpName) (ts us rest : List Lexeme) → length ts ≤ n → directives_phrase ds ts us → token sort.Word (λ b. operator_named b ≡ Some o) us rest → repeated (λ xs. directive_at) directed n found ts ≡ Ok (all_directed found ds, us)
unfolding repeated
directives_read zero found [] o ts us rest l h w = rw h refl
directives_read (suc n) found [] o ts us rest l h w = rw (h, no_directive o us rest w) refl
directives_read n found (d ∷ ds) o [] us rest l h w = absurd h.1
directives_read zero found (d ∷ ds) o (t ∷ ts) us rest l h w = absurd (omega arith)
directives_read (suc n) found (d ∷ ds) o (t ∷ ts) us rest l h w =
    let a = ap length h.1.1 in
    let b = (word_pass (codes ";") h.0 h.2.0 h.2.1).fewer in
    rw (one_directive d (t ∷ ts) h.0 h.2.0 h.1 h.2.1) (directives_read n (directed found d) ds o h.2.0 us rest (omega arith) h.2.2 w)

directives_left : (ds : List Directive) (ts rest : List Lexeme) → directives_phrase ds ts rest → Left ts rest
directives_left [] ts rest h = same_left ts rest h
directives_left (d ∷ ds) ts rest h = then_left ts h.0 rest (word_pass (directive_word d) ts h.0 h.1) (then_left h.0 h.2.0 rest (word_pass (codes ";") h.0 h.2.0 h.2.1) (directives_left ds h.2.0 rest h.2.2))

-- ---- all of the tokens

-- the words before the first statement were read, and the stages behind them
pub record AreWhole (ts : List Lexeme) (written : List WrittenStage) : Type 0 where
  pub found : Directives
  pub us : List Lexeme
  pub directives : directives_at ts ≡ Ok (found, us)
  pub stages : stages_at (length us) false joint.Apart [] us ≡ Ok (stages_of written, [])

whole_by : (ts us : List Lexeme) (ds : List Directive) (ws : List WrittenStage) → AllSound ts → directives_phrase ds ts us → stages_phrase ws us [] → AreStages ws → length ws ≤ 200 → AreWhole ts ws
whole_by ts us ds [] s d h a f = absurd h
whole_by ts us ds (w ∷ ws) s d h a f =
    let word = h.1.1 in
    record {
      found = all_directed no_directives ds;
      us = us;
      directives = directives_read (length ts) no_directives ds w.op ts us word.0 (omega arith) d word.1;
      stages = subst (λ (j : Joint). stages_at (length us) false j [] us ≡ Ok (w.stage ∷ stages_of ws, [])) h.0 (stages_read (length us) [] w ws us (omega arith) ((directives_left ds ts us d).sound s) h.1 a (omega arith));
    }

pub whole_read : (ts : List Lexeme) → AllSound ts → (s : SpellsStages ts) → AreWhole ts s.written
whole_read ts sound s = whole_by ts s.tokens.0 s.directives s.written sound s.tokens.1 s.tokens.2 s.stages s.few

pub sound_front : (a b : List Lexeme) → AllSound (a ++ b) → AllSound a
sound_front [] b h = tt
sound_front (t ∷ a) b h = (h.0, sound_front a b h.1)

pub sound_both : (a b : List Lexeme) → AllSound a → AllSound b → AllSound (a ++ b)
sound_both [] b h k = k
sound_both (t ∷ a) b h k = (h.0, sound_both a b h.1 k)

pub sound_back : (a b : List Lexeme) → AllSound (a ++ b) → AllSound b
sound_back [] b h = h
sound_back (t ∷ a) b h = sound_back a b h.1
