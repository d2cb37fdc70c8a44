-- What is spelled as stages is read as them.
use Rattle.std.proofs.Common.{◌≡◌, ◌≤◌, ◌⊎◌, inl, inr, ℕ, zero, suc, List, [], ◌∷◌, ◌++◌, length, true, false, Ok, Some, None, refl, sym, ap, ◌∙◌, subst, append_assoc, arith}
use Rattle.std.specs.Prelude.{nat_le, ◌==◌, codes}
use Rattle.std.specs.Str.{bytes_eq}
use Rattle.std.proofs.lemmas.List.{append-nil}
use Rattle.ds_lex.specs.declared.token.Sort.TheVariants as sort
use Rattle.ds_lex.specs.Lexemes.{Lexeme}
use Rattle.ds_lex.specs.Reading.{token_at, sort_at, finish_at}
use Rattle.ds_lex.specs.Phrases.{word, token, nothing, ◌<|>◌}
use Rattle.ds_lex.proofs.Readers.{lacks, lacks_other, none_accepted, bytes_same}
use Rattle.ds_schema.proofs.ListReaders.{accepts}
use Rattle.flow_graph.specs.declared.flow.Method.{Method}
use Rattle.flow_graph.specs.declared.flow.Flag.{Flag}
use Rattle.flow_graph.specs.declared.flow.Mark.{Mark}
use Rattle.flow_graph.specs.declared.flow.Mark.TheVariants as mark
use Rattle.osh_table.specs.declared.operator.OpName.{OpName}
use Rattle.osh_table.specs.Words.{operator_named}
use Rattle.osh_read.specs.declared.fault.OshWhy.TheVariants as why
use Rattle.osh_read.specs.declared.stage.Redirect.{Redirect}
use Rattle.osh_read.specs.declared.stage.Redirect.TheVariants as redirect
use Rattle.osh_read.specs.declared.stage.Joint.{Joint}
use Rattle.osh_read.specs.declared.stage.Joint.TheVariants as joint
use Rattle.osh_read.specs.Reading.{sign_at, repeated, append}
use Rattle.osh_read.specs.Stages.{plain_mark, bears, mark_named, marked_at, mark_at, input_at, output_at, redirect_at, stage_at, piped_at, ended_at, joint_at}
use Rattle.osh_value.specs.ValueGrammar.{sign}
use Rattle.osh_sound.specs.Grammar.{method_phrase, mark_word, mark_phrase, redirect_phrase, redirects_phrase, WrittenStage, stage_phrase, IsStage, joint_phrase, further_phrase}
use Rattle.osh_sound.proofs.TokensSound.{Sound, AllSound, Plain, sign_plain, word_other}
use Rattle.osh_sound.proofs.PhrasesPass.{then_left, token_pass, method_pass, options_pass, mark_pass, redirect_pass}
use Rattle.osh_sound.proofs.MethodsRead.{sort_reads, expect_reads, word_lacks, method_reads}
use Rattle.osh_sound.proofs.OptionsRead.{PlainFront, head_reads}

-- ---- what stands in front

abbrev pub Front : (List ℕ → Type 0) → List Lexeme → Type 0
Front P [] = Unit {0}
Front P (t ∷ ts) = P t.bytes

front_map : (P Q : List ℕ → Type 0) → ((b : List ℕ) → P b → Q b) → (ts : List Lexeme) → Front P ts → Front Q ts
front_map P Q f [] h = tt
front_map P Q f (t ∷ ts) h = f t.bytes h

-- behind a stage, its redirects, its mark, its options
abbrev pub Closes : List ℕ → Type 0
Closes b = (b ≡ codes "|") ⊎ (b ≡ codes ";")

abbrev Redirects : List ℕ → Type 0
Redirects b = (b ≡ codes "<") ⊎ ((b ≡ codes ">") ⊎ Closes b)

abbrev Marks : List ℕ → Type 0
Marks b = (b ≡ codes "[") ⊎ Redirects b

abbrev Isnt : List ℕ → List ℕ → Type 0
Isnt other b = bytes_eq b other ≡ false

closes_isnt : (other b : List ℕ) → bytes_eq (codes "|") other ≡ false → bytes_eq (codes ";") other ≡ false → Closes b → Isnt other b
closes_isnt other b p s h = elim h [ inl e ↦ ap (λ x. bytes_eq x other) e ∙ p | inr e ↦ ap (λ x. bytes_eq x other) e ∙ s ]

redirects_isnt : (other b : List ℕ) → bytes_eq (codes "<") other ≡ false → bytes_eq (codes ">") other ≡ false → bytes_eq (codes "|") other ≡ false → bytes_eq (codes ";") other ≡ false → Redirects b → Isnt other b
redirects_isnt other b l g p s h =
    elim h [
      | inl e ↦ ap (λ x. bytes_eq x other) e ∙ l
      | inr k ↦ elim k [ inl e ↦ ap (λ x. bytes_eq x other) e ∙ g | inr c ↦ closes_isnt other b p s c ]
    ]

marks_plain : (t : Lexeme) → Sound t → Marks t.bytes → Plain t.sort
marks_plain t s h =
    elim h [
      | inl e ↦ sign_plain t _ refl refl e s
      | inr a ↦ elim a [
        | inl e ↦ sign_plain t _ refl refl e s
        | inr b ↦ elim b [
          | inl e ↦ sign_plain t _ refl refl e s
          | inr c ↦ elim c [
            | inl e ↦ sign_plain t _ refl refl e s
            | inr e ↦ sign_plain t _ refl refl e s
          ]
        ]
      ]
    ]

plain_front : (ts : List Lexeme) → AllSound ts → Front Marks ts → PlainFront ts
plain_front [] s h = tt
plain_front (t ∷ ts) s h = marks_plain t s.0 h

front_lacks : (bytes : List ℕ) (ts : List Lexeme) → Front (Isnt bytes) ts → lacks bytes ts
front_lacks bytes [] h = none_accepted bytes
front_lacks bytes (t ∷ ts) h = lacks_other bytes t ts h

no_sign : (bytes : List ℕ) (ts : List Lexeme) → Front (Isnt bytes) ts → sign_at bytes ts ≡ (None, ts)
unfolding sign_at
no_sign bytes [] h = refl
no_sign bytes (t ∷ ts) h = rw h refl

one_sign : (bytes : List ℕ) (t : Lexeme) (ts : List Lexeme) → t.bytes ≡ bytes → sign_at bytes (t ∷ ts) ≡ (Some t, ts)
unfolding sign_at
one_sign bytes t ts e = let b : bytes_eq t.bytes bytes ≡ true = bytes_same t.bytes bytes e in rw b refl

word_front : (bytes : List ℕ) (ts rest : List Lexeme) → word bytes ts rest → Front (λ b. b ≡ bytes) ts
word_front bytes [] rest h = absurd h
word_front bytes (t ∷ ts) rest h = h.0

-- ---- marks

mark_first : (m : Mark) (ts rest : List Lexeme) → mark_word m ts rest → (w : Lexeme) × (ts ≡ w ∷ rest) × (mark_named w.bytes ≡ Some m)
mark_first mark.Seq [] rest h = absurd h
mark_first mark.Par [] rest h = absurd h
mark_first mark.Seq (t ∷ ts) rest h = (t, ap (λ (xs : List Lexeme). t ∷ xs) h.1, ap mark_named h.0)
mark_first mark.Par (t ∷ ts) rest h = (t, ap (λ (xs : List Lexeme). t ∷ xs) h.1, ap mark_named h.0)
mark_first mark.Stored ts rest h = absurd h.0

marked_reads : (op : OpName) (m : Mark) (t : Lexeme) (ts us rest : List Lexeme) → bears (plain_mark op) m ≡ true → mark_word m ts us → word (codes "]") us rest → marked_at op t ts ≡ Ok (m, rest)
unfolding marked_at token_at
marked_reads op m t ts us rest b h w =
    let f = mark_first m ts us h in
    let e = expect_reads (codes "]") why.Syntax us rest w in
    rw (f.1, f.2, e.1, b) refl

mark_by_bracket : (op : OpName) (m : Mark) (ts us vs rest : List Lexeme) → bears (plain_mark op) m ≡ true → word (codes "[") ts us → mark_word m us vs → word (codes "]") vs rest → mark_at op ts ≡ Ok (m, rest)
mark_by_bracket op m [] us vs rest b w h c = absurd w
mark_by_bracket op m (t ∷ ts) us vs rest b w h c = rw (one_sign (codes "[") t ts w.0) (marked_reads op m t ts vs rest b (subst (λ (xs : List Lexeme). mark_word m xs vs) (sym w.1) h) c)

mark_reads : (op : OpName) (m : Mark) (ts rest : List Lexeme) → mark_phrase op m ts rest → Front Redirects rest → mark_at op ts ≡ Ok (m, rest)
mark_reads op m ts rest h f =
    elim h [
      | inl a ↦ mark_by_bracket op m ts a.2.0 a.2.2.0 rest a.1.0 (subst (λ (xs : List Lexeme). word (codes "[") xs a.2.0) (sym a.1.1) a.2.1) a.2.2.1 a.2.2.2
      | inr b ↦
          (let none : sign_at (codes "[") rest ≡ (None, rest) = no_sign (codes "[") rest (front_map Redirects (Isnt (codes "[")) (λ x r. redirects_isnt (codes "[") x refl refl refl refl r) rest f) in
          rw (b.1, none, b.0) refl)
    ]

mark_front : (op : OpName) (m : Mark) (ts rest : List Lexeme) → mark_phrase op m ts rest → Front Redirects rest → Front Marks ts
mark_front op m ts rest h f =
    elim h [
      | inl a ↦ front_map (λ b. b ≡ codes "[") Marks (λ b e. inl e) ts (word_front (codes "[") ts a.2.0 (subst (λ (xs : List Lexeme). word (codes "[") xs a.2.0) (sym a.1.1) a.2.1))
      | inr b ↦ subst (Front Marks) (sym b.1) (front_map Redirects Marks (λ x r. inr r) rest f)
    ]

-- ---- redirects

-- a word at the front isn't a bracket
pub name_front : (Is : List ℕ → Type 0) (ts rest : List Lexeme) → AllSound ts → token sort.Word Is ts rest → lacks (codes "[") ts
name_front Is [] rest s h = absurd h
name_front Is (t ∷ ts) rest s h = lacks_other (codes "[") t ts (word_other t _ refl h.0 s.0)

name_reads : (name : List ℕ) (ts rest : List Lexeme) → token sort.Word (λ bytes. bytes ≡ name) ts rest → (t : Lexeme) × (sort_at sort.Word why.Syntax ts ≡ Ok (t, rest)) × (t.bytes ≡ name)
name_reads name [] rest h = absurd h
name_reads name (t ∷ ts) rest h = (t, sort_reads sort.Word why.Syntax t ts h.0 ∙ ap (λ (xs : List Lexeme). Ok (t, xs)) h.2, h.1)

one_redirect : (r : Redirect) (ts rest : List Lexeme) → AllSound ts → redirect_phrase r ts rest → redirect_at ts ≡ Ok (Some r, rest)
unfolding input_at output_at
one_redirect (redirect.In at name m f) [] rest s h = absurd h.1
one_redirect (redirect.Out at name) [] rest s h = absurd h.1
one_redirect (redirect.In at name m f) (t ∷ ts) rest s h =
    let front = h.1 in
    let method : method_phrase m f ts h.2.0 = subst (λ (xs : List Lexeme). method_phrase m f xs h.2.0) (sym front.2) h.2.1 in
    let left = method_pass m f ts h.2.0 method in
    let read = method_reads m f ts h.2.0 s.1 (name_front _ h.2.0 rest (left.sound s.1) h.2.2) method in
    let n = name_reads name h.2.0 rest h.2.2 in
    rw (one_sign (codes "<") t ts front.1, read, n.1, n.2, front.0) refl
one_redirect (redirect.Out at name) (t ∷ ts) rest s h =
    let front = h.1 in
    let other : sign_at (codes "<") (t ∷ ts) ≡ (None, t ∷ ts) = no_sign (codes "<") (t ∷ ts) (ap (λ b. bytes_eq b (codes "<")) front.1) in
    let name_is : token sort.Word (λ bytes. bytes ≡ name) ts rest = subst (λ (xs : List Lexeme). token sort.Word (λ bytes. bytes ≡ name) xs rest) (sym front.2) h.2 in
    let n = name_reads name ts rest name_is in
    rw (other, one_sign (codes ">") t ts front.1, n.1, n.2, front.0) refl

no_redirect : (ts : List Lexeme) → Front Closes ts → redirect_at ts ≡ Ok (None, ts)
no_redirect ts f =
    let less : sign_at (codes "<") ts ≡ (None, ts) = no_sign (codes "<") ts (front_map Closes (Isnt (codes "<")) (λ b c. closes_isnt (codes "<") b refl refl c) ts f) in
    let greater : sign_at (codes ">") ts ≡ (None, ts) = no_sign (codes ">") ts (front_map Closes (Isnt (codes ">")) (λ b c. closes_isnt (codes ">") b refl refl c) ts f) in
    rw (less, greater) refl

redirect_fewer : (r : Redirect) (t : Lexeme) (ts rest : List Lexeme) → redirect_phrase r (t ∷ ts) rest → length rest ≤ length ts
redirect_fewer (redirect.In at name m f) t ts rest h =
    let a = (method_pass m f h.0 h.2.0 h.2.1).fewer in
    let b = (token_pass sort.Word (λ bytes. bytes ≡ name) h.2.0 rest h.2.2).fewer in
    let c = ap length h.1.2 in
    omega arith
redirect_fewer (redirect.Out at name) t ts rest h =
    let b = (token_pass sort.Word (λ bytes. bytes ≡ name) h.0 rest h.2).fewer in
    let c = ap length h.1.2 in
    omega arith

nothing_redirected : (r : Redirect) (rest : List Lexeme) → redirect_phrase r [] rest → ⊥
nothing_redirected (redirect.In at name m f) rest h = h.1
nothing_redirected (redirect.Out at name) rest h = h.1

redirects_read : (n : ℕ) (found rs : List Redirect) (ts rest : List Lexeme) → length ts ≤ n → AllSound ts → redirects_phrase rs ts rest → Front Closes rest → repeated (λ xs. redirect_at) append n found ts ≡ Ok (found ++ rs, rest)
unfolding repeated
redirects_read zero found [] ts rest l s h f = rw (append-nil found, h) refl
redirects_read (suc n) found [] ts rest l s h f = rw (h, no_redirect rest f, append-nil found) refl
redirects_read n found (r ∷ rs) [] rest l s h f = absurd (nothing_redirected r h.0 h.1)
redirects_read zero found (r ∷ rs) (t ∷ ts) rest l s h f = absurd (omega arith)
redirects_read (suc n) found (r ∷ rs) (t ∷ ts) rest l s h f =
    let few = redirect_fewer r t ts h.0 h.1 in
    let left = redirect_pass r (t ∷ ts) h.0 h.1 in
    rw (one_redirect r (t ∷ ts) h.0 s h.1) (redirects_read n (found ++ r ∷ []) rs h.0 rest (omega arith) (left.sound s) h.2 f ∙ ap (λ (xs : List Redirect). Ok (xs, rest)) (append_assoc found (r ∷ []) rs))

sign_front : (at : ℕ) (bytes : List ℕ) (ts rest : List Lexeme) → sign at bytes ts rest → Front (λ b. b ≡ bytes) ts
sign_front at bytes [] rest h = absurd h
sign_front at bytes (t ∷ ts) rest h = h.1

redirects_front : (rs : List Redirect) (ts rest : List Lexeme) → redirects_phrase rs ts rest → Front Closes rest → Front Redirects ts
redirects_front [] ts rest h f = subst (Front Redirects) (sym h) (front_map Closes Redirects (λ b c. inr (inr c)) rest f)
redirects_front (redirect.In at name m g ∷ rs) ts rest h f = front_map (λ b. b ≡ codes "<") Redirects (λ b e. inl e) ts (sign_front at (codes "<") ts h.1.0 h.1.1)
redirects_front (redirect.Out at name ∷ rs) ts rest h f = front_map (λ b. b ≡ codes ">") Redirects (λ b e. inr (inl e)) ts (sign_front at (codes ">") ts h.1.0 h.1.1)

-- ---- stages

pub stage_reads : (before : ℕ) (w : WrittenStage) (ts rest : List Lexeme) → AllSound ts → stage_phrase w ts rest → IsStage w → nat_le 200 before ≡ false → Front Closes rest → stage_at before false w.stage.joined ts ≡ Ok (w.stage, rest)
unfolding stage_at
stage_reads before w ts rest s h i r f =
    let behind = h.2.2 in
    let left = then_left ts h.0 h.2.0 (token_pass sort.Word (λ bytes. operator_named bytes ≡ Some w.op) ts h.0 h.1) (record { sound = λ x. subst AllSound h.2.1.1 x; fewer = (let l = ap length h.2.1.1 in omega arith) }) in
    let options = options_pass w.op w.options h.2.0 behind.0 behind.1 in
    let marked = mark_pass w.op w.stage.mark behind.0 behind.2.0 behind.2.1 in
    let at_options = options.sound (left.sound s) in
    let at_mark = marked.sound at_options in
    let redirected = redirects_front w.stage.redirects behind.2.0 rest behind.2.2 f in
    let plain = plain_front behind.0 at_options (mark_front w.op w.stage.mark behind.0 behind.2.0 behind.2.1 redirected) in
    let head = head_reads before w.op w.options w.stage.kind ts behind.0 (h.0, h.1, (h.2.0, h.2.1, behind.1)) i.together i.says r plain in
    let mark_is = mark_reads w.op w.stage.mark behind.0 behind.2.0 behind.2.1 redirected in
    let outs = redirects_read (length behind.2.0) [] w.stage.redirects behind.2.0 rest (omega arith) at_mark behind.2.2 f in
    rw (head, mark_is, outs) refl

-- ---- what joins stages

pub further_front : (ws : List WrittenStage) (ts : List Lexeme) → further_phrase ws ts [] → Front Closes ts
further_front [] ts h =
    elim h [
      | inl a ↦ front_map (λ b. b ≡ codes ";") Closes (λ b e. inr e) ts (word_front (codes ";") ts [] a)
      | inr b ↦ subst (Front Closes) (sym b) tt
    ]
further_front (w ∷ ws) ts h = joint_front w.stage.joined ts h.0 h.1
  where
    joint_front : (j : Joint) (ts rest : List Lexeme) → joint_phrase j ts rest → Front Closes ts
    joint_front joint.Apart ts rest k = front_map (λ b. b ≡ codes ";") Closes (λ b e. inr e) ts (word_front (codes ";") ts rest k)
    joint_front (joint.Piped m f) ts rest k = front_map (λ b. b ≡ codes "|") Closes (λ b e. inl e) ts (word_front (codes "|") ts k.0 k.1)

pub piped_reads : (m : Method) (f : Flag) (ts us rest : List Lexeme) → AllSound us → lacks (codes "[") rest → word (codes "|") ts us → method_phrase m f us rest → joint_at false ts ≡ Ok (Some (joint.Piped m f), rest)
unfolding piped_at
piped_reads m f ts us rest s l w h = rw (accepts (codes "|") ts us w, method_reads m f us rest s l h) refl

pub apart_reads : (ts rest : List Lexeme) → (length rest == 0) ≡ false → word (codes ";") ts rest → joint_at false ts ≡ Ok (Some joint.Apart, rest)
apart_reads ts rest n w = rw (word_lacks (codes "|") (codes ";") ts rest refl w, accepts (codes ";") ts rest w, n) refl

pub over_reads : (ts : List Lexeme) → (word (codes ";") <|> nothing) ts [] → joint_at false ts ≡ Ok (None, [])
unfolding ended_at finish_at
over_reads ts h =
    elim h [
      | inl a ↦ rw (word_lacks (codes "|") (codes ";") ts [] refl a, accepts (codes ";") ts [] a) refl
      | inr b ↦ rw (b, none_accepted (codes "|"), none_accepted (codes ";")) refl
    ]
