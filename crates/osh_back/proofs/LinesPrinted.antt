-- Printed operators, one on a line, are tokens that spell stages.
use Rattle.std.proofs.Common.{◌≡◌, ◌≤◌, ◌<◌, ◌^◌, ◌+◌, inl, ℕ, zero, suc, List, [], ◌∷◌, ◌++◌, length, map, filter, Bool, true, false, Option, Some, None, refl, sym, ap, ◌∙◌, subst, append_assoc, arith}
use Rattle.std.specs.Prelude.{if◌then◌else◌, ◌==◌, position, codes}
use Rattle.std.specs.List.{flat_map, AllByRecursion}
use Rattle.std.proofs.lemmas.Bool.{or_parts}
use Rattle.std.proofs.lemmas.List.Quantifiers.{position-Some}
use Rattle.std.proofs.lemmas.List.Concat.{flat_map-cons}
use Rattle.ds_lex.specs.declared.token.Mode.TheVariants.{Osh}
use Rattle.ds_lex.specs.declared.token.Sort.TheVariants as sort
use Rattle.ds_lex.specs.Lexemes.{Lexeme}
use Rattle.ds_lex.specs.Pieces.{is_opt_byte, is_word_byte}
use Rattle.ds_lex.specs.Phrases.{Phrase, word, token, nothing, nothing_where, ◌~◌}
use Rattle.ds_lex.proofs.Printed.{Prints, Fails, prints_nothing, prints_then, blank_before, prints_word, prints_name, anything}
use Rattle.flow_graph.specs.declared.flow.Mark.{Mark}
use Rattle.flow_graph.specs.declared.flow.Mark.TheVariants as mark
use Rattle.flow_graph.specs.declared.flow.LinkSpec.{LinkSpec}
use Rattle.flow_graph.specs.declared.flow.OpSpec.{OpSpec}
use Rattle.flow_graph.specs.declared.op_kind.OpKind.{OpKind}
use Rattle.flow_graph.specs.declared.op_kind.OpKind.TheVariants as kind
use Rattle.flow_graph.specs.Charts.{no_link}
use Rattle.osh_table.specs.declared.operator.OpName.{OpName}
use Rattle.osh_table.specs.declared.operator.OpName.TheVariants as op
use Rattle.osh_table.specs.declared.option.Form.{Form}
use Rattle.osh_table.specs.declared.option.Form.TheVariants as form
use Rattle.osh_table.specs.Words.{operator_word, operator_named}
use Rattle.osh_read.specs.declared.stage.Redirect.{Redirect}
use Rattle.osh_read.specs.declared.stage.Redirect.TheVariants as redirect
use Rattle.osh_read.specs.declared.stage.Joint.TheVariants as joint
use Rattle.osh_read.specs.Stages.{plain_mark, bears}
use Rattle.osh_print.specs.OptionText.{name_of, options_text}
use Rattle.osh_print.specs.LinkText.{method_text, link_name, input_text, inputs_text, leaves, output_text, outputs_from, outputs_text}
use Rattle.osh_print.specs.FlowText.{mark_text, line, lines}
use Rattle.osh_sound.specs.Grammar.{WrittenOption, options_phrase, mark_word, mark_phrase, WrittenStage, stage_phrase, joint_phrase, further_phrase, stages_phrase}
use Rattle.osh_sound.specs.OptionLaws.{by_form, written_text}
use Rattle.osh_sound.specs.OperatorLaws.{CanBeSaid, written}
use Rattle.osh_sound.specs.Sound.{MarkFits}
use Rattle.osh_sound.proofs.KindsKeep.{CanRun}
use Rattle.osh_sound.proofs.OptionsPrinted.{options_print}
use Rattle.osh_sound.proofs.OperatorsWritten.{written_printed}
use Rattle.osh_back.specs.Spelled.{MethodFits, KindFits, OpFits}
use Rattle.osh_back.proofs.PrintedWords.{prints_as, prints_where, either_left, either_right, opens, closes, semicolon, NoWordByte}
use Rattle.osh_back.proofs.MethodsPrinted.{unplaced, Somewhere, somewhere_then, nowhere, in_prints, out_prints}
use Rattle.osh_back.proofs.OptionsFit.{options_fit}
use Rattle.osh_back.proofs.OptionsStand.{all_complete}

-- ---- texts that begin with a blank

abbrev Spaced : List ℕ → Type 0
Spaced [] = Unit {0}
Spaced (b ∷ bytes) = b ≡ 32

spaced_then : (xs ys : List ℕ) → Spaced xs → Spaced ys → Spaced (xs ++ ys)
spaced_then [] ys a b = b
spaced_then (x ∷ xs) ys a b = a

spaced_ends : (p : ℕ → Bool) → p 32 ≡ false → (x after : List ℕ) → Spaced x → Fails p after → Fails p (x ++ after)
spaced_ends p e [] after s f = f
spaced_ends p e (b ∷ x) after s f = ap p s ∙ e

no_opt_byte : (after : List ℕ) → NoWordByte after → Fails is_opt_byte after
no_opt_byte [] f = tt
no_opt_byte (b ∷ after) f = (or_parts (is_opt_byte b) (b == 46) f).0

spaced_option : (f : Form) (w : WrittenOption) → Spaced (by_form f w)
spaced_option form.Flag w = refl
spaced_option f w = refl

spaced_options : (ws : List WrittenOption) → Spaced (flat_map written_text ws)
spaced_options [] = tt
spaced_options (w ∷ ws) = subst Spaced (sym (flat_map-cons written_text w ws)) (spaced_then (written_text w) (flat_map written_text ws) (spaced_option w.row.form w) (spaced_options ws))

-- ---- inputs and outputs

abbrev pub input_if : Bool → ℕ → LinkSpec → List Redirect
input_if true number l = redirect.In 0 (link_name number) l.method l.flag ∷ []
input_if false number l = []

-- the inputs of an operator as they are printed
abbrev pub inputs : ℕ → ℕ → List LinkSpec → List Redirect
inputs to number [] = []
inputs to number (l ∷ ls) = input_if (l.to == to) number l ++ inputs to (number + 1) ls

abbrev pub output : Option ℕ → List Redirect
output None = []
output (Some number) = redirect.Out 0 (link_name number) ∷ []

abbrev pub outs : List LinkSpec → ℕ → ℕ → ℕ → List Redirect
outs links from zero out = []
outs links from (suc n) out = output (position (leaves from out) links) ++ outs links from n (out + 1)

-- how many links leave an operator
abbrev pub leaving : ℕ → List LinkSpec → ℕ
leaving from links = length (filter (λ (l : LinkSpec). l.from == from) links)

-- the redirects of an operator as they are printed
abbrev pub shapes : List LinkSpec → ℕ → List Redirect
shapes links number = inputs number 0 links ++ outs links number (leaving number links) 0

spaced_input : (b : Bool) (number : ℕ) (l : LinkSpec) → Spaced (if b then codes " < " ++ (method_text l.method l.flag ++ link_name number) else [])
spaced_input true number l = refl
spaced_input false number l = tt

spaced_inputs : (to number : ℕ) (ls : List LinkSpec) → Spaced (inputs_text to number ls)
spaced_inputs to number [] = tt
spaced_inputs to number (l ∷ ls) = spaced_then (input_text to number l) (inputs_text to (number + 1) ls) (spaced_input (l.to == to) number l) (spaced_inputs to (number + 1) ls)

spaced_output : (o : Option ℕ) → Spaced (output_text o)
spaced_output None = tt
spaced_output (Some number) = refl

spaced_outs : (links : List LinkSpec) (from n out : ℕ) → Spaced (outputs_from links from n out)
spaced_outs links from zero out = tt
spaced_outs links from (suc n) out = spaced_then (output_text (position (leaves from out) links)) (outputs_from links from n (out + 1)) (spaced_output (position (leaves from out) links)) (spaced_outs links from n (out + 1))

input_prints : (b : Bool) (number : ℕ) (l : LinkSpec) → number < 2 ^ 64 → MethodFits l.method → Prints Osh (Somewhere (input_if b number l)) (if b then codes " < " ++ (method_text l.method l.flag ++ link_name number) else []) NoWordByte
input_prints true number l n h = in_prints number l.method l.flag n h
input_prints false number l n h = nowhere

inputs_print : (to number : ℕ) (ls : List LinkSpec) → number + length ls < 2 ^ 64 → AllByRecursion (λ (l : LinkSpec). MethodFits l.method) ls → Prints Osh (Somewhere (inputs to number ls)) (inputs_text to number ls) NoWordByte
inputs_print to number [] n h = nowhere
inputs_print to number (l ∷ ls) n h =
    somewhere_then (input_if (l.to == to) number l) (inputs to (number + 1) ls) (input_text to number l) (inputs_text to (number + 1) ls) NoWordByte NoWordByte
    (input_prints (l.to == to) number l (omega arith) h.0) (inputs_print to (number + 1) ls (omega arith) h.1)
    (λ after f. spaced_ends is_word_byte refl (inputs_text to (number + 1) ls) after (spaced_inputs to (number + 1) ls) f)

output_prints : (o : Option ℕ) → ((i : ℕ) → o ≡ Some i → i < 2 ^ 64) → Prints Osh (Somewhere (output o)) (output_text o) NoWordByte
output_prints None h = nowhere
output_prints (Some number) h = out_prints number (h number refl)

position_small : (from out : ℕ) (links : List LinkSpec) → length links < 2 ^ 64 → (i : ℕ) → position (leaves from out) links ≡ Some i → i < 2 ^ 64
position_small from out links n i e = let p = (position-Some (leaves from out) links i no_link e).0 in omega arith

outs_print : (links : List LinkSpec) (from n out : ℕ) → length links < 2 ^ 64 → Prints Osh (Somewhere (outs links from n out)) (outputs_from links from n out) NoWordByte
outs_print links from zero out s = nowhere
outs_print links from (suc n) out s =
    somewhere_then (output (position (leaves from out) links)) (outs links from n (out + 1)) (output_text (position (leaves from out) links)) (outputs_from links from n (out + 1)) NoWordByte NoWordByte
    (output_prints (position (leaves from out) links) (position_small from out links s)) (outs_print links from n (out + 1) s)
    (λ after f. spaced_ends is_word_byte refl (outputs_from links from n (out + 1)) after (spaced_outs links from n (out + 1)) f)

-- the inputs and outputs of an operator
abbrev ends_of : List LinkSpec → ℕ → List ℕ
ends_of links number = inputs_text number 0 links ++ outputs_text number links

spaced_ends_of : (links : List LinkSpec) (number : ℕ) → Spaced (ends_of links number)
spaced_ends_of links number = spaced_then (inputs_text number 0 links) (outputs_text number links) (spaced_inputs number 0 links) (spaced_outs links number (leaving number links) 0)

shapes_print : (links : List LinkSpec) (number : ℕ) → length links < 2 ^ 64 → AllByRecursion (λ (l : LinkSpec). MethodFits l.method) links → Prints Osh (Somewhere (shapes links number)) (ends_of links number) NoWordByte
shapes_print links number n h =
    somewhere_then (inputs number 0 links) (outs links number (leaving number links) 0) (inputs_text number 0 links) (outputs_text number links) NoWordByte NoWordByte
    (inputs_print number 0 links (omega arith) h) (outs_print links number (leaving number links) 0 n)
    (λ after f. spaced_ends is_word_byte refl (outputs_text number links) after (spaced_outs links number (leaving number links) 0) f)

-- ---- marks

bracketed : (o : OpName) (m : Mark) (x : List ℕ) → bears (plain_mark o) m ≡ true → Prints Osh (mark_word m) x NoWordByte → Prints Osh (mark_phrase o m) (codes " [" ++ (x ++ codes "]")) anything
bracketed o m x b p =
    either_left (nothing_where (bears (plain_mark o) m ≡ true) ~ word (codes "[") ~ mark_word m ~ word (codes "]")) (nothing_where (m ≡ plain_mark o)) (codes " [" ++ (x ++ codes "]")) anything
    (prints_as (word (codes "[") ~ mark_word m ~ word (codes "]")) (nothing_where (bears (plain_mark o) m ≡ true) ~ word (codes "[") ~ mark_word m ~ word (codes "]")) (codes " [" ++ (x ++ codes "]")) anything (λ ts rest h. (ts, (b, refl), h))
    (blank_before Osh (word (codes "[") ~ mark_word m ~ word (codes "]")) 32 (codes "[" ++ (x ++ codes "]")) anything refl
    (prints_then Osh (word (codes "[")) (mark_word m ~ word (codes "]")) (codes "[") (x ++ codes "]") anything anything opens
    (prints_then Osh (mark_word m) (word (codes "]")) x (codes "]") NoWordByte anything p closes (λ after f. refl))
    (λ after f. tt))))

unmarked : (o : OpName) (m : Mark) → m ≡ plain_mark o → Prints Osh (mark_phrase o m) [] anything
unmarked o m e = either_right (nothing_where (bears (plain_mark o) m ≡ true) ~ word (codes "[") ~ mark_word m ~ word (codes "]")) (nothing_where (m ≡ plain_mark o)) [] anything (prints_where (m ≡ plain_mark o) e)

mark_prints : (o : OpName) (p m : Mark) → plain_mark o ≡ p → CanRun p m → Prints Osh (mark_phrase o m) (mark_text p m) anything
mark_prints o mark.Par mark.Seq e c = bracketed o mark.Seq (codes "seq") (ap (λ (x : Mark). bears x mark.Seq) e) (prints_word Osh 115 (codes "eq") refl refl)
mark_prints o mark.Par mark.Par e c = unmarked o mark.Par (sym e)
mark_prints o mark.Par mark.Stored e c = absurd (c refl)
mark_prints o mark.Seq mark.Seq e c = unmarked o mark.Seq (sym e)
mark_prints o mark.Seq mark.Par e c = absurd cc
mark_prints o mark.Seq mark.Stored e c = absurd cc
mark_prints o mark.Stored mark.Seq e c = absurd cc
mark_prints o mark.Stored mark.Par e c = absurd cc
mark_prints o mark.Stored mark.Stored e c = unmarked o mark.Stored (sym e)

spaced_mark : (p m : Mark) → Spaced (mark_text p m)
spaced_mark mark.Par mark.Seq = refl
spaced_mark mark.Seq mark.Par = refl
spaced_mark mark.Par mark.Par = tt
spaced_mark mark.Par mark.Stored = tt
spaced_mark mark.Seq mark.Seq = tt
spaced_mark mark.Seq mark.Stored = tt
spaced_mark mark.Stored m = tt

can_run : (k : OpKind) (m : Mark) → KindFits k → MarkFits k m → CanRun (plain_mark (name_of k)) m
can_run (kind.Import file schema delim fixed reject) m f h = h
can_run (kind.Export file delim fixed) m f h = h
can_run (kind.Dsread ds) m f h = h
can_run (kind.Dswrite ds) m f h = h
can_run kind.Copy m f h = h
can_run (kind.Filter test reject) m f h = h
can_run (kind.Transform set reject) m f h = h
can_run (kind.Switch on cases reject) m f h = h
can_run (kind.Modify keep drop rename) m f h = h
can_run (kind.Tsort key) m f h = h
can_run (kind.Remdup key last) m f h = h
can_run (kind.Group key hash results) m f h = h
can_run (kind.InnerJoin key) m f h = h
can_run (kind.LeftOuterJoin key) m f h = h
can_run (kind.RightOuterJoin key) m f h = h
can_run (kind.FullOuterJoin key) m f h = h
can_run (kind.Merge key keepbad reject) m f h = h
can_run (kind.Lookup key missing) m f h = h
can_run (kind.Changecapture key values keepcopy) m f h = h
can_run (kind.Funnel sequence sort) m f h = h

-- ---- operators

abbrev Named : OpName → List ℕ → Type 0
Named o bytes = operator_named bytes ≡ Some o

operator_prints : (k : OpKind) → KindFits k → Prints Osh (token sort.Word (Named (name_of k))) (operator_word (name_of k)) NoWordByte
operator_prints (kind.Import file schema delim fixed reject) h = prints_name Osh 105 (codes "mport") (Named op.Import) refl refl refl
operator_prints (kind.Export file delim fixed) h = prints_name Osh 101 (codes "xport") (Named op.Export) refl refl refl
operator_prints (kind.Dsread ds) h = prints_name Osh 100 (codes "sread") (Named op.Dsread) refl refl refl
operator_prints (kind.Dswrite ds) h = prints_name Osh 100 (codes "swrite") (Named op.Dswrite) refl refl refl
operator_prints kind.Copy h = prints_name Osh 99 (codes "opy") (Named op.Copy) refl refl refl
operator_prints (kind.Filter test reject) h = prints_name Osh 102 (codes "ilter") (Named op.Filter) refl refl refl
operator_prints (kind.Transform set reject) h = prints_name Osh 116 (codes "ransform") (Named op.Transform) refl refl refl
operator_prints (kind.Switch on cases reject) h = prints_name Osh 115 (codes "witch") (Named op.Switch) refl refl refl
operator_prints (kind.Modify keep drop rename) h = prints_name Osh 109 (codes "odify") (Named op.Modify) refl refl refl
operator_prints (kind.Tsort key) h = prints_name Osh 116 (codes "sort") (Named op.Tsort) refl refl refl
operator_prints (kind.Remdup key last) h = prints_name Osh 114 (codes "emdup") (Named op.Remdup) refl refl refl
operator_prints (kind.Group key hash results) h = prints_name Osh 103 (codes "roup") (Named op.Group) refl refl refl
operator_prints (kind.InnerJoin key) h = prints_name Osh 105 (codes "nnerjoin") (Named op.InnerJoin) refl refl refl
operator_prints (kind.LeftOuterJoin key) h = prints_name Osh 108 (codes "eftouterjoin") (Named op.LeftOuterJoin) refl refl refl
operator_prints (kind.RightOuterJoin key) h = prints_name Osh 114 (codes "ightouterjoin") (Named op.RightOuterJoin) refl refl refl
operator_prints (kind.FullOuterJoin key) h = prints_name Osh 102 (codes "ullouterjoin") (Named op.FullOuterJoin) refl refl refl
operator_prints (kind.Merge key keepbad reject) h = prints_name Osh 109 (codes "erge") (Named op.Merge) refl refl refl
operator_prints (kind.Lookup key missing) h = prints_name Osh 108 (codes "ookup") (Named op.Lookup) refl refl refl
operator_prints (kind.Changecapture key values keepcopy) h = prints_name Osh 99 (codes "hangecapture") (Named op.Changecapture) refl refl refl
operator_prints (kind.Funnel sequence sort) h = prints_name Osh 102 (codes "unnel") (Named op.Funnel) refl refl refl

pub can_be_said : (k : OpKind) → KindFits k → CanBeSaid k
can_be_said (kind.Transform set reject) h = h.0
can_be_said k h = tt

-- an operator without the end of its line
abbrev op_text : List LinkSpec → ℕ → OpSpec → List ℕ
op_text links number o = operator_word (name_of o.kind) ++ (options_text o.kind ++ (mark_text (plain_mark (name_of o.kind)) o.mark ++ ends_of links number))

-- a stage of an operator, as it is printed
pub record IsLine (links : List LinkSpec) (number : ℕ) (o : OpSpec) (w : WrittenStage) : Type 0 where
  pub op : w.op ≡ name_of o.kind
  pub options : w.options ≡ written o.kind
  pub kind : w.stage.kind ≡ o.kind
  pub mark : w.stage.mark ≡ o.mark
  pub joined : w.stage.joined ≡ joint.Apart
  pub redirects : map unplaced w.stage.redirects ≡ shapes links number

unfoldable pub OneLine : List LinkSpec → ℕ → OpSpec → Phrase
OneLine links number o ts rest = (w : WrittenStage) × IsLine links number o w × stage_phrase w ts rest

abbrev stage_with : OpSpec → List Redirect → WrittenStage
stage_with o found = record { op = name_of o.kind; options = written o.kind; stage = record { kind = o.kind; mark = o.mark; joined = joint.Apart; redirects = found } }

line_prints : (links : List LinkSpec) (number : ℕ) (o : OpSpec) → length links < 2 ^ 64 → AllByRecursion (λ (l : LinkSpec). MethodFits l.method) links → OpFits o → Prints Osh (OneLine links number o) (op_text links number o) NoWordByte
unfolding OneLine Somewhere
line_prints links number o n h f =
    let name = name_of o.kind in
    let x = flat_map written_text (written o.kind) in
    let y = mark_text (plain_mark name) o.mark in
    let z = ends_of links number in
    let spaced = spaced_then y z (spaced_mark (plain_mark name) o.mark) (spaced_ends_of links number) in
    subst (λ (t : List ℕ). Prints Osh (OneLine links number o) (operator_word name ++ (t ++ (y ++ z))) NoWordByte) (sym (written_printed o.kind (can_be_said o.kind f.0)))
    (prints_as (token sort.Word (Named name) ~ options_phrase name (written o.kind) ~ mark_phrase name o.mark ~ Somewhere (shapes links number)) (OneLine links number o) (operator_word name ++ (x ++ (y ++ z))) NoWordByte
    (λ ts rest p. (let q = p.2 in let r = q.2 in let s = r.2 in
    (stage_with o s.0, record { op = refl; options = refl; kind = refl; mark = refl; joined = refl; redirects = s.1 }, (p.0, p.1, (p.0, (all_complete o.kind f.0, refl), (q.0, q.1, (r.0, r.1, s.2)))))))
    (prints_then Osh (token sort.Word (Named name)) (options_phrase name (written o.kind) ~ mark_phrase name o.mark ~ Somewhere (shapes links number)) (operator_word name) (x ++ (y ++ z)) NoWordByte NoWordByte (operator_prints o.kind f.0)
    (prints_then Osh (options_phrase name (written o.kind)) (mark_phrase name o.mark ~ Somewhere (shapes links number)) x (y ++ z) (Fails is_opt_byte) NoWordByte (options_print name (written o.kind) (options_fit o.kind f.0))
    (prints_then Osh (mark_phrase name o.mark) (Somewhere (shapes links number)) y z anything NoWordByte (mark_prints name (plain_mark name) o.mark refl (can_run o.kind o.mark f.0 f.1)) (shapes_print links number n h) (λ after g. tt))
    (λ after g. spaced_ends is_opt_byte refl (y ++ z) after spaced (no_opt_byte after g)))
    (λ after g. spaced_ends is_word_byte refl (x ++ (y ++ z)) after (spaced_then x (y ++ z) (spaced_options (written o.kind)) spaced) g)))

-- ---- lines

-- stages of these operators, the first of this number
abbrev pub AreLines : List LinkSpec → ℕ → List OpSpec → List WrittenStage → Type 0
AreLines links number [] [] = Unit {0}
AreLines links number [] (w ∷ ws) = ⊥
AreLines links number (o ∷ os) [] = ⊥
AreLines links number (o ∷ os) (w ∷ ws) = IsLine links number o w × AreLines links (number + 1) os ws

unfoldable pub MoreLines : List LinkSpec → ℕ → List OpSpec → Phrase
MoreLines links number os ts rest = (ws : List WrittenStage) × AreLines links number os ws × further_phrase ws ts rest

-- the end of a line, and further lines
abbrev pub more_text : List LinkSpec → ℕ → List OpSpec → List ℕ
more_text links number [] = 59 ∷ 10 ∷ []
more_text links number (o ∷ os) = 59 ∷ 10 ∷ (op_text links number o ++ more_text links (number + 1) os)

more_ends : (links : List LinkSpec) (number : ℕ) (os : List OpSpec) (after : List ℕ) → NoWordByte (more_text links number os ++ after)
more_ends links number [] after = refl
more_ends links number (o ∷ os) after = refl

more_print : (links : List LinkSpec) (number : ℕ) (os : List OpSpec) → length links < 2 ^ 64 → AllByRecursion (λ (l : LinkSpec). MethodFits l.method) links → AllByRecursion OpFits os → Prints Osh (MoreLines links number os) (more_text links number os) anything
unfolding OneLine MoreLines
more_print links number [] n h f =
    prints_as (word (codes ";") ~ nothing) (MoreLines links number []) (59 ∷ 10 ∷ []) anything (λ ts rest p. ([], tt, inl (subst (λ (us : List Lexeme). word (codes ";") ts us) p.2 p.1)))
    (prints_then Osh (word (codes ";")) nothing (codes ";") (10 ∷ []) anything anything semicolon (blank_before Osh nothing 10 [] anything refl (prints_nothing Osh)) (λ after g. tt))
more_print links number (o ∷ os) n h f =
    prints_as (word (codes ";") ~ OneLine links number o ~ MoreLines links (number + 1) os) (MoreLines links number (o ∷ os)) (more_text links number (o ∷ os)) anything
    (λ ts rest p. (let q = p.2 in let a = q.1 in let b = q.2 in (a.0 ∷ b.0, (a.1, b.1), (p.0, subst (λ j. joint_phrase j ts p.0) (sym a.1.joined) p.1, (q.0, a.2, b.2)))))
    (prints_then Osh (word (codes ";")) (OneLine links number o ~ MoreLines links (number + 1) os) (codes ";") (10 ∷ (op_text links number o ++ more_text links (number + 1) os)) anything anything semicolon
    (blank_before Osh (OneLine links number o ~ MoreLines links (number + 1) os) 10 (op_text links number o ++ more_text links (number + 1) os) anything refl
    (prints_then Osh (OneLine links number o) (MoreLines links (number + 1) os) (op_text links number o) (more_text links (number + 1) os) NoWordByte anything (line_prints links number o n h f.0) (more_print links (number + 1) os n h f.1) (λ after g. more_ends links (number + 1) os after)))
    (λ after g. tt))

unfoldable pub AllLines : List LinkSpec → ℕ → List OpSpec → Phrase
AllLines links number os ts rest = (ws : List WrittenStage) × AreLines links number os ws × stages_phrase ws ts rest

line_ends : (links : List LinkSpec) (number : ℕ) (o : OpSpec) (rest : List ℕ) → line links number o ++ rest ≡ op_text links number o ++ (59 ∷ 10 ∷ rest)
line_ends links number o rest = simp append_assoc

-- the lines in another grouping
lines_are : (links : List LinkSpec) (number : ℕ) (o : OpSpec) (os : List OpSpec) → lines links number (o ∷ os) ≡ op_text links number o ++ more_text links (number + 1) os
lines_are links number o [] = line_ends links number o []
lines_are links number o (p ∷ os) = line_ends links number o (lines links (number + 1) (p ∷ os)) ∙ ap (λ (xs : List ℕ). op_text links number o ++ (59 ∷ 10 ∷ xs)) (lines_are links (number + 1) p os)

pub lines_print : (links : List LinkSpec) (number : ℕ) (os : List OpSpec) → 1 ≤ length os → length links < 2 ^ 64 → AllByRecursion (λ (l : LinkSpec). MethodFits l.method) links → AllByRecursion OpFits os → Prints Osh (AllLines links number os) (lines links number os) anything
unfolding OneLine MoreLines AllLines
lines_print links number [] s n h f = absurd (omega arith)
lines_print links number (o ∷ os) s n h f =
    subst (λ (t : List ℕ). Prints Osh (AllLines links number (o ∷ os)) t anything) (sym (lines_are links number o os))
    (prints_as (OneLine links number o ~ MoreLines links (number + 1) os) (AllLines links number (o ∷ os)) (op_text links number o ++ more_text links (number + 1) os) anything
    (λ ts rest p. (let a = p.1 in let b = p.2 in (a.0 ∷ b.0, (a.1, b.1), (a.1.joined, (p.0, a.2, b.2)))))
    (prints_then Osh (OneLine links number o) (MoreLines links (number + 1) os) (op_text links number o) (more_text links (number + 1) os) NoWordByte anything (line_prints links number o n h f.0) (more_print links (number + 1) os n h f.1) (λ after g. more_ends links (number + 1) os after)))
