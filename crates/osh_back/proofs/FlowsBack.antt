-- The printed text of a flow that can be spelled is read as the flow.
use Rattle.std.proofs.Common.{◌≡◌, ◌≤◌, ◌<◌, ◌^◌, ◌+◌, ℕ, zero, suc, List, [], ◌∷◌, ◌++◌, length, take, map, filter, get_or, cond, Bool, true, false, Some, None, refl, sym, ap, ◌∙◌, subst, append_assoc, arith, length-append, lit<}
use Rattle.std.specs.Prelude.{if◌then◌else◌, ◌==◌, nat_lt, codes}
use Rattle.std.specs.List.{AllByRecursion}
use Rattle.std.proofs.lemmas.Bool.{le-ltb}
use Rattle.std.proofs.lemmas.List.{append-nil, take_all}
use Rattle.ds_lex.specs.declared.token.Mode.TheVariants.{Osh}
use Rattle.ds_lex.specs.declared.lexeme.End.TheVariants as ends
use Rattle.ds_lex.specs.Lexemes.{Lexeme, lexed_text, limited_text}
use Rattle.ds_lex.specs.Phrases.{Phrase, word, nothing, ◌~◌}
use Rattle.ds_lex.proofs.Printed.{Lexes, lexes_end, Prints, prints_nothing, prints_then, blank_before, prints_word, anything}
use Rattle.flow_graph.specs.declared.flow.Flow.{Flow}
use Rattle.flow_graph.specs.declared.flow.LinkSpec.{LinkSpec}
use Rattle.flow_graph.specs.declared.flow.OpSpec.{OpSpec}
use Rattle.flow_graph.specs.Charts.{no_link}
use Rattle.osh_read.specs.declared.stage.Directive.{Directive}
use Rattle.osh_read.specs.declared.stage.Directive.TheVariants as directive
use Rattle.osh_read.specs.declared.stage.Directives.{Directives}
use Rattle.osh_read.specs.Stages.{no_directives}
use Rattle.osh_read.specs.Joining.{ops, links, outputs}
use Rattle.osh_read.specs.Flows.{made}
use Rattle.osh_print.specs.LinkText.{method_text, link_name, inputs_text, outputs_text}
use Rattle.osh_print.specs.OptionText.{name_of, options_text}
use Rattle.osh_print.specs.FlowText.{mark_text, line, lines, directive_text, flow_text}
use Rattle.osh_table.specs.Words.{operator_word}
use Rattle.osh_read.specs.Stages.{plain_mark}
use Rattle.osh_value.specs.Kinds.{kind_of}
use Rattle.osh_sound.specs.Grammar.{setting_of, StandTogether, WrittenStage, IsStage, AreStages, stages_of, directives_phrase, all_directed, SpellsFlow, SpellsText}
use Rattle.osh_sound.proofs.OperatorsWritten.{written_says}
use Rattle.osh_sound.proofs.FlowsRead.{spelled_read}
use Rattle.osh_back.specs.Spelled.{OpFits, CanBeSpelled}
use Rattle.osh_back.specs.BackLaws.{PrintedReadsBack}
use Rattle.osh_back.proofs.PrintedWords.{semicolon, NoWordByte}
use Rattle.osh_back.proofs.OptionsStand.{stand_together}
use Rattle.osh_back.proofs.LinesPrinted.{can_be_said, IsLine, AreLines, AllLines, lines_print}
use Rattle.osh_back.proofs.OutputsBack.{ne_from, Leaves, all_leave, Sources, all_sources}
use Rattle.osh_back.proofs.InputsBack.{links_back}
use Rattle.osh_back.proofs.JoinedBack.{all_joined}

-- ---- the words before the first line

abbrev if_set : Bool → Directive → List Directive
if_set true d = d ∷ []
if_set false d = []

abbrev directives_of : Flow → List Directive
directives_of f = if_set f.nopart directive.NoPart ++ if_set f.nosort directive.NoSort

directive_prints : (b : ℕ) (more : List ℕ) (P : Phrase) (x : List ℕ) → Prints Osh (word (b ∷ more)) (b ∷ more) NoWordByte → Prints Osh P x anything → Prints Osh (word (b ∷ more) ~ word (codes ";") ~ P) ((b ∷ more) ++ (59 ∷ 10 ∷ x)) anything
directive_prints b more P x w p =
    prints_then Osh (word (b ∷ more)) (word (codes ";") ~ P) (b ∷ more) (59 ∷ 10 ∷ x) NoWordByte anything w
    (prints_then Osh (word (codes ";")) P (codes ";") (10 ∷ x) anything anything semicolon (blank_before Osh P 10 x anything refl p) (λ after f. tt))
    (λ after f. refl)

no_part : Prints Osh (word (codes "nopart")) (codes "nopart") NoWordByte
no_part = prints_word Osh 110 (codes "opart") refl refl

no_sort : Prints Osh (word (codes "nosort")) (codes "nosort") NoWordByte
no_sort = prints_word Osh 110 (codes "osort") refl refl

directives_print : (nopart nosort : Bool) → Prints Osh (directives_phrase (if_set nopart directive.NoPart ++ if_set nosort directive.NoSort)) (directive_text nopart (codes "nopart") ++ directive_text nosort (codes "nosort")) anything
directives_print true true = directive_prints 110 (codes "opart") (directives_phrase (directive.NoSort ∷ [])) (codes "nosort" ++ (59 ∷ 10 ∷ [])) no_part (directive_prints 110 (codes "osort") nothing [] no_sort (prints_nothing Osh))
directives_print true false = directive_prints 110 (codes "opart") nothing [] no_part (prints_nothing Osh)
directives_print false true = directive_prints 110 (codes "osort") nothing [] no_sort (prints_nothing Osh)
directives_print false false = prints_nothing Osh

directives_back : (nopart nosort : Bool) → all_directed no_directives (if_set nopart directive.NoPart ++ if_set nosort directive.NoSort) ≡ record { nopart = nopart; nosort = nosort }
directives_back true true = refl
directives_back true false = refl
directives_back false true = refl
directives_back false false = refl

flow_prints : (f : Flow) → CanBeSpelled f → length f.links < 2 ^ 64 → Prints Osh (directives_phrase (directives_of f) ~ AllLines f.links 0 f.ops) (flow_text f) anything
flow_prints f h s =
    subst (λ (t : List ℕ). Prints Osh (directives_phrase (directives_of f) ~ AllLines f.links 0 f.ops) t anything) (append_assoc (directive_text f.nopart (codes "nopart")) (directive_text f.nosort (codes "nosort")) (lines f.links 0 f.ops))
    (prints_then Osh (directives_phrase (directives_of f)) (AllLines f.links 0 f.ops) (directive_text f.nopart (codes "nopart") ++ directive_text f.nosort (codes "nosort")) (lines f.links 0 f.ops) anything anything
    (directives_print f.nopart f.nosort) (lines_print f.links 0 f.ops h.some s h.links.methods h.operators) (λ after g. tt))

-- ---- what the lines say

lines_stand : (links : List LinkSpec) (number : ℕ) (os : List OpSpec) (ws : List WrittenStage) → AllByRecursion OpFits os → AreLines links number os ws → AreStages ws
lines_stand links number [] [] f h = tt
lines_stand links number [] (w ∷ ws) f h = absurd h
lines_stand links number (o ∷ os) [] f h = absurd h
lines_stand links number (o ∷ os) (w ∷ ws) f h = (one o w f.0 h.0, lines_stand links (number + 1) os ws f.1 h.1)
  where
    one : (o : OpSpec) (w : WrittenStage) → OpFits o → IsLine links number o w → IsStage w
    one o w f l = record {
      together = subst (λ ws. StandTogether [] ws) (sym l.options) (stand_together o.kind f.0);
      says = ap (λ x. kind_of x (map setting_of w.options)) l.op ∙ (ap (λ xs. kind_of (name_of o.kind) (map setting_of xs)) l.options ∙ (written_says o.kind (can_be_said o.kind f.0) ∙ ap (λ k. Some k) (sym l.kind)));
    }

as_many : (links : List LinkSpec) (number : ℕ) (os : List OpSpec) (ws : List WrittenStage) → AreLines links number os ws → length ws ≡ length os
as_many links number [] [] h = refl
as_many links number [] (w ∷ ws) h = absurd h
as_many links number (o ∷ os) [] h = absurd h
as_many links number (o ∷ os) (w ∷ ws) h = ap (λ n. suc n) (as_many links (number + 1) os ws h.1)

spec_is : (o p : OpSpec) → o.kind ≡ p.kind → o.mark ≡ p.mark → o ≡ p
spec_is o p e f =
    let a : o ≡ record { kind = p.kind; mark = o.mark } = ap (λ x. let q : OpSpec = record { kind = x; mark = o.mark } in q) e in
    let b : record { kind = p.kind; mark = o.mark } ≡ p = ap (λ x. let q : OpSpec = record { kind = p.kind; mark = x } in q) f in
    a ∙ b

ops_back : (links : List LinkSpec) (number : ℕ) (os : List OpSpec) (ws : List WrittenStage) → AreLines links number os ws → ops (stages_of ws) ≡ os
ops_back links number [] [] h = refl
ops_back links number [] (w ∷ ws) h = absurd h
ops_back links number (o ∷ os) [] h = absurd h
ops_back links number (o ∷ os) (w ∷ ws) h =
    ap (λ x. x ∷ ops (stages_of ws)) (spec_is (record { kind = w.stage.kind; mark = w.stage.mark }) o h.0.kind h.0.mark) ∙ ap (λ (xs : List OpSpec). o ∷ xs) (ops_back links (number + 1) os ws h.1)

at_all : {X : Type 0} (P : X → Type 0) (xs : List X) (i : ℕ) (d : X) → AllByRecursion P xs → i < length xs → P (get_or xs i d)
at_all P [] i d h l = absurd (omega arith)
at_all P (x ∷ xs) zero d h l = h.0
at_all P (x ∷ xs) (suc i) d h l = at_all P xs i d h.1 (omega arith)

flow_is : (f : Flow) (ws : List WrittenStage) → CanBeSpelled f → length f.links < 2 ^ 64 → AreLines f.links 0 f.ops ws → f ≡ made (all_directed no_directives (directives_of f)) (stages_of ws)
flow_is f ws h s l =
    let leave : (from : ℕ) → Leaves f.links from = (λ from. all_leave f.links from (h.links.outputs from)) in
    let within : (i : ℕ) → i < length f.links → ((get_or f.links i no_link).from < length f.ops) × ((get_or f.links i no_link).to < length f.ops) = (λ i k. at_all (λ (x : LinkSpec). (x.from < length f.ops) × (x.to < length f.ops)) f.links i no_link h.links.within k) in
    let sources : Sources f.links (outputs 0 (stages_of ws)) = all_sources f.links f.ops ws s leave (λ i k. (within i k).0) l in
    let same : links (stages_of ws) ≡ f.links = links_back f.links (outputs 0 (stages_of ws)) f.ops ws sources h.links.ordered h.links.inputs h.links.within l in
    let kinds : ops (stages_of ws) ≡ f.ops = ops_back f.links 0 f.ops ws l in
    let before = directives_back f.nopart f.nosort in
    sym (ap (λ (d : Directives). made d (stages_of ws)) before
    ∙ (ap (λ xs. let q : Flow = record { nopart = f.nopart; nosort = f.nosort; ops = xs; links = links (stages_of ws) } in q) kinds
    ∙ ap (λ xs. let q : Flow = record { nopart = f.nopart; nosort = f.nosort; ops = f.ops; links = xs } in q) same))

-- ---- the text is no shorter than its links are many

abbrev goes : ℕ → LinkSpec → Bool
goes to l = l.to == to

inputs_long : (to number : ℕ) (ls : List LinkSpec) → length (filter (goes to) ls) ≤ length (inputs_text to number ls)
inputs_long to number [] = omega arith
inputs_long to number (l ∷ ls) = by (l.to == to) (inputs_long to (number + 1) ls)
  where
    by : (b : Bool) → length (filter (goes to) ls) ≤ length (inputs_text to (number + 1) ls) → length (cond b (l ∷ filter (goes to) ls) (filter (goes to) ls)) ≤ length ((if b then codes " < " ++ (method_text l.method l.flag ++ link_name number) else []) ++ inputs_text to (number + 1) ls)
    by true k = let e = length-append (codes " < " ++ (method_text l.method l.flag ++ link_name number)) (inputs_text to (number + 1) ls) in omega arith
    by false k = k

line_long : (links : List LinkSpec) (number : ℕ) (o : OpSpec) → length (filter (goes number) links) ≤ length (line links number o)
line_long links number o =
    let a = length-append (operator_word (name_of o.kind)) (options_text o.kind ++ (mark_text (plain_mark (name_of o.kind)) o.mark ++ (inputs_text number 0 links ++ (outputs_text number links ++ (59 ∷ 10 ∷ []))))) in
    let b = length-append (options_text o.kind) (mark_text (plain_mark (name_of o.kind)) o.mark ++ (inputs_text number 0 links ++ (outputs_text number links ++ (59 ∷ 10 ∷ [])))) in
    let c = length-append (mark_text (plain_mark (name_of o.kind)) o.mark) (inputs_text number 0 links ++ (outputs_text number links ++ (59 ∷ 10 ∷ []))) in
    let d = length-append (inputs_text number 0 links) (outputs_text number links ++ (59 ∷ 10 ∷ [])) in
    let e = inputs_long number 0 links in
    omega arith

-- how many links lead to one of these operators
reached : ℕ → ℕ → List LinkSpec → ℕ
reached number zero ls = 0
reached number (suc n) ls = length (filter (goes number) ls) + reached (number + 1) n ls

lines_long : (links : List LinkSpec) (number : ℕ) (os : List OpSpec) → reached number (length os) links ≤ length (lines links number os)
unfolding reached
lines_long links number [] = omega arith
lines_long links number (o ∷ os) = let a = length-append (line links number o) (lines links (number + 1) os) in let b = line_long links number o in let c = lines_long links (number + 1) os in omega arith

none_reached : (number n : ℕ) → reached number n [] ≡ 0
unfolding reached
none_reached number zero = refl
none_reached number (suc n) = let m = none_reached (number + 1) n in omega arith

more_reached : (number n : ℕ) (l : LinkSpec) (ls : List LinkSpec) → reached number n ls ≤ reached number n (l ∷ ls)
unfolding reached
more_reached number zero l ls = omega arith
more_reached number (suc n) l ls = let m = more_reached (number + 1) n l ls in let k = by (l.to == number) in omega arith
  where
    by : (b : Bool) → length (filter (goes number) ls) ≤ length (cond b (l ∷ filter (goes number) ls) (filter (goes number) ls))
    by true = omega arith
    by false = omega arith

one_reached : (number n : ℕ) (l : LinkSpec) (ls : List LinkSpec) → number ≤ l.to → l.to < number + n → suc (reached number n ls) ≤ reached number n (l ∷ ls)
unfolding reached
one_reached number zero l ls low high = absurd (omega arith)
one_reached number (suc n) l ls low high = by (l.to == number) refl (more_reached (number + 1) n l ls) (λ k. one_reached (number + 1) n l ls k (omega arith))
  where
    by : (b : Bool) → (l.to == number) ≡ b → reached (number + 1) n ls ≤ reached (number + 1) n (l ∷ ls) → (number + 1 ≤ l.to → suc (reached (number + 1) n ls) ≤ reached (number + 1) n (l ∷ ls))
        → suc (length (filter (goes number) ls) + reached (number + 1) n ls) ≤ length (cond b (l ∷ filter (goes number) ls) (filter (goes number) ls)) + reached (number + 1) n (l ∷ ls)
    by true e more one = omega arith
    by false e more one = (let k = one (let ne = ne_from l.to number e in omega arith) in omega arith)

all_reached : (n : ℕ) (ls : List LinkSpec) → AllByRecursion (λ (l : LinkSpec). (l.from < n) × (l.to < n)) ls → length ls ≤ reached 0 n ls
all_reached n [] h = omega arith
all_reached n (l ∷ ls) h = let m = all_reached n ls h.1 in let k = one_reached 0 n l ls (omega arith) (let t = h.0.1 in omega arith) in omega arith

links_few : (f : Flow) → CanBeSpelled f → length (flow_text f) ≤ 1_048_576 → length f.links < 2 ^ 64
links_few f h s =
    let a = length-append (directive_text f.nopart (codes "nopart")) (directive_text f.nosort (codes "nosort") ++ lines f.links 0 f.ops) in
    let b = length-append (directive_text f.nosort (codes "nosort")) (lines f.links 0 f.ops) in
    let c = lines_long f.links 0 f.ops in
    let d = all_reached (length f.ops) f.links h.links.within in
    let e : 1048576 < 2 ^ 64 = lit< tt in
    omega arith

-- ---- the whole text

flow_spelled : (f : Flow) → CanBeSpelled f → length f.links < 2 ^ 64 → (ts : List Lexeme) → (directives_phrase (directives_of f) ~ AllLines f.links 0 f.ops) ts [] → SpellsFlow ts f
unfolding AllLines
flow_spelled f h s ts p =
    let a = p.2 in
    let few = h.few in
    let many = as_many f.links 0 f.ops a.0 a.1 in
    record {
      directives = directives_of f;
      written = a.0;
      tokens = (p.0, p.1, a.2);
      stages = lines_stand f.links 0 f.ops a.0 h.operators a.1;
      few = omega arith;
      joined = all_joined f.links f.ops a.0 s (λ from. all_leave f.links from (h.links.outputs from)) (λ i k. at_all (λ (x : LinkSpec). (x.from < length f.ops) × (x.to < length f.ops)) f.links i no_link h.links.within k) a.1;
      made = flow_is f a.0 h s a.1;
    }

-- a short text is lexed whole
short_end : (text : List ℕ) → length text ≤ 1_048_576 → (lexed_text Osh text).bad ≡ None → (limited_text Osh text).end ≡ ends.Text (length text)
unfolding limited_text
short_end text s b =
    let all : take 1_048_576 text ≡ text = take_all 1_048_576 text s in
    let over : nat_lt 1_048_576 (length text) ≡ false = le-ltb 1_048_576 (length text) s in
    rw (all, b, over) refl

short_tokens : (text : List ℕ) → length text ≤ 1_048_576 → (limited_text Osh text).lexemes ≡ (lexed_text Osh text).lexemes
unfolding limited_text
short_tokens text s = ap (λ (xs : List ℕ). (lexed_text Osh xs).lexemes) (take_all 1_048_576 text s)

text_spelled : (f : Flow) → CanBeSpelled f → length (flow_text f) ≤ 1_048_576 → SpellsText (flow_text f) f
text_spelled f h s =
    let text = flow_text f in
    let few = links_few f h s in
    let p = flow_prints f h few [] [] [] tt (lexes_end Osh ([] ++ text)) in
    let l : Lexes Osh [] text p.0 = subst (λ (xs : List ℕ). Lexes Osh [] xs p.0) (append-nil text) p.1 in
    let tokens : (limited_text Osh text).lexemes ≡ p.0 = short_tokens text s ∙ l.tokens in
    record {
      whole = short_end text s l.whole;
      tokens = subst (λ (ts : List Lexeme). SpellsFlow ts f) (sym tokens) (flow_spelled f h few p.0 p.2);
    }

pub printed_back : PrintedReadsBack
printed_back f h s = spelled_read (flow_text f) f (text_spelled f h s)
