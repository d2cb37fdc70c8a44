-- Where the printed outputs of operators lead: each link is found at its own operator and port.
use Rattle.std.proofs.Common.{◌≡◌, ◌≢◌, ◌⊎◌, ◌≤◌, ◌<◌, ◌^◌, ◌+◌, inl, inr, ℕ, zero, suc, List, [], ◌∷◌, ◌++◌, length, map, filter, get_or, cond, Bool, true, false, Option, Some, None, refl, sym, ap, ◌∙◌, subst, arith}
use Rattle.std.specs.Prelude.{if◌then◌else◌, ◌==◌, ◌&&◌, position, nat_lt, codes}
use Rattle.std.specs.List.{AllByRecursion, position_from}
use Rattle.std.specs.Str.{bytes_eq}
use Rattle.std.specs.Cmp.{first_so, second_so}
use Rattle.std.specs.Fmt.{decimal}
use Rattle.std.proofs.lemmas.Bool.{eqb-true, eq-eqb, and_from, ltb-true, ltb-false, lt-ltb}
use Rattle.std.proofs.lemmas.Bool.Decides.{nat_tests}
use Rattle.std.proofs.lemmas.Fmt.{decimal_injective}
use Rattle.std.proofs.lemmas.Iterator.Adapters.{position_from-zero}
use Rattle.std.proofs.lemmas.List.{append_cancel_right}
use Rattle.std.proofs.lemmas.List.Quantifiers.{position-Some}
use Rattle.op_base.proofs.All.{all_append}
use Rattle.ds_lex.proofs.Readers.{same_bytes, bytes_same}
use Rattle.flow_graph.specs.declared.flow.LinkSpec.{LinkSpec}
use Rattle.flow_graph.specs.declared.flow.OpSpec.{OpSpec}
use Rattle.flow_graph.specs.Charts.{no_link}
use Rattle.osh_read.specs.declared.stage.Redirect.{Redirect}
use Rattle.osh_read.specs.declared.stage.Redirect.TheVariants as redirect
use Rattle.osh_read.specs.declared.links.Output.{Output}
use Rattle.osh_read.specs.Joining.{pipe_ports, ports_before, outputs_of, outputs, source}
use Rattle.osh_print.specs.LinkText.{link_name, leaves}
use Rattle.osh_sound.specs.Grammar.{WrittenStage, stages_of}
use Rattle.osh_back.specs.Spelled.{HasOutputs}
use Rattle.osh_back.proofs.MethodsPrinted.{unplaced}
use Rattle.osh_back.proofs.LinesPrinted.{input_if, inputs, output, outs, leaving, IsLine, AreLines}

-- ---- names of links

pub same_number : (m n : ℕ) → m < 2 ^ 64 → n < 2 ^ 64 → link_name m ≡ link_name n → m ≡ n
same_number m n p q e = decimal_injective m n p q (append_cancel_right (decimal m) (decimal n) (codes ".v") (ap (λ xs. behind xs) e))
  where
    behind : List ℕ → List ℕ
    behind [] = []
    behind (b ∷ bytes) = bytes

-- ---- positions

passing : {X : Type 0} (p : X → Bool) (xs : List X) (i : ℕ) (d : X) → i < length xs → p (get_or xs i d) ≡ true → 0 < length (filter p xs)
passing p [] i d l h = absurd (omega arith)
passing p (x ∷ xs) zero d l h = rw h (omega arith)
passing p (x ∷ xs) (suc i) d l h = by (p x) (passing p xs i d (omega arith) h)
  where
    by : (b : Bool) → 0 < length (filter p xs) → 0 < length (cond b (x ∷ filter p xs) (filter p xs))
    by true k = omega arith
    by false k = k

-- where one item passes it is the same at both places
only_one : {X : Type 0} (p : X → Bool) (xs : List X) (i j : ℕ) (d : X) → length (filter p xs) ≡ 1 → i < length xs → j < length xs → p (get_or xs i d) ≡ true → p (get_or xs j d) ≡ true → i ≡ j
only_one p [] i j d o l m h k = absurd (omega arith)
only_one p (x ∷ xs) zero zero d o l m h k = refl
only_one p (x ∷ xs) zero (suc j) d o l m h k = absurd (let one : length (cond (p x) (x ∷ filter p xs) (filter p xs)) ≡ suc (length (filter p xs)) = rw h refl in let q = passing p xs j d (omega arith) k in omega arith)
only_one p (x ∷ xs) (suc i) zero d o l m h k = absurd (let one : length (cond (p x) (x ∷ filter p xs) (filter p xs)) ≡ suc (length (filter p xs)) = rw k refl in let q = passing p xs i d (omega arith) h in omega arith)
only_one p (x ∷ xs) (suc i) (suc j) d o l m h k = by (p x) o (λ e. only_one p xs i j d e (omega arith) (omega arith) h k)
  where
    by : (b : Bool) → length (cond b (x ∷ filter p xs) (filter p xs)) ≡ 1 → (length (filter p xs) ≡ 1 → i ≡ j) → suc i ≡ suc j
    by true e more = absurd (let q = passing p xs i d (omega arith) h in omega arith)
    by false e more = ap (λ n. suc n) (more e)

none_from : {X : Type 0} (p : X → Bool) (k : ℕ) (xs : List X) → position_from p k xs ≡ None → filter p xs ≡ []
none_from p k [] h = refl
none_from p k (x ∷ xs) h = by (p x) h (λ e. none_from p (k + 1) xs e)
  where
    by : (b : Bool) → cond b (Some k) (position_from p (k + 1) xs) ≡ None → (position_from p (k + 1) xs ≡ None → filter p xs ≡ []) → cond b (x ∷ filter p xs) (filter p xs) ≡ []
    by true e more = absurd cc
    by false e more = more e

pub none_passes : {X : Type 0} (p : X → Bool) (xs : List X) → position p xs ≡ None → filter p xs ≡ []
none_passes p xs h = none_from p 0 xs (sym (position_from-zero p xs) ∙ h)

-- what stands at a place that was found
pub record Stands (links : List LinkSpec) (producer port i : ℕ) : Type 0 where
  pub inside : i < length links
  pub from : (get_or links i no_link).from ≡ producer
  pub out : (get_or links i no_link).out ≡ port

pub leaves_parts : (from out : ℕ) (l : LinkSpec) → leaves from out l ≡ true → (l.from ≡ from) × (l.out ≡ out)
leaves_parts from out l h = (eqb-true _ _ (first_so (l.from == from) (l.out == out) h), eqb-true _ _ (second_so (l.from == from) (l.out == out) h))

pub leaves_so : (from out : ℕ) (l : LinkSpec) → l.from ≡ from → l.out ≡ out → leaves from out l ≡ true
leaves_so from out l e f = and_from (l.from == from) (l.out == out) (eq-eqb l.from from e) (eq-eqb l.out out f)

pub found_stands : (links : List LinkSpec) (from out i : ℕ) → position (leaves from out) links ≡ Some i → Stands links from out i
found_stands links from out i e =
    let p = position-Some (leaves from out) links i no_link e in
    let q = leaves_parts from out (get_or links i no_link) p.1 in
    record { inside = p.0; from = q.0; out = q.1 }

-- a link is found by its output
pub found_at : (links : List LinkSpec) (i : ℕ) → i < length links → length (filter (leaves (get_or links i no_link).from (get_or links i no_link).out) links) ≡ 1 → position (leaves (get_or links i no_link).from (get_or links i no_link).out) links ≡ Some i
found_at links i l o = by (position p links) refl
  where
    p : LinkSpec → Bool
    p = leaves (get_or links i no_link).from (get_or links i no_link).out

    by : (r : Option ℕ) → position p links ≡ r → r ≡ Some i
    by None e = absurd (let n = ap length (none_passes p links e) in omega arith)
    by (Some j) e =
        (let q = position-Some p links j no_link e in
        ap (λ n. Some n) (only_one p links j i no_link o q.0 l q.1 (leaves_so (get_or links i no_link).from (get_or links i no_link).out (get_or links i no_link) refl refl)))

-- each output port up to the number of links that leave the operator is on one link, and no other is on any
pub record Leaves (links : List LinkSpec) (producer : ℕ) : Type 0 where
  pub each : (port : ℕ) → port < leaving producer links → length (filter (leaves producer port) links) ≡ 1
  pub below : (i : ℕ) → i < length links → (get_or links i no_link).from ≡ producer → (get_or links i no_link).out < leaving producer links

-- how many of these links leave by ports below this one
tally : ℕ → List LinkSpec → ℕ → ℕ
tally from ls zero = 0
tally from ls (suc n) = length (filter (leaves from n) ls) + tally from ls n

none_tallied : (from n : ℕ) → tally from [] n ≡ 0
unfolding tally
none_tallied from zero = refl
none_tallied from (suc n) = let m = none_tallied from n in omega arith

one_if : Bool → ℕ
one_if true = 1
one_if false = 0

counted_one : {X : Type 0} (b : Bool) (x : X) (xs : List X) → length (cond b (x ∷ xs) xs) ≡ one_if b + length xs
unfolding one_if
counted_one true x xs = let e : suc (length xs) ≡ 1 + length xs = omega arith in e
counted_one false x xs = let e : length xs ≡ 0 + length xs = omega arith in e

-- a link leaves by one port
tally_more : (from : ℕ) (l : LinkSpec) (ls : List LinkSpec) (n : ℕ) → tally from (l ∷ ls) n ≡ one_if ((l.from == from) && nat_lt l.out n) + tally from ls n
unfolding tally one_if
tally_more from l ls zero = let none = ap (λ b. one_if b) (no_port (l.from == from) l.out) in omega arith
  where
    no_port : (a : Bool) (k : ℕ) → (a && nat_lt k 0) ≡ false
    no_port true k = grind (arith, nat_tests)
    no_port false k = refl
tally_more from l ls (suc n) =
    let here = counted_one (leaves from n l) l (filter (leaves from n) ls) in
    let more = tally_more from l ls n in
    let sum : one_if ((l.from == from) && nat_lt l.out (suc n)) ≡ one_if (leaves from n l) + one_if ((l.from == from) && nat_lt l.out n) = split (l.from == from) l.out n in
    omega arith
  where
    below : (k n : ℕ) → one_if (nat_lt k (suc n)) ≡ one_if (k == n) + one_if (nat_lt k n)
    below k n = grind (arith, nat_tests)

    split : (a : Bool) (k n : ℕ) → one_if (a && nat_lt k (suc n)) ≡ one_if (a && (k == n)) + one_if (a && nat_lt k n)
    split true k n = below k n
    split false k n = refl

all_tallied : (from n : ℕ) (ls : List LinkSpec) → ((i : ℕ) → i < length ls → (get_or ls i no_link).from ≡ from → (get_or ls i no_link).out < n) → leaving from ls ≡ tally from ls n
all_tallied from n [] h = sym (none_tallied from n)
all_tallied from n (l ∷ ls) h =
    let more = all_tallied from n ls (λ i k e. h (suc i) (omega arith) e) in
    let here = counted_one (l.from == from) l (filter (λ (x : LinkSpec). x.from == from) ls) in
    let same = tally_more from l ls n in
    let one : one_if (l.from == from) ≡ one_if ((l.from == from) && nat_lt l.out n) = by (l.from == from) refl in
    omega arith
  where
    by : (b : Bool) → (l.from == from) ≡ b → one_if b ≡ one_if (b && nat_lt l.out n)
    by true e = ap (λ b. one_if b) (sym (lt-ltb l.out n (h zero (omega arith) (eqb-true _ _ e))))
    by false e = refl

ones_tallied : (from n : ℕ) (ls : List LinkSpec) → ((port : ℕ) → port < n → length (filter (leaves from port) ls) ≡ 1) → tally from ls n ≡ n
unfolding tally
ones_tallied from zero ls h = refl
ones_tallied from (suc n) ls h = let here = h n (omega arith) in let more = ones_tallied from n ls (λ port k. h port (omega arith)) in omega arith

-- as many links leave an operator as it has output ports
pub all_leave : (links : List LinkSpec) (from : ℕ) → HasOutputs links from → Leaves links from
all_leave links from h =
    let inside : (i : ℕ) → i < length links → (get_or links i no_link).from ≡ from → (get_or links i no_link).out < h.ports = (λ i l e. inside_by i l e (nat_lt (get_or links i no_link).out h.ports) refl) in
    let count : leaving from links ≡ h.ports = all_tallied from h.ports links inside ∙ ones_tallied from h.ports links h.each in
    record {
      each = λ port k. h.each port (omega arith);
      below = λ i l e. (let k = inside i l e in omega arith);
    }
  where
    inside_by : (i : ℕ) → i < length links → (get_or links i no_link).from ≡ from → (b : Bool) → nat_lt (get_or links i no_link).out h.ports ≡ b → (get_or links i no_link).out < h.ports
    inside_by i l e true k = ltb-true _ _ k
    inside_by i l e false k = absurd (let n = h.none (get_or links i no_link).out (ltb-false _ _ k) in let s = passing (leaves from (get_or links i no_link).out) links i no_link l (leaves_so from (get_or links i no_link).out (get_or links i no_link) e refl) in omega arith)

-- ---- outputs

outputs_placed : (from out : ℕ) (rs : List Redirect) → outputs_of from out rs ≡ outputs_of from out (map unplaced rs)
unfolding unplaced
outputs_placed from out [] = refl
outputs_placed from out (redirect.In at name m f ∷ rs) = outputs_placed from out rs
outputs_placed from out (redirect.Out at name ∷ rs) = ap (λ (os : List Output). record { name = name; from = from; out = out } ∷ os) (outputs_placed from (out + 1) rs)

past_inputs : (from out to number : ℕ) (ls : List LinkSpec) (rs : List Redirect) → outputs_of from out (inputs to number ls ++ rs) ≡ outputs_of from out rs
past_inputs from out to number [] rs = refl
past_inputs from out to number (l ∷ ls) rs = by (l.to == to) (past_inputs from out to (number + 1) ls rs)
  where
    by : (b : Bool) → outputs_of from out (inputs to (number + 1) ls ++ rs) ≡ outputs_of from out rs → outputs_of from out ((input_if b number l ++ inputs to (number + 1) ls) ++ rs) ≡ outputs_of from out rs
    by true e = e
    by false e = e

-- the output of a link has its name
abbrev Right : List LinkSpec → Output → Type 0
Right links o = (i : ℕ) → i < length links → o.name ≡ link_name i → (o.from ≡ (get_or links i no_link).from) × (o.out ≡ (get_or links i no_link).out)

abbrev AllRight : List LinkSpec → List Output → Type 0
AllRight links os = AllByRecursion (Right links) os

abbrev Has : List ℕ → List Output → Type 0
Has name [] = ⊥
Has name (o ∷ os) = (o.name ≡ name) ⊎ Has name os

outs_right : (links : List LinkSpec) (from n out : ℕ) → length links < 2 ^ 64 → ((port : ℕ) → port < out + n → length (filter (leaves from port) links) ≡ 1) → AllRight links (outputs_of from out (outs links from n out))
outs_right links from zero out s h = tt
outs_right links from (suc n) out s h = by (position (leaves from out) links) refl (outs_right links from n (out + 1) s (λ port k. h port (omega arith)))
  where
    by : (r : Option ℕ) → position (leaves from out) links ≡ r → AllRight links (outputs_of from (out + 1) (outs links from n (out + 1))) → AllRight links (outputs_of from out (output r ++ outs links from n (out + 1)))
    by None e more = absurd (let k = ap length (none_passes (leaves from out) links e) in let o = h out (omega arith) in omega arith)
    by (Some j) e more =
        (let st = found_stands links from out j e in (
          λ i k same. (let number : j ≡ i = same_number j i (let x = st.inside in omega arith) (omega arith) same in
              (sym st.from ∙ ap (λ m. (get_or links m no_link).from) number, sym st.out ∙ ap (λ m. (get_or links m no_link).out) number)),
          more,
        ))

some_is : (x y : ℕ) → (let o : Option ℕ = Some x in o) ≡ Some y → x ≡ y
some_is x y h = cc

pub ne_from : (x y : ℕ) → (x == y) ≡ false → x ≢ y
ne_from x y h = λ e. (let k = eq-eqb x y e in absurd cc)

outs_have : (links : List LinkSpec) (from n out i : ℕ) → i < length links → (get_or links i no_link).from ≡ from → out ≤ (get_or links i no_link).out → (get_or links i no_link).out < out + n → ((port : ℕ) → port < out + n → length (filter (leaves from port) links) ≡ 1)
    → Has (link_name i) (outputs_of from out (outs links from n out))
outs_have links from zero out i l e low high h = absurd (omega arith)
outs_have links from (suc n) out i l e low high h = by (out == (get_or links i no_link).out) refl (position (leaves from out) links) refl (λ k. outs_have links from n (out + 1) i l e k (omega arith) (λ port m. h port (omega arith)))
  where
    by : (b : Bool) → (out == (get_or links i no_link).out) ≡ b → (r : Option ℕ) → position (leaves from out) links ≡ r → (out + 1 ≤ (get_or links i no_link).out → Has (link_name i) (outputs_of from (out + 1) (outs links from n (out + 1)))) → Has (link_name i) (outputs_of from out (output r ++ outs links from n (out + 1)))
    by b q None p more = absurd (let k = ap length (none_passes (leaves from out) links p) in let o = h out (omega arith) in omega arith)
    by true q (Some j) p more =
        (let same : out ≡ (get_or links i no_link).out = eqb-true _ _ q in
        let o = h out (omega arith) in
        let at : position (leaves from out) links ≡ Some i = subst (λ m. position (leaves m out) links ≡ Some i) e (subst (λ m. position (leaves (get_or links i no_link).from m) links ≡ Some i) (sym same) (found_at links i l (subst (λ m. length (filter (leaves m (get_or links i no_link).out) links) ≡ 1) (sym e) (subst (λ m. length (filter (leaves from m) links) ≡ 1) same o)))) in
        let number : j ≡ i = some_is j i (sym p ∙ at) in
        inl (ap link_name number))
    by false q (Some j) p more = inr (more (let d = ne_from out (get_or links i no_link).out q in omega arith))

-- ---- sources

pub no_ports : (links : List LinkSpec) (number : ℕ) (os : List OpSpec) (ws : List WrittenStage) → AreLines links number os ws → ports_before (stages_of ws) ≡ 0
no_ports links number [] [] h = refl
no_ports links number (o ∷ os) (w ∷ ws) h = ap pipe_ports h.0.joined
no_ports links number [] (w ∷ ws) h = absurd h
no_ports links number (o ∷ os) [] h = absurd h

line_outputs : (links : List LinkSpec) (number : ℕ) (o : OpSpec) (w : WrittenStage) → IsLine links number o w → outputs_of number 0 w.stage.redirects ≡ outputs_of number 0 (outs links number (leaving number links) 0)
line_outputs links number o w h = outputs_placed number 0 w.stage.redirects ∙ (ap (outputs_of number 0) h.redirects ∙ past_inputs number 0 number 0 links (outs links number (leaving number links) 0))

stage_outputs : (links : List LinkSpec) (number : ℕ) (o : OpSpec) (os : List OpSpec) (w : WrittenStage) (ws : List WrittenStage) → AreLines links number (o ∷ os) (w ∷ ws)
    → outputs number (stages_of (w ∷ ws)) ≡ outputs_of number 0 (outs links number (leaving number links) 0) ++ outputs (number + 1) (stages_of ws)
stage_outputs links number o os w ws h =
    ap (λ n. outputs_of number n w.stage.redirects ++ outputs (number + 1) (stages_of ws)) (no_ports links (number + 1) os ws h.1)
    ∙ ap (λ (xs : List Output). xs ++ outputs (number + 1) (stages_of ws)) (line_outputs links number o w h.0)

-- each output of the operators leads where its link begins
stages_right : (links : List LinkSpec) (number : ℕ) (os : List OpSpec) (ws : List WrittenStage) → length links < 2 ^ 64 → ((from : ℕ) → Leaves links from) → AreLines links number os ws → AllRight links (outputs number (stages_of ws))
stages_right links number [] [] s l h = tt
stages_right links number [] (w ∷ ws) s l h = absurd h
stages_right links number (o ∷ os) [] s l h = absurd h
stages_right links number (o ∷ os) (w ∷ ws) s l h =
    subst (AllRight links) (sym (stage_outputs links number o os w ws h))
    (all_append (Right links) (outputs_of number 0 (outs links number (leaving number links) 0)) (outputs (number + 1) (stages_of ws))
    (outs_right links number (leaving number links) 0 s (λ port k. (l number).each port (omega arith)))
    (stages_right links (number + 1) os ws s l h.1))

has_left : (name : List ℕ) (xs ys : List Output) → Has name xs → Has name (xs ++ ys)
has_left name [] ys h = absurd h
has_left name (x ∷ xs) ys h = elim h [ inl e ↦ inl e | inr k ↦ inr (has_left name xs ys k) ]

has_right : (name : List ℕ) (xs ys : List Output) → Has name ys → Has name (xs ++ ys)
has_right name [] ys h = h
has_right name (x ∷ xs) ys h = inr (has_right name xs ys h)

stages_have : (links : List LinkSpec) (number : ℕ) (os : List OpSpec) (ws : List WrittenStage) (i : ℕ) → ((from : ℕ) → Leaves links from) → AreLines links number os ws → i < length links → number ≤ (get_or links i no_link).from → (get_or links i no_link).from < number + length os → Has (link_name i) (outputs number (stages_of ws))
stages_have links number [] [] i l h k low high = absurd (omega arith)
stages_have links number [] (w ∷ ws) i l h k low high = absurd h
stages_have links number (o ∷ os) [] i l h k low high = absurd h
stages_have links number (o ∷ os) (w ∷ ws) i l h k low high =
    subst (Has (link_name i)) (sym (stage_outputs links number o os w ws h))
    (by (number == (get_or links i no_link).from) refl (λ m. stages_have links (number + 1) os ws i l h.1 k m (omega arith)))
  where
    by : (b : Bool) → (number == (get_or links i no_link).from) ≡ b → (number + 1 ≤ (get_or links i no_link).from → Has (link_name i) (outputs (number + 1) (stages_of ws))) → Has (link_name i) (outputs_of number 0 (outs links number (leaving number links) 0) ++ outputs (number + 1) (stages_of ws))
    by true q more =
        (let same : (get_or links i no_link).from ≡ number = sym (eqb-true _ _ q) in
        let inside = (l number).below i k same in
        has_left (link_name i) (outputs_of number 0 (outs links number (leaving number links) 0)) (outputs (number + 1) (stages_of ws))
        (outs_have links number (leaving number links) 0 i k same (omega arith) (omega arith) (λ port m. (l number).each port (omega arith))))
    by false q more = has_right (link_name i) (outputs_of number 0 (outs links number (leaving number links) 0)) (outputs (number + 1) (stages_of ws)) (more (let d = ne_from number (get_or links i no_link).from q in omega arith))

abbrev pub origin : List LinkSpec → ℕ → Output
origin links i = record { name = link_name i; from = (get_or links i no_link).from; out = (get_or links i no_link).out }

output_is : (o p : Output) → o.name ≡ p.name → o.from ≡ p.from → o.out ≡ p.out → o ≡ p
output_is o p e f g =
    let a : o ≡ record { name = p.name; from = o.from; out = o.out } = ap (λ x. let q : Output = record { name = x; from = o.from; out = o.out } in q) e in
    let b : record { name = p.name; from = o.from; out = o.out } ≡ record { name = p.name; from = p.from; out = o.out } = ap (λ x. let q : Output = record { name = p.name; from = x; out = o.out } in q) f in
    let c : record { name = p.name; from = p.from; out = o.out } ≡ p = ap (λ x. let q : Output = record { name = p.name; from = p.from; out = x } in q) g in
    a ∙ (b ∙ c)

source_is : (links : List LinkSpec) (os : List Output) (i : ℕ) → i < length links → AllRight links os → Has (link_name i) os → source os (link_name i) ≡ Some (origin links i)
source_is links [] i k r h = absurd h
source_is links (o ∷ os) i k r h = by (bytes_eq o.name (link_name i)) refl (λ m. source_is links os i k r.1 m)
  where
    by : (b : Bool) → bytes_eq o.name (link_name i) ≡ b → (Has (link_name i) os → source os (link_name i) ≡ Some (origin links i)) → (if b then Some o else source os (link_name i)) ≡ Some (origin links i)
    by true e more = (let n = same_bytes o.name (link_name i) e in let p = r.0 i k n in ap (λ x. Some x) (output_is o (origin links i) n p.0 p.1))
    by false e more = elim h [ inl n ↦ absurd (let t = bytes_same o.name (link_name i) n in cc) | inr m ↦ more m ]

-- each link's data set is written at the link's own output
abbrev pub Sources : List LinkSpec → List Output → Type 0
Sources links os = (i : ℕ) → i < length links → source os (link_name i) ≡ Some (origin links i)

pub all_sources : (links : List LinkSpec) (os : List OpSpec) (ws : List WrittenStage) → length links < 2 ^ 64 → ((from : ℕ) → Leaves links from) → ((i : ℕ) → i < length links → (get_or links i no_link).from < length os) → AreLines links 0 os ws → Sources links (outputs 0 (stages_of ws))
all_sources links os ws s l w h = λ i k. source_is links (outputs 0 (stages_of ws)) i k (stages_right links 0 os ws s l h) (stages_have links 0 os ws i l h k (omega arith) (let m = w i k in omega arith))
