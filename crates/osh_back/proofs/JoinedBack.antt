-- Each link of printed operators is written once and read once.
use Rattle.std.proofs.Common.{◌≡◌, ◌≢◌, ◌⊎◌, ◌≤◌, ◌<◌, ◌^◌, ◌+◌, inl, inr, ℕ, zero, suc, List, [], ◌∷◌, ◌++◌, length, map, filter, get_or, cond, Bool, true, false, Option, Some, None, refl, sym, ap, ◌∙◌, subst, append_assoc, arith, length-append}
use Rattle.std.specs.Prelude.{◌==◌, position}
use Rattle.std.specs.List.{AllByRecursion}
use Rattle.std.specs.Str.{bytes_eq}
use Rattle.std.proofs.lemmas.Bool.{eqb-true, eq-eqb, ne_eqb, false_from_ne_true}
use Rattle.std.proofs.lemmas.List.Elements.{filter-append}
use Rattle.op_base.proofs.All.{all_append}
use Rattle.ds_lex.proofs.Readers.{same_bytes, bytes_same}
use Rattle.flow_graph.specs.declared.flow.LinkSpec.{LinkSpec}
use Rattle.flow_graph.specs.declared.flow.OpSpec.{OpSpec}
use Rattle.flow_graph.specs.Charts.{no_link}
use Rattle.osh_read.specs.declared.stage.Redirect.{Redirect}
use Rattle.osh_read.specs.declared.stage.Redirect.TheVariants as redirect
use Rattle.osh_read.specs.Joining.{name_of, writes, reads, is_joined, unjoined_in, all_redirects, unjoined}
use Rattle.osh_print.specs.LinkText.{link_name, leaves}
use Rattle.osh_sound.specs.Grammar.{WrittenStage, stages_of}
use Rattle.osh_back.proofs.MethodsPrinted.{unplaced}
use Rattle.osh_back.proofs.LinesPrinted.{input_if, inputs, output, outs, leaving, IsLine, AreLines}
use Rattle.osh_back.proofs.OutputsBack.{same_number, found_stands, found_at, Leaves, ne_from}
use Rattle.osh_back.proofs.InputsBack.{get_at}

-- how many redirects write the name, and how many read it
abbrev written : List ℕ → List Redirect → ℕ
written name rs = length (filter (writes name) rs)

abbrev read : List ℕ → List Redirect → ℕ
read name rs = length (filter (reads name) rs)

written_then : (name : List ℕ) (xs ys : List Redirect) → written name (xs ++ ys) ≡ written name xs + written name ys
written_then name xs ys = ap length (filter-append (writes name) xs ys) ∙ length-append (filter (writes name) xs) (filter (writes name) ys)

read_then : (name : List ℕ) (xs ys : List Redirect) → read name (xs ++ ys) ≡ read name xs + read name ys
read_then name xs ys = ap length (filter-append (reads name) xs ys) ∙ length-append (filter (reads name) xs) (filter (reads name) ys)

longer : {X : Type 0} (b : Bool) (x y : X) (xs ys : List X) → length xs ≡ length ys → length (cond b (x ∷ xs) xs) ≡ length (cond b (y ∷ ys) ys)
longer true x y xs ys e = ap (λ n. suc n) e
longer false x y xs ys e = e

written_placed : (name : List ℕ) (rs : List Redirect) → written name rs ≡ written name (map unplaced rs)
unfolding unplaced
written_placed name [] = refl
written_placed name (redirect.In at other m f ∷ rs) = written_placed name rs
written_placed name (redirect.Out at other ∷ rs) = longer (bytes_eq other name) (redirect.Out at other) (redirect.Out 0 other) (filter (writes name) rs) (filter (writes name) (map unplaced rs)) (written_placed name rs)

read_placed : (name : List ℕ) (rs : List Redirect) → read name rs ≡ read name (map unplaced rs)
unfolding unplaced
read_placed name [] = refl
read_placed name (redirect.In at other m f ∷ rs) = longer (bytes_eq other name) (redirect.In at other m f) (redirect.In 0 other m f) (filter (reads name) rs) (filter (reads name) (map unplaced rs)) (read_placed name rs)
read_placed name (redirect.Out at other ∷ rs) = read_placed name rs

-- ---- names of other links

other_name : (j i : ℕ) → j < 2 ^ 64 → i < 2 ^ 64 → j ≢ i → bytes_eq (link_name j) (link_name i) ≡ false
other_name j i a b n = false_from_ne_true (bytes_eq (link_name j) (link_name i)) (λ e. n (same_number j i a b (same_bytes (link_name j) (link_name i) e)))

one_more : {X : Type 0} (b : Bool) (x : X) (xs : List X) → b ≡ true → length (cond b (x ∷ xs) xs) ≡ suc (length xs)
one_more b x xs e = rw e refl

no_more : {X : Type 0} (b : Bool) (x : X) (xs : List X) → b ≡ false → length (cond b (x ∷ xs) xs) ≡ length xs
no_more b x xs e = rw e refl

-- ---- inputs

inputs_unwritten : (name : List ℕ) (to number : ℕ) (ls : List LinkSpec) → written name (inputs to number ls) ≡ 0
inputs_unwritten name to number [] = refl
inputs_unwritten name to number (l ∷ ls) = by (l.to == to) (inputs_unwritten name to (number + 1) ls)
  where
    by : (b : Bool) → written name (inputs to (number + 1) ls) ≡ 0 → written name (input_if b number l ++ inputs to (number + 1) ls) ≡ 0
    by true e = e
    by false e = e

-- inputs of later links
later_unread : (i to number : ℕ) (ls : List LinkSpec) → i < number → number + length ls < 2 ^ 64 → read (link_name i) (inputs to number ls) ≡ 0
later_unread i to number [] h s = refl
later_unread i to number (l ∷ ls) h s = by (l.to == to) (later_unread i to (number + 1) ls (omega arith) (omega arith))
  where
    by : (b : Bool) → read (link_name i) (inputs to (number + 1) ls) ≡ 0 → read (link_name i) (input_if b number l ++ inputs to (number + 1) ls) ≡ 0
    by true e = no_more (bytes_eq (link_name number) (link_name i)) (redirect.In 0 (link_name number) l.method l.flag) (filter (reads (link_name i)) (inputs to (number + 1) ls)) (other_name number i (omega arith) (omega arith) (λ k. absurd (omega arith))) ∙ e
    by false e = e

one_if : Bool → ℕ
one_if true = 1
one_if false = 0

-- a link is read where it leads
read_once : (links : List LinkSpec) (i to : ℕ) (pre ls : List LinkSpec) → length links < 2 ^ 64 → links ≡ pre ++ ls → length pre ≤ i → i < length links → read (link_name i) (inputs to (length pre) ls) ≡ one_if ((get_or links i no_link).to == to)
unfolding one_if
read_once links i to pre [] s e low high = absurd (let a = ap length e in let b = length-append pre [] in omega arith)
read_once links i to pre (l ∷ ls) s e low high =
    let len : length (pre ++ l ∷ []) ≡ length pre + 1 = length-append pre (l ∷ []) in
    by (length pre == i) refl (l.to == to) refl (λ k. subst (λ m. read (link_name i) (inputs to m ls) ≡ one_if ((get_or links i no_link).to == to)) len (read_once links i to (pre ++ l ∷ []) ls s (e ∙ sym (append_assoc pre (l ∷ []) ls)) (omega arith) high))
  where
    total : length links ≡ length pre + suc (length ls)
    total = ap length e ∙ length-append pre (l ∷ ls)

    here : get_or links (length pre) no_link ≡ l
    here = ap (λ (xs : List LinkSpec). get_or xs (length pre) no_link) e ∙ get_at pre l ls

    by : (a : Bool) → (length pre == i) ≡ a → (b : Bool) → (l.to == to) ≡ b → (length pre + 1 ≤ i → read (link_name i) (inputs to (length pre + 1) ls) ≡ one_if ((get_or links i no_link).to == to))
        → read (link_name i) (input_if b (length pre) l ++ inputs to (length pre + 1) ls) ≡ one_if ((get_or links i no_link).to == to)
    by true p true q more =
        (let same : length pre ≡ i = eqb-true _ _ p in
        let there : ((get_or links i no_link).to == to) ≡ true = ap (λ n. (get_or links n no_link).to == to) (sym same) ∙ (ap (λ (x : LinkSpec). x.to == to) here ∙ q) in
        let t = total in
        let rest = later_unread i to (length pre + 1) ls (omega arith) (omega arith) in
        let one = one_more (bytes_eq (link_name (length pre)) (link_name i)) (redirect.In 0 (link_name (length pre)) l.method l.flag) (filter (reads (link_name i)) (inputs to (length pre + 1) ls)) (bytes_same _ _ (ap link_name same)) in
        rw there (one ∙ ap (λ n. suc n) rest))
    by true p false q more =
        (let same : length pre ≡ i = eqb-true _ _ p in
        let there : ((get_or links i no_link).to == to) ≡ false = ap (λ n. (get_or links n no_link).to == to) (sym same) ∙ (ap (λ (x : LinkSpec). x.to == to) here ∙ q) in
        let t = total in
        rw there (later_unread i to (length pre + 1) ls (omega arith) (omega arith)))
    by false p true q more =
        (let t = total in
        let ne = ne_from (length pre) i p in
        no_more (bytes_eq (link_name (length pre)) (link_name i)) (redirect.In 0 (link_name (length pre)) l.method l.flag) (filter (reads (link_name i)) (inputs to (length pre + 1) ls)) (other_name (length pre) i (omega arith) (omega arith) ne) ∙ more (omega arith))
    by false p false q more = more (let ne = ne_from (length pre) i p in omega arith)

-- ---- outputs

outs_unread : (name : List ℕ) (links : List LinkSpec) (from n out : ℕ) → read name (outs links from n out) ≡ 0
outs_unread name links from zero out = refl
outs_unread name links from (suc n) out = by (position (leaves from out) links) (outs_unread name links from n (out + 1))
  where
    by : (r : Option ℕ) → read name (outs links from n (out + 1)) ≡ 0 → read name (output r ++ outs links from n (out + 1)) ≡ 0
    by None e = e
    by (Some j) e = e

-- not at this operator, or at a port before
abbrev Elsewhere : List LinkSpec → ℕ → ℕ → ℕ → Type 0
Elsewhere links i from out = ((get_or links i no_link).from ≢ from) ⊎ ((get_or links i no_link).out < out)

another : (links : List LinkSpec) (i j from out : ℕ) → length links < 2 ^ 64 → i < length links → position (leaves from out) links ≡ Some j → (j ≡ i → ⊥) → bytes_eq (link_name j) (link_name i) ≡ false
another links i j from out s k e n = let st = (found_stands links from out j e).inside in other_name j i (omega arith) (omega arith) n

unwritten_there : (links : List LinkSpec) (i from n out : ℕ) → length links < 2 ^ 64 → i < length links → Elsewhere links i from out → written (link_name i) (outs links from n out) ≡ 0
unwritten_there links i from zero out s k h = refl
unwritten_there links i from (suc n) out s k h = by (position (leaves from out) links) refl (unwritten_there links i from n (out + 1) s k (elim h [ inl e ↦ inl e | inr l ↦ inr (omega arith) ]))
  where
    by : (r : Option ℕ) → position (leaves from out) links ≡ r → written (link_name i) (outs links from n (out + 1)) ≡ 0 → written (link_name i) (output r ++ outs links from n (out + 1)) ≡ 0
    by None e more = more
    by (Some j) e more =
        (let st = found_stands links from out j e in
        let ne : j ≡ i → ⊥ = (λ q. (let f = ap (λ m. (get_or links m no_link).from) (sym q) ∙ st.from in let o = ap (λ m. (get_or links m no_link).out) (sym q) ∙ st.out in elim h [ inl d ↦ d f | inr l ↦ absurd (omega arith) ])) in
        no_more (bytes_eq (link_name j) (link_name i)) (redirect.Out 0 (link_name j)) (filter (writes (link_name i)) (outs links from n (out + 1))) (another links i j from out s k e ne) ∙ more)

-- a link is written where it begins
written_once : (links : List LinkSpec) (i from n out : ℕ) → length links < 2 ^ 64 → i < length links → (get_or links i no_link).from ≡ from → out ≤ (get_or links i no_link).out → (get_or links i no_link).out < out + n → length (filter (leaves (get_or links i no_link).from (get_or links i no_link).out) links) ≡ 1
    → written (link_name i) (outs links from n out) ≡ 1
written_once links i from zero out s k f low high o = absurd (omega arith)
written_once links i from (suc n) out s k f low high o =
    by (out == (get_or links i no_link).out) refl (position (leaves from out) links) refl (λ m. written_once links i from n (out + 1) s k f m (omega arith) o)
  where
    by : (b : Bool) → (out == (get_or links i no_link).out) ≡ b → (r : Option ℕ) → position (leaves from out) links ≡ r → (out + 1 ≤ (get_or links i no_link).out → written (link_name i) (outs links from n (out + 1)) ≡ 1) → written (link_name i) (output r ++ outs links from n (out + 1)) ≡ 1
    by true q r p more =
        (let same : out ≡ (get_or links i no_link).out = eqb-true _ _ q in
        let at : position (leaves from out) links ≡ Some i = subst (λ m. position (leaves m out) links ≡ Some i) f (subst (λ m. position (leaves (get_or links i no_link).from m) links ≡ Some i) (sym same) (found_at links i k o)) in
        let rest = unwritten_there links i from n (out + 1) s k (inr (omega arith)) in
        ap (λ (x : Option ℕ). written (link_name i) (output x ++ outs links from n (out + 1))) (sym p ∙ at)
        ∙ (one_more (bytes_eq (link_name i) (link_name i)) (redirect.Out 0 (link_name i)) (filter (writes (link_name i)) (outs links from n (out + 1))) (bytes_same (link_name i) (link_name i) refl) ∙ ap (λ m. suc m) rest))
    by false q None p more = more (let ne = ne_from out (get_or links i no_link).out q in omega arith)
    by false q (Some j) p more =
        (let st = found_stands links from out j p in
        let d = ne_from out (get_or links i no_link).out q in
        let ne : j ≡ i → ⊥ = (λ e. d (sym st.out ∙ ap (λ m. (get_or links m no_link).out) e)) in
        no_more (bytes_eq (link_name j) (link_name i)) (redirect.Out 0 (link_name j)) (filter (writes (link_name i)) (outs links from n (out + 1))) (another links i j from out s k p ne) ∙ more (omega arith))

-- ---- operators

line_read : (links : List LinkSpec) (number i : ℕ) (o : OpSpec) (w : WrittenStage) → length links < 2 ^ 64 → i < length links → IsLine links number o w → read (link_name i) w.stage.redirects ≡ one_if ((get_or links i no_link).to == number)
line_read links number i o w s k h =
    let a = read_placed (link_name i) w.stage.redirects ∙ ap (read (link_name i)) h.redirects in
    let b = read_then (link_name i) (inputs number 0 links) (outs links number (leaving number links) 0) in
    let c = read_once links i number [] links s refl (omega arith) k in
    let d = outs_unread (link_name i) links number (leaving number links) 0 in
    omega arith

line_written : (links : List LinkSpec) (number i : ℕ) (o : OpSpec) (w : WrittenStage) → length links < 2 ^ 64 → i < length links → Leaves links number → IsLine links number o w → written (link_name i) w.stage.redirects ≡ one_if ((get_or links i no_link).from == number)
unfolding one_if
line_written links number i o w s k l h =
    let a = written_placed (link_name i) w.stage.redirects ∙ ap (written (link_name i)) h.redirects in
    let b = written_then (link_name i) (inputs number 0 links) (outs links number (leaving number links) 0) in
    let c = inputs_unwritten (link_name i) number 0 links in
    let d : written (link_name i) (outs links number (leaving number links) 0) ≡ one_if ((get_or links i no_link).from == number) = by ((get_or links i no_link).from == number) refl in
    omega arith
  where
    by : (b : Bool) → ((get_or links i no_link).from == number) ≡ b → written (link_name i) (outs links number (leaving number links) 0) ≡ one_if b
    by true e =
        (let same : (get_or links i no_link).from ≡ number = eqb-true _ _ e in
        let inside = l.below i k same in
        written_once links i number (leaving number links) 0 s k same (omega arith) (omega arith) (subst (λ m. length (filter (leaves m (get_or links i no_link).out) links) ≡ 1) (sym same) (l.each (get_or links i no_link).out inside)))
    by false e = unwritten_there links i number (leaving number links) 0 s k (inl (ne_from (get_or links i no_link).from number e))

-- a number stands once among those from here on
once_among : (x number n : ℕ) → ℕ
once_among x number zero = 0
once_among x number (suc n) = one_if (x == number) + once_among x (number + 1) n

none_among : (x number n : ℕ) → x < number → once_among x number n ≡ 0
unfolding once_among one_if
none_among x number zero h = refl
none_among x number (suc n) h = let e : (x == number) ≡ false = ne_eqb x number (omega arith) in rw e (let m = none_among x (number + 1) n (omega arith) in omega arith)

is_among : (x number n : ℕ) → number ≤ x → x < number + n → once_among x number n ≡ 1
unfolding once_among one_if
is_among x number zero low high = absurd (omega arith)
is_among x number (suc n) low high = by (x == number) refl (λ k. is_among x (number + 1) n k (omega arith))
  where
    by : (b : Bool) → (x == number) ≡ b → (number + 1 ≤ x → once_among x (number + 1) n ≡ 1) → one_if b + once_among x (number + 1) n ≡ 1
    by true e more = (let same : x ≡ number = eqb-true _ _ e in let m = none_among x (number + 1) n (omega arith) in omega arith)
    by false e more = (let ne = ne_from x number e in let m = more (omega arith) in omega arith)

all_read : (links : List LinkSpec) (number i : ℕ) (os : List OpSpec) (ws : List WrittenStage) → length links < 2 ^ 64 → i < length links → AreLines links number os ws → read (link_name i) (all_redirects (stages_of ws)) ≡ once_among (get_or links i no_link).to number (length os)
unfolding once_among
all_read links number i [] [] s k h = refl
all_read links number i [] (w ∷ ws) s k h = absurd h
all_read links number i (o ∷ os) [] s k h = absurd h
all_read links number i (o ∷ os) (w ∷ ws) s k h =
    let a = read_then (link_name i) w.stage.redirects (all_redirects (stages_of ws)) in
    let b = line_read links number i o w s k h.0 in
    let c = all_read links (number + 1) i os ws s k h.1 in
    omega arith

all_written : (links : List LinkSpec) (number i : ℕ) (os : List OpSpec) (ws : List WrittenStage) → length links < 2 ^ 64 → i < length links → ((from : ℕ) → Leaves links from) → AreLines links number os ws → written (link_name i) (all_redirects (stages_of ws)) ≡ once_among (get_or links i no_link).from number (length os)
unfolding once_among
all_written links number i [] [] s k l h = refl
all_written links number i [] (w ∷ ws) s k l h = absurd h
all_written links number i (o ∷ os) [] s k l h = absurd h
all_written links number i (o ∷ os) (w ∷ ws) s k l h =
    let a = written_then (link_name i) w.stage.redirects (all_redirects (stages_of ws)) in
    let b = line_written links number i o w s k (l number) h.0 in
    let c = all_written links (number + 1) i os ws s k l h.1 in
    omega arith

-- ---- all are joined

-- the redirect has the name of a link
abbrev OfLink : List LinkSpec → Redirect → Type 0
OfLink links r = (i : ℕ) × (i < length links) × (name_of r ≡ link_name i)

unplaced_of : (links : List LinkSpec) (rs : List Redirect) → AllByRecursion (OfLink links) (map unplaced rs) → AllByRecursion (OfLink links) rs
unfolding unplaced
unplaced_of links [] h = tt
unplaced_of links (redirect.In at name m f ∷ rs) h = (h.0, unplaced_of links rs h.1)
unplaced_of links (redirect.Out at name ∷ rs) h = (h.0, unplaced_of links rs h.1)

inputs_of : (links : List LinkSpec) (to number : ℕ) (ls : List LinkSpec) → number + length ls ≤ length links → AllByRecursion (OfLink links) (inputs to number ls)
inputs_of links to number [] h = tt
inputs_of links to number (l ∷ ls) h = by (l.to == to) (inputs_of links to (number + 1) ls (omega arith))
  where
    by : (b : Bool) → AllByRecursion (OfLink links) (inputs to (number + 1) ls) → AllByRecursion (OfLink links) (input_if b number l ++ inputs to (number + 1) ls)
    by true more = ((number, omega arith, refl), more)
    by false more = more

outs_of : (links : List LinkSpec) (from n out : ℕ) → AllByRecursion (OfLink links) (outs links from n out)
outs_of links from zero out = tt
outs_of links from (suc n) out = by (position (leaves from out) links) refl (outs_of links from n (out + 1))
  where
    by : (r : Option ℕ) → position (leaves from out) links ≡ r → AllByRecursion (OfLink links) (outs links from n (out + 1)) → AllByRecursion (OfLink links) (output r ++ outs links from n (out + 1))
    by None e more = more
    by (Some j) e more = ((j, (found_stands links from out j e).inside, refl), more)

redirects_of : (links : List LinkSpec) (number : ℕ) (os : List OpSpec) (ws : List WrittenStage) → AreLines links number os ws → AllByRecursion (OfLink links) (all_redirects (stages_of ws))
redirects_of links number [] [] h = tt
redirects_of links number [] (w ∷ ws) h = absurd h
redirects_of links number (o ∷ os) [] h = absurd h
redirects_of links number (o ∷ os) (w ∷ ws) h =
    all_append (OfLink links) w.stage.redirects (all_redirects (stages_of ws))
    (unplaced_of links w.stage.redirects (subst (AllByRecursion (OfLink links)) (sym h.0.redirects) (all_append (OfLink links) (inputs number 0 links) (outs links number (leaving number links) 0) (inputs_of links number 0 links (omega arith)) (outs_of links number (leaving number links) 0))))
    (redirects_of links (number + 1) os ws h.1)

joined_by : (all : List Redirect) (name : List ℕ) → written name all ≡ 1 → read name all ≡ 1 → is_joined all name ≡ true
unfolding is_joined
joined_by all name w r = let a : (written name all == 1) ≡ true = eq-eqb _ _ w in let b : (read name all == 1) ≡ true = eq-eqb _ _ r in rw (a, b) refl

none_unjoined : (links : List LinkSpec) (all rs : List Redirect) → ((i : ℕ) → i < length links → is_joined all (link_name i) ≡ true) → AllByRecursion (OfLink links) rs → unjoined_in all rs ≡ None
none_unjoined links all [] j h = refl
none_unjoined links all (r ∷ rs) j h =
    let joined : is_joined all (name_of r) ≡ true = ap (is_joined all) h.0.2 ∙ j h.0.0 h.0.1 in
    rw joined (none_unjoined links all rs j h.1)

pub all_joined : (links : List LinkSpec) (os : List OpSpec) (ws : List WrittenStage) → length links < 2 ^ 64 → ((from : ℕ) → Leaves links from) → ((i : ℕ) → i < length links → ((get_or links i no_link).from < length os) × ((get_or links i no_link).to < length os)) → AreLines links 0 os ws → unjoined (stages_of ws) ≡ None
all_joined links os ws s l w h =
    let all = all_redirects (stages_of ws) in
    none_unjoined links all all
    (λ i k. (let n = w i k in joined_by all (link_name i)
    (all_written links 0 i os ws s k l h ∙ is_among (get_or links i no_link).from 0 (length os) (omega arith) (omega arith))
    (all_read links 0 i os ws s k h ∙ is_among (get_or links i no_link).to 0 (length os) (omega arith) (omega arith))))
    (redirects_of links 0 os ws h)
