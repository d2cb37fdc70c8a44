-- The links of printed operators are those that were printed.
use Rattle.std.proofs.Common.{◌≡◌, ◌≢◌, ◌<◌, ◌+◌, ℕ, zero, suc, List, [], ◌∷◌, ◌++◌, length, map, filter, get_or, cond, Bool, true, false, Option, Some, None, refl, sym, ap, ◌∙◌, subst, append_assoc, arith, length-append}
use Rattle.std.specs.Prelude.{◌==◌, nat_le, position}
use Rattle.std.specs.List.{AllByRecursion}
use Rattle.std.proofs.lemmas.Bool.{eqb-true, eq-eqb, ne_eqb, le-leb, leb-true, leb-false, lt-leb}
use Rattle.flow_graph.specs.declared.flow.LinkSpec.{LinkSpec}
use Rattle.flow_graph.specs.declared.flow.OpSpec.{OpSpec}
use Rattle.flow_graph.specs.Charts.{no_link}
use Rattle.osh_read.specs.declared.stage.Redirect.{Redirect}
use Rattle.osh_read.specs.declared.stage.Redirect.TheVariants as redirect
use Rattle.osh_read.specs.declared.stage.Joint.{Joint}
use Rattle.osh_read.specs.declared.links.Output.{Output}
use Rattle.osh_read.specs.Joining.{pipe_ports, source, link_from, links_of, pipe_link, links_from}
use Rattle.osh_print.specs.LinkText.{link_name, leaves}
use Rattle.osh_sound.specs.Grammar.{WrittenStage, stages_of}
use Rattle.osh_back.specs.Spelled.{ByConsumer, InPorts}
use Rattle.osh_back.proofs.MethodsPrinted.{unplaced}
use Rattle.osh_back.proofs.LinesPrinted.{input_if, inputs, output, outs, leaving, AreLines}
use Rattle.osh_back.proofs.OutputsBack.{Sources}

abbrev pub goes : ℕ → LinkSpec → Bool
goes to l = l.to == to

pub get_at : (pre : List LinkSpec) (l : LinkSpec) (ls : List LinkSpec) → get_or (pre ++ l ∷ ls) (length pre) no_link ≡ l
get_at [] l ls = refl
get_at (x ∷ pre) l ls = get_at pre l ls

-- ---- places don't matter

in_placed : (o : Option Output) (to port at : ℕ) (name : List ℕ) (m : _) (f : _) → link_from o to port (redirect.In at name m f) ≡ link_from o to port (redirect.In 0 name m f)
in_placed None to port at name m f = refl
in_placed (Some x) to port at name m f = refl

no_output : (o : Option Output) (to port at : ℕ) (name : List ℕ) → link_from o to port (redirect.Out at name) ≡ []
no_output None to port at name = refl
no_output (Some x) to port at name = refl

links_placed : (os : List Output) (to port : ℕ) (rs : List Redirect) → links_of os to port rs ≡ links_of os to port (map unplaced rs)
unfolding unplaced
links_placed os to port [] = refl
links_placed os to port (redirect.In at name m f ∷ rs) =
    ap (λ (xs : List LinkSpec). xs ++ links_of os to (port + 1) rs) (in_placed (source os name) to port at name m f) ∙ ap (λ (xs : List LinkSpec). link_from (source os name) to port (redirect.In 0 name m f) ++ xs) (links_placed os to (port + 1) rs)
links_placed os to port (redirect.Out at name ∷ rs) =
    ap (λ (xs : List LinkSpec). xs ++ links_of os to port rs) (no_output (source os name) to port at name)
    ∙ (links_placed os to port rs ∙ ap (λ (xs : List LinkSpec). xs ++ links_of os to port (map unplaced rs)) (sym (no_output (source os name) to port 0 name)))

no_outs : (os : List Output) (to port : ℕ) (links : List LinkSpec) (from n out : ℕ) → links_of os to port (outs links from n out) ≡ []
no_outs os to port links from zero out = refl
no_outs os to port links from (suc n) out = by (position (leaves from out) links) (no_outs os to port links from n (out + 1))
  where
    by : (r : Option ℕ) → links_of os to port (outs links from n (out + 1)) ≡ [] → links_of os to port (output r ++ outs links from n (out + 1)) ≡ []
    by None more = more
    by (Some j) more = ap (λ (xs : List LinkSpec). xs ++ links_of os to port (outs links from n (out + 1))) (no_output (source os (link_name j)) to port 0 (link_name j)) ∙ more

-- ---- the links into an operator

link_is : (l : LinkSpec) (to port : ℕ) → l.to ≡ to → l.port ≡ port → record { from = l.from; out = l.out; to = to; port = port; method = l.method; flag = l.flag } ≡ l
link_is l to port e f =
    let a : record { from = l.from; out = l.out; to = to; port = port; method = l.method; flag = l.flag } ≡ record { from = l.from; out = l.out; to = l.to; port = port; method = l.method; flag = l.flag } = ap (λ x. let q : LinkSpec = record { from = l.from; out = l.out; to = x; port = port; method = l.method; flag = l.flag } in q) (sym e) in
    let b : record { from = l.from; out = l.out; to = l.to; port = port; method = l.method; flag = l.flag } ≡ l = ap (λ x. let q : LinkSpec = record { from = l.from; out = l.out; to = l.to; port = x; method = l.method; flag = l.flag } in q) (sym f) in
    a ∙ b

into : (links : List LinkSpec) (os : List Output) (to port : ℕ) (pre ls : List LinkSpec) (rs : List Redirect) → Sources links os → links ≡ pre ++ ls → ((p : ℕ) → links_of os to p rs ≡ []) → InPorts port (filter (goes to) ls) → links_of os to port (inputs to (length pre) ls ++ rs) ≡ filter (goes to) ls
into links os to port pre [] rs s e n h = n port
into links os to port pre (l ∷ ls) rs s e n h =
    let len : length (pre ++ l ∷ []) ≡ length pre + 1 = length-append pre (l ∷ []) in
    by (l.to == to) refl h (λ p k. subst (λ m. links_of os to p (inputs to m ls ++ rs) ≡ filter (goes to) ls) len (into links os to p (pre ++ l ∷ []) ls rs s (e ∙ sym (append_assoc pre (l ∷ []) ls)) n k))
  where
    here : get_or links (length pre) no_link ≡ l
    here = ap (λ (xs : List LinkSpec). get_or xs (length pre) no_link) e ∙ get_at pre l ls

    inside : length pre < length links
    inside = let a = ap length e in let b = length-append pre (l ∷ ls) in omega arith

    by : (b : Bool) → (l.to == to) ≡ b → InPorts port (cond b (l ∷ filter (goes to) ls) (filter (goes to) ls)) → ((p : ℕ) → InPorts p (filter (goes to) ls) → links_of os to p (inputs to (length pre + 1) ls ++ rs) ≡ filter (goes to) ls)
        → links_of os to port ((input_if b (length pre) l ++ inputs to (length pre + 1) ls) ++ rs) ≡ cond b (l ∷ filter (goes to) ls) (filter (goes to) ls)
    by true q k more =
        (let from_here = ap (λ (x : LinkSpec). x.from) here in
        let out_here = ap (λ (x : LinkSpec). x.out) here in
        let found = s (length pre) inside in
        let one : link_from (source os (link_name (length pre))) to port (redirect.In 0 (link_name (length pre)) l.method l.flag) ≡ l ∷ [] =
        ap (λ (o : Option Output). link_from o to port (redirect.In 0 (link_name (length pre)) l.method l.flag)) found
        ∙ (ap (λ (x : LinkSpec). let q : LinkSpec = record { from = x.from; out = x.out; to = to; port = port; method = l.method; flag = l.flag } in q ∷ []) here
        ∙ ap (λ (x : LinkSpec). x ∷ []) (link_is l to port (eqb-true _ _ q) k.0)) in
        ap (λ (xs : List LinkSpec). xs ++ links_of os to (port + 1) (inputs to (length pre + 1) ls ++ rs)) one ∙ ap (λ (xs : List LinkSpec). l ∷ xs) (more (port + 1) k.1))
    by false q k more = more port k

-- ---- the links, consumer by consumer

abbrev onwards : ℕ → LinkSpec → Bool
onwards to l = nat_le to l.to

none_into : (x to : ℕ) (ls : List LinkSpec) → ByConsumer x ls → to < x → filter (goes to) ls ≡ []
none_into x to [] h k = refl
none_into x to (l ∷ ls) h k =
    let other : (l.to == to) ≡ false = ne_eqb l.to to (let m = h.0 in omega arith) in
    let more = none_into l.to to ls h.1 (let m = h.0 in omega arith) in
    rw other more

split_off : (x to : ℕ) (ls : List LinkSpec) → ByConsumer x ls → filter (onwards to) ls ≡ filter (goes to) ls ++ filter (onwards (to + 1)) ls
split_off x to [] h = refl
split_off x to (l ∷ ls) h = by (nat_le to l.to) refl (l.to == to) refl (split_off l.to to ls h.1)
  where
    by : (a : Bool) → nat_le to l.to ≡ a → (b : Bool) → (l.to == to) ≡ b → filter (onwards to) ls ≡ filter (goes to) ls ++ filter (onwards (to + 1)) ls
        → cond a (l ∷ filter (onwards to) ls) (filter (onwards to) ls) ≡ cond b (l ∷ filter (goes to) ls) (filter (goes to) ls) ++ cond (nat_le (to + 1) l.to) (l ∷ filter (onwards (to + 1)) ls) (filter (onwards (to + 1)) ls)
    by true p true q more =
        (let same : l.to ≡ to = eqb-true _ _ q in
        let later : nat_le (to + 1) l.to ≡ false = lt-leb (to + 1) l.to (omega arith) in
        rw later (ap (λ (xs : List LinkSpec). l ∷ xs) more))
    by true p false q more =
        (let low = leb-true _ _ p in
        let ne : l.to ≢ to = (λ e. (let k = eq-eqb l.to to e in absurd cc)) in
        let later : nat_le (to + 1) l.to ≡ true = le-leb (to + 1) l.to (omega arith) in
        let none = none_into l.to to ls h.1 (omega arith) in
        rw (later, none) (ap (λ (xs : List LinkSpec). l ∷ xs) (more ∙ ap (λ (xs : List LinkSpec). xs ++ filter (onwards (to + 1)) ls) none)))
    by false p true q more = absurd (let same : l.to ≡ to = eqb-true _ _ q in let low : l.to < to = leb-false _ _ p in omega arith)
    by false p false q more =
        (let low : l.to < to = leb-false _ _ p in
        let later : nat_le (to + 1) l.to ≡ false = lt-leb (to + 1) l.to (omega arith) in
        rw later more)

none_onwards : (n : ℕ) (ls : List LinkSpec) → AllByRecursion (λ (l : LinkSpec). (l.from < n) × (l.to < n)) ls → filter (onwards n) ls ≡ []
none_onwards n [] h = refl
none_onwards n (l ∷ ls) h = let other : nat_le n l.to ≡ false = lt-leb n l.to h.0.1 in rw other (none_onwards n ls h.1)

all_onwards : (ls : List LinkSpec) → filter (onwards 0) ls ≡ ls
all_onwards [] = refl
all_onwards (l ∷ ls) = let here : nat_le 0 l.to ≡ true = le-leb 0 l.to (omega arith) in rw here (ap (λ (xs : List LinkSpec). l ∷ xs) (all_onwards ls))

stages_link : (links : List LinkSpec) (outputs : List Output) (to : ℕ) (os : List OpSpec) (ws : List WrittenStage) → Sources links outputs → ByConsumer 0 links → ((o : ℕ) → InPorts 0 (filter (goes o) links)) → AllByRecursion (λ (l : LinkSpec). (l.from < to + length os) × (l.to < to + length os)) links → AreLines links to os ws
    → links_from outputs to (stages_of ws) ≡ filter (onwards to) links
stages_link links outputs to [] [] s b p w h = sym (none_onwards to links (subst (λ n. AllByRecursion (λ (l : LinkSpec). (l.from < n) × (l.to < n)) links) (let z : to + 0 ≡ to = omega arith in z) w))
stages_link links outputs to [] (v ∷ ws) s b p w h = absurd h
stages_link links outputs to (o ∷ os) [] s b p w h = absurd h
stages_link links outputs to (o ∷ os) (v ∷ ws) s b p w h =
    let line = h.0 in
    let more = stages_link links outputs (to + 1) os ws s b p (subst (λ n. AllByRecursion (λ (l : LinkSpec). (l.from < n) × (l.to < n)) links) (let z : to + suc (length os) ≡ to + 1 + length os = omega arith in z) w) h.1 in
    let here : links_of outputs to 0 v.stage.redirects ≡ filter (goes to) links =
    links_placed outputs to 0 v.stage.redirects ∙ (ap (links_of outputs to 0) line.redirects ∙ into links outputs to 0 [] links (outs links to (leaving to links) 0) s refl (λ q. no_outs outputs to q links to (leaving to links) 0) (p to)) in
    ap (λ (j : Joint). pipe_link to j ++ (links_of outputs to (pipe_ports j) v.stage.redirects ++ links_from outputs (to + 1) (stages_of ws))) line.joined
    ∙ (ap (λ (xs : List LinkSpec). xs ++ links_from outputs (to + 1) (stages_of ws)) here
    ∙ (ap (λ (xs : List LinkSpec). filter (goes to) links ++ xs) more ∙ sym (split_off 0 to links b)))

pub links_back : (links : List LinkSpec) (outputs : List Output) (os : List OpSpec) (ws : List WrittenStage) → Sources links outputs → ByConsumer 0 links → ((o : ℕ) → InPorts 0 (filter (goes o) links)) → AllByRecursion (λ (l : LinkSpec). (l.from < length os) × (l.to < length os)) links → AreLines links 0 os ws
    → links_from outputs 0 (stages_of ws) ≡ links
links_back links outputs os ws s b p w h = stages_link links outputs 0 os ws s b p (subst (λ n. AllByRecursion (λ (l : LinkSpec). (l.from < n) × (l.to < n)) links) (let z : length os ≡ 0 + length os = omega arith in z) w) h ∙ all_onwards links
