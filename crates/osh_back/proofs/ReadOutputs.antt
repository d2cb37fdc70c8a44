-- Each output port of operators that were read is on one link.
use Rattle.std.proofs.Common.{◌≡◌, ◌≤◌, ◌<◌, ◌+◌, ◌-◌, ℕ, zero, suc, List, [], ◌∷◌, ◌++◌, length, filter, cond, Bool, true, false, Option, Some, None, refl, sym, ap, ◌∙◌, subst, arith, length-append}
use Rattle.std.specs.Prelude.{if◌then◌else◌, ◌==◌, ◌&&◌, nat_lt}
use Rattle.std.specs.List.{AllByRecursion}
use Rattle.std.specs.Str.{bytes_eq}
use Rattle.std.specs.Cmp.{first_so, second_so}
use Rattle.std.proofs.lemmas.Bool.{eqb-true, eq-eqb, ne_eqb, false_from_ne_true, le-ltb, ltb-true, ltb-false}
use Rattle.std.proofs.lemmas.Bool.Decides.{nat_tests}
use Rattle.std.proofs.lemmas.List.Elements.{filter-append}
use Rattle.op_base.proofs.All.{all_append, all_map, split_left, split_right}
use Rattle.ds_lex.proofs.Readers.{same_bytes, bytes_same}
use Rattle.flow_graph.specs.declared.flow.LinkSpec.{LinkSpec}
use Rattle.osh_read.specs.declared.stage.Redirect.{Redirect}
use Rattle.osh_read.specs.declared.stage.Redirect.TheVariants as redirect
use Rattle.osh_read.specs.declared.stage.Joint.{Joint}
use Rattle.osh_read.specs.declared.stage.Joint.TheVariants as joint
use Rattle.osh_read.specs.declared.stage.Stage.{Stage}
use Rattle.osh_read.specs.declared.links.Output.{Output}
use Rattle.osh_read.specs.Joining.{name_of, place_of, writes, reads, is_joined, unjoined_in, all_redirects, unjoined, pipe_ports, ports_before, outputs_of, outputs, source, link_from, links_of, pipe_link, links_from, links}
use Rattle.osh_print.specs.LinkText.{leaves}
use Rattle.osh_back.specs.Spelled.{HasOutputs}
use Rattle.osh_back.proofs.OutputsBack.{ne_from}

-- ---- written once and read once

abbrev written : List ℕ → List Redirect → ℕ
written name rs = length (filter (writes name) rs)

abbrev read : List ℕ → List Redirect → ℕ
read name rs = length (filter (reads name) rs)

abbrev Once : List Redirect → List ℕ → Type 0
Once all name = (written name all ≡ 1) × (read name all ≡ 1)

once : (all : List Redirect) (name : List ℕ) → is_joined all name ≡ true → Once all name
unfolding is_joined
once all name h = (eqb-true _ _ (first_so (written name all == 1) (read name all == 1) h), eqb-true _ _ (second_so (written name all == 1) (read name all == 1) h))

all_once : (all rs : List Redirect) → unjoined_in all rs ≡ None → AllByRecursion (λ (r : Redirect). Once all (name_of r)) rs
all_once all [] h = tt
all_once all (r ∷ rs) h = let k = by (is_joined all (name_of r)) (unjoined_in all rs) (place_of r) h in (once all (name_of r) k.0, all_once all rs k.1)
  where
    by : (b : Bool) (other : Option ℕ) (at : ℕ) → (if b then other else Some at) ≡ None → (b ≡ true) × (other ≡ None)
    by true other at h = (refl, h)
    by false other at h = absurd cc

-- ---- where names are written

outputs_once : (all : List Redirect) (from out : ℕ) (rs : List Redirect) → AllByRecursion (λ (r : Redirect). Once all (name_of r)) rs → AllByRecursion (λ (o : Output). Once all o.name) (outputs_of from out rs)
outputs_once all from out [] h = tt
outputs_once all from out (redirect.In at name m f ∷ rs) h = outputs_once all from out rs h.1
outputs_once all from out (redirect.Out at name ∷ rs) h = (h.0, outputs_once all from (out + 1) rs h.1)

all_outputs_once : (all : List Redirect) (from : ℕ) (ss : List Stage) → AllByRecursion (λ (r : Redirect). Once all (name_of r)) (all_redirects ss) → AllByRecursion (λ (o : Output). Once all o.name) (outputs from ss)
all_outputs_once all from [] h = tt
all_outputs_once all from (s ∷ ss) h =
    all_append (λ (o : Output). Once all o.name) (outputs_of from (ports_before ss) s.redirects) (outputs (from + 1) ss)
    (outputs_once all from (ports_before ss) s.redirects (split_left (λ (r : Redirect). Once all (name_of r)) s.redirects (all_redirects ss) h))
    (all_outputs_once all (from + 1) ss (split_right (λ (r : Redirect). Once all (name_of r)) s.redirects (all_redirects ss) h))

abbrev called : List ℕ → Output → Bool
called name o = bytes_eq o.name name

named_here : (name : List ℕ) (from out : ℕ) (rs : List Redirect) → length (filter (called name) (outputs_of from out rs)) ≡ written name rs
named_here name from out [] = refl
named_here name from out (redirect.In at other m f ∷ rs) = named_here name from out rs
named_here name from out (redirect.Out at other ∷ rs) = by (bytes_eq other name) (named_here name from (out + 1) rs)
  where
    by : (b : Bool) → length (filter (called name) (outputs_of from (out + 1) rs)) ≡ written name rs → length (cond b (record { name = other; from = from; out = out } ∷ filter (called name) (outputs_of from (out + 1) rs)) (filter (called name) (outputs_of from (out + 1) rs))) ≡ length (cond b (redirect.Out at other ∷ filter (writes name) rs) (filter (writes name) rs))
    by true e = ap (λ n. suc n) e
    by false e = e

named_in_all : (name : List ℕ) (from : ℕ) (ss : List Stage) → length (filter (called name) (outputs from ss)) ≡ written name (all_redirects ss)
named_in_all name from [] = refl
named_in_all name from (s ∷ ss) =
    let a = ap length (filter-append (called name) (outputs_of from (ports_before ss) s.redirects) (outputs (from + 1) ss)) ∙ length-append (filter (called name) (outputs_of from (ports_before ss) s.redirects)) (filter (called name) (outputs (from + 1) ss)) in
    let b = ap length (filter-append (writes name) s.redirects (all_redirects ss)) ∙ length-append (filter (writes name) s.redirects) (filter (writes name) (all_redirects ss)) in
    let c = named_here name from (ports_before ss) s.redirects in
    let d = named_in_all name (from + 1) ss in
    omega arith

-- no two have one name
abbrev NamesApart : List Output → Type 0
NamesApart [] = Unit {0}
NamesApart (o ∷ os) = AllByRecursion (λ (x : Output). bytes_eq x.name o.name ≡ false) os × NamesApart os

none_called : (name : List ℕ) (os : List Output) → length (filter (called name) os) ≡ 0 → AllByRecursion (λ (x : Output). bytes_eq x.name name ≡ false) os
none_called name [] h = tt
none_called name (o ∷ os) h = by (bytes_eq o.name name) refl h (λ k. none_called name os k)
  where
    by : (b : Bool) → bytes_eq o.name name ≡ b → length (cond b (o ∷ filter (called name) os) (filter (called name) os)) ≡ 0 → (length (filter (called name) os) ≡ 0 → AllByRecursion (λ (x : Output). bytes_eq x.name name ≡ false) os) → AllByRecursion (λ (x : Output). bytes_eq x.name name ≡ false) (o ∷ os)
    by true e k more = absurd (omega arith)
    by false e k more = (e, more k)

fewer : (name : List ℕ) (o : Output) (os : List Output) → length (filter (called name) (o ∷ os)) ≤ 1 → length (filter (called name) os) ≤ 1
fewer name o os h = by (bytes_eq o.name name) h
  where
    by : (b : Bool) → length (cond b (o ∷ filter (called name) os) (filter (called name) os)) ≤ 1 → length (filter (called name) os) ≤ 1
    by true k = omega arith
    by false k = k

names_apart : (os : List Output) → AllByRecursion (λ (o : Output). length (filter (called o.name) os) ≤ 1) os → NamesApart os
names_apart [] h = tt
names_apart (o ∷ os) h =
    let self : bytes_eq o.name o.name ≡ true = bytes_same o.name o.name refl in
    let one : length (filter (called o.name) (o ∷ os)) ≡ suc (length (filter (called o.name) os)) = rw self refl in
    let first = h.0 in
    (none_called o.name os (omega arith), names_apart os (all_map (λ (x : Output). length (filter (called x.name) (o ∷ os)) ≤ 1) (λ (x : Output). length (filter (called x.name) os) ≤ 1) (λ x k. fewer x.name o os k) os h.1))

-- no two are at one port
abbrev at_port : ℕ → ℕ → Output → Bool
at_port p out o = (o.from == p) && (o.out == out)

abbrev PortsApart : List Output → Type 0
PortsApart [] = Unit {0}
PortsApart (o ∷ os) = AllByRecursion (λ (x : Output). at_port o.from o.out x ≡ false) os × PortsApart os

abbrev Beyond : ℕ → ℕ → Output → Type 0
Beyond from out o = (o.from ≡ from) × (out ≤ o.out)

later_here : (from out : ℕ) (rs : List Redirect) → AllByRecursion (Beyond from out) (outputs_of from out rs)
later_here from out [] = tt
later_here from out (redirect.In at name m f ∷ rs) = later_here from out rs
later_here from out (redirect.Out at name ∷ rs) = ((refl, omega arith), all_map (Beyond from (out + 1)) (Beyond from out) (λ x k. (k.0, let m = k.1 in omega arith)) (outputs_of from (out + 1) rs) (later_here from (out + 1) rs))

not_at : (p out : ℕ) (o : Output) → (o.from ≡ p → o.out ≡ out → ⊥) → at_port p out o ≡ false
not_at p out o n = false_from_ne_true (at_port p out o) (λ h. n (eqb-true _ _ (first_so (o.from == p) (o.out == out) h)) (eqb-true _ _ (second_so (o.from == p) (o.out == out) h)))

ports_here : (from out : ℕ) (rs : List Redirect) → PortsApart (outputs_of from out rs)
ports_here from out [] = tt
ports_here from out (redirect.In at name m f ∷ rs) = ports_here from out rs
ports_here from out (redirect.Out at name ∷ rs) =
    (all_map (Beyond from (out + 1)) (λ (x : Output). at_port from out x ≡ false) (λ x k. not_at from out x (λ e f. (let m = k.1 in absurd (omega arith)))) (outputs_of from (out + 1) rs) (later_here from (out + 1) rs), ports_here from (out + 1) rs)

onwards : (from : ℕ) (ss : List Stage) → AllByRecursion (λ (o : Output). from ≤ o.from) (outputs from ss)
onwards from [] = tt
onwards from (s ∷ ss) =
    all_append (λ (o : Output). from ≤ o.from) (outputs_of from (ports_before ss) s.redirects) (outputs (from + 1) ss)
    (all_map (Beyond from (ports_before ss)) (λ (o : Output). from ≤ o.from) (λ x k. (let e = k.0 in omega arith)) (outputs_of from (ports_before ss) s.redirects) (later_here from (ports_before ss) s.redirects))
    (all_map (λ (o : Output). from + 1 ≤ o.from) (λ (o : Output). from ≤ o.from) (λ x k. omega arith) (outputs (from + 1) ss) (onwards (from + 1) ss))

apart_then : (from : ℕ) (xs ys : List Output) → PortsApart xs → PortsApart ys → AllByRecursion (λ (o : Output). o.from ≡ from) xs → AllByRecursion (λ (o : Output). from + 1 ≤ o.from) ys → PortsApart (xs ++ ys)
apart_then from [] ys a b h k = b
apart_then from (x ∷ xs) ys a b h k = (
  all_append (λ (y : Output). at_port x.from x.out y ≡ false) xs ys a.0 (all_map (λ (o : Output). from + 1 ≤ o.from) (λ (y : Output). at_port x.from x.out y ≡ false) (λ y m. not_at x.from x.out y (λ e f. (let g = h.0 in absurd (omega arith)))) ys k),
  apart_then from xs ys a.1 b h.1 k,
)

ports_apart : (from : ℕ) (ss : List Stage) → PortsApart (outputs from ss)
ports_apart from [] = tt
ports_apart from (s ∷ ss) =
    apart_then from (outputs_of from (ports_before ss) s.redirects) (outputs (from + 1) ss) (ports_here from (ports_before ss) s.redirects) (ports_apart (from + 1) ss)
    (all_map (Beyond from (ports_before ss)) (λ (o : Output). o.from ≡ from) (λ x k. k.0) (outputs_of from (ports_before ss) s.redirects) (later_here from (ports_before ss) s.redirects)) (onwards (from + 1) ss)

-- ---- a data set leads from the port at which it is written

-- the name that is written at a port
abbrev name_at : ℕ → ℕ → List Output → Option (List ℕ)
name_at p out [] = None
name_at p out (o ∷ os) = if at_port p out o then Some o.name else name_at p out os

abbrev is_named : Option (List ℕ) → List ℕ → Bool
is_named None name = false
is_named (Some other) name = bytes_eq name other

abbrev leads : Option Output → ℕ → ℕ → Bool
leads None p out = false
leads (Some o) p out = at_port p out o

unnamed : (p out : ℕ) (name : List ℕ) (os : List Output) → AllByRecursion (λ (x : Output). bytes_eq x.name name ≡ false) os → is_named (name_at p out os) name ≡ false
unnamed p out name [] h = refl
unnamed p out name (o ∷ os) h = by (at_port p out o) (unnamed p out name os h.1)
  where
    by : (b : Bool) → is_named (name_at p out os) name ≡ false → is_named (if b then Some o.name else name_at p out os) name ≡ false
    by true more = false_from_ne_true (bytes_eq name o.name) (λ e. (let k : bytes_eq o.name name ≡ true = bytes_same o.name name (sym (same_bytes name o.name e)) in let f = h.0 in absurd cc))
    by false more = more

unled : (p out : ℕ) (name : List ℕ) (os : List Output) → AllByRecursion (λ (x : Output). at_port p out x ≡ false) os → leads (source os name) p out ≡ false
unled p out name [] h = refl
unled p out name (o ∷ os) h = by (bytes_eq o.name name) (unled p out name os h.1)
  where
    by : (b : Bool) → leads (source os name) p out ≡ false → leads (if b then Some o else source os name) p out ≡ false
    by true more = h.0
    by false more = more

leads_so : (p out : ℕ) (name : List ℕ) (os : List Output) → NamesApart os → PortsApart os → leads (source os name) p out ≡ is_named (name_at p out os) name
leads_so p out name [] n q = refl
leads_so p out name (o ∷ os) n q = by (bytes_eq o.name name) refl (at_port p out o) refl (leads_so p out name os n.1 q.1)
  where
    by : (a : Bool) → bytes_eq o.name name ≡ a → (b : Bool) → at_port p out o ≡ b → leads (source os name) p out ≡ is_named (name_at p out os) name
        → leads (if a then Some o else source os name) p out ≡ is_named (if b then Some o.name else name_at p out os) name
    by true e true f more = f ∙ sym (bytes_same name o.name (sym (same_bytes o.name name e)))
    by true e false f more = f ∙ sym (unnamed p out name os (subst (λ m. AllByRecursion (λ (x : Output). bytes_eq x.name m ≡ false) os) (same_bytes o.name name e) n.0))
    by false e true f more =
        (let here : (o.from ≡ p) × (o.out ≡ out) = (eqb-true o.from p (first_so (o.from == p) (o.out == out) f), eqb-true o.out out (second_so (o.from == p) (o.out == out) f)) in
        let none : AllByRecursion (λ (x : Output). at_port p out x ≡ false) os = subst (λ m. AllByRecursion (λ (x : Output). at_port p m x ≡ false) os) here.1 (subst (λ m. AllByRecursion (λ (x : Output). at_port m o.out x ≡ false) os) here.0 q.0) in
        unled p out name os none ∙ sym (false_from_ne_true (bytes_eq name o.name) (λ k. (let t : bytes_eq o.name name ≡ true = bytes_same o.name name (sym (same_bytes name o.name k)) in absurd cc))))
    by false e false f more = more

-- ---- links that leave by a port

abbrev one_if : Bool → ℕ
one_if true = 1
one_if false = 0

abbrev leaving : ℕ → ℕ → List LinkSpec → ℕ
leaving p out ls = length (filter (leaves p out) ls)

leaving_then : (p out : ℕ) (xs ys : List LinkSpec) → leaving p out (xs ++ ys) ≡ leaving p out xs + leaving p out ys
leaving_then p out xs ys = ap length (filter-append (leaves p out) xs ys) ∙ length-append (filter (leaves p out) xs) (filter (leaves p out) ys)

counted : {X : Type 0} (b : Bool) (x : X) (xs : List X) → length (cond b (x ∷ xs) xs) ≡ one_if b + length xs
counted true x xs = let e : suc (length xs) ≡ 1 + length xs = omega arith in e
counted false x xs = let e : length xs ≡ 0 + length xs = omega arith in e

-- how many redirects read the name
abbrev wanted : Option (List ℕ) → List Redirect → ℕ
wanted None rs = 0
wanted (Some name) rs = read name rs

wanted_then : (q : Option (List ℕ)) (xs ys : List Redirect) → wanted q (xs ++ ys) ≡ wanted q xs + wanted q ys
wanted_then None xs ys = refl
wanted_then (Some name) xs ys = ap length (filter-append (reads name) xs ys) ∙ length-append (filter (reads name) xs) (filter (reads name) ys)

wanted_in : (q : Option (List ℕ)) (at : ℕ) (name : List ℕ) (m : _) (f : _) (rs : List Redirect) → wanted q (redirect.In at name m f ∷ rs) ≡ one_if (is_named q name) + wanted q rs
wanted_in None at name m f rs = refl
wanted_in (Some other) at name m f rs = counted (bytes_eq name other) (redirect.In at name m f) (filter (reads other) rs)

wanted_out : (q : Option (List ℕ)) (at : ℕ) (name : List ℕ) (rs : List Redirect) → wanted q (redirect.Out at name ∷ rs) ≡ wanted q rs
wanted_out None at name rs = refl
wanted_out (Some other) at name rs = refl

link_leaves : (p out to port at : ℕ) (name : List ℕ) (m : _) (f : _) (o : Option Output) → leaving p out (link_from o to port (redirect.In at name m f)) ≡ one_if (leads o p out)
link_leaves p out to port at name m f None = refl
link_leaves p out to port at name m f (Some o) = let c = counted (at_port p out o) (let l : LinkSpec = record { from = o.from; out = o.out; to = to; port = port; method = m; flag = f } in l) [] in let z : one_if (at_port p out o) + 0 ≡ one_if (at_port p out o) = omega arith in c ∙ z

no_link_out : (to port at : ℕ) (name : List ℕ) (o : Option Output) → link_from o to port (redirect.Out at name) ≡ []
no_link_out to port at name None = refl
no_link_out to port at name (Some o) = refl

redirects_leave : (os : List Output) (p out to port : ℕ) (rs : List Redirect) → NamesApart os → PortsApart os → leaving p out (links_of os to port rs) ≡ wanted (name_at p out os) rs
redirects_leave os p out to port [] n q = none (name_at p out os)
  where
    none : (w : Option (List ℕ)) → 0 ≡ wanted w []
    none None = refl
    none (Some name) = refl
redirects_leave os p out to port (redirect.In at name m f ∷ rs) n q =
    let a = leaving_then p out (link_from (source os name) to port (redirect.In at name m f)) (links_of os to (port + 1) rs) in
    let b = link_leaves p out to port at name m f (source os name) ∙ ap one_if (leads_so p out name os n q) in
    let c = redirects_leave os p out to (port + 1) rs n q in
    let d = wanted_in (name_at p out os) at name m f rs in
    omega arith
redirects_leave os p out to port (redirect.Out at name ∷ rs) n q =
    ap (λ (xs : List LinkSpec). leaving p out (xs ++ links_of os to port rs)) (no_link_out to port at name (source os name))
    ∙ (redirects_leave os p out to port rs n q ∙ sym (wanted_out (name_at p out os) at name rs))

-- pipes between these stages
piping : ℕ → ℕ → ℕ → List Stage → ℕ
piping p out from [] = 0
piping p out from (s ∷ ss) = one_if ((from == p) && nat_lt out (ports_before ss)) + piping p out (from + 1) ss

and_none : (a : Bool) (out : ℕ) → (a && nat_lt out 0) ≡ false
and_none true out = grind (arith, nat_tests)
and_none false out = refl

pipe_leaves : (p out from : ℕ) (j : Joint) → leaving p out (pipe_link (from + 1) j) ≡ one_if ((from == p) && nat_lt out (pipe_ports j))
pipe_leaves p out from joint.Apart = let z = ap one_if (and_none (from == p) out) in sym z
pipe_leaves p out from (joint.Piped m f) =
    let c = counted ((from + 1 - 1 == p) && (0 == out)) (let l : LinkSpec = record { from = from + 1 - 1; out = 0; to = from + 1; port = 0; method = m; flag = f } in l) [] in
    let same : from + 1 - 1 ≡ from = omega arith in
    let first : (0 == out) ≡ nat_lt out 1 = grind (arith, nat_tests) in
    let z : one_if ((from + 1 - 1 == p) && (0 == out)) ≡ one_if ((from == p) && nat_lt out 1) = rw (same, first) refl in
    c ∙ (let y : one_if ((from + 1 - 1 == p) && (0 == out)) + 0 ≡ one_if ((from + 1 - 1 == p) && (0 == out)) = omega arith in y ∙ z)

stages_leave : (os : List Output) (p out to : ℕ) (s : Stage) (ss : List Stage) → NamesApart os → PortsApart os → leaving p out (links_from os to (s ∷ ss)) ≡ leaving p out (pipe_link to s.joined) + (piping p out to (s ∷ ss) + wanted (name_at p out os) (all_redirects (s ∷ ss)))
unfolding piping
stages_leave os p out to s [] n q =
    let a = leaving_then p out (pipe_link to s.joined) (links_of os to (pipe_ports s.joined) s.redirects ++ []) in
    let b = leaving_then p out (links_of os to (pipe_ports s.joined) s.redirects) [] in
    let c = redirects_leave os p out to (pipe_ports s.joined) s.redirects n q in
    let d = wanted_then (name_at p out os) s.redirects [] in
    let e = ap one_if (and_none (to == p) out) in
    let f = none (name_at p out os) in
    omega arith
  where
    none : (w : Option (List ℕ)) → wanted w [] ≡ 0
    none None = refl
    none (Some name) = refl
stages_leave os p out to s (t ∷ ss) n q =
    let a = leaving_then p out (pipe_link to s.joined) (links_of os to (pipe_ports s.joined) s.redirects ++ links_from os (to + 1) (t ∷ ss)) in
    let b = leaving_then p out (links_of os to (pipe_ports s.joined) s.redirects) (links_from os (to + 1) (t ∷ ss)) in
    let c = redirects_leave os p out to (pipe_ports s.joined) s.redirects n q in
    let d = wanted_then (name_at p out os) s.redirects (all_redirects (t ∷ ss)) in
    let e = stages_leave os p out (to + 1) t ss n q in
    let f = pipe_leaves p out to t.joined in
    omega arith

-- ---- the ports of an operator

abbrev there : Option (List ℕ) → ℕ
there None = 0
there (Some name) = 1

-- how often the port is written
abbrev uses : ℕ → ℕ → ℕ → List Stage → ℕ
uses p out from ss = piping p out from ss + there (name_at p out (outputs from ss))

there_then : (p out : ℕ) (xs ys : List Output) → there (name_at p out (xs ++ ys)) ≡ (if nat_lt 0 (there (name_at p out xs)) then 1 else there (name_at p out ys))
there_then p out [] ys = refl
there_then p out (x ∷ xs) ys = by (at_port p out x) (there_then p out xs ys)
  where
    by : (b : Bool) → there (name_at p out (xs ++ ys)) ≡ (if nat_lt 0 (there (name_at p out xs)) then 1 else there (name_at p out ys)) → there (if b then Some x.name else name_at p out (xs ++ ys)) ≡ (if nat_lt 0 (there (if b then Some x.name else name_at p out xs)) then 1 else there (name_at p out ys))
    by true e = refl
    by false e = e

nowhere : (p out : ℕ) (os : List Output) → AllByRecursion (λ (o : Output). o.from ≡ p → ⊥) os → name_at p out os ≡ None
nowhere p out [] h = refl
nowhere p out (o ∷ os) h = let e = not_at p out o (λ k m. h.0 k) in rw e (nowhere p out os h.1)

no_piping : (p out from : ℕ) (ss : List Stage) → p < from → piping p out from ss ≡ 0
unfolding piping
no_piping p out from [] h = refl
no_piping p out from (s ∷ ss) h = let e : (from == p) ≡ false = ne_eqb from p (omega arith) in rw e (let m = no_piping p out (from + 1) ss (omega arith) in omega arith)

unused : (p out from : ℕ) (ss : List Stage) → p < from → uses p out from ss ≡ 0
unused p out from ss h =
    let a = no_piping p out from ss h in
    let b = ap there (nowhere p out (outputs from ss) (all_map (λ (o : Output). from ≤ o.from) (λ (o : Output). o.from ≡ p → ⊥) (λ x k e. absurd (omega arith)) (outputs from ss) (onwards from ss))) in
    omega arith

-- how many outputs go to data sets
writing : List Redirect → ℕ
writing [] = 0
writing (redirect.In at name m f ∷ rs) = writing rs
writing (redirect.Out at name ∷ rs) = suc (writing rs)

none_below : (p first out : ℕ) (rs : List Redirect) → out < first → name_at p out (outputs_of p first rs) ≡ None
none_below p first out rs h = none_by (outputs_of p first rs) (later_here p first rs)
  where
    none_by : (os : List Output) → AllByRecursion (Beyond p first) os → name_at p out os ≡ None
    none_by [] k = refl
    none_by (o ∷ os) k = let e = not_at p out o (λ a b. (let m = k.0.1 in absurd (omega arith))) in rw e (none_by os k.1)

none_past : (p first out : ℕ) (rs : List Redirect) → first + writing rs ≤ out → name_at p out (outputs_of p first rs) ≡ None
unfolding writing
none_past p first out [] h = refl
none_past p first out (redirect.In at name m f ∷ rs) h = none_past p first out rs h
none_past p first out (redirect.Out at name ∷ rs) h =
    let e : at_port p out (record { name = name; from = p; out = first }) ≡ false = not_at p out (record { name = name; from = p; out = first }) (λ a b. absurd (omega arith)) in
    rw e (none_past p (first + 1) out rs (omega arith))

some_between : (p first out : ℕ) (rs : List Redirect) → first ≤ out → out < first + writing rs → there (name_at p out (outputs_of p first rs)) ≡ 1
unfolding writing
some_between p first out [] l h = absurd (omega arith)
some_between p first out (redirect.In at name m f ∷ rs) l h = some_between p first out rs l h
some_between p first out (redirect.Out at name ∷ rs) l h = by (first == out) refl (λ k. some_between p (first + 1) out rs k (omega arith))
  where
    by : (b : Bool) → (first == out) ≡ b → (first + 1 ≤ out → there (name_at p out (outputs_of p (first + 1) rs)) ≡ 1) → there (if (p == p) && (first == out) then Some name else name_at p out (outputs_of p (first + 1) rs)) ≡ 1
    by true e more = let self : (p == p) ≡ true = eq-eqb p p refl in rw (self, e) refl
    by false e more = let self : (p == p) ≡ true = eq-eqb p p refl in rw (self, e) (more (let n = ne_from first out e in omega arith))

-- each port below this number is used once, and no other
record Ports (p from : ℕ) (ss : List Stage) : Type 0 where
  ports : ℕ
  each : (out : ℕ) → out < ports → uses p out from ss ≡ 1
  none : (out : ℕ) → ports ≤ out → uses p out from ss ≡ 0

chosen : (n m : ℕ) → n ≤ 1 → m ≡ 0 → (if nat_lt 0 n then 1 else m) ≡ n
chosen zero m l e = e
chosen (suc n) m l e = let z : n ≡ 0 = omega arith in rw z refl

at_most : (q : Option (List ℕ)) → there q ≤ 1
at_most None = omega arith
at_most (Some name) = omega arith

here_uses : (from out : ℕ) (s : Stage) (ss : List Stage) → uses from out from (s ∷ ss) ≡ one_if (nat_lt out (ports_before ss)) + there (name_at from out (outputs_of from (ports_before ss) s.redirects))
unfolding piping
here_uses from out s ss =
    let rest = unused from out (from + 1) ss (omega arith) in
    let self : (from == from) ≡ true = eq-eqb from from refl in
    let first : one_if ((from == from) && nat_lt out (ports_before ss)) ≡ one_if (nat_lt out (ports_before ss)) = rw self refl in
    let split = there_then from out (outputs_of from (ports_before ss) s.redirects) (outputs (from + 1) ss) in
    let one = chosen (there (name_at from out (outputs_of from (ports_before ss) s.redirects))) (there (name_at from out (outputs (from + 1) ss))) (at_most (name_at from out (outputs_of from (ports_before ss) s.redirects))) (omega arith) in
    omega arith

later_uses : (p from out : ℕ) (s : Stage) (ss : List Stage) → (from == p) ≡ false → uses p out from (s ∷ ss) ≡ uses p out (from + 1) ss
unfolding piping
later_uses p from out s ss e =
    let none = nowhere p out (outputs_of from (ports_before ss) s.redirects) (all_map (Beyond from (ports_before ss)) (λ (o : Output). o.from ≡ p → ⊥) (λ x k m. ne_from from p e (sym k.0 ∙ m)) (outputs_of from (ports_before ss) s.redirects) (later_here from (ports_before ss) s.redirects)) in
    let split = there_then p out (outputs_of from (ports_before ss) s.redirects) (outputs (from + 1) ss) in
    let gone : (if nat_lt 0 (there (name_at p out (outputs_of from (ports_before ss) s.redirects))) then 1 else there (name_at p out (outputs (from + 1) ss))) ≡ there (name_at p out (outputs (from + 1) ss)) = rw none refl in
    let pipe : one_if ((from == p) && nat_lt out (ports_before ss)) ≡ 0 = rw e refl in
    omega arith

here_ports : (from : ℕ) (s : Stage) (ss : List Stage) → Ports from from (s ∷ ss)
here_ports from s ss = record {
  ports = ports_before ss + writing s.redirects;
  each = λ out h. here_uses from out s ss ∙ each out h (nat_lt out (ports_before ss)) refl;
  none = λ out h. here_uses from out s ss ∙ (let a : nat_lt out (ports_before ss) ≡ false = le-ltb out (ports_before ss) (omega arith) in let b = none_past from (ports_before ss) out s.redirects h in rw (a, b) refl);
}
  where
    each : (out : ℕ) → out < ports_before ss + writing s.redirects → (b : Bool) → nat_lt out (ports_before ss) ≡ b → one_if b + there (name_at from out (outputs_of from (ports_before ss) s.redirects)) ≡ 1
    each out h true e = let a = none_below from (ports_before ss) out s.redirects (ltb-true _ _ e) in rw a refl
    each out h false e = let a = some_between from (ports_before ss) out s.redirects (ltb-false _ _ e) h in omega arith

ported : (p from : ℕ) (ss : List Stage) → Ports p from ss
unfolding piping
ported p from [] = record { ports = 0; each = λ out h. absurd (omega arith); none = λ out h. refl }
ported p from (s ∷ ss) = by (from == p) refl (ported p (from + 1) ss)
  where
    by : (b : Bool) → (from == p) ≡ b → Ports p (from + 1) ss → Ports p from (s ∷ ss)
    by true e more = subst (λ m. Ports m from (s ∷ ss)) (eqb-true from p e) (here_ports from s ss)
    by false e more = record { ports = more.ports; each = λ out h. later_uses p from out s ss e ∙ more.each out h; none = λ out h. later_uses p from out s ss e ∙ more.none out h }

wanted_once : (all : List Redirect) (p out : ℕ) (os : List Output) → AllByRecursion (λ (o : Output). Once all o.name) os → wanted (name_at p out os) all ≡ there (name_at p out os)
wanted_once all p out [] h = refl
wanted_once all p out (o ∷ os) h = by (at_port p out o) (wanted_once all p out os h.1)
  where
    by : (b : Bool) → wanted (name_at p out os) all ≡ there (name_at p out os) → wanted (if b then Some o.name else name_at p out os) all ≡ there (if b then Some o.name else name_at p out os)
    by true more = h.0.1
    by false more = more

links_use : (s : Stage) (ss : List Stage) (p out : ℕ) → s.joined ≡ joint.Apart → unjoined (s ∷ ss) ≡ None → leaving p out (links (s ∷ ss)) ≡ uses p out 0 (s ∷ ss)
links_use s ss p out j u =
    let all = all_redirects (s ∷ ss) in
    let os = outputs 0 (s ∷ ss) in
    let o = all_outputs_once all 0 (s ∷ ss) (all_once all all u) in
    let few : AllByRecursion (λ (x : Output). length (filter (called x.name) os) ≤ 1) os = all_map (λ (x : Output). Once all x.name) (λ (x : Output). length (filter (called x.name) os) ≤ 1) (λ x k. (let n = named_in_all x.name 0 (s ∷ ss) in let m = k.0 in omega arith)) os o in
    let a = stages_leave os p out 0 s ss (names_apart os few) (ports_apart 0 (s ∷ ss)) in
    let b = wanted_once all p out os o in
    let c : leaving p out (pipe_link 0 s.joined) ≡ 0 = ap (λ (x : Joint). leaving p out (pipe_link 0 x)) j in
    omega arith

pub read_outputs : (s : Stage) (ss : List Stage) (p : ℕ) → s.joined ≡ joint.Apart → unjoined (s ∷ ss) ≡ None → HasOutputs (links (s ∷ ss)) p
read_outputs s ss p j u =
    let r = ported p 0 (s ∷ ss) in
    record {
      ports = r.ports;
      each = λ out h. links_use s ss p out j u ∙ r.each out h;
      none = λ out h. links_use s ss p out j u ∙ r.none out h;
    }
