-- The links of stages: they run between them, and those into one stand in the order of its ports.
use Rattle.std.proofs.Common.{◌≡◌, ◌≢◌, ◌≤◌, ◌<◌, ◌+◌, ℕ, zero, suc, List, [], ◌∷◌, ◌++◌, length, filter, cond, get_or, Bool, true, false, Option, Some, None, refl, sym, ap, ◌∙◌, subst, append_assoc, arith, length-append, eq-eqb}
use Rattle.std.specs.Prelude.{if◌then◌else◌, ◌==◌}
use Rattle.std.specs.List.{AllByRecursion}
use Rattle.std.specs.Str.{bytes_eq}
use Rattle.std.specs.Cmp.{first_so}
use Rattle.std.proofs.lemmas.Bool.{ne_eqb, eqb-true}
use Rattle.std.proofs.lemmas.List.{append-nil}
use Rattle.std.proofs.lemmas.List.Elements.{filter-append}
use Rattle.op_base.proofs.All.{all_append, all_map}
use Rattle.flow_graph.specs.declared.flow.LinkSpec.{LinkSpec}
use Rattle.flow_graph.specs.declared.flow.Flow.{Flow}
use Rattle.flow_graph.specs.Charts.{no_link, links_into}
use Rattle.flow_graph.specs.FlowShape.{PortsInOrder}
use Rattle.flow_shape.specs.Methods.{MethodDiffers}
use Rattle.flow_shape.specs.Refusals.{chart_of}
use Rattle.flow_shape.proofs.Numbers.{numbers}
use Rattle.flow_shape.proofs.Entries.{into_numbers}
use Rattle.osh_read.specs.declared.stage.Redirect.{Redirect}
use Rattle.osh_read.specs.declared.stage.Redirect.TheVariants as redirect
use Rattle.osh_read.specs.declared.stage.Joint.{Joint}
use Rattle.osh_read.specs.declared.stage.Joint.TheVariants as joint
use Rattle.osh_read.specs.declared.stage.Stage.{Stage}
use Rattle.osh_read.specs.declared.links.Output.{Output}
use Rattle.osh_read.specs.Joining.{name_of, place_of, writes, reads, is_joined, unjoined_in, all_redirects, unjoined, pipe_ports, ports_before, outputs_of, outputs, source, link_from, link_of, next_input, links_of, pipe_link, links_from, links}

-- ---- where data sets are written

abbrev AreFrom : ℕ → List Output → Type 0
AreFrom n outs = AllByRecursion (λ (o : Output). o.from < n) outs

outputs_of_from : (n from out : ℕ) (rs : List Redirect) → from < n → AreFrom n (outputs_of from out rs)
outputs_of_from n from out [] h = tt
outputs_of_from n from out (redirect.In at name m f ∷ rs) h = outputs_of_from n from out rs h
outputs_of_from n from out (redirect.Out at name ∷ rs) h = (h, outputs_of_from n from (out + 1) rs h)

outputs_from_stages : (n from : ℕ) (ss : List Stage) → from + length ss ≤ n → AreFrom n (outputs from ss)
outputs_from_stages n from [] h = tt
outputs_from_stages n from (s ∷ ss) h = all_append (λ (o : Output). o.from < n) (outputs_of from (ports_before ss) s.redirects) (outputs (from + 1) ss) (outputs_of_from n from (ports_before ss) s.redirects (omega arith)) (outputs_from_stages n (from + 1) ss (omega arith))

some_is : {A : Type 0} (x y : A) → (let o : Option A = Some x in o) ≡ Some y → x ≡ y
some_is x y h = cc

source_by : (n : ℕ) (p o : Output) (other : Option Output) (b : Bool) → p.from < n → (other ≡ Some o → o.from < n) → (if b then Some p else other) ≡ Some o → o.from < n
source_by n p o other true h more e = subst (λ (x : Output). x.from < n) (some_is p o e) h
source_by n p o other false h more e = more e

source_from : (n : ℕ) (outs : List Output) (name : List ℕ) (o : Output) → AreFrom n outs → source outs name ≡ Some o → o.from < n
source_from n [] name o h e = absurd cc
source_from n (p ∷ outs) name o h e = source_by n p o (source outs name) (bytes_eq p.name name) h.0 (λ k. source_from n outs name o h.1 k) e

-- ---- links run between stages, and the keys of their methods differ

abbrev pub RedirectFits : Redirect → Type 0
RedirectFits (redirect.In at name m f) = MethodDiffers m
RedirectFits (redirect.Out at name) = Unit {0}

abbrev pub JointFits : Joint → Type 0
JointFits joint.Apart = Unit {0}
JointFits (joint.Piped m f) = MethodDiffers m

abbrev pub StageFits : Stage → Type 0
StageFits s = JointFits s.joined × AllByRecursion RedirectFits s.redirects

abbrev Lies : ℕ → LinkSpec → Type 0
Lies n l = ((l.from < n) × (l.to < n)) × MethodDiffers l.method

link_lies : (n to port : ℕ) (r : Redirect) (o : Option Output) → to < n → RedirectFits r → ((x : Output) → o ≡ Some x → x.from < n) → AllByRecursion (Lies n) (link_from o to port r)
link_lies n to port (redirect.In at name m f) (Some x) h d s = (((s x refl, h), d), tt)
link_lies n to port (redirect.Out at name) (Some x) h d s = tt
link_lies n to port r None h d s = tt

links_of_lie : (n to port : ℕ) (outs : List Output) (rs : List Redirect) → AreFrom n outs → to < n → AllByRecursion RedirectFits rs → AllByRecursion (Lies n) (links_of outs to port rs)
links_of_lie n to port outs [] a h d = tt
links_of_lie n to port outs (r ∷ rs) a h d = all_append (Lies n) (link_of outs to port r) (links_of outs to (next_input port r) rs) (link_lies n to port r (source outs (name_of r)) h d.0 (λ x e. source_from n outs (name_of r) x a e)) (links_of_lie n to (next_input port r) outs rs a h d.1)

pipe_lies : (n to : ℕ) (j : Joint) → to < n → JointFits j → AllByRecursion (Lies n) (pipe_link to j)
pipe_lies n to joint.Apart h d = tt
pipe_lies n to (joint.Piped m f) h d = (((omega arith, h), d), tt)

links_lie : (n to : ℕ) (outs : List Output) (ss : List Stage) → AreFrom n outs → to + length ss ≤ n → AllByRecursion StageFits ss → AllByRecursion (Lies n) (links_from outs to ss)
links_lie n to outs [] a h d = tt
links_lie n to outs (s ∷ ss) a h d =
    let here : to < n = omega arith in
    all_append (Lies n) (pipe_link to s.joined) (links_of outs to (pipe_ports s.joined) s.redirects ++ links_from outs (to + 1) ss) (pipe_lies n to s.joined here d.0.0)
    (all_append (Lies n) (links_of outs to (pipe_ports s.joined) s.redirects) (links_from outs (to + 1) ss) (links_of_lie n to (pipe_ports s.joined) outs s.redirects a here d.0.1) (links_lie n (to + 1) outs ss a (omega arith) d.1))

pub all_lie : (ss : List Stage) → AllByRecursion StageFits ss → AllByRecursion (Lies (length ss)) (links ss)
all_lie ss d = links_lie (length ss) 0 (outputs 0 ss) ss (outputs_from_stages (length ss) 0 ss (omega arith)) (omega arith) d

pub lies_within : (n : ℕ) (ls : List LinkSpec) → AllByRecursion (Lies n) ls → AllByRecursion (λ (l : LinkSpec). (l.from < n) × (l.to < n)) ls
lies_within n ls h = all_map (Lies n) (λ (l : LinkSpec). (l.from < n) × (l.to < n)) (λ l d. d.0) ls h

pub lies_differing : (n : ℕ) (ls : List LinkSpec) → AllByRecursion (Lies n) ls → AllByRecursion (λ (l : LinkSpec). MethodDiffers l.method) ls
lies_differing n ls h = all_map (Lies n) (λ (l : LinkSpec). MethodDiffers l.method) (λ l d. d.1) ls h

-- ---- each data set that is read is written

-- where it is read it is written
abbrev Sourced : List Output → Redirect → Type 0
Sourced outs (redirect.In at name m f) = (o : Output) × (source outs name ≡ Some o)
Sourced outs (redirect.Out at name) = Unit {0}

none_by : (p : Output) (other : Option Output) (b : Bool) → (let o : Option Output = if b then Some p else other in o) ≡ None → (b ≡ false) × (other ≡ None)
none_by p other true h = absurd cc
none_by p other false h = (refl, h)

unwritten_of : (from out : ℕ) (rs : List Redirect) (name : List ℕ) → source (outputs_of from out rs) name ≡ None → filter (writes name) rs ≡ []
unwritten_of from out [] name h = refl
unwritten_of from out (redirect.In at other m f ∷ rs) name h = unwritten_of from out rs name h
unwritten_of from out (redirect.Out at other ∷ rs) name h =
    let n = none_by (record { name = other; from = from; out = out }) (source (outputs_of from (out + 1) rs) name) (bytes_eq other name) h in
    ap (λ b. cond b (redirect.Out at other ∷ filter (writes name) rs) (filter (writes name) rs)) n.0 ∙ unwritten_of from (out + 1) rs name n.1

source_append : (xs ys : List Output) (name : List ℕ) → source (xs ++ ys) name ≡ None → (source xs name ≡ None) × (source ys name ≡ None)
source_append [] ys name h = (refl, h)
source_append (x ∷ xs) ys name h =
    let n = none_by x (source (xs ++ ys) name) (bytes_eq x.name name) h in
    let more = source_append xs ys name n.1 in
    (ap (λ b. if b then Some x else source xs name) n.0 ∙ more.0, more.1)

unwritten : (from : ℕ) (ss : List Stage) (name : List ℕ) → source (outputs from ss) name ≡ None → filter (writes name) (all_redirects ss) ≡ []
unwritten from [] name h = refl
unwritten from (s ∷ ss) name h =
    let n = source_append (outputs_of from (ports_before ss) s.redirects) (outputs (from + 1) ss) name h in
    filter-append (writes name) s.redirects (all_redirects ss) ∙ (ap (λ (xs : List Redirect). xs ++ filter (writes name) (all_redirects ss)) (unwritten_of from (ports_before ss) s.redirects name n.0) ∙ unwritten (from + 1) ss name n.1)

joined_once : (all : List Redirect) (name : List ℕ) → is_joined all name ≡ true → length (filter (writes name) all) ≡ 1
unfolding is_joined
joined_once all name h = eqb-true _ _ (first_so (length (filter (writes name) all) == 1) (length (filter (reads name) all) == 1) h)

sourced_by : (ss : List Stage) (at : ℕ) (name : List ℕ) (o : Option Output) → source (outputs 0 ss) name ≡ o → is_joined (all_redirects ss) name ≡ true → (x : Output) × (source (outputs 0 ss) name ≡ Some x)
sourced_by ss at name (Some x) e h = (x, e)
sourced_by ss at name None e h =
    let once = joined_once (all_redirects ss) name h in
    let none = ap length (unwritten 0 ss name e) in
    absurd (omega arith)

sourced : (ss : List Stage) (r : Redirect) → is_joined (all_redirects ss) (name_of r) ≡ true → Sourced (outputs 0 ss) r
sourced ss (redirect.In at name m f) h = sourced_by ss at name (source (outputs 0 ss) name) refl h
sourced ss (redirect.Out at name) h = tt

all_joined_by : (b : Bool) (other : Option ℕ) (at : ℕ) → (if b then other else Some at) ≡ None → (b ≡ true) × (other ≡ None)
all_joined_by true other at h = (refl, h)
all_joined_by false other at h = absurd cc

all_joined : (all rs : List Redirect) → unjoined_in all rs ≡ None → AllByRecursion (λ (r : Redirect). is_joined all (name_of r) ≡ true) rs
all_joined all [] h = tt
all_joined all (r ∷ rs) h = let n = all_joined_by (is_joined all (name_of r)) (unjoined_in all rs) (place_of r) h in (n.0, all_joined all rs n.1)

all_split : {X : Type 0} (P : X → Type 0) (xs ys : List X) → AllByRecursion P (xs ++ ys) → AllByRecursion P xs × AllByRecursion P ys
all_split P [] ys h = (tt, h)
all_split P (x ∷ xs) ys h = let s = all_split P xs ys h.1 in ((h.0, s.0), s.1)

abbrev AllSourced : List Output → List Stage → Type 0
AllSourced outs ss = AllByRecursion (λ (s : Stage). AllByRecursion (Sourced outs) s.redirects) ss

by_stage : (outs : List Output) (ss : List Stage) → AllByRecursion (Sourced outs) (all_redirects ss) → AllSourced outs ss
by_stage outs [] h = tt
by_stage outs (s ∷ ss) h = let k = all_split (Sourced outs) s.redirects (all_redirects ss) h in (k.0, by_stage outs ss k.1)

all_sourced : (ss : List Stage) → unjoined ss ≡ None → AllSourced (outputs 0 ss) ss
all_sourced ss h = by_stage (outputs 0 ss) ss (all_map (λ (r : Redirect). is_joined (all_redirects ss) (name_of r) ≡ true) (Sourced (outputs 0 ss)) (λ r e. sourced ss r e) (all_redirects ss) (all_joined (all_redirects ss) (all_redirects ss) h))

-- ---- ports

-- the ports are these, in order
abbrev InPorts : ℕ → List LinkSpec → Type 0
InPorts k [] = Unit {0}
InPorts k (l ∷ ls) = (l.port ≡ k) × InPorts (k + 1) ls

no_output : (o : Option Output) (to port at : ℕ) (name : List ℕ) → link_from o to port (redirect.Out at name) ≡ []
no_output None to port at name = refl
no_output (Some x) to port at name = refl

links_of_ports : (outs : List Output) (to port : ℕ) (rs : List Redirect) → AllByRecursion (Sourced outs) rs → InPorts port (links_of outs to port rs)
links_of_ports outs to port [] s = tt
links_of_ports outs to port (redirect.In at name m f ∷ rs) s =
    let more = links_of_ports outs to (port + 1) rs s.1 in
    subst (λ (o : Option Output). InPorts port (link_from o to port (redirect.In at name m f) ++ links_of outs to (port + 1) rs)) (sym s.0.1) (refl, more)
links_of_ports outs to port (redirect.Out at name ∷ rs) s =
    subst (λ (xs : List LinkSpec). InPorts port (xs ++ links_of outs to port rs)) (sym (no_output (source outs name) to port at name)) (links_of_ports outs to port rs s.1)

-- the links into a stage
abbrev group : List Output → ℕ → Stage → List LinkSpec
group outs to s = pipe_link to s.joined ++ links_of outs to (pipe_ports s.joined) s.redirects

group_by : (outs : List Output) (to : ℕ) (j : Joint) (rs : List Redirect) → AllByRecursion (Sourced outs) rs → InPorts 0 (pipe_link to j ++ links_of outs to (pipe_ports j) rs)
group_by outs to joint.Apart rs s = links_of_ports outs to 0 rs s
group_by outs to (joint.Piped m f) rs s = (refl, links_of_ports outs to 1 rs s)

abbrev Into : ℕ → LinkSpec → Type 0
Into to l = l.to ≡ to

link_into : (o : Option Output) (to port : ℕ) (r : Redirect) → AllByRecursion (Into to) (link_from o to port r)
link_into (Some x) to port (redirect.In at name m f) = (refl, tt)
link_into (Some x) to port (redirect.Out at name) = tt
link_into None to port r = tt

links_of_into : (outs : List Output) (to port : ℕ) (rs : List Redirect) → AllByRecursion (Into to) (links_of outs to port rs)
links_of_into outs to port [] = tt
links_of_into outs to port (r ∷ rs) = all_append (Into to) (link_of outs to port r) (links_of outs to (next_input port r) rs) (link_into (source outs (name_of r)) to port r) (links_of_into outs to (next_input port r) rs)

pipe_into : (to : ℕ) (j : Joint) → AllByRecursion (Into to) (pipe_link to j)
pipe_into to joint.Apart = tt
pipe_into to (joint.Piped m f) = (refl, tt)

group_into : (outs : List Output) (to : ℕ) (s : Stage) → AllByRecursion (Into to) (group outs to s)
group_into outs to s = all_append (Into to) (pipe_link to s.joined) (links_of outs to (pipe_ports s.joined) s.redirects) (pipe_into to s.joined) (links_of_into outs to (pipe_ports s.joined) s.redirects)

grouped : (outs : List Output) (to : ℕ) (s : Stage) (ss : List Stage) → links_from outs to (s ∷ ss) ≡ group outs to s ++ links_from outs (to + 1) ss
grouped outs to s ss = sym (append_assoc (pipe_link to s.joined) (links_of outs to (pipe_ports s.joined) s.redirects) (links_from outs (to + 1) ss))

-- links into later stages
later : (outs : List Output) (to : ℕ) (ss : List Stage) → AllByRecursion (λ (l : LinkSpec). to ≤ l.to) (links_from outs to ss)
later outs to [] = tt
later outs to (s ∷ ss) = subst (AllByRecursion (λ (l : LinkSpec). to ≤ l.to)) (sym (grouped outs to s ss))
    (all_append (λ (l : LinkSpec). to ≤ l.to) (group outs to s) (links_from outs (to + 1) ss)
    (all_map (Into to) (λ (l : LinkSpec). to ≤ l.to) (λ l e. omega arith) (group outs to s) (group_into outs to s))
    (all_map (λ (l : LinkSpec). to + 1 ≤ l.to) (λ (l : LinkSpec). to ≤ l.to) (λ l e. omega arith) (links_from outs (to + 1) ss) (later outs (to + 1) ss)))

abbrev pub goes : ℕ → LinkSpec → Bool
goes o l = l.to == o

all_go : (o : ℕ) (ls : List LinkSpec) → AllByRecursion (Into o) ls → filter (goes o) ls ≡ ls
all_go o [] h = refl
all_go o (l ∷ ls) h = ap (λ b. cond b (l ∷ filter (goes o) ls) (filter (goes o) ls)) (eq-eqb l.to o h.0) ∙ ap (λ (xs : List LinkSpec). l ∷ xs) (all_go o ls h.1)

none_go : (o : ℕ) (ls : List LinkSpec) → AllByRecursion (λ (l : LinkSpec). l.to ≢ o) ls → filter (goes o) ls ≡ []
none_go o [] h = refl
none_go o (l ∷ ls) h = ap (λ b. cond b (l ∷ filter (goes o) ls) (filter (goes o) ls)) (ne_eqb l.to o h.0) ∙ none_go o ls h.1

ports_by : (outs : List Output) (o to : ℕ) (s : Stage) (ss : List Stage) (b : Bool) → (to == o) ≡ b → AllByRecursion (Sourced outs) s.redirects → InPorts 0 (filter (goes o) (links_from outs (to + 1) ss)) → InPorts 0 (filter (goes o) (group outs to s ++ links_from outs (to + 1) ss))
ports_by outs o to s ss true e h more =
    let same : to ≡ o = eqb-true _ _ e in
    let here = all_go o (group outs to s) (all_map (Into to) (Into o) (λ l k. k ∙ same) (group outs to s) (group_into outs to s)) in
    let there = none_go o (links_from outs (to + 1) ss) (all_map (λ (l : LinkSpec). to + 1 ≤ l.to) (λ (l : LinkSpec). l.to ≢ o) (λ l k. λ q. absurd (omega arith)) (links_from outs (to + 1) ss) (later outs (to + 1) ss)) in
    let all : filter (goes o) (group outs to s ++ links_from outs (to + 1) ss) ≡ group outs to s = filter-append (goes o) (group outs to s) (links_from outs (to + 1) ss) ∙ (ap (λ (xs : List LinkSpec). xs ++ filter (goes o) (links_from outs (to + 1) ss)) here ∙ (ap (λ (xs : List LinkSpec). group outs to s ++ xs) there ∙ append-nil (group outs to s))) in
    subst (InPorts 0) (sym all) (group_by outs to s.joined s.redirects h)
ports_by outs o to s ss false e h more =
    let other : to ≢ o = (λ q. (let t = eq-eqb to o q in absurd cc)) in
    let here = none_go o (group outs to s) (all_map (Into to) (λ (l : LinkSpec). l.to ≢ o) (λ l k. λ q. other (sym k ∙ q)) (group outs to s) (group_into outs to s)) in
    let all : filter (goes o) (group outs to s ++ links_from outs (to + 1) ss) ≡ filter (goes o) (links_from outs (to + 1) ss) = filter-append (goes o) (group outs to s) (links_from outs (to + 1) ss) ∙ ap (λ (xs : List LinkSpec). xs ++ filter (goes o) (links_from outs (to + 1) ss)) here in
    subst (InPorts 0) (sym all) more

ports : (outs : List Output) (o to : ℕ) (ss : List Stage) → AllSourced outs ss → InPorts 0 (filter (goes o) (links_from outs to ss))
ports outs o to [] h = tt
ports outs o to (s ∷ ss) h = subst (λ (xs : List LinkSpec). InPorts 0 (filter (goes o) xs)) (sym (grouped outs to s ss)) (ports_by outs o to s ss (to == o) refl h.0 (ports outs o (to + 1) ss h.1))

-- ---- ports by the numbers of links

get_at : (pre : List LinkSpec) (l : LinkSpec) (ls : List LinkSpec) → get_or (pre ++ l ∷ ls) (length pre) no_link ≡ l
get_at [] l ls = refl
get_at (x ∷ pre) l ls = get_at pre l ls

abbrev Port : (LinkSpec → Bool) → List LinkSpec → List LinkSpec → ℕ → ℕ → ℕ → Type 0
Port p all ls k q i = i < length (numbers p k ls) → (get_or all (get_or (numbers p k ls) i 0) no_link).port ≡ q + i

numbered_by : (p : LinkSpec → Bool) (all pre : List LinkSpec) (l : LinkSpec) (ls : List LinkSpec) (q i : ℕ) (b : Bool) → all ≡ pre ++ l ∷ ls → InPorts q (cond b (l ∷ filter p ls) (filter p ls))
    → ((r j : ℕ) → InPorts r (filter p ls) → Port p all ls (length pre + 1) r j)
    → (let ns : List ℕ = cond b (length pre ∷ numbers p (length pre + 1) ls) (numbers p (length pre + 1) ls) in i < length ns → (get_or all (get_or ns i 0) no_link).port ≡ q + i)
numbered_by p all pre l ls q zero true e h more = λ k. ap (λ (xs : List LinkSpec). (get_or xs (length pre) no_link).port) e ∙ (ap (λ (x : LinkSpec). x.port) (get_at pre l ls) ∙ (h.0 ∙ (let z : q ≡ q + 0 = omega arith in z)))
numbered_by p all pre l ls q (suc i) true e h more = λ k. more (q + 1) i h.1 (omega arith) ∙ (let z : q + 1 + i ≡ q + suc i = omega arith in z)
numbered_by p all pre l ls q i false e h more = λ k. more q i h k

numbered : (p : LinkSpec → Bool) (all pre ls : List LinkSpec) (q i : ℕ) → all ≡ pre ++ ls → InPorts q (filter p ls) → Port p all ls (length pre) q i
numbered p all pre [] q i e h = λ k. absurd (omega arith)
numbered p all pre (l ∷ ls) q i e h =
    let len : length (pre ++ l ∷ []) ≡ length pre + 1 = length-append pre (l ∷ []) in
    numbered_by p all pre l ls q i (p l) e h (λ r j g. subst (λ n. Port p all ls n r j) len (numbered p all (pre ++ l ∷ []) ls r j (e ∙ sym (append_assoc pre (l ∷ []) ls)) g))

pub in_order : (flow : Flow) (o : ℕ) → InPorts 0 (filter (goes o) flow.links) → PortsInOrder (chart_of flow []) o
in_order flow o h = λ i k.
    (let same = into_numbers flow [] o in
    let within : i < length (numbers (goes o) 0 flow.links) = subst (λ (ns : List ℕ). i < length ns) same k in
    let port : (get_or flow.links (get_or (numbers (goes o) 0 flow.links) i 0) no_link).port ≡ 0 + i = numbered (goes o) flow.links [] flow.links 0 i refl h within in
    let place : (get_or flow.links (get_or (links_into (chart_of flow []) o) i 0) no_link).port ≡ 0 + i = subst (λ (ns : List ℕ). (get_or flow.links (get_or ns i 0) no_link).port ≡ 0 + i) (sym same) port in
    place ∙ (let z : 0 + i ≡ i = omega arith in z))

pub stage_ports : (ss : List Stage) (o : ℕ) → unjoined ss ≡ None → InPorts 0 (filter (goes o) (links ss))
stage_ports ss o h = ports (outputs 0 ss) o 0 ss (all_sourced ss h)
