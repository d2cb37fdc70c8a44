-- Why the machine stops, and that it can go on elsewhere.
use Rattle.std.proofs.Common.{◌≡◌, ◌<◌, ◌++◌, ℕ, List, [], ◌∷◌, length, Result, Ok, Err, Bool, true, false, refl, subst}
use Rattle.std.specs.Prelude.{if◌then◌else◌, nat_le, not, codes}
use Rattle.std.specs.Str.{bytes_eq}
use Rattle.std.proofs.lemmas.Bool.{leb-false, and_right, not-true, not-false}
use Rattle.ds_lex.specs.declared.token.Sort.TheVariants as sort
use Rattle.ds_lex.specs.declared.refusal.Refusal.{Refusal}
use Rattle.ds_lex.specs.Lexemes.{Lexeme}
use Rattle.ds_lex.specs.Reading.{is_sort}
use Rattle.config_read.specs.declared.fault.ConfigWhy.{ConfigWhy}
use Rattle.config_read.specs.declared.fault.ConfigWhy.TheVariants as why
use Rattle.config_read.specs.declared.config.Node.{Node}
use Rattle.config_read.specs.Spelled.{content, is_quoted, has_node}
use Rattle.config_read.specs.Reading.{is_name, is_name0, with_pool, with_scratch}
use Rattle.config_read.proofs.Machine.{Stand, Step, new_node, to, node_step, name_step, inside_step, pool_step, path_step, step, behind}
use Rattle.config_read.proofs.Machine.Stand.{Begin, FirstNode, NextNode, NodeName, Open, Inside, Fast, FirstPool, MorePools, Kind, Path, Braces, BraceWord, BraceFirst, BraceMore, End}
use Rattle.config_read.proofs.Prefixes.{reach}

abbrev State : Type 0
State = List Node × Stand

step_is : (x y : State) → (let r : Step = Ok x in r) ≡ Ok y → x ≡ y
step_is x y h = cc

why_is : (v w : ConfigWhy) → (let r : Step = Err v in r) ≡ Err w → v ≡ w
why_is v w h = cc

-- where a name of a node comes next, there is room for it
abbrev pub Valid : List Node → Stand → Type 0
Valid ns Begin = length ns < 64
Valid ns FirstNode = length ns < 64
Valid ns NextNode = Unit {0}
Valid ns NodeName = length ns < 64
Valid ns (Open name) = Unit {0}
Valid ns (Inside node) = Unit {0}
Valid ns (Fast node) = Unit {0}
Valid ns (FirstPool node) = Unit {0}
Valid ns (MorePools node) = Unit {0}
Valid ns (Kind node) = Unit {0}
Valid ns (Path kind node) = Unit {0}
Valid ns (Braces node) = Unit {0}
Valid ns (BraceWord node) = Unit {0}
Valid ns (BraceFirst node) = Unit {0}
Valid ns (BraceMore node) = Unit {0}
Valid ns End = Unit {0}

abbrev IsValid : State → Type 0
IsValid x = Valid x.0 x.1

abbrev Leads : Step → State → Type 0
Leads s y = s ≡ Ok y → IsValid y

to_valid : (ns : List Node) (s : Stand) (y : State) → Valid ns s → Leads (to ns s) y
to_valid ns s y v h = subst IsValid (step_is (ns, s) y h) v

err_valid : (w : ConfigWhy) (y : State) → Leads (Err w) y
err_valid w y h = cc

if_valid : (c : Bool) (s u : Step) (y : State) → (c ≡ true → Leads s y) → (c ≡ false → Leads u y) → Leads (if c then s else u) y
if_valid true s u y f g h = f refl h
if_valid false s u y f g h = g refl h

node_valid : (ns : List Node) (t : Lexeme) (y : State) → Leads (node_step true ns t) y
node_valid ns t y =
    if_valid (bytes_eq t.bytes (codes "node")) _ _ y
    (λ e. if_valid (nat_le 64 (length ns)) _ _ y (λ f. err_valid why.TooMany y) (λ f. to_valid ns NodeName y (leb-false 64 (length ns) f)))
    (λ e. err_valid why.Syntax y)

inside_valid : (ns : List Node) (node : Node) (t : Lexeme) (y : State) → Leads (inside_step ns node t) y
inside_valid ns node t y =
    if_valid (bytes_eq t.bytes (codes "}")) _ _ y (λ e. to_valid (ns ++ node ∷ []) NextNode y tt) (λ e.
    if_valid (bytes_eq t.bytes (codes "fastname")) _ _ y (λ e. to_valid ns (Fast node) y tt) (λ e.
    if_valid (bytes_eq t.bytes (codes "pools")) _ _ y (λ e. to_valid ns (FirstPool node) y tt) (λ e.
    if_valid (bytes_eq t.bytes (codes "resource")) _ _ y (λ e. to_valid ns (Kind node) y tt) (λ e. err_valid why.Syntax y))))

pool_valid : (ns : List Node) (node : Node) (t : Lexeme) (y : State) → Leads (pool_step true ns node t) y
pool_valid ns node t y = if_valid (not (is_name0 (content t))) _ _ y (λ e. err_valid why.Name y) (λ e. to_valid ns (MorePools (with_pool node (content t))) y tt)

path_valid : (ns : List Node) (kind : Lexeme) (node : Node) (t : Lexeme) (y : State) → Leads (path_step true ns kind node t) y
path_valid ns kind node t y =
    if_valid (bytes_eq kind.bytes (codes "scratchdisk")) _ _ y
    (λ e. if_valid (not (is_name0 (content t))) _ _ y (λ f. err_valid why.Name y) (λ f. to_valid ns (Braces (with_scratch node (content t))) y tt))
    (λ e. to_valid ns (Braces node) y tt)

name_valid : (ns : List Node) (t : Lexeme) (y : State) → Leads (name_step true ns t) y
name_valid ns t y =
    if_valid (not (is_name (content t))) _ _ y (λ e. err_valid why.Name y) (λ e.
    if_valid (has_node ns (content t)) _ _ y (λ f. err_valid why.DoubleNode y) (λ f. to_valid ns (Open (content t)) y tt))

-- a word or a sort leads there
one_valid : (c : Bool) (ns : List Node) (s : Stand) (y : State) → Valid ns s → Leads (if c then to ns s else Err why.Syntax) y
one_valid c ns s y v = if_valid c _ _ y (λ e. to_valid ns s y v) (λ e. err_valid why.Syntax y)

step_valid : (ns : List Node) (s : Stand) (t : Lexeme) (y : State) → Valid ns s → Leads (step true ns s t) y
step_valid ns Begin t y v = one_valid (bytes_eq t.bytes (codes "{")) ns FirstNode y v
step_valid ns FirstNode t y v = node_valid ns t y
step_valid ns NextNode t y v = if_valid (bytes_eq t.bytes (codes "}")) _ _ y (λ e. to_valid ns End y tt) (λ e. node_valid ns t y)
step_valid ns NodeName t y v = if_valid (is_quoted t) _ _ y (λ e. name_valid ns t y) (λ e. err_valid why.Syntax y)
step_valid ns (Open name) t y v = one_valid (bytes_eq t.bytes (codes "{")) ns (Inside (new_node name)) y tt
step_valid ns (Inside node) t y v = inside_valid ns node t y
step_valid ns (Fast node) t y v = one_valid (is_quoted t) ns (Inside node) y tt
step_valid ns (FirstPool node) t y v = if_valid (is_quoted t) _ _ y (λ e. pool_valid ns node t y) (λ e. err_valid why.Syntax y)
step_valid ns (MorePools node) t y v = if_valid (is_quoted t) _ _ y (λ e. pool_valid ns node t y) (λ e. inside_valid ns node t y)
step_valid ns (Kind node) t y v = one_valid (is_sort sort.Word t.sort) ns (Path t node) y tt
step_valid ns (Path kind node) t y v = if_valid (is_quoted t) _ _ y (λ e. path_valid ns kind node t y) (λ e. err_valid why.Syntax y)
step_valid ns (Braces node) t y v = if_valid (bytes_eq t.bytes (codes "{")) _ _ y (λ e. to_valid ns (BraceWord node) y tt) (λ e. inside_valid ns node t y)
step_valid ns (BraceWord node) t y v = one_valid (bytes_eq t.bytes (codes "pools")) ns (BraceFirst node) y tt
step_valid ns (BraceFirst node) t y v = one_valid (is_quoted t) ns (BraceMore node) y tt
step_valid ns (BraceMore node) t y v = if_valid (is_quoted t) _ _ y (λ e. to_valid ns (BraceMore node) y tt) (λ e. one_valid (bytes_eq t.bytes (codes "}")) ns (Inside node) y tt)
step_valid ns End t y v = err_valid why.Syntax y

reach_by : (r : Step) (t : Lexeme) (ts : List Lexeme) (y : State) → ((x : State) → r ≡ Ok x → reach true x.0 x.1 ts ≡ Ok y → IsValid y) → behind t r (λ ms next. reach true ms next ts) ≡ Ok y → IsValid y
reach_by (Err w) t ts y f h = cc
reach_by (Ok x) t ts y f h = f x refl h

state_is : (x y : State) → (let r : Result State (Refusal ConfigWhy) = Ok x in r) ≡ Ok y → x ≡ y
state_is x y h = cc

pub reach_valid : (ns : List Node) (s : Stand) (ts : List Lexeme) (y : State) → Valid ns s → reach true ns s ts ≡ Ok y → IsValid y
reach_valid ns s [] y v h = subst IsValid (state_is (ns, s) y h) v
reach_valid ns s (t ∷ ts) y v h = reach_by (step true ns s t) t ts y (λ x e k. reach_valid x.0 x.1 ts y (step_valid ns s t x v e) k) h

-- where the strict machine goes, the other goes too
abbrev Loose : Step → Step → Type 0
Loose s u = (x : State) → s ≡ Ok x → u ≡ Ok x

loose_same : (s : Step) → Loose s s
loose_same s x h = h

loose_if : (c : Bool) (s u v w : Step) → Loose s u → Loose v w → Loose (if c then s else v) (if c then u else w)
loose_if true s u v w f g x h = f x h
loose_if false s u v w f g x h = g x h

loose_check : (c : Bool) (w : ConfigWhy) (s u : Step) → Loose s u → Loose (if c then Err w else s) u
loose_check true w s u f x h = cc
loose_check false w s u f x h = f x h

node_loose : (ns : List Node) (t : Lexeme) → Loose (node_step true ns t) (node_step false ns t)
node_loose ns t = loose_if (bytes_eq t.bytes (codes "node")) _ _ _ _ (loose_check (nat_le 64 (length ns)) why.TooMany _ _ (loose_same (to ns NodeName))) (loose_same (Err why.Syntax))

pool_loose : (ns : List Node) (node : Node) (t : Lexeme) → Loose (pool_step true ns node t) (pool_step false ns node t)
pool_loose ns node t = loose_check (not (is_name0 (content t))) why.Name _ _ (loose_same _)

path_loose : (ns : List Node) (kind : Lexeme) (node : Node) (t : Lexeme) → Loose (path_step true ns kind node t) (path_step false ns kind node t)
path_loose ns kind node t = loose_if (bytes_eq kind.bytes (codes "scratchdisk")) _ _ _ _ (loose_check (not (is_name0 (content t))) why.Name _ _ (loose_same _)) (loose_same _)

name_loose : (ns : List Node) (t : Lexeme) → Loose (name_step true ns t) (name_step false ns t)
name_loose ns t = loose_check (not (is_name (content t))) why.Name _ _ (loose_check (has_node ns (content t)) why.DoubleNode _ _ (loose_same _))

step_loose : (ns : List Node) (s : Stand) (t : Lexeme) → Loose (step true ns s t) (step false ns s t)
step_loose ns Begin t = loose_same _
step_loose ns FirstNode t = node_loose ns t
step_loose ns NextNode t = loose_if (bytes_eq t.bytes (codes "}")) _ _ _ _ (loose_same (to ns End)) (node_loose ns t)
step_loose ns NodeName t = loose_if (is_quoted t) _ _ _ _ (name_loose ns t) (loose_same (Err why.Syntax))
step_loose ns (Open name) t = loose_same _
step_loose ns (Inside node) t = loose_same _
step_loose ns (Fast node) t = loose_same _
step_loose ns (FirstPool node) t = loose_if (is_quoted t) _ _ _ _ (pool_loose ns node t) (loose_same (Err why.Syntax))
step_loose ns (MorePools node) t = loose_if (is_quoted t) _ _ _ _ (pool_loose ns node t) (loose_same (inside_step ns node t))
step_loose ns (Kind node) t = loose_same _
step_loose ns (Path kind node) t = loose_if (is_quoted t) _ _ _ _ (path_loose ns kind node t) (loose_same (Err why.Syntax))
step_loose ns (Braces node) t = loose_same _
step_loose ns (BraceWord node) t = loose_same _
step_loose ns (BraceFirst node) t = loose_same _
step_loose ns (BraceMore node) t = loose_same _
step_loose ns End t = loose_same _

loose_by : (r : Step) (ns : List Node) (s : Stand) (t : Lexeme) (ts : List Lexeme) (y : State) → step true ns s t ≡ r → ((x : State) → reach true x.0 x.1 ts ≡ Ok y → reach false x.0 x.1 ts ≡ Ok y) → behind t r (λ ms next. reach true ms next ts) ≡ Ok y → reach false ns s (t ∷ ts) ≡ Ok y
loose_by (Err w) ns s t ts y e f h = cc
loose_by (Ok x) ns s t ts y e f h = rw (step_loose ns s t x e) (f x h)

pub reach_loose : (ns : List Node) (s : Stand) (ts : List Lexeme) (y : State) → reach true ns s ts ≡ Ok y → reach false ns s ts ≡ Ok y
reach_loose ns s [] y h = h
reach_loose ns s (t ∷ ts) y h = loose_by (step true ns s t) ns s t ts y refl (λ x k. reach_loose x.0 x.1 ts y k) h

-- the cause for which a token is refused, where u is what it does by the grammar alone
abbrev pub Causes : Lexeme → ConfigWhy → Step → Type 0
Causes t why.Syntax u = u ≡ Err why.Syntax
Causes t why.TooMany u = (y : State) × ((u ≡ Ok y) × (bytes_eq t.bytes (codes "node") ≡ true))
Causes t why.Name u = (y : State) × ((u ≡ Ok y) × ((is_quoted t ≡ true) × (is_name (content t) ≡ false)))
Causes t why.DoubleNode u = (y : State) × ((u ≡ Ok y) × ((is_quoted t ≡ true) × (is_name (content t) ≡ true)))
Causes t why.TooLong u = ⊥
Causes t why.Token u = ⊥
Causes t why.NoDefault u = ⊥

abbrev Refused : Lexeme → Step → Step → Type 0
Refused t s u = (w : ConfigWhy) → s ≡ Err w → Causes t w u

refused_to : (t : Lexeme) (ns : List Node) (s : Stand) (u : Step) → Refused t (to ns s) u
refused_to t ns s u w h = cc

refused_as : (t : Lexeme) (v : ConfigWhy) (u : Step) → Causes t v u → Refused t (Err v) u
refused_as t v u c w h = let P : ConfigWhy → Type 0 = λ x. Causes t x u in subst P (why_is v w h) c

refused_syntax : (t : Lexeme) → Refused t (Err why.Syntax) (Err why.Syntax)
refused_syntax t = refused_as t why.Syntax (Err why.Syntax) refl

refused_if : (t : Lexeme) (c : Bool) (s u v w : Step) → (c ≡ true → Refused t s u) → (c ≡ false → Refused t v w) → Refused t (if c then s else v) (if c then u else w)
refused_if t true s u v w f g x h = f refl x h
refused_if t false s u v w f g x h = g refl x h

refused_check : (t : Lexeme) (c : Bool) (v : ConfigWhy) (s u : Step) → (c ≡ true → Causes t v u) → (c ≡ false → Refused t s u) → Refused t (if c then Err v else s) u
refused_check t true v s u f g x h = refused_as t v u (f refl) x h
refused_check t false v s u f g x h = g refl x h

node_refused : (ns : List Node) (t : Lexeme) → Refused t (node_step true ns t) (node_step false ns t)
node_refused ns t =
    refused_if t (bytes_eq t.bytes (codes "node")) _ _ _ _
    (λ e. refused_check t (nat_le 64 (length ns)) why.TooMany (to ns NodeName) (to ns NodeName) (λ f. ((ns, NodeName), (refl, e))) (λ f. refused_to t ns NodeName _))
    (λ e. refused_syntax t)

inside_refused : (ns : List Node) (node : Node) (t : Lexeme) → Refused t (inside_step ns node t) (inside_step ns node t)
inside_refused ns node t =
    refused_if t (bytes_eq t.bytes (codes "}")) _ _ _ _ (λ e. refused_to t (ns ++ node ∷ []) NextNode _) (λ e.
    refused_if t (bytes_eq t.bytes (codes "fastname")) _ _ _ _ (λ e. refused_to t ns (Fast node) _) (λ e.
    refused_if t (bytes_eq t.bytes (codes "pools")) _ _ _ _ (λ e. refused_to t ns (FirstPool node) _) (λ e.
    refused_if t (bytes_eq t.bytes (codes "resource")) _ _ _ _ (λ e. refused_to t ns (Kind node) _) (λ e. refused_syntax t))))

-- what is no name that may be empty is no name
not_name : (bytes : List ℕ) → not (is_name0 bytes) ≡ true → is_name bytes ≡ false
not_name bytes h = and_right _ _ (not-true _ h)

pool_refused : (ns : List Node) (node : Node) (t : Lexeme) → is_quoted t ≡ true → Refused t (pool_step true ns node t) (pool_step false ns node t)
pool_refused ns node t q =
    refused_check t (not (is_name0 (content t))) why.Name (to ns (MorePools (with_pool node (content t)))) (to ns (MorePools (with_pool node (content t))))
    (λ e. ((ns, MorePools (with_pool node (content t))), (refl, (q, not_name (content t) e)))) (λ e. refused_to t ns (MorePools (with_pool node (content t))) _)

path_refused : (ns : List Node) (kind : Lexeme) (node : Node) (t : Lexeme) → is_quoted t ≡ true → Refused t (path_step true ns kind node t) (path_step false ns kind node t)
path_refused ns kind node t q =
    refused_if t (bytes_eq kind.bytes (codes "scratchdisk")) _ _ _ _
    (λ e. refused_check t (not (is_name0 (content t))) why.Name (to ns (Braces (with_scratch node (content t)))) (to ns (Braces (with_scratch node (content t))))
    (λ e. ((ns, Braces (with_scratch node (content t))), (refl, (q, not_name (content t) e)))) (λ e. refused_to t ns (Braces (with_scratch node (content t))) _))
    (λ e. refused_to t ns (Braces node) _)

name_refused : (ns : List Node) (t : Lexeme) → is_quoted t ≡ true → Refused t (name_step true ns t) (name_step false ns t)
name_refused ns t q =
    refused_check t (not (is_name (content t))) why.Name _ (to ns (Open (content t)))
    (λ e. ((ns, Open (content t)), (refl, (q, not-true _ e))))
    (λ e. refused_check t (has_node ns (content t)) why.DoubleNode (to ns (Open (content t))) (to ns (Open (content t)))
    (λ f. ((ns, Open (content t)), (refl, (q, not-false _ e)))) (λ f. refused_to t ns (Open (content t)) _))

one_refused : (t : Lexeme) (c : Bool) (ns : List Node) (s : Stand) → Refused t (if c then to ns s else Err why.Syntax) (if c then to ns s else Err why.Syntax)
one_refused t c ns s = refused_if t c _ _ _ _ (λ e. refused_to t ns s _) (λ e. refused_syntax t)

pub step_refused : (ns : List Node) (s : Stand) (t : Lexeme) → Refused t (step true ns s t) (step false ns s t)
step_refused ns Begin t = one_refused t (bytes_eq t.bytes (codes "{")) ns FirstNode
step_refused ns FirstNode t = node_refused ns t
step_refused ns NextNode t = refused_if t (bytes_eq t.bytes (codes "}")) _ _ _ _ (λ e. refused_to t ns End _) (λ e. node_refused ns t)
step_refused ns NodeName t = refused_if t (is_quoted t) _ _ _ _ (λ e. name_refused ns t e) (λ e. refused_syntax t)
step_refused ns (Open name) t = one_refused t (bytes_eq t.bytes (codes "{")) ns (Inside (new_node name))
step_refused ns (Inside node) t = inside_refused ns node t
step_refused ns (Fast node) t = one_refused t (is_quoted t) ns (Inside node)
step_refused ns (FirstPool node) t = refused_if t (is_quoted t) _ _ _ _ (λ e. pool_refused ns node t e) (λ e. refused_syntax t)
step_refused ns (MorePools node) t = refused_if t (is_quoted t) _ _ _ _ (λ e. pool_refused ns node t e) (λ e. inside_refused ns node t)
step_refused ns (Kind node) t = one_refused t (is_sort sort.Word t.sort) ns (Path t node)
step_refused ns (Path kind node) t = refused_if t (is_quoted t) _ _ _ _ (λ e. path_refused ns kind node t e) (λ e. refused_syntax t)
step_refused ns (Braces node) t = refused_if t (bytes_eq t.bytes (codes "{")) _ _ _ _ (λ e. refused_to t ns (BraceWord node) _) (λ e. inside_refused ns node t)
step_refused ns (BraceWord node) t = one_refused t (bytes_eq t.bytes (codes "pools")) ns (BraceFirst node)
step_refused ns (BraceFirst node) t = one_refused t (is_quoted t) ns (BraceMore node)
step_refused ns (BraceMore node) t = refused_if t (is_quoted t) _ _ _ _ (λ e. refused_to t ns (BraceMore node) _) (λ e. one_refused t (bytes_eq t.bytes (codes "}")) ns (Inside node))
step_refused ns End t = refused_syntax t
