-- The readers do what the machine does.
use Rattle.std.proofs.Common.{◌≡◌, ◌≤◌, ◌++◌, ℕ, zero, suc, List, [], ◌∷◌, length, Result, Ok, Err, Bool, true, false, refl, sym, ap, ◌∙◌, arith}
use Rattle.std.specs.Prelude.{if◌then◌else◌, nat_le, not, codes}
use Rattle.std.specs.Str.{bytes_eq}
use Rattle.ds_lex.specs.declared.token.Sort.{Sort}
use Rattle.ds_lex.specs.declared.token.Sort.TheVariants as sort
use Rattle.ds_lex.specs.declared.refusal.Refusal.{Refusal}
use Rattle.ds_lex.specs.declared.refusal.Refusal.TheVariants as refusal
use Rattle.ds_lex.specs.Lexemes.{Lexeme}
use Rattle.ds_lex.specs.Reading.{◌>>=◌, refuse, is_sort, token_at, expect_at, sort_at, accept_at, finish_at}
use Rattle.config_read.specs.declared.fault.ConfigWhy.{ConfigWhy}
use Rattle.config_read.specs.declared.fault.ConfigWhy.TheVariants as why
use Rattle.config_read.specs.declared.config.Node.{Node}
use Rattle.config_read.specs.Spelled.{content, is_quoted, has_node}
use Rattle.config_read.specs.Reading.{Read, is_name, is_name0, named, pool_named, with_pool, with_scratch, more_pools_at, pools_at, behind_quoted, unused_at, with_path, braces_at, resource_at, fastname_at, entry_at, until_closed, entries_at, node_at, further_node_at, nodes_at, text_at}
use Rattle.config_read.proofs.Fronts.{Fewer, entry_fewer, node_fewer}
use Rattle.config_read.proofs.Machine.{Stand, Step, Run, new_node, to, if_word, if_sort, node_step, name_step, inside_step, pool_step, path_step, step, behind, last, run}
use Rattle.config_read.proofs.Machine.Stand.{Begin, FirstNode, NextNode, NodeName, Open, Inside, Fast, FirstPool, MorePools, Kind, Path, Braces, BraceWord, BraceFirst, BraceMore, End}

abbrev Ans : Type 0 → Type 0
Ans A = Result A (Refusal ConfigWhy)

assoc : {A B C : Type 0} → (m : Ans A) (f : A → Ans B) (g : B → Ans C) → ((m >>= f) >>= g) ≡ (m >>= λ x. f x >>= g)
assoc (Ok x) f g = refl
assoc (Err e) f g = refl

ext : {A B : Type 0} → (m : Ans A) (f g : A → Ans B) → ((x : A) → f x ≡ g x) → (m >>= f) ≡ (m >>= g)
ext (Ok x) f g h = h x
ext (Err e) f g h = refl

-- the machine goes on from a place
abbrev on : List Lexeme → List Node → Stand → Run
on ts ns stand = run true ns stand ts

word_by : (b : Bool) (t : Lexeme) (ts : List Lexeme) (next : List Lexeme → Run) (s : Step) → behind t s (on ts) ≡ next ts → behind t (if b then s else Err why.Syntax) (on ts) ≡ ((let r : Read Lexeme = if b then Ok (t, ts) else refuse t why.Syntax in r) >>= λ x. next x.1)
word_by true t ts next s h = h
word_by false t ts next s h = refl

run_word : (word : List ℕ) (ns : List Node) (stand : Stand) (ms : List Node) (next : Stand) → last ns stand ≡ Err refusal.AtEnd → ((t : Lexeme) → step true ns stand t ≡ if_word word t (to ms next)) → (ts : List Lexeme) → run true ns stand ts ≡ (expect_at word why.Syntax ts >>= λ x. run true ms next x.1)
unfolding expect_at
run_word word ns stand ms next l h [] = l
run_word word ns stand ms next l h (t ∷ ts) = rw (h t) (word_by (bytes_eq t.bytes word) t ts (λ us. run true ms next us) (to ms next) refl)

sort_by : (b : Bool) (t : Lexeme) (ts : List Lexeme) (f : Lexeme → Step) → behind t (if b then f t else Err why.Syntax) (on ts) ≡ ((let r : Read Lexeme = if b then Ok (t, ts) else refuse t why.Syntax in r) >>= λ x. behind x.0 (f x.0) (on x.1))
sort_by true t ts f = refl
sort_by false t ts f = refl

run_sort : (s : Sort) (ns : List Node) (stand : Stand) (f : Lexeme → Step) → last ns stand ≡ Err refusal.AtEnd → ((t : Lexeme) → step true ns stand t ≡ if_sort s t (f t)) → (ts : List Lexeme) → run true ns stand ts ≡ (sort_at s why.Syntax ts >>= λ x. behind x.0 (f x.0) (on x.1))
unfolding sort_at
run_sort s ns stand f l h [] = l
run_sort s ns stand f l h (t ∷ ts) = rw (h t) (sort_by (is_sort s t.sort) t ts f)

-- a pool is named
pool_by : (b : Bool) (ns : List Node) (node : Node) (t : Lexeme) (ts : List Lexeme) → behind t (let s : Step = if not b then Err why.Name else to ns (MorePools (with_pool node (content t))) in s) (on ts) ≡ (((let r : Ans (List ℕ) = if b then Ok (content t) else refuse t why.Name in r) >>= λ pool. let r : Ans Node = Ok (with_pool node pool) in r) >>= λ more. run true ns (MorePools more) ts)
pool_by true ns node t ts = refl
pool_by false ns node t ts = refl

run_pool : (ns : List Node) (node : Node) (t : Lexeme) (ts : List Lexeme) → behind t (pool_step true ns node t) (on ts) ≡ (pool_named node t >>= λ more. run true ns (MorePools more) ts)
run_pool ns node t ts = pool_by (is_name0 (content t)) ns node t ts

-- the entries go on behind a reader
abbrev inside : List Node → Node × List Lexeme → Run
inside ns x = run true ns (Inside x.0) x.1

more_by : (b : Bool) (ns : List Node) (node : Node) (t : Lexeme) (ts : List Lexeme) → ((more : Node) → run true ns (MorePools more) ts ≡ (more_pools_at more ts >>= inside ns))
    → behind t (if b then pool_step true ns node t else inside_step ns node t) (on ts) ≡ ((let r : Read Node = if b then (pool_named node t >>= λ more. more_pools_at more ts) else Ok (node, t ∷ ts) in r) >>= inside ns)
more_by true ns node t ts h = run_pool ns node t ts ∙ (ext (pool_named node t) _ _ h ∙ sym (assoc (pool_named node t) (λ more. more_pools_at more ts) (inside ns)))
more_by false ns node t ts h = refl

run_more : (ns : List Node) (node : Node) (ts : List Lexeme) → run true ns (MorePools node) ts ≡ (more_pools_at node ts >>= inside ns)
run_more ns node [] = refl
run_more ns node (t ∷ ts) = more_by (is_quoted t) ns node t ts (λ more. run_more ns more ts)

run_pools : (ns : List Node) (node : Node) (ts : List Lexeme) → run true ns (FirstPool node) ts ≡ (pools_at node ts >>= inside ns)
unfolding pools_at
run_pools ns node ts =
    run_sort sort.Quoted ns (FirstPool node) (λ t. pool_step true ns node t) refl (λ t. refl) ts
    ∙ (ext (sort_at sort.Quoted why.Syntax ts) _ (λ x. (pool_named node x.0 >>= λ more. more_pools_at more x.1) >>= inside ns)
    (λ x. run_pool ns node x.0 x.1 ∙ (ext (pool_named node x.0) _ _ (λ more. run_more ns more x.1) ∙ sym (assoc (pool_named node x.0) _ _)))
    ∙ sym (assoc (sort_at sort.Quoted why.Syntax ts) _ _))

brace_by : (b c : Bool) (ns : List Node) (node : Node) (t : Lexeme) (ts : List Lexeme) → run true ns (BraceMore node) ts ≡ (expect_at (codes "}") why.Syntax (behind_quoted ts) >>= λ x. run true ns (Inside node) x.1)
    → behind t (if b then to ns (BraceMore node) else if c then to ns (Inside node) else Err why.Syntax) (on ts)
    ≡ ((let r : Read Lexeme = if b then expect_at (codes "}") why.Syntax (behind_quoted ts) else if c then Ok (t, ts) else refuse t why.Syntax in r) >>= λ x. run true ns (Inside node) x.1)
brace_by true c ns node t ts h = h
brace_by false true ns node t ts h = refl
brace_by false false ns node t ts h = refl

expect_behind : (b : Bool) (t : Lexeme) (ts : List Lexeme) → (let r : Read Lexeme = if b then expect_at (codes "}") why.Syntax (behind_quoted ts) else if bytes_eq t.bytes (codes "}") then Ok (t, ts) else refuse t why.Syntax in r) ≡ expect_at (codes "}") why.Syntax (if b then behind_quoted ts else t ∷ ts)
unfolding expect_at
expect_behind true t ts = refl
expect_behind false t ts = refl

run_brace_more : (ns : List Node) (node : Node) (ts : List Lexeme) → run true ns (BraceMore node) ts ≡ (expect_at (codes "}") why.Syntax (behind_quoted ts) >>= λ x. run true ns (Inside node) x.1)
unfolding expect_at
run_brace_more ns node [] = refl
run_brace_more ns node (t ∷ ts) =
    brace_by (is_quoted t) (bytes_eq t.bytes (codes "}")) ns node t ts (run_brace_more ns node ts)
    ∙ ap (λ r. r >>= λ x. run true ns (Inside node) x.1) (expect_behind (is_quoted t) t ts)

run_brace_first : (ns : List Node) (node : Node) (ts : List Lexeme) → run true ns (BraceFirst node) ts ≡ (sort_at sort.Quoted why.Syntax ts >>= λ x. run true ns (BraceMore node) x.1)
run_brace_first ns node ts = run_sort sort.Quoted ns (BraceFirst node) (λ t. to ns (BraceMore node)) refl (λ t. refl) ts

run_unused : (ns : List Node) (node : Node) (ts : List Lexeme) → run true ns (BraceWord node) ts ≡ (unused_at ts >>= λ u. run true ns (Inside node) u.1)
unfolding unused_at
run_unused ns node ts =
    run_word (codes "pools") ns (BraceWord node) ns (BraceFirst node) refl (λ t. refl) ts
    ∙ (ext (expect_at (codes "pools") why.Syntax ts) _ _ (λ x.
    run_brace_first ns node x.1
    ∙ (ext (sort_at sort.Quoted why.Syntax x.1) _ _ (λ q. run_brace_more ns node q.1 ∙ sym (assoc (expect_at (codes "}") why.Syntax (behind_quoted q.1)) _ (λ (u : Unit {0} × List Lexeme). run true ns (Inside node) u.1)))
    ∙ sym (assoc (sort_at sort.Quoted why.Syntax x.1) _ (λ (u : Unit {0} × List Lexeme). run true ns (Inside node) u.1))))
    ∙ sym (assoc (expect_at (codes "pools") why.Syntax ts) _ (λ (u : Unit {0} × List Lexeme). run true ns (Inside node) u.1)))

abbrev kept : Node → Unit {0} × List Lexeme → Read Node
kept node u = Ok (node, u.1)

braces_by : (c : Bool) (ns : List Node) (node : Node) (t : Lexeme) (ts : List Lexeme) → behind t (if c then to ns (BraceWord node) else inside_step ns node t) (on ts) ≡ ((let r : Read Node = if c then (unused_at ts >>= kept node) else Ok (node, t ∷ ts) in r) >>= inside ns)
braces_by true ns node t ts = run_unused ns node ts ∙ sym (assoc (unused_at ts) (kept node) (inside ns))
braces_by false ns node t ts = refl

accepting : (c : Bool) (node : Node) (t : Lexeme) (ts : List Lexeme) → (let r : Read Node = if c then (unused_at ts >>= kept node) else Ok (node, t ∷ ts) in r)
    ≡ (let p : Bool × List Lexeme = if c then (true, ts) else (false, t ∷ ts) in let r : Read Node = if p.0 then (unused_at p.1 >>= kept node) else Ok (node, p.1) in r)
accepting true node t ts = refl
accepting false node t ts = refl

run_braces : (ns : List Node) (node : Node) (ts : List Lexeme) → run true ns (Braces node) ts ≡ (braces_at node ts >>= inside ns)
unfolding braces_at accept_at
run_braces ns node [] = refl
run_braces ns node (t ∷ ts) = braces_by (bytes_eq t.bytes (codes "{")) ns node t ts ∙ ap (λ r. r >>= inside ns) (accepting (bytes_eq t.bytes (codes "{")) node t ts)

path_by : (b c : Bool) (ns : List Node) (node : Node) (t : Lexeme) (ts : List Lexeme)
    → behind t (if b then (let s : Step = if not c then Err why.Name else to ns (Braces (with_scratch node (content t))) in s) else to ns (Braces node)) (on ts)
    ≡ ((let r : Ans Node = if b then ((let q : Ans (List ℕ) = if c then Ok (content t) else refuse t why.Name in q) >>= λ name. let r : Ans Node = Ok (with_scratch node name) in r) else Ok node in r) >>= λ more. run true ns (Braces more) ts)
path_by true true ns node t ts = refl
path_by true false ns node t ts = refl
path_by false c ns node t ts = refl

run_path : (ns : List Node) (kind : Lexeme) (node : Node) (t : Lexeme) (ts : List Lexeme) → behind t (path_step true ns kind node t) (on ts) ≡ (with_path node kind t >>= λ more. run true ns (Braces more) ts)
run_path ns kind node t ts = path_by (bytes_eq kind.bytes (codes "scratchdisk")) (is_name0 (content t)) ns node t ts

run_resource : (ns : List Node) (node : Node) (ts : List Lexeme) → run true ns (Kind node) ts ≡ (resource_at node ts >>= inside ns)
unfolding resource_at
run_resource ns node ts =
    run_sort sort.Word ns (Kind node) (λ t. to ns (Path t node)) refl (λ t. refl) ts
    ∙ (ext (sort_at sort.Word why.Syntax ts) _ _ (λ kind.
    run_sort sort.Quoted ns (Path kind.0 node) (λ t. path_step true ns kind.0 node t) refl (λ t. refl) kind.1
    ∙ (ext (sort_at sort.Quoted why.Syntax kind.1) _ _ (λ path.
    run_path ns kind.0 node path.0 path.1
    ∙ (ext (with_path node kind.0 path.0) _ _ (λ more. run_braces ns more path.1)
    ∙ sym (assoc (with_path node kind.0 path.0) _ (inside ns))))
    ∙ sym (assoc (sort_at sort.Quoted why.Syntax kind.1) _ (inside ns))))
    ∙ sym (assoc (sort_at sort.Word why.Syntax ts) _ (inside ns)))

run_fastname : (ns : List Node) (node : Node) (ts : List Lexeme) → run true ns (Fast node) ts ≡ (fastname_at node ts >>= inside ns)
unfolding fastname_at
run_fastname ns node ts =
    run_sort sort.Quoted ns (Fast node) (λ t. to ns (Inside node)) refl (λ t. refl) ts
    ∙ sym (assoc (sort_at sort.Quoted why.Syntax ts) _ (inside ns))

-- an entry, or the end of the node
entry_by : (e a b c : Bool) (ns : List Node) (node : Node) (t : Lexeme) (ts : List Lexeme)
    → behind t (if e then to (ns ++ node ∷ []) NextNode else if a then to ns (Fast node) else if b then to ns (FirstPool node) else if c then to ns (Kind node) else Err why.Syntax) (on ts)
    ≡ (if e then run true (ns ++ node ∷ []) NextNode ts else ((let r : Read Node = if a then fastname_at node ts else if b then pools_at node ts else if c then resource_at node ts else refuse t why.Syntax in r) >>= inside ns))
entry_by true a b c ns node t ts = refl
entry_by false true b c ns node t ts = run_fastname ns node ts
entry_by false false true c ns node t ts = run_pools ns node ts
entry_by false false false true ns node t ts = run_resource ns node ts
entry_by false false false false ns node t ts = refl

ended_by : (e : Bool) (ns : List Node) (node : Node) (t : Lexeme) (ts : List Lexeme) (other : Run)
    → (if e then run true (ns ++ node ∷ []) NextNode ts else other)
    ≡ (let p : Bool × List Lexeme = if e then (true, ts) else (false, t ∷ ts) in if p.0 then run true (ns ++ node ∷ []) NextNode p.1 else other)
ended_by true ns node t ts other = refl
ended_by false ns node t ts other = refl

run_entry : (ns : List Node) (node : Node) (ts : List Lexeme) → run true ns (Inside node) ts ≡ (if (accept_at (codes "}") ts).0 then run true (ns ++ node ∷ []) NextNode (accept_at (codes "}") ts).1 else (entry_at node ts >>= inside ns))
unfolding accept_at entry_at token_at
run_entry ns node [] = refl
run_entry ns node (t ∷ ts) =
    entry_by (bytes_eq t.bytes (codes "}")) (bytes_eq t.bytes (codes "fastname")) (bytes_eq t.bytes (codes "pools")) (bytes_eq t.bytes (codes "resource")) ns node t ts
    ∙ ended_by (bytes_eq t.bytes (codes "}")) ns node t ts _

closed_by : {A : Type 0} → (one : A → List Lexeme → Read A) (run_on done : A → List Lexeme → Run) (c : Bool × List Lexeme) (n : ℕ) (x : A) (ts : List Lexeme) (read : Read A) → one x ts ≡ read
    → ((y : A) (rest : List Lexeme) → one x ts ≡ Ok (y, rest) → run_on y rest ≡ (until_closed one n y rest >>= λ z. done z.0 z.1))
    → (if c.0 then done x c.1 else (read >>= λ y. run_on y.0 y.1)) ≡ ((let r : Read A = if c.0 then Ok (x, c.1) else (read >>= λ y. until_closed one n y.0 y.1) in r) >>= λ z. done z.0 z.1)
closed_by one run_on done (true, us) n x ts read e h = refl
closed_by one run_on done (false, us) n x ts (Err r) e h = refl
closed_by one run_on done (false, us) n x ts (Ok y) e h = h y.0 y.1 e

-- what reads one after the other up to an end
run_closed : {A : Type 0} → (one : A → List Lexeme → Read A) (run_on done : A → List Lexeme → Run) → Fewer one → ((x : A) → run_on x [] ≡ Err refusal.AtEnd)
    → ((x : A) (ts : List Lexeme) → run_on x ts ≡ (if (accept_at (codes "}") ts).0 then done x (accept_at (codes "}") ts).1 else (one x ts >>= λ y. run_on y.0 y.1)))
    → (n : ℕ) (x : A) (ts : List Lexeme) → length ts ≤ n → run_on x ts ≡ (until_closed one n x ts >>= λ z. done z.0 z.1)
unfolding until_closed
run_closed one run_on done f e h zero x [] k = e x
run_closed one run_on done f e h zero x (t ∷ ts) k = absurd (omega arith)
run_closed one run_on done f e h (suc n) x ts k =
    h x ts ∙ closed_by one run_on done (accept_at (codes "}") ts) n x ts (one x ts) refl
    (λ y rest r. let less = f x y ts rest r in run_closed one run_on done f e h n y rest (omega (arith, less)))

run_entries : (ns : List Node) (node : Node) (ts : List Lexeme) → run true ns (Inside node) ts ≡ (entries_at node ts >>= λ x. run true (ns ++ x.0 ∷ []) NextNode x.1)
run_entries ns node ts =
    run_closed entry_at (λ more us. run true ns (Inside more) us) (λ more us. run true (ns ++ more ∷ []) NextNode us) entry_fewer (λ more. refl) (λ more us. run_entry ns more us) (length ts) node ts (omega arith)

step_by : (b : Bool) (t : Lexeme) (ts : List Lexeme) (s : Step) → behind t (if b then s else Err why.Syntax) (on ts) ≡ ((let r : Read Lexeme = if b then Ok (t, ts) else refuse t why.Syntax in r) >>= λ x. behind x.0 s (on x.1))
step_by true t ts s = refl
step_by false t ts s = refl

run_word_step : (word : List ℕ) (ns : List Node) (stand : Stand) (s : Step) → last ns stand ≡ Err refusal.AtEnd → ((t : Lexeme) → step true ns stand t ≡ if_word word t s) → (ts : List Lexeme) → run true ns stand ts ≡ (expect_at word why.Syntax ts >>= λ x. behind x.0 s (on x.1))
unfolding expect_at
run_word_step word ns stand s l h [] = l
run_word_step word ns stand s l h (t ∷ ts) = rw (h t) (step_by (bytes_eq t.bytes word) t ts s)

abbrev room : List Node → Lexeme × List Lexeme → Read Lexeme
room ns word = if nat_le 64 (length ns) then refuse word.0 why.TooMany else Ok word

room_by : (b : Bool) (ns : List Node) (x : Lexeme × List Lexeme) → behind x.0 (if b then Err why.TooMany else to ns NodeName) (on x.1) ≡ ((let r : Read Lexeme = if b then refuse x.0 why.TooMany else Ok x in r) >>= λ r. run true ns NodeName x.1)
room_by true ns x = refl
room_by false ns x = refl

named_by : (a b : Bool) (ns : List Node) (t : Lexeme) (ts : List Lexeme)
    → behind t (if not a then Err why.Name else if b then Err why.DoubleNode else to ns (Open (content t))) (on ts)
    ≡ (((let r : Ans Lexeme = if a then Ok t else refuse t why.Name in r) >>= λ good. let r : Ans (List ℕ) = if b then refuse t why.DoubleNode else Ok (content t) in r) >>= λ new. run true ns (Open new) ts)
named_by true true ns t ts = refl
named_by true false ns t ts = refl
named_by false b ns t ts = refl

run_named : (ns : List Node) (t : Lexeme) (ts : List Lexeme) → behind t (name_step true ns t) (on ts) ≡ (named ns t >>= λ new. run true ns (Open new) ts)
unfolding named
run_named ns t ts = named_by (is_name (content t)) (has_node ns (content t)) ns t ts

-- the nodes go on behind a node
abbrev next_node : List Node → Node × List Lexeme → Run
next_node ns x = run true (ns ++ x.0 ∷ []) NextNode x.1

run_node : (ns : List Node) (ts : List Lexeme) → run true ns FirstNode ts ≡ (node_at ns ts >>= next_node ns)
unfolding node_at
run_node ns ts =
    run_word_step (codes "node") ns FirstNode (if nat_le 64 (length ns) then Err why.TooMany else to ns NodeName) refl (λ t. refl) ts
    ∙ (ext (expect_at (codes "node") why.Syntax ts) _ _ (λ word.
    room_by (nat_le 64 (length ns)) ns word
    ∙ (ext (room ns word) _ _ (λ r.
    run_sort sort.Quoted ns NodeName (λ t. name_step true ns t) refl (λ t. refl) word.1
    ∙ (ext (sort_at sort.Quoted why.Syntax word.1) _ _ (λ name.
    run_named ns name.0 name.1
    ∙ (ext (named ns name.0) _ _ (λ new.
    run_word (codes "{") ns (Open new) ns (Inside (new_node new)) refl (λ t. refl) name.1
    ∙ (ext (expect_at (codes "{") why.Syntax name.1) _ _ (λ begin. run_entries ns (new_node new) begin.1)
    ∙ sym (assoc (expect_at (codes "{") why.Syntax name.1) _ (next_node ns))))
    ∙ sym (assoc (named ns name.0) _ (next_node ns))))
    ∙ sym (assoc (sort_at sort.Quoted why.Syntax word.1) _ (next_node ns))))
    ∙ sym (assoc (room ns word) _ (next_node ns))))
    ∙ sym (assoc (expect_at (codes "node") why.Syntax ts) _ (next_node ns)))

abbrev next_nodes : List Node × List Lexeme → Run
next_nodes x = run true x.0 NextNode x.1

run_further : (ns : List Node) (ts : List Lexeme) → run true ns FirstNode ts ≡ (further_node_at ns ts >>= next_nodes)
unfolding further_node_at
run_further ns ts = run_node ns ts ∙ sym (assoc (node_at ns ts) _ next_nodes)

next_by : (c : Bool) (ns : List Node) (t : Lexeme) (ts : List Lexeme)
    → behind t (if c then to ns End else node_step true ns t) (on ts)
    ≡ (let p : Bool × List Lexeme = if c then (true, ts) else (false, t ∷ ts) in if p.0 then run true ns End p.1 else (further_node_at ns (t ∷ ts) >>= next_nodes))
next_by true ns t ts = refl
next_by false ns t ts = run_further ns (t ∷ ts)

run_next : (ns : List Node) (ts : List Lexeme) → run true ns NextNode ts ≡ (if (accept_at (codes "}") ts).0 then run true ns End (accept_at (codes "}") ts).1 else (further_node_at ns ts >>= next_nodes))
unfolding accept_at
run_next ns [] = run_further ns []
run_next ns (t ∷ ts) = next_by (bytes_eq t.bytes (codes "}")) ns t ts

run_nodes : (ns : List Node) (ts : List Lexeme) → run true ns NextNode ts ≡ (nodes_at ns ts >>= λ x. run true x.0 End x.1)
run_nodes ns ts =
    run_closed further_node_at (λ ms us. run true ms NextNode us) (λ ms us. run true ms End us) node_fewer (λ ms. refl) (λ ms us. run_next ms us) (length ts) ns ts (omega arith)

run_end : (ns : List Node) (ts : List Lexeme) → run true ns End ts ≡ (finish_at why.Syntax ts >>= λ u. let r : Run = Ok ns in r)
unfolding finish_at
run_end ns [] = refl
run_end ns (t ∷ ts) = refl

pub machine_reads : (ts : List Lexeme) → run true [] Begin ts ≡ text_at ts
unfolding text_at
machine_reads ts =
    run_word (codes "{") [] Begin [] FirstNode refl (λ t. refl) ts
    ∙ ext (expect_at (codes "{") why.Syntax ts) _ _ (λ begin.
    run_further [] begin.1
    ∙ ext (further_node_at [] begin.1) _ _ (λ first.
    run_nodes first.0 first.1
    ∙ ext (nodes_at first.0 first.1) _ _ (λ nodes. run_end nodes.0 nodes.1)))
