-- The machine takes the tokens of a configuration.
use Rattle.std.proofs.Common.{◌≡◌, ◌≤◌, ◌<◌, ◌+◌, ◌++◌, ℕ, List, [], ◌∷◌, length, map, Ok, Err, Bool, true, false, refl, sym, ap, ◌∙◌, arith}
use Rattle.std.specs.Prelude.{if◌then◌else◌, nat_le, not, ◌&&◌, codes}
use Rattle.std.specs.List.{flat_map, AllByRecursion}
use Rattle.std.specs.Str.{bytes_eq}
use Rattle.std.proofs.lemmas.List.{append_assoc, append-nil, length-append}
use Rattle.std.proofs.lemmas.Bool.{lt-leb}
use Rattle.ds_value.specs.Names.{IsName, IsName0}
use Rattle.ds_lex.specs.declared.token.Sort.{Sort}
use Rattle.ds_lex.specs.Lexemes.{Lexeme}
use Rattle.ds_lex.specs.Reading.{is_sort}
use Rattle.config_read.specs.declared.fault.ConfigWhy.TheVariants as why
use Rattle.config_read.specs.declared.config.Node.{Node}
use Rattle.config_read.specs.Spelled.{content, is_quoted, has_node, Is, IsQuoted, IsWord, AreQuoted, Entry, entry_tokens, IsEntry, pools_of, scratch_path, scratch_of, NodeText, node_tokens, IsNodeText, node_of, Text, text_tokens, IsText, IsNamed, AreNew}
use Rattle.config_read.specs.Spelled.Entry.{Fastname, Pools, Resource, PooledResource}
use Rattle.config_read.specs.Reading.{is_name, is_name0, with_pool, with_scratch}
use Rattle.config_read.proofs.Names.{name0_tested, name_tested}
use Rattle.config_read.proofs.Machine.{Stand, Step, new_node, to, if_word, if_sort, name_step, pool_step, step, behind, run}
use Rattle.config_read.proofs.Machine.Stand.{Begin, FirstNode, NextNode, Open, Inside, MorePools, Braces, BraceMore}

-- what holds where names are looked at
abbrev pub When : Bool → Type 0 → Type 0
When true P = P
When false P = Unit {0}

pub when_map : (b : Bool) (P Q : Type 0) → (P → Q) → When b P → When b Q
when_map true P Q f h = f h
when_map false P Q f h = tt

passes : (b x : Bool) → When b (x ≡ true) → (b && not x) ≡ false
passes true x h = rw h refl
passes false x h = refl

passes_new : (b x : Bool) → When b (x ≡ false) → (b && x) ≡ false
passes_new true x h = h
passes_new false x h = refl

-- the node with more pools and scratch disks
abbrev pub more_of : Node → List (List ℕ) → List (List ℕ) → Node
more_of node pools scratch = record { name = node.name; pools = node.pools ++ pools; scratch = node.scratch ++ scratch }

pub more_none : (node : Node) → more_of node [] [] ≡ node
more_none node = ap (λ ps. let n : Node = record { name = node.name; pools = ps; scratch = node.scratch ++ [] } in n) (append-nil node.pools) ∙ ap (λ ss. let n : Node = record { name = node.name; pools = node.pools; scratch = ss } in n) (append-nil node.scratch)

pub more_more : (node : Node) (ps qs ss us : List (List ℕ)) → more_of (more_of node ps ss) qs us ≡ more_of node (ps ++ qs) (ss ++ us)
more_more node ps qs ss us =
    ap (λ xs. let n : Node = record { name = node.name; pools = xs; scratch = (node.scratch ++ ss) ++ us } in n) (append_assoc node.pools ps qs)
    ∙ ap (λ xs. let n : Node = record { name = node.name; pools = node.pools ++ (ps ++ qs); scratch = xs } in n) (append_assoc node.scratch ss us)

pub pooled : (node : Node) (p : List ℕ) (ps : List (List ℕ)) → more_of (with_pool node p) ps [] ≡ more_of node (p ∷ ps) []
pooled node p ps = ap (λ xs. let n : Node = record { name = node.name; pools = xs; scratch = node.scratch ++ [] } in n) (append_assoc node.pools (p ∷ []) ps)

-- a token comes that is no QUOTED and no "{"
abbrev Follows : List Lexeme → Type 0
Follows [] = ⊥
Follows (t ∷ ts) = (is_quoted t ≡ false) × (bytes_eq t.bytes (codes "{") ≡ false)

word_is : (word : List ℕ) (t : Lexeme) → Is word t → bytes_eq word word ≡ true → bytes_eq t.bytes word ≡ true
word_is word t h e = rw h.bytes e

takes_word : (b : Bool) (word : List ℕ) (ns : List Node) (stand : Stand) (s : Step) (t : Lexeme) (ts : List Lexeme) → bytes_eq word word ≡ true → Is word t → step b ns stand t ≡ if_word word t s → run b ns stand (t ∷ ts) ≡ behind t s (λ ms next. run b ms next ts)
takes_word b word ns stand s t ts e h k = rw (k, word_is word t h e) refl

takes_sort : (b : Bool) (x : Sort) (ns : List Node) (stand : Stand) (s : Step) (t : Lexeme) (ts : List Lexeme) → is_sort x t.sort ≡ true → step b ns stand t ≡ if_sort x t s → run b ns stand (t ∷ ts) ≡ behind t s (λ ms next. run b ms next ts)
takes_sort b x ns stand s t ts h k = rw (k, h) refl

takes_pool : (b : Bool) (ns : List Node) (node : Node) (t : Lexeme) (ts : List Lexeme) → When b (IsName0 (content t)) → behind t (pool_step b ns node t) (λ ms next. run b ms next ts) ≡ run b ns (MorePools (with_pool node (content t))) ts
takes_pool b ns node t ts n = rw (passes b (is_name0 (content t)) (when_map b _ _ (name0_tested (content t)) n)) refl

when_first : (b : Bool) (x : List ℕ) (xs : List (List ℕ)) → When b (AllByRecursion IsName0 (x ∷ xs)) → When b (IsName0 x)
when_first b x xs h = when_map b _ _ (λ p. p.0) h

when_rest : (b : Bool) (x : List ℕ) (xs : List (List ℕ)) → When b (AllByRecursion IsName0 (x ∷ xs)) → When b (AllByRecursion IsName0 xs)
when_rest b x xs h = when_map b _ _ (λ p. p.1) h

takes_more : (b : Bool) (ns : List Node) (node : Node) (qs rest : List Lexeme) → AllByRecursion IsQuoted qs → When b (AllByRecursion IsName0 (map content qs)) → Follows rest → run b ns (MorePools node) (qs ++ rest) ≡ run b ns (Inside (more_of node (map content qs) [])) rest
takes_more b ns node [] [] q n f = absurd f
takes_more b ns node [] (t ∷ ts) q n f = rw (f.0, more_none node) refl
takes_more b ns node (x ∷ qs) rest q n f =
    rw q.0 (takes_pool b ns node x (qs ++ rest) (when_first b (content x) (map content qs) n))
    ∙ (takes_more b ns (with_pool node (content x)) qs rest q.1 (when_rest b (content x) (map content qs) n) f
    ∙ ap (λ m. run b ns (Inside m) rest) (pooled node (content x) (map content qs)))

takes_brace_more : (b : Bool) (ns : List Node) (node : Node) (qs : List Lexeme) (e : Lexeme) (rest : List Lexeme) → AllByRecursion IsQuoted qs → Is (codes "}") e → run b ns (BraceMore node) (qs ++ e ∷ rest) ≡ run b ns (Inside node) rest
takes_brace_more b ns node [] e rest q h = rw (h.plain, h.bytes) refl
takes_brace_more b ns node (x ∷ qs) e rest q h = rw q.0 (takes_brace_more b ns node qs e rest q.1 h)

path_taken : (c b : Bool) (ns : List Node) (node : Node) (t : Lexeme) (ts : List Lexeme) → When b (AllByRecursion IsName0 (if c then content t ∷ [] else []))
    → behind t (if c then (if b && not (is_name0 (content t)) then Err why.Name else to ns (Braces (with_scratch node (content t)))) else to ns (Braces node)) (λ ms next. run b ms next ts)
    ≡ run b ns (Braces (more_of node [] (if c then content t ∷ [] else []))) ts
path_taken true b ns node t ts n =
    rw (passes b (is_name0 (content t)) (when_map b _ _ (λ p. name0_tested (content t) p.0) n))
    (ap (λ xs. run b ns (Braces (let n : Node = record { name = node.name; pools = xs; scratch = node.scratch ++ content t ∷ [] } in n)) ts) (sym (append-nil node.pools)))
path_taken false b ns node t ts n = ap (λ m. run b ns (Braces m) ts) (sym (more_none node))

takes_path : (b : Bool) (ns : List Node) (node : Node) (w k p : Lexeme) (ts : List Lexeme) → Is (codes "resource") w → IsWord k → IsQuoted p → When b (AllByRecursion IsName0 (scratch_path k p)) → run b ns (Inside node) (w ∷ k ∷ p ∷ ts) ≡ run b ns (Braces (more_of node [] (scratch_path k p))) ts
takes_path b ns node w k p ts hw hk hp n = rw (hw.bytes, hk, hp) (path_taken (bytes_eq k.bytes (codes "scratchdisk")) b ns node p ts n)

braces_skipped : (b : Bool) (ns : List Node) (node : Node) (ts : List Lexeme) → Follows ts → run b ns (Braces node) ts ≡ run b ns (Inside node) ts
braces_skipped b ns node [] f = absurd f
braces_skipped b ns node (t ∷ ts) f = rw f.1 refl

takes_pools : (b : Bool) (ns : List Node) (node : Node) (w : Lexeme) (qs rest : List Lexeme) → Is (codes "pools") w → AreQuoted qs → When b (AllByRecursion IsName0 (map content qs)) → Follows rest → run b ns (Inside node) ((w ∷ qs) ++ rest) ≡ run b ns (Inside (more_of node (map content qs) [])) rest
takes_pools b ns node w [] rest h q n f = absurd (let k = q.some in omega (arith, k))
takes_pools b ns node w (x ∷ qs) rest h q n f =
    rw (h.bytes, q.each.0) (takes_pool b ns node x (qs ++ rest) (when_first b (content x) (map content qs) n))
    ∙ (takes_more b ns (with_pool node (content x)) qs rest q.each.1 (when_rest b (content x) (map content qs) n) f
    ∙ ap (λ m. run b ns (Inside m) rest) (pooled node (content x) (map content qs)))

takes_braces : (b : Bool) (ns : List Node) (node : Node) (o w : Lexeme) (qs : List Lexeme) (e : Lexeme) (rest : List Lexeme) → Is (codes "{") o → Is (codes "pools") w → AreQuoted qs → Is (codes "}") e → run b ns (Braces node) (o ∷ w ∷ ((qs ++ e ∷ []) ++ rest)) ≡ run b ns (Inside node) rest
takes_braces b ns node o w [] e rest ho hw q he = absurd (let k = q.some in omega (arith, k))
takes_braces b ns node o w (x ∷ qs) e rest ho hw q he =
    rw (ho.bytes, hw.bytes, q.each.0) (ap (λ ts. run b ns (BraceMore node) ts) (append_assoc qs (e ∷ []) rest) ∙ takes_brace_more b ns node qs e rest q.each.1 he)

abbrev pub NamedEntry : Entry → Type 0
NamedEntry e = AllByRecursion IsName0 (pools_of e) × AllByRecursion IsName0 (scratch_of e)

takes_entry : (b : Bool) (ns : List Node) (node : Node) (e : Entry) (rest : List Lexeme) → IsEntry e → When b (NamedEntry e) → Follows rest → run b ns (Inside node) (entry_tokens e ++ rest) ≡ run b ns (Inside (more_of node (pools_of e) (scratch_of e))) rest
takes_entry b ns node (Fastname w q) rest h n f = rw (h.0.bytes, h.1, more_none node) refl
takes_entry b ns node (Pools w qs) rest h n f = takes_pools b ns node w qs rest h.0 h.1 (when_map b _ _ (λ p. p.0) n) f
takes_entry b ns node (Resource w k p) rest h n f =
    takes_path b ns node w k p rest h.0 h.1 h.2 (when_map b _ _ (λ p. p.1) n) ∙ braces_skipped b ns (more_of node [] (scratch_path k p)) rest f
takes_entry b ns node (PooledResource w k p o x qs e) rest h n f =
    takes_path b ns node w k p (o ∷ x ∷ ((qs ++ e ∷ []) ++ rest)) h.0 h.1 h.2 (when_map b _ _ (λ p. p.1) n)
    ∙ takes_braces b ns (more_of node [] (scratch_path k p)) o x qs e rest h.3 h.4 h.5 h.6

word_follows : (word : List ℕ) (t : Lexeme) (ts : List Lexeme) → Is word t → bytes_eq word (codes "{") ≡ false → Follows (t ∷ ts)
word_follows word t ts h e = (h.plain, rw h.bytes e)

entry_follows : (e : Entry) (rest : List Lexeme) → IsEntry e → Follows (entry_tokens e ++ rest)
entry_follows (Fastname w q) rest h = word_follows (codes "fastname") w [] h.0 refl
entry_follows (Pools w qs) rest h = word_follows (codes "pools") w [] h.0 refl
entry_follows (Resource w k p) rest h = word_follows (codes "resource") w [] h.0 refl
entry_follows (PooledResource w k p o x qs e) rest h = word_follows (codes "resource") w [] h.0 refl

follows_from : (ts us : List Lexeme) → us ≡ ts → Follows ts → Follows us
follows_from ts us e f = rw e f

entries_follow : (es : List Entry) (rest : List Lexeme) → AllByRecursion IsEntry es → Follows rest → Follows (flat_map entry_tokens es ++ rest)
entries_follow [] rest h f = f
entries_follow (e ∷ es) rest h f = follows_from _ _ (append_assoc (entry_tokens e) (flat_map entry_tokens es) rest) (entry_follows e (flat_map entry_tokens es ++ rest) h.0)

all_first : (xs ys : List (List ℕ)) → AllByRecursion IsName0 (xs ++ ys) → AllByRecursion IsName0 xs
all_first [] ys h = tt
all_first (x ∷ xs) ys h = (h.0, all_first xs ys h.1)

all_rest : (xs ys : List (List ℕ)) → AllByRecursion IsName0 (xs ++ ys) → AllByRecursion IsName0 ys
all_rest [] ys h = h
all_rest (x ∷ xs) ys h = all_rest xs ys h.1

-- the names of some entries
abbrev pub NamedEntries : List Entry → Type 0
NamedEntries es = AllByRecursion IsName0 (flat_map pools_of es) × AllByRecursion IsName0 (flat_map scratch_of es)

named_first : (e : Entry) (es : List Entry) → NamedEntries (e ∷ es) → NamedEntry e
named_first e es n = (all_first (pools_of e) _ n.0, all_first (scratch_of e) _ n.1)

named_rest : (e : Entry) (es : List Entry) → NamedEntries (e ∷ es) → NamedEntries es
named_rest e es n = (all_rest (pools_of e) _ n.0, all_rest (scratch_of e) _ n.1)

takes_entries : (b : Bool) (ns : List Node) (node : Node) (es : List Entry) (rest : List Lexeme) → AllByRecursion IsEntry es → When b (NamedEntries es) → Follows rest → run b ns (Inside node) (flat_map entry_tokens es ++ rest) ≡ run b ns (Inside (more_of node (flat_map pools_of es) (flat_map scratch_of es))) rest
takes_entries b ns node [] rest h n f = ap (λ m. run b ns (Inside m) rest) (sym (more_none node))
takes_entries b ns node (e ∷ es) rest h n f =
    ap (λ ts. run b ns (Inside node) ts) (append_assoc (entry_tokens e) (flat_map entry_tokens es) rest)
    ∙ (takes_entry b ns node e (flat_map entry_tokens es ++ rest) h.0 (when_map b _ _ (named_first e es) n) (entries_follow es rest h.1 f)
    ∙ (takes_entries b ns (more_of node (pools_of e) (scratch_of e)) es rest h.1 (when_map b _ _ (named_rest e es) n) f
    ∙ ap (λ m. run b ns (Inside m) rest) (more_more node (pools_of e) (flat_map pools_of es) (scratch_of e) (flat_map scratch_of es))))

-- what is looked at in a further node
pub record Fits (ns : List Node) (node : Node) : Type 0 where
  pub named : IsNamed node
  pub new : has_node ns node.name ≡ false
  pub room : length ns < 64

takes_name : (b : Bool) (ns : List Node) (t : Lexeme) (ts : List Lexeme) → When b (IsName (content t)) → When b (has_node ns (content t) ≡ false) → behind t (name_step b ns t) (λ ms next. run b ms next ts) ≡ run b ns (Open (content t)) ts
takes_name b ns t ts n h = rw (passes b (is_name (content t)) (when_map b _ _ (name_tested (content t)) n), passes_new b (has_node ns (content t)) h) refl

takes_body : (b : Bool) (ns : List Node) (x : NodeText) (rest : List Lexeme) → IsNodeText x → When b (Fits ns (node_of x)) → run b ns (Open (content x.name)) (x.begin ∷ ((flat_map entry_tokens x.entries ++ x.end ∷ []) ++ rest)) ≡ run b (ns ++ node_of x ∷ []) NextNode rest
takes_body b ns x rest h f =
    rw h.begin.bytes
    (ap (λ ts. run b ns (Inside (new_node (content x.name))) ts) (append_assoc (flat_map entry_tokens x.entries) (x.end ∷ []) rest)
    ∙ (takes_entries b ns (new_node (content x.name)) x.entries (x.end ∷ rest) h.entries (when_map b _ _ (λ p. (p.named.pools, p.named.scratch)) f) (word_follows (codes "}") x.end [] h.end refl)
    ∙ rw h.end.bytes refl))

takes_node : (b : Bool) (ns : List Node) (x : NodeText) (rest : List Lexeme) → IsNodeText x → When b (Fits ns (node_of x)) → run b ns FirstNode (node_tokens x ++ rest) ≡ run b (ns ++ node_of x ∷ []) NextNode rest
takes_node b ns x rest h f =
    rw (h.word.bytes, passes_new b (nat_le 64 (length ns)) (when_map b _ _ (λ p. lt-leb 64 (length ns) p.room) f), h.name)
    (takes_name b ns x.name (x.begin ∷ ((flat_map entry_tokens x.entries ++ x.end ∷ []) ++ rest)) (when_map b _ _ (λ p. p.named.name) f) (when_map b _ _ (λ p. p.new) f)
    ∙ takes_body b ns x rest h f)

-- the first token of a node ends no configuration
node_next : (b : Bool) (ns : List Node) (x : NodeText) (rest : List Lexeme) → IsNodeText x → run b ns NextNode (node_tokens x ++ rest) ≡ run b ns FirstNode (node_tokens x ++ rest)
node_next b ns x rest h = rw h.word.bytes refl

-- what is looked at in the further nodes
pub record FitAll (ns nodes : List Node) : Type 0 where
  pub named : AllByRecursion IsNamed nodes
  pub new : AreNew ns nodes
  pub few : length ns + length nodes ≤ 64

pub fits_first : (ns : List Node) (node : Node) (nodes : List Node) → FitAll ns (node ∷ nodes) → Fits ns node
fits_first ns node nodes f = record { named = f.named.0; new = f.new.0; room = let k = f.few in omega (arith, k) }

pub fits_rest : (ns : List Node) (node : Node) (nodes : List Node) → FitAll ns (node ∷ nodes) → FitAll (ns ++ node ∷ []) nodes
fits_rest ns node nodes f = record { named = f.named.1; new = f.new.1; few = let k = f.few in omega (arith, k, length-append ns (node ∷ [])) }

takes_nodes : (b : Bool) (ns : List Node) (xs : List NodeText) (end : Lexeme) → AllByRecursion IsNodeText xs → Is (codes "}") end → When b (FitAll ns (map node_of xs)) → run b ns NextNode (flat_map node_tokens xs ++ end ∷ []) ≡ Ok (ns ++ map node_of xs)
takes_nodes b ns [] end h e f = rw e.bytes (ap Ok (sym (append-nil ns)))
takes_nodes b ns (x ∷ xs) end h e f =
    ap (λ ts. run b ns NextNode ts) (append_assoc (node_tokens x) (flat_map node_tokens xs) (end ∷ []))
    ∙ (node_next b ns x (flat_map node_tokens xs ++ end ∷ []) h.0
    ∙ (takes_node b ns x (flat_map node_tokens xs ++ end ∷ []) h.0 (when_map b _ _ (fits_first ns (node_of x) (map node_of xs)) f)
    ∙ (takes_nodes b (ns ++ node_of x ∷ []) xs end h.1 e (when_map b _ _ (fits_rest ns (node_of x) (map node_of xs)) f)
    ∙ ap Ok (append_assoc ns (node_of x ∷ []) (map node_of xs)))))

first_nodes : (b : Bool) (xs : List NodeText) (end : Lexeme) → 1 ≤ length xs → AllByRecursion IsNodeText xs → Is (codes "}") end → When b (FitAll [] (map node_of xs)) → run b [] FirstNode (flat_map node_tokens xs ++ end ∷ []) ≡ Ok (map node_of xs)
first_nodes b [] end s h e f = absurd (omega arith)
first_nodes b (x ∷ xs) end s h e f =
    ap (λ ts. run b [] FirstNode ts) (append_assoc (node_tokens x) (flat_map node_tokens xs) (end ∷ []))
    ∙ (takes_node b [] x (flat_map node_tokens xs ++ end ∷ []) h.0 (when_map b _ _ (fits_first [] (node_of x) (map node_of xs)) f)
    ∙ takes_nodes b (node_of x ∷ []) xs end h.1 e (when_map b _ _ (fits_rest [] (node_of x) (map node_of xs)) f))

pub takes_text : (b : Bool) (x : Text) → IsText x → When b (FitAll [] (map node_of x.nodes)) → run b [] Begin (text_tokens x) ≡ Ok (map node_of x.nodes)
takes_text b x h f = rw h.begin.bytes (first_nodes b x.nodes x.end h.some h.nodes h.end f)
