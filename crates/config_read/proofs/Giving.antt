-- What the machine took spells a configuration.
use Rattle.std.proofs.Common.{◌≡◌, ◌≤◌, ◌<◌, ◌+◌, ◌++◌, ℕ, List, [], ◌∷◌, length, map, Ok, Err, Bool, true, false, refl, sym, ap, subst, inl, inr, ◌∙◌, arith}
use Rattle.std.specs.Prelude.{◌⊎◌, if◌then◌else◌, nat_le, not, ◌&&◌, codes}
use Rattle.std.specs.List.{flat_map, AllByRecursion}
use Rattle.std.specs.Str.{bytes_eq}
use Rattle.std.proofs.lemmas.Slice.Eq.{bytes_eq-Decides}
use Rattle.std.proofs.lemmas.List.{append_assoc, append-nil, length-append}
use Rattle.std.proofs.lemmas.Bool.{leb-false, false_from_ne_true}
use Rattle.ds_value.specs.Names.{IsName, IsName0}
use Rattle.ds_lex.specs.declared.token.Sort.TheVariants as sort
use Rattle.ds_lex.specs.Lexemes.{Lexeme}
use Rattle.ds_lex.specs.Pieces.{begins_with, opens_quoted}
use Rattle.ds_lex.specs.Reading.{is_sort}
use Rattle.config_read.specs.declared.fault.ConfigWhy.{ConfigWhy}
use Rattle.config_read.specs.declared.fault.ConfigWhy.TheVariants as why
use Rattle.config_read.specs.declared.config.Node.{Node}
use Rattle.config_read.specs.Spelled.{content, is_quoted, has_node, Is, IsQuoted, IsWord, Entry, entry_tokens, IsEntry, pools_of, scratch_path, scratch_of, NodeText, node_tokens, IsNodeText, node_of, IsNamed, AreNew}
use Rattle.config_read.specs.Spelled.Entry.{Fastname, Pools, Resource, PooledResource}
use Rattle.config_read.specs.Reading.{is_name, is_name0, with_pool, with_scratch}
use Rattle.config_read.proofs.Names.{tested_name0, tested_name}
use Rattle.config_read.proofs.Machine.{Stand, Step, Run, new_node, to, node_step, name_step, inside_step, pool_step, path_step, behind, run}
use Rattle.config_read.proofs.Machine.Stand.{Begin, FirstNode, NextNode, NodeName, Open, Inside, Fast, FirstPool, MorePools, Kind, Path, Braces, BraceWord, BraceFirst, BraceMore, End}
use Rattle.config_read.proofs.Taking.{When, when_map, more_of, more_none, more_more, pooled, NamedEntry, NamedEntries}

-- a QUOTED begins with a quote
abbrev pub IsToken : Lexeme → Type 0
IsToken t = is_quoted t ≡ true → begins_with opens_quoted t.bytes ≡ true

pub is_word : (word : List ℕ) (t : Lexeme) → IsToken t → begins_with opens_quoted word ≡ false → bytes_eq t.bytes word ≡ true → Is word t
is_word word t k w e =
    let same = (bytes_eq-Decides t.bytes word).0 e in
    record { bytes = same; plain = false_from_ne_true (is_quoted t) (λ q. let c = rw same at (k q) in cc) }

pub ok_is : (x y : List Node) → (let r : Run = Ok x in r) ≡ Ok y → x ≡ y
ok_is x y h = cc

passed : (c : Bool) (t : Lexeme) (s : Step) (f : List Node → Stand → Run) (res : List Node) → behind t (if c then s else Err why.Syntax) f ≡ Ok res → (c ≡ true) × (behind t s f ≡ Ok res)
passed true t s f res h = (refl, h)
passed false t s f res h = cc

tested : (b x : Bool) (w : ConfigWhy) (t : Lexeme) (s : Step) (f : List Node → Stand → Run) (res : List Node) → behind t (if b && not x then Err w else s) f ≡ Ok res → When b (x ≡ true) × (behind t s f ≡ Ok res)
tested true true w t s f res h = (refl, h)
tested true false w t s f res h = cc
tested false x w t s f res h = (tt, h)

tested_new : (b x : Bool) (w : ConfigWhy) (t : Lexeme) (s : Step) (f : List Node → Stand → Run) (res : List Node) → behind t (if b && x then Err w else s) f ≡ Ok res → When b (x ≡ false) × (behind t s f ≡ Ok res)
tested_new true true w t s f res h = cc
tested_new true false w t s f res h = (refl, h)
tested_new false x w t s f res h = (tt, h)

when_all : (b : Bool) (x : List ℕ) (xs : List (List ℕ)) → When b (IsName0 x) → When b (AllByRecursion IsName0 xs) → When b (AllByRecursion IsName0 (x ∷ xs))
when_all true x xs h k = (h, k)
when_all false x xs h k = tt

when_both : (b : Bool) (P Q : Type 0) → When b P → When b Q → When b (P × Q)
when_both true P Q h k = (h, k)
when_both false P Q h k = tt

all_both : (xs ys : List (List ℕ)) → AllByRecursion IsName0 xs → AllByRecursion IsName0 ys → AllByRecursion IsName0 (xs ++ ys)
all_both [] ys h k = k
all_both (x ∷ xs) ys h k = (h.0, all_both xs ys h.1 k)

named_more : (b : Bool) (e : Entry) (es : List Entry) → When b (NamedEntry e) → When b (NamedEntries es) → When b (NamedEntries (e ∷ es))
named_more true e es h k = (all_both (pools_of e) _ h.0 k.0, all_both (scratch_of e) _ h.1 k.1)
named_more false e es h k = tt

when_unit : (b : Bool) → When b (Unit {0})
when_unit true = tt
when_unit false = tt

when_true : (b : Bool) {P : Type 0} → P → When b P
when_true true h = h
when_true false h = tt

-- further nodes and the end stand in ts
pub record Nodes (b : Bool) (ns : List Node) (ts : List Lexeme) (res : List Node) : Type 0 where
  pub nodes : List NodeText
  pub end : Lexeme
  pub tokens : ts ≡ flat_map node_tokens nodes ++ end ∷ []
  pub each : AllByRecursion IsNodeText nodes
  pub closed : Is (codes "}") end
  pub value : res ≡ ns ++ map node_of nodes
  pub fits : When b (AllByRecursion IsNamed (map node_of nodes) × (AreNew ns (map node_of nodes) × (1 ≤ length nodes → length ns + length nodes ≤ 64)))

-- further entries of a node, its end and further nodes
pub record Rest (b : Bool) (ns : List Node) (node : Node) (ts : List Lexeme) (res : List Node) : Type 0 where
  pub entries : List Entry
  pub end : Lexeme
  pub more : List Lexeme
  pub tokens : ts ≡ flat_map entry_tokens entries ++ end ∷ more
  pub each : AllByRecursion IsEntry entries
  pub closed : Is (codes "}") end
  pub named : When b (NamedEntries entries)
  pub nodes : Nodes b (ns ++ more_of node (flat_map pools_of entries) (flat_map scratch_of entries) ∷ []) more res

-- one or more QUOTED, each a name, and what follows them
pub record Quoteds (some b : Bool) (ns : List Node) (node : Node) (ts : List Lexeme) (res : List Node) : Type 0 where
  pub names : List Lexeme
  pub more : List Lexeme
  pub tokens : ts ≡ names ++ more
  pub many : When some (1 ≤ length names)
  pub each : AllByRecursion IsQuoted names
  pub named : When b (AllByRecursion IsName0 (map content names))
  pub rest : Rest b ns (more_of node (map content names) []) more res

-- the unused pools of a resource from inside its bracket
pub record Unused (some b : Bool) (ns : List Node) (node : Node) (ts : List Lexeme) (res : List Node) : Type 0 where
  pub names : List Lexeme
  pub end : Lexeme
  pub more : List Lexeme
  pub tokens : ts ≡ names ++ end ∷ more
  pub many : When some (1 ≤ length names)
  pub each : AllByRecursion IsQuoted names
  pub closed : Is (codes "}") end
  pub rest : Rest b ns node more res

abbrev pub One : (Lexeme → Type 0) → (List Lexeme → Type 0) → List Lexeme → Type 0
One P Q ts = (t : Lexeme) × ((us : List Lexeme) × ((ts ≡ t ∷ us) × (P t × Q us)))

-- behind a resource's path
abbrev pub AfterPath : Bool → List Node → Node → List Lexeme → List Node → Type 0
AfterPath b ns node ts res = Rest b ns node ts res ⊎ One (Is (codes "{")) (One (Is (codes "pools")) (λ us. Unused true b ns node us res)) ts

pub record AtPath (b : Bool) (ns : List Node) (kind : Lexeme) (node : Node) (ts : List Lexeme) (res : List Node) : Type 0 where
  pub path : Lexeme
  pub more : List Lexeme
  pub tokens : ts ≡ path ∷ more
  pub quoted : IsQuoted path
  pub named : When b (AllByRecursion IsName0 (scratch_path kind path))
  pub rest : AfterPath b ns (more_of node [] (scratch_path kind path)) more res

pub record AtKind (b : Bool) (ns : List Node) (node : Node) (ts : List Lexeme) (res : List Node) : Type 0 where
  pub kind : Lexeme
  pub more : List Lexeme
  pub tokens : ts ≡ kind ∷ more
  pub word : IsWord kind
  pub rest : AtPath b ns kind node more res

pub record AtName (b : Bool) (ns : List Node) (ts : List Lexeme) (res : List Node) : Type 0 where
  pub name : Lexeme
  pub more : List Lexeme
  pub tokens : ts ≡ name ∷ more
  pub quoted : IsQuoted name
  pub named : When b (IsName (content name) × (has_node ns (content name) ≡ false))
  pub rest : One (Is (codes "{")) (λ us. Rest b ns (new_node (content name)) us res) more

pub record AtNode (b : Bool) (ns : List Node) (ts : List Lexeme) (res : List Node) : Type 0 where
  pub found : Nodes b ns ts res
  pub some : 1 ≤ length found.nodes

abbrev pub Goal : Bool → List Node → Stand → List Lexeme → List Node → Type 0
Goal b ns Begin ts res = One (Is (codes "{")) (λ us. AtNode b ns us res) ts
Goal b ns FirstNode ts res = AtNode b ns ts res
Goal b ns NextNode ts res = Nodes b ns ts res
Goal b ns NodeName ts res = AtName b ns ts res
Goal b ns (Open name) ts res = One (Is (codes "{")) (λ us. Rest b ns (new_node name) us res) ts
Goal b ns (Inside node) ts res = Rest b ns node ts res
Goal b ns (Fast node) ts res = One IsQuoted (λ us. Rest b ns node us res) ts
Goal b ns (FirstPool node) ts res = Quoteds true b ns node ts res
Goal b ns (MorePools node) ts res = Quoteds false b ns node ts res
Goal b ns (Kind node) ts res = AtKind b ns node ts res
Goal b ns (Path kind node) ts res = AtPath b ns kind node ts res
Goal b ns (Braces node) ts res = AfterPath b ns node ts res
Goal b ns (BraceWord node) ts res = One (Is (codes "pools")) (λ us. Unused true b ns node us res) ts
Goal b ns (BraceFirst node) ts res = Unused true b ns node ts res
Goal b ns (BraceMore node) ts res = Unused false b ns node ts res
Goal b ns End ts res = (ts ≡ []) × (res ≡ ns)

-- a first entry before further ones
first_entry : (b : Bool) (ns : List Node) (node : Node) (e : Entry) (ts us : List Lexeme) (res : List Node) → ts ≡ entry_tokens e ++ us → IsEntry e → When b (NamedEntry e) → Rest b ns (more_of node (pools_of e) (scratch_of e)) us res → Rest b ns node ts res
first_entry b ns node e ts us res t h n r = record {
  entries = e ∷ r.entries;
  end = r.end;
  more = r.more;
  tokens = t ∙ (ap (λ vs. entry_tokens e ++ vs) r.tokens ∙ sym (append_assoc (entry_tokens e) (flat_map entry_tokens r.entries) (r.end ∷ r.more)));
  each = (h, r.each);
  closed = r.closed;
  named = named_more b e r.entries n r.named;
  nodes = let P : Node → Type 0 = λ m. Nodes b (ns ++ m ∷ []) r.more res in subst P (more_more node (pools_of e) (flat_map pools_of r.entries) (scratch_of e) (flat_map scratch_of r.entries)) r.nodes;
}

-- the end of a node
node_ended : (b : Bool) (ns : List Node) (node : Node) (t : Lexeme) (ts : List Lexeme) (res : List Node) → Is (codes "}") t → Nodes b (ns ++ node ∷ []) ts res → Rest b ns node (t ∷ ts) res
node_ended b ns node t ts res h n = record {
  entries = [];
  end = t;
  more = ts;
  tokens = refl;
  each = tt;
  closed = h;
  named = when_both b _ _ (when_unit b) (when_unit b);
  nodes = let P : Node → Type 0 = λ m. Nodes b (ns ++ m ∷ []) ts res in subst P (sym (more_none node)) n;
}

fastname_given : (b : Bool) (ns : List Node) (node : Node) (t : Lexeme) (ts : List Lexeme) (res : List Node) → Is (codes "fastname") t → One IsQuoted (λ us. Rest b ns node us res) ts → Rest b ns node (t ∷ ts) res
fastname_given b ns node t ts res h q =
    let P : Node → Type 0 = λ m. Rest b ns m q.1.0 res in
    first_entry b ns node (Fastname t q.0) (t ∷ ts) q.1.0 res (ap (λ us. t ∷ us) q.1.1.0) (h, q.1.1.1.0) (when_both b _ _ (when_unit b) (when_unit b)) (subst P (sym (more_none node)) q.1.1.1.1)

pools_given : (b : Bool) (ns : List Node) (node : Node) (t : Lexeme) (ts : List Lexeme) (res : List Node) → Is (codes "pools") t → Quoteds true b ns node ts res → Rest b ns node (t ∷ ts) res
pools_given b ns node t ts res h q =
    first_entry b ns node (Pools t q.names) (t ∷ ts) q.more res (ap (λ us. t ∷ us) q.tokens) (h, record { some = q.many; each = q.each }) (when_both b _ _ q.named (when_unit b)) q.rest

resource_given : (b : Bool) (ns : List Node) (node : Node) (t : Lexeme) (ts : List Lexeme) (res : List Node) → Is (codes "resource") t → (k : AtKind b ns node ts res) → AfterPath b ns (more_of node [] (scratch_path k.kind k.rest.path)) k.rest.more res → Rest b ns node (t ∷ ts) res
resource_given b ns node t ts res h k (inl r) =
    first_entry b ns node (Resource t k.kind k.rest.path) (t ∷ ts) k.rest.more res
    (ap (λ us. t ∷ us) k.tokens ∙ ap (λ us. t ∷ k.kind ∷ us) k.rest.tokens)
    (h, k.word, k.rest.quoted) (when_both b _ _ (when_unit b) k.rest.named) r
resource_given b ns node t ts res h k (inr o) =
    let x = o.1.1.1.1 in
    let u = x.1.1.1.1 in
    first_entry b ns node (PooledResource t k.kind k.rest.path o.0 x.0 u.names u.end) (t ∷ ts) u.more res
    (ap (λ us. t ∷ us) k.tokens ∙ (ap (λ us. t ∷ k.kind ∷ us) k.rest.tokens ∙ (ap (λ us. t ∷ k.kind ∷ k.rest.path ∷ us) o.1.1.0 ∙ (ap (λ us. t ∷ k.kind ∷ k.rest.path ∷ o.0 ∷ us) x.1.1.0 ∙ ap (λ us. t ∷ k.kind ∷ k.rest.path ∷ o.0 ∷ x.0 ∷ us) (u.tokens ∙ sym (append_assoc u.names (u.end ∷ []) u.more))))))
    (h, k.word, k.rest.quoted, o.1.1.1.0, x.1.1.1.0, record { some = u.many; each = u.each }, u.closed) (when_both b _ _ (when_unit b) k.rest.named) u.rest

abbrev Further : Bool → List Lexeme → List Node → Type 0
Further b ts res = (ns : List Node) (s : Stand) → run b ns s ts ≡ Ok res → Goal b ns s ts res

inside_by : (e a p r : Bool) (b : Bool) (ns : List Node) (node : Node) (t : Lexeme) (ts : List Lexeme) (res : List Node)
    → (e ≡ true → Is (codes "}") t) → (a ≡ true → Is (codes "fastname") t) → (p ≡ true → Is (codes "pools") t) → (r ≡ true → Is (codes "resource") t)
    → Further b ts res
    → behind t (if e then to (ns ++ node ∷ []) NextNode else if a then to ns (Fast node) else if p then to ns (FirstPool node) else if r then to ns (Kind node) else Err why.Syntax) (λ ms next. run b ms next ts) ≡ Ok res
    → Rest b ns node (t ∷ ts) res
inside_by true a p r b ns node t ts res f g h k more x = node_ended b ns node t ts res (f refl) (more (ns ++ node ∷ []) NextNode x)
inside_by false true p r b ns node t ts res f g h k more x = fastname_given b ns node t ts res (g refl) (more ns (Fast node) x)
inside_by false false true r b ns node t ts res f g h k more x = pools_given b ns node t ts res (h refl) (more ns (FirstPool node) x)
inside_by false false false true b ns node t ts res f g h k more x = let y = more ns (Kind node) x in resource_given b ns node t ts res (k refl) y y.rest.rest
inside_by false false false false b ns node t ts res f g h k more x = cc

inside_given : (b : Bool) (ns : List Node) (node : Node) (t : Lexeme) (ts : List Lexeme) (res : List Node) → IsToken t → Further b ts res → behind t (inside_step ns node t) (λ ms next. run b ms next ts) ≡ Ok res → Rest b ns node (t ∷ ts) res
inside_given b ns node t ts res k more x =
    inside_by (bytes_eq t.bytes (codes "}")) (bytes_eq t.bytes (codes "fastname")) (bytes_eq t.bytes (codes "pools")) (bytes_eq t.bytes (codes "resource")) b ns node t ts res
    (is_word (codes "}") t k refl) (is_word (codes "fastname") t k refl) (is_word (codes "pools") t k refl) (is_word (codes "resource") t k refl) more x

-- a further pool
pool_given : (some b : Bool) (ns : List Node) (node : Node) (t : Lexeme) (ts : List Lexeme) (res : List Node) → IsQuoted t → Further b ts res → behind t (pool_step b ns node t) (λ ms next. run b ms next ts) ≡ Ok res → Quoteds some b ns node (t ∷ ts) res
pool_given some b ns node t ts res q more x =
    let p = tested b (is_name0 (content t)) why.Name t _ _ res x in
    let rest = more ns (MorePools (with_pool node (content t))) p.1 in
    let P : Node → Type 0 = λ m. Rest b ns m rest.more res in
    record {
      names = t ∷ rest.names;
      more = rest.more;
      tokens = ap (λ us. t ∷ us) rest.tokens;
      many = when_true some (omega arith);
      each = (q, rest.each);
      named = when_all b (content t) (map content rest.names) (when_map b _ _ (tested_name0 (content t)) p.0) rest.named;
      rest = subst P (pooled node (content t) (map content rest.names)) rest.rest;
    }

no_pool : (b : Bool) (ns : List Node) (node : Node) (ts : List Lexeme) (res : List Node) → Rest b ns node ts res → Quoteds false b ns node ts res
no_pool b ns node ts res r =
    let P : Node → Type 0 = λ m. Rest b ns m ts res in
    record { names = []; more = ts; tokens = refl; many = tt; each = tt; named = when_unit b; rest = subst P (sym (more_none node)) r }

more_given : (c b : Bool) (ns : List Node) (node : Node) (t : Lexeme) (ts : List Lexeme) (res : List Node) → (c ≡ true → IsQuoted t) → IsToken t → Further b ts res → behind t (if c then pool_step b ns node t else inside_step ns node t) (λ ms next. run b ms next ts) ≡ Ok res → Quoteds false b ns node (t ∷ ts) res
more_given true b ns node t ts res q k more x = pool_given false b ns node t ts res (q refl) more x
more_given false b ns node t ts res q k more x = no_pool b ns node (t ∷ ts) res (inside_given b ns node t ts res k more x)

-- pools of a resource
brace_given : (some b : Bool) (ns : List Node) (node : Node) (t : Lexeme) (ts : List Lexeme) (res : List Node) → IsQuoted t → Unused false b ns node ts res → Unused some b ns node (t ∷ ts) res
brace_given some b ns node t ts res q u = record {
  names = t ∷ u.names;
  end = u.end;
  more = u.more;
  tokens = ap (λ us. t ∷ us) u.tokens;
  many = when_true some (omega arith);
  each = (q, u.each);
  closed = u.closed;
  rest = u.rest;
}

brace_ended : (b : Bool) (ns : List Node) (node : Node) (t : Lexeme) (ts : List Lexeme) (res : List Node) → Is (codes "}") t → Rest b ns node ts res → Unused false b ns node (t ∷ ts) res
brace_ended b ns node t ts res h r = record { names = []; end = t; more = ts; tokens = refl; many = tt; each = tt; closed = h; rest = r }

brace_by : (c e : Bool) (b : Bool) (ns : List Node) (node : Node) (t : Lexeme) (ts : List Lexeme) (res : List Node) → (c ≡ true → IsQuoted t) → (e ≡ true → Is (codes "}") t) → Further b ts res → behind t (if c then to ns (BraceMore node) else if e then to ns (Inside node) else Err why.Syntax) (λ ms next. run b ms next ts) ≡ Ok res → Unused false b ns node (t ∷ ts) res
brace_by true e b ns node t ts res q h more x = brace_given false b ns node t ts res (q refl) (more ns (BraceMore node) x)
brace_by false true b ns node t ts res q h more x = brace_ended b ns node t ts res (h refl) (more ns (Inside node) x)
brace_by false false b ns node t ts res q h more x = cc

braces_by : (c : Bool) (b : Bool) (ns : List Node) (node : Node) (t : Lexeme) (ts : List Lexeme) (res : List Node) → (c ≡ true → Is (codes "{") t) → IsToken t → Further b ts res → behind t (if c then to ns (BraceWord node) else inside_step ns node t) (λ ms next. run b ms next ts) ≡ Ok res → AfterPath b ns node (t ∷ ts) res
braces_by true b ns node t ts res h k more x = inr (t, (ts, (refl, (h refl, more ns (BraceWord node) x))))
braces_by false b ns node t ts res h k more x = inl (inside_given b ns node t ts res k more x)

path_by : (c b : Bool) (ns : List Node) (node : Node) (t : Lexeme) (ts : List Lexeme) (res : List Node) → Further b ts res
    → behind t (if c then (if b && not (is_name0 (content t)) then Err why.Name else to ns (Braces (with_scratch node (content t)))) else to ns (Braces node)) (λ ms next. run b ms next ts) ≡ Ok res
    → When b (AllByRecursion IsName0 (if c then content t ∷ [] else [])) × AfterPath b ns (more_of node [] (if c then content t ∷ [] else [])) ts res
path_by true b ns node t ts res more x =
    let p = tested b (is_name0 (content t)) why.Name t _ _ res x in
    let P : Node → Type 0 = λ m. AfterPath b ns m ts res in
    let same : with_scratch node (content t) ≡ more_of node [] (content t ∷ []) = ap (λ xs. let n : Node = record { name = node.name; pools = xs; scratch = node.scratch ++ content t ∷ [] } in n) (sym (append-nil node.pools)) in
    (when_all b (content t) [] (when_map b _ _ (tested_name0 (content t)) p.0) (when_unit b), subst P same (more ns (Braces (with_scratch node (content t))) p.1))
path_by false b ns node t ts res more x =
    let P : Node → Type 0 = λ m. AfterPath b ns m ts res in
    (when_unit b, subst P (sym (more_none node)) (more ns (Braces node) x))

path_given : (b : Bool) (ns : List Node) (kind : Lexeme) (node : Node) (t : Lexeme) (ts : List Lexeme) (res : List Node) → IsQuoted t → Further b ts res → behind t (path_step b ns kind node t) (λ ms next. run b ms next ts) ≡ Ok res → AtPath b ns kind node (t ∷ ts) res
path_given b ns kind node t ts res q more x =
    let p = path_by (bytes_eq kind.bytes (codes "scratchdisk")) b ns node t ts res more x in
    record { path = t; more = ts; tokens = refl; quoted = q; named = p.0; rest = p.1 }

name_given : (b : Bool) (ns : List Node) (t : Lexeme) (ts : List Lexeme) (res : List Node) → IsQuoted t → Further b ts res → behind t (name_step b ns t) (λ ms next. run b ms next ts) ≡ Ok res → AtName b ns (t ∷ ts) res
name_given b ns t ts res q more x =
    let p = tested b (is_name (content t)) why.Name t _ _ res x in
    let n = tested_new b (has_node ns (content t)) why.DoubleNode t _ _ res p.1 in
    record { name = t; more = ts; tokens = refl; quoted = q; named = when_both b _ _ (when_map b _ _ (tested_name (content t)) p.0) n.0; rest = more ns (Open (content t)) n.1 }

tokens_join : (t n o : Lexeme) (es : List Lexeme) (e : Lexeme) (ns : List Lexeme) (c : Lexeme) → t ∷ n ∷ o ∷ (es ++ e ∷ (ns ++ c ∷ [])) ≡ (t ∷ n ∷ o ∷ ((es ++ e ∷ []) ++ ns)) ++ c ∷ []
tokens_join t n o es e ns c = ap (λ us. t ∷ n ∷ o ∷ us) (sym (append_assoc (es ++ e ∷ []) ns (c ∷ []) ∙ append_assoc es (e ∷ []) (ns ++ c ∷ [])))

abbrev FitsSome : List Node → List NodeText → Type 0
FitsSome ns nodes = AllByRecursion IsNamed (map node_of nodes) × (AreNew ns (map node_of nodes) × (1 ≤ length nodes → length ns + length nodes ≤ 64))

fits_more : (ns : List Node) (x : NodeText) (nodes : List NodeText) → IsNamed (node_of x) → has_node ns (content x.name) ≡ false → length ns < 64 → FitsSome (ns ++ node_of x ∷ []) nodes → FitsSome ns (x ∷ nodes)
fits_more ns x [] n h r f = ((n, tt), ((h, tt), λ s. omega (arith, r)))
fits_more ns x (y ∷ nodes) n h r f = ((n, f.0), ((h, f.1.0), λ s. let k = f.1.1 (omega arith) in omega (arith, k, length-append ns (node_of x ∷ []))))

when_fits : (b : Bool) (ns : List Node) (x : NodeText) (nodes : List NodeText) → When b (IsName (content x.name) × (has_node ns (content x.name) ≡ false)) → When b (NamedEntries x.entries) → When b (nat_le 64 (length ns) ≡ false) → When b (FitsSome (ns ++ node_of x ∷ []) nodes) → When b (FitsSome ns (x ∷ nodes))
when_fits true ns x nodes n e r f = fits_more ns x nodes (record { name = n.0; pools = e.0; scratch = e.1 }) n.1 (leb-false 64 (length ns) r) f
when_fits false ns x nodes n e r f = tt

node_given : (b : Bool) (ns : List Node) (t : Lexeme) (ts : List Lexeme) (res : List Node) → Is (codes "node") t → When b (nat_le 64 (length ns) ≡ false) → AtName b ns ts res → AtNode b ns (t ∷ ts) res
node_given b ns t ts res h room n =
    let o = n.rest in
    let r = o.1.1.1.1 in
    let x : NodeText = record { word = t; name = n.name; begin = o.0; entries = r.entries; end = r.end } in
    record {
      found = record {
        nodes = x ∷ r.nodes.nodes;
        end = r.nodes.end;
        tokens = ap (λ us. t ∷ us) n.tokens ∙ (ap (λ us. t ∷ n.name ∷ us) o.1.1.0 ∙ (ap (λ us. t ∷ n.name ∷ o.0 ∷ us) r.tokens ∙ (ap (λ us. t ∷ n.name ∷ o.0 ∷ (flat_map entry_tokens r.entries ++ r.end ∷ us)) r.nodes.tokens ∙ tokens_join t n.name o.0 (flat_map entry_tokens r.entries) r.end (flat_map node_tokens r.nodes.nodes) r.nodes.end)));
        each = (record { word = h; name = n.quoted; begin = o.1.1.1.0; entries = r.each; end = r.closed }, r.nodes.each);
        closed = r.nodes.closed;
        value = r.nodes.value ∙ append_assoc ns (node_of x ∷ []) (map node_of r.nodes.nodes);
        fits = when_fits b ns x r.nodes.nodes n.named r.named room r.nodes.fits;
      };
      some = omega arith;
    }

node_step_given : (b : Bool) (ns : List Node) (t : Lexeme) (ts : List Lexeme) (res : List Node) → IsToken t → Further b ts res → behind t (node_step b ns t) (λ ms next. run b ms next ts) ≡ Ok res → AtNode b ns (t ∷ ts) res
node_step_given b ns t ts res k more x =
    let p = passed (bytes_eq t.bytes (codes "node")) t _ _ res x in
    let r = tested_new b (nat_le 64 (length ns)) why.TooMany t _ _ res p.1 in
    node_given b ns t ts res (is_word (codes "node") t k refl p.0) r.0 (more ns NodeName r.1)

next_by : (c b : Bool) (ns : List Node) (t : Lexeme) (ts : List Lexeme) (res : List Node) → (c ≡ true → Is (codes "}") t) → IsToken t → Further b ts res → behind t (if c then to ns End else node_step b ns t) (λ ms next. run b ms next ts) ≡ Ok res → Nodes b ns (t ∷ ts) res
next_by true b ns t ts res h k more x =
    let e = more ns End x in
    record { nodes = []; end = t; tokens = ap (λ us. t ∷ us) e.0; each = tt; closed = h refl; value = e.1 ∙ sym (append-nil ns); fits = when_map b (Unit {0}) _ (λ u. (tt, (tt, λ s. absurd (omega arith)))) (when_unit b) }
next_by false b ns t ts res h k more x = (node_step_given b ns t ts res k more x).found

pub took : (b : Bool) (ns : List Node) (s : Stand) (ts : List Lexeme) (res : List Node) → AllByRecursion IsToken ts → run b ns s ts ≡ Ok res → Goal b ns s ts res
took b ns Begin [] res k h = cc
took b ns FirstNode [] res k h = cc
took b ns NextNode [] res k h = cc
took b ns NodeName [] res k h = cc
took b ns (Open name) [] res k h = cc
took b ns (Inside node) [] res k h = cc
took b ns (Fast node) [] res k h = cc
took b ns (FirstPool node) [] res k h = cc
took b ns (MorePools node) [] res k h = cc
took b ns (Kind node) [] res k h = cc
took b ns (Path kind node) [] res k h = cc
took b ns (Braces node) [] res k h = cc
took b ns (BraceWord node) [] res k h = cc
took b ns (BraceFirst node) [] res k h = cc
took b ns (BraceMore node) [] res k h = cc
took b ns End [] res k h = (refl, sym (ok_is ns res h))
took b ns Begin (t ∷ ts) res k h =
    let p = passed (bytes_eq t.bytes (codes "{")) t (to ns FirstNode) _ res h in
    (t, (ts, (refl, (is_word (codes "{") t k.0 refl p.0, took b ns FirstNode ts res k.1 p.1))))
took b ns FirstNode (t ∷ ts) res k h = node_step_given b ns t ts res k.0 (λ ms s x. took b ms s ts res k.1 x) h
took b ns NextNode (t ∷ ts) res k h = next_by (bytes_eq t.bytes (codes "}")) b ns t ts res (is_word (codes "}") t k.0 refl) k.0 (λ ms s x. took b ms s ts res k.1 x) h
took b ns NodeName (t ∷ ts) res k h =
    let p = passed (is_quoted t) t (name_step b ns t) _ res h in
    name_given b ns t ts res p.0 (λ ms s x. took b ms s ts res k.1 x) p.1
took b ns (Open name) (t ∷ ts) res k h =
    let p = passed (bytes_eq t.bytes (codes "{")) t (to ns (Inside (new_node name))) _ res h in
    (t, (ts, (refl, (is_word (codes "{") t k.0 refl p.0, took b ns (Inside (new_node name)) ts res k.1 p.1))))
took b ns (Inside node) (t ∷ ts) res k h = inside_given b ns node t ts res k.0 (λ ms s x. took b ms s ts res k.1 x) h
took b ns (Fast node) (t ∷ ts) res k h =
    let p = passed (is_quoted t) t (to ns (Inside node)) _ res h in
    (t, (ts, (refl, (p.0, took b ns (Inside node) ts res k.1 p.1))))
took b ns (FirstPool node) (t ∷ ts) res k h =
    let p = passed (is_quoted t) t (pool_step b ns node t) _ res h in
    pool_given true b ns node t ts res p.0 (λ ms s x. took b ms s ts res k.1 x) p.1
took b ns (MorePools node) (t ∷ ts) res k h = more_given (is_quoted t) b ns node t ts res (λ q. q) k.0 (λ ms s x. took b ms s ts res k.1 x) h
took b ns (Kind node) (t ∷ ts) res k h =
    let p = passed (is_sort sort.Word t.sort) t (to ns (Path t node)) _ res h in
    record { kind = t; more = ts; tokens = refl; word = p.0; rest = took b ns (Path t node) ts res k.1 p.1 }
took b ns (Path kind node) (t ∷ ts) res k h =
    let p = passed (is_quoted t) t (path_step b ns kind node t) _ res h in
    path_given b ns kind node t ts res p.0 (λ ms s x. took b ms s ts res k.1 x) p.1
took b ns (Braces node) (t ∷ ts) res k h = braces_by (bytes_eq t.bytes (codes "{")) b ns node t ts res (is_word (codes "{") t k.0 refl) k.0 (λ ms s x. took b ms s ts res k.1 x) h
took b ns (BraceWord node) (t ∷ ts) res k h =
    let p = passed (bytes_eq t.bytes (codes "pools")) t (to ns (BraceFirst node)) _ res h in
    (t, (ts, (refl, (is_word (codes "pools") t k.0 refl p.0, took b ns (BraceFirst node) ts res k.1 p.1))))
took b ns (BraceFirst node) (t ∷ ts) res k h =
    let p = passed (is_quoted t) t (to ns (BraceMore node)) _ res h in
    brace_given true b ns node t ts res p.0 (took b ns (BraceMore node) ts res k.1 p.1)
took b ns (BraceMore node) (t ∷ ts) res k h = brace_by (is_quoted t) (bytes_eq t.bytes (codes "}")) b ns node t ts res (λ q. q) (is_word (codes "}") t k.0 refl) (λ ms s x. took b ms s ts res k.1 x) h
took b ns End (t ∷ ts) res k h = cc
