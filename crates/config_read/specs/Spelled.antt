-- Configurations, and which tokens spell them:
--   config = "{" node { node } "}"
--   node   = "node" QUOTED "{" { entry } "}"
--   entry  = "fastname" QUOTED
--          | "pools" QUOTED { QUOTED }
--          | "resource" WORD QUOTED [ "{" "pools" QUOTED { QUOTED } "}" ]
use Rattle.std.specs.Prelude.{◌≡◌, ◌≤◌, ℕ, ◌-◌, List, [], ◌∷◌, ◌++◌, length, map, take, drop, Bool, true, false, if◌then◌else◌, codes}
use Rattle.std.specs.List.{flat_map, list_any, AllByRecursion}
use Rattle.std.specs.Str.{bytes_eq}
use Rattle.ds_value.specs.Names.{IsName, IsName0}
use Rattle.ds_lex.specs.declared.token.Sort.TheVariants as sort
use Rattle.ds_lex.specs.Lexemes.{Lexeme}
use Rattle.ds_lex.specs.Reading.{is_sort}
use Rattle.config_read.specs.declared.config.Node.{Node}
use Rattle.config_read.specs.declared.config.Config.{Config}

abbrev pub is_quoted : Lexeme → Bool
is_quoted t = is_sort sort.Quoted t.sort

-- this word or sign, which is no QUOTED
pub record Is (word : List ℕ) (t : Lexeme) : Type 0 where
  pub bytes : t.bytes ≡ word
  pub plain : is_quoted t ≡ false

abbrev pub IsQuoted : Lexeme → Type 0
IsQuoted t = is_quoted t ≡ true

abbrev pub IsWord : Lexeme → Type 0
IsWord t = is_sort sort.Word t.sort ≡ true

-- what stands between the quotes
abbrev pub content : Lexeme → List ℕ
content t = drop 1 (take (length t.bytes - 1) t.bytes)

-- the tokens of an entry
pub data Entry : Type 0 where
  Fastname : Lexeme → Lexeme → Entry
  Pools : Lexeme → List Lexeme → Entry
  Resource : Lexeme → Lexeme → Lexeme → Entry
  PooledResource : Lexeme → Lexeme → Lexeme → Lexeme → Lexeme → List Lexeme → Lexeme → Entry

abbrev pub entry_tokens : Entry → List Lexeme
entry_tokens (Fastname word name) = word ∷ name ∷ []
entry_tokens (Pools word names) = word ∷ names
entry_tokens (Resource word kind path) = word ∷ kind ∷ path ∷ []
entry_tokens (PooledResource word kind path begin pools names end) = word ∷ kind ∷ path ∷ begin ∷ pools ∷ (names ++ end ∷ [])

-- one or more QUOTED
pub record AreQuoted (ts : List Lexeme) : Type 0 where
  pub some : 1 ≤ length ts
  pub each : AllByRecursion IsQuoted ts

abbrev pub IsEntry : Entry → Type 0
IsEntry (Fastname word name) = Is (codes "fastname") word × IsQuoted name
IsEntry (Pools word names) = Is (codes "pools") word × AreQuoted names
IsEntry (Resource word kind path) = Is (codes "resource") word × IsWord kind × IsQuoted path
IsEntry (PooledResource word kind path begin pools names end) =
    Is (codes "resource") word × IsWord kind × IsQuoted path × Is (codes "{") begin × Is (codes "pools") pools × AreQuoted names × Is (codes "}") end

-- the pools that an entry gives its node
abbrev pub pools_of : Entry → List (List ℕ)
pools_of (Fastname word name) = []
pools_of (Pools word names) = map content names
pools_of (Resource word kind path) = []
pools_of (PooledResource word kind path begin pools names end) = []

abbrev pub scratch_path : Lexeme → Lexeme → List (List ℕ)
scratch_path kind path = if bytes_eq kind.bytes (codes "scratchdisk") then content path ∷ [] else []

-- the paths of scratch disks that it gives it; other resources aren't used
abbrev pub scratch_of : Entry → List (List ℕ)
scratch_of (Fastname word name) = []
scratch_of (Pools word names) = []
scratch_of (Resource word kind path) = scratch_path kind path
scratch_of (PooledResource word kind path begin pools names end) = scratch_path kind path

-- the tokens of a node
pub record NodeText : Type 0 where
  pub word : Lexeme
  pub name : Lexeme
  pub begin : Lexeme
  pub entries : List Entry
  pub end : Lexeme

abbrev pub node_tokens : NodeText → List Lexeme
node_tokens x = x.word ∷ x.name ∷ x.begin ∷ (flat_map entry_tokens x.entries ++ x.end ∷ [])

pub record IsNodeText (x : NodeText) : Type 0 where
  pub word : Is (codes "node") x.word
  pub name : IsQuoted x.name
  pub begin : Is (codes "{") x.begin
  pub entries : AllByRecursion IsEntry x.entries
  pub end : Is (codes "}") x.end

abbrev pub node_of : NodeText → Node
node_of x = record { name = content x.name; pools = flat_map pools_of x.entries; scratch = flat_map scratch_of x.entries }

-- the tokens of a configuration
pub record Text : Type 0 where
  pub begin : Lexeme
  pub nodes : List NodeText
  pub end : Lexeme

abbrev pub text_tokens : Text → List Lexeme
text_tokens x = x.begin ∷ (flat_map node_tokens x.nodes ++ x.end ∷ [])

pub record IsText (x : Text) : Type 0 where
  pub begin : Is (codes "{") x.begin
  pub some : 1 ≤ length x.nodes
  pub nodes : AllByRecursion IsNodeText x.nodes
  pub end : Is (codes "}") x.end

-- a node's name, pools and scratch paths are names
pub record IsNamed (node : Node) : Type 0 where
  pub name : IsName node.name
  pub pools : AllByRecursion IsName0 node.pools
  pub scratch : AllByRecursion IsName0 node.scratch

abbrev pub has_node : List Node → List ℕ → Bool
has_node nodes name = list_any (λ (n : Node). bytes_eq n.name name) nodes

-- no node behind these has the name of one before it
abbrev pub AreNew : List Node → List Node → Type 0
AreNew before [] = Unit {0}
AreNew before (node ∷ nodes) = (has_node before node.name ≡ false) × AreNew (before ++ node ∷ []) nodes

-- what else holds of the nodes of a configuration
pub record Keeps (nodes : List Node) : Type 0 where
  pub named : AllByRecursion IsNamed nodes
  pub new : AreNew [] nodes
  pub few : length nodes ≤ 64

-- the tokens spell the configuration
pub record Spells (ts : List Lexeme) (config : Config) : Type 0 where
  pub text : Text
  pub tokens : ts ≡ text_tokens text
  pub grammar : IsText text
  pub nodes : config.nodes ≡ map node_of text.nodes
  pub keeps : Keeps config.nodes
