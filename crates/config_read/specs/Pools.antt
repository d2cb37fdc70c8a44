-- The nodes that are in the default pool.
use Rattle.std.specs.Prelude.{ℕ, List, length, filter, Bool, ◌==◌, ◌||◌}
use Rattle.std.specs.List.{list_any}
use Rattle.config_read.specs.declared.config.Node.{Node}

-- a node with no pools, or with an empty one
abbrev pub is_default : Node → Bool
is_default node = (length node.pools == 0) || list_any (λ pool. length pool == 0) node.pools

abbrev pub default_count : List Node → ℕ
default_count nodes = length (filter is_default nodes)
