-- Sets of columns, as the list of their members in order.
use Rattle.std.specs.Prelude.{ℕ, List}
use Rattle.std.specs.Ordering.{nat_cmp}
use Rattle.op_base.specs.Lists.{firsts}

-- a list of columns as a set: each column once, in order
abbrev pub set_of : List ℕ → List ℕ
set_of cs = firsts nat_cmp cs
