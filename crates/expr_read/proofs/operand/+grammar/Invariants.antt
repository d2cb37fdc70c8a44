use Rattle.std.proofs.Common.{◌≡◌, ℕ, ◌+◌, ◌*◌, ◌-◌, []}
use Rattle.expr_read.specs.declared.what.Level.{Level}
use Rattle.expr_read.specs.declared.what.Level.TheVariants as level
use Rattle.expr_read.specs.Reading.{links_at, part_at, args_at, inner_at}
use Rattle.expr_read.proofs.operand.+grammar.Given as goal

abbrev pub invariant-links-loop-round : goal.invariant-links-loop-round
invariant-links-loop-round l = links_at (l.most - l._round) l.level (part_at l.depth l.level) l.found l.cursor ≡ links_at l.most l.level (part_at l.depth l.level) [] l.fn.cursor

abbrev pub invariant-args-loop-round : goal.invariant-args-loop-round
invariant-args-loop-round l = args_at (l.count - l._round) (inner_at l.depth) l.found l.cursor ≡ args_at l.count (inner_at l.depth) [] l.fn.cursor

-- the looser a level, the more levels are inside it
abbrev rank : Level → ℕ
rank level.Or = 15
rank level.And = 12
rank level.Compare = 9
rank level.Sum = 6
rank level.Product = 3

abbrev pub decreases-chain : goal.decreases-chain
decreases-chain l = 21 * l.depth + 5 + rank l.level

abbrev pub decreases-links : goal.decreases-links
decreases-links l = 21 * l.depth + 4 + rank l.level

abbrev pub decreases-part : goal.decreases-part
decreases-part l = 21 * l.depth + 3 + rank l.level

abbrev pub decreases-unary : goal.decreases-unary
decreases-unary l = 21 * l.depth + 4

abbrev pub decreases-signed : goal.decreases-signed
decreases-signed l = 21 * l.depth + 3

abbrev pub decreases-bracket : goal.decreases-bracket
decreases-bracket l = 21 * l.depth + 3

abbrev pub decreases-named : goal.decreases-named
decreases-named l = 21 * l.depth + 3

abbrev pub decreases-call : goal.decreases-call
decreases-call l = 21 * l.depth + 2

abbrev pub decreases-args : goal.decreases-args
decreases-args l = 21 * l.depth + 1

abbrev pub decreases-inner : goal.decreases-inner
decreases-inner l = 21 * l.depth
