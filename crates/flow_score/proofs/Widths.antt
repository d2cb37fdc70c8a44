-- All columns of a link, one by one.
use Rattle.std.proofs.Common.{Bool, true, List, ap, cond, ℕ, suc, ◌&&◌, ◌+◌, ◌-◌, ◌<◌, ◌≡◌, ◌∙◌, arith}
use Rattle.std.specs.List.{range_with_len}
use Rattle.op_base.specs.Columns.{is_in, lies}

one_less : (c w : ℕ) → c < w → w - c ≡ suc (w - (c + 1))
one_less c w h = grind (arith, h)

pub all_step : (c w : ℕ) (G : List ℕ) → c < w → lies (range_with_len c (w - c)) G ≡ (is_in c G && lies (range_with_len (c + 1) (w - (c + 1))) G)
all_step c w G h = ap (λ n. lies (range_with_len c n) G) (one_less c w h)

pub all_kept : (c w : ℕ) (G : List ℕ) → c < w → is_in c G ≡ true → lies (range_with_len c (w - c)) G ≡ lies (range_with_len (c + 1) (w - (c + 1))) G
all_kept c w G h e = all_step c w G h ∙ ap (λ b. b && lies (range_with_len (c + 1) (w - (c + 1))) G) e
