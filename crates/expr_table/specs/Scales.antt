-- The scale of a row's result, by the scales of its arguments; what is no Num has scale 0.
use Rattle.std.specs.Prelude.{ℕ, zero, max, List, [], ◌∷◌, Option, Some, None, ◌==◌, nat_le, if◌then◌else◌, sum}
use Rattle.std.specs.List.{list_all}
use Rattle.expr_table.specs.declared.entry.FnName.{FnName}
use Rattle.expr_table.specs.declared.entry.FnName.TheVariants as fn

abbrev pub greater_scale : List ℕ → ℕ
greater_scale [] = 0
greater_scale (s ∷ scales) = max s (greater_scale scales)

-- of whole numbers alone
abbrev pub scale_of_wholes : List ℕ → Option ℕ
scale_of_wholes scales = if list_all (λ s. s == 0) scales then Some 0 else None

abbrev pub scale_of_product : List ℕ → Option ℕ
scale_of_product scales = if nat_le (sum scales) 38 then Some (sum scales) else None

-- rounded to so many places, which stand there as a whole literal
abbrev pub scale_of_rounded : List ℕ → Option ℕ → Option ℕ
scale_of_rounded (s ∷ zero ∷ []) (Some places) = if nat_le places s then Some places else None
scale_of_rounded scales places = None

-- None where the name isn't typed with these scales; the literal is the whole number that stands as the second argument, if one does
abbrev pub result_scale : FnName → List ℕ → Option ℕ → Option ℕ
result_scale fn.Plus scales literal = Some (greater_scale scales)
result_scale fn.Minus scales literal = Some (greater_scale scales)
result_scale fn.Times scales literal = scale_of_product scales
result_scale fn.Divide scales literal = scale_of_wholes scales
result_scale fn.Remainder scales literal = scale_of_wholes scales
result_scale fn.IfNull scales literal = Some (greater_scale scales)
result_scale fn.If scales literal = Some (greater_scale scales)
result_scale fn.Abs scales literal = Some (greater_scale scales)
result_scale fn.Round scales literal = scale_of_rounded scales literal
result_scale fn.Least scales literal = Some (greater_scale scales)
result_scale fn.Greatest scales literal = Some (greater_scale scales)
result_scale fn.Substr scales literal = scale_of_wholes scales
result_scale fn.AddDays scales literal = scale_of_wholes scales
result_scale name scales literal = Some 0
