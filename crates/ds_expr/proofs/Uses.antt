-- The row that is applied.
use Rattle.std.proofs.Common.{◌≡◌, ◌≤◌, ℕ, zero, suc, List, [], ◌∷◌, Bool, true, Option, Some, None, refl, sym, ap, ◌∙◌, length, arith, slice_get}
use Rattle.std.specs.Prelude.{IsSomeAnd, nat_le, sum}
use Rattle.std.specs.List.{list_all, AllByRecursion}
use Rattle.std.specs.Cmp.{first_so, second_so}
use Rattle.std.proofs.lemmas.Bool.{leb-true}
use Rattle.std.proofs.lemmas.List.{length-take, length-map}
use Rattle.std.proofs.lemmas.Option.{slice_get_past}
use Rattle.expr_table.specs.declared.entry.Shape.TheVariants.{Unused}
use Rattle.expr_table.specs.declared.entry.Shape.{Shape}
use Rattle.expr_table.specs.declared.entry.FnName.{FnName}
use Rattle.expr_table.specs.declared.entry.Entry.{Entry}
use Rattle.expr_table.specs.TableRows.{rows, row_with, shapes, Has}
use Rattle.expr_table.specs.Scales.{result_scale}
use Rattle.ds_expr.specs.declared.node.Typing.{Typing}
use Rattle.ds_expr.specs.declared.node.Use.{Use}
use Rattle.ds_expr.specs.Typing.{use_of, use_at, shapes_of, scales_of, second_literal, result_in}

none_at : (f : FnName) (ts : List Typing) (row : Option ℕ) → None ≡ use_at f ts row None
none_at f ts (Some row) = refl
none_at f ts None = refl

named : (es : List Entry) (args : List Shape) (f : FnName) (ts : List Typing) → es ≡ rows → args ≡ shapes_of ts → row_with es f args ≡ row_with rows f (shapes_of ts)
named es args f ts same shaped = ap (λ (xs : List Entry). row_with xs f args) same ∙ ap (λ (xs : List Shape). row_with rows f xs) shaped

used : (f : FnName) (ts : List Typing) (made : List ℕ) (row scale : ℕ) (s : Shape) → s ≡ result_in (slice_get rows row) → made ≡ scales_of ts
    → Some (let u : Use = record { applied = record { name = f; row = row; scales = made }; typing = record { shape = s; scale = scale; literal = None } } in u) ≡ use_at f ts (Some row) (Some scale)
used f ts made row scale s result kept =
    ap (λ (m : List ℕ). Some (let u : Use = record { applied = record { name = f; row = row; scales = m }; typing = record { shape = s; scale = scale; literal = None } } in u)) kept
    ∙ ap (λ (r : Shape). Some (let u : Use = record { applied = record { name = f; row = row; scales = scales_of ts }; typing = record { shape = r; scale = scale; literal = None } } in u)) result

pub no_row : (f : FnName) (ts : List Typing) (es : List Entry) (args : List Shape) → es ≡ rows → args ≡ shapes_of ts → None ≡ row_with es f args → None ≡ use_of f ts
unfolding use_of
no_row f ts es args same shaped e =
    ap (λ (row : Option ℕ). use_at f ts row (result_scale f (scales_of ts) (second_literal ts))) (e ∙ named es args f ts same shaped)

pub no_scale : (f : FnName) (ts : List Typing) (row : ℕ) (scales : List ℕ) (literal : Option ℕ) → scales ≡ scales_of ts → literal ≡ second_literal ts → None ≡ result_scale f scales literal → None ≡ use_of f ts
unfolding use_of
no_scale f ts row scales literal same second e =
    let g : None ≡ result_scale f (scales_of ts) (second_literal ts) = rw (← same, ← second) e in
    none_at f ts (row_with rows f (shapes_of ts)) ∙ ap (use_at f ts (row_with rows f (shapes_of ts))) g

pub one_row : (f : FnName) (ts : List Typing) (es : List Entry) (args : List Shape) (scales made : List ℕ) (literal : Option ℕ) (row scale : ℕ) (s : Shape) → es ≡ rows → args ≡ shapes_of ts → Some row ≡ row_with es f args
    → scales ≡ scales_of ts → literal ≡ second_literal ts → Some scale ≡ result_scale f scales literal → s ≡ result_in (slice_get rows row) → made ≡ scales_of ts
    → Some (let u : Use = record { applied = record { name = f; row = row; scales = made }; typing = record { shape = s; scale = scale; literal = None } } in u) ≡ use_of f ts
unfolding use_of
one_row f ts es args scales made literal row scale s same shaped e scaled second g result kept =
    let g' : Some scale ≡ result_scale f (scales_of ts) (second_literal ts) = rw (← scaled, ← second) g in
    used f ts made row scale s result kept
    ∙ (ap (λ (found : Option ℕ). use_at f ts found (Some scale)) (e ∙ named es args f ts same shaped)
    ∙ ap (λ (found : Option ℕ). use_at f ts (row_with rows f (shapes_of ts)) found) g')

pub past_rows : (es : List Entry) (row : ℕ) → es ≡ rows → length es ≤ row → Unused ≡ result_in (slice_get rows row)
past_rows es row same h = ap result_in (sym (slice_get_past es row h) ∙ ap (λ (xs : List Entry). slice_get xs row) same)

-- ---- at most three arguments

abbrev counted : List Entry → Bool
counted es = list_all (λ (e : Entry). nat_le e.count 3) es

rows_counted : counted rows ≡ true
rows_counted = refl

few_at : (es : List Entry) (i : ℕ) (f : FnName) (args : List Shape) → counted es ≡ true → IsSomeAnd (slice_get es i) (Has f args) → length args ≤ 3
few_at [] i f args c h = absurd h
few_at (e ∷ es) zero f args c h =
    let k : e.count ≤ 3 = leb-true e.count 3 (first_so _ _ c) in
    let len : length (shapes e) ≡ length args = ap length h.1 in
    omega (arith, length-take e.count e.args)
few_at (e ∷ es) (suc i) f args c h = few_at es i f args (second_so (nat_le e.count 3) _ c) h

small_sum : (ts : List Typing) → length ts ≤ 3 → AllByRecursion (λ (t : Typing). t.scale ≤ 38) ts → sum (scales_of ts) ≤ 255
small_sum [] n h = omega arith
small_sum (a ∷ []) n h = omega (arith, h.0)
small_sum (a ∷ b ∷ []) n h = omega (arith, h.0, h.1.0)
small_sum (a ∷ b ∷ c ∷ []) n h = omega (arith, h.0, h.1.0, h.1.1.0)
small_sum (a ∷ b ∷ c ∷ d ∷ ts) n h = absurd (omega arith)

pub scales_sum : (f : FnName) (ts : List Typing) (row : ℕ) (es : List Entry) (args : List Shape) (scales : List ℕ) → es ≡ rows → args ≡ shapes_of ts → scales ≡ scales_of ts → IsSomeAnd (slice_get es row) (Has f args) → AllByRecursion (λ (t : Typing). t.scale ≤ 38) ts → sum scales ≤ 255
scales_sum f ts row es args scales e shaped scaled h s =
    let few : length args ≤ 3 = few_at es row f args (ap counted e ∙ rows_counted) h in
    rw scaled (small_sum ts (omega (arith, few, ap length shaped, length-map ts (λ (t : Typing). t.shape))) s)
