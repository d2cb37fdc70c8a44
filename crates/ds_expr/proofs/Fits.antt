-- The value of a typed tree has its shape and lies in its range.
use Rattle.std.proofs.Common.{◌≡◌, ◌≤◌, ◌+◌, ◌-◌, ℕ, suc, List, [], ◌∷◌, Option, Some, None, Result, Ok, Bool, true, false, slice_get, sym, ap, subst, ◌∙◌, refl, arith}
use Rattle.std.specs.Prelude.{nat_le, ◌&&◌, ◌==◌, if◌then◌else◌}
use Rattle.std.specs.List.{position_from}
use Rattle.std.specs.Cmp.{first_so, second_so}
use Rattle.std.specs.Str.{bytes_eq}
use Rattle.std.proofs.lemmas.Bool.{leb-true, eqb-true}
use Rattle.std.proofs.lemmas.Slice.Eq.{bytes_eq-Decides}
use Rattle.ds_value.specs.declared.value.Value.{Value}
use Rattle.ds_schema.specs.declared.schema.Field.{Field}
use Rattle.expr_table.specs.declared.entry.Shape.{Shape}
use Rattle.expr_table.specs.declared.entry.FnName.{FnName}
use Rattle.expr_table.specs.declared.entry.Entry.{Entry}
use Rattle.expr_table.specs.declared.arg.Arg.{Arg}
use Rattle.expr_table.specs.declared.arg.EvalFault.{EvalFault}
use Rattle.expr_table.specs.TableRows.{rows, shapes, has}
use Rattle.expr_table.specs.Calls.{HasShape, HaveShapes, AreInRange, AreSmall}
use Rattle.expr_table.specs.Meaning.{value_of}
use Rattle.expr_table.specs.Scales.{result_scale}
use Rattle.expr_table.proofs.Names.{has_is}
use Rattle.expr_table.proofs.RowResults.{results_fit}
use Rattle.ds_expr.specs.declared.node.Typing.{Typing}
use Rattle.ds_expr.specs.declared.node.Applied.{Applied}
use Rattle.ds_expr.specs.declared.node.Node.{Node}
use Rattle.ds_expr.specs.declared.node.Use.{Use}
use Rattle.ds_expr.specs.Typing.{typing_in, typing_of_use, agreed, are_small, use_of, shapes_of, scales_of, second_literal, result_in}
use Rattle.ds_expr.specs.Values.{value_in, applied}
use Rattle.ds_expr.specs.Typed.{Fits}
use Rattle.ds_expr.proofs.Sound.{use_is}

abbrev pub NodeFits : List Field → List Value → Node → Type 0
NodeFits fields row node = (t : Typing) (v : Arg) → typing_in fields node ≡ Some t → value_in row node ≡ Ok v → Fits t v

pub some_is : {A : Type 0} (a b : A) → Some a ≡ Some b → a ≡ b
some_is a b e = cc

pub ok_is : {A : Type 0} (a b : A) → (let r : Result A EvalFault = Ok a in r) ≡ Ok b → a ≡ b
ok_is a b e = cc

-- ---- the row that is applied

pub record RowIs (u : Applied) (ts : List Typing) (t : Typing) : Type 0 where
  pub entry : Entry
  pub at : slice_get rows u.row ≡ Some entry
  pub name : entry.name ≡ u.name
  pub shapes : shapes entry ≡ shapes_of ts
  pub result : t.shape ≡ entry.result
  pub small : AreSmall u.scales
  pub args : AreSmall (scales_of ts)
  pub scale : result_scale u.name (scales_of ts) (second_literal ts) ≡ Some t.scale

-- the row at which a test passes first
record Passes (p : Entry → Bool) (es : List Entry) (i : ℕ) : Type 0 where
  entry : Entry
  at : slice_get es i ≡ Some entry
  test : p entry ≡ true

passes_by : (b : Bool) (p : Entry → Bool) (k : ℕ) (e : Entry) (es : List Entry) (i : ℕ) → p e ≡ b → (if b then Some k else position_from p (k + 1) es) ≡ Some i → ((j : ℕ) → position_from p (k + 1) es ≡ Some j → (k + 1 ≤ j) × Passes p es (j - (k + 1)))
    → (k ≤ i) × Passes p (e ∷ es) (i - k)
passes_by true p k e es i t h more = let same : k ≡ i = some_is k i h in let z : i - k ≡ 0 = omega arith in (omega arith, record { entry = e; at = rw z refl; test = t })
passes_by false p k e es i t h more =
    let m = more i h in
    let z : i - k ≡ suc (i - (k + 1)) = omega (arith, m.0) in
    (omega (arith, m.0), record { entry = m.1.entry; at = rw z m.1.at; test = m.1.test })

passes : (p : Entry → Bool) (k : ℕ) (es : List Entry) (i : ℕ) → position_from p k es ≡ Some i → (k ≤ i) × Passes p es (i - k)
passes p k [] i h = absurd cc
passes p k (e ∷ es) i h = passes_by (p e) p k e es i refl h (λ j. passes p (k + 1) es j)

small_of : (ts : List Typing) → are_small ts ≡ true → AreSmall (scales_of ts)
small_of [] h = tt
small_of (t ∷ ts) h = (leb-true t.scale 38 (first_so (nat_le t.scale 38) (are_small ts) h), small_of ts (second_so (nat_le t.scale 38) (are_small ts) h))

row_by : (u : Applied) (ts : List Typing) (t : Typing) (v : Use) → are_small ts ≡ true → use_of u.name ts ≡ Some v → u.row ≡ v.applied.row → u.scales ≡ v.applied.scales → v.typing ≡ t → RowIs u ts t
row_by u ts t v s e r sc g =
    let k = use_is u.name ts v e in
    let p = passes (has u.name (shapes_of ts)) 0 rows v.applied.row k.row in
    let place : v.applied.row - 0 ≡ v.applied.row = omega arith in
    let found : slice_get rows v.applied.row ≡ Some p.1.entry = ap (slice_get rows) (sym place) ∙ p.1.at in
    let h = (has_is u.name (shapes_of ts) p.1.entry).0 p.1.test in
    record {
      entry = p.1.entry;
      at = ap (slice_get rows) r ∙ found;
      name = h.0;
      shapes = h.1;
      result = ap (λ (w : Typing). w.shape) (sym g) ∙ (k.shape ∙ ap result_in found);
      small = subst AreSmall (sym (sc ∙ k.scales)) (small_of ts s);
      args = small_of ts s;
      scale = k.scale ∙ ap (λ (w : Typing). Some w.scale) g;
    }

row_agreed : (b : Bool) (u : Applied) (ts : List Typing) (t : Typing) (v : Use) → ((u.row == v.applied.row) && bytes_eq u.scales v.applied.scales) ≡ b → are_small ts ≡ true → use_of u.name ts ≡ Some v → (if b then Some v.typing else None) ≡ Some t → RowIs u ts t
row_agreed true u ts t v b s e h =
    row_by u ts t v s e (eqb-true u.row v.applied.row (first_so (u.row == v.applied.row) (bytes_eq u.scales v.applied.scales) b)) ((bytes_eq-Decides u.scales v.applied.scales).0 (second_so (u.row == v.applied.row) (bytes_eq u.scales v.applied.scales) b)) (some_is v.typing t h)
row_agreed false u ts t v b s e h = absurd cc

row_found : (o : Option Use) (u : Applied) (ts : List Typing) (t : Typing) → are_small ts ≡ true → use_of u.name ts ≡ o → agreed u o ≡ Some t → RowIs u ts t
row_found None u ts t s e h = absurd cc
row_found (Some v) u ts t s e h = row_agreed ((u.row == v.applied.row) && bytes_eq u.scales v.applied.scales) u ts t v refl s e h

row_small : (b : Bool) (u : Applied) (ts : List Typing) (t : Typing) → are_small ts ≡ b → (if b then agreed u (use_of u.name ts) else None) ≡ Some t → RowIs u ts t
row_small true u ts t s h = row_found (use_of u.name ts) u ts t s refl h
row_small false u ts t s h = absurd cc

pub row_is : (u : Applied) (ts : List Typing) (t : Typing) → typing_of_use u ts ≡ Some t → RowIs u ts t
row_is u ts t h = row_small (are_small ts) u ts t refl h

-- what is applied to arguments that fit gives a value that fits
pub applied_fits : (u : Applied) (ts : List Typing) (t : Typing) (args : List Arg) (v : Arg) → RowIs u ts t → HaveShapes (shapes_of ts) args → AreInRange args → applied u args ≡ Ok v → Fits t v
applied_fits u ts t args v r h g e =
    let fit = results_fit u.row r.entry u.scales args v r.at (subst (λ (ss : List Shape). HaveShapes ss args) (sym r.shapes) h) g (ap (λ (f : FnName). value_of f u.scales args) r.name ∙ e) in
    (subst (λ (s : Shape). HasShape s v) (sym r.result) fit.0, fit.1)
