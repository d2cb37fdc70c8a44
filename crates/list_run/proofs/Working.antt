-- What operators by rows emit is what their rules say, output by output, and their faults.
use Rattle.std.proofs.Common.{◌≡◌, ◌≢◌, ℕ, zero, suc, ◌+◌, ◌<◌, ◌≤◌, Bool, true, false, cond, List, [], ◌∷◌, ◌++◌, map, length, refl, sym, ap, ap₂, ◌∙◌, subst, arith}
use Rattle.std.specs.Prelude.{ℤ, Result, Ok, Err, nat_lt, if◌then◌else◌, ⊤}
use Rattle.std.specs.Result.{IfOk}
use Rattle.std.proofs.lemmas.Result.{IfOk-weaker}
use Rattle.std.specs.Ordering.{int_eq}
use Rattle.std.specs.List.{flat_map}
use Rattle.std.proofs.lemmas.Bool.Decides.{nat_tests}
use Rattle.streams.specs.Streams.{Out, Gives, emits, on}
use Rattle.streams.proofs.StreamLaws.{eq_false}
use Rattle.ds_value.specs.declared.value.Value.{Value}
use Rattle.ds_expr.specs.Typed.{TypedTree}
use Rattle.ds_expr.specs.Values.{value_in}
use Rattle.expr_table.specs.declared.arg.Arg.{Arg}
use Rattle.expr_table.specs.declared.arg.Arg.TheVariants.{Null, Num, Text, Date, Truth}
use Rattle.expr_table.specs.declared.arg.EvalFault.{EvalFault}
use Rattle.op_base.specs.declared.fault.Fault.{Fault}
use Rattle.op_base.specs.declared.emit.Emit.{Emit}
use Rattle.op_base.specs.Columns.{Row}
use Rattle.op_base.specs.Meanings.{input}
use Rattle.op_base.specs.RowOperators.{RowRule, filter_rule, switch_rule, modify_rule, judged_faults, Case, case, other, case_fails, case_rows, case_faults, failed_faults, if_no, failed_rows}
use Rattle.op_base.specs.Standing.{RowStream}
use Rattle.op_base.specs.WholeLists.{HasEmitted, list_feeds}
use Rattle.op_row.specs.ByRow.{by_row}
use Rattle.op_row.proofs.Means.{rows-alone}
use Rattle.op_row.specs.declared.setting.Set.{Set}
use Rattle.op_row.specs.Expressed.{sets_rule, with_rejects}
use Rattle.op_row.specs.Judging.{judged, verdict, case_of, case_in, case_at, compute, computed_in, set_values}
use Rattle.op_row.specs.Laws.{Means}
use Rattle.flow_graph.specs.declared.op_kind.OpKind.{OpKind}
use Rattle.flow_graph.specs.declared.op_kind.OpKind.TheVariants as kind
use Rattle.flow_graph.specs.declared.op_kind.SetSpec.{SetSpec}
use Rattle.flow_graph.specs.declared.parts.OpParts.{OpParts}
use Rattle.flow_graph.specs.RowRules.{at_op, first_expr, sets_of}
use Rattle.list_run.specs.Found.{AreUnnumbered}
use Rattle.list_run.specs.Worked.{HasWorked, Works, place_of}

flat_none : (f : Row → List Row) (rows : List Row) → ((r : Row) → f r ≡ []) → [] ≡ flat_map f rows
flat_none f [] h = refl
flat_none f (r ∷ rows) h = flat_none f rows h ∙ ap (λ t. t ++ flat_map f rows) (sym (h r))

flat_same : (f g : Row → List Row) (rows : List Row) → ((r : Row) → f r ≡ g r) → flat_map f rows ≡ flat_map g rows
flat_same f g [] h = refl
flat_same f g (r ∷ rows) h = ap₂ (λ a b. a ++ b) (h r) (flat_same f g rows h)

map_append : (o : ℕ) (fs gs : List Fault) → map (at_op o) (fs ++ gs) ≡ map (at_op o) fs ++ map (at_op o) gs
map_append o [] gs = refl
map_append o (f ∷ fs) gs = ap (λ t. at_op o f ∷ t) (map_append o fs gs)

map_flat : (o : ℕ) (g : Row → List Fault) (rows : List Row) → map (at_op o) (flat_map g rows) ≡ flat_map (λ r. map (at_op o) (g r)) rows
map_flat o g [] = refl
map_flat o g (r ∷ rows) = map_append o (g r) (flat_map g rows) ∙ ap (λ t. map (at_op o) (g r) ++ t) (map_flat o g rows)

with_unnumbered : (fs gs : List Fault) → AreUnnumbered fs → AreUnnumbered gs → AreUnnumbered (fs ++ gs)
with_unnumbered [] gs h k = k
with_unnumbered (f ∷ fs) gs h k = (h.0, with_unnumbered fs gs h.1 k)

flat_unnumbered : (g : Row → List Fault) → ((r : Row) → AreUnnumbered (g r)) → (rows : List Row) → AreUnnumbered (flat_map g rows)
flat_unnumbered g h [] = tt
flat_unnumbered g h (r ∷ rows) = with_unnumbered (g r) (flat_map g rows) (h r) (flat_unnumbered g h rows)

-- a whole list, fed to the operator of a rule
pub is_work : (rule : RowRule) (outs : ℕ) (rows : List Row) (emit : Emit) (s : RowStream) → s ≡ by_row rule outs → HasEmitted emit (emits s (list_feeds rows)) → Gives s (λ i. rows) (emits s (list_feeds rows)) → Works rule outs rows emit
is_work rule outs rows emit s e has gives = record {
  given = emits s (list_feeds rows);
  emitted = has;
  means = rows-alone rule outs (λ i. rows) (emits s (list_feeds rows)) (subst (λ (z : RowStream). Gives z (λ i. rows) (emits s (list_feeds rows))) e gives);
}

-- a rule with a second output, which has rows with -reject alone
two_outputs : (rule : RowRule) (reject : Bool) (rest : Row → List Row) → ((q : ℕ) (r : Row) → rule.rows (suc q) r ≡ cond reject (rest r) []) → (rows : List Row) (given : List (Out Row Fault)) → Means rule (with_rejects 1 reject) rows given →
    (q : ℕ) → on (place_of 2 q) given ≡ flat_map (rule.rows q) rows
two_outputs rule reject rest is rows given m zero = m.rows_are 0 (some reject)
  where
    some : (b : Bool) → 0 < with_rejects 1 b
    some true = omega arith
    some false = omega arith
two_outputs rule true rest is rows given m (suc q) = ap (λ p. on p given) (last q) ∙ m.rows_are 1 (omega arith) ∙ flat_same (rule.rows 1) (rule.rows (suc q)) rows (λ r. is 0 r ∙ sym (is q r))
  where
    last : (q : ℕ) → place_of 2 (suc q) ≡ 1
    last q = omega arith
two_outputs rule false rest is rows given m (suc q) = ap (λ p. on p given) (last q) ∙ m.no_more 1 (omega arith) ∙ flat_none (rule.rows (suc q)) rows (λ r. is q r)
  where
    last : (q : ℕ) → place_of 2 (suc q) ≡ 1
    last q = omega arith

few : (reject : Bool) (q : ℕ) → 2 ≤ q → with_rejects 1 reject ≤ q
few true q l = omega (arith, l)
few false q l = omega (arith, l)

-- filter
judged_unnumbered : (r : Row) (x : Result Arg EvalFault) → AreUnnumbered (judged_faults (verdict r x))
judged_unnumbered r (Ok Null) = tt
judged_unnumbered r (Ok (Num z)) = tt
judged_unnumbered r (Ok (Text t)) = tt
judged_unnumbered r (Ok (Date d)) = tt
judged_unnumbered r (Ok (Truth true)) = tt
judged_unnumbered r (Ok (Truth false)) = tt
judged_unnumbered r (Err why) = (refl, tt)

pub filter_worked : (test : List ℕ) (reject : Bool) (parts : OpParts) (widths : List ℕ) (lists : List (List Row)) (emit : Emit) → Works (filter_rule (judged (first_expr parts)) reject) (with_rejects 1 reject) (input 0 lists) emit → HasWorked (kind.Filter test reject) parts widths lists emit
filter_worked test reject parts widths lists emit w =
    let rows = input 0 lists in
    let rule = filter_rule (judged (first_expr parts)) reject in
    record {
      given = w.given;
      emitted = w.emitted;
      rows_are = λ o q. two_outputs rule reject (λ r. if_no (judged (first_expr parts) r) r) (λ q r. refl) rows w.given w.means q;
      no_more = λ q l. w.means.no_more q (few reject q l);
      faults_are = λ o. ap (map (at_op o)) w.means.faults_are ∙ map_flat o rule.faults rows;
      unnumbered = subst AreUnnumbered (sym w.means.faults_are) (flat_unnumbered rule.faults (λ r. judged_unnumbered r (value_in r (first_expr parts).node)) rows);
    }

-- transform
failed_unnumbered : (reject : Bool) (r : Row) (x : Result (List Value) EvalFault) → AreUnnumbered (failed_faults reject (computed_in r x))
failed_unnumbered reject r (Ok values) = tt
failed_unnumbered true r (Err why) = tt
failed_unnumbered false r (Err why) = (refl, tt)

pub transform_worked : (set : List SetSpec) (reject : Bool) (parts : OpParts) (widths : List ℕ) (lists : List (List Row)) (emit : Emit) → Works (sets_rule (sets_of set parts.cols parts.exprs) reject) (with_rejects 1 reject) (input 0 lists) emit → HasWorked (kind.Transform set reject) parts widths lists emit
transform_worked set reject parts widths lists emit w =
    let rows = input 0 lists in
    let sets = sets_of set parts.cols parts.exprs in
    let rule = sets_rule sets reject in
    record {
      given = w.given;
      emitted = w.emitted;
      rows_are = λ o q. two_outputs rule reject (λ r. failed_rows (compute sets r) r) (λ q r. refl) rows w.given w.means q;
      no_more = λ q l. w.means.no_more q (few reject q l);
      faults_are = λ o. ap (map (at_op o)) w.means.faults_are ∙ map_flat o rule.faults rows;
      unnumbered = subst AreUnnumbered (sym w.means.faults_are) (flat_unnumbered rule.faults (λ r. failed_unnumbered reject r (set_values r sets)) rows);
    }

-- modify
pub modify_worked : (keep drop : List (List ℕ)) (rename : List (List ℕ × List ℕ)) (parts : OpParts) (widths : List ℕ) (lists : List (List Row)) (emit : Emit) → Works (modify_rule parts.cols) 1 (input 0 lists) emit → HasWorked (kind.Modify keep drop rename) parts widths lists emit
modify_worked keep drop rename parts widths lists emit w =
    let rows = input 0 lists in
    let rule = modify_rule parts.cols in
    record {
      given = w.given;
      emitted = w.emitted;
      rows_are = λ o q. ap (λ p. on p w.given) (first q) ∙ w.means.rows_are 0 (omega arith) ∙ flat_same (rule.rows 0) (rule.rows q) rows (λ r. refl);
      no_more = λ q l. w.means.no_more q l;
      faults_are = λ o. ap (map (at_op o)) w.means.faults_are ∙ map_flat o rule.faults rows;
      unnumbered = subst AreUnnumbered (sym w.means.faults_are) (flat_unnumbered rule.faults (λ r. tt) rows);
    }
  where
    first : (q : ℕ) → place_of 1 q ≡ 0
    first q = omega arith

-- switch
abbrev IsBelow : ℕ → Case → Type 0
IsBelow n (case i) = i < n
IsBelow n other = ⊤
IsBelow n (case_fails f) = ⊤

at_below : (z : ℤ) (i n : ℕ) (cases : List ℤ) → i + length cases ≤ n → IsBelow n (case_at z i cases)
at_below z i n [] l = tt
at_below z i n (c ∷ cases) l = go (int_eq c z) (at_below z (i + 1) n cases (omega (arith, l)))
  where
    go : (b : Bool) → IsBelow n (case_at z (i + 1) cases) → IsBelow n (if b then case i else case_at z (i + 1) cases)
    go true h = omega (arith, l)
    go false h = h

in_below : (cases : List ℤ) (r : Row) (x : Result Arg EvalFault) → IsBelow (length cases) (case_in cases r x)
in_below cases r (Ok Null) = tt
in_below cases r (Ok (Num z)) = at_below z 0 (length cases) cases (omega arith)
in_below cases r (Ok (Text t)) = tt
in_below cases r (Ok (Date d)) = tt
in_below cases r (Ok (Truth b)) = tt
in_below cases r (Err why) = tt

behind : (n : ℕ) (reject : Bool) (q : ℕ) → with_rejects n reject ≤ q → (c : Case) → IsBelow n c → (r : Row) → case_rows n reject c q r ≡ []
behind n reject q l (case i) h r = ap (λ b. cond b (r ∷ []) []) (eq_false i q (differs reject l))
  where
    differs : (b : Bool) → with_rejects n b ≤ q → i ≢ q
    differs true l e = absurd (omega (arith, l, h, e))
    differs false l e = absurd (omega (arith, l, h, e))
behind n true q l other h r = ap (λ b. cond b (r ∷ []) []) (eq_false n q (λ e. absurd (omega (arith, l, e))))
behind n false q l other h r = refl
behind n reject q l (case_fails f) h r = refl

at_faultless : (z : ℤ) (i : ℕ) (cases : List ℤ) → case_faults (case_at z i cases) ≡ []
at_faultless z i [] = refl
at_faultless z i (c ∷ cases) = go (int_eq c z) (at_faultless z (i + 1) cases)
  where
    go : (b : Bool) → case_faults (case_at z (i + 1) cases) ≡ [] → case_faults (if b then case i else case_at z (i + 1) cases) ≡ []
    go true h = refl
    go false h = h

case_unnumbered : (cases : List ℤ) (r : Row) (x : Result Arg EvalFault) → AreUnnumbered (case_faults (case_in cases r x))
case_unnumbered cases r (Ok Null) = tt
case_unnumbered cases r (Ok (Num z)) = subst AreUnnumbered (sym (at_faultless z 0 cases)) tt
case_unnumbered cases r (Ok (Text t)) = tt
case_unnumbered cases r (Ok (Date d)) = tt
case_unnumbered cases r (Ok (Truth b)) = tt
case_unnumbered cases r (Err why) = (refl, tt)

case_outputs : (n : ℕ) (reject : Bool) (on_row : Row → Case) → ((r : Row) → IsBelow n (on_row r)) → (rows : List Row) (given : List (Out Row Fault)) → Means (switch_rule n on_row reject) (with_rejects n reject) rows given →
    (q : ℕ) → on (place_of (n + 2) q) given ≡ flat_map ((switch_rule n on_row reject).rows q) rows
case_outputs n reject on_row low rows given m q = go (nat_lt q (with_rejects n reject)) refl
  where
    there : (b : Bool) → nat_lt q (with_rejects n b) ≡ true → (place_of (n + 2) q ≡ q) × (q < with_rejects n b)
    there true e = (grind (arith, nat_tests), grind (arith, nat_tests))
    there false e = (grind (arith, nat_tests), grind (arith, nat_tests))

    past : (b : Bool) → nat_lt q (with_rejects n b) ≡ false → (with_rejects n b ≤ place_of (n + 2) q) × (with_rejects n b ≤ q)
    past true e = (grind (arith, nat_tests), grind (arith, nat_tests))
    past false e = (grind (arith, nat_tests), grind (arith, nat_tests))

    go : (t : Bool) → nat_lt q (with_rejects n reject) ≡ t → on (place_of (n + 2) q) given ≡ flat_map ((switch_rule n on_row reject).rows q) rows
    go true e = let k = there reject e in ap (λ p. on p given) k.0 ∙ m.rows_are q k.1
    go false e = let k = past reject e in m.no_more (place_of (n + 2) q) k.0 ∙ flat_none ((switch_rule n on_row reject).rows q) rows (λ r. behind n reject q k.1 (on_row r) (low r) r)

pub switch_worked : (on_text : List ℕ) (cases : List ℤ) (reject : Bool) (parts : OpParts) (widths : List ℕ) (lists : List (List Row)) (emit : Emit) → Works (switch_rule (length cases) (case_of (first_expr parts) cases) reject) (with_rejects (length cases) reject) (input 0 lists) emit → HasWorked (kind.Switch on_text cases reject) parts widths lists emit
switch_worked on_text cases reject parts widths lists emit w =
    let rows = input 0 lists in
    let rule = switch_rule (length cases) (case_of (first_expr parts) cases) reject in
    record {
      given = w.given;
      emitted = w.emitted;
      rows_are = λ o q. case_outputs (length cases) reject (case_of (first_expr parts) cases) (λ r. in_below cases r (value_in r (first_expr parts).node)) rows w.given w.means q;
      no_more = λ q l. w.means.no_more q (fewer reject q l);
      faults_are = λ o. ap (map (at_op o)) w.means.faults_are ∙ map_flat o rule.faults rows;
      unnumbered = subst AreUnnumbered (sym w.means.faults_are) (flat_unnumbered rule.faults (λ r. case_unnumbered cases r (value_in r (first_expr parts).node)) rows);
    }
  where
    fewer : (b : Bool) (q : ℕ) → length cases + 2 ≤ q → with_rejects (length cases) b ≤ q
    fewer true q l = omega (arith, l)
    fewer false q l = omega (arith, l)

-- the same of an answer, where the kind is known
pub filter_does : {E : Type 0} (k : OpKind) (test : List ℕ) (reject : Bool) (parts : OpParts) (t : TypedTree) (widths : List ℕ) (lists : List (List Row)) (rows : List Row) (r : Result Emit E) → rows ≡ input 0 lists → k ≡ kind.Filter test reject → t ≡ first_expr parts →
    IfOk r (λ emit. Works (filter_rule (judged t) reject) (with_rejects 1 reject) rows emit) → IfOk r (λ emit. HasWorked k parts widths lists emit)
filter_does k test reject parts t widths lists rows r same known e h =
    IfOk-weaker r (λ emit. Works (filter_rule (judged t) reject) (with_rejects 1 reject) rows emit) (λ emit. HasWorked k parts widths lists emit)
    (λ emit w. subst (λ k. HasWorked k parts widths lists emit) (sym known) (filter_worked test reject parts widths lists emit (subst (λ (rs : List Row). Works (filter_rule (judged (first_expr parts)) reject) (with_rejects 1 reject) rs emit) same (subst (λ (t : TypedTree). Works (filter_rule (judged t) reject) (with_rejects 1 reject) rows emit) e w)))) h

pub transform_does : {E : Type 0} (k : OpKind) (set : List SetSpec) (reject : Bool) (parts : OpParts) (sets : List Set) (widths : List ℕ) (lists : List (List Row)) (rows : List Row) (r : Result Emit E) → rows ≡ input 0 lists → k ≡ kind.Transform set reject → sets ≡ sets_of set parts.cols parts.exprs →
    IfOk r (λ emit. Works (sets_rule sets reject) (with_rejects 1 reject) rows emit) → IfOk r (λ emit. HasWorked k parts widths lists emit)
transform_does k set reject parts sets widths lists rows r same known e h =
    IfOk-weaker r (λ emit. Works (sets_rule sets reject) (with_rejects 1 reject) rows emit) (λ emit. HasWorked k parts widths lists emit)
    (λ emit w. subst (λ k. HasWorked k parts widths lists emit) (sym known) (transform_worked set reject parts widths lists emit (subst (λ (rs : List Row). Works (sets_rule (sets_of set parts.cols parts.exprs) reject) (with_rejects 1 reject) rs emit) same (subst (λ (s : List Set). Works (sets_rule s reject) (with_rejects 1 reject) rows emit) e w)))) h

pub modify_does : {E : Type 0} (k : OpKind) (keep drop : List (List ℕ)) (rename : List (List ℕ × List ℕ)) (parts : OpParts) (widths : List ℕ) (lists : List (List Row)) (rows : List Row) (r : Result Emit E) → rows ≡ input 0 lists → k ≡ kind.Modify keep drop rename →
    IfOk r (λ emit. Works (modify_rule parts.cols) 1 rows emit) → IfOk r (λ emit. HasWorked k parts widths lists emit)
modify_does k keep drop rename parts widths lists rows r same known h =
    IfOk-weaker r (λ emit. Works (modify_rule parts.cols) 1 rows emit) (λ emit. HasWorked k parts widths lists emit)
    (λ emit w. subst (λ k. HasWorked k parts widths lists emit) (sym known) (modify_worked keep drop rename parts widths lists emit (subst (λ (rs : List Row). Works (modify_rule parts.cols) 1 rs emit) same w))) h

pub switch_does : {E : Type 0} (k : OpKind) (text : List ℕ) (cases : List ℤ) (reject : Bool) (parts : OpParts) (t : TypedTree) (widths : List ℕ) (lists : List (List Row)) (rows : List Row) (r : Result Emit E) → rows ≡ input 0 lists → k ≡ kind.Switch text cases reject → t ≡ first_expr parts →
    IfOk r (λ emit. Works (switch_rule (length cases) (case_of t cases) reject) (with_rejects (length cases) reject) rows emit) → IfOk r (λ emit. HasWorked k parts widths lists emit)
switch_does k text cases reject parts t widths lists rows r same known e h =
    IfOk-weaker r (λ emit. Works (switch_rule (length cases) (case_of t cases) reject) (with_rejects (length cases) reject) rows emit) (λ emit. HasWorked k parts widths lists emit)
    (λ emit w. subst (λ k. HasWorked k parts widths lists emit) (sym known) (switch_worked text cases reject parts widths lists emit (subst (λ (rs : List Row). Works (switch_rule (length cases) (case_of (first_expr parts) cases) reject) (with_rejects (length cases) reject) rs emit) same (subst (λ (t : TypedTree). Works (switch_rule (length cases) (case_of t cases) reject) (with_rejects (length cases) reject) rows emit) e w)))) h
