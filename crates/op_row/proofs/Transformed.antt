-- What sets make of one row.
use Rattle.std.proofs.Common.{◌≡◌, ℕ, zero, suc, Bool, true, false, cond, refl, ap, ◌∙◌, List, [], ◌∷◌, length, Ok, Err, map, arith}
use Rattle.std.specs.Prelude.{Result}
use Rattle.std.specs.List.{AllByRecursion, All}
use Rattle.streams.specs.Streams.{Out, sends, fails}
use Rattle.streams.proofs.Basics.{and_right}
use Rattle.ds_value.specs.declared.value.Value.{Value}
use Rattle.ds_schema.specs.declared.schema.Field.{Field}
use Rattle.ds_schema.specs.Schemas.{row_fits}
use Rattle.op_base.specs.declared.fault.Fault.{Fault}
use Rattle.op_base.specs.Columns.{Row, all_columns}
use Rattle.op_base.specs.RowOperators.{cell, transform_rule}
use Rattle.expr_table.specs.declared.arg.EvalFault.{EvalFault}
use Rattle.expr_table.specs.Meaning.{◌>>=◌}
use Rattle.op_row.specs.declared.setting.Set.{Set}
use Rattle.op_row.specs.ByRow.{made}
use Rattle.op_row.specs.Judging.{fault_kind, row_fault, set_value, set_values, computed_in}
use Rattle.op_row.specs.Expressed.{with_rejects, targets, input_fields, width_after, sets_rule, AreSets, IsSet}
use Rattle.op_row.specs.Setting.{MaySet}

pub fits_length : (fs : List Field) (r : Row) → row_fits fs r ≡ true → length fs ≡ length r
fits_length [] [] e = refl
fits_length [] (v ∷ r) e = absurd (cc)
fits_length (f ∷ fs) [] e = absurd (cc)
fits_length (f ∷ fs) (v ∷ r) e = ap suc (fits_length fs r (and_right _ _ e))

abbrev given : List Set → Bool → Row → Result (List Value) EvalFault → List (Out Row Fault)
given sets rejects r values = made (transform_rule (length (input_fields sets)) (width_after (length (input_fields sets)) (targets sets)) (targets sets) (λ s. computed_in r values) rejects) (with_rejects 1 rejects) r

once : (sets : List Set) (rejects : Bool) (r : Row) → given sets rejects r (set_values r sets) ≡ made (sets_rule sets rejects) (with_rejects 1 rejects) r
once sets true r = refl
once sets false r = refl

pub set_given : (sets : List Set) (rejects : Bool) (r : Row) (values : List Value) → Ok values ≡ set_values r sets → sends 0 (map (cell (targets sets) values r) (all_columns (width_after (length (input_fields sets)) (targets sets)))) ∷ [] ≡ made (sets_rule sets rejects) (with_rejects 1 rejects) r
set_given sets rejects r values e = here rejects ∙ ap (given sets rejects r) e ∙ once sets rejects r
  where
    here : (b : Bool) → sends 0 (map (cell (targets sets) values r) (all_columns (width_after (length (input_fields sets)) (targets sets)))) ∷ [] ≡ given sets b r (Ok values)
    here true = refl
    here false = refl

pub failed_given : (sets : List Set) (rejects : Bool) (r : Row) (why : EvalFault) → Err why ≡ set_values r sets → cond rejects (sends 1 r ∷ []) (fails (row_fault (fault_kind why) r) ∷ []) ≡ made (sets_rule sets rejects) (with_rejects 1 rejects) r
failed_given sets rejects r why e = here rejects ∙ ap (given sets rejects r) e ∙ once sets rejects r
  where
    here : (b : Bool) → cond b (sends 1 r ∷ []) (fails (row_fault (fault_kind why) r) ∷ []) ≡ given sets b r (Err why)
    here true = refl
    here false = refl

-- as many values as sets
then_one : (v : Value) (more : Result (List Value) EvalFault) (n : ℕ) → ((vs : List Value) → Ok vs ≡ more → length vs ≡ n) → (values : List Value) → Ok values ≡ (more >>= λ vs. Ok (v ∷ vs)) → length values ≡ suc n
then_one v (Ok vs) n h values e = (let k : values ≡ v ∷ vs = cc in ap length k) ∙ ap suc (h vs refl)
then_one v (Err why) n h values e = absurd (cc)

then_set : (value : Result Value EvalFault) (more : Result (List Value) EvalFault) (n : ℕ) → ((vs : List Value) → Ok vs ≡ more → length vs ≡ n) → (values : List Value) → Ok values ≡ (value >>= λ v. more >>= λ vs. Ok (v ∷ vs)) → length values ≡ suc n
then_set (Ok v) more n h values e = then_one v more n h values e
then_set (Err why) more n h values e = absurd (cc)

pub values_length : (r : Row) (sets : List Set) (values : List Value) → Ok values ≡ set_values r sets → length values ≡ length sets
values_length r [] values e = let k : values ≡ [] = cc in ap length k
values_length r (set ∷ sets) values e = then_set (set_value r set) (set_values r sets) (length sets) (λ vs f. values_length r sets vs f) values e

each_may : (fields : List Field) (r : Row) (sets : List Set) → row_fits fields r ≡ true → AllByRecursion (IsSet fields) sets → All (MaySet r) sets
each_may fields r [] e h k d lt = absurd (omega arith)
each_may fields r (set ∷ sets) e h zero d lt = record { fits = ap (λ fs. row_fits fs r) h.0.typed ∙ e; kind = h.0.kind; assignable = h.0.assignable }
each_may fields r (set ∷ sets) e h (suc k) d lt = each_may fields r sets e h.1 k d (omega arith)

pub all_may : (r : Row) (sets : List Set) → AreSets sets → row_fits (input_fields sets) r ≡ true → All (MaySet r) sets
all_may r sets s e = each_may (input_fields sets) r sets e s.each
