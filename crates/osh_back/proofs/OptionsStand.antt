-- The options that are printed of an operator stand together, and none that it must have lacks.
use Rattle.std.proofs.Common.{◌≡◌, ◌≤◌, inl, inr, ℕ, List, [], ◌∷◌, ◌++◌, length, map, Bool, true, false, Option, Some, None, refl, ap, ◌∙◌, arith, ◌+◌}
use Rattle.std.specs.Prelude.{if◌then◌else◌, ◌==◌, ◌||◌}
use Rattle.std.specs.List.{AllByRecursion}
use Rattle.std.proofs.lemmas.Bool.{eq-eqb}
use Rattle.std.proofs.lemmas.List.Folds.{list_any-append}
use Rattle.op_base.specs.declared.missing.Missing.TheVariants as missing
use Rattle.flow_graph.specs.declared.op_kind.SetSpec.{SetSpec}
use Rattle.flow_graph.specs.declared.op_kind.AggSpec.{AggSpec}
use Rattle.flow_graph.specs.declared.op_kind.OpKind.{OpKind}
use Rattle.flow_graph.specs.declared.op_kind.OpKind.TheVariants as kind
use Rattle.osh_table.specs.declared.operator.OpName.{OpName}
use Rattle.osh_table.specs.declared.operator.OpName.TheVariants as op
use Rattle.osh_table.specs.declared.option.OptName.TheVariants as opt
use Rattle.osh_table.specs.declared.option.OptRow.{OptRow}
use Rattle.osh_table.specs.declared.option.Form.TheVariants as form
use Rattle.osh_table.specs.Options.{keyed}
use Rattle.osh_value.specs.declared.value.OptValue.TheVariants as value
use Rattle.osh_value.specs.declared.setting.Setting.{Setting}
use Rattle.osh_read.specs.Options.{has_group}
use Rattle.osh_print.specs.OptionText.{name_of}
use Rattle.osh_sound.specs.Grammar.{WrittenOption, setting_of, StandTogether, Among, AreComplete}
use Rattle.osh_sound.specs.OperatorLaws.{one, flag_of, widths_of, keys_of, columns_of, missing_of, result_of, set_of, written}
use Rattle.osh_sound.specs.ValueLaws.{AreKeys}
use Rattle.osh_back.specs.Spelled.{FormFits, KindFits}

-- ---- none lacks

no : false ≡ true → ⊥
no e = absurd cc

key_among : (key : List (List ℕ × Bool)) (ws : List WrittenOption) → AreKeys key → Among opt.Key (keys_of opt.Key true 1 key ++ ws)
key_among [] ws h = absurd (let s = h.some in omega arith)
key_among (k ∷ key) ws h = inl refl

key_alone : (key : List (List ℕ × Bool)) → AreKeys key → Among opt.Key (keys_of opt.Key true 1 key)
key_alone [] h = absurd (let s = h.some in omega arith)
key_alone (k ∷ key) h = inl refl

modify_some : (keep drop : List (List ℕ)) (rename : List (List ℕ × List ℕ)) → 1 ≤ length keep + length drop + length rename → 1 ≤ length (written (kind.Modify keep drop rename))
modify_some (k ∷ keep) drop rename h = omega arith
modify_some [] (d ∷ drop) rename h = omega arith
modify_some [] [] (p ∷ rename) h = omega arith
modify_some [] [] [] h = absurd (omega arith)

keyed_complete : (o : OpName) (key : List (List ℕ × Bool)) → AreKeys key → AllByRecursion (λ (r : OptRow). r.required ≡ true → Among r.opt (keys_of opt.Key true 1 key)) keyed
keyed_complete o key h = ((λ e. key_alone key h), tt)

pub all_complete : (k : OpKind) → KindFits k → AreComplete (name_of k) (written k)
all_complete (kind.Import file schema delim fixed reject) h = record { required = ((λ e. inl refl), ((λ e. inr (inl refl)), ((λ e. absurd (no e)), ((λ e. absurd (no e)), ((λ e. absurd (no e)), tt))))); some = λ e. absurd (no e) }
all_complete (kind.Export file delim fixed) h = record { required = ((λ e. inl refl), ((λ e. absurd (no e)), ((λ e. absurd (no e)), tt))); some = λ e. absurd (no e) }
all_complete (kind.Dsread ds) h = record { required = ((λ e. inl refl), tt); some = λ e. absurd (no e) }
all_complete (kind.Dswrite ds) h = record { required = ((λ e. inl refl), tt); some = λ e. absurd (no e) }
all_complete kind.Copy h = record { required = tt; some = λ e. absurd (no e) }
all_complete (kind.Filter test reject) h = record { required = ((λ e. inl refl), ((λ e. absurd (no e)), tt)); some = λ e. absurd (no e) }
all_complete (kind.Transform [] reject) h = absurd (omega (arith, h.0))
all_complete (kind.Transform (s ∷ set) reject) h = record { required = ((λ e. inl refl), ((λ e. absurd (no e)), tt)); some = λ e. absurd (no e) }
all_complete (kind.Switch on cases reject) h = record { required = ((λ e. inl refl), ((λ e. inr (inl refl)), ((λ e. absurd (no e)), tt))); some = λ e. absurd (no e) }
all_complete (kind.Modify keep drop rename) h = record { required = ((λ e. absurd (no e)), ((λ e. absurd (no e)), ((λ e. absurd (no e)), tt))); some = λ e. modify_some keep drop rename h.2 }
all_complete (kind.Tsort key) h = record { required = keyed_complete op.Tsort key h; some = λ e. absurd (no e) }
all_complete (kind.Remdup key last) h = record { required = ((λ e. key_among key (flag_of opt.Last 2 last) h), ((λ e. absurd (no e)), tt)); some = λ e. absurd (no e) }
all_complete (kind.Group key hash results) h = record {
  required = ((λ e. absurd (no e)), ((λ e. absurd (no e)), ((λ e. absurd (no e)), ((λ e. absurd (no e)), ((λ e. absurd (no e)), ((λ e. absurd (no e)), ((λ e. absurd (no e)), ((λ e. absurd (no e)), tt))))))));
  some = λ e. absurd (no e);
}
all_complete (kind.InnerJoin key) h = record { required = keyed_complete op.InnerJoin key h; some = λ e. absurd (no e) }
all_complete (kind.LeftOuterJoin key) h = record { required = keyed_complete op.LeftOuterJoin key h; some = λ e. absurd (no e) }
all_complete (kind.RightOuterJoin key) h = record { required = keyed_complete op.RightOuterJoin key h; some = λ e. absurd (no e) }
all_complete (kind.FullOuterJoin key) h = record { required = keyed_complete op.FullOuterJoin key h; some = λ e. absurd (no e) }
all_complete (kind.Merge key keepbad reject) h = record { required = ((λ e. key_among key (flag_of opt.Keepbad 2 keepbad ++ flag_of opt.Reject 3 reject) h), ((λ e. absurd (no e)), ((λ e. absurd (no e)), tt))); some = λ e. absurd (no e) }
all_complete (kind.Lookup key m) h = record { required = ((λ e. key_among key (missing_of m) h), ((λ e. absurd (no e)), tt)); some = λ e. absurd (no e) }
all_complete (kind.Changecapture key values keepcopy) h = record { required = ((λ e. key_among key (columns_of opt.Values 2 values ++ flag_of opt.Keepcopy 3 keepcopy) h.0), ((λ e. absurd (no e)), ((λ e. absurd (no e)), tt))); some = λ e. absurd (no e) }
all_complete (kind.Funnel sequence sort) h = record { required = ((λ e. absurd (no e)), ((λ e. absurd (no e)), tt)); some = λ e. absurd (no e) }

-- ---- none excludes another

results_together : (before : List Setting) (rs : List AggSpec) → StandTogether before (map result_of rs)
results_together before [] = tt
results_together before (r ∷ rs) = (refl, results_together (before ++ setting_of (result_of r) ∷ []) rs)

import_together : (file : List ℕ) (schema : _) (delim : ℕ) (fixed : Option (List ℕ)) (reject b : Bool) → (delim == 44) ≡ b → FormFits delim fixed
    → StandTogether [] (one opt.File form.File true 1 (value.Name file) ∷ one opt.Schema form.Schema true 2 (value.Schema schema) ∷ ((if b then [] else one opt.Delim form.Delim false 3 (value.Delim delim) ∷ []) ++ (widths_of 3 fixed ++ flag_of opt.Reject 4 reject)))
import_together file schema delim None true true e h = (refl, (refl, (refl, tt)))
import_together file schema delim None false true e h = (refl, (refl, tt))
import_together file schema delim None true false e h = (refl, (refl, (refl, (refl, tt))))
import_together file schema delim None false false e h = (refl, (refl, (refl, tt)))
import_together file schema delim (Some ws) true true e h = (refl, (refl, (refl, (refl, tt))))
import_together file schema delim (Some ws) false true e h = (refl, (refl, (refl, tt)))
import_together file schema delim (Some ws) reject false e h = absurd (let k : (delim == 44) ≡ true = eq-eqb delim 44 h.0 in cc)

export_together : (file : List ℕ) (delim : ℕ) (fixed : Option (List ℕ)) (b : Bool) → (delim == 44) ≡ b → FormFits delim fixed
    → StandTogether [] (one opt.File form.File true 1 (value.Name file) ∷ ((if b then [] else one opt.Delim form.Delim false 2 (value.Delim delim) ∷ []) ++ widths_of 2 fixed))
export_together file delim None true e h = (refl, tt)
export_together file delim None false e h = (refl, (refl, tt))
export_together file delim (Some ws) true e h = (refl, (refl, tt))
export_together file delim (Some ws) false e h = absurd (let k : (delim == 44) ≡ true = eq-eqb delim 44 h.0 in cc)

modify_together : (keep drop : List (List ℕ)) (rename : List (List ℕ × List ℕ)) → KindFits (kind.Modify keep drop rename) → StandTogether [] (written (kind.Modify keep drop rename))
modify_together [] [] [] h = tt
modify_together [] [] (p ∷ ps) h = (refl, tt)
modify_together [] (d ∷ ds) [] h = (refl, tt)
modify_together [] (d ∷ ds) (p ∷ ps) h = (refl, (refl, tt))
modify_together (k ∷ ks) [] [] h = (refl, tt)
modify_together (k ∷ ks) [] (p ∷ ps) h = (refl, (refl, tt))
modify_together (k ∷ ks) (d ∷ ds) rename h = absurd (let e = h.0.1 in cc)

group_together : (key : List (List ℕ × Bool)) (hash : Bool) (rs : List AggSpec) → StandTogether [] (written (kind.Group key hash rs))
group_together [] true rs = (refl, results_together _ rs)
group_together [] false rs = results_together [] rs
group_together (k ∷ ks) true rs = (refl, (refl, results_together _ rs))
group_together (k ∷ ks) false rs = (refl, results_together _ rs)

-- sets exclude nothing
sets_together : (before : List Setting) (set : List SetSpec) (reject : Bool) → has_group before 1 ≡ false → StandTogether before (map set_of set ++ flag_of opt.Reject 1 reject)
sets_together before [] true h = (h, tt)
sets_together before [] false h = tt
sets_together before (s ∷ set) reject h =
    let more : has_group (before ++ setting_of (set_of s) ∷ []) 1 ≡ false = list_any-append (λ (x : Setting). x.group == 1) before (setting_of (set_of s) ∷ []) ∙ ap (λ b. b || false) h in
    (refl, sets_together (before ++ setting_of (set_of s) ∷ []) set reject more)

pub stand_together : (k : OpKind) → KindFits k → StandTogether [] (written k)
stand_together (kind.Import file schema delim fixed reject) h = import_together file schema delim fixed reject (delim == 44) refl h.2
stand_together (kind.Export file delim fixed) h = export_together file delim fixed (delim == 44) refl h.1
stand_together (kind.Dsread ds) h = (refl, tt)
stand_together (kind.Dswrite ds) h = (refl, tt)
stand_together kind.Copy h = tt
stand_together (kind.Filter test true) h = (refl, (refl, tt))
stand_together (kind.Filter test false) h = (refl, tt)
stand_together (kind.Transform set reject) h = sets_together [] set reject refl
stand_together (kind.Switch on cases true) h = (refl, (refl, (refl, tt)))
stand_together (kind.Switch on cases false) h = (refl, (refl, tt))
stand_together (kind.Modify keep drop rename) h = modify_together keep drop rename h
stand_together (kind.Tsort []) h = tt
stand_together (kind.Tsort (k ∷ ks)) h = (refl, tt)
stand_together (kind.Remdup [] true) h = (refl, tt)
stand_together (kind.Remdup [] false) h = tt
stand_together (kind.Remdup (k ∷ ks) true) h = (refl, (refl, tt))
stand_together (kind.Remdup (k ∷ ks) false) h = (refl, tt)
stand_together (kind.Group key hash results) h = group_together key hash results
stand_together (kind.InnerJoin []) h = tt
stand_together (kind.InnerJoin (k ∷ ks)) h = (refl, tt)
stand_together (kind.LeftOuterJoin []) h = tt
stand_together (kind.LeftOuterJoin (k ∷ ks)) h = (refl, tt)
stand_together (kind.RightOuterJoin []) h = tt
stand_together (kind.RightOuterJoin (k ∷ ks)) h = (refl, tt)
stand_together (kind.FullOuterJoin []) h = tt
stand_together (kind.FullOuterJoin (k ∷ ks)) h = (refl, tt)
stand_together (kind.Merge [] keepbad reject) h = absurd (let s = h.some in omega arith)
stand_together (kind.Merge (k ∷ ks) true true) h = (refl, (refl, (refl, tt)))
stand_together (kind.Merge (k ∷ ks) true false) h = (refl, (refl, tt))
stand_together (kind.Merge (k ∷ ks) false true) h = (refl, (refl, tt))
stand_together (kind.Merge (k ∷ ks) false false) h = (refl, tt)
stand_together (kind.Lookup [] m) h = absurd (let s = h.some in omega arith)
stand_together (kind.Lookup (k ∷ ks) missing.Continue) h = (refl, (refl, tt))
stand_together (kind.Lookup (k ∷ ks) missing.Drop) h = (refl, (refl, tt))
stand_together (kind.Lookup (k ∷ ks) missing.Fail) h = (refl, tt)
stand_together (kind.Lookup (k ∷ ks) missing.Reject) h = (refl, (refl, tt))
stand_together (kind.Changecapture [] values keepcopy) h = absurd (let s = h.0.some in omega arith)
stand_together (kind.Changecapture (k ∷ ks) [] true) h = (refl, (refl, tt))
stand_together (kind.Changecapture (k ∷ ks) [] false) h = (refl, tt)
stand_together (kind.Changecapture (k ∷ ks) (v ∷ vs) true) h = (refl, (refl, (refl, tt)))
stand_together (kind.Changecapture (k ∷ ks) (v ∷ vs) false) h = (refl, (refl, tt))
stand_together (kind.Funnel true []) h = (refl, tt)
stand_together (kind.Funnel true (k ∷ ks)) h = absurd cc
stand_together (kind.Funnel false []) h = tt
stand_together (kind.Funnel false (k ∷ ks)) h = (refl, tt)
