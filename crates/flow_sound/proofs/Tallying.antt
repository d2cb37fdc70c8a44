-- The faults of a run are those of its imports, of the operators between and of its exports, in whatever order they are counted.
use Rattle.std.proofs.Common.{◌≡◌, ℕ, ◌+◌, ◌==◌, Bool, true, cond, List, [], ◌∷◌, ◌++◌, append-nil, append_assoc, count_by, map, refl, sym, ap, ◌∙◌, subst, arith, length, flat_map, get_or, IsPermutation}
use Rattle.std.specs.List.{AllByRecursion, range_with_len}
use Rattle.std.proofs.lemmas.Bool.Decides.{nat_tests}
use Rattle.std.proofs.lemmas.Grind.{flat_map-append}
use Rattle.std.proofs.lemmas.List.Folds.{flat_map-map}
use Rattle.std.proofs.lemmas.List.Sorted.{IsPermutation-append_comm, IsPermutation-append_left, IsPermutation-append_right, IsPermutation-refl, IsPermutation-trans}
use Rattle.op_base.specs.declared.fault.Fault.{Fault}
use Rattle.op_base.specs.Columns.{IsIn, Row}
use Rattle.op_base.specs.Lists.{joined}
use Rattle.op_base.specs.Meanings.{Line}
use Rattle.op_base.specs.RowOperators.{RowRule, sink_rule}
use Rattle.op_base.proofs.All.{flat_agree_all}
use Rattle.op_base.proofs.Bags.{count-append, count-cons, count-permutation, split_at}
use Rattle.op_base.proofs.RowLists.{flat_rows_permuted}
use Rattle.flow_graph.specs.declared.op_kind.OpKind.{OpKind}
use Rattle.flow_graph.specs.declared.op_kind.OpKind.TheVariants as kind
use Rattle.flow_graph.specs.declared.parts.OpParts.{OpParts}
use Rattle.flow_graph.specs.Charts.{Chart, links_into, op_at, parts_of}
use Rattle.flow_graph.specs.Operators.{Op, by_row, faults, import}
use Rattle.flow_graph.specs.Runs.{FitsDegree, Lists, Node, Runs, faults_on, meant_faults, run_faults, slice}
use Rattle.flow_graph.proofs.StateLaws.{each_part}
use Rattle.flow_ops.specs.Kept.{if_between}
use Rattle.flow_rules.specs.Verdicts.{node_at, nodes_of}
use Rattle.flow_shape.specs.Refusals.{all_ops}
use Rattle.flow_rules.specs.Exports.{IsExport, input_of}
use Rattle.flow_sound.specs.Kinds.{IsOfKind}
use Rattle.flow_ops.specs.Kinds.{widths_into}
use Rattle.flow_sound.specs.Promise.{sort_at}
use Rattle.flow_sound.specs.Tallies.{ExportIsTallied, RunIsTallied, faults_before, faults_between, faults_read, faults_written, if_export, if_import, tallied}
use Rattle.flow_sound.proofs.Keeping.{export_bag, export_is, into_export, run_keeps}
use Rattle.flow_sound.proofs.Members.{all_of, below_all}
use Rattle.flow_sound.proofs.Order.{node_has}

number_exact : (m n : ℕ) → (m == n) ≡ true → m ≡ n
number_exact m n e = grind (arith, nat_tests)

number_itself : (n : ℕ) → (n == n) ≡ true
number_itself n = grind (arith, nat_tests)

swap_front : {Y : Type 0} (a b d : List Y) → IsPermutation (a ++ (b ++ d)) (b ++ (a ++ d))
swap_front a b d =
    subst (IsPermutation (a ++ (b ++ d))) (append_assoc b a d)
    (subst (λ zs. IsPermutation zs ((b ++ a) ++ d)) (append_assoc a b d) (IsPermutation-append_left d (a ++ b) (b ++ a) (IsPermutation-append_comm a b)))

swap_middle : {Y : Type 0} (a b c d : List Y) → IsPermutation ((a ++ b) ++ (c ++ d)) ((a ++ c) ++ (b ++ d))
swap_middle a b c d =
    subst (λ zs. IsPermutation zs ((a ++ c) ++ (b ++ d))) (sym (append_assoc a b (c ++ d)))
    (subst (IsPermutation (a ++ (b ++ (c ++ d)))) (sym (append_assoc a c (b ++ d))) (IsPermutation-append_right a (b ++ (c ++ d)) (c ++ (b ++ d)) (swap_front b c d)))

-- what is given for the numbers of a permutation
flat_numbers : {Y : Type 0} (g : ℕ → List Y) (xs ys : List ℕ) → ((z : ℕ) → count_by (λ i. z == i) xs ≡ count_by (λ i. z == i) ys) → IsPermutation (flat_map g xs) (flat_map g ys)
flat_numbers g [] [] h = IsPermutation-refl []
flat_numbers g [] (y ∷ ys) h =
    let c : count_by (λ i. y == i) (y ∷ ys) ≡ 1 + count_by (λ i. y == i) ys = count-cons (λ i. y == i) y ys ∙ ap (λ b. cond b 1 0 + count_by (λ i. y == i) ys) (number_itself y) in
    let e = h y in absurd (omega (arith, c, e))
flat_numbers {Y} g (x ∷ xs) ys h =
    let c : count_by (λ i. x == i) (x ∷ xs) ≡ 1 + count_by (λ i. x == i) xs = count-cons (λ i. x == i) x xs ∙ ap (λ b. cond b 1 0 + count_by (λ i. x == i) xs) (number_itself x) in
    let s = split_at (λ i. x == i) ys (let e = h x in omega (arith, c, e)) in
    let same : x ≡ s.1 = number_exact x s.1 s.3 in
    let shape : ys ≡ s.0 ++ x ∷ s.2 = s.4 ∙ ap (λ y. s.0 ++ y ∷ s.2) (sym same) in
    let counts : (z : ℕ) → count_by (λ i. z == i) xs ≡ count_by (λ i. z == i) (s.0 ++ s.2) = λ z.
    let a = h z ∙ ap (count_by (λ i. z == i)) shape ∙ count-append (λ i. z == i) s.0 (x ∷ s.2) in
    let b = count-cons (λ i. z == i) x xs in
    let d = count-cons (λ i. z == i) x s.2 in
    let e = count-append (λ i. z == i) s.0 s.2 in
    omega (arith, a, b, d, e) in
    let left = flat_map g s.0 in
    let right = flat_map g s.2 in
    let rest : IsPermutation (flat_map g xs) (left ++ right) = subst (IsPermutation (flat_map g xs)) (flat_map-append g s.0 s.2) (flat_numbers g xs (s.0 ++ s.2) counts) in
    let over : IsPermutation (g x ++ flat_map g xs) (g x ++ (left ++ right)) = IsPermutation-append_right (g x) (flat_map g xs) (left ++ right) rest in
    let turn : IsPermutation (g x ++ (left ++ right)) (left ++ (g x ++ right)) = swap_front (g x) left right in
    subst (IsPermutation (g x ++ flat_map g xs)) (sym (ap (flat_map g) shape ∙ flat_map-append g s.0 (x ∷ s.2))) (IsPermutation-trans (g x ++ flat_map g xs) (g x ++ (left ++ right)) (left ++ (g x ++ right)) over turn)

flat_numbers_permuted : {Y : Type 0} (g : ℕ → List Y) (xs ys : List ℕ) → IsPermutation xs ys → IsPermutation (flat_map g xs) (flat_map g ys)
flat_numbers_permuted g xs ys h = flat_numbers g xs ys (λ z. count-permutation (λ i. z == i) xs ys h)

-- two things that are given for each item, one kind after the other
both_after : {X Y : Type 0} (f g : X → List Y) (xs : List X) → IsPermutation (flat_map f xs ++ flat_map g xs) (flat_map (λ x. f x ++ g x) xs)
both_after f g [] = IsPermutation-refl []
both_after f g (x ∷ xs) =
    IsPermutation-trans ((f x ++ flat_map f xs) ++ (g x ++ flat_map g xs)) ((f x ++ g x) ++ (flat_map f xs ++ flat_map g xs)) ((f x ++ g x) ++ flat_map (λ y. f y ++ g y) xs)
    (swap_middle (f x) (flat_map f xs) (g x) (flat_map g xs))
    (IsPermutation-append_right (f x ++ g x) (flat_map f xs ++ flat_map g xs) (flat_map (λ y. f y ++ g y) xs) (both_after f g xs))

-- ---- exports

pub export_tallied : ExportIsTallied
export_tallied regains flow dict c states choices ops whole run a o b e =
    let x = export_is o (op_at c o).kind (parts_of c o) (widths_into c o) (ops o) e (a.shaped.kinds o b) in
    subst (λ (f : Op). IsPermutation (faults f (joined (run.got (input_of c o)) ∷ [])) (faults f (whole (input_of c o) ∷ []))) (sym x.1)
    (flat_rows_permuted x.0 (joined (run.got (input_of c o))) (whole (input_of c o)) (export_bag regains flow dict c states choices ops whole run a o b e))

-- those of the partitions of an operator by a rule, one after the other, are those of all its rows
of_partitions : (rule : RowRule) (parts : List (List Row)) → joined (map (flat_map rule.faults) parts) ≡ flat_map rule.faults (joined parts)
of_partitions rule [] = refl
of_partitions rule (rows ∷ parts) = ap (λ found. flat_map rule.faults rows ++ found) (of_partitions rule parts) ∙ sym (flat_map-append rule.faults rows (joined parts))

-- with one link into it
ruled_faults : (rule : RowRule) (got : ℕ → List (List Row)) (l degree : ℕ) → length (got l) ≡ degree → joined (map (λ p. faults_on (by_row rule) p (slice p (map got (l ∷ [])))) (range_with_len 0 degree)) ≡ faults (by_row rule) (joined (got l) ∷ [])
ruled_faults rule got l degree e =
    ap (λ n. joined (map (λ p. flat_map rule.faults (get_or (got l) p [])) (range_with_len 0 n))) (sym e)
    ∙ ap joined (each_part (flat_map rule.faults) (got l))
    ∙ of_partitions rule (got l)

module _ (c : Chart) (ops : ℕ → Op) (run : Lists) (o : ℕ) (r : Runs (sort_at c) run (node_at c ops o)) where
  failed_as : (op : Op) → ops o ≡ op → joined (run.failed o) ≡ joined (map (λ p. faults_on op p (slice p (map run.got (links_into c o)))) (range_with_len 0 r.degree))
  failed_as op is = ap joined r.fails ∙ ap (λ (f : Op). joined (map (λ p. faults_on f p (slice p (map run.got (links_into c o)))) (range_with_len 0 r.degree))) is

  failed_by : (rule : RowRule) → ops o ≡ by_row rule → links_into c o ≡ input_of c o ∷ [] → joined (run.failed o) ≡ faults (ops o) (joined (run.got (input_of c o)) ∷ [])
  failed_by rule is one =
      failed_as (by_row rule) is
      ∙ ap (λ ls. joined (map (λ p. faults_on (by_row rule) p (slice p (map run.got ls))) (range_with_len 0 r.degree))) one
      ∙ ruled_faults rule run.got (input_of c o) r.degree (subst (AllByRecursion (λ l. length (run.got l) ≡ r.degree)) one r.degrees).0
      ∙ sym (ap (λ (f : Op). faults f (joined (run.got (input_of c o)) ∷ [])) is)

  -- an import has one partition
  failed_reading : (lines : List Line) (rejects : Bool) (beyond : List Fault) → ops o ≡ import lines rejects beyond → joined (run.failed o) ≡ faults (ops o) []
  failed_reading lines rejects beyond is =
      failed_as (import lines rejects beyond) is
      ∙ ap (λ n. joined (map (λ p. faults (import lines rejects beyond) []) (range_with_len 0 n))) (subst (λ (f : Op). FitsDegree f r.degree) is r.fits)
      ∙ append-nil (faults (import lines rejects beyond) [])
      ∙ sym (ap (λ (f : Op). faults f []) is)

  read_is : (k : OpKind) (parts : OpParts) (widths : List ℕ) → IsOfKind o k parts widths (ops o) → if_import k (joined (run.failed o)) ≡ if_import k (faults (ops o) [])
  read_is (kind.Import file schema delim fixed reject) parts widths h = failed_reading h.0 reject h.1 h.3
  read_is k parts widths h = refl

  written_is : (k : OpKind) (parts : OpParts) (widths : List ℕ) → IsOfKind o k parts widths (ops o) → (IsExport k → links_into c o ≡ input_of c o ∷ []) → if_export k (joined (run.failed o)) ≡ if_export k (faults (ops o) (joined (run.got (input_of c o)) ∷ []))
  written_is (kind.Export file delim fixed) parts widths h one = failed_by (sink_rule h.0) h.1 (one tt)
  written_is k parts widths h one = refl

-- ---- by the kinds of operators

by_kinds : (k : OpKind) (found : List Fault) → found ≡ (if_import k found ++ if_between k found) ++ if_export k found
by_kinds (kind.Import file schema delim fixed reject) found = sym (append-nil (found ++ []) ∙ append-nil found)
by_kinds (kind.Export file delim fixed) found = refl
by_kinds k found = sym (append-nil found)

pub run_tallied : RunIsTallied
run_tallied regains flow dict c states choices ops whole run a =
    IsPermutation-trans (tallied c ops run) (flat_map before (all_ops c) ++ flat_map written (all_ops c)) (meant_faults whole (nodes_of c ops))
    (IsPermutation-append_left (flat_map written (all_ops c)) (faults_before c ops run.failed) (flat_map before (all_ops c)) (both_after (faults_read c ops) (faults_between c run.failed) (all_ops c)))
    (IsPermutation-trans (flat_map before (all_ops c) ++ flat_map written (all_ops c)) (flat_map all (all_ops c)) (meant_faults whole (nodes_of c ops))
    (both_after before written (all_ops c))
    (IsPermutation-trans (flat_map all (all_ops c)) (flat_map all c.order) (meant_faults whole (nodes_of c ops))
    (flat_numbers_permuted all (all_ops c) c.order a.shaped.shape.order.once)
    (subst (λ found. IsPermutation found (meant_faults whole (nodes_of c ops))) (sym along) (run_keeps regains flow dict c states choices ops whole run a).faults)))
  where
    written : ℕ → List Fault
    written o = faults_written c ops (λ l. joined (run.got l)) o

    before : ℕ → List Fault
    before o = faults_read c ops o ++ faults_between c run.failed o

    all : ℕ → List Fault
    all o = before o ++ written o

    here : (o : ℕ) → IsIn o c.order → all o ≡ joined (run.failed o)
    here o i =
        let b = below_all (length c.flow.ops) o c.order a.shaped.shape.order.once i in
        let k = (op_at c o).kind in
        let found = joined (run.failed o) in
        let r = node_has (Runs (sort_at c) run) c ops o a.legal i in
        let is = a.shaped.kinds o b in
        sym (by_kinds k found
        ∙ ap (λ read. (read ++ if_between k found) ++ if_export k found) (read_is c ops run o r k (parts_of c o) (widths_into c o) is)
        ∙ ap (λ last. before o ++ last) (written_is c ops run o r k (parts_of c o) (widths_into c o) is (into_export c o a.shaped.shape b)))

    along : flat_map all c.order ≡ run_faults run (nodes_of c ops)
    along =
        flat_agree_all all (λ o. joined (run.failed o)) c.order (all_of (λ o. all o ≡ joined (run.failed o)) c.order here)
        ∙ sym (flat_map-map (λ (n : Node). joined (run.failed n.number)) (node_at c ops) c.order)
