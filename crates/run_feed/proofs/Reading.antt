-- Operators whose files are read one after another.
use Rattle.std.proofs.Common.{◌≡◌, ◌+◌, ◌<◌, ◌==◌, ℕ, suc, Bool, true, false, cond, List, [], ◌∷◌, ◌++◌, flat_map, get_or, length, inl, inr, append_assoc, refl, sym, ap, ap₂, ◌∙◌, subst, arith}
use Rattle.std.specs.List.{range_with_len}
use Rattle.std.specs.Prelude.{Option, Some, None, Result, Ok, Err, IfOk}
use Rattle.ds_schema.specs.declared.schema.Field.{Field}
use Rattle.ds_text.specs.declared.form.Form.{Form}
use Rattle.std.proofs.lemmas.Bool.{eqb-true}
use Rattle.std.proofs.lemmas.Bool.Decides.{nat_tests}
use Rattle.std.proofs.lemmas.List.{append-nil, get_or_append_left}
use Rattle.std.proofs.Math.Seq.{get_or-append_seam}
use Rattle.ds_port.specs.FileMap.{FileMap}
use Rattle.op_base.specs.Columns.{IsIn, Row}
use Rattle.op_base.specs.Keyed.{get_keys}
use Rattle.op_base.specs.RowOperators.{copy_rule, sink_rule}
use Rattle.flow_files.specs.declared.tally.Tally.{Tally}
use Rattle.op_join.specs.declared.kind.JoinKind.TheVariants.{Inner, Left, Right, Full}
use Rattle.flow_files.specs.Lines.{Imports, beyond}
use Rattle.flow_files.specs.Tallies.{Grows}
use Rattle.flow_files.specs.Texts.{export_faults}
use Rattle.flow_files.proofs.Growing.{further, same}
use Rattle.flow_graph.specs.declared.op_kind.OpKind.{OpKind}
use Rattle.flow_graph.specs.declared.op_kind.OpKind.TheVariants as kind
use Rattle.flow_graph.specs.Charts.{Chart, keys_at, op_at, parts_of}
use Rattle.flow_graph.specs.Operators.{Op, by_row, faults, group, import, remdup, tsort}
use Rattle.flow_graph.specs.RowRules.{row_rule}
use Rattle.flow_ops.specs.Keyed.{group_of}
use Rattle.flow_score.proofs.Ranges.{range_more}
use Rattle.flow_sound.specs.Tallies.{faults_read, if_import}
use Rattle.flow_sound.proofs.Members.{below_range}
use Rattle.osh_ends.specs.Built.{is_built_op}
use Rattle.flow_rules.specs.Exports.{input_of}
use Rattle.osh_ends.specs.FlowFiles.{IsOp, fields_of, form}
use Rattle.flow_ops.specs.Kinds.{joined_by, looked_by, widths_into}
use Rattle.run_feed.specs.Inputs.{IsInput}
use Rattle.run_feed.specs.Sources.{AllSuit, ReadTo, ReadsFile, RowsSuit, rows_read}

reads_import : {I M E : Type 0} (tells : Type 0) (rest : I → List ℕ) (rows rejected : M → List Row) (files : FileMap) (o : ℕ) (file : List ℕ) (schema : List Field) (delim : ℕ) (fixed : Option (List ℕ)) (reject : Bool) (input : Option I) (made : Result M E) (old new : Tally)
    → tells → IsInput tells rest files (kind.Import file schema delim fixed reject) input → ((source : I) → input ≡ Some source → IfOk made (λ m. Imports (form delim fixed) schema o reject (rest source) (rows m) (rejected m) old new))
    → IfOk made (λ m. ReadsFile files o (kind.Import file schema delim fixed reject) (rows m) (rejected m) old new)
reads_import tells rest rows rejected files o file schema delim fixed reject (Some source) (Ok m) old new told is h = (rest source, is told, h source refl)
reads_import tells rest rows rejected files o file schema delim fixed reject (Some source) (Err e) old new told is h = tt
reads_import tells rest rows rejected files o file schema delim fixed reject None made old new told is h = absurd is

-- an import has the rows of its file
pub reads_file : {I M E : Type 0} (tells : Type 0) (rest : I → List ℕ) (rows rejected : M → List Row) (files : FileMap) (o : ℕ) (k : OpKind) (file : List ℕ) (schema : List Field) (delim : ℕ) (fixed : Option (List ℕ)) (reject : Bool) (f : Form) (input : Option I) (made : Result M E) (old new : Tally)
    → k ≡ kind.Import file schema delim fixed reject → f ≡ form delim fixed → tells → ((source : I) → input ≡ Some source → IfOk made (λ m. Imports f schema o reject (rest source) (rows m) (rejected m) old new))
    → IsInput tells rest files k input → IfOk made (λ m. ReadsFile files o k (rows m) (rejected m) old new)
reads_file tells rest rows rejected files o k file schema delim fixed reject f input made old new e formed told h =
    subst (λ l. IsInput tells rest files l input → IfOk made (λ m. ReadsFile files o l (rows m) (rejected m) old new)) (sym e)
    (λ is. reads_import tells rest rows rejected files o file schema delim fixed reject input made old new told is
    (λ source some. subst (λ x. IfOk made (λ m. Imports x schema o reject (rest source) (rows m) (rejected m) old new)) formed (h source some)))

-- an operator whose file was read
abbrev IsRead : FileMap → Chart → ℕ → OpKind → List Row → List Row → Tally → Tally → Type 0
IsRead files c o k rows rejected old new = (op : Op) × IsOp files c o k op × (rows ≡ rows_read 0 k op) × (rejected ≡ rows_read 1 k op) × Grows old new (if_import k (faults op []))

is_read : (files : FileMap) (c : Chart) (o : ℕ) (k : OpKind) (rows rejected : List Row) (old new : Tally) → is_built_op k ≡ true → ReadsFile files o k rows rejected old new → IsRead files c o k rows rejected old new
is_read files c o (kind.Import file schema delim fixed reject) rows rejected old new b h =
    let i = h.2 in (import i.lines reject (beyond o h.0), (h.0, i.lines, h.1, i.are, refl), i.rows_are, i.rejected_are, i.faults)
is_read files c o (kind.Export file delim fixed) rows rejected old new b h = (by_row (sink_rule (export_faults o (form delim fixed) (fields_of c (input_of c o)))), refl, h.0, h.1, h.2)
is_read files c o kind.Copy rows rejected old new b h = (by_row copy_rule, refl, h.0, h.1, h.2)
is_read files c o (kind.Filter test reject) rows rejected old new b h = (by_row (row_rule o (kind.Filter test reject) (parts_of c o)), refl, h.0, h.1, h.2)
is_read files c o (kind.Transform set reject) rows rejected old new b h = (by_row (row_rule o (kind.Transform set reject) (parts_of c o)), refl, h.0, h.1, h.2)
is_read files c o (kind.Modify keep drop rename) rows rejected old new b h = (by_row (row_rule o (kind.Modify keep drop rename) (parts_of c o)), refl, h.0, h.1, h.2)
is_read files c o (kind.Switch on cases reject) rows rejected old new b h = (by_row (row_rule o (kind.Switch on cases reject) (parts_of c o)), refl, h.0, h.1, h.2)
is_read files c o (kind.Tsort key) rows rejected old new b h = (tsort (get_keys (keys_at c o) 0), refl, h.0, h.1, h.2)
is_read files c o (kind.Remdup key last) rows rejected old new b h = (remdup last (get_keys (keys_at c o) 0), refl, h.0, h.1, h.2)
is_read files c o (kind.Group key hash results) rows rejected old new b h = (group (group_of o hash results (parts_of c o)), refl, h.0, h.1, h.2)
is_read files c o (kind.InnerJoin key) rows rejected old new b h = (joined_by Inner (parts_of c o) (widths_into c o), refl, h.0, h.1, h.2)
is_read files c o (kind.LeftOuterJoin key) rows rejected old new b h = (joined_by Left (parts_of c o) (widths_into c o), refl, h.0, h.1, h.2)
is_read files c o (kind.RightOuterJoin key) rows rejected old new b h = (joined_by Right (parts_of c o) (widths_into c o), refl, h.0, h.1, h.2)
is_read files c o (kind.FullOuterJoin key) rows rejected old new b h = (joined_by Full (parts_of c o) (widths_into c o), refl, h.0, h.1, h.2)
is_read files c o (kind.Lookup key missing) rows rejected old new b h = (looked_by o missing (parts_of c o) (widths_into c o), refl, h.0, h.1, h.2)
is_read files c o k rows rejected old new b h = cc

-- ---- one operator more

with_op : (ℕ → Op) → ℕ → Op → ℕ → Op
with_op ops n op o = cond (o == n) op (ops o)

itself : (n : ℕ) → (n == n) ≡ true
itself n = grind (arith, nat_tests)

below_apart : (o n : ℕ) → o < n → (o == n) ≡ false
below_apart o n h = grind (arith, nat_tests)

with_new : (ops : ℕ → Op) (n : ℕ) (op : Op) → with_op ops n op n ≡ op
unfolding with_op
with_new ops n op = ap (λ b. cond b op (ops n)) (itself n)

with_old : (ops : ℕ → Op) (n : ℕ) (op : Op) (o : ℕ) → o < n → with_op ops n op o ≡ ops o
unfolding with_op
with_old ops n op o h = ap (λ b. cond b op (ops o)) (below_apart o n h)

pub below_next : (P : ℕ → Type 0) (n : ℕ) → ((o : ℕ) → o < n → P o) → P n → (o : ℕ) → o < n + 1 → P o
below_next P n old new o h = go (o == n) refl
  where
    go : (b : Bool) → (o == n) ≡ b → P o
    go true e = subst P (sym (eqb-true o n e)) new
    go false e = old o (apart e)
      where
        apart : (o == n) ≡ false → o < n
        apart f = grind (arith, nat_tests)

same_flat : {Y : Type 0} (f g : ℕ → List Y) (ls : List ℕ) → ((l : ℕ) → IsIn l ls → f l ≡ g l) → flat_map f ls ≡ flat_map g ls
same_flat f g [] h = refl
same_flat f g (l ∷ ls) h = ap₂ (λ a b. a ++ b) (h l (inl refl)) (same_flat f g ls (λ k i. h k (inr i)))

flat_more : {Y : Type 0} (f : ℕ → List Y) (ls : List ℕ) (n : ℕ) → flat_map f (ls ++ n ∷ []) ≡ flat_map f ls ++ f n
flat_more f [] n = append-nil (f n)
flat_more f (l ∷ ls) n = ap (λ a. f l ++ a) (flat_more f ls n) ∙ sym (append_assoc (f l) (flat_map f ls) (f n))

faults_more : (c : Chart) (ops : ℕ → Op) (n : ℕ) (op : Op) → flat_map (faults_read c (with_op ops n op)) (range_with_len 0 (suc n)) ≡ flat_map (faults_read c ops) (range_with_len 0 n) ++ if_import (op_at c n).kind (faults op [])
faults_more c ops n op =
    ap (flat_map (faults_read c (with_op ops n op))) (range_more 0 n ∙ ap (λ k. range_with_len 0 n ++ k ∷ []) (let z : 0 + n ≡ n = omega arith in z))
    ∙ flat_more (faults_read c (with_op ops n op)) (range_with_len 0 n) n
    ∙ ap₂ (λ a b. a ++ b)
    (same_flat (faults_read c (with_op ops n op)) (faults_read c ops) (range_with_len 0 n) (λ o i. ap (λ p. if_import (op_at c o).kind (faults p [])) (with_old ops n op o (below_range n o i))))
    (ap (λ p. if_import (op_at c n).kind (faults p [])) (with_new ops n op))

rows_more : (c : Chart) (q n : ℕ) (rows : List (List Row)) (x : List Row) (ops : ℕ → Op) (op : Op) → length rows ≡ n → ((o : ℕ) → o < n → get_or rows o [] ≡ rows_read q (op_at c o).kind (ops o)) → x ≡ rows_read q (op_at c n).kind op
    → (o : ℕ) → o < n + 1 → get_or (rows ++ x ∷ []) o [] ≡ rows_read q (op_at c o).kind (with_op ops n op o)
rows_more c q n rows x ops op len each new = below_next (λ o. get_or (rows ++ x ∷ []) o [] ≡ rows_read q (op_at c o).kind (with_op ops n op o)) n
    (λ o l. get_or_append_left rows (x ∷ []) [] o (omega (arith, l, len)) ∙ each o l ∙ ap (rows_read q (op_at c o).kind) (sym (with_old ops n op o l)))
    (ap (λ k. get_or (rows ++ x ∷ []) k []) (sym len) ∙ get_or-append_seam rows x [] [] ∙ new ∙ ap (rows_read q (op_at c n).kind) (sym (with_new ops n op)))

pub read_more : (files : FileMap) (c : Chart) (n : ℕ) (rows rejected : List (List Row)) (x y : List Row) (old mid new : Tally) → is_built_op (op_at c n).kind ≡ true → length rows ≡ n → length rejected ≡ n → ReadTo files c n rows rejected old mid → ReadsFile files n (op_at c n).kind x y mid new
    → ReadTo files c (n + 1) (rows ++ x ∷ []) (rejected ++ y ∷ []) old new
read_more files c n rows rejected x y old mid new b len also r h =
    let one = is_read files c n (op_at c n).kind x y mid new b h in
    let op = one.0 in
    let ops = with_op r.ops n op in
    record {
      ops = ops;
      are = below_next (λ o. IsOp files c o (op_at c o).kind (with_op r.ops n op o)) n
          (λ o l. subst (IsOp files c o (op_at c o).kind) (sym (with_old r.ops n op o l)) (r.are o l))
          (subst (IsOp files c n (op_at c n).kind) (sym (with_new r.ops n op)) one.1);
      rows_are = rows_more c 0 n rows x r.ops op len r.rows_are one.2;
      rejected_are = rows_more c 1 n rejected y r.ops op also r.rejected_are one.3;
      tally = subst (λ k. Grows old new (flat_map (faults_read c (with_op r.ops n op)) (range_with_len 0 k))) (let z : suc n ≡ n + 1 = omega arith in z)
          (subst (Grows old new) (sym (faults_more c r.ops n op)) (further old mid new (flat_map (faults_read c r.ops) (range_with_len 0 n)) (if_import (op_at c n).kind (faults op [])) r.tally one.4));
    }

one_more : (rows : List (List Row)) (x : List Row) (n : ℕ) → length rows ≡ n → x ≡ get_or (rows ++ x ∷ []) n []
one_more rows x n len = sym (ap (λ k. get_or (rows ++ x ∷ []) k []) (sym len) ∙ get_or-append_seam rows x [] [])

pub both_subst : {X Y : Type 0} (P : X → Y → Type 0) {a b : X} {c d : Y} → a ≡ b → c ≡ d → P a c → P b d
both_subst {X} {Y} P {a} {b} {c} {d} e f p = subst (λ x. P x d) e (subst (P a) f p)

pub suits_more : (c : Chart) (n : ℕ) (rows rejected : List (List Row)) (x y : List Row) → length rows ≡ n → length rejected ≡ n → AllSuit c n rows rejected → RowsSuit (op_at c n).kind x y → AllSuit c (n + 1) (rows ++ x ∷ []) (rejected ++ y ∷ [])
suits_more c n rows rejected x y len also old new = below_next (λ o. RowsSuit (op_at c o).kind (get_or (rows ++ x ∷ []) o []) (get_or (rejected ++ y ∷ []) o [])) n
    (λ o l. both_subst (RowsSuit (op_at c o).kind) (sym (get_or_append_left rows (x ∷ []) [] o (omega (arith, l, len)))) (sym (get_or_append_left rejected (y ∷ []) [] o (omega (arith, l, also)))) (old o l))
    (both_subst (RowsSuit (op_at c n).kind) (one_more rows x n len) (one_more rejected y n also) new)

pub none_read : (files : FileMap) (c : Chart) (rows rejected : List (List Row)) (tally : Tally) → ReadTo files c 0 rows rejected tally tally
none_read files c rows rejected tally = record { ops = λ o. by_row copy_rule; are = λ o h. absurd (omega arith); rows_are = λ o h. absurd (omega arith); rejected_are = λ o h. absurd (omega arith); tally = same tally }
