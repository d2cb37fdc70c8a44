-- What joins and lookups emit is what they mean in a flow.
use Rattle.std.proofs.Common.{◌≡◌, ℕ, zero, suc, ◌≤◌, Bool, true, List, [], ◌∷◌, map, length, get_or, refl, sym, ap, ◌∙◌, subst, arith}
use Rattle.std.specs.Prelude.{Result, if◌then◌else◌}
use Rattle.std.specs.Result.{IfOk}
use Rattle.std.proofs.lemmas.Result.{IfOk-weaker}
use Rattle.streams.specs.Streams.{Feed, Out, sends, on, faults_out}
use Rattle.streams.proofs.Basics.{and_true}
use Rattle.streams.proofs.StreamLaws.{eq_false}
use Rattle.ds_schema.specs.declared.key.Key.{Key}
use Rattle.ds_schema.specs.Rows.{cols, sub, val}
use Rattle.op_base.specs.declared.fault.Fault.{Fault}
use Rattle.op_base.specs.declared.missing.Missing.{Missing}
use Rattle.op_base.specs.declared.missing.Missing.TheVariants as missing
use Rattle.op_base.specs.declared.emit.Emit.{Emit}
use Rattle.op_base.specs.Columns.{Row}
use Rattle.op_base.specs.Keyed.{get_keys}
use Rattle.op_base.specs.Meanings.{if_fails, input, looked_fault}
use Rattle.op_base.specs.Standing.{RowStream}
use Rattle.op_base.specs.WholeLists.{HasEmitted}
use Rattle.op_base.proofs.All.{all_flat_each}
use Rattle.op_join.specs.declared.kind.JoinKind.{JoinKind}
use Rattle.op_join.specs.Joining.{join_stream, join_suits, joining, row_suits}
use Rattle.op_join.proofs.Means.{joins_match_runs}
use Rattle.op_lookup.specs.Looked.{looked_stream, missing_fault, suits_lookup, suits_main, suits_reference}
use Rattle.op_lookup.proofs.Means.{lookups-find-in-one-way}
use Rattle.flow_graph.specs.declared.op_kind.OpKind.{OpKind}
use Rattle.flow_graph.specs.declared.op_kind.OpKind.TheVariants as kind
use Rattle.flow_graph.specs.declared.parts.OpParts.{OpParts}
use Rattle.flow_graph.specs.RowRules.{at_op}
use Rattle.flow_graph.specs.Runs.{result_on}
use Rattle.flow_ops.specs.Keyed.{join_of, lookup_of}
use Rattle.list_run.specs.Found.{AreUnnumbered, found_of}
use Rattle.list_run.specs.Made.{made_of}
use Rattle.flow_ops.specs.Kinds.{joined_by}
use Rattle.list_run.specs.Matched.{LooksUp, Matches}
use Rattle.list_run.specs.Worked.{AreJoined, AreLooked, HasWorked, outputs_of, place_of}
use Rattle.list_run.proofs.Grouped.{values_mapped}
use Rattle.run_ports.specs.PortLists.{AreBegun, HasRun, list_of}
use Rattle.run_ports.proofs.Feeding.{each_begun}

pub two_lists : (lists : List (List Row)) → length lists ≡ 2 → lists ≡ input 0 lists ∷ (input 1 lists ∷ [])
two_lists [] e = absurd (omega (arith, e))
two_lists (a ∷ []) e = absurd (omega (arith, e))
two_lists (a ∷ (b ∷ [])) e = refl
two_lists (a ∷ (b ∷ (c ∷ lists))) e = absurd (omega (arith, e))

-- a join as it is made
pub join_made : (k : JoinKind) (parts : OpParts) (widths : List ℕ) (s : RowStream) (left right : List Key) (v w : ℕ) → s ≡ join_stream (joining k left right v w) → left ≡ get_keys parts.keys 0 → right ≡ get_keys parts.keys 1 → v ≡ get_or widths 0 0 → w ≡ get_or widths 1 0 →
    s ≡ join_stream (join_of k parts (get_or widths 0 0) (get_or widths 1 0))
join_made k parts widths s left right v w made l r a b =
    made
    ∙ ap (λ ks. join_stream (joining k ks right v w)) l
    ∙ ap (λ ks. join_stream (joining k (get_keys parts.keys 0) ks v w)) r
    ∙ ap (λ n. join_stream (joining k (get_keys parts.keys 0) (get_keys parts.keys 1) n w)) a
    ∙ ap (λ n. join_stream (joining k (get_keys parts.keys 0) (get_keys parts.keys 1) (get_or widths 0 0) n)) b

pub join_suited : (suits : List (Feed Row) → Bool) (v w : ℕ) (widths : List ℕ) (lists fed : List (List Row)) → suits ≡ join_suits v w → v ≡ get_or widths 0 0 → w ≡ get_or widths 1 0 → fed ≡ lists → AreJoined widths lists → (feeds : List (Feed Row)) → AreBegun (list_of fed) feeds → suits feeds ≡ true
join_suited suits v w widths lists fed e a b f joined feeds begun =
    let here : AreBegun (list_of lists) feeds = subst (λ (ls : List (List Row)). AreBegun (list_of ls) feeds) f begun in
    ap (λ test. test feeds) (e ∙ ap (λ n. join_suits n w) a ∙ ap (join_suits (get_or widths 0 0)) b)
    ∙ and_true (each_begun (row_suits (get_or widths 0 0)) (list_of lists) feeds 0 here joined.lefts) (each_begun (row_suits (get_or widths 1 0)) (list_of lists) feeds 1 here joined.rights)

pub join_given : (k : JoinKind) (parts : OpParts) (widths : List ℕ) (lists fed : List (List Row)) (s : RowStream) (emit : Emit) → s ≡ join_stream (join_of k parts (get_or widths 0 0) (get_or widths 1 0)) → fed ≡ lists → length lists ≡ 2 → HasRun s (list_of fed) emit → Matches k parts widths lists emit
join_given k parts widths lists fed s emit e f two run =
    let j = join_of k parts (get_or widths 0 0) (get_or widths 1 0) in
    let here : HasRun (join_stream j) (list_of lists) emit = subst (λ (z : RowStream). HasRun z (list_of lists) emit) e (subst (λ (ls : List (List Row)). HasRun s (list_of ls) emit) f run) in
    subst (λ (ls : List (List Row)). HasEmitted emit (map (sends 0) (result_on (joined_by k parts widths) 0 0 ls))) (sym (two_lists lists two))
    (subst (λ (outs : List (Out Row Fault)). HasEmitted emit outs) (joins_match_runs j (list_of lists) here.outs here.gives) here.emitted)

-- rows that go to output 0
abbrev to_first : List Row → List (Out Row Fault)
to_first rows = map (sends 0) rows

on_first : (rows : List Row) → on 0 (to_first rows) ≡ rows
on_first [] = refl
on_first (r ∷ rows) = ap (λ t. r ∷ t) (on_first rows)

on_others : (q : ℕ) → 1 ≤ q → (rows : List Row) → on q (to_first rows) ≡ []
on_others q m [] = refl
on_others q m (r ∷ rows) = ap (λ b. if b then r ∷ on q (to_first rows) else on q (to_first rows)) (eq_false 0 q (λ e. absurd (omega (arith, m, e)))) ∙ on_others q m rows

no_faults : (rows : List Row) → faults_out (to_first rows) ≡ []
no_faults [] = refl
no_faults (r ∷ rows) = no_faults rows

pub match_worked : (k : OpKind) (j : JoinKind) (parts : OpParts) (widths : List ℕ) (lists : List (List Row)) (emit : Emit) → outputs_of k ≡ 1 → ((o q : ℕ) → made_of o k parts widths q lists ≡ result_on (joined_by j parts widths) 0 0 lists) → ((o : ℕ) → found_of o k parts widths lists ≡ []) →
    Matches j parts widths lists emit → HasWorked k parts widths lists emit
match_worked k j parts widths lists emit one makes finds has =
    let rows = result_on (joined_by j parts widths) 0 0 lists in
    record {
      given = to_first rows;
      emitted = has;
      rows_are = λ o q. ap (λ p. on p (to_first rows)) (ap (λ n. place_of n q) one ∙ first q) ∙ on_first rows ∙ sym (makes o q);
      no_more = λ q l. on_others q (subst (λ n. n ≤ q) one l) rows;
      faults_are = λ o. ap (map (at_op o)) (no_faults rows) ∙ sym (finds o);
      unnumbered = subst AreUnnumbered (sym (no_faults rows)) tt;
    }
  where
    first : (q : ℕ) → place_of 1 q ≡ 0
    first q = omega arith

-- the same of an answer, where the kind is known
pub match_does : {E : Type 0} (k known : OpKind) (j : JoinKind) (parts : OpParts) (widths : List ℕ) (lists : List (List Row)) (r : Result Emit E) → k ≡ known → outputs_of known ≡ 1 → ((o q : ℕ) → made_of o known parts widths q lists ≡ result_on (joined_by j parts widths) 0 0 lists) → ((o : ℕ) → found_of o known parts widths lists ≡ []) →
    IfOk r (λ emit. Matches j parts widths lists emit) → IfOk r (λ emit. HasWorked k parts widths lists emit)
match_does k known j parts widths lists r e one makes finds h =
    IfOk-weaker r (λ emit. Matches j parts widths lists emit) (λ emit. HasWorked k parts widths lists emit)
    (λ emit w. subst (λ k. HasWorked k parts widths lists emit) (sym e) (match_worked known j parts widths lists emit one makes finds w)) h

-- a lookup
pub lookup_made : (missing : Missing) (parts : OpParts) (widths : List ℕ) (s : RowStream) (main reference : List ℕ) (w : ℕ) → s ≡ looked_stream main reference w missing → main ≡ cols (get_keys parts.keys 0) → reference ≡ cols (get_keys parts.keys 1) → w ≡ get_or widths 1 0 →
    s ≡ looked_stream (cols (get_keys parts.keys 0)) (cols (get_keys parts.keys 1)) (get_or widths 1 0) missing
lookup_made missing parts widths s main reference w made m r b =
    made
    ∙ ap (λ cs. looked_stream cs reference w missing) m
    ∙ ap (λ cs. looked_stream (cols (get_keys parts.keys 0)) cs w missing) r
    ∙ ap (λ n. looked_stream (cols (get_keys parts.keys 0)) (cols (get_keys parts.keys 1)) n missing) b

pub lookup_suited : (parts : OpParts) (widths : List ℕ) (suits : List (Feed Row) → Bool) (main : List ℕ) (w : ℕ) (lists fed : List (List Row)) → suits ≡ suits_lookup main w → main ≡ cols (get_keys parts.keys 0) → w ≡ get_or widths 1 0 → fed ≡ lists → AreLooked parts widths lists →
    (feeds : List (Feed Row)) → AreBegun (list_of fed) feeds → suits feeds ≡ true
lookup_suited parts widths suits main w lists fed e m b f looked feeds begun =
    let here : AreBegun (list_of lists) feeds = subst (λ (ls : List (List Row)). AreBegun (list_of ls) feeds) f begun in
    let key = cols (get_keys parts.keys 0) in
    ap (λ test. test feeds) (e ∙ ap (λ cs. suits_lookup cs w) m ∙ ap (suits_lookup key) b)
    ∙ and_true (each_begun (suits_main key) (list_of lists) feeds 0 here looked.mains) (each_begun (suits_reference (get_or widths 1 0)) (list_of lists) feeds 1 here looked.references)

pub lookup_given : (missing : Missing) (parts : OpParts) (widths : List ℕ) (lists fed : List (List Row)) (s : RowStream) (emit : Emit) → s ≡ looked_stream (cols (get_keys parts.keys 0)) (cols (get_keys parts.keys 1)) (get_or widths 1 0) missing → fed ≡ lists → AreLooked parts widths lists → HasRun s (list_of fed) emit →
    LooksUp missing parts (get_or widths 0 0) (get_or widths 1 0) lists emit
lookup_given missing parts widths lists fed s emit e f looked run =
    let main = cols (get_keys parts.keys 0) in
    let reference = cols (get_keys parts.keys 1) in
    let here : HasRun (looked_stream main reference (get_or widths 1 0) missing) (list_of lists) emit =
    subst (λ (z : RowStream). HasRun z (list_of lists) emit) e (subst (λ (ls : List (List Row)). HasRun s (list_of ls) emit) f run) in
    record {
      given = here.outs;
      emitted = here.emitted;
      finds = lookups-find-in-one-way (get_or widths 0 0) main reference (get_or widths 1 0) missing (lookup_of 0 missing parts (get_or widths 0 0) (get_or widths 1 0)) (list_of lists) here.outs
          (record { main_is = refl; reference_is = refl; own_is = refl; others_are = refl; missing_is = refl; fault_is = λ a. refl }) looked.wide here.gives;
    }

-- its faults
fails_at : (o : ℕ) (missing : Missing) (f : Fault) → map (at_op o) (if_fails missing (at_op 0 f)) ≡ if_fails missing (at_op o f)
fails_at o missing.Continue f = refl
fails_at o missing.Drop f = refl
fails_at o missing.Fail f = refl
fails_at o missing.Reject f = refl

looked_at : (o : ℕ) (missing : Missing) (parts : OpParts) (v w : ℕ) (a : Row) (found : List Row) → map (at_op o) (looked_fault (lookup_of 0 missing parts v w) a found) ≡ looked_fault (lookup_of o missing parts v w) a found
looked_at o missing parts v w a [] = fails_at o missing (missing_fault a)
looked_at o missing parts v w a (b ∷ found) = refl

fails_unnumbered : (missing : Missing) (f : Fault) → AreUnnumbered (if_fails missing (at_op 0 f))
fails_unnumbered missing.Continue f = tt
fails_unnumbered missing.Drop f = tt
fails_unnumbered missing.Fail f = (refl, tt)
fails_unnumbered missing.Reject f = tt

looked_unnumbered : (missing : Missing) (parts : OpParts) (v w : ℕ) (a : Row) (found : List Row) → AreUnnumbered (looked_fault (lookup_of 0 missing parts v w) a found)
looked_unnumbered missing parts v w a [] = fails_unnumbered missing (missing_fault a)
looked_unnumbered missing parts v w a (b ∷ found) = tt

pub lookup_worked : (key : List (List ℕ × Bool)) (missing : Missing) (parts : OpParts) (widths : List ℕ) (lists : List (List Row)) (emit : Emit) → LooksUp missing parts (get_or widths 0 0) (get_or widths 1 0) lists emit → HasWorked (kind.Lookup key missing) parts widths lists emit
lookup_worked key missing parts widths lists emit w =
    let v = get_or widths 0 0 in
    let u = get_or widths 1 0 in
    let k = lookup_of 0 missing parts v u in
    let found : Row → List Row = λ a. sub (cols k.reference_keys) (val (cols k.main_keys) a) (input 1 lists) in
    record {
      given = w.given;
      emitted = w.emitted;
      rows_are = λ o q. rows o q;
      no_more = w.finds.no_more;
      faults_are = λ o. ap (map (at_op o)) w.finds.faults_are ∙ values_mapped (at_op o) (λ a. looked_fault k a (found a)) (λ a. looked_fault (lookup_of o missing parts v u) a (found a)) (λ a. looked_at o missing parts v u a (found a)) (input 0 lists);
      unnumbered = subst AreUnnumbered (sym w.finds.faults_are) (all_flat_each (λ (f : Fault). f.op ≡ 0) (λ a. looked_fault k a (found a)) (λ a. looked_unnumbered missing parts v u a (found a)) (input 0 lists));
    }
  where
    last : (q : ℕ) → place_of 2 (suc q) ≡ 1
    last q = omega arith

    rows : (o q : ℕ) → on (place_of 2 q) w.given ≡ made_of o (kind.Lookup key missing) parts widths q lists
    rows o zero = w.finds.rows_are 0 (omega arith)
    rows o (suc q) = ap (λ p. on p w.given) (last q) ∙ w.finds.rows_are 1 (omega arith)

pub lookup_does : {E : Type 0} (k : OpKind) (key : List (List ℕ × Bool)) (missing : Missing) (parts : OpParts) (widths : List ℕ) (lists : List (List Row)) (r : Result Emit E) → k ≡ kind.Lookup key missing →
    IfOk r (λ emit. LooksUp missing parts (get_or widths 0 0) (get_or widths 1 0) lists emit) → IfOk r (λ emit. HasWorked k parts widths lists emit)
lookup_does k key missing parts widths lists r e h =
    IfOk-weaker r (λ emit. LooksUp missing parts (get_or widths 0 0) (get_or widths 1 0) lists emit) (λ emit. HasWorked k parts widths lists emit)
    (λ emit w. subst (λ k. HasWorked k parts widths lists emit) (sym e) (lookup_worked key missing parts widths lists emit w)) h
