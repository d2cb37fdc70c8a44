-- What an operator's turn does, by its kind.
use Rattle.std.proofs.Common.{◌≡◌, ◌≢◌, ℕ, ◌<◌, Bool, true, false, cond, refl, sym, ap, ◌∙◌, subst, List, [], ◌∷◌, ◌++◌, map, length, get_or, set, All}
use Rattle.std.specs.Prelude.{nat_lt}
use Rattle.std.specs.List.{flat_map, range_with_len}
use Rattle.std.proofs.lemmas.Bool.{lt-ltb}
use Rattle.std.proofs.lemmas.List.{get_or-set_other, get_or-set_same, length-set}
use Rattle.streams.proofs.StreamLaws.{eq_true, eq_false}
use Rattle.op_base.specs.declared.fault.Fault.{Fault}
use Rattle.op_base.specs.Columns.{Row, IsIn}
use Rattle.op_base.specs.Meanings.{input}
use Rattle.op_base.specs.RowOperators.{copy_rule}
use Rattle.flow_graph.specs.declared.op_kind.OpKind.{OpKind}
use Rattle.flow_graph.specs.declared.op_kind.OpKind.TheVariants as kind
use Rattle.flow_graph.specs.declared.parts.OpParts.{OpParts}
use Rattle.flow_graph.specs.Charts.{Chart, link_at, links_into, links_from, op_at, parts_of, into_seq}
use Rattle.flow_graph.specs.Runs.{slice}
use Rattle.flow_graph.proofs.StateLaws.{each_part}
use Rattle.flow_derive.specs.LinkStates.{choice_at}
use Rattle.list_run.specs.declared.held.Held.{Held}
use Rattle.list_run.specs.Found.{Grows, found_by}
use Rattle.list_run.specs.Held.{HasRoom, MaySend, Puts, Moves, Steps, found_at, inputs_of, leaves, outputs, sent_by, sent_from, sent_on, got_on, made_at, waits, worked_at}
use Rattle.list_run.specs.Made.{degree_of, made, made_by}
use Rattle.list_run.specs.Routed.{Joins, SuitsRoute}
use Rattle.flow_rules.specs.Exports.{IsExport, input_of}
use Rattle.list_run.specs.Runnable.{degree_at, row_count}
use Rattle.flow_ops.specs.Kinds.{widths_into}
use Rattle.list_run.proofs.Dealing.{map_same}
use Rattle.list_run.proofs.Links.{from_in}
use Rattle.list_run.proofs.Tallying.{grows_as, still}

pub leaves_is : (c : Chart) (o l : ℕ) → (link_at c l).from ≡ o → leaves c o l ≡ true
leaves_is c o l e = eq_true (link_at c l).from o e

pub leaves_not : (c : Chart) (o l : ℕ) → (link_at c l).from ≢ o → leaves c o l ≡ false
leaves_not c o l e = eq_false (link_at c l).from o e

output : (c : Chart) (o l : ℕ) → l < length c.flow.links → (link_at c l).from ≡ o → outputs c o l ≡ true
output c o l m e = ap (λ b. cond b (leaves c o l) false) (lt-ltb l (length c.flow.links) m) ∙ leaves_is c o l e

no_output : (c : Chart) (o l : ℕ) → (link_at c l).from ≢ o → outputs c o l ≡ false
no_output c o l e = ap (λ b. cond (nat_lt l (length c.flow.links)) b false) (leaves_not c o l e) ∙ none (nat_lt l (length c.flow.links))
  where
    none : (b : Bool) → cond b false false ≡ false
    none true = refl
    none false = refl

-- of a link that leaves o
sent_at : (c : Chart) (o l : ℕ) (got : ℕ → List (List Row)) (given : ℕ → List Row) → (link_at c l).from ≡ o → sent_on c got given l ≡ sent_from c l o (inputs_of c o got) (given l)
sent_at c o l got given e = ap (λ p. sent_from c l p (inputs_of c p got) (given l)) e

-- of an operator of a known kind
pub import_sent : (c : Chart) (o l : ℕ) (got : ℕ → List (List Row)) (given : ℕ → List Row) →
    ((parts : OpParts) (widths : List ℕ) (q : ℕ) (inputs : List (List (List Row))) (rows : List Row) → sent_by o (op_at c o).kind parts widths q inputs rows ≡ rows ∷ []) → (link_at c l).from ≡ o → sent_on c got given l ≡ given l ∷ []
import_sent c o l got given gives e = sent_at c o l got given e ∙ gives (parts_of c o) (widths_into c o) (link_at c l).out (inputs_of c o got) (given l)

-- an operator is no import
abbrev pub Makes : ℕ → OpKind → Type 0
Makes o k = (parts : OpParts) (widths : List ℕ) (q : ℕ) (inputs : List (List (List Row))) (rows : List Row) → sent_by o k parts widths q inputs rows ≡ made_by o k parts widths q inputs

pub work_sent : (c : Chart) (o l : ℕ) (k : OpKind) (held : Held) (given : ℕ → List Row) → (op_at c o).kind ≡ k → Makes o k → (link_at c l).from ≡ o → sent_on c (waits held) given l ≡ worked_at c o held l
work_sent c o l k held given known makes e =
    let parts = parts_of c o in
    let widths = widths_into c o in
    let inputs = inputs_of c o (waits held) in
    sent_at c o l (waits held) given e
    ∙ ap (λ k. sent_by o k parts widths (link_at c l).out inputs (given l)) known
    ∙ makes parts widths (link_at c l).out inputs (given l)
    ∙ sym (ap (λ k. made_by o k parts widths (link_at c l).out inputs) known)

-- of an operator that passes what it has, in some order or in part
abbrev pub Passes : ℕ → OpKind → Type 0
Passes o k = (parts : OpParts) (widths : List ℕ) (q : ℕ) (lists : List (List Row)) → made_by o k parts widths q (lists ∷ []) ≡ map (made k parts.keys) lists

pub pass_sent : (c : Chart) (o l : ℕ) (k : OpKind) (held : Held) (given : ℕ → List Row) → (op_at c o).kind ≡ k → Makes o k → Passes o k → links_into c o ≡ input_of c o ∷ [] → (link_at c l).from ≡ o → sent_on c (waits held) given l ≡ made_at c o held
pass_sent c o l k held given known makes passes one e =
    let parts = parts_of c o in
    let lists = waits held (input_of c o) in
    work_sent c o l k held given known makes e
    ∙ ap (λ k. made_by o k parts (widths_into c o) (link_at c l).out (inputs_of c o (waits held))) known
    ∙ ap (λ ins. made_by o k parts (widths_into c o) (link_at c l).out (map (waits held) ins)) one
    ∙ passes parts (widths_into c o) (link_at c l).out lists
    ∙ sym (ap (λ k. map (made k parts.keys) lists) known)

-- a copy, a tsort and a remdup
each_is : (f g : List Row → List Row) → ((rows : List Row) → g rows ≡ f rows) → (lists : List (List Row)) → map (λ p. g (get_or lists p [])) (range_with_len 0 (length lists)) ≡ map f lists
each_is f g h lists = each_part g lists ∙ map_same g f h lists

flat_single : (rows : List Row) → flat_map (λ r. r ∷ []) rows ≡ rows
flat_single [] = refl
flat_single (r ∷ rows) = ap (λ t. r ∷ t) (flat_single rows)

pub copy_passes : (o : ℕ) → Passes o kind.Copy
copy_passes o parts widths q lists = each_is (λ rows. rows) (flat_map (λ r. r ∷ [])) flat_single lists

pub tsort_passes : (o : ℕ) (key : List (List ℕ × Bool)) → Passes o (kind.Tsort key)
tsort_passes o key parts widths q lists = each_is (made (kind.Tsort key) parts.keys) (made (kind.Tsort key) parts.keys) (λ rows. refl) lists

pub remdup_passes : (o : ℕ) (key : List (List ℕ × Bool)) (last : Bool) → Passes o (kind.Remdup key last)
remdup_passes o key last parts widths q lists = each_is (made (kind.Remdup key last) parts.keys) (made (kind.Remdup key last) parts.keys) (λ rows. refl) lists

-- nothing is found
nothing_found : (f : ℕ → List Fault) → ((p : ℕ) → f p ≡ []) → (ns : List ℕ) → [] ≡ flat_map f ns
nothing_found f h [] = refl
nothing_found f h (n ∷ ns) = nothing_found f h ns ∙ sym (ap (λ t. t ++ flat_map f ns) (h n))

abbrev pub Quiet : ℕ → OpKind → Type 0
Quiet o k = (parts : OpParts) (widths : List ℕ) (inputs : List (List (List Row))) → [] ≡ found_by o k parts widths inputs

pub copy_quiet : (o : ℕ) → Quiet o kind.Copy
copy_quiet o parts widths inputs = nothing_found (λ p. flat_map copy_rule.faults (input 0 (slice p inputs))) (λ p. none (input 0 (slice p inputs))) (range_with_len 0 (degree_of inputs))
  where
    none : (rows : List Row) → flat_map copy_rule.faults rows ≡ []
    none [] = refl
    none (r ∷ rows) = none rows

pub tsort_quiet : (o : ℕ) (key : List (List ℕ × Bool)) → Quiet o (kind.Tsort key)
tsort_quiet o key parts widths inputs = nothing_found (λ p. []) (λ p. refl) (range_with_len 0 (degree_of inputs))

pub remdup_quiet : (o : ℕ) (key : List (List ℕ × Bool)) (last : Bool) → Quiet o (kind.Remdup key last)
remdup_quiet o key last parts widths inputs = nothing_found (λ p. []) (λ p. refl) (range_with_len 0 (degree_of inputs))

pub may_as : (c : Chart) (nodes o : ℕ) (sent other : ℕ → List (List Row)) → ((l : ℕ) → (link_at c l).from ≡ o → sent l ≡ other l) → MaySend c nodes o sent → MaySend c nodes o other
may_as c nodes o sent other same may = λ l m e. subst (λ (s : List (List Row)). Joins (into_seq c l) (choice_at c l).method (length s) (degree_at c nodes (link_at c l).to) × All (All (SuitsRoute (choice_at c l).method)) s) (same l e) (may l m e)

pub step_import : (c : Chart) (nodes o : ℕ) (before after : List (List Row)) (old new : Held) →
    ((parts : OpParts) (widths : List ℕ) (q : ℕ) (inputs : List (List (List Row))) (rows : List Row) → sent_by o (op_at c o).kind parts widths q inputs rows ≡ rows ∷ []) → Quiet o (op_at c o).kind → (IsExport (op_at c o).kind → ⊥) →
    Puts c nodes (outputs c o) (λ l. get_or before l [] ∷ []) old new → ((l : ℕ) → leaves c o l ≡ false → get_or after l [] ≡ get_or before l []) → length after ≡ length before → Steps c nodes o before after old new
step_import c nodes o before after old new gives none inner f kept count = record {
  room = f.room;
  given = count;
  waiting = λ l m e. f.waiting l m (output c o l m e) ∙ ap (got_on c nodes l) (sym (sent l e));
  counts = λ l m e. f.counts l m (output c o l m e) ∙ ap row_count (sym (sent l e));
  kept = λ l m n k. f.kept l (no_output c o l n);
  kept_counts = λ l m n. f.kept_counts l (no_output c o l n);
  kept_given = λ l m n. kept l (leaves_not c o l n);
  sink = λ e. absurd (inner e);
  kept_sinks = λ p n. ap (λ s. get_or s p []) f.sinks;
  found = grows_as old.tally new.tally [] (found_at c o (waits old)) (none (parts_of c o) (widths_into c o) (inputs_of c o (waits old))) (still old.tally new.tally f.tally);
}
  where
    sent : (l : ℕ) → (link_at c l).from ≡ o → sent_on c (waits old) (λ i. get_or before i []) l ≡ get_or before l [] ∷ []
    sent l e = import_sent c o l (waits old) (λ i. get_or before i []) gives e

-- what came is taken, and something is sent that is said of all links
step_moves : (c : Chart) (nodes o : ℕ) (before : List (List Row)) (old new : Held) (sent : ℕ → List (List Row)) (faults : List Fault) →
    ((l : ℕ) → (link_at c l).from ≡ o → sent_on c (waits old) (λ i. get_or before i []) l ≡ sent l) → faults ≡ found_at c o (waits old) → (IsExport (op_at c o).kind → ⊥) → Moves c nodes o (outputs c o) sent faults old new → Steps c nodes o before before old new
step_moves c nodes o before old new sent faults is found inner f = record {
  room = f.puts.room;
  given = refl;
  waiting = λ l m e. f.puts.waiting l m (output c o l m e) ∙ ap (got_on c nodes l) (sym (is l e));
  counts = λ l m e. f.puts.counts l m (output c o l m e) ∙ ap row_count (sym (is l e));
  kept = λ l m n k. f.puts.kept l (no_output c o l n) ∙ f.others l k;
  kept_counts = λ l m n. f.puts.kept_counts l (no_output c o l n) ∙ ap (λ ls. get_or ls l 0) f.counts;
  kept_given = λ l m n. refl;
  sink = λ e. absurd (inner e);
  kept_sinks = λ p n. ap (λ s. get_or s p []) (f.puts.sinks ∙ f.sinks);
  found = grows_as old.tally new.tally faults (found_at c o (waits old)) found (subst (λ t. Grows old.tally t faults) (sym f.puts.tally) f.found);
}

-- a copy, a tsort or a remdup
pub passes : (c : Chart) (nodes o : ℕ) (before : List (List Row)) (old new : Held) (k : OpKind) → (op_at c o).kind ≡ k → Makes o k → Passes o k → Quiet o k → (IsExport k → ⊥) → links_into c o ≡ input_of c o ∷ [] →
    Moves c nodes o (outputs c o) (λ l. made_at c o old) [] old new → Steps c nodes o before before old new
passes c nodes o before old new k e makes passed quiet inner one f =
    step_moves c nodes o before old new (λ l. made_at c o old) [] (λ l from. pass_sent c o l k old (λ i. get_or before i []) e makes passed one from)
    (quiet (parts_of c o) (widths_into c o) (inputs_of c o (waits old)) ∙ sym (ap (λ k. found_by o k (parts_of c o) (widths_into c o) (inputs_of c o (waits old))) e))
    (λ x. inner (subst IsExport e x)) f

-- an operator that emits rows for some outputs, or faults
pub works : (c : Chart) (nodes o : ℕ) (before : List (List Row)) (old new : Held) (k : OpKind) → (op_at c o).kind ≡ k → Makes o k → (IsExport k → ⊥) → Moves c nodes o (outputs c o) (worked_at c o old) (found_at c o (waits old)) old new → Steps c nodes o before before old new
works c nodes o before old new k e makes inner f = step_moves c nodes o before old new (worked_at c o old) (found_at c o (waits old)) (λ l from. work_sent c o l k old (λ i. get_or before i []) e makes from) refl (λ x. inner (subst IsExport e x)) f

pub step_export : (c : Chart) (nodes o : ℕ) (before : List (List Row)) (old new : Held) → HasRoom c old → o < length c.flow.ops → links_from c o ≡ [] → Quiet o (op_at c o).kind → (link_at c (input_of c o)).to ≡ o →
    new.waiting.items ≡ set old.waiting.items (input_of c o) [] → new.counts.items ≡ old.counts.items → new.sinks.items ≡ set old.sinks.items o (waits old (input_of c o)) → new.tally ≡ old.tally → Steps c nodes o before before old new
step_export c nodes o before old new room there none quiet input w n s t = record {
  room = record { waiting = ap length w ∙ length-set old.waiting.items (input_of c o) [] ∙ room.waiting; counts = ap length n ∙ room.counts; sinks = ap length s ∙ length-set old.sinks.items o (waits old (input_of c o)) ∙ room.sinks };
  given = refl;
  waiting = λ l m e. absurd (never l m e);
  counts = λ l m e. absurd (never l m e);
  kept = λ l m e k. ap (λ ls. get_or ls l []) w ∙ get_or-set_other old.waiting.items (input_of c o) l [] [] (λ f. k (ap (λ i. (link_at c i).to) f ∙ input));
  kept_counts = λ l m e. ap (λ ls. get_or ls l 0) n;
  kept_given = λ l m e. refl;
  sink = λ e. ap (λ ls. get_or ls o []) s ∙ get_or-set_same old.sinks.items o (waits old (input_of c o)) [] (subst (λ k. o < k) (sym room.sinks) there);
  kept_sinks = λ p e. ap (λ ls. get_or ls p []) s ∙ get_or-set_other old.sinks.items o p (waits old (input_of c o)) [] e;
  found = grows_as old.tally new.tally [] (found_at c o (waits old)) (quiet (parts_of c o) (widths_into c o) (inputs_of c o (waits old))) (still old.tally new.tally t);
}
  where
    never : (l : ℕ) → l < length c.flow.links → (link_at c l).from ≡ o → ⊥
    never l m e = subst (IsIn l) none (from_in c o l m e)
