-- What is said of each row is kept on the way.
use Rattle.std.proofs.Common.{ℕ, zero, suc, ◌+◌, ◌%◌, ◌==◌, Bool, true, false, cond, sym, subst, List, [], ◌∷◌, map, replicate, get_or, set, Option, Some, None}
use Rattle.std.specs.List.{AllByRecursion, flat_map, range_with_len}
use Rattle.streams.specs.Lists.{Interleaves, onto_run, runs_of}
use Rattle.ds_schema.specs.declared.key.Key.{Key}
use Rattle.ds_schema.specs.Rows.{row_cmp}
use Rattle.op_base.specs.Columns.{Row}
use Rattle.op_base.specs.Keyed.{arranged, get_keys}
use Rattle.op_base.specs.Lists.{in_turn, joined}
use Rattle.op_base.specs.Meanings.{one_row}
use Rattle.op_base.proofs.All.{all_append, all_each}
use Rattle.op_base.proofs.Interleavings.{turns_interleave}
use Rattle.op_base.proofs.KeySorts.{one_row_all}
use Rattle.op_base.proofs.Merging.{merge_rows_interleave}
use Rattle.op_base.proofs.RowLists.{by_key_all}
use Rattle.op_collect.specs.Merged.{merged}
use Rattle.op_collect.proofs.OneMerge.{rows_merge}
use Rattle.op_order.specs.Ordered.{same_key}
use Rattle.flow_graph.specs.Destinations.{lane, lanes_to}
use Rattle.flow_graph.specs.declared.op_kind.OpKind.{OpKind}
use Rattle.flow_graph.specs.declared.op_kind.OpKind.TheVariants as kind
use Rattle.ds_place.specs.declared.place.Place.TheVariants as place
use Rattle.flow_graph.specs.declared.route.Route.{Route}
use Rattle.flow_graph.specs.declared.route.Route.TheVariants as route
use Rattle.flow_graph.specs.declared.route.Choice.{Choice}
use Rattle.ds_place.specs.Places.{place_number}
use Rattle.flow_graph.specs.Runs.{arranged_if}
use Rattle.list_run.specs.Dealt.{dealt}
use Rattle.list_run.specs.Made.{made}
use Rattle.list_run.specs.Routed.{routed, delivered}
use Rattle.op_order.proofs.Runs.{run_by_run_is}

-- each row of some lists
abbrev pub Each : (Row → Type 0) → List (List Row) → Type 0
Each P lists = AllByRecursion (AllByRecursion P) lists

onto_all : (P : Row → Type 0) (same : Row → Row → Bool) (x : Row) (runs : List (List Row)) → P x → Each P runs → Each P (onto_run same x runs)
onto_all P same x [] p h = ((p, tt), tt)
onto_all P same x ([] ∷ runs) p h = ((p, tt), h.1)
onto_all P same x ((y ∷ run) ∷ runs) p h = go (same x y)
  where
    go : (b : Bool) → Each P (cond b ((x ∷ (y ∷ run)) ∷ runs) ((x ∷ []) ∷ ((y ∷ run) ∷ runs)))
    go true = ((p, h.0), h.1)
    go false = ((p, tt), h)

runs_all : (P : Row → Type 0) (same : Row → Row → Bool) (rows : List Row) → AllByRecursion P rows → Each P (runs_of same rows)
runs_all P same [] h = tt
runs_all P same (r ∷ rows) h = onto_all P same r (runs_of same rows) h.0 (runs_all P same rows h.1)

flat_all : (P : Row → Type 0) (f : List Row → List Row) → ((rows : List Row) → AllByRecursion P rows → AllByRecursion P (f rows)) → (lists : List (List Row)) → Each P lists → AllByRecursion P (flat_map f lists)
flat_all P f keeps [] h = tt
flat_all P f keeps (rows ∷ lists) h = all_append P (f rows) (flat_map f lists) (keeps rows h.0) (flat_all P f keeps lists h.1)

pub joined_all : (P : Row → Type 0) (lists : List (List Row)) → Each P lists → AllByRecursion P (joined lists)
joined_all P lists h = flat_all P (λ rows. rows) (λ rows k. k) lists h

pub arranged_all : (P : Row → Type 0) (keys : List Key) (rows : List Row) → AllByRecursion P rows → AllByRecursion P (arranged keys rows)
arranged_all P keys rows h = by_key_all keys (λ same. same) (λ Q rs k. k) P rows h

pub made_all : (P : Row → Type 0) (k : OpKind) (keys : List (List Key)) (rows : List Row) → AllByRecursion P rows → AllByRecursion P (made k keys rows)
made_all P (kind.Tsort key) keys rows h = arranged_all P (get_keys keys 0) rows h
made_all P (kind.Remdup key last) keys rows h =
    subst (AllByRecursion P) (sym (run_by_run_is (get_keys keys 0) (one_row last) rows)) (flat_all P (one_row last) (one_row_all last P) (runs_of (same_key (get_keys keys 0)) rows) (runs_all P (same_key (get_keys keys 0)) rows h))
made_all P k keys rows h = h

pub map_each : (P : Row → Type 0) (f : List Row → List Row) → ((rows : List Row) → AllByRecursion P rows → AllByRecursion P (f rows)) → (lists : List (List Row)) → Each P lists → Each P (map f lists)
map_each P f keeps [] h = tt
map_each P f keeps (rows ∷ lists) h = (keeps rows h.0, map_each P f keeps lists h.1)

-- what each row gives alone
pub rows_all : (P Q : Row → Type 0) (f : Row → List Row) → ((r : Row) → P r → AllByRecursion Q (f r)) → (rows : List Row) → AllByRecursion P rows → AllByRecursion Q (flat_map f rows)
rows_all P Q f gives [] h = tt
rows_all P Q f gives (r ∷ rows) h = all_append Q (f r) (flat_map f rows) (gives r h.0) (rows_all P Q f gives rows h.1)

lane_all : (P : Row → Type 0) (goes : ℕ → Row → ℕ) (j t : ℕ) (rows : List Row) → AllByRecursion P rows → AllByRecursion P (lane goes j t rows)
lane_all P goes j t [] h = tt
lane_all P goes j t (r ∷ rows) h = go (goes t r == j) (lane_all P goes j (suc t) rows h.1)
  where
    go : (b : Bool) → AllByRecursion P (lane goes j (suc t) rows) → AllByRecursion P (cond b (r ∷ lane goes j (suc t) rows) (lane goes j (suc t) rows))
    go true k = (h.0, k)
    go false k = k

lanes_all : (P : Row → Type 0) (goes : ℕ → ℕ → Row → ℕ) (j p : ℕ) (lists : List (List Row)) → Each P lists → Each P (lanes_to goes j p lists)
lanes_all P goes j p [] h = tt
lanes_all P goes j p (rows ∷ lists) h = (lane_all P (goes p) j 0 rows h.0, lanes_all P goes j (suc p) lists h.1)

dealt_all : (P : Row → Type 0) (goes : ℕ → ℕ → Row → ℕ) (n : ℕ) (sent : List (List Row)) → Each P sent → Each P (dealt goes n sent)
dealt_all P goes n sent h = all_each (AllByRecursion P) (λ j. joined (lanes_to goes j 0 sent)) (λ j. joined_all P (lanes_to goes j 0 sent) (lanes_all P goes j 0 sent h)) (range_with_len 0 n)

-- so many of one list
pub all_copies : {X : Type 0} (P : X → Type 0) (x : X) → P x → (n : ℕ) → AllByRecursion P (replicate n x)
all_copies P x h zero = tt
all_copies P x h (suc n) = (h, all_copies P x h n)

at_all : (P : Row → Type 0) (lists : List (List Row)) (i : ℕ) → Each P lists → AllByRecursion P (get_or lists i [])
at_all P [] i h = tt
at_all P (rows ∷ lists) zero h = h.0
at_all P (rows ∷ lists) (suc i) h = at_all P lists i h.1

set_all : (P : Row → Type 0) (lists : List (List Row)) (i : ℕ) (rest : List Row) → Each P lists → AllByRecursion P rest → Each P (set lists i rest)
set_all P [] i rest h k = tt
set_all P (rows ∷ lists) zero rest h k = (k, h.1)
set_all P (rows ∷ lists) (suc i) rest h k = (h.0, set_all P lists i rest h.1 k)

-- an interleaving has the rows of its lists
interleaved_all : (P : Row → Type 0) (lists : List (List Row)) (rows : List Row) → Interleaves lists rows → Each P lists → AllByRecursion P rows
interleaved_all P lists [] i h = tt
interleaved_all P lists (r ∷ rows) i h =
    let here : AllByRecursion P (r ∷ i.1) = subst (AllByRecursion P) i.3 (at_all P lists i.0 h) in
    (here.0, interleaved_all P (set lists i.0 i.1) rows i.4 (set_all P lists i.0 i.1 h here.1))

in_turn_all : (P : Row → Type 0) (sent : List (List Row)) → Each P sent → AllByRecursion P (in_turn sent)
in_turn_all P sent h = interleaved_all P sent (in_turn sent) (turns_interleave sent) h

merged_all : (P : Row → Type 0) (keys : List Key) (sent : List (List Row)) → Each P sent → AllByRecursion P (merged (row_cmp keys) sent)
merged_all P keys sent h = interleaved_all P sent (merged (row_cmp keys) sent) (merge_rows_interleave keys sent (merged (row_cmp keys) sent) (rows_merge keys sent).0) h

routed_all : (P : Row → Type 0) (seq : Bool) (m : Route) (n : ℕ) (sent : List (List Row)) → Each P sent → Each P (routed seq m n sent)
routed_all P true route.RoundRobin n sent h = (in_turn_all P sent h, tt)
routed_all P false route.RoundRobin n sent h = dealt_all P (λ p t r. (p + t) % n) n sent h
routed_all P seq route.Entire n sent h = all_copies (AllByRecursion P) (joined sent) (joined_all P sent h) n
routed_all P seq (route.Hash K) n sent h = dealt_all P (λ p t r. place_number (place.Hash K) r n) n sent h
routed_all P seq (route.Modulus c) n sent h = dealt_all P (λ p t r. place_number (place.Modulus c) r n) n sent h
routed_all P seq (route.Merge keys) n sent h = (merged_all P keys sent h, tt)
routed_all P seq route.Any n sent h = (joined_all P sent h, tt)
routed_all P seq route.Ordered n sent h = (joined_all P sent h, tt)
routed_all P seq m n sent h = h

arranged_if_all : (P : Row → Type 0) (sort : Option (List Key)) (rows : List Row) → AllByRecursion P rows → AllByRecursion P (arranged_if sort rows)
arranged_if_all P None rows h = h
arranged_if_all P (Some keys) rows h = arranged_all P keys rows h

pub delivered_all : (P : Row → Type 0) (seq : Bool) (choice : Choice) (n : ℕ) (sent : List (List Row)) → Each P sent → Each P (delivered seq choice n sent)
delivered_all P seq choice n sent h = map_each P (arranged_if choice.sort) (arranged_if_all P choice.sort) (routed seq choice.method n sent) (routed_all P seq choice.method n sent h)
