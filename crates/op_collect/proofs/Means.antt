-- What the collectors and funnels give of whole lists.
use Rattle.std.proofs.Common.{◌≡◌, ℕ, zero, suc, Bool, true, false, cond, refl, sym, ap, ap₂, ◌∙◌, List, [], ◌∷◌, ◌++◌, map, Option, Some, None}
use Rattle.std.proofs.lemmas.Cmp.{tied_itself}
use Rattle.std.specs.Cmp.{IsTotalOrder}
use Rattle.std.specs.Ordering.{is_lt, ordering_reverse}
use Rattle.std.specs.declared.cmp.Ordering.{Ordering}
use Rattle.std.specs.declared.cmp.Ordering.TheVariants.{Less, Equal, Greater}
use Rattle.streams.specs.Lists.{IsOrder, lists_from, joined_from}
use Rattle.streams.specs.Streams.{Item, row, end, Feed, Out, sends, rows_out, emits_after, Gives}
use Rattle.streams.specs.Operators.{passing, Front, front_outs, best_of, after, Waiting, waiting_with, merge_ready, merge_machine, any_stream, ordered_stream, round_robin_stream, merge_stream}
use Rattle.streams.proofs.Collected.{collectors_fit}
use Rattle.streams.proofs.StreamLaws.{map-append, rows_out-append}
use Rattle.ds_schema.specs.declared.key.Key.{Key}
use Rattle.ds_schema.specs.Rows.{row_cmp}
use Rattle.op_base.specs.declared.fault.Fault.{Fault}
use Rattle.op_base.specs.Columns.{Row}
use Rattle.op_base.specs.Lists.{joined}
use Rattle.op_base.specs.Standing.{RowStream}
use Rattle.op_base.proofs.Merging.{merge_rows_is}
use Rattle.op_base.proofs.Orders.{row_total}
use Rattle.op_collect.specs.AreStreams.{ordered_is, round_is, sort_merge_is, gather_is}
use Rattle.op_collect.specs.Laws.{OrderedJoins, RoundTakesTurns, SortMergeMerges, SortMergeArranges, GatherInterleaves}
use Rattle.op_collect.proofs.Turns.{round_gives}

-- rows on output 0, and nothing else
abbrev OnlyRows : List (Out Row Fault) → Type 0
OnlyRows outs = outs ≡ map (sends 0) (rows_out outs)

only_passing : (item : Item Row) → OnlyRows (passing item)
only_passing (row x) = refl
only_passing end = refl

only_front : (b : Bool) (o : Option (Front Row)) → OnlyRows (cond b (front_outs o) [])
only_front true None = refl
only_front true (Some f) = refl
only_front false o = refl

all_rows : (s : RowStream) → ((done : List (Feed Row)) (f : Feed Row) → OnlyRows (s.gives done f)) → (done feeds : List (Feed Row)) → OnlyRows (emits_after s done feeds)
all_rows s only done [] = refl
all_rows s only done (f ∷ feeds) =
    ap₂ (λ xs ys. xs ++ ys) (only done f) (all_rows s only (done ++ f ∷ []) feeds) ∙ sym (map-append (sends 0) (rows_out (s.gives done f)) (rows_out (emits_after s (done ++ f ∷ []) feeds)))
    ∙ ap (map (sends 0)) (sym (rows_out-append (s.gives done f) (emits_after s (done ++ f ∷ []) feeds)))

given_rows : (s : RowStream) → ((done : List (Feed Row)) (f : Feed Row) → OnlyRows (s.gives done f)) → (lists : ℕ → List Row) (outs : List (Out Row Fault)) → Gives s lists outs → OnlyRows outs
given_rows s only lists outs g = sym g.made ∙ all_rows s only [] g.feeds ∙ ap (λ o. map (sends 0) (rows_out o)) g.made

only_merged : (n : ℕ) (keys : List Key) (done : List (Feed Row)) (f : Feed Row) → OnlyRows ((merge_stream {F = Fault} n (row_cmp keys)).gives done f)
only_merged n keys done f =
    let s : Waiting Row = after (merge_machine {F = Fault} n (row_cmp keys)) (merge_machine {F = Fault} n (row_cmp keys)).start done in
    let t : Waiting Row = waiting_with s f.port f.item in
    only_front (merge_ready n t) (best_of (row_cmp keys) n t.rows)

joined_lists : (lists : ℕ → List Row) (p k : ℕ) → joined_from lists p k ≡ joined (lists_from lists p k)
joined_lists lists p zero = refl
joined_lists lists p (suc k) = ap (λ t. lists p ++ t) (joined_lists lists (suc p) k)

-- the order of rows is one that a merge needs
pub is_order : {X : Type 0} {R : X → X → Ordering} → IsTotalOrder R → IsOrder R
is_order {X} {R} o = record {
  itself = λ x. ap is_lt (tied_itself o x);
  below = λ x b y lt ge. under x b y (R x b) refl (R y b) refl lt ge;
  one_way = λ x y lt. ap is_lt (o.antisymm y x ∙ ap ordering_reverse lt);
}
  where
    under : (x b y : X) (c : Ordering) → R x b ≡ c → (d : Ordering) → R y b ≡ d → is_lt (R x b) ≡ true → is_lt (R y b) ≡ false → R x y ≡ Less
    under x b y Equal e d f lt ge = absurd (let h : true ≡ false = sym lt ∙ ap is_lt e in cc)
    under x b y Greater e d f lt ge = absurd (let h : true ≡ false = sym lt ∙ ap is_lt e in cc)
    under x b y Less e Less f lt ge = absurd (let h : true ≡ false = sym (ap is_lt f) ∙ ge in cc)
    under x b y Less e Equal f lt ge = o.antisymm x y ∙ ap ordering_reverse (o.congr y b x f) ∙ sym (o.antisymm x b) ∙ e
    under x b y Less e Greater f lt ge = o.trans x b y e (o.antisymm b y ∙ ap ordering_reverse f)

-- the laws
pub ordered_joins : OrderedJoins
ordered_joins n some = (
  ordered_is n some,
  λ lists outs g. (rows_out outs, given_rows (ordered_stream n) (λ done f. only_passing f.item) lists outs g, ((collectors_fit Row Fault).ordered n some).2 lists outs g ∙ joined_lists lists 0 n),
)

pub round_takes_turns : RoundTakesTurns
round_takes_turns n some = (round_is n some, λ lists outs g. (rows_out outs, given_rows (round_robin_stream n) (λ done f. only_passing f.item) lists outs g, round_gives n some lists outs g))

pub sort_merge_merges : SortMergeMerges
sort_merge_merges n keys some = (
  sort_merge_is n keys some,
  λ lists outs g. (rows_out outs, given_rows (merge_stream n (row_cmp keys)) (only_merged n keys) lists outs g, ((collectors_fit Row Fault).merge n some (row_cmp keys)).2 (is_order (row_total keys)) lists outs g),
)

pub sort_merge_arranges : SortMergeArranges
sort_merge_arranges n keys some lists outs g =
    let merged = (sort_merge_merges n keys some).1 lists outs g in
    (merged.0, merged.1, λ up. merge_rows_is keys (lists_from lists 0 n) merged.0 up merged.2)

pub gather_interleaves : GatherInterleaves
gather_interleaves n some = (gather_is n some, λ lists outs g. (rows_out outs, given_rows (any_stream n) (λ done f. only_passing f.item) lists outs g, ((collectors_fit Row Fault).any n some).1 lists outs g))
