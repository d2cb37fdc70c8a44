-- What a collector emits of whole lists.
use Rattle.std.proofs.Common.{◌≡◌, ◌<◌, ℕ, zero, suc, refl, sym, ap, ap₂, ◌∙◌, subst, List, [], ◌∷◌, length, map, get_or}
use Rattle.streams.specs.Lists.{Merges, lists_from}
use Rattle.streams.specs.Operators.{merge_stream, round_robin_stream}
use Rattle.streams.specs.Streams.{Out, sends}
use Rattle.ds_schema.specs.declared.key.Key.{Key}
use Rattle.ds_schema.specs.Rows.{row_cmp}
use Rattle.op_base.specs.declared.emit.Emit.{Emit}
use Rattle.op_base.specs.declared.emit.Sent.{Sent}
use Rattle.op_base.specs.declared.fault.Fault.{Fault}
use Rattle.op_base.specs.Columns.{Row}
use Rattle.op_base.specs.Emits.{rows_sent}
use Rattle.op_base.specs.Lists.{in_turn}
use Rattle.op_base.specs.Standing.{RowStream}
use Rattle.op_collect.specs.Merged.{merged}
use Rattle.op_collect.proofs.Means.{round_takes_turns, sort_merge_merges}
use Rattle.op_collect.proofs.OneMerge.{rows_merge}
use Rattle.run_ports.specs.PortLists.{HasRun, list_of}

abbrev sent_rows : List Sent → List Row
sent_rows sent = map (λ (s : Sent). s.row) sent

sent_is : (rows : List Row) → sent_rows (rows_sent (map (sends 0) rows)) ≡ rows
sent_is [] = refl
sent_is (r ∷ rows) = ap (λ rs. r ∷ rs) (sent_is rows)

behind : (xs : List Row) (lists : List (List Row)) (p k : ℕ) → lists_from (list_of (xs ∷ lists)) (suc p) k ≡ lists_from (list_of lists) p k
behind xs lists p zero = refl
behind xs lists p (suc k) = ap (λ ls. get_or lists p [] ∷ ls) (behind xs lists (suc p) k)

all_lists : (lists : List (List Row)) → lists_from (list_of lists) 0 (length lists) ≡ lists
all_lists [] = refl
all_lists (xs ∷ lists) = ap (λ ls. xs ∷ ls) (behind xs lists 0 (length lists) ∙ all_lists lists)

-- the rows of a run that gives such rows of these lists
module _ (lists fed : List (List Row)) (stream : RowStream) (emit : Emit) (rows : List Row) (are : rows ≡ sent_rows emit.sent) where
  found : (n : ℕ) (given : RowStream) (outs : List (Out Row Fault)) (made : List Row) → emit.sent ≡ rows_sent outs → outs ≡ map (sends 0) made → rows ≡ made
  found n given outs made sent is = are ∙ (ap sent_rows sent ∙ (ap (λ (os : List (Out Row Fault)). sent_rows (rows_sent os)) is ∙ sent_is made))

  pub merge_given : (keys : List Key) (n : ℕ) → 0 < n → n ≡ length lists → fed ≡ lists → stream ≡ merge_stream n (row_cmp keys) → HasRun stream (list_of fed) emit → rows ≡ merged (row_cmp keys) lists
  merge_given keys n some count same is run =
      let here : HasRun (merge_stream n (row_cmp keys)) (list_of lists) emit = subst (λ (s : RowStream). HasRun s (list_of lists) emit) is (subst (λ (ls : List (List Row)). HasRun stream (list_of ls) emit) same run) in
      let made = (sort_merge_merges n keys some).1 (list_of lists) here.outs here.gives in
      let merges : Merges (row_cmp keys) lists made.0 = subst (λ (ls : List (List Row)). Merges (row_cmp keys) ls made.0) (ap (lists_from (list_of lists) 0) count ∙ all_lists lists) made.2 in
      found n stream here.outs made.0 here.emitted.sent made.1 ∙ (rows_merge keys lists).1 made.0 merges

  pub turns_given : (n : ℕ) → 0 < n → n ≡ length lists → fed ≡ lists → stream ≡ round_robin_stream n → HasRun stream (list_of fed) emit → rows ≡ in_turn lists
  turns_given n some count same is run =
      let here : HasRun (round_robin_stream n) (list_of lists) emit = subst (λ (s : RowStream). HasRun s (list_of lists) emit) is (subst (λ (ls : List (List Row)). HasRun stream (list_of ls) emit) same run) in
      let made = (round_takes_turns n some).1 (list_of lists) here.outs here.gives in
      found n stream here.outs made.0 here.emitted.sent made.1 ∙ (made.2 ∙ ap in_turn (ap (lists_from (list_of lists) 0) count ∙ all_lists lists))
