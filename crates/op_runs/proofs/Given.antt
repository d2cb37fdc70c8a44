-- What one more feed makes a stream by keys give and leave, and what it gives of whole lists.
use Rattle.std.proofs.Common.{◌≡◌, ℕ, suc, ◌+◌, ◌<◌, Bool, true, refl, sym, ap, ap₂, ◌∙◌, List, [], ◌∷◌, ◌++◌, map, drop, length, append_assoc, append-nil, arith}
use Rattle.std.proofs.Math.Seq.{drop-append_seam}
use Rattle.streams.specs.Streams.{Item, row, end, Feed, Out, has_end, rows, ended, rows_of, emits_after, FedAfter, whole, Gives}
use Rattle.streams.proofs.StreamLaws.{rows-whole}
use Rattle.op_base.specs.declared.fault.Fault.{Fault}
use Rattle.op_base.specs.Columns.{Row}
use Rattle.op_base.specs.Feeds.{IsOpen, by_runs, emits, emits_in, end_at, fed, left, rows_in}
use Rattle.op_base.specs.Standing.{row_feed, end_feed}
use Rattle.op_base.proofs.FeedLaws.{by_runs_is}
use Rattle.op_base.proofs.Feeding.{emits_ended, end_adds, end_emits, fed_adds, feed_emits, left_more}
use Rattle.op_runs.specs.KeyedStreams.{KeyRule, at_ports, port_rows, port_ends, given, waiting, keyed_stream}
use Rattle.op_runs.specs.Laws.{RunsAreGiven, ValuesAreGiven}
use Rattle.op_runs.proofs.Ports.{at_ports-agree, port_rows-row, port_ends-row, port_rows-end, port_ends-end, port_open, length-ports}
use Rattle.op_runs.proofs.Settled.{wanted_open}

has_end-whole : (xs : List Row) → has_end (whole xs) ≡ true
has_end-whole [] = refl
has_end-whole (x ∷ xs) = has_end-whole xs

all_true : (s : ℕ) (columns : List (List ℕ)) → at_ports (λ i. true) s (length columns) ≡ map (λ cs. true) columns
all_true s [] = refl
all_true s (cs ∷ columns) = ap (λ t. true ∷ t) (all_true (suc s) columns)

no_rows : (s : ℕ) (columns : List (List ℕ)) → rows_in columns (at_ports (λ i. []) s (length columns)) ≡ 0
no_rows s [] = refl
no_rows s (cs ∷ columns) = let h = no_rows (suc s) columns in omega (arith, h)

module _ (ds : List Bool) (columns : List (List ℕ)) (rule : KeyRule) where
  opens : (feeds : List (Feed Row)) (p : ℕ) → (keyed_stream ds columns rule).wants feeds p ≡ true → IsOpen p (port_ends (length columns) feeds)
  opens feeds p w = let o = wanted_open ds columns rule feeds p w in port_open (length columns) p feeds o.0 o.1

  more_row : (feeds : List (Feed Row)) (p : ℕ) (r : Row) → (keyed_stream ds columns rule).wants feeds p ≡ true →
      given ds columns rule (feeds ++ row_feed p r ∷ []) ≡ given ds columns rule feeds ++ emits ds columns rule (port_ends (length columns) feeds) (fed p r (waiting ds columns feeds))
  more_row feeds p r w =
      ap₂ (emits ds columns rule) (port_ends-row (length columns) p r feeds) (port_rows-row (length columns) p r feeds)
      ∙ feed_emits ds columns rule (port_ends (length columns) feeds) p r (port_rows (length columns) feeds) (opens feeds p w)

  more_end : (feeds : List (Feed Row)) (p : ℕ) →
      given ds columns rule (feeds ++ end_feed p ∷ []) ≡ given ds columns rule feeds ++ emits ds columns rule (end_at p (port_ends (length columns) feeds)) (waiting ds columns feeds)
  more_end feeds p =
      ap₂ (emits ds columns rule) (port_ends-end (length columns) p feeds) (port_rows-end (length columns) p feeds)
      ∙ end_emits ds columns rule (port_ends (length columns) feeds) p (port_rows (length columns) feeds)

  -- what one more feed makes it give is what the waiting rows give with it
  pub gives-row : (feeds : List (Feed Row)) (p : ℕ) (r : Row) → (keyed_stream ds columns rule).wants feeds p ≡ true →
      (keyed_stream ds columns rule).gives feeds (row_feed p r) ≡ emits ds columns rule (port_ends (length columns) feeds) (fed p r (waiting ds columns feeds))
  gives-row feeds p r w = ap (drop (length (given ds columns rule feeds))) (more_row feeds p r w) ∙ drop-append_seam (given ds columns rule feeds) _

  pub gives-end : (feeds : List (Feed Row)) (p : ℕ) →
      (keyed_stream ds columns rule).gives feeds (end_feed p) ≡ emits ds columns rule (end_at p (port_ends (length columns) feeds)) (waiting ds columns feeds)
  gives-end feeds p = ap (drop (length (given ds columns rule feeds))) (more_end feeds p) ∙ drop-append_seam (given ds columns rule feeds) _

  -- and what waits then is what they leave with it
  pub waiting-row : (feeds : List (Feed Row)) (p : ℕ) (r : Row) → (keyed_stream ds columns rule).wants feeds p ≡ true →
      waiting ds columns (feeds ++ row_feed p r ∷ []) ≡ left ds columns (port_ends (length columns) feeds) (fed p r (waiting ds columns feeds))
  waiting-row feeds p r w =
      ap₂ (left ds columns) (port_ends-row (length columns) p r feeds) (port_rows-row (length columns) p r feeds)
      ∙ left_more (rows_in columns (port_rows (length columns) feeds)) ds columns (port_ends (length columns) feeds) (port_ends (length columns) feeds) (fed p r) (fed_adds columns (port_ends (length columns) feeds) p r (opens feeds p w)) (port_rows (length columns) feeds) (omega arith)

  pub waiting-end : (feeds : List (Feed Row)) (p : ℕ) →
      waiting ds columns (feeds ++ end_feed p ∷ []) ≡ left ds columns (end_at p (port_ends (length columns) feeds)) (waiting ds columns feeds)
  waiting-end feeds p =
      ap₂ (left ds columns) (port_ends-end (length columns) p feeds) (port_rows-end (length columns) p feeds)
      ∙ left_more (rows_in columns (port_rows (length columns) feeds)) ds columns (port_ends (length columns) feeds) (end_at p (port_ends (length columns) feeds)) (λ xs. xs) (end_adds columns (port_ends (length columns) feeds) p) (port_rows (length columns) feeds) (omega arith)

  grows : (done : List (Feed Row)) (f : Feed Row) → (keyed_stream ds columns rule).wants done f.port ≡ true → given ds columns rule (done ++ f ∷ []) ≡ given ds columns rule done ++ (keyed_stream ds columns rule).gives done f
  grows done f w = go f.item
    where
      go : (item : Item Row) → given ds columns rule (done ++ record { port = f.port; item = item } ∷ []) ≡ given ds columns rule done ++ (keyed_stream ds columns rule).gives done (record { port = f.port; item = item })
      go (row r) = more_row done f.port r w ∙ ap (λ t. given ds columns rule done ++ t) (sym (gives-row done f.port r w))
      go end = more_end done f.port ∙ ap (λ t. given ds columns rule done ++ t) (sym (gives-end done f.port))

  given_after : (done feeds : List (Feed Row)) → FedAfter (keyed_stream ds columns rule) done feeds → given ds columns rule (done ++ feeds) ≡ given ds columns rule done ++ emits_after (keyed_stream ds columns rule) done feeds
  given_after done [] h = ap (given ds columns rule) (append-nil done) ∙ sym (append-nil (given ds columns rule done))
  given_after done (f ∷ feeds) h =
      ap (given ds columns rule) (sym (append_assoc done (f ∷ []) feeds))
      ∙ given_after (done ++ f ∷ []) feeds h.1
      ∙ ap (λ t. t ++ emits_after (keyed_stream ds columns rule) (done ++ f ∷ []) feeds) (grows done f h.0)
      ∙ append_assoc (given ds columns rule done) ((keyed_stream ds columns rule).gives done f) (emits_after (keyed_stream ds columns rule) (done ++ f ∷ []) feeds)

  given_none : given ds columns rule [] ≡ []
  given_none = ap (λ k. emits_in k ds columns rule (port_ends (length columns) []) (port_rows (length columns) [])) (no_rows 0 columns)

  whole_runs : (lists : ℕ → List Row) (outs : List (Out Row Fault)) → Gives (keyed_stream ds columns rule) lists outs → outs ≡ by_runs ds columns rule (at_ports lists 0 (length columns))
  whole_runs lists outs g =
      sym g.made
      ∙ sym (given_after [] g.feeds g.fed ∙ ap (λ t. t ++ emits_after (keyed_stream ds columns rule) [] g.feeds) given_none)
      ∙ ap₂ (emits ds columns rule)
      (at_ports-agree (λ i. ended i g.feeds) (λ i. true) 0 (length columns) (λ j l m. ap has_end (g.taken j (below j m)) ∙ has_end-whole (lists j)) ∙ all_true 0 columns)
      (at_ports-agree (λ i. rows_of i g.feeds) lists 0 (length columns) (λ j l m. ap rows (g.taken j (below j m)) ∙ rows-whole (lists j)))
      ∙ emits_ended (rows_in columns (at_ports lists 0 (length columns))) ds columns rule (at_ports lists 0 (length columns)) (sym (length-ports lists 0 (length columns)))
    where
      below : (j : ℕ) → j < 0 + length columns → j < length columns
      below j m = omega (arith, m)

pub runs_given : RunsAreGiven
runs_given ds columns rule lists outs g = whole_runs ds columns rule lists outs g

pub values_given : ValuesAreGiven
values_given ds columns rule lists outs up g = whole_runs ds columns rule lists outs g ∙ by_runs_is ds columns rule (at_ports lists 0 (length columns)) up
