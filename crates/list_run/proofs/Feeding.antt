-- Rows and their end, fed to an operator with one port.
use Rattle.std.proofs.Common.{◌≡◌, ℕ, zero, suc, ◌<◌, Bool, true, not, ◌&&◌, refl, ap, ◌∙◌, subst, List, [], ◌∷◌, ◌++◌, map, append-nil, arith}
use Rattle.std.specs.Prelude.{nat_lt}
use Rattle.streams.specs.Streams.{row, end, Feed, Out, sends, fails, items_of, ended, all_below, all_ended, has_end, emits, FedAfter, whole, Gives, rows_out}
use Rattle.streams.proofs.StreamLaws.{emits-append, fed-more, items-append, no_end, map-append}
use Rattle.op_base.specs.declared.fault.Fault.{Fault}
use Rattle.op_base.specs.declared.emit.Emit.{Emit}
use Rattle.op_base.specs.declared.emit.Sent.{Sent}
use Rattle.op_base.specs.Columns.{Row}
use Rattle.op_base.specs.Emits.{Adds, IsFresh, rows_sent}
use Rattle.op_base.specs.Standing.{RowStream, row_feed, end_feed, MayFeed}
use Rattle.op_base.proofs.Adding.{Adds-then}
use Rattle.op_base.proofs.StandingLaws.{ended-end}
use Rattle.list_run.specs.Fed.{IsOnePort, row_feeds, sent_rows}

pub feeds-more : (rows : List Row) (r : Row) → row_feeds (rows ++ r ∷ []) ≡ row_feeds rows ++ row_feed 0 r ∷ []
feeds-more rows r = map-append (row_feed 0) rows (r ∷ [])

items-rows : (rows : List Row) → items_of 0 (row_feeds rows) ≡ map row rows
items-rows [] = refl
items-rows (r ∷ rows) = ap (λ t. row r ∷ t) (items-rows rows)

pub open_still : (stream : RowStream) → IsOnePort stream → (rows : List Row) → stream.wants (row_feeds rows) 0 ≡ true
open_still stream one rows = one.wants (row_feeds rows) 0 ∙ ap (λ b. nat_lt 0 1 && not b) (ap has_end (items-rows rows) ∙ no_end rows)

pub may_feed : (now first : RowStream) (suits suited : List (Feed Row) → Bool) (Stands : List (Feed Row) → Type 0) (rows : List Row) (f : Feed Row) → f.port ≡ 0 → now ≡ first → suits ≡ suited → IsOnePort first → ((feeds : List (Feed Row)) → suited feeds ≡ true) → Stands (row_feeds rows) → MayFeed now suits Stands f
may_feed now first suits suited Stands rows f at same like one fine stands = record {
  feeds = row_feeds rows;
  stands = stands;
  wanted = ap (λ s. s.wants (row_feeds rows) f.port) same ∙ ap (first.wants (row_feeds rows)) at ∙ open_still first one rows;
  suited = ap (λ t. t (row_feeds rows ++ f ∷ [])) like ∙ fine (row_feeds rows ++ f ∷ []);
}

pub emits-more : (stream : RowStream) (rows : List Row) (r : Row) → emits stream (row_feeds (rows ++ r ∷ [])) ≡ emits stream (row_feeds rows) ++ stream.gives (row_feeds rows) (row_feed 0 r)
emits-more stream rows r = ap (emits stream) (feeds-more rows r) ∙ emits-append stream [] (row_feeds rows) (row_feed 0 r ∷ []) ∙ ap (λ t. emits stream (row_feeds rows) ++ t) (append-nil (stream.gives (row_feeds rows) (row_feed 0 r)))

pub ended_all : (now first : RowStream) (rows : List Row) → now ≡ first → IsOnePort first → all_ended now (row_feeds rows ++ end_feed 0 ∷ []) ≡ true
ended_all now first rows same one = ap (λ s. all_ended s (row_feeds rows ++ end_feed 0 ∷ [])) same ∙ ap (λ n. all_below n (λ i. ended i (row_feeds rows ++ end_feed 0 ∷ []))) one.one ∙ ap (λ b. b && true) (ended-end 0 (row_feeds rows))

fed_rows : (stream : RowStream) → IsOnePort stream → (done rows : List Row) → FedAfter stream (row_feeds done) (row_feeds rows)
fed_rows stream one done [] = tt
fed_rows stream one done (r ∷ rows) = (open_still stream one done, subst (λ feeds. FedAfter stream feeds (row_feeds rows)) (feeds-more done r) (fed_rows stream one (done ++ r ∷ []) rows))

pub gives_all : (stream : RowStream) → IsOnePort stream → (rows : List Row) → Gives stream (λ i. rows) (emits stream (row_feeds rows) ++ stream.gives (row_feeds rows) (end_feed 0))
gives_all stream one rows = record {
  feeds = row_feeds rows ++ end_feed 0 ∷ [];
  fed = fed-more stream [] (row_feeds rows) (end_feed 0) (fed_rows stream one [] rows) (open_still stream one rows);
  taken = λ i l. taken i (subst (λ n. i < n) one.one l);
  made = emits-append stream [] (row_feeds rows) (end_feed 0 ∷ []) ∙ ap (λ t. emits stream (row_feeds rows) ++ t) (append-nil (stream.gives (row_feeds rows) (end_feed 0)));
}
  where
    taken : (i : ℕ) → i < 1 → items_of i (row_feeds rows ++ end_feed 0 ∷ []) ≡ whole rows
    taken zero l = items-append 0 (row_feeds rows) (end_feed 0 ∷ []) ∙ ap (λ t. t ++ end ∷ []) (items-rows rows)
    taken (suc i) l = absurd (omega (arith, l))

pub sent-more : (sent : List Sent) (s : Sent) → sent_rows (sent ++ s ∷ []) ≡ sent_rows sent ++ s.row ∷ []
sent-more [] s = refl
sent-more (t ∷ sent) s = ap (λ u. t.row ∷ u) (sent-more sent s)

sent-out : (outs : List (Out Row Fault)) → sent_rows (rows_sent outs) ≡ rows_out outs
sent-out [] = refl
sent-out (sends port r ∷ outs) = ap (λ t. r ∷ t) (sent-out outs)
sent-out (fails f ∷ outs) = sent-out outs

-- what is emitted in all, from nothing
pub emitted : (a b c d : Emit) (xs ys : List (Out Row Fault)) → IsFresh a → Adds a b xs → Adds b c ys → Adds c d [] → sent_rows d.sent ≡ rows_out (xs ++ ys)
emitted a b c d xs ys fresh f g h =
    let all = Adds-then a b c xs ys f g in
    ap sent_rows (h.sent ∙ append-nil c.sent ∙ all.sent ∙ ap (λ s. s ++ rows_sent (xs ++ ys)) fresh.sent) ∙ sent-out (xs ++ ys)
