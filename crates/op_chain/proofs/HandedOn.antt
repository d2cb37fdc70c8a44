-- What is handed on: wanted as long as the first hasn't ended, and added feed by feed.
use Rattle.std.proofs.Common.{◌≡◌, Bool, true, false, not, cond, List, [], ◌∷◌, ◌++◌, refl, ap, ap₂, sym, ◌∙◌, subst, append_assoc, append-nil}
use Rattle.streams.specs.Streams.{Item, row, end, Feed, has_end, items_of, ended, all_ended, emits_after, IsStream, on}
use Rattle.streams.specs.Chains.{hand_on, passed_after, passed_on, IsOnePort}
use Rattle.streams.proofs.Basics.{and_true, and_left, and_right}
use Rattle.streams.proofs.StreamLaws.{emits-append, items-append, all_at, all_from, not_all, map-append}
use Rattle.op_base.specs.declared.emit.Emit.{Emit}
use Rattle.op_base.specs.Columns.{Row}
use Rattle.op_base.specs.Emits.{Adds}
use Rattle.op_base.specs.Standing.{RowStream, row_feed, end_feed}
use Rattle.op_base.specs.WholeLists.{row_feeds}
use Rattle.op_base.proofs.Adding.{Adds-then}
use Rattle.op_base.proofs.ListFeeds.{one_more}
use Rattle.op_base.proofs.StandingLaws.{ended-row, ended-end}
use Rattle.op_chain.specs.InTurn.{handed_feeds, suits_each}

open_rows : (before : List (Feed Row)) (rows : List Row) → ended 0 (before ++ row_feeds rows) ≡ ended 0 before
open_rows before [] = ap (ended 0) (append-nil before)
open_rows before (r ∷ rows) = ap (ended 0) (sym (append_assoc before (row_feed 0 r ∷ []) (row_feeds rows))) ∙ open_rows (before ++ row_feed 0 r ∷ []) rows ∙ ended-row 0 before 0 r

ended_handed : (before : List (Feed Row)) (rows : List Row) (over : Bool) → ended 0 (before ++ handed_feeds rows over) ≡ cond over true (ended 0 before)
ended_handed before rows true = ap (ended 0) (sym (append_assoc before (row_feeds rows) (end_feed 0 ∷ []))) ∙ ended-end 0 (before ++ row_feeds rows)
ended_handed before rows false = ap (λ t. ended 0 (before ++ t)) (append-nil (row_feeds rows)) ∙ open_rows before rows

has_end-left : {X : Type 0} (xs ys : List (Item X)) → has_end xs ≡ true → has_end (xs ++ ys) ≡ true
has_end-left [] ys h = let e : false ≡ true = h in cc
has_end-left (row x ∷ xs) ys h = has_end-left xs ys h
has_end-left (end ∷ xs) ys h = refl

-- what has ended stays so
end_stays : (a : RowStream) (xs ys : List (Feed Row)) → all_ended a xs ≡ true → all_ended a (xs ++ ys) ≡ true
end_stays a xs ys h = all_from a.ports (λ i. ended i (xs ++ ys)) (λ k lt. ap has_end (items-append k xs ys) ∙ has_end-left (items_of k xs) (items_of k ys) (all_at a.ports (λ i. ended i xs) h k lt))

keeps : (t u : Bool) → (u ≡ true → t ≡ true) → cond t true u ≡ t
keeps true u h = refl
keeps false true h = let e : false ≡ true = h refl in cc
keeps false false h = refl

passed_after_ended : (a : RowStream) (before done feeds : List (Feed Row)) → ended 0 before ≡ all_ended a done → ended 0 (before ++ passed_after a done feeds) ≡ all_ended a (done ++ feeds)
passed_after_ended a before done [] e = ap (ended 0) (append-nil before) ∙ e ∙ ap (all_ended a) (sym (append-nil done))
passed_after_ended a before done (f ∷ feeds) e =
    let over : Bool = all_ended a (done ++ f ∷ []) in
    let step : ended 0 (before ++ hand_on a done f) ≡ over = ended_handed before (on 0 (a.gives done f)) over ∙ keeps over (ended 0 before) (λ h. end_stays a done (f ∷ []) (sym e ∙ h)) in
    ap (ended 0) (sym (append_assoc before (hand_on a done f) (passed_after a (done ++ f ∷ []) feeds)))
    ∙ passed_after_ended a (before ++ hand_on a done f) (done ++ f ∷ []) feeds step
    ∙ ap (all_ended a) (append_assoc done (f ∷ []) feeds)

-- the second's port has ended exactly where the first has
pub passed_ended : (a : RowStream) → IsStream a → (feeds : List (Feed Row)) → ended 0 (passed_on a feeds) ≡ all_ended a feeds
passed_ended a is feeds = passed_after_ended a [] [] feeds (sym (not_all a.ports (λ i. false) 0 is.some refl))

passed-append : (a : RowStream) (done xs ys : List (Feed Row)) → passed_after a done (xs ++ ys) ≡ passed_after a done xs ++ passed_after a (done ++ xs) ys
passed-append a done [] ys = ap (λ d. passed_after a d ys) (sym (append-nil done))
passed-append a done (x ∷ xs) ys =
    ap (λ t. hand_on a done x ++ t) (passed-append a (done ++ x ∷ []) xs ys) ∙ sym (append_assoc (hand_on a done x) _ _)
    ∙ ap (λ d. (hand_on a done x ++ passed_after a (done ++ x ∷ []) xs) ++ passed_after a d ys) (append_assoc done (x ∷ []) xs)

pub passed-more : (a : RowStream) (feeds : List (Feed Row)) (f : Feed Row) → passed_on a (feeds ++ f ∷ []) ≡ passed_on a feeds ++ hand_on a feeds f
passed-more a feeds f = passed-append a [] feeds (f ∷ []) ∙ ap (λ t. passed_on a feeds ++ t) (append-nil _)

pub suits_append : (suits : List (Feed Row) → Bool) (done xs ys : List (Feed Row)) → suits_each suits done (xs ++ ys) ≡ true → (suits_each suits done xs ≡ true) × (suits_each suits (done ++ xs) ys ≡ true)
suits_append suits done [] ys h = (refl, ap (λ d. suits_each suits d ys) (append-nil done) ∙ h)
suits_append suits done (x ∷ xs) ys h =
    let rest = suits_append suits (done ++ x ∷ []) xs ys (and_right _ _ h) in
    (and_true (and_left _ _ h) rest.0, ap (λ d. suits_each suits d ys) (sym (append_assoc done (x ∷ []) xs)) ∙ rest.1)

pub suits_row : (suits : List (Feed Row) → Bool) (before : List (Feed Row)) (yielded rest rows : List Row) (r : Row) → yielded ++ r ∷ rest ≡ rows → suits_each suits before (row_feeds rows) ≡ true → suits ((before ++ row_feeds yielded) ++ row_feed 0 r ∷ []) ≡ true
suits_row suits before yielded rest rows r e h =
    and_left _ _ (suits_append suits before (row_feeds yielded) (row_feeds (r ∷ rest)) (ap (suits_each suits before) (sym (map-append (row_feed 0) yielded (r ∷ rest)) ∙ ap row_feeds e) ∙ h)).1

pub suits_end : (suits : List (Feed Row) → Bool) (before : List (Feed Row)) (rows : List Row) (over : Bool) → over ≡ true → suits_each suits before (handed_feeds rows over) ≡ true → suits ((before ++ row_feeds rows) ++ end_feed 0 ∷ []) ≡ true
suits_end suits before rows over e h =
    and_left _ _ (suits_append suits before (row_feeds rows) (end_feed 0 ∷ []) (ap (λ o. suits_each suits before (handed_feeds rows o)) (sym e) ∙ h)).1

pub wanted_still : (s : RowStream) → IsOnePort s → (before : List (Feed Row)) (rows : List Row) → ended 0 before ≡ false → s.wants (before ++ row_feeds rows) 0 ≡ true
wanted_still s one before rows runs = one.until (before ++ row_feeds rows) 0 ∙ and_true refl (ap not (open_rows before rows ∙ runs))

pub step_feeds : (before : List (Feed Row)) (rows : List Row) (r : Row) → (before ++ row_feeds rows) ++ row_feed 0 r ∷ [] ≡ before ++ row_feeds (rows ++ r ∷ [])
step_feeds before rows r = append_assoc before (row_feeds rows) (row_feed 0 r ∷ []) ∙ ap (λ t. before ++ t) (sym (one_more rows r))

pub one_added : (s t : RowStream) (before feeds : List (Feed Row)) (f : Feed Row) (a b c : Emit) → t ≡ s → Adds a b (emits_after s before feeds) → Adds b c (t.gives (before ++ feeds) f) → Adds a c (emits_after s before (feeds ++ f ∷ []))
one_added s t before feeds f a b c same sofar added =
    subst (Adds a c) (sym (emits-append s before feeds (f ∷ []) ∙ ap (λ outs. emits_after s before feeds ++ outs) (append-nil (s.gives (before ++ feeds) f))))
    (Adds-then a b c (emits_after s before feeds) (s.gives (before ++ feeds) f) sofar (subst (λ (u : RowStream). Adds b c (u.gives (before ++ feeds) f)) same added))

pub row_added : (s t : RowStream) (before : List (Feed Row)) (rows : List Row) (r : Row) (a b c : Emit) → t ≡ s → Adds a b (emits_after s before (row_feeds rows)) → Adds b c (t.gives (before ++ row_feeds rows) (row_feed 0 r)) → Adds a c (emits_after s before (row_feeds (rows ++ r ∷ [])))
row_added s t before rows r a b c same sofar added =
    subst (λ feeds. Adds a c (emits_after s before feeds)) (sym (one_more rows r)) (one_added s t before (row_feeds rows) (row_feed 0 r) a b c same sofar added)

pub handed_open : (rows : List Row) (over : Bool) → over ≡ false → row_feeds rows ≡ handed_feeds rows over
handed_open rows over e = sym (append-nil (row_feeds rows)) ∙ ap (handed_feeds rows) (sym e)

pub handed_over : (rows : List Row) (over : Bool) → over ≡ true → row_feeds rows ++ end_feed 0 ∷ [] ≡ handed_feeds rows over
handed_over rows over e = ap (handed_feeds rows) (sym e)

pub handed_is : (a : RowStream) (feeds : List (Feed Row)) (f : Feed Row) (rows : List Row) (over : Bool) → rows ≡ on 0 (a.gives feeds f) → over ≡ all_ended a (feeds ++ f ∷ []) → handed_feeds rows over ≡ hand_on a feeds f
handed_is a feeds f rows over r o = ap₂ handed_feeds r o
