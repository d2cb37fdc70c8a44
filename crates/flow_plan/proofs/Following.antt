-- A stream over rows, as one over data.
use Rattle.std.proofs.Common.{◌≡◌, inl, inr, ℕ, zero, suc, ◌<◌, ◌==◌, Bool, true, false, cond, refl, sym, ap, ap₂, ◌∙◌, subst, List, [], ◌∷◌, ◌++◌, map}
use Rattle.std.specs.Prelude.{◌&&◌}
use Rattle.streams.specs.Streams.{Item, row, end, Feed, Out, sends, fails, Stream, IsStream, Gives, FedAfter, items_of, ended, has_end, all_below, emits, emits_after, on, faults_out, whole}
use Rattle.streams.proofs.StreamLaws.{map-append}
use Rattle.op_base.specs.declared.fault.Fault.{Fault}
use Rattle.op_base.specs.Columns.{Row}
use Rattle.op_base.specs.Standing.{RowStream}
use Rattle.flow_graph.specs.RowRules.{at_op}
use Rattle.flow_plan.specs.Data.{Datum, plain, row_in, rows_in, item_by, feed_by, feeds_by, out_at, numbered_at}

-- What a stream does of all that a function tells of its items, another does of what it is told.
pub record Follows {X Y F G : Type 0} (f : X → Y) (h : Out X F → Out Y G) (s : Stream X F) (t : Stream Y G) : Type 0 where
  pub ports : s.ports ≡ t.ports
  pub wants : (feeds : List (Feed X)) (i : ℕ) → s.wants feeds i ≡ t.wants (feeds_by f feeds) i
  pub gives : (done : List (Feed X)) (g : Feed X) → map h (s.gives done g) ≡ t.gives (feeds_by f done) (feed_by f g)

module _ {X Y : Type 0} (f : X → Y) where
  pub items_by : (i : ℕ) (feeds : List (Feed X)) → items_of i (feeds_by f feeds) ≡ map (item_by f) (items_of i feeds)
  items_by i [] = refl
  items_by i (g ∷ feeds) = go (g.port == i) (items_by i feeds)
    where
      go : (b : Bool) → items_of i (feeds_by f feeds) ≡ map (item_by f) (items_of i feeds) → cond b (item_by f g.item ∷ items_of i (feeds_by f feeds)) (items_of i (feeds_by f feeds)) ≡ map (item_by f) (cond b (g.item ∷ items_of i feeds) (items_of i feeds))
      go true e = ap (λ t. item_by f g.item ∷ t) e
      go false e = e

  end_by : (items : List (Item X)) → has_end (map (item_by f) items) ≡ has_end items
  end_by [] = refl
  end_by (row x ∷ items) = end_by items
  end_by (end ∷ items) = refl

  pub ended_by : (i : ℕ) (feeds : List (Feed X)) → ended i (feeds_by f feeds) ≡ ended i feeds
  ended_by i feeds = ap has_end (items_by i feeds) ∙ end_by (items_of i feeds)

  whole_by : (xs : List X) → map (item_by f) (whole xs) ≡ whole (map f xs)
  whole_by [] = refl
  whole_by (x ∷ xs) = ap (λ t. row (f x) ∷ t) (whole_by xs)

  all_ended_by : (n : ℕ) (feeds : List (Feed X)) → all_below n (λ i. ended i (feeds_by f feeds)) ≡ all_below n (λ i. ended i feeds)
  all_ended_by zero feeds = refl
  all_ended_by (suc n) feeds = ap₂ (λ a b. a && b) (ended_by n feeds) (all_ended_by n feeds)

  module _ {F G : Type 0} (h : Out X F → Out Y G) (s : Stream X F) (t : Stream Y G) (follows : Follows f h s t) where
    feeds-append : (xs ys : List (Feed X)) → feeds_by f (xs ++ ys) ≡ feeds_by f xs ++ feeds_by f ys
    feeds-append xs ys = map-append (feed_by f) xs ys

    fed_by : (done feeds : List (Feed X)) → FedAfter s done feeds → FedAfter t (feeds_by f done) (feeds_by f feeds)
    fed_by done [] h = tt
    fed_by done (g ∷ feeds) h = (sym (follows.wants done g.port) ∙ h.0, subst (λ d. FedAfter t d (feeds_by f feeds)) (feeds-append done (g ∷ [])) (fed_by (done ++ g ∷ []) feeds h.1))

    emits_by : (done feeds : List (Feed X)) → map h (emits_after s done feeds) ≡ emits_after t (feeds_by f done) (feeds_by f feeds)
    emits_by done [] = refl
    emits_by done (g ∷ feeds) =
        map-append h (s.gives done g) (emits_after s (done ++ g ∷ []) feeds)
        ∙ ap₂ (λ a b. a ++ b) (follows.gives done g) (emits_by (done ++ g ∷ []) feeds ∙ ap (λ d. emits_after t d (feeds_by f feeds)) (feeds-append done (g ∷ [])))

    pub gives_by : (lists : ℕ → List X) (outs : List (Out X F)) → Gives s lists outs → Gives t (λ i. map f (lists i)) (map h outs)
    gives_by lists outs g = record {
      feeds = feeds_by f g.feeds;
      fed = fed_by [] g.feeds g.fed;
      taken = λ i l. items_by i g.feeds ∙ ap (map (item_by f)) (g.taken i (subst (λ n. i < n) (sym follows.ports) l)) ∙ whole_by (lists i);
      made = sym (emits_by [] g.feeds) ∙ ap (map h) g.made;
    }

-- A row stream with the number of its operator.
module _ (o : ℕ) (operator : RowStream) where
  fed_rows : (done feeds : List (Feed Datum)) → FedAfter (numbered_at o operator) done feeds → FedAfter operator (feeds_by row_in done) (feeds_by row_in feeds)
  fed_rows done [] h = tt
  fed_rows done (g ∷ feeds) h = (h.0, subst (λ d. FedAfter operator d (feeds_by row_in feeds)) (map-append (feed_by row_in) done (g ∷ [])) (fed_rows (done ++ g ∷ []) feeds h.1))

  emits_rows : (done feeds : List (Feed Datum)) → emits_after (numbered_at o operator) done feeds ≡ map (out_at o) (emits_after operator (feeds_by row_in done) (feeds_by row_in feeds))
  emits_rows done [] = refl
  emits_rows done (g ∷ feeds) =
      ap (λ t. map (out_at o) (operator.gives (feeds_by row_in done) (feed_by row_in g)) ++ t) (emits_rows (done ++ g ∷ []) feeds ∙ ap (λ d. map (out_at o) (emits_after operator d (feeds_by row_in feeds))) (map-append (feed_by row_in) done (g ∷ [])))
      ∙ sym (map-append (out_at o) (operator.gives (feeds_by row_in done) (feed_by row_in g)) (emits_after operator (feeds_by row_in done ++ feed_by row_in g ∷ []) (feeds_by row_in feeds)))

  -- it gives what the row stream gives of the rows
  pub numbered_gives : (lists : ℕ → List Datum) (outs : List (Out Datum Fault)) → Gives (numbered_at o operator) lists outs → (given : List (Out Row Fault)) × Gives operator (λ i. rows_in (lists i)) given × (outs ≡ map (out_at o) given)
  numbered_gives lists outs g = (
    emits operator (feeds_by row_in g.feeds),
    record {
      feeds = feeds_by row_in g.feeds;
      fed = fed_rows [] g.feeds g.fed;
      taken = λ i l. items_by row_in i g.feeds ∙ ap (map (item_by row_in)) (g.taken i l) ∙ whole_rows (lists i);
      made = refl;
    },
    sym g.made ∙ emits_rows [] g.feeds,
  )
    where
      whole_rows : (xs : List Datum) → map (item_by row_in) (whole xs) ≡ whole (rows_in xs)
      whole_rows [] = refl
      whole_rows (x ∷ xs) = ap (λ t. row (row_in x) ∷ t) (whole_rows xs)

  pub numbered_is : IsStream operator → IsStream (numbered_at o operator)
  numbered_is is = record {
    some = is.some;
    opens = λ feeds i w. (let r = is.opens (feeds_by row_in feeds) i w in (r.0, sym (ended_by row_in i feeds) ∙ r.1));
    hungry = λ feeds fed. elim (is.hungry (feeds_by row_in feeds) (fed_rows [] feeds fed)) [ inl w ↦ inl w | inr e ↦ inr (sym (all_ended_by row_in operator.ports feeds) ∙ e) ];
  }

-- what is numbered, output by output
pub on_rows : (o q : ℕ) (given : List (Out Row Fault)) → rows_in (on q (map (out_at o) given)) ≡ on q given
on_rows o q [] = refl
on_rows o q (sends port r ∷ given) = go (port == q) (on_rows o q given)
  where
    go : (b : Bool) → rows_in (on q (map (out_at o) given)) ≡ on q given → rows_in (cond b (plain r ∷ on q (map (out_at o) given)) (on q (map (out_at o) given))) ≡ cond b (r ∷ on q given) (on q given)
    go true e = ap (λ t. r ∷ t) e
    go false e = e
on_rows o q (fails f ∷ given) = on_rows o q given

pub faults_numbered : (o : ℕ) (given : List (Out Row Fault)) → faults_out (map (out_at o) given) ≡ map (at_op o) (faults_out given)
faults_numbered o [] = refl
faults_numbered o (sends port r ∷ given) = faults_numbered o given
faults_numbered o (fails f ∷ given) = ap (λ t. at_op o f ∷ t) (faults_numbered o given)
