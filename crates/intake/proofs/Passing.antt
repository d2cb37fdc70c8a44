-- Rows and ends that pass a collector.
use Rattle.std.proofs.Common.{◌≡◌, ℕ, Bool, true, false, cond, refl, sym, ap, ◌∙◌, subst, List, [], ◌∷◌, ◌++◌, map, append-nil}
use Rattle.streams.proofs.StreamLaws.{items-append, eq_true, not_all}
use Rattle.streams.specs.Streams.{Item, row, end, has_end, items_of, ended, Feed, Out, sends, fails, emits_after, all_ended, Fed, IsCollector}
use Rattle.streams.specs.Plans.{handed, pass_by}
use Rattle.op_base.specs.declared.fault.Fault.{Fault}
use Rattle.op_base.specs.declared.emit.Sent.{Sent}
use Rattle.op_base.specs.declared.emit.Emit.{Emit}
use Rattle.op_base.specs.Columns.{Row}
use Rattle.op_base.specs.Emits.{Adds, rows_sent, IsFresh}
use Rattle.op_base.specs.Standing.{RowStream, MayFeed, row_feed, end_feed, Steps, Emits}
use Rattle.op_base.proofs.Adding.{Adds-none}
use Rattle.intake.specs.Handing.{MayHand, HandsOn}
use Rattle.intake.specs.Passing.{MayPass, Passes}

-- no row was sent
pub hands_none : (s : RowStream) (Old : List (Feed Row) → Type 0) (port : ℕ) (sent : List Sent) (a : Emit) → sent ≡ [] → HandsOn s Old Old port sent a a
hands_none s Old port sent a none [] slim same feeds h = (subst Old (sym (append-nil feeds)) h, Adds-none a)
hands_none s Old port sent a none (sends p x ∷ []) slim same feeds h = let d : record { port = p; row = x } ∷ [] ≡ [] = sym same ∙ none in cc
hands_none s Old port sent a none (sends p x ∷ (o ∷ outs)) slim same feeds h = absurd slim
hands_none s Old port sent a none (fails f ∷ outs) slim same feeds h = absurd slim

-- one row was sent, and fed
pub hands_one : (s : RowStream) (Old New : List (Feed Row) → Type 0) (port : ℕ) (sent : List Sent) (y : Sent) (a b : Emit) → sent ≡ y ∷ [] → Steps Old New (row_feed port y.row) → Emits s Old (row_feed port y.row) a b → HandsOn s Old New port sent a b
hands_one s Old New port sent y a b one steps emits [] slim same feeds h = let d : y ∷ [] ≡ [] = sym one ∙ same in cc
hands_one s Old New port sent y a b one steps emits (sends p x ∷ []) slim same feeds h =
    let e : record { port = p; row = x } ∷ [] ≡ y ∷ [] = sym same ∙ one in
    let d : y.row ≡ x = ap (λ (y : Sent). y.row) (sym (head_is _ _ e)) in
    (subst (λ r. New (feeds ++ row_feed port r ∷ [])) d (steps feeds h), subst (λ r. Adds a b (s.gives feeds (row_feed port r) ++ [])) d (subst (λ t. Adds a b t) (sym (append-nil _)) (emits feeds h)))
  where
    head_is : (x y : Sent) → x ∷ [] ≡ y ∷ [] → x ≡ y
    head_is x y e = cc
hands_one s Old New port sent y a b one steps emits (sends p x ∷ (o ∷ outs)) slim same feeds h = absurd slim
hands_one s Old New port sent y a b one steps emits (fails f ∷ outs) slim same feeds h = absurd slim

-- an operator and a collector that stand for some feeds, and what the collector gave for one more
module _ (a c : RowStream) (port : ℕ) (f : Feed Row) (fresh inner : Emit) (is_fresh : IsFresh fresh) where
  sent_is : (outs : List (Out Row Fault)) → Adds fresh inner outs → inner.sent ≡ rows_sent outs
  sent_is outs added = added.sent ∙ ap (λ s. s ++ rows_sent outs) is_fresh.sent

  abbrev over : List (Feed Row) → List (Feed Row)
  over done = cond (all_ended c (done ++ f ∷ [])) (end_feed port ∷ []) []

  pub may_hand : (op_suits col_suits : List (Feed Row) → Bool) (OpStands ColStands : List (Feed Row) → Type 0) (m : MayPass a c op_suits col_suits OpStands ColStands port f) → Emits c ColStands f fresh inner → MayHand a op_suits OpStands port inner.sent
  may_hand op_suits col_suits OpStands ColStands m emits = record {
    outs = c.gives m.done f;
    slim = m.is_collector.slim m.done f m.fed m.col_wants;
    same = sent_is (c.gives m.done f) (emits m.done m.col_stands);
    may = λ x e. record {
      feeds = m.feeds;
      stands = m.op_stands;
      wanted = m.op_wants;
      suited = m.op_suited (row_feed port x) (over m.done) (ap (λ xs. map (row_feed port) xs ++ over m.done) e);
    };
  }

  -- the port goes on
  pub passes_on : (OldOp NewOp OldCol NewCol : List (Feed Row) → Type 0) (before emit : Emit) → Steps OldCol NewCol f → Emits c OldCol f fresh inner → HandsOn a OldOp NewOp port inner.sent before emit →
      ((done : List (Feed Row)) → IsCollector c → Fed c done → c.wants done f.port ≡ true → OldCol done → all_ended c (done ++ f ∷ []) ≡ false) → Passes a c OldOp NewOp OldCol NewCol port f before emit
  passes_on OldOp NewOp OldCol NewCol before emit steps emits hands goes is done feeds fed wants col op =
      let outs : List (Out Row Fault) = c.gives done f in
      let h = hands outs (is.slim done f fed wants) (sent_is outs (emits done col)) feeds op in
      let e : handed port outs ≡ pass_by c port done f = sym (ap (λ b. handed port outs ++ cond b (end_feed port ∷ []) []) (goes done is fed wants col) ∙ append-nil (handed port outs)) in
      (steps done col, subst (λ fs. NewOp (feeds ++ fs)) e h.0, subst (λ fs. Adds before emit (emits_after a feeds fs)) e h.1)

  -- the port ends
  pub passes_end : (OldOp NewOp OldCol NewCol : List (Feed Row) → Type 0) (before emit : Emit) → Steps OldCol NewCol f → Steps OldOp NewOp (end_feed port) → Emits a OldOp (end_feed port) before emit →
      ((done : List (Feed Row)) → OldCol done → all_ended c (done ++ f ∷ []) ≡ true) → Passes a c OldOp NewOp OldCol NewCol port f before emit
  passes_end OldOp NewOp OldCol NewCol before emit steps op_steps op_emits ends is done feeds fed wants col op =
      let none : c.gives done f ≡ [] = is.ends_bare done f fed wants (ends done col) in
      let e : end_feed port ∷ [] ≡ pass_by c port done f = sym (ap (λ b. handed port (c.gives done f) ++ cond b (end_feed port ∷ []) []) (ends done col) ∙ ap (λ (outs : List (Out Row Fault)). handed port outs ++ end_feed port ∷ []) none) in
      (steps done col, subst (λ fs. NewOp (feeds ++ fs)) e (op_steps feeds op), subst (λ fs. Adds before emit (emits_after a feeds fs)) e (subst (λ t. Adds before emit t) (sym (append-nil _)) (op_emits feeds op)))

  pub may_end : (op_suits col_suits : List (Feed Row) → Bool) (OpStands ColStands : List (Feed Row) → Type 0) (m : MayPass a c op_suits col_suits OpStands ColStands port f) → all_ended c (m.done ++ f ∷ []) ≡ true → MayFeed a op_suits OpStands (end_feed port)
  may_end op_suits col_suits OpStands ColStands m all =
      let none : c.gives m.done f ≡ [] = m.is_collector.ends_bare m.done f m.fed m.col_wants all in
      record {
        feeds = m.feeds;
        stands = m.op_stands;
        wanted = m.op_wants;
        suited = m.op_suited (end_feed port) [] (ap (λ b. handed port (c.gives m.done f) ++ cond b (end_feed port ∷ []) []) all ∙ ap (λ (outs : List (Out Row Fault)). handed port outs ++ end_feed port ∷ []) none);
      }

-- a row ends no port
pub row_goes_on : (c : RowStream) → IsCollector c → (slot : ℕ) (r : Row) (done : List (Feed Row)) → c.wants done slot ≡ true → all_ended c (done ++ row_feed slot r ∷ []) ≡ false
row_goes_on c is slot r done wants =
    let o = is.stream.opens done slot wants in
    not_all c.ports (λ i. ended i (done ++ row_feed slot r ∷ [])) slot o.0 (ap has_end (items-append slot done (row_feed slot r ∷ [])) ∙ ap (λ b. has_end (items_of slot done ++ cond b (row r ∷ []) [])) (eq_true slot slot refl) ∙ open_row (items_of slot done) ∙ o.1)
  where
    open_row : (items : List (Item Row)) → has_end (items ++ row r ∷ []) ≡ has_end items
    open_row [] = refl
    open_row (row x ∷ items) = open_row items
    open_row (end ∷ items) = refl
