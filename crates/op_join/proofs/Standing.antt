-- Which port a join wants, and what one more feed makes it give and keep.
use Rattle.std.proofs.Common.{◌≡◌, ℕ, zero, suc, ◌==◌, Bool, true, false, not, ◌&&◌, ◌||◌, cond, refl, sym, ap, ap₂, ◌∙◌, subst, inl, inr, List, [], ◌∷◌, ◌++◌, get_or, arith}
use Rattle.std.specs.Prelude.{nat_lt}
use Rattle.streams.specs.Streams.{Feed, Out}
use Rattle.streams.specs.Operators.{by_number, picks}
use Rattle.streams.proofs.StreamLaws.{eq_false, wants_open}
use Rattle.ds_schema.specs.Rows.{cols, ways}
use Rattle.op_base.specs.declared.emit.Emit.{Emit}
use Rattle.op_base.specs.declared.fault.Fault.{Fault}
use Rattle.op_base.specs.declared.operator.Want.TheVariants.{Port, Nothing}
use Rattle.op_base.specs.Columns.{Row}
use Rattle.op_base.specs.Emits.{Adds}
use Rattle.op_base.specs.Feeds.{emits, end_at, fed, left, run_done}
use Rattle.op_base.specs.Meanings.{Join}
use Rattle.op_base.specs.Standing.{Answers, end_feed, row_feed}
use Rattle.op_runs.specs.KeyedStreams.{port_ends, run_asks, waiting}
use Rattle.op_runs.proofs.Ports.{port_ends-end, port_ends-row}
use Rattle.op_runs.proofs.Settled.{hungry_or_ended}
use Rattle.op_runs.proofs.Given.{gives-end, gives-row, waiting-end, waiting-row}
use Rattle.op_join.specs.declared.joiner.Join.{Join as Joiner}
use Rattle.op_join.specs.declared.layout.Layout.{Layout}
use Rattle.op_join.specs.declared.side.Side.{Side}
use Rattle.op_join.specs.AreStreams.{join_is}
use Rattle.op_join.specs.Joining.{join_outs, join_stream, key_columns}
use Rattle.op_join.specs.Waiting.{meant, is_complete, JoinStands}
use Rattle.op_join.specs.Rounds.{due, ends_known, IsSound, MayAdd, remaining, rows_waiting}
use Rattle.op_join.proofs.Pieces.{done_is}

-- the least of two ports that ask
picks_two : (asks : ℕ → Bool) (a b : Bool) → asks 0 ≡ not a → asks 1 ≡ not b → (i : ℕ) → picks 2 by_number asks i ≡ cond a (cond b false (1 == i)) (0 == i)
picks_two asks a b p q zero = ap₂ (λ x y. nat_lt 0 2 && (x && ((not y || not (nat_lt 1 0)) && ((not x || not (nat_lt 0 0)) && true)))) p q ∙ go a b
  where
    go : (a b : Bool) → (nat_lt 0 2 && (not a && ((not (not b) || not (nat_lt 1 0)) && ((not (not a) || not (nat_lt 0 0)) && true)))) ≡ cond a (cond b false (1 == 0)) (0 == 0)
    go true true = refl
    go true false = refl
    go false true = refl
    go false false = refl
picks_two asks a b p q (suc zero) = ap₂ (λ x y. nat_lt 1 2 && (y && ((not y || not (nat_lt 1 1)) && ((not x || not (nat_lt 0 1)) && true)))) p q ∙ go a b
  where
    go : (a b : Bool) → (nat_lt 1 2 && (not b && ((not (not b) || not (nat_lt 1 1)) && ((not (not a) || not (nat_lt 0 1)) && true)))) ≡ cond a (cond b false (1 == 1)) (0 == 1)
    go true true = refl
    go true false = refl
    go false true = refl
    go false false = refl
picks_two asks a b p q (suc (suc i)) =
    ap (λ t. t && (asks (suc (suc i)) && ((not (asks 1) || not (nat_lt 1 (suc (suc i)))) && ((not (asks 0) || not (nat_lt 0 (suc (suc i)))) && true)))) (above i)
    ∙ sym (ap₂ (λ x y. cond a (cond b false x) y) (eq_false 1 (suc (suc i)) (λ h. absurd (omega (arith, h)))) (eq_false 0 (suc (suc i)) (λ h. absurd (omega (arith, h)))) ∙ go a b)
  where
    above : (i : ℕ) → nat_lt (suc (suc i)) 2 ≡ false
    above i = grind arith

    go : (a b : Bool) → cond a (cond b false false) false ≡ false
    go true true = refl
    go true false = refl
    go false b = refl

module _ (layout : Layout) (left right : Side) where
  abbrev M : Join
  M = meant layout

  pub wants_is : (feeds : List (Feed Row)) → JoinStands layout left right feeds → (i : ℕ) → (join_stream (meant layout)).wants feeds i ≡ cond (is_complete left) (cond (is_complete right) false (1 == i)) (0 == i)
  wants_is feeds stands = picks_two (run_asks (key_columns M) feeds (waiting (ways layout.left.keys) (key_columns M) feeds)) (is_complete left) (is_complete right)
      (ap₂ (λ ends lists. not (run_done (cols layout.left.keys) ends (get_or lists 0 []))) (sym stands.left_over) (sym stands.waits) ∙ ap not (done_is (cols layout.left.keys) left.over left.run.items left.next stands.left_run))
      (ap₂ (λ ends lists. not (run_done (cols layout.right.keys) ends (get_or lists 1 []))) (sym stands.right_over) (sym stands.waits) ∙ ap not (done_is (cols layout.right.keys) right.over right.run.items right.next stands.right_run))

  pub wants_left : (feeds : List (Feed Row)) → JoinStands layout left right feeds → is_complete left ≡ false → Answers (Port 0) (join_stream (meant layout)) feeds
  wants_left feeds stands e =
      let is : (i : ℕ) → (join_stream (meant layout)).wants feeds i ≡ (0 == i) = λ i. wants_is feeds stands i ∙ ap (λ b. cond b (cond (is_complete right) false (1 == i)) (0 == i)) e in
      (is, wants_open (join_stream (meant layout)) (join_is (meant layout)) feeds 0 (is 0))

  pub wants_right : (feeds : List (Feed Row)) → JoinStands layout left right feeds → is_complete left ≡ true → is_complete right ≡ false → Answers (Port 1) (join_stream (meant layout)) feeds
  wants_right feeds stands e f =
      let is : (i : ℕ) → (join_stream (meant layout)).wants feeds i ≡ (1 == i) = λ i. wants_is feeds stands i ∙ ap₂ (λ a b. cond a (cond b false (1 == i)) (0 == i)) e f in
      (is, wants_open (join_stream (meant layout)) (join_is (meant layout)) feeds 1 (is 1))

  pub wants_none : (feeds : List (Feed Row)) → JoinStands layout left right feeds → is_complete left ≡ true → is_complete right ≡ true → Answers Nothing (join_stream (meant layout)) feeds
  wants_none feeds stands e f = elim (hungry_or_ended (ways layout.left.keys) (key_columns M) (join_outs M) feeds) [
    | inl w ↦ (let n : true ≡ false = sym w.1 ∙ wants_is feeds stands w.0 ∙ ap₂ (λ a b. cond a (cond b false (1 == w.0)) (0 == w.0)) e f in cc)
    | inr h ↦ h
  ]

-- a port is wanted where its side's run isn't complete
pub may_add : (s : Joiner) (feeds : List (Feed Row)) (port : ℕ) → JoinStands s.layout s.left s.right feeds → (join_stream (meant s.layout)).wants feeds port ≡ true → MayAdd s port
may_add s feeds port stands w = go port (is_complete s.left) refl (is_complete s.right) refl (sym (wants_is s.layout s.left s.right feeds stands port) ∙ w)
  where
    go : (p : ℕ) (a : Bool) → is_complete s.left ≡ a → (b : Bool) → is_complete s.right ≡ b → cond a (cond b false (1 == p)) (0 == p) ≡ true → MayAdd s p
    go zero true e true f h = absurd (let n : false ≡ true = h in cc)
    go zero true e false f h = absurd (let n : false ≡ true = h in cc)
    go zero false e b f h = e
    go (suc zero) true e true f h = absurd (let n : false ≡ true = h in cc)
    go (suc zero) true e false f h = f
    go (suc zero) false e b f h = absurd (let n : false ≡ true = h in cc)
    go (suc (suc p)) true e true f h = absurd (let n : false ≡ true = h in cc)
    go (suc (suc p)) true e false f h = let n : true ≡ false = sym h ∙ eq_false 1 (suc (suc p)) (λ k. absurd (omega (arith, k))) in cc
    go (suc (suc p)) false e b f h = let n : true ≡ false = sym h ∙ eq_false 0 (suc (suc p)) (λ k. absurd (omega (arith, k))) in cc

pub sound_of : (s : Joiner) (feeds : List (Feed Row)) → JoinStands s.layout s.left s.right feeds → IsSound s
sound_of s feeds stands = record { same_ways = stands.same_ways; left_run = stands.left_run; right_run = stands.right_run }

ends_are : (s : Joiner) (feeds : List (Feed Row)) → JoinStands s.layout s.left s.right feeds → ends_known s ≡ port_ends 2 feeds
ends_are s feeds stands = ap₂ (λ a b. a ∷ (b ∷ [])) stands.left_over stands.right_over

-- what stands after some feeds
stands_after : (s t : Joiner) (feeds : List (Feed Row)) → IsSound t → t.layout ≡ s.layout → ends_known t ≡ port_ends 2 feeds → rows_waiting t ≡ waiting (ways s.layout.left.keys) (key_columns (meant s.layout)) feeds → JoinStands t.layout t.left t.right feeds
stands_after s t feeds sound same ends rows = record {
  same_ways = sound.same_ways;
  left_over = ap (λ es. get_or es 0 false) ends;
  right_over = ap (λ es. get_or es 1 false) ends;
  waits = rows ∙ ap (λ (l : Layout). waiting (ways l.left.keys) (key_columns (meant l)) feeds) (sym same);
  left_run = sound.left_run;
  right_run = sound.right_run;
}

-- what a state with these ends and rows gives, and leaves
due_is : (s t : Joiner) (ends : List Bool) (rows : List (List Row)) → t.layout ≡ s.layout → ends_known t ≡ ends → rows_waiting t ≡ rows → due t ≡ emits (ways s.layout.left.keys) (key_columns (meant s.layout)) (join_outs (meant s.layout)) ends rows
due_is s t ends rows same e w = ap (λ (l : Layout). emits (ways l.left.keys) (key_columns (meant l)) (join_outs (meant l)) (ends_known t) (rows_waiting t)) same ∙ ap₂ (emits (ways s.layout.left.keys) (key_columns (meant s.layout)) (join_outs (meant s.layout))) e w

remaining_is : (s t : Joiner) (ends : List Bool) (rows : List (List Row)) → t.layout ≡ s.layout → ends_known t ≡ ends → rows_waiting t ≡ rows → remaining t ≡ left (ways s.layout.left.keys) (key_columns (meant s.layout)) ends rows
remaining_is s t ends rows same e w = ap (λ (l : Layout). left (ways l.left.keys) (key_columns (meant l)) (ends_known t) (rows_waiting t)) same ∙ ap₂ (left (ways s.layout.left.keys) (key_columns (meant s.layout))) e w

-- s takes a row in and is t, which is settled and is u
pub row_stands : (s t u : Joiner) (port : ℕ) (r : Row) (feeds other : List (Feed Row)) → JoinStands s.layout s.left s.right other → (join_stream (meant s.layout)).wants other port ≡ true → t.layout ≡ s.layout → ends_known t ≡ ends_known s → rows_waiting t ≡ fed port r (rows_waiting s) →
    IsSound u → u.layout ≡ t.layout → ends_known u ≡ ends_known t → rows_waiting u ≡ remaining t → JoinStands s.layout s.left s.right feeds → JoinStands u.layout u.left u.right (feeds ++ row_feed port r ∷ [])
row_stands s t u port r feeds other others w tl te tw sound ul ue uw stands =
    let here = wants_is s.layout s.left s.right feeds stands port ∙ sym (wants_is s.layout s.left s.right other others port) ∙ w in
    stands_after s u (feeds ++ row_feed port r ∷ []) sound (ul ∙ tl) (ue ∙ te ∙ ends_are s feeds stands ∙ sym (port_ends-row 2 port r feeds))
    (uw ∙ remaining_is s t (port_ends 2 feeds) (fed port r (waiting (ways s.layout.left.keys) (key_columns (meant s.layout)) feeds)) tl (te ∙ ends_are s feeds stands) (tw ∙ ap (fed port r) stands.waits)
    ∙ sym (waiting-row (ways s.layout.left.keys) (key_columns (meant s.layout)) (join_outs (meant s.layout)) feeds port r here))

pub row_emits : (s t : Joiner) (before now : Emit) (port : ℕ) (r : Row) (feeds other : List (Feed Row)) → JoinStands s.layout s.left s.right other → (join_stream (meant s.layout)).wants other port ≡ true → t.layout ≡ s.layout → ends_known t ≡ ends_known s → rows_waiting t ≡ fed port r (rows_waiting s) →
    Adds before now (due t) → JoinStands s.layout s.left s.right feeds → Adds before now ((join_stream (meant s.layout)).gives feeds (row_feed port r))
row_emits s t before now port r feeds other others w tl te tw added stands =
    let here = wants_is s.layout s.left s.right feeds stands port ∙ sym (wants_is s.layout s.left s.right other others port) ∙ w in
    let P : List (Out Row Fault) → Type 0 = λ outs. Adds before now outs in
    subst P (due_is s t (port_ends 2 feeds) (fed port r (waiting (ways s.layout.left.keys) (key_columns (meant s.layout)) feeds)) tl (te ∙ ends_are s feeds stands) (tw ∙ ap (fed port r) stands.waits)
    ∙ sym (gives-row (ways s.layout.left.keys) (key_columns (meant s.layout)) (join_outs (meant s.layout)) feeds port r here)) added

-- the same of an end
pub end_stands : (s t u : Joiner) (port : ℕ) (feeds : List (Feed Row)) → t.layout ≡ s.layout → ends_known t ≡ end_at port (ends_known s) → rows_waiting t ≡ rows_waiting s →
    IsSound u → u.layout ≡ t.layout → ends_known u ≡ ends_known t → rows_waiting u ≡ remaining t → JoinStands s.layout s.left s.right feeds → JoinStands u.layout u.left u.right (feeds ++ end_feed port ∷ [])
end_stands s t u port feeds tl te tw sound ul ue uw stands =
    stands_after s u (feeds ++ end_feed port ∷ []) sound (ul ∙ tl) (ue ∙ te ∙ ap (end_at port) (ends_are s feeds stands) ∙ sym (port_ends-end 2 port feeds))
    (uw ∙ remaining_is s t (end_at port (port_ends 2 feeds)) (waiting (ways s.layout.left.keys) (key_columns (meant s.layout)) feeds) tl (te ∙ ap (end_at port) (ends_are s feeds stands)) (tw ∙ stands.waits)
    ∙ sym (waiting-end (ways s.layout.left.keys) (key_columns (meant s.layout)) (join_outs (meant s.layout)) feeds port))

pub end_emits : (s t : Joiner) (before now : Emit) (port : ℕ) (feeds : List (Feed Row)) → t.layout ≡ s.layout → ends_known t ≡ end_at port (ends_known s) → rows_waiting t ≡ rows_waiting s →
    Adds before now (due t) → JoinStands s.layout s.left s.right feeds → Adds before now ((join_stream (meant s.layout)).gives feeds (end_feed port))
end_emits s t before now port feeds tl te tw added stands =
    let P : List (Out Row Fault) → Type 0 = λ outs. Adds before now outs in
    subst P (due_is s t (end_at port (port_ends 2 feeds)) (waiting (ways s.layout.left.keys) (key_columns (meant s.layout)) feeds) tl (te ∙ ap (end_at port) (ends_are s feeds stands)) (tw ∙ stands.waits)
    ∙ sym (gives-end (ways s.layout.left.keys) (key_columns (meant s.layout)) (join_outs (meant s.layout)) feeds port)) added
