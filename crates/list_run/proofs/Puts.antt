-- What it is to put a list on a link, and on several.
use Rattle.std.proofs.Common.{◌≡◌, ◌≢◌, ◌⊎◌, inl, inr, ℕ, ◌+◌, ◌<◌, ◌==◌, Bool, true, false, cond, refl, sym, ap, ◌∙◌, subst, List, [], length, get_or, set, arith}
use Rattle.std.specs.Prelude.{nat_lt}
use Rattle.std.proofs.lemmas.Bool.Decides.{eqb_tells, nat_tests}
use Rattle.std.proofs.lemmas.List.{get_or-set_other, get_or-set_same, length-set}
use Rattle.op_base.specs.Columns.{Row}
use Rattle.flow_graph.specs.declared.flow.LinkSpec.{LinkSpec}
use Rattle.flow_graph.specs.declared.route.Choice.{Choice}
use Rattle.flow_graph.specs.Charts.{Chart, link_at, no_link}
use Rattle.list_run.specs.declared.held.Held.{Held}
use Rattle.list_run.specs.Held.{HasRoom, Puts, got_on}
use Rattle.list_run.specs.Routed.{Joins}
use Rattle.list_run.specs.Runnable.{row_count}
use Rattle.list_run.proofs.Links.{equal_from, same_at}

pub put_one : (c : Chart) (nodes k : ℕ) (sent : List (List Row)) (old new : Held) → k < length c.flow.links → HasRoom c old →
    new.waiting.items ≡ set old.waiting.items k (got_on c nodes k sent) → new.counts.items ≡ set old.counts.items k (row_count sent) → new.sinks.items ≡ old.sinks.items → new.tally ≡ old.tally →
    Puts c nodes (λ l. l == k) (λ l. sent) old new
put_one c nodes k sent old new m room w n s t = record {
  room = record { waiting = ap length w ∙ length-set old.waiting.items k (got_on c nodes k sent) ∙ room.waiting; counts = ap length n ∙ length-set old.counts.items k (row_count sent) ∙ room.counts; sinks = ap length s ∙ room.sinks };
  waiting = λ l u t. let e = equal_from l k t in
      ap (λ ls. get_or ls l []) w ∙ ap (λ i. get_or (set old.waiting.items k (got_on c nodes k sent)) i []) e ∙ get_or-set_same old.waiting.items k (got_on c nodes k sent) [] (subst (λ n. k < n) (sym room.waiting) m) ∙ ap (λ i. got_on c nodes i sent) (sym e);
  counts = λ l u t. let e = equal_from l k t in
      ap (λ ls. get_or ls l 0) n ∙ ap (λ i. get_or (set old.counts.items k (row_count sent)) i 0) e ∙ get_or-set_same old.counts.items k (row_count sent) 0 (subst (λ n. k < n) (sym room.counts) m);
  kept = λ l t. ap (λ ls. get_or ls l []) w ∙ get_or-set_other old.waiting.items k l (got_on c nodes k sent) [] (differs l t);
  kept_counts = λ l t. ap (λ ls. get_or ls l 0) n ∙ get_or-set_other old.counts.items k l (row_count sent) 0 (differs l t);
  sinks = s;
  tally = t;
}
  where
    differs : (l : ℕ) → (l == k) ≡ false → l ≢ k
    differs l t = elim (eqb_tells l k) [ inl e ↦ (let f = sym t ∙ e.0 in cc) | inr e ↦ e.1 ]

pub put_none : (c : Chart) (nodes : ℕ) (sent : ℕ → List (List Row)) (old : Held) → HasRoom c old → Puts c nodes (λ l. false) sent old old
put_none c nodes sent old room = record {
  room = room;
  waiting = λ l m t. cc;
  counts = λ l m t. cc;
  kept = λ l t. refl;
  kept_counts = λ l t. refl;
  sinks = refl;
  tally = refl;
}

-- one more link, of which something is sent that is said of all
pub put_more : (c : Chart) (nodes k : ℕ) (takes later : ℕ → Bool) (sent : ℕ → List (List Row)) (one : List (List Row)) (old mid new : Held) → one ≡ sent k → ((l : ℕ) → later l ≡ cond (l == k) true (takes l)) →
    Puts c nodes takes sent old mid → Puts c nodes (λ l. l == k) (λ l. one) mid new → Puts c nodes later sent old new
put_more c nodes k takes later sent one old mid new same says f g = record {
  room = g.room;
  waiting = λ l m t. waits l m (l == k) refl (sym (says l) ∙ t);
  counts = λ l m t. counted l m (l == k) refl (sym (says l) ∙ t);
  kept = λ l t. let n = none (l == k) (takes l) (sym (says l) ∙ t) in g.kept l n.0 ∙ f.kept l n.1;
  kept_counts = λ l t. let n = none (l == k) (takes l) (sym (says l) ∙ t) in g.kept_counts l n.0 ∙ f.kept_counts l n.1;
  sinks = g.sinks ∙ f.sinks;
  tally = g.tally ∙ f.tally;
}
  where
    none : (a b : Bool) → cond a true b ≡ false → (a ≡ false) × (b ≡ false)
    none true b e = absurd (let f : true ≡ false = e in cc)
    none false b e = (refl, e)

    waits : (l : ℕ) → l < length c.flow.links → (b : Bool) → (l == k) ≡ b → cond b true (takes l) ≡ true → get_or new.waiting.items l [] ≡ got_on c nodes l (sent l)
    waits l m true e t = g.waiting l m e ∙ ap (got_on c nodes l) (same ∙ ap sent (sym (equal_from l k e)))
    waits l m false e t = g.kept l e ∙ f.waiting l m t

    counted : (l : ℕ) → l < length c.flow.links → (b : Bool) → (l == k) ≡ b → cond b true (takes l) ≡ true → get_or new.counts.items l 0 ≡ row_count (sent l)
    counted l m true e t = g.counts l m e ∙ ap row_count (same ∙ ap sent (sym (equal_from l k e)))
    counted l m false e t = g.kept_counts l e ∙ f.counts l m t

-- the same links under other words
pub put_as : (c : Chart) (nodes : ℕ) (takes later : ℕ → Bool) (sent : ℕ → List (List Row)) (old new : Held) → ((l : ℕ) → later l ≡ takes l) → Puts c nodes takes sent old new → Puts c nodes later sent old new
put_as c nodes takes later sent old new says f = record {
  room = f.room;
  waiting = λ l m t. f.waiting l m (sym (says l) ∙ t);
  counts = λ l m t. f.counts l m (sym (says l) ∙ t);
  kept = λ l t. f.kept l (sym (says l) ∙ t);
  kept_counts = λ l t. f.kept_counts l (sym (says l) ∙ t);
  sinks = f.sinks;
  tally = f.tally;
}

-- and of what is sent
pub put_sent : (c : Chart) (nodes : ℕ) (takes : ℕ → Bool) (sent other : ℕ → List (List Row)) (old new : Held) → ((l : ℕ) → sent l ≡ other l) → Puts c nodes takes sent old new → Puts c nodes takes other old new
put_sent c nodes takes sent other old new same f = record {
  room = f.room;
  waiting = λ l m t. f.waiting l m t ∙ ap (got_on c nodes l) (same l);
  counts = λ l m t. f.counts l m t ∙ ap row_count (same l);
  kept = f.kept;
  kept_counts = f.kept_counts;
  sinks = f.sinks;
  tally = f.tally;
}

-- of the links below i + 1, those below i and i itself, where it is one
pub below_more_yes : (i : ℕ) (sends : ℕ → Bool) → sends i ≡ true → (l : ℕ) → cond (nat_lt l (i + 1)) (sends l) false ≡ cond (l == i) true (cond (nat_lt l i) (sends l) false)
below_more_yes i sends taken l = go (eqb_tells l i)
  where
    low : (l i : ℕ) → l ≡ i → nat_lt l (i + 1) ≡ true
    low l i e = grind (arith, nat_tests)

    next : (l i : ℕ) → l ≢ i → nat_lt l (i + 1) ≡ nat_lt l i
    next l i e = grind (arith, nat_tests)

    go : (((l == i) ≡ true) × (l ≡ i)) ⊎ (((l == i) ≡ false) × (l ≢ i)) → cond (nat_lt l (i + 1)) (sends l) false ≡ cond (l == i) true (cond (nat_lt l i) (sends l) false)
    go (inl e) = ap (λ b. cond b (sends l) false) (low l i e.1) ∙ ap sends e.1 ∙ taken ∙ ap (λ b. cond b true (cond (nat_lt l i) (sends l) false)) (sym e.0)
    go (inr e) = ap (λ b. cond b (sends l) false) (next l i e.1) ∙ ap (λ b. cond b true (cond (nat_lt l i) (sends l) false)) (sym e.0)

pub below_more_no : (i : ℕ) (sends : ℕ → Bool) → sends i ≡ false → (l : ℕ) → cond (nat_lt l (i + 1)) (sends l) false ≡ cond (nat_lt l i) (sends l) false
below_more_no i sends left l = go (eqb_tells l i)
  where
    past : (l i : ℕ) → l ≡ i → nat_lt l i ≡ false
    past l i e = grind (arith, nat_tests)

    low : (l i : ℕ) → l ≡ i → nat_lt l (i + 1) ≡ true
    low l i e = grind (arith, nat_tests)

    next : (l i : ℕ) → l ≢ i → nat_lt l (i + 1) ≡ nat_lt l i
    next l i e = grind (arith, nat_tests)

    go : (((l == i) ≡ true) × (l ≡ i)) ⊎ (((l == i) ≡ false) × (l ≢ i)) → cond (nat_lt l (i + 1)) (sends l) false ≡ cond (nat_lt l i) (sends l) false
    go (inl e) = ap (λ b. cond b (sends l) false) (low l i e.1) ∙ ap sends e.1 ∙ left ∙ ap (λ b. cond b (sends l) false) (sym (past l i e.1))
    go (inr e) = ap (λ b. cond b (sends l) false) (next l i e.1)

pub joins_as : (seq seq' : Bool) (choice choice' : Choice) (len n n' : ℕ) → seq ≡ seq' → choice ≡ choice' → n ≡ n' → Joins seq' choice'.method len n' → Joins seq choice.method len n
joins_as seq seq' choice choice' len n n' s e m j =
    subst (λ b. Joins b choice.method len n) (sym s) (subst (λ (ch : Choice). Joins seq' ch.method len n) (sym e) (subst (λ k. Joins seq' choice'.method len k) (sym m) j))

-- a link as it is read
pub link_read : (c : Chart) (links : List LinkSpec) (l : ℕ) (read : LinkSpec) → links ≡ c.flow.links → l < length c.flow.links → get_or links l read ≡ link_at c l
link_read c links l read e m = ap (λ ls. get_or ls l read) e ∙ same_at c.flow.links l read no_link m
