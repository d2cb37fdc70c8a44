-- One round of a join: what is given, and what is left.
use Rattle.std.proofs.Common.{◌≡◌, ℕ, ◌+◌, ◌<◌, Bool, true, false, ◌&&◌, ◌||◌, cond, refl, sym, ap, ap₂, ◌∙◌, subst, List, [], ◌∷◌, ◌++◌, map, length, append-nil, length-append, arith, Option, Some, None}
use Rattle.std.specs.Prelude.{is_some, option_to_list}
use Rattle.std.specs.List.{AllByRecursion, flat_map}
use Rattle.std.specs.Ordering.{is_lt, ordering_reverse}
use Rattle.std.specs.declared.cmp.Ordering.{Ordering}
use Rattle.std.specs.declared.cmp.Ordering.TheVariants.{Less, Equal, Greater}
use Rattle.std.proofs.lemmas.Cmp.{tied_itself}
use Rattle.streams.specs.Streams.{Out, sends}
use Rattle.ds_value.specs.declared.value.Value.{Value}
use Rattle.ds_schema.specs.Rows.{cols, val, vals_cmp, ways}
use Rattle.op_base.specs.declared.emit.Emit.{Emit}
use Rattle.op_base.specs.declared.fault.Fault.{Fault}
use Rattle.op_base.specs.Columns.{Row, no_row}
use Rattle.op_base.specs.Emits.{Adds}
use Rattle.op_base.specs.Feeds.{behind, emits, front, heads_in, least_of, left, rest_of, runs_done, taken_off}
use Rattle.op_base.specs.Meanings.{Join, join_row}
use Rattle.op_base.proofs.Adding.{Adds-none, Adds-then}
use Rattle.op_base.proofs.Feeding.{round_emits, round_left}
use Rattle.op_base.proofs.Orders.{vals_exact, vals_total}
use Rattle.op_join.specs.declared.joiner.Join.{Join as Joiner}
use Rattle.op_join.specs.declared.side.Side.{Side}
use Rattle.op_join.specs.Joining.{join_outs, key_columns, keeps_left, keeps_right}
use Rattle.op_join.specs.Waiting.{meant, left_row, right_row, side_rows, is_complete, IsRun}
use Rattle.op_join.specs.Rounds.{due, ends_known, IsSound, remaining, row_count, rows_waiting, runs_cmp, TakesOff, turn}
use Rattle.op_join.proofs.Pieces.{done_is, other_parts, rest_run, run_parts}

module _ (j : Join) (e f : Bool) where
  abbrev L : List ℕ
  L = cols j.left_keys

  abbrev R : List ℕ
  R = cols j.right_keys

  abbrev W : List Bool
  W = ways j.left_keys

  -- what two lists give, and what they leave
  abbrev pub Gain : List Row → List Row → List (Out Row Fault)
  Gain xs ys = emits W (key_columns j) (join_outs j) (e ∷ (f ∷ [])) (xs ∷ (ys ∷ []))

  abbrev pub Rest : List Row → List Row → List (List Row)
  Rest xs ys = left W (key_columns j) (e ∷ (f ∷ [])) (xs ∷ (ys ∷ []))

  pub record Round (xs ys xs' ys' : List Row) (outs : List (Out Row Fault)) : Type 0 where
    pub gain : Gain xs ys ≡ outs ++ Gain xs' ys'
    pub rest : Rest xs ys ≡ Rest xs' ys'

  -- the runs of the least value k are taken off
  round : (xs ys xs' ys' : List Row) (outs : List (Out Row Fault)) (v : List Value) (vs : List (List Value)) (k : List Value) →
      runs_done (key_columns j) (e ∷ (f ∷ [])) (xs ∷ (ys ∷ [])) ≡ true → heads_in (key_columns j) (xs ∷ (ys ∷ [])) ≡ v ∷ vs → least_of W v vs ≡ k →
      behind L k xs ≡ xs' → behind R k ys ≡ ys' → join_outs j k (front L k xs ∷ (front R k ys ∷ [])) ≡ outs → Round xs ys xs' ys' outs
  round xs ys xs' ys' outs v vs k d h m bx by o = record {
    gain = round_emits W (key_columns j) (join_outs j) (e ∷ (f ∷ [])) (xs ∷ (ys ∷ []))
        ∙ ap₂ (λ b hs. cond b (taken_off W (key_columns j) (join_outs j) (xs ∷ (ys ∷ [])) (emits W (key_columns j) (join_outs j) (e ∷ (f ∷ []))) hs) []) d h
        ∙ ap (λ z. join_outs j z (front L z xs ∷ (front R z ys ∷ [])) ++ Gain (behind L z xs) (behind R z ys)) m
        ∙ ap₂ (λ a b. a ++ b) o (ap₂ Gain bx by);
    rest = round_left W (key_columns j) (e ∷ (f ∷ [])) (xs ∷ (ys ∷ []))
        ∙ ap₂ (λ b hs. cond b (rest_of W (key_columns j) (xs ∷ (ys ∷ [])) (left W (key_columns j) (e ∷ (f ∷ []))) hs) (xs ∷ (ys ∷ []))) d h
        ∙ ap (λ z. Rest (behind L z xs) (behind R z ys)) m
        ∙ ap₂ Rest bx by;
  }

  -- the key values of a run are those of its rows
  lefts_alike : (v : List Value) (xs : List Row) → AllByRecursion (λ s. val L s ≡ v) xs → map (λ x. join_row j v x no_row) xs ≡ map (left_row j no_row) xs
  lefts_alike v [] h = refl
  lefts_alike v (x ∷ xs) h = ap₂ (λ a b. a ∷ b) (ap (λ w. join_row j w x no_row) (sym h.0)) (lefts_alike v xs h.1)

  rights_alike : (v : List Value) (ys : List Row) → AllByRecursion (λ s. val R s ≡ v) ys → map (λ y. join_row j v no_row y) ys ≡ map (right_row j) ys
  rights_alike v [] h = refl
  rights_alike v (y ∷ ys) h = ap₂ (λ a b. a ∷ b) (ap (λ w. join_row j w no_row y) (sym h.0)) (rights_alike v ys h.1)

  pairs_alike : (v : List Value) (xs ys : List Row) → AllByRecursion (λ s. val L s ≡ v) xs → flat_map (λ x. map (λ y. join_row j v x y) ys) xs ≡ flat_map (λ x. map (λ y. left_row j y x) ys) xs
  pairs_alike v [] ys h = refl
  pairs_alike v (x ∷ xs) ys h = ap₂ (λ a b. a ++ b) (ap (λ w. map (λ y. join_row j w x y) ys) (sym h.0)) (pairs_alike v xs ys h.1)

  -- both first runs are complete
  both_done : (xs ys : List Row) (nx ny : Option Row) → IsRun L xs nx → IsRun R ys ny → ((e || is_some nx) && (f || is_some ny)) ≡ true → runs_done (key_columns j) (e ∷ (f ∷ [])) ((xs ++ option_to_list nx) ∷ ((ys ++ option_to_list ny) ∷ [])) ≡ true
  both_done xs ys nx ny h k c = ap₂ (λ a b. a && (b && true)) (done_is L e xs nx h) (done_is R f ys ny k) ∙ go (e || is_some nx) (f || is_some ny) c
    where
      go : (a b : Bool) → (a && b) ≡ true → (a && (b && true)) ≡ true
      go true true h = refl
      go true false h = h
      go false b h = h

  not_less : (v : List Value) → vals_cmp W v v ≡ Less → ⊥
  not_less v h = let g : Equal ≡ Less = sym (tied_itself (vals_total W) v) ∙ h in cc

  not_greater : (v : List Value) → vals_cmp W v v ≡ Greater → ⊥
  not_greater v h = let g : Equal ≡ Greater = sym (tied_itself (vals_total W) v) ∙ h in cc

  back : (v w : List Value) (o : Ordering) → vals_cmp W v w ≡ o → vals_cmp W w v ≡ ordering_reverse o
  back v w o h = (vals_total W).antisymm w v ∙ ap ordering_reverse h

  pub less_round : (xs ys : List Row) (nx ny : Option Row) → IsRun L xs nx → IsRun R ys ny → ((e || is_some nx) && (f || is_some ny)) ≡ true → runs_cmp j xs ys ≡ Some Less →
      Round (xs ++ option_to_list nx) (ys ++ option_to_list ny) (option_to_list nx) (ys ++ option_to_list ny) (map (sends 0) (cond j.keeps_left (map (left_row j no_row) xs) []))
  less_round [] [] nx ny h k c o = cc
  less_round [] (y ∷ ys) nx ny h k c o = cc
  less_round (x ∷ xs) [] nx ny h k c o =
      let p = run_parts L (val L x) (x ∷ xs) nx (refl, h.0) h.1 in
      subst (λ n. Round ((x ∷ xs) ++ option_to_list nx) (option_to_list n) (option_to_list nx) (option_to_list n) (map (sends 0) (cond j.keeps_left (map (left_row j no_row) (x ∷ xs)) []))) (sym k)
      (round ((x ∷ xs) ++ option_to_list nx) [] (option_to_list nx) [] _ (val L x) [] (val L x) (subst (λ n. runs_done (key_columns j) (e ∷ (f ∷ [])) (((x ∷ xs) ++ option_to_list nx) ∷ (option_to_list n ∷ [])) ≡ true) k (both_done (x ∷ xs) [] nx ny h k c)) refl refl p.1 refl
      (ap (λ t. join_outs j (val L x) (t ∷ ([] ∷ []))) p.0 ∙ ap (λ t. map (sends 0) (cond j.keeps_left t [])) (lefts_alike (val L x) (x ∷ xs) (refl, h.0))))
  less_round (x ∷ xs) (y ∷ ys) nx ny h k c o =
      let less : vals_cmp W (val L x) (val R y) ≡ Less = cc in
      let p = run_parts L (val L x) (x ∷ xs) nx (refl, h.0) h.1 in
      let q = other_parts R (val L x) y (ys ++ option_to_list ny) (λ s. not_less (val L x) (ap (vals_cmp W (val L x)) (sym s) ∙ less)) in
      round ((x ∷ xs) ++ option_to_list nx) ((y ∷ ys) ++ option_to_list ny) (option_to_list nx) ((y ∷ ys) ++ option_to_list ny) _ (val L x) (val R y ∷ []) (val L x) (both_done (x ∷ xs) (y ∷ ys) nx ny h k c) refl
      (ap (λ t. cond (is_lt t) (val R y) (val L x)) (back (val L x) (val R y) Less less)) p.1 q.1
      (ap₂ (λ s t. join_outs j (val L x) (s ∷ (t ∷ []))) p.0 q.0 ∙ ap (λ t. map (sends 0) (cond j.keeps_left t [])) (lefts_alike (val L x) (x ∷ xs) (refl, h.0)))

  pub greater_round : (xs ys : List Row) (nx ny : Option Row) → IsRun L xs nx → IsRun R ys ny → ((e || is_some nx) && (f || is_some ny)) ≡ true → runs_cmp j xs ys ≡ Some Greater →
      Round (xs ++ option_to_list nx) (ys ++ option_to_list ny) (xs ++ option_to_list nx) (option_to_list ny) (map (sends 0) (cond j.keeps_right (map (right_row j) ys) []))
  greater_round [] [] nx ny h k c o = cc
  greater_round (x ∷ xs) [] nx ny h k c o = cc
  greater_round [] (y ∷ ys) nx ny h k c o =
      let p = run_parts R (val R y) (y ∷ ys) ny (refl, k.0) k.1 in
      subst (λ n. Round (option_to_list n) ((y ∷ ys) ++ option_to_list ny) (option_to_list n) (option_to_list ny) (map (sends 0) (cond j.keeps_right (map (right_row j) (y ∷ ys)) []))) (sym h)
      (round [] ((y ∷ ys) ++ option_to_list ny) [] (option_to_list ny) _ (val R y) [] (val R y) (subst (λ n. runs_done (key_columns j) (e ∷ (f ∷ [])) (option_to_list n ∷ (((y ∷ ys) ++ option_to_list ny) ∷ [])) ≡ true) h (both_done [] (y ∷ ys) nx ny h k c)) refl refl refl p.1
      (ap (λ t. join_outs j (val R y) ([] ∷ (t ∷ []))) p.0 ∙ ap (λ t. map (sends 0) (cond j.keeps_right t [])) (rights_alike (val R y) (y ∷ ys) (refl, k.0))))
  greater_round (x ∷ xs) (y ∷ ys) nx ny h k c o =
      let more : vals_cmp W (val L x) (val R y) ≡ Greater = cc in
      let p = run_parts R (val R y) (y ∷ ys) ny (refl, k.0) k.1 in
      let q = other_parts L (val R y) x (xs ++ option_to_list nx) (λ s. not_greater (val R y) (ap (λ w. vals_cmp W w (val R y)) (sym s) ∙ more)) in
      round ((x ∷ xs) ++ option_to_list nx) ((y ∷ ys) ++ option_to_list ny) ((x ∷ xs) ++ option_to_list nx) (option_to_list ny) _ (val L x) (val R y ∷ []) (val R y) (both_done (x ∷ xs) (y ∷ ys) nx ny h k c) refl
      (ap (λ t. cond (is_lt t) (val R y) (val L x)) (back (val L x) (val R y) Greater more)) q.1 p.1
      (ap₂ (λ s t. join_outs j (val R y) (s ∷ (t ∷ []))) q.0 p.0 ∙ ap (λ t. map (sends 0) (cond j.keeps_right t [])) (rights_alike (val R y) (y ∷ ys) (refl, k.0)))

  pub equal_round : (xs ys : List Row) (nx ny : Option Row) → IsRun L xs nx → IsRun R ys ny → ((e || is_some nx) && (f || is_some ny)) ≡ true → runs_cmp j xs ys ≡ Some Equal →
      Round (xs ++ option_to_list nx) (ys ++ option_to_list ny) (option_to_list nx) (option_to_list ny) (map (sends 0) (flat_map (λ x. map (λ y. left_row j y x) ys) xs))
  equal_round [] [] nx ny h k c o = cc
  equal_round (x ∷ xs) [] nx ny h k c o = cc
  equal_round [] (y ∷ ys) nx ny h k c o = cc
  equal_round (x ∷ xs) (y ∷ ys) nx ny h k c o =
      let tied : vals_cmp W (val L x) (val R y) ≡ Equal = cc in
      let same : val L x ≡ val R y = vals_exact W (val L x) (val R y) tied in
      let p = run_parts L (val L x) (x ∷ xs) nx (refl, h.0) h.1 in
      let q = run_parts R (val R y) (y ∷ ys) ny (refl, k.0) k.1 in
      round ((x ∷ xs) ++ option_to_list nx) ((y ∷ ys) ++ option_to_list ny) (option_to_list nx) (option_to_list ny) _ (val L x) (val R y ∷ []) (val L x) (both_done (x ∷ xs) (y ∷ ys) nx ny h k c) refl
      (ap (λ t. cond (is_lt t) (val R y) (val L x)) (back (val L x) (val R y) Equal tied)) p.1 (ap (λ v. behind R v ((y ∷ ys) ++ option_to_list ny)) same ∙ q.1)
      (ap₂ (λ s t. join_outs j (val L x) (s ∷ (t ∷ []))) p.0 (ap (λ v. front R v ((y ∷ ys) ++ option_to_list ny)) same ∙ q.0) ∙ ap (map (sends 0)) (pairs_alike (val L x) (x ∷ xs) (y ∷ ys) (refl, h.0)))

  -- where nothing can be taken off
  pub record Still (xs ys : List Row) : Type 0 where
    pub gain : Gain xs ys ≡ []
    pub rest : Rest xs ys ≡ xs ∷ (ys ∷ [])

  pub still_round : (xs ys : List Row) (nx ny : Option Row) → IsRun L xs nx → IsRun R ys ny → cond ((e || is_some nx) && (f || is_some ny)) (runs_cmp j xs ys) None ≡ None → Still (xs ++ option_to_list nx) (ys ++ option_to_list ny)
  still_round xs ys nx ny h k t = go ((e || is_some nx) && (f || is_some ny)) refl t
    where
      A : List Row
      A = xs ++ option_to_list nx

      B : List Row
      B = ys ++ option_to_list ny

      open_and : (a b : Bool) → (a && b) ≡ false → (a && (b && true)) ≡ false
      open_and true true h = h
      open_and true false h = refl
      open_and false b h = refl

      empty : (ps qs : List Row) → runs_cmp j ps qs ≡ None → IsRun L ps nx → IsRun R qs ny → Still (ps ++ option_to_list nx) (qs ++ option_to_list ny)
      empty [] [] o a b = let P : Option Row → Option Row → Type 0 = λ n m. Still (option_to_list n) (option_to_list m) in subst (λ n. P n ny) (sym a) (subst (λ m. P None m) (sym b) (record { gain = refl; rest = refl }))
      empty [] (q ∷ qs) o a b = cc
      empty (p ∷ ps) [] o a b = cc
      empty (p ∷ ps) (q ∷ qs) o a b = cc

      go : (b : Bool) → ((e || is_some nx) && (f || is_some ny)) ≡ b → cond b (runs_cmp j xs ys) None ≡ None → Still A B
      go true c o = empty xs ys o h k
      go false c o =
          let d : runs_done (key_columns j) (e ∷ (f ∷ [])) (A ∷ (B ∷ [])) ≡ false = ap₂ (λ a b. a && (b && true)) (done_is L e xs nx h) (done_is R f ys ny k) ∙ open_and (e || is_some nx) (f || is_some ny) c in
          record {
            gain = round_emits W (key_columns j) (join_outs j) (e ∷ (f ∷ [])) (A ∷ (B ∷ [])) ∙ ap (λ b. cond b (taken_off W (key_columns j) (join_outs j) (A ∷ (B ∷ [])) (emits W (key_columns j) (join_outs j) (e ∷ (f ∷ []))) (heads_in (key_columns j) (A ∷ (B ∷ [])))) []) d;
            rest = round_left W (key_columns j) (e ∷ (f ∷ [])) (A ∷ (B ∷ [])) ∙ ap (λ b. cond b (rest_of W (key_columns j) (A ∷ (B ∷ [])) (left W (key_columns j) (e ∷ (f ∷ []))) (heads_in (key_columns j) (A ∷ (B ∷ [])))) (A ∷ (B ∷ []))) d;
          }

-- a turn comes once both first runs are complete
turn_parts : (b : Bool) (o : Option Ordering) (q : Ordering) → cond b o None ≡ Some q → (b ≡ true) × (o ≡ Some q)
turn_parts true o q h = (refl, h)
turn_parts false o q h = cc

rest_rows : (side : Side) (next : Option Row) → side.run.items ≡ option_to_list next → side.next ≡ None → side_rows side ≡ option_to_list next
rest_rows side next e f = ap₂ (λ xs n. xs ++ option_to_list n) e f ∙ append-nil (option_to_list next)

-- what was taken off makes the rest fewer
shorter_first : (j : Join) (xs ys : List Row) (nx : Option Row) → runs_cmp j xs ys ≡ Some Less → length (option_to_list nx) < length (xs ++ option_to_list nx)
shorter_first j [] [] nx o = cc
shorter_first j [] (y ∷ ys) nx o = cc
shorter_first j (x ∷ xs) ys nx o = let l = length-append (x ∷ xs) (option_to_list nx) in omega (arith, l)

shorter_second : (j : Join) (xs ys : List Row) (ny : Option Row) → runs_cmp j xs ys ≡ Some Greater → length (option_to_list ny) < length (ys ++ option_to_list ny)
shorter_second j [] [] ny o = cc
shorter_second j (x ∷ xs) [] ny o = cc
shorter_second j xs (y ∷ ys) ny o = let l = length-append (y ∷ ys) (option_to_list ny) in omega (arith, l)

shorter_both : (j : Join) (xs ys : List Row) (nx ny : Option Row) → runs_cmp j xs ys ≡ Some Equal → length (option_to_list nx) + length (option_to_list ny) < length (xs ++ option_to_list nx) + length (ys ++ option_to_list ny)
shorter_both j [] [] nx ny o = cc
shorter_both j (x ∷ xs) [] nx ny o = cc
shorter_both j [] (y ∷ ys) nx ny o = cc
shorter_both j (x ∷ xs) (y ∷ ys) nx ny o = let l = length-append (x ∷ xs) (option_to_list nx) in let m = length-append (y ∷ ys) (option_to_list ny) in omega (arith, l, m)

-- what a side is after its run was taken off
pub record Cut (old new : Side) : Type 0 where
  pub run : new.run.items ≡ option_to_list old.next
  pub next : new.next ≡ None
  pub over : new.over ≡ old.over

-- a round of the state
taken : (s : Joiner) (l r : Side) (before now : Emit) (outs : List (Out Row Fault)) (xs ys : List Row) → IsRun (cols s.layout.left.keys) l.run.items l.next → IsRun (cols s.layout.right.keys) r.run.items r.next → ways s.layout.left.keys ≡ ways s.layout.right.keys →
    l.over ≡ s.left.over → r.over ≡ s.right.over → side_rows l ≡ xs → side_rows r ≡ ys → Round (meant s.layout) s.left.over s.right.over (side_rows s.left) (side_rows s.right) xs ys outs → Adds before now outs →
    TakesOff s (record { layout = s.layout; left = l; right = r }) before now
taken s l r before now outs xs ys hl hr ways_are lo ro lx ry round added = record {
  sound = record { same_ways = ways_are; left_run = hl; right_run = hr };
  layout = refl;
  ends = ends_are;
  rows = ap₂ (left (ways s.layout.left.keys) (key_columns (meant s.layout))) ends_are rows_are ∙ sym round.rest;
  emits = λ later h.
      let P : List (Out Row Fault) → Type 0 = λ os. Adds before later os in
      subst P (ap (λ t. outs ++ t) (ap₂ (emits (ways s.layout.left.keys) (key_columns (meant s.layout)) (join_outs (meant s.layout))) ends_are rows_are) ∙ sym round.gain)
      (Adds-then before now later outs (due (record { layout = s.layout; left = l; right = r })) added h);
}
  where
    ends_are : ends_known (record { layout = s.layout; left = l; right = r }) ≡ ends_known s
    ends_are = ap₂ (λ a b. a ∷ (b ∷ [])) lo ro

    rows_are : rows_waiting (record { layout = s.layout; left = l; right = r }) ≡ xs ∷ (ys ∷ [])
    rows_are = ap₂ (λ a b. a ∷ (b ∷ [])) lx ry

module _ (s : Joiner) (before now : Emit) (sound : IsSound s) where
  complete : (q : Ordering) → turn s ≡ Some q → (is_complete s.left && is_complete s.right) ≡ true
  complete q t = (turn_parts _ _ q t).0

  order : (q : Ordering) → turn s ≡ Some q → runs_cmp (meant s.layout) s.left.run.items s.right.run.items ≡ Some q
  order q t = (turn_parts (is_complete s.left && is_complete s.right) _ q t).1

  pub takes_left : (l : Side) → turn s ≡ Some Less → Cut s.left l → Adds before now (map (sends 0) (cond (keeps_left s.layout.kind) (map (left_row (meant s.layout) no_row) s.left.run.items) [])) →
      TakesOff s (record { layout = s.layout; left = l; right = s.right }) before now × (row_count (record { layout = s.layout; left = l; right = s.right }) < row_count s)
  takes_left l t cut added = (
    taken s l s.right before now _ (option_to_list s.left.next) (side_rows s.right) (rest_run _ s.left.next l.next l.run.items cut.run cut.next) sound.right_run sound.same_ways cut.over refl (rest_rows l s.left.next cut.run cut.next) refl
        (less_round (meant s.layout) s.left.over s.right.over s.left.run.items s.right.run.items s.left.next s.right.next sound.left_run sound.right_run (complete Less t) (order Less t)) added,
    (let e = ap length (rest_rows l s.left.next cut.run cut.next) in let k = shorter_first (meant s.layout) s.left.run.items s.right.run.items s.left.next (order Less t) in omega (arith, e, k)),
  )

  pub takes_right : (r : Side) → turn s ≡ Some Greater → Cut s.right r → Adds before now (map (sends 0) (cond (keeps_right s.layout.kind) (map (right_row (meant s.layout)) s.right.run.items) [])) →
      TakesOff s (record { layout = s.layout; left = s.left; right = r }) before now × (row_count (record { layout = s.layout; left = s.left; right = r }) < row_count s)
  takes_right r t cut added = (
    taken s s.left r before now _ (side_rows s.left) (option_to_list s.right.next) sound.left_run (rest_run _ s.right.next r.next r.run.items cut.run cut.next) sound.same_ways refl cut.over refl (rest_rows r s.right.next cut.run cut.next)
        (greater_round (meant s.layout) s.left.over s.right.over s.left.run.items s.right.run.items s.left.next s.right.next sound.left_run sound.right_run (complete Greater t) (order Greater t)) added,
    (let e = ap length (rest_rows r s.right.next cut.run cut.next) in let k = shorter_second (meant s.layout) s.left.run.items s.right.run.items s.right.next (order Greater t) in omega (arith, e, k)),
  )

  pub takes_both : (l r : Side) → turn s ≡ Some Equal → Cut s.left l → Cut s.right r → Adds before now (map (sends 0) (flat_map (λ x. map (λ y. left_row (meant s.layout) y x) s.right.run.items) s.left.run.items)) →
      TakesOff s (record { layout = s.layout; left = l; right = r }) before now × (row_count (record { layout = s.layout; left = l; right = r }) < row_count s)
  takes_both l r t cut cut' added = (
    taken s l r before now _ (option_to_list s.left.next) (option_to_list s.right.next) (rest_run _ s.left.next l.next l.run.items cut.run cut.next) (rest_run _ s.right.next r.next r.run.items cut'.run cut'.next) sound.same_ways cut.over cut'.over (rest_rows l s.left.next cut.run cut.next) (rest_rows r s.right.next cut'.run cut'.next)
        (equal_round (meant s.layout) s.left.over s.right.over s.left.run.items s.right.run.items s.left.next s.right.next sound.left_run sound.right_run (complete Equal t) (order Equal t)) added,
    (let e = ap length (rest_rows l s.left.next cut.run cut.next) in let e' = ap length (rest_rows r s.right.next cut'.run cut'.next) in let k = shorter_both (meant s.layout) s.left.run.items s.right.run.items s.left.next s.right.next (order Equal t) in omega (arith, e, e', k)),
  )

-- some rounds
pub none_taken : (s : Joiner) (now : Emit) → IsSound s → TakesOff s s now now
none_taken s now sound = record { sound = sound; layout = refl; ends = refl; rows = refl; emits = λ later h. h }

pub more_taken : (s t u : Joiner) (before now later : Emit) → TakesOff s t before now → TakesOff t u now later → TakesOff s u before later
more_taken s t u before now later h k = record {
  sound = k.sound;
  layout = k.layout ∙ h.layout;
  ends = k.ends ∙ h.ends;
  rows = k.rows ∙ h.rows;
  emits = λ last g. h.emits last (k.emits last g);
}

-- once nothing can be taken off
pub settled_rows : (s t : Joiner) (before now : Emit) → TakesOff s t before now → turn t ≡ None → rows_waiting t ≡ remaining s
settled_rows s t before now h o = sym (still_round (meant t.layout) t.left.over t.right.over t.left.run.items t.right.run.items t.left.next t.right.next h.sound.left_run h.sound.right_run o).rest ∙ h.rows

pub settled_emits : (s t : Joiner) (before now : Emit) → TakesOff s t before now → turn t ≡ None → Adds before now (due s)
settled_emits s t before now h o =
    let P : List (Out Row Fault) → Type 0 = λ outs. Adds now now outs in
    h.emits now (subst P (sym (still_round (meant t.layout) t.left.over t.right.over t.left.run.items t.right.run.items t.left.next t.right.next h.sound.left_run h.sound.right_run o).gain) (Adds-none now))
