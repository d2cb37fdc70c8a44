-- The runs of one side, and lists that are gone through.
use Rattle.std.proofs.Common.{◌≡◌, ℕ, zero, suc, ◌+◌, ◌<◌, Bool, true, false, ◌||◌, cond, refl, sym, ap, ap₂, ◌∙◌, subst, List, [], ◌∷◌, ◌++◌, map, length, take, drop, get_or, append_assoc, append-nil, arith, Option, Some, None}
use Rattle.std.specs.Prelude.{is_some, option_to_list}
use Rattle.std.specs.List.{AllByRecursion}
use Rattle.std.specs.Ordering.{is_eq, is_lt}
use Rattle.std.specs.declared.cmp.Ordering.{Ordering}
use Rattle.std.specs.declared.cmp.Ordering.TheVariants.{Less, Equal, Greater}
use Rattle.std.proofs.lemmas.Cmp.{tied_itself}
use Rattle.ds_value.specs.declared.value.Value.{Value}
use Rattle.ds_schema.specs.declared.key.Key.{Key}
use Rattle.ds_schema.specs.Rows.{at, cols, has, val, vals_cmp, ways}
use Rattle.op_base.specs.Columns.{Row}
use Rattle.op_base.specs.Feeds.{behind, front, has_some, head_in, heads_in, least_of, run_done}
use Rattle.op_base.proofs.Orders.{has_is_tie, has_val, length-val, val-append, val_has, vals_exact, vals_total}
use Rattle.op_match.specs.declared.side.Side.{Side}
use Rattle.op_match.specs.Waiting.{fits_key, is_complete, is_same, side_rows, starts, IsCut, IsOther, IsReady, IsRun}
use Rattle.op_match.specs.Rounds.{is_below, least_head}
use Rattle.op_match.proofs.Lengths.{length-cols, length-ways}

-- a run and what is behind it
pub run_parts : (cs : List ℕ) (v : List Value) (run : List Row) (next : Option Row) → AllByRecursion (λ s. val cs s ≡ v) run → IsOther cs v next →
    (front cs v (run ++ option_to_list next) ≡ run) × (behind cs v (run ++ option_to_list next) ≡ option_to_list next)
run_parts cs v [] None a o = (refl, refl)
run_parts cs v [] (Some r) a o = (ap (λ b. cond b (r ∷ []) []) (o r refl), ap (λ b. cond b [] (r ∷ [])) (o r refl))
run_parts cs v (s ∷ run) next a o =
    let rec = run_parts cs v run next a.1 o in
    (ap₂ (λ b t. cond b (s ∷ t) []) (val_has cs v s a.0) rec.0, ap₂ (λ b t. cond b t (s ∷ (run ++ option_to_list next))) (val_has cs v s a.0) rec.1)

done_is : (cs : List ℕ) (over : Bool) (run : List Row) (next : Option Row) → IsRun cs run next → run_done cs over (run ++ option_to_list next) ≡ (over || is_some next)
done_is cs over [] next h = ap (λ n. run_done cs over (option_to_list n)) h ∙ go over ∙ sym (ap (λ n. over || is_some n) h)
  where
    go : (o : Bool) → o ≡ (o || false)
    go true = refl
    go false = refl
done_is cs over (r ∷ run) next h = ap (λ t. cond over true (has_some t)) (run_parts cs (val cs r) run next h.0 h.1).1 ∙ go over next
  where
    go : (o : Bool) (n : Option Row) → cond o true (has_some (option_to_list n)) ≡ (o || is_some n)
    go true None = refl
    go true (Some x) = refl
    go false None = refl
    go false (Some x) = refl

pub side_done : (s : Side) → IsReady s → run_done (cols s.keys) s.over (side_rows s) ≡ is_complete s
side_done s h = done_is (cols s.keys) s.over s.run s.next h

-- the first row that waits is the run's
head_is : (cs : List ℕ) (run : List Row) (next : Option Row) → IsRun cs run next → head_in cs run ≡ head_in cs (run ++ option_to_list next)
head_is cs [] next h = ap (λ n. head_in cs (option_to_list n)) (sym h)
head_is cs (r ∷ run) next h = refl

pub side_head : (s : Side) → IsReady s → head_in (cols s.keys) s.run ≡ head_in (cols s.keys) (side_rows s)
side_head s h = head_is (cols s.keys) s.run s.next h

none_other : (cs : List ℕ) (v : List Value) (next : Option Row) → next ≡ None → IsOther cs v next
none_other cs v next e r f = let g : None ≡ Some r = sym e ∙ f in cc

all_more : {X : Type 0} (P : X → Type 0) (xs : List X) (x : X) → AllByRecursion P xs → P x → AllByRecursion P (xs ++ x ∷ [])
all_more P [] x h k = (k, tt)
all_more P (y ∷ xs) x h k = (h.0, all_more P xs x h.1 k)

-- one more row of the run's value, and a first row of another
pub run_more : (keys : List Key) (run : List Row) (next : Option Row) (r : Row) → next ≡ None → IsRun (cols keys) run next → is_same keys run r ≡ true → IsRun (cols keys) (run ++ r ∷ []) next
run_more keys [] next r e h s = (tt, none_other (cols keys) (val (cols keys) r) next e)
run_more keys (a ∷ run) next r e h s = (all_more (λ x. val (cols keys) x ≡ val (cols keys) a) run r h.0 (has_val (cols keys) (val (cols keys) a) r (has_is_tie keys a r ∙ s)), h.1)

pub run_then : (keys : List Key) (run : List Row) (next : Option Row) (r : Row) → IsRun (cols keys) run next → is_same keys run r ≡ false → IsRun (cols keys) run (Some r)
run_then keys [] next r h s = cc
run_then keys (a ∷ run) next r h s = (h.0, λ x e. let f : r ≡ x = cc in ap (has (cols keys) (val (cols keys) a)) (sym f) ∙ has_is_tie keys a r ∙ s)

-- a side that isn't complete has no next row
pub open_next : (s : Side) → is_complete s ≡ false → s.next ≡ None
open_next s h = go s.over s.next h
  where
    go : (o : Bool) (n : Option Row) → (o || is_some n) ≡ false → n ≡ None
    go true n e = let f : true ≡ false = e in cc
    go false None e = refl
    go false (Some r) e = let f : true ≡ false = e in cc

-- what is left of a side whose run is taken off
rest_run : (cs : List ℕ) (next later : Option Row) (run : List Row) → run ≡ option_to_list next → later ≡ None → IsRun cs run later
rest_run cs None later run e f = subst (λ xs. IsRun cs xs later) (sym e) f
rest_run cs (Some r) later run e f = let P : List Row → Type 0 = λ xs. IsRun cs xs later in subst P (sym e) (tt, none_other cs (val cs r) later f)

front_other : (cs : List ℕ) (v : List Value) (run : List Row) (next : Option Row) → IsRun cs run next → starts cs v run ≡ false → (front cs v (run ++ option_to_list next) ≡ []) × (behind cs v (run ++ option_to_list next) ≡ run ++ option_to_list next)
front_other cs v [] next h e = (ap (λ n. front cs v (option_to_list n)) h, ap (λ n. behind cs v (option_to_list n)) h ∙ ap option_to_list (sym h))
front_other cs v (r ∷ run) next h e = (ap (λ b. cond b (r ∷ front cs v (run ++ option_to_list next)) []) e, ap (λ b. cond b (behind cs v (run ++ option_to_list next)) (r ∷ (run ++ option_to_list next))) e)

front_same : (cs : List ℕ) (v : List Value) (run : List Row) (next : Option Row) → IsRun cs run next → starts cs v run ≡ true → (front cs v (run ++ option_to_list next) ≡ run) × (behind cs v (run ++ option_to_list next) ≡ option_to_list next)
front_same cs v [] next h e = let f : false ≡ true = e in cc
front_same cs v (r ∷ run) next h e =
    let same : val cs r ≡ v = has_val cs v r e in
    subst (λ w. (front cs w ((r ∷ run) ++ option_to_list next) ≡ r ∷ run) × (behind cs w ((r ∷ run) ++ option_to_list next) ≡ option_to_list next)) same (run_parts cs (val cs r) (r ∷ run) next (refl, h.0) h.1)

pub kept_run : (s : Side) (v : List Value) → IsReady s → starts (cols s.keys) v s.run ≡ false → [] ≡ front (cols s.keys) v (side_rows s)
kept_run s v h e = sym (front_other (cols s.keys) v s.run s.next h e).0

pub kept_cut : (s : Side) (v : List Value) → IsReady s → starts (cols s.keys) v s.run ≡ false → IsCut v s s
kept_cut s v h e = record { keys = refl; over = refl; rows = sym (front_other (cols s.keys) v s.run s.next h e).1; ready = h }

pub taken_run : (s : Side) (v : List Value) → IsReady s → starts (cols s.keys) v s.run ≡ true → s.run ≡ front (cols s.keys) v (side_rows s)
taken_run s v h e = sym (front_same (cols s.keys) v s.run s.next h e).0

pub taken_cut : (s t : Side) (v : List Value) → IsReady s → starts (cols s.keys) v s.run ≡ true → t.keys ≡ s.keys → t.over ≡ s.over → t.run ≡ option_to_list s.next → t.next ≡ None → IsCut v s t
taken_cut s t v h e keys over run next = record {
  keys = keys;
  over = over;
  rows = ap₂ (λ xs n. xs ++ option_to_list n) run next ∙ append-nil (option_to_list s.next) ∙ sym (front_same (cols s.keys) v s.run s.next h e).1;
  ready = rest_run (cols t.keys) s.next t.next t.run run next;
}

-- the least of some key values
pub least-append : (ds : List Bool) (least : Option (List Value)) (us vs : List (List Value)) → least_head ds least (us ++ vs) ≡ least_head ds (least_head ds least us) vs
least-append ds least [] vs = refl
least-append ds least (u ∷ us) vs = least-append ds (cond (is_below ds u least) (Some u) least) us vs

least_some : (ds : List Bool) (u : List Value) (vs : List (List Value)) → least_head ds (Some u) vs ≡ Some (least_of ds u vs)
least_some ds u [] = refl
least_some ds u (v ∷ vs) = go (is_lt (vals_cmp ds v u)) (least_some ds v vs) (least_some ds u vs)
  where
    go : (b : Bool) → least_head ds (Some v) vs ≡ Some (least_of ds v vs) → least_head ds (Some u) vs ≡ Some (least_of ds u vs) → least_head ds (cond b (Some v) (Some u)) vs ≡ Some (least_of ds (cond b v u) vs)
    go true h k = h
    go false h k = k

pub least_first : (ds : List Bool) (v : List Value) (vs : List (List Value)) → least_head ds None (v ∷ vs) ≡ Some (least_of ds v vs)
least_first ds v vs = least_some ds v vs

pub least_fits : (n : ℕ) (ds : List Bool) (least : Option (List Value)) (vs : List (List Value)) → fits_key n least → AllByRecursion (λ v. n ≡ length v) vs → fits_key n (least_head ds least vs)
least_fits n ds least [] f h = f
least_fits n ds least (v ∷ vs) f h = least_fits n ds (cond (is_below ds v least) (Some v) least) vs (go (is_below ds v least)) h.1
  where
    go : (b : Bool) → fits_key n (cond b (Some v) least)
    go true = h.0
    go false = f

pub head_fits : (n : ℕ) (cs : List ℕ) (rows : List Row) → n ≡ length cs → AllByRecursion (λ v. n ≡ length v) (head_in cs rows)
head_fits n cs [] e = tt
head_fits n cs (r ∷ rows) e = (e ∙ sym (length-val cs r), tt)

-- lists that are gone through
pub all_there : {X : Type 0} (P : X → Type 0) (xs : List X) (i : ℕ) (d : X) → i < length xs → AllByRecursion P xs → P (get_or xs i d)
all_there P [] i d h all = absurd (omega (arith, h))
all_there P (x ∷ xs) zero d h all = all.0
all_there P (x ∷ xs) (suc i) d h all = all_there P xs i d (omega (arith, h)) all.1

pub drop_more : {X : Type 0} (xs : List X) (i : ℕ) (d : X) → i < length xs → drop i xs ≡ get_or xs i d ∷ drop (suc i) xs
drop_more [] i d h = absurd (omega (arith, h))
drop_more (x ∷ xs) zero d h = refl
drop_more (x ∷ xs) (suc i) d h = drop_more xs i d (omega (arith, h))

pub take_more : {X : Type 0} (xs : List X) (i : ℕ) (d : X) → i < length xs → take (suc i) xs ≡ take i xs ++ get_or xs i d ∷ []
take_more [] i d l = absurd (omega (arith, l))
take_more (x ∷ xs) zero d l = refl
take_more (x ∷ xs) (suc i) d l = ap (λ t. x ∷ t) (take_more xs i d (omega (arith, l)))

pub one_more : (i : ℕ) → i + 1 ≡ suc i
one_more i = omega arith

-- one more key value
cols_more : (keys : List Key) (i : ℕ) (d : Key) → i < length keys → cols (take (suc i) keys) ≡ cols (take i keys) ++ (get_or keys i d).col ∷ []
cols_more [] i d l = absurd (omega (arith, l))
cols_more (k ∷ keys) zero d l = refl
cols_more (k ∷ keys) (suc i) d l = ap (λ t. k.col ∷ t) (cols_more keys i d (omega (arith, l)))

pub pushed_key : (keys : List Key) (i : ℕ) (d : Key) (row : Row) (xs ys : List Value) (v : Value) → i < length keys → xs ≡ val (cols (take i keys)) row → v ≡ at row (get_or keys i d).col → ys ≡ xs ++ v ∷ [] → ys ≡ val (cols (take (i + 1) keys)) row
pushed_key keys i d row xs ys v l h e p =
    p ∙ ap₂ (λ zs x. zs ++ x ∷ []) h e
    ∙ sym (ap (λ n. val (cols (take n keys)) row) (one_more i) ∙ ap (λ cs. val cs row) (cols_more keys i d l) ∙ val-append (cols (take i keys)) ((get_or keys i d).col ∷ []) row)

-- by the order, or by the values alone
pub has_vals : (ds : List Bool) (cs : List ℕ) (v : List Value) (r : Row) → is_eq (vals_cmp ds (val cs r) v) ≡ has cs v r
has_vals ds cs v r = go (vals_cmp ds (val cs r) v) refl
  where
    other : (o : Ordering) → vals_cmp ds (val cs r) v ≡ o → (o ≡ Equal → ⊥) → (b : Bool) → has cs v r ≡ b → false ≡ b
    other o f n true e = absurd (n (sym f ∙ ap (λ w. vals_cmp ds w v) (has_val cs v r e) ∙ tied_itself (vals_total ds) v))
    other o f n false e = refl

    go : (o : Ordering) → vals_cmp ds (val cs r) v ≡ o → is_eq o ≡ has cs v r
    go Less f = other Less f (λ e. cc) (has cs v r) refl
    go Equal f = sym (val_has cs v r (vals_exact ds (val cs r) v f))
    go Greater f = other Greater f (λ e. cc) (has cs v r) refl
