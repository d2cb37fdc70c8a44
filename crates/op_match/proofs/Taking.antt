-- One round: the runs of the least key value, and what is left.
use Rattle.std.proofs.Common.{◌≡◌, ℕ, zero, suc, ◌+◌, ◌<◌, ◌≤◌, Bool, true, false, ◌&&◌, cond, refl, sym, ap, ap₂, ◌∙◌, subst, inl, inr, List, [], ◌∷◌, ◌++◌, map, length, get_or, take, drop, arith, Option, Some, None}
use Rattle.std.specs.List.{AllByRecursion, list_all}
use Rattle.std.proofs.Math.ListN.{set}
use Rattle.streams.specs.Streams.{Out}
use Rattle.streams.proofs.StreamLaws.{map-append}
use Rattle.ds_value.specs.declared.value.Value.{Value}
use Rattle.ds_schema.specs.declared.key.Key.{Key}
use Rattle.ds_schema.specs.Rows.{cols, val, ways}
use Rattle.op_base.specs.declared.fault.Fault.{Fault}
use Rattle.op_base.specs.declared.operator.Want.{Want}
use Rattle.op_base.specs.declared.operator.Want.TheVariants.{Port, Nothing}
use Rattle.op_base.specs.Columns.{Row}
use Rattle.op_base.specs.Feeds.{behinds, emits, end_at, fed, front, fronts, head_in, heads_in, least_of, left, rest_of, rows_in, runs_done, taken_off}
use Rattle.op_base.specs.Meanings.{columns_of, ways_of}
use Rattle.op_base.proofs.FeedLaws.{Among, fewer, least_among}
use Rattle.op_base.proofs.Feeding.{round_emits, round_left}
use Rattle.op_runs.specs.KeyedStreams.{KeyRule}
use Rattle.op_match.specs.declared.side.Side.{Side}
use Rattle.op_match.specs.Waiting.{columns_in, ends_in, fits_key, is_complete, keys_in, rows_waiting, runs_in, side_rows, ways_in, CutTo, HaveSameWays, IsCut, IsReady, IsSound}
use Rattle.op_match.specs.Rounds.{due, least_head, remaining, row_count, wanted_from, IsRound, IsStill, MayAdd, Took}
use Rattle.op_match.proofs.Lengths.{length-cols, length-ways}
use Rattle.op_match.proofs.Pieces.{drop_more, head_fits, least-append, least_first, least_fits, one_more, side_done, side_head, take_more}

-- of all sides
done_all : (sides : List Side) → AllByRecursion IsReady sides → runs_done (columns_in sides) (ends_in sides) (rows_waiting sides) ≡ list_all is_complete sides
done_all [] h = refl
done_all (s ∷ sides) h = ap₂ (λ a b. a && b) (side_done s h.0) (done_all sides h.1)

heads_all : (sides : List Side) → AllByRecursion IsReady sides → heads_in (columns_in sides) (runs_in sides) ≡ heads_in (columns_in sides) (rows_waiting sides)
heads_all [] h = refl
heads_all (s ∷ sides) h = ap₂ (λ a b. a ++ b) (side_head s h.0) (heads_all sides h.1)

all_join : {X : Type 0} (P : X → Type 0) (xs ys : List X) → AllByRecursion P xs → AllByRecursion P ys → AllByRecursion P (xs ++ ys)
all_join P [] ys h k = k
all_join P (x ∷ xs) ys h k = (h.0, all_join P xs ys h.1 k)

cols_long : (ds : List Bool) (keys : List Key) → ways keys ≡ ds → length ds ≡ length (cols keys)
cols_long ds keys e = ap length (sym e) ∙ length-ways keys ∙ sym (length-cols keys)

pub keys_long : (ds : List Bool) (keys : List Key) → ways keys ≡ ds → length ds ≡ length keys
keys_long ds keys e = ap length (sym e) ∙ length-ways keys

heads_fit : (ds : List Bool) (sides : List Side) → AllByRecursion (λ (k : List Key). ways k ≡ ds) (keys_in sides) → AllByRecursion (λ v. length ds ≡ length v) (heads_in (columns_in sides) (runs_in sides))
heads_fit ds [] h = tt
heads_fit ds (s ∷ sides) h = all_join (λ v. length ds ≡ length v) (head_in (cols s.keys) s.run) (heads_in (columns_in sides) (runs_in sides)) (head_fits (length ds) (cols s.keys) s.run (cols_long ds s.keys h.0)) (heads_fit ds sides h.1)

keys_there : (P : List Key → Type 0) (sides : List Side) (i : ℕ) (d : Side) → i < length sides → AllByRecursion P (keys_in sides) → P (get_or sides i d).keys
keys_there P [] i d l h = absurd (omega (arith, l))
keys_there P (s ∷ sides) zero d l h = h.0
keys_there P (s ∷ sides) (suc i) d l h = keys_there P sides i d (omega (arith, l)) h.1

-- a side's keys are like those of all
pub side_ways : (sides : List Side) (i : ℕ) (d : Side) → i < length sides → d ≡ get_or sides i d → IsSound sides → ways d.keys ≡ ways_in sides
side_ways sides i d l is sound = ap (λ (s : Side). ways s.keys) is ∙ keys_there (λ (k : List Key). ways k ≡ ways_in sides) sides i d l sound.same_ways

pub at_long : (sides : List Side) (i : ℕ) (d : Side) → i < length sides → IsSound sides → length (ways_in sides) ≡ length (get_or sides i d).keys
at_long sides i d l sound = keys_long (ways_in sides) (get_or sides i d).keys (keys_there (λ (k : List Key). ways k ≡ ways_in sides) sides i d l sound.same_ways)

pub side_long : (sides : List Side) (i : ℕ) (d : Side) → i < length sides → d ≡ get_or sides i d → IsSound sides → length (ways_in sides) ≡ length d.keys
side_long sides i d l is sound = keys_long (ways_in sides) d.keys (side_ways sides i d l is sound)

-- the least of the heads of one side more
pub record IsLeast (ds : List Bool) (sides : List Side) (i : ℕ) (least : Option (List Value)) : Type 0 where
  pub fits : fits_key (length ds) least
  pub rest : least_head ds least (heads_in (columns_in (drop i sides)) (runs_in (drop i sides))) ≡ least_head ds None (heads_in (columns_in sides) (runs_in sides))

pub least_start : (ds : List Bool) (sides : List Side) → IsLeast ds sides 0 None
least_start ds sides = record { fits = tt; rest = refl }

pub least_more : (ds : List Bool) (sides : List Side) (i : ℕ) (d : Side) (least later : Option (List Value)) → i < length sides → d ≡ get_or sides i d → ways d.keys ≡ ds → IsLeast ds sides i least →
    later ≡ least_head (ways d.keys) least (head_in (cols d.keys) d.run) → IsLeast ds sides (i + 1) later
least_more ds sides i d least later l is w h e =
    let now : later ≡ least_head ds least (head_in (cols d.keys) d.run) = e ∙ ap (λ z. least_head z least (head_in (cols d.keys) d.run)) w in
    subst (λ n. IsLeast ds sides n later) (sym (one_more i)) (record {
      fits = subst (fits_key (length ds)) (sym now) (least_fits (length ds) ds least (head_in (cols d.keys) d.run) h.fits (head_fits (length ds) (cols d.keys) d.run (cols_long ds d.keys w)));
      rest = ap (λ z. least_head ds z (heads_in (columns_in (drop (suc i) sides)) (runs_in (drop (suc i) sides)))) now
          ∙ sym (least-append ds least (head_in (cols d.keys) d.run) (heads_in (columns_in (drop (suc i) sides)) (runs_in (drop (suc i) sides))))
          ∙ ap (λ xs. least_head ds least (heads_in (columns_in xs) (runs_in xs))) (sym (drop_more sides i d l ∙ ap (λ s. s ∷ drop (suc i) sides) (sym is)))
          ∙ h.rest;
    })

-- and of all
drop_all : {X : Type 0} (xs : List X) (i : ℕ) → length xs ≤ i → drop i xs ≡ []
drop_all [] zero l = refl
drop_all [] (suc i) l = refl
drop_all (x ∷ xs) zero l = absurd (omega (arith, l))
drop_all (x ∷ xs) (suc i) l = drop_all xs i (omega (arith, l))

pub least_end : (ds : List Bool) (sides : List Side) (i : ℕ) (least : Option (List Value)) → length sides ≤ i → IsLeast ds sides i least → least ≡ least_head ds None (heads_in (columns_in sides) (runs_in sides))
least_end ds sides i least l h = ap (λ xs. least_head ds least (heads_in (columns_in xs) (runs_in xs))) (sym (drop_all sides i l)) ∙ h.rest

-- what was taken off of the first sides
fronts_are : (key : List Value) (sides : List Side) → fronts (columns_in sides) key (rows_waiting sides) ≡ map (λ (s : Side). front (cols s.keys) key (side_rows s)) sides
fronts_are key [] = refl
fronts_are key (s ∷ sides) = ap (λ t. front (cols s.keys) key (side_rows s) ∷ t) (fronts_are key sides)

module _ (key : List Value) where
  pub cut_none : (olds : List Side) → CutTo key 0 olds olds
  cut_none [] = tt
  cut_none (old ∷ olds) = (refl, cut_none olds)

  -- those behind are unchanged
  pub still_there : (i : ℕ) (olds news : List Side) (d : Side) → i < length olds → CutTo key i olds news → get_or news i d ≡ get_or olds i d
  still_there i [] news d h f = absurd (omega (arith, h))
  still_there i (old ∷ olds) [] d h f = absurd f
  still_there zero (old ∷ olds) (new ∷ news) d h f = f.0
  still_there (suc i) (old ∷ olds) (new ∷ news) d h f = still_there i olds news d (omega (arith, h)) f.1

  pub cut_more : (i : ℕ) (olds news : List Side) (d y : Side) → i < length olds → CutTo key i olds news → IsCut key (get_or news i d) y → CutTo key (suc i) olds (set news i y)
  cut_more i [] news d y h f s = absurd (omega (arith, h))
  cut_more i (old ∷ olds) [] d y h f s = absurd f
  cut_more zero (old ∷ olds) (new ∷ news) d y h f s = (subst (λ z. IsCut key z y) f.0 s, f.1)
  cut_more (suc i) (old ∷ olds) (new ∷ news) d y h f s = (f.0, cut_more i olds news d y (omega (arith, h)) f.1 s)

  pub cut_next : (i : ℕ) (olds news : List Side) (d y : Side) → i < length olds → CutTo key i olds news → IsCut key (get_or news i d) y → CutTo key (i + 1) olds (set news i y)
  cut_next i olds news d y h f s = subst (λ n. CutTo key n olds (set news i y)) (sym (one_more i)) (cut_more i olds news d y h f s)

  pub cut_length : (n : ℕ) (olds news : List Side) → CutTo key n olds news → length news ≡ length olds
  cut_length n [] [] f = refl
  cut_length n [] (new ∷ news) f = absurd f
  cut_length n (old ∷ olds) [] f = absurd f
  cut_length zero (old ∷ olds) (new ∷ news) f = ap suc (cut_length zero olds news f.1)
  cut_length (suc n) (old ∷ olds) (new ∷ news) f = ap suc (cut_length n olds news f.1)

  cut_keys : (olds news : List Side) → CutTo key (length olds) olds news → keys_in news ≡ keys_in olds
  cut_keys [] [] f = refl
  cut_keys [] (new ∷ news) f = absurd f
  cut_keys (old ∷ olds) [] f = absurd f
  cut_keys (old ∷ olds) (new ∷ news) f = ap₂ (λ x xs. x ∷ xs) f.0.keys (cut_keys olds news f.1)

  cut_ends : (olds news : List Side) → CutTo key (length olds) olds news → ends_in news ≡ ends_in olds
  cut_ends [] [] f = refl
  cut_ends [] (new ∷ news) f = absurd f
  cut_ends (old ∷ olds) [] f = absurd f
  cut_ends (old ∷ olds) (new ∷ news) f = ap₂ (λ x xs. x ∷ xs) f.0.over (cut_ends olds news f.1)

  cut_rows : (olds news : List Side) → CutTo key (length olds) olds news → rows_waiting news ≡ behinds (columns_in olds) key (rows_waiting olds)
  cut_rows [] [] f = refl
  cut_rows [] (new ∷ news) f = absurd f
  cut_rows (old ∷ olds) [] f = absurd f
  cut_rows (old ∷ olds) (new ∷ news) f = ap₂ (λ x xs. x ∷ xs) f.0.rows (cut_rows olds news f.1)

  cut_ready : (olds news : List Side) → CutTo key (length olds) olds news → AllByRecursion IsReady news
  cut_ready [] [] f = tt
  cut_ready [] (new ∷ news) f = absurd f
  cut_ready (old ∷ olds) [] f = absurd f
  cut_ready (old ∷ olds) (new ∷ news) f = (f.0.ready, cut_ready olds news f.1)

  -- the runs of the first sides
  abbrev pub TakenOf : List Side → ℕ → List (List Row) → Type 0
  TakenOf sides i runs = runs ≡ map (λ (s : Side). front (cols s.keys) key (side_rows s)) (take i sides)

  pub taken_more : (sides : List Side) (i : ℕ) (d : Side) (runs later : List (List Row)) (run : List Row) → i < length sides → TakenOf sides i runs → run ≡ front (cols (get_or sides i d).keys) key (side_rows (get_or sides i d)) → later ≡ runs ++ run ∷ [] → TakenOf sides (i + 1) later
  taken_more sides i d runs later run l h e k =
      let f = λ (s : Side). front (cols s.keys) key (side_rows s) in
      k ∙ ap₂ (λ xs x. xs ++ x ∷ []) h e ∙ sym (map-append f (take i sides) (get_or sides i d ∷ [])) ∙ ap (map f) (sym (ap (λ n. take n sides) (one_more i) ∙ take_more sides i d l))

  take_all : {X : Type 0} (xs : List X) (i : ℕ) → length xs ≤ i → take i xs ≡ xs
  take_all [] zero l = refl
  take_all [] (suc i) l = refl
  take_all (x ∷ xs) zero l = absurd (omega (arith, l))
  take_all (x ∷ xs) (suc i) l = ap (λ t. x ∷ t) (take_all xs i (omega (arith, l)))

  pub taken_all : (sides : List Side) (i : ℕ) (runs : List (List Row)) → length sides ≤ i → TakenOf sides i runs → runs ≡ fronts (columns_in sides) key (rows_waiting sides)
  taken_all sides i runs l h = h ∙ ap (map (λ (s : Side). front (cols s.keys) key (side_rows s))) (take_all sides i l) ∙ sym (fronts_are key sides)

  pub cut_all : (i : ℕ) (olds news : List Side) → length olds ≤ i → CutTo key i olds news → CutTo key (length olds) olds news
  cut_all i [] [] l f = tt
  cut_all i [] (new ∷ news) l f = absurd f
  cut_all i (old ∷ olds) [] l f = absurd f
  cut_all zero (old ∷ olds) (new ∷ news) l f = absurd (omega (arith, l))
  cut_all (suc i) (old ∷ olds) (new ∷ news) l f = (f.0, cut_all i olds news (omega (arith, l)) f.1)

  fronts_long : (sides : List Side) → length (fronts (columns_in sides) key (rows_waiting sides)) ≡ length sides
  fronts_long [] = refl
  fronts_long (s ∷ sides) = ap suc (fronts_long sides)

-- the runs of the least key value are taken off
module _ (old : List Side) (v : List Value) (vs : List (List Value)) (h : heads_in (columns_in old) (rows_waiting old) ≡ v ∷ vs) (d : runs_done (columns_in old) (ends_in old) (rows_waiting old) ≡ true) (key : List Value) (m : least_of (ways_in old) v vs ≡ key) where
  gain : (rule : KeyRule) → due rule old ≡ rule key (fronts (columns_in old) key (rows_waiting old)) ++ emits (ways_in old) (columns_in old) rule (ends_in old) (behinds (columns_in old) key (rows_waiting old))
  gain rule =
      round_emits (ways_in old) (columns_in old) rule (ends_in old) (rows_waiting old)
      ∙ ap₂ (λ b hs. cond b (taken_off (ways_in old) (columns_in old) rule (rows_waiting old) (emits (ways_in old) (columns_in old) rule (ends_in old)) hs) []) d h
      ∙ ap (λ z. rule z (fronts (columns_in old) z (rows_waiting old)) ++ emits (ways_in old) (columns_in old) rule (ends_in old) (behinds (columns_in old) z (rows_waiting old))) m

  rest : remaining old ≡ left (ways_in old) (columns_in old) (ends_in old) (behinds (columns_in old) key (rows_waiting old))
  rest =
      round_left (ways_in old) (columns_in old) (ends_in old) (rows_waiting old)
      ∙ ap₂ (λ b hs. cond b (rest_of (ways_in old) (columns_in old) (rows_waiting old) (left (ways_in old) (columns_in old) (ends_in old)) hs) (rows_waiting old)) d h
      ∙ ap (λ z. left (ways_in old) (columns_in old) (ends_in old) (behinds (columns_in old) z (rows_waiting old))) m

  less : rows_in (columns_in old) (behinds (columns_in old) key (rows_waiting old)) < rows_in (columns_in old) (rows_waiting old)
  less = fewer (columns_in old) key (rows_waiting old) (subst (Among key) (sym h) (subst (λ z. Among z (v ∷ vs)) m (least_among (ways_in old) v vs)))

  round_is : (new : List Side) (runs : List (List Row)) → IsSound old → runs ≡ fronts (columns_in old) key (rows_waiting old) → CutTo key (length old) old new → IsRound old new runs
  round_is new runs sound are cut =
      let same : keys_in new ≡ keys_in old = cut_keys key old new cut in
      let ends : ends_in new ≡ ends_in old = cut_ends key old new cut in
      let rows : rows_waiting new ≡ behinds (columns_in old) key (rows_waiting old) = cut_rows key old new cut in
      record {
        sound = record { same_ways = subst HaveSameWays (sym same) sound.same_ways; ready = cut_ready key old new cut };
        keys = same;
        ends = ends;
        fewer = subst (λ n. n < row_count old) (sym (ap₂ (λ keys xs. rows_in (columns_of keys) xs) same rows)) less;
        long = ap length are ∙ fronts_long key old;
        rows = ap (λ keys. left (ways_of keys) (columns_of keys) (ends_in new) (rows_waiting new)) same ∙ ap₂ (left (ways_in old) (columns_in old)) ends rows ∙ sym rest;
        key = key;
        gives = λ rule. gain rule
            ∙ ap₂ (λ xs ys. xs ++ ys) (ap (rule key) (sym are))
            (sym (ap (λ keys. emits (ways_of keys) (columns_of keys) rule (ends_in new) (rows_waiting new)) same ∙ ap₂ (emits (ways_in old) (columns_in old) rule) ends rows));
      }

pub took_round : (old new : List Side) (runs : List (List Row)) (key : List Value) → IsSound old → list_all is_complete old ≡ true → Some key ≡ least_head (ways_in old) None (heads_in (columns_in old) (runs_in old)) →
    runs ≡ fronts (columns_in old) key (rows_waiting old) → CutTo key (length old) old new → IsRound old new runs
took_round old new runs key sound complete least are cut = go (heads_in (columns_in old) (rows_waiting old)) refl (least ∙ ap (least_head (ways_in old) None) (heads_all old sound.ready))
  where
    go : (hs : List (List Value)) → heads_in (columns_in old) (rows_waiting old) ≡ hs → Some key ≡ least_head (ways_in old) None (heads_in (columns_in old) (rows_waiting old)) → IsRound old new runs
    go [] e k = let n : Some key ≡ None = k ∙ ap (least_head (ways_in old) None) e in cc
    go (v ∷ vs) e k =
        let n : Some key ≡ Some (least_of (ways_in old) v vs) = k ∙ ap (least_head (ways_in old) None) e ∙ least_first (ways_in old) v vs in
        round_is old v vs e (done_all old sound.ready ∙ complete) key (cc) new runs sound are cut

-- key values that a run has are as many as the keys
pub key_long : (old : List Side) (key : List Value) → IsSound old → Some key ≡ least_head (ways_in old) None (heads_in (columns_in old) (runs_in old)) → length (ways_in old) ≡ length key
key_long old key sound e = let f = least_fits (length (ways_in old)) (ways_in old) None (heads_in (columns_in old) (runs_in old)) tt (heads_fit (ways_in old) old sound.same_ways) in subst (fits_key (length (ways_in old))) (sym e) f

-- nothing can be taken off
pub open_still : (sides : List Side) → IsSound sides → list_all is_complete sides ≡ false → IsStill sides
open_still sides sound e = inl (done_all sides sound.ready ∙ e)

pub none_still : (sides : List Side) → IsSound sides → None ≡ least_head (ways_in sides) None (heads_in (columns_in sides) (runs_in sides)) → IsStill sides
none_still sides sound e = inr (go (heads_in (columns_in sides) (rows_waiting sides)) refl (e ∙ ap (least_head (ways_in sides) None) (heads_all sides sound.ready)))
  where
    go : (hs : List (List Value)) → heads_in (columns_in sides) (rows_waiting sides) ≡ hs → None ≡ least_head (ways_in sides) None (heads_in (columns_in sides) (rows_waiting sides)) → heads_in (columns_in sides) (rows_waiting sides) ≡ []
    go [] h k = h
    go (v ∷ vs) h k = let n : None ≡ Some (least_of (ways_in sides) v vs) = k ∙ ap (least_head (ways_in sides) None) h ∙ least_first (ways_in sides) v vs in cc

-- one side is changed
pub may_length : (sides : List Side) (port : ℕ) → MayAdd sides port → port < length sides
may_length [] port h = absurd h
may_length (s ∷ sides) zero h = omega arith
may_length (s ∷ sides) (suc port) h = let l = may_length sides port h in omega (arith, l)

pub may_open : (sides : List Side) (port : ℕ) (d : Side) → MayAdd sides port → is_complete (get_or sides port d) ≡ false
may_open [] port d h = absurd h
may_open (s ∷ sides) zero d h = h
may_open (s ∷ sides) (suc port) d h = may_open sides port d h

map_set : {X Y : Type 0} (f : X → Y) (xs : List X) (i : ℕ) (d y : X) → i < length xs → f y ≡ f (get_or xs i d) → map f (set xs i y) ≡ map f xs
map_set f [] i d y l e = absurd (omega (arith, l))
map_set f (x ∷ xs) zero d y l e = ap (λ z. z ∷ map f xs) e
map_set f (x ∷ xs) (suc i) d y l e = ap (λ t. f x ∷ t) (map_set f xs i d y (omega (arith, l)) e)

all_set : {X : Type 0} (P : X → Type 0) (xs : List X) (i : ℕ) (y : X) → AllByRecursion P xs → P y → AllByRecursion P (set xs i y)
all_set P [] i y h k = tt
all_set P (x ∷ xs) zero y h k = (k, h.1)
all_set P (x ∷ xs) (suc i) y h k = (h.0, all_set P xs i y h.1 k)

pub keys_set : (sides : List Side) (i : ℕ) (d y : Side) → i < length sides → y.keys ≡ (get_or sides i d).keys → keys_in (set sides i y) ≡ keys_in sides
keys_set sides i d y l e = map_set (λ (s : Side). s.keys) sides i d y l e

pub ends_set : (sides : List Side) (i : ℕ) (d y : Side) → i < length sides → y.over ≡ (get_or sides i d).over → ends_in (set sides i y) ≡ ends_in sides
ends_set sides i d y l e = map_set (λ (s : Side). s.over) sides i d y l e

pub rows_set : (sides : List Side) (i : ℕ) (d y : Side) → i < length sides → side_rows y ≡ side_rows (get_or sides i d) → rows_waiting (set sides i y) ≡ rows_waiting sides
rows_set sides i d y l e = map_set side_rows sides i d y l e

pub sound_set : (sides : List Side) (i : ℕ) (d y : Side) → i < length sides → y.keys ≡ (get_or sides i d).keys → IsReady y → IsSound sides → IsSound (set sides i y)
sound_set sides i d y l e r sound = record { same_ways = subst HaveSameWays (sym (keys_set sides i d y l e)) sound.same_ways; ready = all_set IsReady sides i y sound.ready r }

pub fed_set : (sides : List Side) (i : ℕ) (d y : Side) (r : Row) → i < length sides → side_rows y ≡ side_rows (get_or sides i d) ++ r ∷ [] → rows_waiting (set sides i y) ≡ fed i r (rows_waiting sides)
fed_set [] i d y r l e = absurd (omega (arith, l))
fed_set (s ∷ sides) zero d y r l e = ap (λ z. z ∷ rows_waiting sides) e
fed_set (s ∷ sides) (suc i) d y r l e = ap (λ t. side_rows s ∷ t) (fed_set sides i d y r (omega (arith, l)) e)

pub end_set : (sides : List Side) (i : ℕ) (y : Side) → i < length sides → y.over ≡ true → ends_in (set sides i y) ≡ end_at i (ends_in sides)
end_set [] i y l e = absurd (omega (arith, l))
end_set (s ∷ sides) zero y l e = ap (λ z. z ∷ ends_in sides) e
end_set (s ∷ sides) (suc i) y l e = ap (λ t. s.over ∷ t) (end_set sides i y (omega (arith, l)) e)

-- which port is wanted, when the sides are gone through
pub wanted_next : (sides : List Side) (i : ℕ) (d : Side) (want : Want) → i < length sides → d ≡ get_or sides i d → is_complete d ≡ true → wanted_from i (drop i sides) ≡ want → wanted_from (i + 1) (drop (i + 1) sides) ≡ want
wanted_next sides i d want l is e h =
    ap (λ n. wanted_from (i + 1) (drop n sides)) (one_more i)
    ∙ sym (ap (λ b. cond b (wanted_from (i + 1) (drop (suc i) sides)) (Port i)) (ap is_complete (sym is) ∙ e))
    ∙ ap (wanted_from i) (sym (drop_more sides i d l)) ∙ h

pub wanted_here : (sides : List Side) (i : ℕ) (d : Side) (want : Want) → i < length sides → d ≡ get_or sides i d → is_complete d ≡ false → wanted_from i (drop i sides) ≡ want → Port i ≡ want
wanted_here sides i d want l is e h =
    sym (ap (λ b. cond b (wanted_from (i + 1) (drop (suc i) sides)) (Port i)) (ap is_complete (sym is) ∙ e))
    ∙ ap (wanted_from i) (sym (drop_more sides i d l)) ∙ h

pub wanted_end : (sides : List Side) (i : ℕ) (want : Want) → length sides ≤ i → wanted_from i (drop i sides) ≡ want → Nothing ≡ want
wanted_end sides i want l h = ap (wanted_from i) (sym (drop_all sides i l)) ∙ h
