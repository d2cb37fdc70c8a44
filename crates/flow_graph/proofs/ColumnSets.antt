-- Sets of columns, step by step along lists.
use Rattle.std.proofs.Common.{Bool, List, ap, cond, drop, get_or, length, map, refl, sym, take, true, ℕ, ◌&&◌, ◌+◌, ◌<◌, ◌==◌, ◌≡◌, ◌∷◌, ◌++◌, ◌∙◌, [], add-one, append-nil, append_assoc, arith}
use Rattle.std.proofs.Math.Seq.{drop-cons, take-suc}
use Rattle.std.proofs.lemmas.Cmp.{nat_cmp_total}
use Rattle.std.proofs.lemmas.List.{take-append-drop}
use Rattle.std.specs.List.{AllByRecursion, insert}
use Rattle.std.specs.Ordering.{nat_cmp}
use Rattle.std.specs.declared.cmp.Ordering.TheVariants.{Equal, Greater, Less}
use Rattle.ds_schema.specs.Rows.{cols}
use Rattle.ds_schema.specs.declared.key.Key.{Key}
use Rattle.op_base.proofs.Ranks.{Ascends, firsts_ascend}
use Rattle.op_base.specs.Columns.{is_in, lies}
use Rattle.op_base.specs.Lists.{put_at, with_rank}
use Rattle.flow_graph.specs.Columns.{set_of}

-- a list from place i on, by what stands there
from_place : (ds : List ℕ) (i : ℕ) → i < length ds → drop i ds ≡ get_or ds i 0 ∷ drop (i + 1) ds
from_place ds i h = rw add-one (drop-cons ds i 0 h)

pub in_step : (c : ℕ) (ds : List ℕ) (i : ℕ) → i < length ds → is_in c (drop i ds) ≡ cond (c == get_or ds i 0) true (is_in c (drop (i + 1) ds))
in_step c ds i h = ap (is_in c) (from_place ds i h)

pub lies_step : (cs ds : List ℕ) (i : ℕ) → i < length cs → lies (drop i cs) ds ≡ (is_in (get_or cs i 0) ds && lies (drop (i + 1) cs) ds)
lies_step cs ds i h = ap (λ xs. lies xs ds) (from_place cs i h)

pub cols_more : (keys : List Key) (i : ℕ) (d : Key) → i < length keys → cols (take (i + 1) keys) ≡ cols (take i keys) ++ (get_or keys i d).col ∷ []
cols_more keys i d h = rw (add-one, take-suc keys i d h) (cols_append (take i keys) (get_or keys i d ∷ []))
  where
    cols_append : (xs ys : List Key) → cols (xs ++ ys) ≡ cols xs ++ cols ys
    cols_append [] ys = refl
    cols_append (x ∷ xs) ys = ap (λ cs. x.col ∷ cs) (cols_append xs ys)

rank_step : (c : ℕ) (ds : List ℕ) (i : ℕ) → i < length ds → with_rank nat_cmp c (drop i ds) ≡ put_at (nat_cmp c (get_or ds i 0)) c (get_or ds i 0) (drop (i + 1) ds) (with_rank nat_cmp c (drop (i + 1) ds))
rank_step c ds i h = ap (with_rank nat_cmp c) (from_place ds i h)

-- what is below the item at place i comes before it
pub rank_less : (c : ℕ) (ds : List ℕ) (i : ℕ) → i < length ds → nat_cmp c (get_or ds i 0) ≡ Less → take i ds ++ with_rank nat_cmp c (drop i ds) ≡ insert ds i c
rank_less c ds i h e =
    ap (λ xs. take i ds ++ xs) (rank_step c ds i h ∙ ap (λ o. put_at o c (get_or ds i 0) (drop (i + 1) ds) (with_rank nat_cmp c (drop (i + 1) ds))) e ∙ ap (λ xs. c ∷ xs) (sym (from_place ds i h)))

pub rank_equal : (c : ℕ) (ds : List ℕ) (i : ℕ) → i < length ds → nat_cmp c (get_or ds i 0) ≡ Equal → c ≡ get_or ds i 0 → take i ds ++ with_rank nat_cmp c (drop i ds) ≡ ds
rank_equal c ds i h e same =
    ap (λ xs. take i ds ++ xs) (rank_step c ds i h ∙ ap (λ o. put_at o c (get_or ds i 0) (drop (i + 1) ds) (with_rank nat_cmp c (drop (i + 1) ds))) e ∙ ap (λ d. d ∷ drop (i + 1) ds) same ∙ sym (from_place ds i h)) ∙ take-append-drop i ds

pub rank_greater : (c : ℕ) (ds : List ℕ) (i : ℕ) → i < length ds → nat_cmp c (get_or ds i 0) ≡ Greater → take i ds ++ with_rank nat_cmp c (drop i ds) ≡ take (i + 1) ds ++ with_rank nat_cmp c (drop (i + 1) ds)
rank_greater c ds i h e =
    ap (λ xs. take i ds ++ xs) (rank_step c ds i h ∙ ap (λ o. put_at o c (get_or ds i 0) (drop (i + 1) ds) (with_rank nat_cmp c (drop (i + 1) ds))) e)
    ∙ sym (append_assoc (take i ds) (get_or ds i 0 ∷ []) (with_rank nat_cmp c (drop (i + 1) ds)))
    ∙ ap (λ xs. xs ++ with_rank nat_cmp c (drop (i + 1) ds)) (sym (rw add-one (take-suc ds i 0 h)))

rank_first : (x : ℕ) (ys : List ℕ) → AllByRecursion (λ z. nat_cmp x z ≡ Less) ys → with_rank nat_cmp x ys ≡ x ∷ ys
rank_first x [] h = refl
rank_first x (y ∷ ys) h = ap (λ o. put_at o x y ys (with_rank nat_cmp x ys)) h.0

ascending_is : (xs : List ℕ) → Ascends nat_cmp xs → set_of xs ≡ xs
ascending_is [] h = refl
ascending_is (x ∷ xs) h = ap (with_rank nat_cmp x) (ascending_is xs h.1) ∙ rank_first x xs h.0

pub set_twice : (cs : List ℕ) → set_of (set_of cs) ≡ set_of cs
set_twice cs = ascending_is (set_of cs) (firsts_ascend nat_cmp_total cs)

pub is_set : (xs cs : List ℕ) → xs ≡ set_of cs → set_of xs ≡ xs
is_set xs cs e = ap set_of e ∙ set_twice cs ∙ sym e

pub set_onto : (cs ds : List ℕ) → set_of (cs ++ set_of ds) ≡ set_of (cs ++ ds)
set_onto [] ds = set_twice ds
set_onto (c ∷ cs) ds = ap (with_rank nat_cmp c) (set_onto cs ds)

pub set_step : (cs ds : List ℕ) (i : ℕ) → i < length cs → set_of (drop i cs ++ ds) ≡ with_rank nat_cmp (get_or cs i 0) (set_of (drop (i + 1) cs ++ ds))
set_step cs ds i h = ap (λ xs. set_of (xs ++ ds)) (from_place cs i h)

pub set_alone : (cs : List ℕ) → set_of (cs ++ []) ≡ set_of cs
set_alone cs = ap set_of (append-nil cs)
