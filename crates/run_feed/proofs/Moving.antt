-- The rows of operators on their way to links.
use Rattle.std.proofs.Common.{◌≡◌, ◌+◌, ◌<◌, ◌≤◌, ℕ, zero, suc, Bool, true, false, List, [], ◌∷◌, ◌++◌, drop, get_or, length, refl, sym, ap, ◌∙◌, arith}
use Rattle.std.specs.Prelude.{◌||◌}
use Rattle.std.specs.List.{list_any}
use Rattle.std.proofs.lemmas.List.{get_or_append_left}
use Rattle.std.proofs.Math.Seq.{get_or-append_seam}
use Rattle.op_base.specs.Columns.{Row}
use Rattle.flow_graph.specs.declared.flow.LinkSpec.{LinkSpec}
use Rattle.flow_graph.specs.Charts.{Chart, link_at, no_link}
use Rattle.run_feed.specs.Sources.{is_same, rows_for, rows_on}
use Rattle.run_feed.proofs.Reading.{below_next}

pub at_link : (links : List LinkSpec) (i : ℕ) (x : LinkSpec) → i < length links → x ≡ get_or links i x → x ≡ get_or links i no_link
at_link [] i x h e = absurd (omega arith)
at_link (link ∷ links) zero x h e = e
at_link (link ∷ links) (suc i) x h e = at_link links i x (omega arith) e

-- the links from one on have their rows yet
abbrev pub HasRest : Chart → (rows rejected left left_rejected : List (List Row)) → ℕ → Type 0
HasRest c rows rejected left left_rejected i = (k : ℕ) → i ≤ k → k < length c.flow.links → rows_for left left_rejected (link_at c k) ≡ rows_on c rows rejected k

or_none : (a b : Bool) → (a || b) ≡ false → (a ≡ false) × (b ≡ false)
or_none true b e = cc
or_none false b e = (refl, e)

none_from : {X : Type 0} (p : X → Bool) (xs : List X) (n k : ℕ) (d : X) → list_any p (drop n xs) ≡ false → n ≤ k → k < length xs → p (get_or xs k d) ≡ false
none_from p [] n k d e l h = absurd (omega arith)
none_from p (x ∷ xs) zero zero d e l h = (or_none (p x) (list_any p xs) e).0
none_from p (x ∷ xs) zero (suc k) d e l h = none_from p xs zero k d (or_none (p x) (list_any p xs) e).1 (omega arith) (omega arith)
none_from p (x ∷ xs) (suc n) zero d e l h = absurd (omega arith)
none_from p (x ∷ xs) (suc n) (suc k) d e l h = none_from p xs n k d e (omega arith) (omega arith)

pub rest_more : (c : Chart) (rows rejected old old_rejected new new_rejected : List (List Row)) (i : ℕ) (link : LinkSpec) (copies : Bool) → HasRest c rows rejected old old_rejected i → copies ≡ list_any (is_same link) (drop (i + 1) c.flow.links)
    → ((other : LinkSpec) → (copies ≡ false → is_same link other ≡ false) → rows_for new new_rejected other ≡ rows_for old old_rejected other) → HasRest c rows rejected new new_rejected (i + 1)
rest_more c rows rejected old old_rejected new new_rejected i link copies has any kept k h m =
    kept (link_at c k) (λ e. none_from (is_same link) c.flow.links (i + 1) k no_link (sym any ∙ e) h m) ∙ has k (omega (arith, h)) m

pub taken_more : (c : Chart) (rows rejected old old_rejected sources : List (List Row)) (i : ℕ) (link : LinkSpec) (x : List Row) → i < length c.flow.links → length sources ≡ i → HasRest c rows rejected old old_rejected i → link ≡ link_at c i → x ≡ rows_for old old_rejected link
    → ((k : ℕ) → k < i → get_or sources k [] ≡ rows_on c rows rejected k) → (k : ℕ) → k < i + 1 → get_or (sources ++ x ∷ []) k [] ≡ rows_on c rows rejected k
taken_more c rows rejected old old_rejected sources i link x h len has item taken each = below_next (λ k. get_or (sources ++ x ∷ []) k [] ≡ rows_on c rows rejected k) i
    (λ k l. get_or_append_left sources (x ∷ []) [] k (omega (arith, l, len)) ∙ each k l)
    (ap (λ k. get_or (sources ++ x ∷ []) k []) (sym len) ∙ get_or-append_seam sources x [] [] ∙ taken ∙ ap (rows_for old old_rejected) item ∙ has i (omega arith) h)
