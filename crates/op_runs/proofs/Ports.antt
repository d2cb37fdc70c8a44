-- What one more item changes of what there is at each port.
use Rattle.std.proofs.Common.{◌≡◌, ℕ, zero, suc, ◌+◌, ◌<◌, ◌≤◌, Bool, true, false, cond, refl, sym, ap, ap₂, ◌∙◌, subst, List, [], ◌∷◌, ◌++◌, append-nil, arith, length, get_or}
use Rattle.streams.specs.Streams.{Feed, has_end, rows, items_of, ended, rows_of}
use Rattle.streams.proofs.StreamLaws.{items-append, eq_false}
use Rattle.op_base.specs.Columns.{Row}
use Rattle.op_base.specs.Feeds.{IsOpen, fed, end_at}
use Rattle.op_base.specs.Standing.{row_feed, end_feed}
use Rattle.op_base.proofs.StandingLaws.{ended-row, ended-end, rows_of-row, rows_of-end}
use Rattle.op_runs.specs.KeyedStreams.{at_ports, port_rows, port_ends}

pub at_ports-agree : {A : Type 0} (f g : ℕ → A) (s n : ℕ) → ((j : ℕ) → s ≤ j → j < s + n → f j ≡ g j) → at_ports f s n ≡ at_ports g s n
at_ports-agree f g s zero h = refl
at_ports-agree f g s (suc n) h = ap₂ (λ x xs. x ∷ xs) (h s (omega arith) (omega arith)) (at_ports-agree f g (suc s) n (λ j l m. h j (omega (arith, l)) (omega (arith, m))))

-- only port p is changed
fed_from : (f g : ℕ → List Row) (x : Row) (p q s n : ℕ) → p ≡ s + q → ((j : ℕ) → (j ≡ p → ⊥) → g j ≡ f j) → g p ≡ f p ++ x ∷ [] → at_ports g s n ≡ fed q x (at_ports f s n)
fed_from f g x p zero s zero e other here = refl
fed_from f g x p (suc q) s zero e other here = refl
fed_from f g x p zero s (suc n) e other here =
    ap₂ (λ y ys. y ∷ ys) (let z : p ≡ s = omega (arith, e) in subst (λ i. g i ≡ f i ++ x ∷ []) z here)
    (at_ports-agree g f (suc s) n (λ j l m. other j (λ k. absurd (omega (arith, k, l, e)))))
fed_from f g x p (suc q) s (suc n) e other here = ap₂ (λ y ys. y ∷ ys) (other s (λ k. absurd (omega (arith, k, e)))) (fed_from f g x p q (suc s) n (omega (arith, e)) other here)

end_from : (f g : ℕ → Bool) (p q s n : ℕ) → p ≡ s + q → ((j : ℕ) → (j ≡ p → ⊥) → g j ≡ f j) → g p ≡ true → at_ports g s n ≡ end_at q (at_ports f s n)
end_from f g p zero s zero e other here = refl
end_from f g p (suc q) s zero e other here = refl
end_from f g p zero s (suc n) e other here =
    ap₂ (λ y ys. y ∷ ys) (let z : p ≡ s = omega (arith, e) in subst (λ i. g i ≡ true) z here)
    (at_ports-agree g f (suc s) n (λ j l m. other j (λ k. absurd (omega (arith, k, l, e)))))
end_from f g p (suc q) s (suc n) e other here = ap₂ (λ y ys. y ∷ ys) (other s (λ k. absurd (omega (arith, k, e)))) (end_from f g p q (suc s) n (omega (arith, e)) other here)

items_other : (j : ℕ) (feeds : List (Feed Row)) (f : Feed Row) → (j ≡ f.port → ⊥) → items_of j (feeds ++ f ∷ []) ≡ items_of j feeds
items_other j feeds f ne =
    items-append j feeds (f ∷ []) ∙ ap (λ b. items_of j feeds ++ cond b (f.item ∷ []) []) (eq_false f.port j (λ e. ne (sym e))) ∙ append-nil (items_of j feeds)

zero_is : (p : ℕ) → p ≡ 0 + p
zero_is p = omega arith

pub port_rows-row : (n p : ℕ) (r : Row) (feeds : List (Feed Row)) → port_rows n (feeds ++ row_feed p r ∷ []) ≡ fed p r (port_rows n feeds)
port_rows-row n p r feeds = fed_from (λ i. rows_of i feeds) (λ i. rows_of i (feeds ++ row_feed p r ∷ [])) r p p 0 n (zero_is p) (λ j ne. ap rows (items_other j feeds (row_feed p r) ne)) (rows_of-row p feeds r)

pub port_ends-row : (n p : ℕ) (r : Row) (feeds : List (Feed Row)) → port_ends n (feeds ++ row_feed p r ∷ []) ≡ port_ends n feeds
port_ends-row n p r feeds = at_ports-agree (λ i. ended i (feeds ++ row_feed p r ∷ [])) (λ i. ended i feeds) 0 n (λ j l m. ended-row j feeds p r)

pub port_rows-end : (n p : ℕ) (feeds : List (Feed Row)) → port_rows n (feeds ++ end_feed p ∷ []) ≡ port_rows n feeds
port_rows-end n p feeds = at_ports-agree (λ i. rows_of i (feeds ++ end_feed p ∷ [])) (λ i. rows_of i feeds) 0 n (λ j l m. rows_of-end j p feeds)

pub port_ends-end : (n p : ℕ) (feeds : List (Feed Row)) → port_ends n (feeds ++ end_feed p ∷ []) ≡ end_at p (port_ends n feeds)
port_ends-end n p feeds = end_from (λ i. ended i feeds) (λ i. ended i (feeds ++ end_feed p ∷ [])) p p 0 n (zero_is p) (λ j ne. ap has_end (items_other j feeds (end_feed p) ne)) (ended-end p feeds)

-- a port that hasn't ended
open_from : (f : ℕ → Bool) (p q s n : ℕ) → p ≡ s + q → q < n → f p ≡ false → IsOpen q (at_ports f s n)
open_from f p q s zero e l h = absurd (omega (arith, l))
open_from f p zero s (suc n) e l h = let z : p ≡ s = omega (arith, e) in subst (λ i. f i ≡ false) z h
open_from f p (suc q) s (suc n) e l h = open_from f p q (suc s) n (omega (arith, e)) (omega (arith, l)) h

pub port_open : (n p : ℕ) (feeds : List (Feed Row)) → p < n → ended p feeds ≡ false → IsOpen p (port_ends n feeds)
port_open n p feeds l h = open_from (λ i. ended i feeds) p p 0 n (zero_is p) l h

pub length-ports : {A : Type 0} (f : ℕ → A) (s n : ℕ) → length (at_ports f s n) ≡ n
length-ports f s zero = refl
length-ports f s (suc n) = ap suc (length-ports f (suc s) n)

get_from : {A : Type 0} (f : ℕ → A) (d : A) (p q s n : ℕ) → p ≡ s + q → q < n → get_or (at_ports f s n) q d ≡ f p
get_from f d p q s zero e l = absurd (omega (arith, l))
get_from f d p zero s (suc n) e l = ap f (omega (arith, e))
get_from f d p (suc q) s (suc n) e l = get_from f d p q (suc s) n (omega (arith, e)) (omega (arith, l))

pub get_or-ports : {A : Type 0} (f : ℕ → A) (d : A) (i n : ℕ) → i < n → get_or (at_ports f 0 n) i d ≡ f i
get_or-ports f d i n l = get_from f d i i 0 n (zero_is i) l
