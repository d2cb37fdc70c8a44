-- The least of faults that are found in parts, and of faults that get their operator's number.
use Rattle.std.proofs.Common.{◌≡◌, ℕ, Bool, true, false, Option, Some, None, List, [], ◌∷◌, ◌++◌, map, refl, sym, ap, ap₂, ◌∙◌}
use Rattle.std.specs.Prelude.{if◌then◌else◌}
use Rattle.std.specs.declared.cmp.Ordering.{Ordering}
use Rattle.std.specs.declared.cmp.Ordering.TheVariants.{Less, Equal, Greater}
use Rattle.std.specs.Ordering.{is_lt, is_gt, nat_cmp, ordering_reverse, ordering_then}
use Rattle.std.specs.Cmp.{IsTotalOrder, on_total, nat_cmp_total, then_total, upto, tied_itself}
use Rattle.std.specs.Cmp.Lexicographic.{slice_cmp, nat_list_cmp_total}
use Rattle.op_base.specs.declared.fault.Fault.{Fault}
use Rattle.op_base.specs.Emits.{least_of, lesser}
use Rattle.op_base.specs.Faults.{fault_cmp, kind_number}
use Rattle.op_base.proofs.Adding.{least_of-append}
use Rattle.flow_graph.specs.RowRules.{at_op}
use Rattle.list_run.specs.Found.{AreUnnumbered, at_op_if}

fault_total : IsTotalOrder fault_cmp
fault_total = then_total (on_total (λ (f : Fault). f.op) nat_cmp_total) (then_total (on_total (λ (f : Fault). kind_number f.kind) nat_cmp_total)
    (then_total (on_total (λ (f : Fault). f.place) nat_cmp_total) (on_total (λ (f : Fault). f.bytes) nat_list_cmp_total)))

turned : (r : Ordering) → is_lt r ≡ false → is_gt (ordering_reverse r) ≡ false
turned Less e = absurd (cc)
turned Equal e = refl
turned Greater e = refl

turned_back : (r : Ordering) → is_gt r ≡ false → is_lt (ordering_reverse r) ≡ false
turned_back Less e = refl
turned_back Equal e = refl
turned_back Greater e = absurd (cc)

not_both : (r : Ordering) → is_lt r ≡ true → is_gt r ≡ false
not_both Less e = refl
not_both Equal e = absurd (cc)
not_both Greater e = absurd (cc)

-- g is not less than f
up_to : (f g : Fault) → is_lt (fault_cmp g f) ≡ false → is_gt (fault_cmp f g) ≡ false
up_to f g e = ap is_gt (fault_total.antisymm f g) ∙ turned (fault_cmp g f) e

from_up_to : (f g : Fault) → is_gt (fault_cmp f g) ≡ false → is_lt (fault_cmp g f) ≡ false
from_up_to f g e = ap is_lt (fault_total.antisymm g f) ∙ turned_back (fault_cmp f g) e

none_less : (f g h : Fault) → is_lt (fault_cmp g f) ≡ false → is_lt (fault_cmp h g) ≡ false → is_lt (fault_cmp h f) ≡ false
none_less f g h a b = from_up_to f h (upto fault_total f g h (up_to f g a) (up_to g h b))

still_less : (f g h : Fault) → is_lt (fault_cmp g f) ≡ true → is_lt (fault_cmp h g) ≡ true → is_lt (fault_cmp h f) ≡ true
still_less f g h a b = go (is_lt (fault_cmp h f)) refl
  where
    go : (t : Bool) → is_lt (fault_cmp h f) ≡ t → is_lt (fault_cmp h f) ≡ true
    go true e = e
    go false e =
        let k : is_lt (fault_cmp g f) ≡ false = from_up_to f g (upto fault_total f h g (up_to f h e) (not_both (fault_cmp h g) b)) in
        let no : true ≡ false = sym a ∙ k in cc

abbrev pub pick : Fault → Fault → Fault
pick f g = lesser (Some f) g

-- the least of three, from either side
pick_pick : (f g h : Fault) → pick (pick f g) h ≡ pick f (pick g h)
pick_pick f g h = go (is_lt (fault_cmp g f)) (is_lt (fault_cmp h g)) refl refl
  where
    go : (a b : Bool) → is_lt (fault_cmp g f) ≡ a → is_lt (fault_cmp h g) ≡ b → pick (if a then g else f) h ≡ pick f (if b then h else g)
    go true true d e = ap (λ t. if t then h else g) e ∙ sym (ap (λ t. if t then h else f) (still_less f g h d e))
    go true false d e = ap (λ t. if t then h else g) e ∙ sym (ap (λ t. if t then g else f) d)
    go false true d e = refl
    go false false d e = ap (λ t. if t then h else f) (none_less f g h d e) ∙ sym (ap (λ t. if t then g else f) d)

abbrev picked : Fault → Option Fault → Option Fault
picked f None = None
picked f (Some g) = Some (pick f g)

before : (f g : Fault) (gs : List Fault) → least_of (Some (pick f g)) gs ≡ picked f (least_of (Some g) gs)
before f g [] = refl
before f g (h ∷ gs) = ap (λ k. least_of (Some k) gs) (pick_pick f g h) ∙ before f (pick g h) gs

some_least : (f : Fault) (gs : List Fault) → least_of (Some f) gs ≡ None → ⊥
some_least f [] e = cc
some_least f (g ∷ gs) e = some_least (pick f g) gs e

pub least_left : (fs gs : List Fault) → None ≡ least_of None gs → least_of None fs ≡ least_of None (fs ++ gs)
least_left fs [] e = sym (least_of-append None fs [])
least_left fs (g ∷ gs) e = absurd (some_least g gs (sym e))

pub least_right : (fs gs : List Fault) → None ≡ least_of None fs → least_of None gs ≡ least_of None (fs ++ gs)
least_right fs gs e = ap (λ o. least_of o gs) e ∙ sym (least_of-append None fs gs)

pub least_both : (fs gs : List Fault) (f g : Fault) → Some f ≡ least_of None fs → Some g ≡ least_of None gs → Some (pick f g) ≡ least_of None (fs ++ gs)
least_both fs [] f g d e = absurd (let no : Some g ≡ None = e in cc)
least_both fs (h ∷ gs) f g d e = sym (least_of-append None fs (h ∷ gs) ∙ ap (λ o. least_of o (h ∷ gs)) (sym d) ∙ before f h gs ∙ ap (picked f) (sym e))

-- with the number of an operator, faults that had one number stand in the order in which they stood
same_order : (o : ℕ) (f g : Fault) → f.op ≡ 0 → g.op ≡ 0 → fault_cmp (at_op o g) (at_op o f) ≡ fault_cmp g f
same_order o f g d e =
    ap (λ r. ordering_then r (ordering_then (nat_cmp (kind_number g.kind) (kind_number f.kind)) (ordering_then (nat_cmp g.place f.place) (slice_cmp nat_cmp g.bytes f.bytes))))
    (tied_itself nat_cmp_total o ∙ sym (ap₂ nat_cmp e d))

pick_at : (o : ℕ) (f g : Fault) → f.op ≡ 0 → g.op ≡ 0 → pick (at_op o f) (at_op o g) ≡ at_op o (pick f g)
pick_at o f g d e = ap (λ r. if is_lt r then at_op o g else at_op o f) (same_order o f g d e) ∙ go (is_lt (fault_cmp g f))
  where
    go : (b : Bool) → (if b then at_op o g else at_op o f) ≡ at_op o (if b then g else f)
    go true = refl
    go false = refl

pick_unnumbered : (f g : Fault) → f.op ≡ 0 → g.op ≡ 0 → (pick f g).op ≡ 0
pick_unnumbered f g d e = go (is_lt (fault_cmp g f))
  where
    go : (b : Bool) → (if b then g else f).op ≡ 0
    go true = e
    go false = d

some_at : (o : ℕ) (f : Fault) (gs : List Fault) → f.op ≡ 0 → AreUnnumbered gs → least_of (Some (at_op o f)) (map (at_op o) gs) ≡ at_op_if o (least_of (Some f) gs)
some_at o f [] d h = refl
some_at o f (g ∷ gs) d h = ap (λ k. least_of (Some k) (map (at_op o) gs)) (pick_at o f g d h.0) ∙ some_at o (pick f g) gs (pick_unnumbered f g d h.0) h.1

pub least_at : (o : ℕ) (fs : List Fault) → AreUnnumbered fs → least_of None (map (at_op o) fs) ≡ at_op_if o (least_of None fs)
least_at o [] h = refl
least_at o (f ∷ fs) h = some_at o f fs h.0 h.1
