-- The order of faults is total, and goes on from one fault to another.
use Rattle.std.proofs.Common.{◌≡◌, ◌≢◌, true, false, List, [], ◌∷◌, ◌++◌, refl, sym, ◌∙◌}
use Rattle.std.specs.List.{AllByRecursion}
use Rattle.std.specs.declared.cmp.Ordering.{Ordering}
use Rattle.std.specs.declared.cmp.Ordering.TheVariants.{Less, Equal, Greater}
use Rattle.std.specs.Ordering.{is_lt, is_gt, ordering_reverse}
use Rattle.std.specs.Cmp.{IsTotalOrder, on_total, nat_cmp_total, then_total, upto, tied_itself}
use Rattle.std.specs.Cmp.Lexicographic.{nat_list_cmp_total}
use Rattle.op_base.specs.declared.fault.Fault.{Fault}
use Rattle.op_base.specs.Faults.{fault_cmp, kind_number}

fault_total : IsTotalOrder fault_cmp
fault_total = then_total (on_total (λ (f : Fault). f.op) nat_cmp_total) (then_total (on_total (λ (f : Fault). kind_number f.kind) nat_cmp_total)
    (then_total (on_total (λ (f : Fault). f.place) nat_cmp_total) (on_total (λ (f : Fault). f.bytes) nat_list_cmp_total)))

abbrev pub IsUpTo : Fault → Fault → Type 0
IsUpTo f g = fault_cmp f g ≢ Greater

not_above : (r : Ordering) → r ≢ Greater → is_gt r ≡ false
not_above Less h = refl
not_above Equal h = refl
not_above Greater h = absurd (h refl)

up_to : (r : Ordering) → is_gt r ≡ false → r ≢ Greater
up_to Less h e = absurd (cc)
up_to Equal h e = absurd (cc)
up_to Greater h e = absurd (cc)

pub chained : (f g h : Fault) → IsUpTo f g → IsUpTo g h → IsUpTo f h
chained f g h a b = up_to (fault_cmp f h) (upto fault_total f g h (not_above (fault_cmp f g) a) (not_above (fault_cmp g h) b))

pub itself : (f : Fault) → IsUpTo f f
itself f e = absurd (cc (tied_itself fault_total f))

less : (r : Ordering) → is_lt r ≡ true → r ≢ Greater
less Less h e = absurd (cc)
less Equal h e = absurd (cc)
less Greater h e = absurd (cc)

-- a fault that is less is not above
pub lesser : (f g : Fault) → is_lt (fault_cmp f g) ≡ true → IsUpTo f g
lesser f g h = less (fault_cmp f g) h

turned : (r : Ordering) → is_lt r ≡ false → ordering_reverse r ≢ Greater
turned Less h e = absurd (cc)
turned Equal h e = absurd (cc)
turned Greater h e = absurd (cc)

pub no_lesser : (f g : Fault) → is_lt (fault_cmp f g) ≡ false → IsUpTo g f
no_lesser f g h e = turned (fault_cmp f g) h (sym (fault_total.antisymm g f) ∙ e)

pub all_up_to : (f g : Fault) (hs : List Fault) → IsUpTo f g → AllByRecursion (IsUpTo g) hs → AllByRecursion (IsUpTo f) hs
all_up_to f g [] a b = tt
all_up_to f g (h ∷ hs) a b = (chained f g h a b.0, all_up_to f g hs a b.1)

pub all_with : (P : Fault → Type 0) (fs gs : List Fault) → AllByRecursion P fs → AllByRecursion P gs → AllByRecursion P (fs ++ gs)
all_with P [] gs a b = b
all_with P (f ∷ fs) gs a b = (a.0, all_with P fs gs a.1 b)
