-- Faults that are tallied one after another.
use Rattle.std.proofs.Common.{◌≡◌, ℕ, Bool, true, false, List, [], ◌∷◌, ◌++◌, length, refl, sym, subst, append_assoc, length-append, arith}
use Rattle.std.specs.Prelude.{Option, Some, None, if◌then◌else◌}
use Rattle.std.specs.Ordering.{is_lt}
use Rattle.std.proofs.lemmas.List.{append-nil}
use Rattle.std.proofs.lemmas.List.Elements.{Contains-append_left, Contains-append_right}
use Rattle.op_base.specs.declared.fault.Fault.{Fault}
use Rattle.op_base.specs.Faults.{fault_cmp}
use Rattle.op_base.specs.Emits.{counted, least_of, lesser as lesser_of}
use Rattle.flow_files.specs.declared.tally.Tally.{Tally}
use Rattle.flow_files.specs.Tallies.{IsLeast, IsLeastOf, Tallies, Grows}
use Rattle.flow_files.proofs.FaultOrder.{IsUpTo, itself, lesser, no_lesser, all_up_to, all_with}

pub left_least : (f g : Fault) (fs gs : List Fault) → is_lt (fault_cmp g f) ≡ false → IsLeast f fs → IsLeast g gs → IsLeast f (fs ++ gs)
left_least f g fs gs h a b = record {
  among = Contains-append_left fs gs f a.among;
  none_below = all_with (IsUpTo f) fs gs a.none_below (all_up_to f g gs (no_lesser g f h) b.none_below);
}

pub right_least : (f g : Fault) (fs gs : List Fault) → is_lt (fault_cmp g f) ≡ true → IsLeast f fs → IsLeast g gs → IsLeast g (fs ++ gs)
right_least f g fs gs h a b = record {
  among = Contains-append_right fs gs g b.among;
  none_below = all_with (IsUpTo g) fs gs (all_up_to g f fs (lesser g f h) a.none_below) b.none_below;
}

pub only_right : (fs gs : List Fault) (o : Option Fault) → fs ≡ [] → IsLeastOf o gs → IsLeastOf o (fs ++ gs)
only_right fs gs o none b = subst (λ (hs : List Fault). IsLeastOf o (hs ++ gs)) (sym none) b

pub only_left : (fs gs : List Fault) (o : Option Fault) → IsLeastOf o fs → gs ≡ [] → IsLeastOf o (fs ++ gs)
only_left fs gs o a none = subst (λ (hs : List Fault). IsLeastOf o (fs ++ hs)) (sym none) (subst (IsLeastOf o) (sym (append-nil fs)) a)

pub one_is_least : (f : Fault) → IsLeastOf (Some f) (f ∷ [])
one_is_least f = record { among = (0, omega arith, refl); none_below = (itself f, tt) }

pub counts_on : (fs gs : List Fault) (n m k : ℕ) → n ≡ counted 0 (length fs) → m ≡ counted 0 (length gs) → k ≡ counted n m → k ≡ counted 0 (length (fs ++ gs))
counts_on fs gs n m k a b is = omega (arith, length-append fs gs)

-- the least as it is found fault by fault
chosen : (fs : List Fault) (m f : Fault) (b : Bool) → is_lt (fault_cmp f m) ≡ b → IsLeast m fs → IsLeast (if b then f else m) (fs ++ f ∷ [])
chosen fs m f true e a = right_least m f fs (f ∷ []) e a (one_is_least f)
chosen fs m f false e a = left_least m f fs (f ∷ []) e a (one_is_least f)

onward : (fs gs : List Fault) (m : Fault) → IsLeast m fs → IsLeastOf (least_of (Some m) gs) (fs ++ gs)
onward fs [] m a = subst (IsLeast m) (sym (append-nil fs)) a
onward fs (g ∷ gs) m a = subst (IsLeastOf (least_of (Some (lesser_of (Some m) g)) gs)) (append_assoc fs (g ∷ []) gs) (onward (fs ++ g ∷ []) gs (lesser_of (Some m) g) (chosen fs m g (is_lt (fault_cmp g m)) refl a))

pub least_of_all : (fs : List Fault) → IsLeastOf (least_of None fs) fs
least_of_all [] = refl
least_of_all (f ∷ fs) = onward (f ∷ []) fs f (one_is_least f)

-- nothing was added
pub same : (tally : Tally) → Grows tally tally []
same tally faults t = subst (λ fs. Tallies fs tally) (sym (append-nil faults)) t

-- some faults, and then others
pub further : (a b c : Tally) (fs gs : List Fault) → Grows a b fs → Grows b c gs → Grows a c (fs ++ gs)
further a b c fs gs g h faults t = subst (λ hs. Tallies hs c) (append_assoc faults fs gs) (h (faults ++ fs) (g faults t))
