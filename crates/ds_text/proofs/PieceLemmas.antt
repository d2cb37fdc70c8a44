use Rattle.std.proofs.Common.{◌≡◌, ◌≤◌, ◌<◌, ◌+◌, ◌-◌, ◌++◌, ◌∷◌, [], ◌==◌, ℕ, zero, suc, List, Bool, true, false, refl, sym, ap, ◌∙◌, arith, length, take, drop, get_or, min, append_assoc, append-nil, length-take, length-drop, cond, Option, Some, None, IfSome, IfNone, subst}
use Rattle.memchr.specs.Find.{IsFirstByte, is_byte}
use Rattle.std.proofs.lemmas.Bool.{eqb-true}
use Rattle.std.proofs.lemmas.List.{take_all, take-take, take-append-le, take_min, drop_more, take-append-drop, drop-take, drop-drop}
use Rattle.std.proofs.Math.Seq.{take-append-add}
use Rattle.ds_text.specs.Lines.{Reading, split_within, before, with_before, without_return, IsFree}
use Rattle.ds_text.specs.Pieces.{EndsAt, kept}

pub open_front : (n : ℕ) (bytes : List ℕ) → ((k : ℕ) → k < n → (get_or bytes k 0 == 10) ≡ false) → IsFree (take n bytes)
open_front zero bytes h = tt
open_front (suc n) [] h = tt
open_front (suc n) (b ∷ bytes) h = (h 0 (omega arith), open_front n bytes (λ k l. h (suc k) (let e : suc k < suc n = omega arith in e)))

-- what is kept of a line with more bytes
pub kept_more : (n : ℕ) (xs ys : List ℕ) → take n (take n xs ++ ys) ≡ take n (xs ++ ys)
kept_more zero xs ys = refl
kept_more (suc n) [] ys = refl
kept_more (suc n) (x ∷ xs) ys = ap (λ l. x ∷ l) (kept_more n xs ys)

take_min-2 : (n : ℕ) (ys : List ℕ) → take (min (length ys) n) ys ≡ take n ys
take_min-2 n ys = let e : min (length ys) n ≡ min n (length ys) = omega arith in ap (λ k. take k ys) e ∙ take_min n ys

pub kept_room : (xs ys : List ℕ) → length xs ≤ 2_097_154 → kept (xs ++ ys) ≡ xs ++ take (min (length ys) (2_097_154 - length xs)) ys
kept_room xs ys h =
    let e : 2_097_154 ≡ length xs + (2_097_154 - length xs) = omega arith in
    ap (λ n. take n (xs ++ ys)) e ∙ (take-append-add xs ys (2_097_154 - length xs) ∙ ap (λ l. xs ++ l) (sym (take_min-2 (2_097_154 - length xs) ys)))

-- without its byte 13 a line is a front of it
front_of_line : (xs : List ℕ) → take (length (without_return xs)) xs ≡ without_return xs
front_of_line [] = refl
front_of_line (x ∷ []) = elim (x == 13) as (λ b. take (length (cond b [] (x ∷ []))) (x ∷ []) ≡ cond b [] (x ∷ [])) [ true ↦ refl | false ↦ refl ]
front_of_line (x ∷ y ∷ xs) = ap (λ l. x ∷ l) (front_of_line (y ∷ xs))

take-min-take : (m n : ℕ) (xs : List ℕ) → take m (take n xs) ≡ take (min m n) xs
take-min-take zero n xs = let e : min 0 n ≡ 0 = omega arith in rw e refl
take-min-take (suc m) zero xs = let e : min (suc m) 0 ≡ 0 = omega arith in rw e refl
take-min-take (suc m) (suc n) [] = let e : min (suc m) (suc n) ≡ suc (min m n) = omega arith in rw e refl
take-min-take (suc m) (suc n) (x ∷ xs) = let e : min (suc m) (suc n) ≡ suc (min m n) = omega arith in rw e (ap (λ l. x ∷ l) (take-min-take m n xs))

pub shown_front : (xs : List ℕ) → take (min (length (without_return xs)) 2_097_153) xs ≡ take 2_097_153 (without_return xs)
shown_front xs =
    let e : min (length (without_return xs)) 2_097_153 ≡ min 2_097_153 (length (without_return xs)) = omega arith in
    ap (λ n. take n xs) e ∙ (sym (take-min-take 2_097_153 (length (without_return xs)) xs) ∙ ap (take 2_097_153) (front_of_line xs))

cond_suc : (b : Bool) (m n : ℕ) → suc (cond b m n) ≡ cond b (suc m) (suc n)
cond_suc true m n = refl
cond_suc false m n = refl

pub len_without_return : (xs : List ℕ) → length (without_return xs) ≡ cond (get_or xs (length xs - 1) 0 == 13) (length xs - 1) (length xs)
len_without_return [] = refl
len_without_return (x ∷ []) = elim (x == 13) as (λ b. length (cond b [] (x ∷ [])) ≡ cond b 0 1) [ true ↦ refl | false ↦ refl ]
len_without_return (x ∷ y ∷ xs) =
    let e : suc (length (y ∷ xs)) - 1 ≡ suc (length (y ∷ xs) - 1) = omega arith in
    rw e (ap suc (len_without_return (y ∷ xs)) ∙ cond_suc (get_or (y ∷ xs) (length (y ∷ xs) - 1) 0 == 13) _ _)

-- the byte 13 at the end of what is kept is no byte of a line that is too long
pub shown_kept : (n : ℕ) (xs : List ℕ) → take n (without_return (take (suc n) xs)) ≡ take n (without_return xs)
shown_kept zero xs = refl
shown_kept (suc n) [] = refl
shown_kept (suc n) (x ∷ []) = refl
shown_kept (suc n) (x ∷ y ∷ xs) = ap (λ l. x ∷ l) (shown_kept n (y ∷ xs))

pub nothing_before : (ls : List (List ℕ)) (b : Bool) → before [] ls b ≡ record { lines = ls; too_long = b }
nothing_before [] b = refl
nothing_before (l ∷ ls) b = refl

pub before_before : (xs ys : List ℕ) (ls : List (List ℕ)) (b : Bool) → with_before xs (before ys ls b) ≡ before (xs ++ ys) ls b
before_before xs ys (l ∷ ls) b = ap (λ k. let r : Reading = record { lines = k ∷ ls; too_long = b } in r) (sym (append_assoc xs ys l))
before_before [] ys [] b = nothing_before (before ys [] b).lines (before ys [] b).too_long
before_before (x ∷ xs) [] [] b = ap (λ k. before k [] b) (sym (append-nil (x ∷ xs)))
before_before (x ∷ xs) (y ∷ ys) [] true = refl
before_before (x ∷ xs) (y ∷ ys) [] false = refl

-- a piece of a line stands before what else there is
pub split_piece : (piece bs : List ℕ) (room : ℕ) → IsFree piece → split_within (length piece + room) (piece ++ bs) ≡ with_before piece (split_within room bs)
split_piece [] bs room h = let e : 0 + room ≡ room = omega arith in ap (λ n. split_within n bs) e ∙ sym (nothing_before (split_within room bs).lines (split_within room bs).too_long)
split_piece (b ∷ piece) bs room h =
    let e : suc (length piece) + room ≡ suc (length piece + room) = omega arith in
    rw (e, h.0) (ap (with_before (b ∷ [])) (split_piece piece bs room h.1) ∙ before_before (b ∷ []) piece (split_within room bs).lines (split_within room bs).too_long)

pub ends_at : (bytes : List ℕ) (n : ℕ) → n < length bytes → get_or bytes n 0 ≡ 10 → drop n bytes ≡ 10 ∷ drop (n + 1) bytes
ends_at bytes n h e = drop_more bytes n 0 h ∙ ap (λ b. b ∷ drop (n + 1) bytes) e

test_false : (a : ℕ) (b : Bool) → (b ≡ true → ⊥) → b ≡ false
test_false a true h = absurd (h refl)
test_false a false h = refl

pub none_open : (bytes : List ℕ) (r : Option ℕ) → IsFirstByte (is_byte 10) bytes r → IfNone r (IsFree bytes)
none_open bytes None h = subst IsFree (take_all (length bytes) bytes (omega arith)) (open_front (length bytes) bytes (λ k l. test_false 0 _ (h k (omega arith) l)))
none_open bytes (Some n) h = tt

pub some_ends : (bytes : List ℕ) (r : Option ℕ) → IsFirstByte (is_byte 10) bytes r → IfSome r (λ n. EndsAt bytes n)
some_ends bytes None h = tt
some_ends bytes (Some n) h = (h.0.high, open_front n bytes (λ k l. test_false 0 _ (h.0.before k (omega arith) l)), ends_at bytes n h.0.high (eqb-true (get_or bytes n 0) 10 h.1))

-- of a buffer
abbrev pub part : List ℕ → ℕ → ℕ → List ℕ
part bytes at end = take (end - at) (drop at bytes)

pub length-part : (bytes : List ℕ) (at end : ℕ) → end ≤ length bytes → length (part bytes at end) ≡ end - at
length-part bytes at end h = omega (arith, length-take (end - at) (drop at bytes), length-drop at bytes)

pub rest_of_piece : (bytes : List ℕ) (at end n : ℕ) → at ≤ end → n ≤ end - at → drop n (part bytes at end) ≡ part bytes (at + n) end
rest_of_piece bytes at end n h k =
    let e : end - at ≡ n + (end - (at + n)) = omega arith in
    ap (λ m. drop n (take m (drop at bytes))) e ∙ (drop-take n (end - (at + n)) (drop at bytes) ∙ ap (take (end - (at + n))) (drop-drop n at bytes))

pub line_moved : (bytes : List ℕ) (at end n : ℕ) (rest : List ℕ) → at ≤ end → end ≤ length bytes → EndsAt (part bytes at end) n
    → part bytes at end ++ rest ≡ take n (part bytes at end) ++ 10 ∷ (part bytes (at + (n + 1)) end ++ rest)
line_moved bytes at end n rest h w e =
    let size : n < end - at = omega (arith, e.0, length-part bytes at end w) in
    let more : drop n (part bytes at end) ≡ 10 ∷ part bytes (at + (n + 1)) end = e.2 ∙ ap (λ l. 10 ∷ l) (rest_of_piece bytes at end (n + 1) h (let k : n + 1 ≤ end - at = omega arith in k)) in
    ap (λ l. l ++ rest) (sym (take-append-drop n (part bytes at end))) ∙ (append_assoc _ _ rest ∙ ap (λ l. take n (part bytes at end) ++ (l ++ rest)) more)

pub whole_moved : (bytes rest : List ℕ) (at end : ℕ) → part bytes at end ++ rest ≡ part bytes at end ++ (part bytes end end ++ rest)
whole_moved bytes rest at end = let e : end - end ≡ 0 = omega arith in rw e refl

pub front_front : (n m : ℕ) (xs ys : List ℕ) → n ≤ length xs → n ≤ m → take n (take m (xs ++ ys)) ≡ take n xs
front_front n m xs ys h k = take-take n m (xs ++ ys) k ∙ take-append-le n xs ys h
