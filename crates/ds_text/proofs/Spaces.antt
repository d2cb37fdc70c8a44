-- Spaces at the ends of a column.
use Rattle.std.proofs.Common.{◌≡◌, ◌≤◌, ◌<◌, ◌+◌, ◌-◌, ◌++◌, ◌∷◌, [], ◌==◌, ◌&&◌, ℕ, zero, suc, List, Bool, true, false, cond, refl, sym, ap, ◌∙◌, arith, length, take, drop, get_or, replicate}
use Rattle.std.specs.List.{prefix_len}
use Rattle.std.proofs.lemmas.Bool.{eqb-true}
use Rattle.ds_value.specs.Spellings.{filled}
use Rattle.ds_text.specs.Columns.{is_space, is_blank, without_left_spaces, without_right_spaces}
use Rattle.ds_text.specs.RecordLaws.{ends_with}
use Rattle.ds_text.proofs.FieldWriting.{and_parts}
use Rattle.ds_text.proofs.FieldLaws.{none_and, ends_append}

pub blank_spaces : (n : ℕ) → is_blank (replicate n 32) ≡ true
blank_spaces zero = refl
blank_spaces (suc n) = blank_spaces n

-- a line that is filled further keeps its meaning
pub blank_filled : (xs : List ℕ) (n : ℕ) → is_blank (xs ++ replicate n 32) ≡ is_blank xs
blank_filled [] n = blank_spaces n
blank_filled (x ∷ xs) n = ap (λ y. is_space x && y) (blank_filled xs n)

pub right_blank : (xs : List ℕ) → is_blank xs ≡ true → without_right_spaces xs ≡ []
right_blank [] h = refl
right_blank (x ∷ xs) h = ap (λ y. cond y [] (x ∷ without_right_spaces xs)) h

pub right_filled : (xs : List ℕ) (n : ℕ) → without_right_spaces (xs ++ replicate n 32) ≡ without_right_spaces xs
right_filled [] n = right_blank (replicate n 32) (blank_spaces n)
right_filled (x ∷ xs) n =
    ap (λ y. cond y [] (x ∷ without_right_spaces (xs ++ replicate n 32))) (blank_filled (x ∷ xs) n)
    ∙ ap (λ l. cond (is_blank (x ∷ xs)) [] (x ∷ l)) (right_filled xs n)

-- what doesn't end with a space stays whole
pub not_blank : (x : ℕ) (xs : List ℕ) → ends_with 32 (x ∷ xs) ≡ false → is_blank (x ∷ xs) ≡ false
not_blank x [] h = ap (λ y. y && true) h
not_blank x (y ∷ xs) h = ap (λ b. is_space x && b) (not_blank y xs h) ∙ none_and (is_space x)

pub right_kept : (xs : List ℕ) → ends_with 32 xs ≡ false → without_right_spaces xs ≡ xs
right_kept [] h = refl
right_kept (x ∷ []) h = ap (λ y. cond y [] (x ∷ [])) (not_blank x [] h)
right_kept (x ∷ y ∷ xs) h =
    ap (λ b. cond b [] (x ∷ without_right_spaces (y ∷ xs))) (not_blank x (y ∷ xs) h) ∙ ap (λ l. x ∷ l) (right_kept (y ∷ xs) h)

-- spaces alone are known by their number
blank_is : (xs : List ℕ) → is_blank xs ≡ true → xs ≡ replicate (length xs) 32
blank_is [] h = refl
blank_is (x ∷ xs) h =
    let parts = and_parts (is_space x) (is_blank xs) h in
    ap (λ y. y ∷ xs) (eqb-true x 32 parts.0) ∙ ap (λ l. 32 ∷ l) (blank_is xs parts.1)

filled_by : (x : ℕ) (xs : List ℕ) (blank : Bool) → is_blank (x ∷ xs) ≡ blank → filled (length xs) (without_right_spaces xs) ≡ xs
    → filled (suc (length xs)) (cond blank [] (x ∷ without_right_spaces xs)) ≡ x ∷ xs
filled_by x xs true e ih =
    let all : suc (length xs) - 0 ≡ suc (length xs) = omega arith in
    ap (λ n. replicate n 32) all ∙ sym (blank_is (x ∷ xs) e)
filled_by x xs false e ih =
    let less : suc (length xs) - suc (length (without_right_spaces xs)) ≡ length xs - length (without_right_spaces xs) = omega arith in
    ap (λ n. x ∷ (without_right_spaces xs ++ replicate n 32)) less ∙ ap (λ l. x ∷ l) ih

-- a text is filled again to its length
pub filled_again : (xs : List ℕ) → filled (length xs) (without_right_spaces xs) ≡ xs
filled_again [] = refl
filled_again (x ∷ xs) = filled_by x xs (is_blank (x ∷ xs)) refl (filled_again xs)

-- no space at the front
abbrev pub BeginsSolid : List ℕ → Type 0
BeginsSolid [] = Unit {0}
BeginsSolid (x ∷ xs) = is_space x ≡ false

left_kept : (xs : List ℕ) → BeginsSolid xs → without_left_spaces xs ≡ xs
left_kept [] h = refl
left_kept (x ∷ xs) h = ap (λ y. cond y (without_left_spaces xs) (x ∷ xs)) h

pub left_dropped : (n : ℕ) (xs : List ℕ) → BeginsSolid xs → without_left_spaces (replicate n 32 ++ xs) ≡ xs
left_dropped zero xs h = left_kept xs h
left_dropped (suc n) xs h = left_dropped n xs h

-- by their number
left_by : (x n : ℕ) (xs : List ℕ) (y : Bool) → is_space x ≡ y → n ≡ prefix_len is_space xs → drop n xs ≡ without_left_spaces xs
    → drop (cond y (1 + n) 0) (x ∷ xs) ≡ cond y (without_left_spaces xs) (x ∷ xs)
left_by x n xs true e k ih = let more : 1 + n ≡ suc n = omega arith in ap (λ m. drop m (x ∷ xs)) more ∙ ih
left_by x n xs false e k ih = refl

pub left_len : (xs : List ℕ) → drop (prefix_len is_space xs) xs ≡ without_left_spaces xs
left_len [] = refl
left_len (x ∷ xs) = left_by x (prefix_len is_space xs) xs (is_space x) refl refl (left_len xs)

-- one more space at the right end is dropped
take_more : (n : ℕ) (xs : List ℕ) → n < length xs → take (n + 1) xs ≡ take n xs ++ get_or xs n 0 ∷ []
take_more n [] h = absurd (omega arith)
take_more zero (x ∷ xs) h = refl
take_more (suc n) (x ∷ xs) h = let e : suc n + 1 ≡ suc (n + 1) = omega arith in rw e (ap (λ l. x ∷ l) (take_more n xs (omega arith)))

pub right_less : (n : ℕ) (xs : List ℕ) → 0 < n → n ≤ length xs → get_or xs (n - 1) 0 ≡ 32 → without_right_spaces (take (n - 1) xs) ≡ without_right_spaces (take n xs)
right_less n xs some h e =
    let one : n ≡ n - 1 + 1 = omega arith in
    let within : n - 1 < length xs = omega arith in
    let split : take n xs ≡ take (n - 1) xs ++ 32 ∷ [] = ap (λ m. take m xs) one ∙ (take_more (n - 1) xs within ∙ ap (λ b. take (n - 1) xs ++ b ∷ []) e) in
    sym (ap without_right_spaces split ∙ right_filled (take (n - 1) xs) 1)

pub right_stops : (n : ℕ) (xs : List ℕ) → 0 < n → n ≤ length xs → (get_or xs (n - 1) 0 == 32) ≡ false → without_right_spaces (take n xs) ≡ take n xs
right_stops n xs some h e =
    let one : n ≡ n - 1 + 1 = omega arith in
    let within : n - 1 < length xs = omega arith in
    let split : take n xs ≡ take (n - 1) xs ++ get_or xs (n - 1) 0 ∷ [] = ap (λ m. take m xs) one ∙ take_more (n - 1) xs within in
    right_kept (take n xs) (ap (ends_with 32) split ∙ (ends_append 32 (get_or xs (n - 1) 0) (take (n - 1) xs) [] ∙ e))
