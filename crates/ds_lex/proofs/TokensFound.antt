-- What the lexer finds is a separator or a token.
use Rattle.std.proofs.Common.{◌≡◌, ◌<◌, ◌+◌, ◌⊎◌, inl, inr, ℕ, suc, List, [], ◌∷◌, ◌++◌, length, drop, take, Option, Some, None, Bool, true, false, eqb, refl, sym, ap, ◌∙◌, arith, subst, append_assoc, length-append}
use Rattle.std.specs.Prelude.{◌&&◌, ◌||◌, not, ◌==◌, position, if◌then◌else◌, codes}
use Rattle.std.specs.List.{list_all, list_any, AllByRecursion}
use Rattle.std.specs.Cmp.{first_so, second_so}
use Rattle.std.proofs.lemmas.Bool.{eqb-true}
use Rattle.std.proofs.Math.Seq.{drop-append_seam, take-append_seam}
use Rattle.ds_lex.specs.declared.token.Mode.{Mode}
use Rattle.ds_lex.specs.declared.token.Mode.TheVariants.{Osh, Inner}
use Rattle.ds_lex.specs.declared.token.Sort.TheVariants as sort
use Rattle.ds_lex.specs.declared.token.Piece.{Piece}
use Rattle.ds_lex.specs.declared.token.Piece.TheVariants.{Gap, Part}
use Rattle.ds_lex.specs.Pieces.{is_blank, is_digit, is_letter, is_opt_byte, is_word_byte, is_text_byte, sign_bytes, is_sign_byte, is_double_sign, begins_with, count_front, comment_len, gap_of, number_len, quoted_of, sign_of, opens_comment, opens_word, opens_quoted, opens_option, piece_from}
use Rattle.ds_lex.specs.Tokens.{IsSign, IsPiece}
use Rattle.ds_lex.proofs.Fronts.{Front, fronted, counted, first_at, comment_found}

pub record Found (mode : Mode) (p : Piece) (text : List ℕ) : Type 0 where
  pub bytes : List ℕ
  pub rest : List ℕ
  pub parts : text ≡ bytes ++ rest
  pub piece : IsPiece mode p bytes

found_as : (mode : Mode) (p q : Piece) (text : List ℕ) → Some p ≡ Some q → Found mode p text → Found mode q text
found_as mode p q text e f = let same : p ≡ q = cc in subst (λ x. Found mode x text) same f

split : (t : Bool) (x y : Option Piece) (p : Piece) → (if t then x else y) ≡ Some p → ((t ≡ true) × (x ≡ Some p)) ⊎ ((t ≡ false) × (y ≡ Some p))
split true x y p h = inl (refl, h)
split false x y p h = inr (refl, h)

blank_found : (mode : Mode) (b : ℕ) (bs : List ℕ) → is_blank b ≡ true → Found mode (Gap 1) (b ∷ bs)
blank_found mode b bs h = record { bytes = b ∷ []; rest = bs; parts = refl; piece = (refl, inl (h, refl)) }

line_found : (mode : Mode) (b : ℕ) (bs : List ℕ) → eqb b 35 ≡ true → Found mode (Gap (count_front (λ c. not (c == 10)) bs + 1)) (b ∷ bs)
line_found mode b bs h =
    let f = fronted (λ c. not (c == 10)) bs in
    record { bytes = b ∷ f.front; rest = f.rest; parts = ap (λ (xs : List ℕ). b ∷ xs) f.parts; piece = (omega (arith, f.size), inr (inl (eqb-true b 35 h, f.each))) }

gap_found : (mode : Mode) (b : ℕ) (bs : List ℕ) (p : Piece) (o : Option ℕ) → comment_len (drop 1 bs) ≡ o → opens_comment b bs ≡ true → gap_of 2 o ≡ Some p → Found mode p (b ∷ bs)
gap_found mode b bs p None e h g = absurd cc
gap_found mode b [] p (Some n) e h g = absurd (let k = second_so (b == 47) (begins_with (λ c. c == 42) []) h in cc)
gap_found mode b (c ∷ bs) p (Some n) e h g =
    let slash : b ≡ 47 = eqb-true b 47 (first_so (b == 47) (begins_with (λ c. c == 42) (c ∷ bs)) h) in
    let star : c ≡ 42 = eqb-true c 42 (second_so (b == 47) (begins_with (λ c. c == 42) (c ∷ bs)) h) in
    let k = comment_found bs n e in
    let front : b ∷ c ∷ bs ≡ codes "/*" ++ bs = ap (λ (x : ℕ). x ∷ c ∷ bs) slash ∙ ap (λ (x : ℕ). 47 ∷ x ∷ bs) star in
    let whole : b ∷ c ∷ bs ≡ (codes "/*" ++ (k.inside ++ codes "*/")) ++ k.rest = front ∙ ap (λ (xs : List ℕ). codes "/*" ++ xs) (k.parts ∙ sym (append_assoc k.inside (codes "*/") k.rest)) in
    let size : length (codes "/*" ++ (k.inside ++ codes "*/")) ≡ n + 2 = omega (arith, length-append k.inside (codes "*/"), k.size) in
    found_as mode (Gap (n + 2)) p (b ∷ c ∷ bs) g
    (record { bytes = codes "/*" ++ (k.inside ++ codes "*/"); rest = k.rest; parts = whole; piece = (size, inr (inr (record { inside = k.inside; parts = refl; next = k.next }))) })

word_found : (mode : Mode) (b : ℕ) (bs : List ℕ) → opens_word b ≡ true → Found mode (Part sort.Word (count_front is_word_byte bs + 1)) (b ∷ bs)
word_found mode b bs h =
    let f = fronted is_word_byte bs in
    record { bytes = b ∷ f.front; rest = f.rest; parts = ap (λ (xs : List ℕ). b ∷ xs) f.parts; piece = (omega (arith, f.size), (h, f.each)) }

all_both : (p q : ℕ → Bool) (xs : List ℕ) → list_all p xs ≡ true → list_all q xs ≡ true → list_all (λ x. p x && q x) xs ≡ true
all_both p q [] h k = refl
all_both p q (x ∷ xs) h k =
    rw (first_so (p x) (list_all p xs) h, first_so (q x) (list_all q xs) k) (all_both p q xs (second_so (p x) (list_all p xs) h) (second_so (q x) (list_all q xs) k))

quote_closed : (mode : Mode) (b : ℕ) (bs : List ℕ) (p : Piece) (n : ℕ) → position (λ c. c == b) bs ≡ Some n → opens_quoted b ≡ true → list_all is_text_byte (take n bs) ≡ true → Found mode (Part sort.Quoted (n + 2)) (b ∷ bs)
quote_closed mode b bs p n e h t =
    let f = first_at (λ c. c == b) n bs e in
    let close : f.at ≡ b = eqb-true f.at b f.here in
    let front : take n bs ≡ f.front = ap (take n) f.parts ∙ (ap (λ k. take k (f.front ++ f.at ∷ f.rest)) (sym f.size) ∙ take-append_seam f.front (f.at ∷ f.rest)) in
    let text : list_all is_text_byte f.front ≡ true = ap (list_all is_text_byte) (sym front) ∙ t in
    let whole : b ∷ bs ≡ (b ∷ (f.front ++ b ∷ [])) ++ f.rest = ap (λ (xs : List ℕ). b ∷ xs) (f.parts ∙ (ap (λ x. f.front ++ x ∷ f.rest) close ∙ sym (append_assoc f.front (b ∷ []) f.rest))) in
    record { bytes = b ∷ (f.front ++ b ∷ []); rest = f.rest; parts = whole; piece = (omega (arith, length-append f.front (b ∷ []), f.size), record { quote = b; inside = f.front; parts = refl; opens = h; each = all_both is_text_byte (λ c. not (c == b)) f.front text f.before }) }

quote_found : (mode : Mode) (b : ℕ) (bs : List ℕ) (p : Piece) (o : Option ℕ) → position (λ c. c == b) bs ≡ o → opens_quoted b ≡ true → quoted_of o bs ≡ Some p → Found mode p (b ∷ bs)
quote_found mode b bs p None e h q = absurd cc
quote_found mode b bs p (Some n) e h q =
    elim (split (list_all is_text_byte (take n bs)) (Some (Part sort.Quoted (n + 2))) None p q) [
      | inl a ↦ found_as mode (Part sort.Quoted (n + 2)) p (b ∷ bs) a.1 (quote_closed mode b bs p n e h a.0)
      | inr a ↦ (let no = a.1 in absurd cc)
    ]

pub letter_opt : (c : ℕ) → is_letter c ≡ true → is_opt_byte c ≡ true
letter_opt c h = rw h refl

opt_found : (mode : Mode) (b : ℕ) (bs : List ℕ) → opens_option mode b bs ≡ true → Found mode (Part sort.Opt (count_front is_opt_byte bs + 1)) (b ∷ bs)
opt_found Inner b bs h = absurd cc
opt_found Osh b [] h = absurd (let k = second_so (b == 45) (begins_with is_letter []) h in cc)
opt_found Osh b (c ∷ bs) h =
    let f = fronted is_opt_byte bs in
    let minus : b ≡ 45 = eqb-true b 45 (first_so (b == 45) (begins_with is_letter (c ∷ bs)) h) in
    let letter = second_so (b == 45) (begins_with is_letter (c ∷ bs)) h in
    let size : suc (suc (length f.front)) ≡ count_front is_opt_byte (c ∷ bs) + 1 = omega (arith, counted is_opt_byte c bs (letter_opt c letter), f.size) in
    record { bytes = b ∷ c ∷ f.front; rest = f.rest; parts = ap (λ (xs : List ℕ). b ∷ c ∷ xs) f.parts; piece = (size, (minus, letter, f.each)) }

pub number_len_is : (text : List ℕ) (f : Front is_digit text) → number_len text ≡ (if begins_with (λ c. c == 46) f.rest && begins_with is_digit (drop 1 f.rest) then length f.front + 1 + count_front is_digit (drop 1 f.rest) else length f.front)
number_len_is text f =
    let rest : drop (length f.front) text ≡ f.rest = ap (drop (length f.front)) f.parts ∙ drop-append_seam f.front f.rest in
    ap (λ n. if begins_with (λ c. c == 46) (drop n text) && begins_with is_digit (drop 1 (drop n text)) then n + 1 + count_front is_digit (drop 1 (drop n text)) else n) f.size
    ∙ ap (λ (r : List ℕ). if begins_with (λ c. c == 46) r && begins_with is_digit (drop 1 r) then length f.front + 1 + count_front is_digit (drop 1 r) else length f.front) rest

pub some_digits : (bs : List ℕ) (f : Front is_digit bs) → begins_with is_digit bs ≡ true → 0 < length f.front
some_digits [] f h = absurd cc
some_digits (b ∷ bs) f h = omega (arith, counted is_digit b bs h, f.size)

number_by : (mode : Mode) (text : List ℕ) (f : Front is_digit text) → 0 < length f.front → (rest : List ℕ) → f.rest ≡ rest → (t : Bool) → (begins_with (λ c. c == 46) rest && begins_with is_digit (drop 1 rest)) ≡ t → Found mode (Part sort.Number (if t then length f.front + 1 + count_front is_digit (drop 1 rest) else length f.front)) text
number_by mode text f some rest e false h = record { bytes = f.front; rest = f.rest; parts = f.parts; piece = (refl, inl (some, f.each)) }
number_by mode text f some [] e true h = absurd cc
number_by mode text f some (c ∷ cs) e true h =
    let point : c ≡ 46 = eqb-true c 46 (first_so (c == 46) (begins_with is_digit cs) h) in
    let g = fronted is_digit cs in
    let whole : text ≡ (f.front ++ 46 ∷ g.front) ++ g.rest = f.parts ∙ (ap (λ (xs : List ℕ). f.front ++ xs) (e ∙ (ap (λ x. x ∷ cs) point ∙ ap (λ (xs : List ℕ). 46 ∷ xs) g.parts)) ∙ sym (append_assoc f.front (46 ∷ g.front) g.rest)) in
    let size : length (f.front ++ 46 ∷ g.front) ≡ length f.front + 1 + count_front is_digit cs = omega (arith, length-append f.front (46 ∷ g.front), g.size) in
    record { bytes = f.front ++ 46 ∷ g.front; rest = g.rest; parts = whole; piece = (size, inr (f.front, g.front, refl, (some, f.each), (some_digits cs g (second_so (c == 46) (begins_with is_digit cs) h), g.each))) }

number_found : (mode : Mode) (b : ℕ) (bs : List ℕ) → is_digit b ≡ true → Found mode (Part sort.Number (number_len (b ∷ bs))) (b ∷ bs)
number_found mode b bs h =
    let f = fronted is_digit (b ∷ bs) in
    subst (λ n. Found mode (Part sort.Number n) (b ∷ bs)) (sym (number_len_is (b ∷ bs) f))
    (number_by mode (b ∷ bs) f (some_digits (b ∷ bs) f h) f.rest refl (begins_with (λ c. c == 46) f.rest && begins_with is_digit (drop 1 f.rest)) refl)

pub or_so : (a b : Bool) → (a || b) ≡ true → (a ≡ true) ⊎ (b ≡ true)
or_so true b h = inl refl
or_so false b h = inr h

-- a byte among these is one of them
pub byte_among : (P : ℕ → Type 0) (b : ℕ) (bytes : List ℕ) → list_any (λ s. s == b) bytes ≡ true → AllByRecursion P bytes → P b
byte_among P b [] h all = absurd cc
byte_among P b (s ∷ bytes) h all =
    elim (or_so (s == b) (list_any (λ x. x == b) bytes) h) [
      | inl e ↦ subst P (eqb-true s b e) all.0
      | inr e ↦ byte_among P b bytes e all.1
    ]

sign_byte : (b : ℕ) → is_sign_byte b ≡ true → IsSign (b ∷ [])
sign_byte b h = byte_among (λ x. IsSign (x ∷ [])) b sign_bytes h (refl, (refl, (refl, (refl, (refl, (refl, (refl, (refl, (refl, (refl, (refl, (refl, (refl, (refl, (refl, (refl, (refl, (refl, (refl, tt)))))))))))))))))))

sign_pair : (x y b c : ℕ) → eqb b x ≡ true → eqb c y ≡ true → IsSign (x ∷ y ∷ []) → IsSign (b ∷ c ∷ [])
sign_pair x y b c e f h = subst (λ z. IsSign (z ∷ c ∷ [])) (sym (eqb-true b x e)) (subst (λ z. IsSign (x ∷ z ∷ [])) (sym (eqb-true c y f)) h)

equals_sign : (b c : ℕ) → (c == 61) ≡ true → ((b == 61) || (b == 33) || (b == 60) || (b == 62)) ≡ true → IsSign (b ∷ c ∷ [])
equals_sign b c e h =
    elim (or_so ((b == 61) || (b == 33) || (b == 60)) (b == 62) h) [
      | inr f ↦ sign_pair 62 61 b c f e refl
      | inl g ↦ elim (or_so ((b == 61) || (b == 33)) (b == 60) g) [
        | inr f ↦ sign_pair 60 61 b c f e refl
        | inl k ↦ elim (or_so (b == 61) (b == 33) k) [
          | inl f ↦ sign_pair 61 61 b c f e refl
          | inr f ↦ sign_pair 33 61 b c f e refl
        ]
      ]
    ]

double_sign : (b c : ℕ) → is_double_sign b c ≡ true → IsSign (b ∷ c ∷ [])
double_sign b c h =
    elim (or_so (((c == 61) && ((b == 61) || (b == 33) || (b == 60) || (b == 62))) || ((b == 38) && (c == 38))) ((b == 124) && (c == 124)) h) [
      | inr f ↦ sign_pair 124 124 b c (first_so (b == 124) (c == 124) f) (second_so (b == 124) (c == 124) f) refl
      | inl g ↦ elim (or_so ((c == 61) && ((b == 61) || (b == 33) || (b == 60) || (b == 62))) ((b == 38) && (c == 38)) g) [
        | inr f ↦ sign_pair 38 38 b c (first_so (b == 38) (c == 38) f) (second_so (b == 38) (c == 38) f) refl
        | inl f ↦ equals_sign b c (first_so (c == 61) ((b == 61) || (b == 33) || (b == 60) || (b == 62)) f) (second_so (c == 61) ((b == 61) || (b == 33) || (b == 60) || (b == 62)) f)
      ]
    ]

double_found : (mode : Mode) (b : ℕ) (bs : List ℕ) → begins_with (is_double_sign b) bs ≡ true → Found mode (Part sort.Sign 2) (b ∷ bs)
double_found mode b [] h = absurd cc
double_found mode b (c ∷ bs) h = record { bytes = b ∷ c ∷ []; rest = bs; parts = refl; piece = (refl, double_sign b c h) }

sign_found : (mode : Mode) (b : ℕ) (bs : List ℕ) (p : Piece) → sign_of b bs ≡ Some p → Found mode p (b ∷ bs)
sign_found mode b bs p h =
    elim (split (begins_with (is_double_sign b) bs) (Some (Part sort.Sign 2)) (if is_sign_byte b then Some (Part sort.Sign 1) else None) p h) [
      | inl a ↦ found_as mode (Part sort.Sign 2) p (b ∷ bs) a.1 (double_found mode b bs a.0)
      | inr a ↦ elim (split (is_sign_byte b) (Some (Part sort.Sign 1)) None p a.1) [
        | inl c ↦ found_as mode (Part sort.Sign 1) p (b ∷ bs) c.1 (record { bytes = b ∷ []; rest = bs; parts = refl; piece = (refl, sign_byte b c.0) })
        | inr c ↦ (let no = c.1 in absurd cc)
      ]
    ]

pub found : (mode : Mode) (b : ℕ) (bs : List ℕ) (p : Piece) → piece_from mode b bs ≡ Some p → Found mode p (b ∷ bs)
found mode b bs p h =
    elim (split (is_blank b) _ _ p h) [
      | inl a ↦ found_as mode _ p (b ∷ bs) a.1 (blank_found mode b bs a.0)
      | inr a ↦ elim (split (b == 35) _ _ p a.1) [
        | inl a ↦ found_as mode _ p (b ∷ bs) a.1 (line_found mode b bs a.0)
        | inr a ↦ elim (split (opens_comment b bs) _ _ p a.1) [
          | inl a ↦ gap_found mode b bs p (comment_len (drop 1 bs)) refl a.0 a.1
          | inr a ↦ elim (split (opens_word b) _ _ p a.1) [
            | inl a ↦ found_as mode _ p (b ∷ bs) a.1 (word_found mode b bs a.0)
            | inr a ↦ elim (split (is_digit b) _ _ p a.1) [
              | inl a ↦ found_as mode _ p (b ∷ bs) a.1 (number_found mode b bs a.0)
              | inr a ↦ elim (split (opens_quoted b) _ _ p a.1) [
                | inl a ↦ quote_found mode b bs p (position (λ c. c == b) bs) refl a.0 a.1
                | inr a ↦ elim (split (opens_option mode b bs) _ _ p a.1) [
                  | inl a ↦ found_as mode _ p (b ∷ bs) a.1 (opt_found mode b bs a.0)
                  | inr a ↦ sign_found mode b bs p a.1
                ]
              ]
            ]
          ]
        ]
      ]
    ]
