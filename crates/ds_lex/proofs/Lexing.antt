-- How lexing goes on behind a piece.
use Rattle.std.proofs.Common.{◌≡◌, ◌<◌, ◌≤◌, ◌+◌, ◌-◌, ℕ, zero, suc, List, [], ◌∷◌, ◌++◌, length, drop, refl, sym, ap, ◌∙◌, arith, Some, None, append_assoc, take, length-drop}
use Rattle.std.proofs.lemmas.List.{drop-drop, take_all}
use Rattle.ds_lex.specs.declared.token.Mode.{Mode}
use Rattle.ds_lex.specs.declared.token.Sort.{Sort}
use Rattle.ds_lex.specs.declared.token.Token.{Token}
use Rattle.ds_lex.specs.declared.token.Piece.TheVariants.{Gap, Part}
use Rattle.ds_lex.specs.Pieces.{piece_at}
use Rattle.ds_lex.specs.Lexed.{Lexed, lexed_from, lexed, with_token, after_piece}

abbrev pub with_front : List Token → Lexed → Lexed
with_front ts l = record { tokens = ts ++ l.tokens; bad = l.bad }

pub pass_over : (mode : Mode) (at k : ℕ) (bs : List ℕ) → lexed_from mode at k bs ≡ lexed_from mode (at + k) 0 (drop k bs)
pass_over mode at zero [] = refl
pass_over mode at (suc k) [] = refl
pass_over mode at zero (b ∷ bs) = ap (λ n. lexed_from mode n 0 (b ∷ bs)) (let e : at ≡ at + 0 = omega arith in e)
pass_over mode at (suc k) (b ∷ bs) = pass_over mode (at + 1) k bs ∙ ap (λ n. lexed_from mode n 0 (drop k bs)) (let e : at + 1 + k ≡ at + suc k = omega arith in e)

behind : (mode : Mode) (at n b : ℕ) (bs : List ℕ) → 0 < n → lexed_from mode (at + 1) (n - 1) bs ≡ lexed_from mode (at + n) 0 (drop n (b ∷ bs))
behind mode at zero b bs h = absurd (omega arith)
behind mode at (suc n) b bs h =
    ap (λ k. lexed_from mode (at + 1) k bs) (let e : suc n - 1 ≡ n = omega arith in e)
    ∙ (pass_over mode (at + 1) n bs ∙ ap (λ k. lexed_from mode k 0 (drop n bs)) (let e : at + 1 + n ≡ at + suc n = omega arith in e))

pub none_step : (mode : Mode) (at : ℕ) (bs : List ℕ) → 0 < length bs → piece_at mode bs ≡ None → lexed_from mode at 0 bs ≡ record { tokens = []; bad = Some at }
none_step mode at [] h e = absurd (omega arith)
none_step mode at (b ∷ bs) h e = ap (λ p. after_piece at p (λ more. lexed_from mode (at + 1) more bs)) e

pub gap_step : (mode : Mode) (at n : ℕ) (bs : List ℕ) → 0 < n → piece_at mode bs ≡ Some (Gap n) → lexed_from mode at 0 bs ≡ lexed_from mode (at + n) 0 (drop n bs)
gap_step mode at n [] h e = cc
gap_step mode at n (b ∷ bs) h e = ap (λ p. after_piece at p (λ more. lexed_from mode (at + 1) more bs)) e ∙ behind mode at n b bs h

pub part_step : (mode : Mode) (at n : ℕ) (sort : Sort) (bs : List ℕ) → 0 < n → piece_at mode bs ≡ Some (Part sort n) → lexed_from mode at 0 bs ≡ with_token (record { sort = sort; from = at; to = at + n }) (lexed_from mode (at + n) 0 (drop n bs))
part_step mode at n sort [] h e = cc
part_step mode at n sort (b ∷ bs) h e = ap (λ p. after_piece at p (λ more. lexed_from mode (at + 1) more bs)) e ∙ ap (with_token (record { sort = sort; from = at; to = at + n })) (behind mode at n b bs h)

-- the rest of a text, as a slice has it
whole_rest : (at : ℕ) (text : List ℕ) → at ≤ length text → take (length text - at) (drop at text) ≡ drop at text
whole_rest at text h = take_all (length text - at) (drop at text) (omega (arith, length-drop at text))

append_front : (ts : List Token) (t : Token) (l : Lexed) → with_front (ts ++ t ∷ []) l ≡ with_front ts (with_token t l)
append_front ts t l = ap (λ xs. let r : Lexed = record { tokens = xs; bad = l.bad } in r) (append_assoc ts (t ∷ []) l.tokens)

-- a piece at the front of the rest lies in the text
pub within_more : (at n : ℕ) (text : List ℕ) → at ≤ length text → n ≤ length (take (length text - at) (drop at text)) → at + n ≤ length text
within_more at n text h k = let e : n ≤ length (drop at text) = rw (whole_rest at text h) at k in omega (arith, length-drop at text)

pub gap_more : (mode : Mode) (at n : ℕ) (text : List ℕ) (ts : List Token) → at ≤ length text → 0 < n → piece_at mode (take (length text - at) (drop at text)) ≡ Some (Gap n) → with_front ts (lexed_from mode at 0 (drop at text)) ≡ lexed mode text → with_front ts (lexed_from mode (at + n) 0 (drop (at + n) text)) ≡ lexed mode text
gap_more mode at n text ts h z e inv =
    ap (λ bs. with_front ts (lexed_from mode (at + n) 0 bs)) (sym (drop-drop n at text))
    ∙ (ap (with_front ts) (sym (gap_step mode at n (drop at text) z (ap (piece_at mode) (sym (whole_rest at text h)) ∙ e))) ∙ inv)

pub part_more : (mode : Mode) (at n : ℕ) (sort : Sort) (text : List ℕ) (ts : List Token) → at ≤ length text → 0 < n → piece_at mode (take (length text - at) (drop at text)) ≡ Some (Part sort n) → with_front ts (lexed_from mode at 0 (drop at text)) ≡ lexed mode text → with_front (ts ++ record { sort = sort; from = at; to = at + n } ∷ []) (lexed_from mode (at + n) 0 (drop (at + n) text)) ≡ lexed mode text
part_more mode at n sort text ts h z e inv =
    append_front ts _ _
    ∙ (ap (λ bs. with_front ts (with_token (record { sort = sort; from = at; to = at + n }) (lexed_from mode (at + n) 0 bs))) (sym (drop-drop n at text))
    ∙ (ap (with_front ts) (sym (part_step mode at n sort (drop at text) z (ap (piece_at mode) (sym (whole_rest at text h)) ∙ e))) ∙ inv))
