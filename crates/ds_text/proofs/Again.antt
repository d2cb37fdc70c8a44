use Rattle.std.proofs.Common.{◌≡◌, ◌≤◌, ◌+◌, ◌-◌, ◌^◌, ◌++◌, ◌∷◌, [], ℕ, suc, List, false, refl, ap, ◌∙◌, arith, length, map, append_assoc, append-nil, length-append}
use Rattle.std.specs.List.{AllByRecursion}
use Rattle.ds_text.specs.Lines.{Reading, split_within, with_before, with_line, shown, IsFree, written_lines, LinesAgain}
use Rattle.ds_text.proofs.PieceLemmas.{split_piece}

split_again : (room : ℕ) (lines : List (List ℕ)) → AllByRecursion IsFree lines → length (written_lines lines) ≤ room → split_within room (written_lines lines) ≡ record { lines = lines; too_long = false }
split_again room [] h le = refl
split_again room (l ∷ lines) h le =
    let more = room - (length l + 1) in
    let size = length-append (l ++ 10 ∷ []) (written_lines lines) in
    let size-2 = length-append l (10 ∷ []) in
    let within : length (written_lines lines) ≤ more = omega (arith, size, size-2, le) in
    let e : room ≡ length l + suc more = omega (arith, size, size-2, le) in
    ap (λ n. split_within n (l ++ 10 ∷ [] ++ written_lines lines)) e
    ∙ (ap (split_within (length l + suc more)) (append_assoc l (10 ∷ []) (written_lines lines))
    ∙ (split_piece l (10 ∷ written_lines lines) (suc more) h.0
    ∙ (ap (λ r. with_before l (with_line r)) (split_again more lines h.1 within)
    ∙ ap (λ k. let r : Reading = record { lines = k ∷ lines; too_long = false } in r) (append-nil l))))

pub lines_again : LinesAgain
lines_again lines h le = ap (λ r. let s : Reading = record { lines = map shown r.lines; too_long = r.too_long } in s) (split_again (2 ^ 40) lines h le)
