use Rattle.std.proofs.Common.{◌≡◌, ◌≤◌, ◌<◌, ◌+◌, ◌++◌, ◌∷◌, [], ℕ, suc, List, Bool, true, false, refl, sym, ap, ◌∙◌, arith, length, take, map, Err, append-nil, length-append, length-take}
use Rattle.ds_text.specs.Lines.{Reading, split_within, lines_within, before, with_before, without_return, shown}
use Rattle.ds_text.specs.Readers.{Reader, remaining, first, Reads}
use Rattle.ds_text.specs.Pieces.{kept, Takes}
use Rattle.ds_text.specs.declared.line_reader.LineFault.{LineFault}
use Rattle.ds_text.specs.declared.line_reader.LineFault.TheVariants.{Device, Memory, FileTooLong}
use Rattle.ds_text.proofs.PieceLemmas.{split_piece, before_before, kept_more, shown_kept}

-- a line was begun: raw are its bytes so far
pub record Underway (tells : Type 0) (old now : Reader) (begun : Bool) (into : List ℕ) : Type 0 where
  pub raw : List ℕ
  pub into_is : into ≡ kept raw
  pub told : tells → with_before raw (split_within now.room now.left) ≡ split_within old.room old.left
  pub empty : begun ≡ false → raw ≡ []
  pub some : begun ≡ true → 0 < length raw
  pub room : old.room ≡ length raw + now.room
  pub later : old.faults ≤ now.faults

abbrev pub given_of : Reading → Reading
given_of r = record { lines = map shown r.lines; too_long = r.too_long }

nothing : (ls : List (List ℕ)) (b : Bool) → before [] ls b ≡ record { lines = ls; too_long = b }
nothing [] b = refl
nothing (l ∷ ls) b = refl

pub begin : (tells : Type 0) (r : Reader) (into : List ℕ) → into ≡ [] → Underway tells r r false into
begin tells r into e = record {
  raw = [];
  into_is = e;
  told = λ _. nothing (split_within r.room r.left).lines (split_within r.room r.left).too_long;
  empty = λ _. refl;
  some = λ h. cc;
  room = omega arith;
  later = omega arith;
}

-- the buffer was filled
pub filled : {tells : Type 0} {old now new : Reader} {begun : Bool} {into : List ℕ} → Underway tells old now begun into
    → (tells → new.left ≡ now.left) → new.room ≡ now.room → now.faults ≤ new.faults → Underway tells old new begun into
filled u left room faults = record {
  raw = u.raw;
  into_is = u.into_is;
  told = λ t. rw (room, left t) (u.told t);
  empty = u.empty;
  some = u.some;
  room = omega (arith, u.room, room);
  later = omega (arith, u.later);
}

pub short : {tells : Type 0} {old now : Reader} {begun : Bool} {into : List ℕ} → Underway tells old now begun into → length into ≤ 2_097_154
short u = rw u.into_is (omega (arith, length-take 2_097_154 u.raw))

-- a piece of a line without its end was taken
pub continued : {tells : Type 0} {old now new : Reader} {begun : Bool} {into more : List ℕ} → Underway tells old now begun into
    → Takes now new [] into more → Underway tells old new true more
continued {new = new} u t = record {
  raw = u.raw ++ t.piece;
  into_is = t.into ∙ (ap (λ l. kept (l ++ t.piece)) u.into_is ∙ kept_more 2_097_154 u.raw t.piece);
  told = λ h.
      let split = split_piece t.piece new.left new.room t.free in
      let room = t.room ∙ (let e : length t.piece + (0 + new.room) ≡ length t.piece + new.room = omega arith in e) in
      sym (before_before u.raw t.piece (split_within new.room new.left).lines (split_within new.room new.left).too_long)
      ∙ (ap (with_before u.raw) (sym split) ∙ rw (← room, ← t.left) (u.told h));
  empty = λ h. cc;
  some = λ _. omega (arith, t.some, length-append u.raw t.piece);
  room = omega (arith, u.room, t.room, length-append u.raw t.piece);
  later = rw t.faults u.later;
}

-- with the end of a line there is less room
pub further : {tells : Type 0} {old now new : Reader} {begun : Bool} {into more : List ℕ} → Underway tells old now begun into
    → Takes now new (10 ∷ []) into more → new.room < old.room
further u t = omega (arith, u.room, t.room)

-- the end of a line was taken
pub ended : {tells : Type 0} {old now new : Reader} {begun : Bool} {into more line : List ℕ} → Underway tells old now begun into
    → Takes now new (10 ∷ []) into more → line ≡ take 2_097_153 (without_return more) → tells → remaining old ≡ first line (remaining new)
ended {new = new} u t is h =
    let rest = split_within new.room new.left in
    let split = split_piece t.piece (10 ∷ new.left) (suc new.room) t.free in
    let room = t.room ∙ (let e : length t.piece + (1 + new.room) ≡ length t.piece + suc new.room = omega arith in e) in
    let whole = sym (u.told h) ∙ (rw (room, t.left) (ap (with_before u.raw) split) ∙ before_before u.raw t.piece ([] ∷ rest.lines) rest.too_long) in
    let raw = t.into ∙ (ap (λ l. kept (l ++ t.piece)) u.into_is ∙ kept_more 2_097_154 u.raw t.piece) in
    let given = is ∙ (ap (λ l. take 2_097_153 (without_return l)) raw ∙ shown_kept 2_097_153 (u.raw ++ t.piece)) in
    ap given_of whole ∙ ap (λ l. let r : Reading = record { lines = l ∷ map shown rest.lines; too_long = rest.too_long } in r) (ap shown (append-nil (u.raw ++ t.piece)) ∙ sym given)

last_line : (room : ℕ) (raw : List ℕ) → 0 < length raw → given_of (with_before raw (split_within room [])) ≡ first (shown raw) (lines_within room [])
last_line room [] h = absurd (omega arith)
last_line room (b ∷ raw) h = refl

-- the file ended behind a line
pub closed : {tells : Type 0} {old now : Reader} {begun : Bool} {into line : List ℕ} → Underway tells old now begun into → begun ≡ true
    → (tells → now.left ≡ []) → line ≡ take 2_097_153 (without_return into) → tells → remaining old ≡ first line (remaining now)
closed {now = now} u sure none is h =
    let given = is ∙ (ap (λ l. take 2_097_153 (without_return l)) u.into_is ∙ shown_kept 2_097_153 u.raw) in
    let whole = rw (none h) at u.told h in
    rw (none h, given) (ap given_of (sym whole) ∙ last_line now.room u.raw (u.some sure))

too_long_file : (room : ℕ) (left raw : List ℕ) → room ≡ 0 → 0 < length left → given_of (with_before raw (split_within room left)) ≡ record { lines = []; too_long = true }
too_long_file room [] raw e h = absurd (omega arith)
too_long_file room (b ∷ left) [] e h = rw e refl
too_long_file room (b ∷ left) (c ∷ raw) e h = rw e refl

-- the file is too long
pub refused : {tells : Type 0} {old now : Reader} {begun : Bool} {into : List ℕ} (line : List ℕ) (new : Reading) (fault : LineFault) → Underway tells old now begun into
    → (tells → fault ≡ FileTooLong → (now.room ≡ 0) × (0 < length now.left)) → tells → Reads (Err fault) (remaining old) line new
refused line new Device u long h = tt
refused line new Memory u long h = tt
refused {now = now} line new FileTooLong u long h = ap given_of (sym (u.told h)) ∙ too_long_file now.room now.left u.raw (long h refl).0 (long h refl).1
