-- What is read is spelled so.
use Rattle.std.proofs.Common.{◌≡◌, ◌++◌, ℕ, zero, suc, List, [], ◌∷◌, Option, Some, None, Bool, true, false, refl, sym, ap, subst, ◌∙◌}
use Rattle.std.specs.Prelude.{◌&&◌, if◌then◌else◌, codes}
use Rattle.std.specs.List.{flat_map}
use Rattle.std.specs.Str.{bytes_eq}
use Rattle.std.proofs.lemmas.Bool.{and_parts}
use Rattle.std.proofs.lemmas.List.{append_assoc, append-nil}
use Rattle.std.proofs.lemmas.Grind.{flat_map-append}
use Rattle.std.proofs.lemmas.Slice.Eq.{bytes_eq-Decides}
use Rattle.osh_words.specs.declared.command.Command.{Command}
use Rattle.osh_words.specs.declared.command.Command.TheVariants as command
use Rattle.osh_words.specs.declared.options.Options.{Options}
use Rattle.osh_words.specs.declared.options.Setting.{Setting}
use Rattle.osh_words.specs.declared.options.Setting.TheVariants as setting
use Rattle.osh_words.specs.Spelled.{Writes, Written, words_of, serials, caps, spills, Flags, Sets, Spells}
use Rattle.osh_words.specs.Spelled.Written.{Serial, Cap, Spill}
use Rattle.osh_words.specs.Read.{and_then, number_of, number_front, setting_front, with_setting, with_serial, with_cap, with_spill, or_these, after_option, after_options, no_options, or_else, is_file, check_of, score_of, meaning_of, run_with, run_of, gen_of, command_of}
use Rattle.osh_words.proofs.Single.{tested_file, read_number}
use Rattle.osh_words.proofs.Complete.{these, FlagsFrom, SetsFrom, spelled_is_read}

-- the words at the front of ws say this option, and rest is behind them
abbrev Shows : Setting → List (List ℕ) → List (List ℕ) → Type 0
Shows setting.Serial ws rest = ws ≡ codes "-serial" ∷ rest
Shows (setting.Cap n) ws rest = (w : List ℕ) × ((ws ≡ codes "-cap" ∷ w ∷ rest) × Writes 1 1024 w n)
Shows (setting.Spill n) ws rest = (w : List ℕ) × ((ws ≡ codes "-spill" ∷ w ∷ rest) × Writes 0 1024 w n)

-- a number at the front
abbrev Fronts : ℕ → ℕ → List (List ℕ) → ℕ → List (List ℕ) → Type 0
Fronts low high ws n rest = (w : List ℕ) × ((ws ≡ w ∷ rest) × Writes low high w n)

-- equal pairs have equal parts
pub parts : {A B : Type 0} → (x y : A × B) → Some x ≡ Some y → (x.0 ≡ y.0) × (x.1 ≡ y.1)
parts x y h = let e : x ≡ y = cc in (ap (λ p. p.0) e, ap (λ p. p.1) e)

front_some : (low high : ℕ) (w : List ℕ) (ws : List (List ℕ)) (o : Option ℕ) (n : ℕ) (rest : List (List ℕ)) → number_of low high w ≡ o → and_then o (λ k. Some (k, ws)) ≡ Some (let x : ℕ × List (List ℕ) = (n, rest) in x) → Fronts low high (w ∷ ws) n rest
front_some low high w ws None n rest e h = cc
front_some low high w ws (Some k) n rest e h =
    let p = parts (k, ws) (n, rest) h in
    (w, (ap (λ us. w ∷ us) p.1, read_number low high w n (e ∙ ap Some p.0)))

front : (low high : ℕ) (ws : List (List ℕ)) (n : ℕ) (rest : List (List ℕ)) → number_front low high ws ≡ Some (n, rest) → Fronts low high ws n rest
front low high [] n rest e = cc
front low high (w ∷ ws) n rest e = front_some low high w ws (number_of low high w) n rest refl e

option_spelled : {w v : List ℕ} {ws rest more : List (List ℕ)} {name : List ℕ} → w ≡ name → ws ≡ v ∷ rest → rest ≡ more → w ∷ ws ≡ name ∷ v ∷ more
option_spelled a b c = rw (a, b, c) refl

cap_shown : (w : List ℕ) (ws : List (List ℕ)) (o : Option (ℕ × List (List ℕ))) (x : Setting) (rest : List (List ℕ)) → w ≡ codes "-cap" → number_front 1 1024 ws ≡ o → and_then o (λ k. Some (let r : Setting × List (List ℕ) = (setting.Cap k.0, k.1) in r)) ≡ Some (x, rest) → Shows x (w ∷ ws) rest
cap_shown w ws None x rest a e h = cc
cap_shown w ws (Some k) x rest a e h =
    let p = parts (setting.Cap k.0, k.1) (x, rest) h in
    let f = front 1 1024 ws k.0 k.1 e in
    let P : Setting → Type 0 = λ y. Shows y (w ∷ ws) rest in
    subst P p.0 (f.0, (option_spelled a f.1.0 p.1, f.1.1))

spill_shown : (w : List ℕ) (ws : List (List ℕ)) (o : Option (ℕ × List (List ℕ))) (x : Setting) (rest : List (List ℕ)) → w ≡ codes "-spill" → number_front 0 1024 ws ≡ o → and_then o (λ k. Some (let r : Setting × List (List ℕ) = (setting.Spill k.0, k.1) in r)) ≡ Some (x, rest) → Shows x (w ∷ ws) rest
spill_shown w ws None x rest a e h = cc
spill_shown w ws (Some k) x rest a e h =
    let p = parts (setting.Spill k.0, k.1) (x, rest) h in
    let f = front 0 1024 ws k.0 k.1 e in
    let P : Setting → Type 0 = λ y. Shows y (w ∷ ws) rest in
    subst P p.0 (f.0, (option_spelled a f.1.0 p.1, f.1.1))

serial_shown : (w : List ℕ) (ws : List (List ℕ)) (x : Setting) (rest : List (List ℕ)) → w ≡ codes "-serial" → Some (let r : Setting × List (List ℕ) = (setting.Serial, ws) in r) ≡ Some (x, rest) → Shows x (w ∷ ws) rest
serial_shown w ws x rest a h =
    let p = parts (setting.Serial, ws) (x, rest) h in
    let P : Setting → Type 0 = λ y. Shows y (w ∷ ws) rest in
    subst P p.0 (rw (a, p.1) refl)

shown_by : (a b c : Bool) (w : List ℕ) (ws : List (List ℕ)) (x : Setting) (rest : List (List ℕ))
    → (a ≡ true → w ≡ codes "-serial") → (b ≡ true → w ≡ codes "-cap") → (c ≡ true → w ≡ codes "-spill")
    → (let r : Option (Setting × List (List ℕ)) =
    if a then Some (setting.Serial, ws)
    else if b then and_then (number_front 1 1024 ws) (λ k. Some (setting.Cap k.0, k.1))
    else if c then and_then (number_front 0 1024 ws) (λ k. Some (setting.Spill k.0, k.1))
    else None in r) ≡ Some (x, rest)
    → Shows x (w ∷ ws) rest
shown_by true b c w ws x rest f g h e = serial_shown w ws x rest (f refl) e
shown_by false true c w ws x rest f g h e = cap_shown w ws (number_front 1 1024 ws) x rest (g refl) refl e
shown_by false false true w ws x rest f g h e = spill_shown w ws (number_front 0 1024 ws) x rest (h refl) refl e
shown_by false false false w ws x rest f g h e = cc

shown : (ws : List (List ℕ)) (x : Setting) (rest : List (List ℕ)) → setting_front ws ≡ Some (x, rest) → Shows x ws rest
unfolding setting_front
shown [] x rest e = cc
shown (w ∷ ws) x rest e = shown_by (bytes_eq w (codes "-serial")) (bytes_eq w (codes "-cap")) (bytes_eq w (codes "-spill")) w ws x rest (bytes_eq-Decides w _).0 (bytes_eq-Decides w _).0 (bytes_eq-Decides w _).0 e

-- what the options say, where these may stand already
pub record From (o : Options) (os : List Written) (serial : Bool) (cap spill : ℕ) : Type 0 where
  pub serial_set : FlagsFrom o.serial (serials os) serial
  pub cap_set : SetsFrom 1 1024 64 o.cap (caps os) cap
  pub spill_set : SetsFrom 0 1024 16 o.spill (spills os) spill

-- x is left of ws behind some options
record Taken (o : Options) (ws : List (List ℕ)) (x : Options × List (List ℕ)) : Type 0 where
  options : List Written
  spelled : ws ≡ flat_map words_of options ++ x.1
  sets : (os : List Written) (serial : Bool) (cap spill : ℕ) → From x.0 os serial cap spill → From o (options ++ os) serial cap spill

none_taken : (o : Options) (ws : List (List ℕ)) → Taken o ws (o, ws)
none_taken o ws = record { options = []; spelled = refl; sets = λ os serial cap spill f. f }

flag_one : (k : ℕ) (b : Bool) → FlagsFrom true k b → Flags (suc k) b
flag_one zero b h = h
flag_one (suc k) b h = h

set_one : (low high usual : ℕ) (word : List ℕ) (m : ℕ) (words : List (List ℕ)) (n : ℕ) → Writes low high word m → SetsFrom low high usual (Some m) words n → Sets low high usual (word ∷ words) n
set_one low high usual word m [] n w h = rw h w
set_one low high usual word m (v ∷ vs) n w h = absurd h

serial_taken : (s : Bool) (c p : Option ℕ) (ws rest : List (List ℕ)) (o : Option Options) → with_serial (these s c p) s ≡ o → Shows setting.Serial ws rest → Taken (these s c p) ws (or_these (these s c p) ws (and_then o (λ q. Some (q, rest))))
serial_taken s c p ws rest None e w = none_taken (these s c p) ws
serial_taken true c p ws rest (Some q) e w = cc
serial_taken false c p ws rest (Some q) e w =
    let same : these true c p ≡ q = cc in
    record { options = Serial ∷ []; spelled = w; sets = λ os serial cap spill f. let g = rw (← same) at f in record { serial_set = flag_one (serials os) serial g.serial_set; cap_set = g.cap_set; spill_set = g.spill_set } }

cap_taken : (s : Bool) (c p : Option ℕ) (n : ℕ) (ws rest : List (List ℕ)) (o : Option Options) → with_cap (these s c p) n c ≡ o → Shows (setting.Cap n) ws rest → Taken (these s c p) ws (or_these (these s c p) ws (and_then o (λ q. Some (q, rest))))
cap_taken s c p n ws rest None e w = none_taken (these s c p) ws
cap_taken s (Some m) p n ws rest (Some q) e w = cc
cap_taken s None p n ws rest (Some q) e w =
    let same : these s (Some n) p ≡ q = cc in
    record { options = Cap w.0 ∷ []; spelled = w.1.0; sets = λ os serial cap spill f. let g = rw (← same) at f in record { serial_set = g.serial_set; cap_set = set_one 1 1024 64 w.0 n (caps os) cap w.1.1 g.cap_set; spill_set = g.spill_set } }

spill_taken : (s : Bool) (c p : Option ℕ) (n : ℕ) (ws rest : List (List ℕ)) (o : Option Options) → with_spill (these s c p) n p ≡ o → Shows (setting.Spill n) ws rest → Taken (these s c p) ws (or_these (these s c p) ws (and_then o (λ q. Some (q, rest))))
spill_taken s c p n ws rest None e w = none_taken (these s c p) ws
spill_taken s c (Some m) n ws rest (Some q) e w = cc
spill_taken s c None n ws rest (Some q) e w =
    let same : these s c (Some n) ≡ q = cc in
    record { options = Spill w.0 ∷ []; spelled = w.1.0; sets = λ os serial cap spill f. let g = rw (← same) at f in record { serial_set = g.serial_set; cap_set = g.cap_set; spill_set = set_one 0 1024 16 w.0 n (spills os) spill w.1.1 g.spill_set } }

setting_taken : (o : Options) (ws rest : List (List ℕ)) (x : Setting) → Shows x ws rest → Taken o ws (or_these o ws (and_then (with_setting o x) (λ q. Some (q, rest))))
setting_taken o ws rest setting.Serial w = serial_taken o.serial o.cap o.spill ws rest (with_serial o o.serial) refl w
setting_taken o ws rest (setting.Cap n) w = cap_taken o.serial o.cap o.spill n ws rest (with_cap o n o.cap) refl w
setting_taken o ws rest (setting.Spill n) w = spill_taken o.serial o.cap o.spill n ws rest (with_spill o n o.spill) refl w

front_taken : (o : Options) (ws : List (List ℕ)) (f : Option (Setting × List (List ℕ))) → setting_front ws ≡ f → Taken o ws (or_these o ws (and_then f (λ x. and_then (with_setting o x.0) (λ q. Some (q, x.1)))))
front_taken o ws None e = none_taken o ws
front_taken o ws (Some x) e = setting_taken o ws x.1 x.0 (shown ws x.0 x.1 e)

one_taken : (o : Options) (ws : List (List ℕ)) → Taken o ws (after_option o ws)
unfolding after_option
one_taken o ws = front_taken o ws (setting_front ws) refl

both_taken : (o : Options) (ws : List (List ℕ)) (x y : Options × List (List ℕ)) → Taken o ws x → Taken x.0 x.1 y → Taken o ws y
both_taken o ws x y a b = record {
  options = a.options ++ b.options;
  spelled = a.spelled ∙ rw (b.spelled, flat_map-append words_of a.options b.options) (sym (append_assoc (flat_map words_of a.options) (flat_map words_of b.options) y.1));
  sets = λ os serial cap spill f. rw (append_assoc a.options b.options os) (a.sets (b.options ++ os) serial cap spill (b.sets os serial cap spill f));
}

all_taken : (n : ℕ) (o : Options) (ws : List (List ℕ)) → Taken o ws (after_options n o ws)
all_taken zero o ws = none_taken o ws
all_taken (suc n) o ws = both_taken o ws (after_option o ws) _ (one_taken o ws) (all_taken n (after_option o ws).0 (after_option o ws).1)

flag_at : (s : Bool) → FlagsFrom s 0 s
flag_at true = refl
flag_at false = refl

set_at : (low high usual : ℕ) (c : Option ℕ) → SetsFrom low high usual c [] (or_else usual c)
set_at low high usual None = refl
set_at low high usual (Some m) = refl

-- no further option
ended : (o : Options) → From o [] o.serial (or_else 64 o.cap) (or_else 16 o.spill)
ended o = record { serial_set = flag_at o.serial; cap_set = set_at 1 1024 64 o.cap; spill_set = set_at 0 1024 16 o.spill }

some_is : {A : Type 0} → (x y : A) → Some x ≡ Some y → x ≡ y
some_is x y h = cc

-- the command that is read where a test holds
tested : (b : Bool) (x c : Command) → (let r : Option Command = if b then Some x else None in r) ≡ Some c → (b ≡ true) × (x ≡ c)
tested true x c h = (refl, some_is x c h)
tested false x c h = cc

check_read : (ws : List (List ℕ)) (c : Command) → check_of ws ≡ Some c → Spells (codes "check" ∷ ws) c
check_read [] c h = cc
check_read (f ∷ g ∷ ws) c h = cc
check_read (f ∷ []) c h =
    let t = tested (is_file f) (command.Check f) c h in
    subst (Spells (codes "check" ∷ f ∷ [])) t.1 (refl, tested_file f t.0)

meaning_read : (ws : List (List ℕ)) (c : Command) → meaning_of ws ≡ Some c → Spells (codes "meaning" ∷ ws) c
meaning_read [] c h = cc
meaning_read (f ∷ g ∷ ws) c h = cc
meaning_read (f ∷ []) c h =
    let t = tested (is_file f) (command.Meaning f) c h in
    subst (Spells (codes "meaning" ∷ f ∷ [])) t.1 (refl, tested_file f t.0)

score_read : (ws : List (List ℕ)) (c : Command) → score_of ws ≡ Some c → Spells (codes "score" ∷ ws) c
score_read [] c h = cc
score_read (f ∷ []) c h = cc
score_read (f ∷ g ∷ v ∷ ws) c h = cc
score_read (f ∷ g ∷ []) c h =
    let t = tested (is_file f && is_file g) (command.Score f g) c h in
    let b = and_parts _ _ t.0 in
    subst (Spells (codes "score" ∷ f ∷ g ∷ [])) t.1 (refl, (tested_file f b.0, tested_file g b.1))

gen_made : (w v : List ℕ) (m k : Option ℕ) (c : Command) → number_of 7 1000000 w ≡ m → number_of 0 9999999999999999999 v ≡ k → and_then m (λ n. and_then k (λ x. Some (command.Gen n x))) ≡ Some c → Spells (codes "gen" ∷ w ∷ v ∷ []) c
gen_made w v None k c d e h = cc
gen_made w v (Some n) None c d e h = cc
gen_made w v (Some n) (Some x) c d e h =
    subst (Spells (codes "gen" ∷ w ∷ v ∷ [])) (some_is (command.Gen n x) c h)
    (record { count = w; seed = v; spelled = refl; count_written = read_number 7 1000000 w n d; seed_written = read_number 0 9999999999999999999 v x e })

gen_read : (ws : List (List ℕ)) (c : Command) → gen_of ws ≡ Some c → Spells (codes "gen" ∷ ws) c
gen_read [] c h = cc
gen_read (w ∷ []) c h = cc
gen_read (w ∷ v ∷ u ∷ ws) c h = cc
gen_read (w ∷ v ∷ []) c h = gen_made w v (number_of 7 1000000 w) (number_of 0 9999999999999999999 v) c refl refl h

run_made : (ws : List (List ℕ)) (o : Options) (rest : List (List ℕ)) (c : Command) → Taken no_options ws (o, rest) → run_with o rest ≡ Some c → Spells (codes "run" ∷ ws) c
run_made ws o [] c t h = cc
run_made ws o (f ∷ []) c t h = cc
run_made ws o (f ∷ g ∷ v ∷ vs) c t h = cc
run_made ws o (f ∷ g ∷ []) c t h =
    let b = tested (is_file f && is_file g) (command.Run o.serial (or_else 64 o.cap) (or_else 16 o.spill) f g) c h in
    let files = and_parts _ _ b.0 in
    let set : From no_options t.options o.serial (or_else 64 o.cap) (or_else 16 o.spill) = rw append-nil at (t.sets [] o.serial (or_else 64 o.cap) (or_else 16 o.spill) (ended o)) in
    subst (Spells (codes "run" ∷ ws)) b.1
    (record { options = t.options; spelled = ap (λ us. codes "run" ∷ us) t.spelled; serial_set = set.serial_set; cap_set = set.cap_set; spill_set = set.spill_set; flow_named = tested_file f files.0; config_named = tested_file g files.1 })

run_read : (ws : List (List ℕ)) (c : Command) → run_of ws ≡ Some c → Spells (codes "run" ∷ ws) c
unfolding run_of
run_read ws c h = run_made ws (after_options 3 no_options ws).0 (after_options 3 no_options ws).1 c (all_taken 3 no_options ws) h

begun_by : (a b c d e : Bool) (w : List ℕ) (ws : List (List ℕ)) (x : Command)
    → (a ≡ true → w ≡ codes "check") → (b ≡ true → w ≡ codes "score") → (c ≡ true → w ≡ codes "meaning") → (d ≡ true → w ≡ codes "run") → (e ≡ true → w ≡ codes "gen")
    → (let r : Option Command = if a then check_of ws else if b then score_of ws else if c then meaning_of ws else if d then run_of ws else if e then gen_of ws else None in r) ≡ Some x
    → Spells (w ∷ ws) x
begun_by true b c d e w ws x f g h i j r = rw (f refl) (check_read ws x r)
begun_by false true c d e w ws x f g h i j r = rw (g refl) (score_read ws x r)
begun_by false false true d e w ws x f g h i j r = rw (h refl) (meaning_read ws x r)
begun_by false false false true e w ws x f g h i j r = rw (i refl) (run_read ws x r)
begun_by false false false false true w ws x f g h i j r = rw (j refl) (gen_read ws x r)
begun_by false false false false false w ws x f g h i j r = cc

pub read_is_spelled : (words : List (List ℕ)) (c : Command) → command_of words ≡ Some c → Spells words c
unfolding command_of
read_is_spelled [] c h = cc
read_is_spelled (w ∷ ws) c h = begun_by (bytes_eq w (codes "check")) (bytes_eq w (codes "score")) (bytes_eq w (codes "meaning")) (bytes_eq w (codes "run")) (bytes_eq w (codes "gen")) w ws c (bytes_eq-Decides w _).0 (bytes_eq-Decides w _).0 (bytes_eq-Decides w _).0 (bytes_eq-Decides w _).0 (bytes_eq-Decides w _).0 h

-- words that are read as no command spell none
pub refused_is_unspelled : (words : List (List ℕ)) → command_of words ≡ None → (c : Command) → Spells words c → ⊥
refused_is_unspelled words e c s = let r = spelled_is_read words c s in cc

pub one_command : (words : List (List ℕ)) (c d : Command) → Spells words c → Spells words d → c ≡ d
one_command words c d s t = some_is c d (sym (spelled_is_read words c s) ∙ spelled_is_read words d t)
