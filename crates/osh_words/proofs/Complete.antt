-- What is spelled is read.
use Rattle.std.proofs.Common.{◌≡◌, ◌≤◌, ◌+◌, ◌++◌, ℕ, zero, suc, List, [], ◌∷◌, length, Option, Some, None, Bool, true, false, refl, sym, arith}
use Rattle.std.specs.Prelude.{codes}
use Rattle.std.specs.List.{flat_map}
use Rattle.std.specs.Str.{bytes_eq}
use Rattle.osh_words.specs.declared.command.Command.{Command}
use Rattle.osh_words.specs.declared.command.Command.TheVariants as command
use Rattle.osh_words.specs.declared.options.Options.{Options}
use Rattle.osh_words.specs.Spelled.{IsFile, Writes, Written, words_of, serials, caps, spills, Flags, Sets, IsRun, Spells, begins_with_dash}
use Rattle.osh_words.specs.Spelled.Written.{Serial, Cap, Spill}
use Rattle.osh_words.specs.Read.{number_of, setting_front, after_option, after_options, or_else, run_with, run_of, command_of}
use Rattle.osh_words.proofs.Single.{file_tested, number_read}

abbrev pub these : Bool → Option ℕ → Option ℕ → Options
these serial cap spill = record { serial = serial; cap = cap; spill = spill }

-- what an option sets in the end, where it may stand already
abbrev pub FlagsFrom : Bool → ℕ → Bool → Type 0
FlagsFrom false k b = Flags k b
FlagsFrom true zero b = b ≡ true
FlagsFrom true (suc k) b = ⊥

abbrev pub SetsFrom : ℕ → ℕ → ℕ → Option ℕ → List (List ℕ) → ℕ → Type 0
SetsFrom low high usual None words n = Sets low high usual words n
SetsFrom low high usual (Some m) [] n = n ≡ m
SetsFrom low high usual (Some m) (word ∷ words) n = ⊥

-- the options that end a reading, and what they say
pub record Ends (x : Options × List (List ℕ)) (rest : List (List ℕ)) (serial : Bool) (cap spill : ℕ) : Type 0 where
  pub behind : x.1 ≡ rest
  pub serial_is : x.0.serial ≡ serial
  pub cap_is : or_else 64 x.0.cap ≡ cap
  pub spill_is : or_else 16 x.0.spill ≡ spill

pub flag_end : (s b : Bool) → FlagsFrom s 0 b → s ≡ b
flag_end true b h = sym h
flag_end false b h = sym h

pub set_end : (low high usual : ℕ) (c : Option ℕ) (n : ℕ) → SetsFrom low high usual c [] n → or_else usual c ≡ n
set_end low high usual None n h = sym h
set_end low high usual (Some m) n h = sym h

flag_more : (k : ℕ) (b : Bool) → Flags (suc k) b → FlagsFrom true k b
flag_more zero b h = h
flag_more (suc k) b h = h

set_first : (low high usual : ℕ) (word : List ℕ) (words : List (List ℕ)) (n : ℕ) → Sets low high usual (word ∷ words) n → Writes low high word n × (words ≡ [])
set_first low high usual word [] n h = (h, refl)
set_first low high usual word (w ∷ ws) n h = absurd h

stops : (n : ℕ) (o : Options) (rest : List (List ℕ)) → setting_front rest ≡ None → after_options n o rest ≡ (o, rest)
unfolding after_option
stops zero o rest h = refl
stops (suc n) o rest h = rw h (stops n o rest h)

takes_serial : (n : ℕ) (c p : Option ℕ) (ws : List (List ℕ)) → after_options (suc n) (these false c p) (codes "-serial" ∷ ws) ≡ after_options n (these true c p) ws
unfolding after_option setting_front
takes_serial n c p ws = refl

takes_cap : (n m : ℕ) (s : Bool) (p : Option ℕ) (w : List ℕ) (ws : List (List ℕ)) → number_of 1 1024 w ≡ Some m → after_options (suc n) (these s None p) (codes "-cap" ∷ w ∷ ws) ≡ after_options n (these s (Some m) p) ws
unfolding after_option setting_front
takes_cap n m s p w ws e = rw e refl

takes_spill : (n m : ℕ) (s : Bool) (c : Option ℕ) (w : List ℕ) (ws : List (List ℕ)) → number_of 0 1024 w ≡ Some m → after_options (suc n) (these s c None) (codes "-spill" ∷ w ∷ ws) ≡ after_options n (these s c (Some m)) ws
unfolding after_option setting_front
takes_spill n m s c w ws e = rw e refl

ends_as : (x y : Options × List (List ℕ)) (rest : List (List ℕ)) (serial : Bool) (cap spill : ℕ) → x ≡ y → Ends y rest serial cap spill → Ends x rest serial cap spill
ends_as x y rest serial cap spill e h = rw e h

taken : (n : ℕ) (s : Bool) (c p : Option ℕ) (os : List Written) (rest : List (List ℕ)) (serial : Bool) (cap spill : ℕ) → length os ≤ n → setting_front rest ≡ None → FlagsFrom s (serials os) serial → SetsFrom 1 1024 64 c (caps os) cap → SetsFrom 0 1024 16 p (spills os) spill → Ends (after_options n (these s c p) (flat_map words_of os ++ rest)) rest serial cap spill
taken n s c p [] rest serial cap spill k h f a b =
    ends_as _ _ rest serial cap spill (stops n (these s c p) rest h) (record { behind = refl; serial_is = flag_end s serial f; cap_is = set_end 1 1024 64 c cap a; spill_is = set_end 0 1024 16 p spill b })
taken zero s c p (x ∷ os) rest serial cap spill k h f a b = absurd (omega arith)
taken (suc n) true c p (Serial ∷ os) rest serial cap spill k h f a b = absurd f
taken (suc n) false c p (Serial ∷ os) rest serial cap spill k h f a b =
    ends_as _ _ rest serial cap spill (takes_serial n c p (flat_map words_of os ++ rest)) (taken n true c p os rest serial cap spill (omega arith) h (flag_more (serials os) serial f) a b)
taken (suc n) s (Some m) p (Cap w ∷ os) rest serial cap spill k h f a b = absurd a
taken (suc n) s None p (Cap w ∷ os) rest serial cap spill k h f a b =
    let one = set_first 1 1024 64 w (caps os) cap a in
    ends_as _ _ rest serial cap spill (takes_cap n cap s p w (flat_map words_of os ++ rest) (number_read 1 1024 w cap one.0)) (taken n s (Some cap) p os rest serial cap spill (omega arith) h f (rw one.1 refl) b)
taken (suc n) s c (Some m) (Spill w ∷ os) rest serial cap spill k h f a b = absurd b
taken (suc n) s c None (Spill w ∷ os) rest serial cap spill k h f a b =
    let one = set_first 0 1024 16 w (spills os) spill b in
    ends_as _ _ rest serial cap spill (takes_spill n spill s c w (flat_map words_of os ++ rest) (number_read 0 1024 w spill one.0)) (taken n s c (Some spill) os rest serial cap spill (omega arith) h f a (rw one.1 refl))

few : (os : List Written) → length os ≡ serials os + (length (caps os) + length (spills os))
few [] = refl
few (Serial ∷ os) = omega (arith, few os)
few (Cap w ∷ os) = omega (arith, few os)
few (Spill w ∷ os) = omega (arith, few os)

few_flags : (k : ℕ) (b : Bool) → Flags k b → k ≤ 1
few_flags zero b h = omega arith
few_flags (suc zero) b h = omega arith
few_flags (suc (suc k)) b h = absurd h

few_set : (low high usual : ℕ) (words : List (List ℕ)) (n : ℕ) → Sets low high usual words n → length words ≤ 1
few_set low high usual [] n h = omega arith
few_set low high usual (w ∷ []) n h = omega arith
few_set low high usual (w ∷ v ∷ ws) n h = absurd h

differs : (word : List ℕ) (b : ℕ) (bs : List ℕ) → begins_with_dash word ≡ false → b ≡ 45 → bytes_eq word (b ∷ bs) ≡ false
differs [] b bs h e = refl
differs (c ∷ cs) b bs h e = rw (e, h) refl

plain_stops : (word : List ℕ) (words : List (List ℕ)) → begins_with_dash word ≡ false → setting_front (word ∷ words) ≡ None
unfolding setting_front
plain_stops word words h = rw (differs word 45 (codes "serial") h refl, differs word 45 (codes "cap") h refl, differs word 45 (codes "spill") h refl) refl

run_ends : (x : Options × List (List ℕ)) (serial : Bool) (cap spill : ℕ) (flow config : List ℕ) → Ends x (flow ∷ config ∷ []) serial cap spill → IsFile flow → IsFile config → run_with x.0 x.1 ≡ Some (command.Run serial cap spill flow config)
run_ends x serial cap spill flow config e f g = rw (e.behind, file_tested flow f, file_tested config g, e.serial_is, e.cap_is, e.spill_is) refl

run_read : (words : List (List ℕ)) (serial : Bool) (cap spill : ℕ) (flow config : List ℕ) → IsRun words serial cap spill flow config → command_of words ≡ Some (command.Run serial cap spill flow config)
unfolding command_of run_of
run_read words serial cap spill flow config r =
    let small : length r.options ≤ 3 = omega (arith, few r.options, few_flags (serials r.options) serial r.serial_set, few_set 1 1024 64 (caps r.options) cap r.cap_set, few_set 0 1024 16 (spills r.options) spill r.spill_set) in
    rw r.spelled (run_ends _ serial cap spill flow config
    (taken 3 false None None r.options (flow ∷ config ∷ []) serial cap spill small (plain_stops flow (config ∷ []) r.flow_named.plain) r.serial_set r.cap_set r.spill_set)
    r.flow_named r.config_named)

pub spelled_is_read : (words : List (List ℕ)) (c : Command) → Spells words c → command_of words ≡ Some c
unfolding command_of
spelled_is_read words (command.Check flow) s = rw (s.0, file_tested flow s.1) refl
spelled_is_read words (command.Score flow config) s = rw (s.0, file_tested flow s.1.0, file_tested config s.1.1) refl
spelled_is_read words (command.Meaning flow) s = rw (s.0, file_tested flow s.1) refl
spelled_is_read words (command.Run serial cap spill flow config) s = run_read words serial cap spill flow config s
spelled_is_read words (command.Gen n x) s = rw (s.spelled, number_read 7 1000000 s.count n s.count_written, number_read 0 9999999999999999999 s.seed x s.seed_written) refl
