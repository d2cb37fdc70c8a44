-- Operators in turn on one partition: what one emits on its output 0 is fed to the next at once, End too.
use Rattle.std.specs.Prelude.{◌≡◌, ℕ, ◌==◌, if◌then◌else◌, ◌⊎◌, List, [], ◌∷◌, ◌++◌, map}
use Rattle.streams.specs.Streams.{row, end, sends, fails, Feed, Out, Stream, all_ended, emits_after, Gives, IsStream, on}
use Rattle.streams.specs.Operators.{one_wanted}

-- what is emitted elsewhere, as faults
abbrev pub others : {X F : Type 0} → List (Out X F) → List (Out X F)
others [] = []
others (sends port x ∷ outs) = if port == 0 then others outs else sends port x ∷ others outs
others (fails fault ∷ outs) = fails fault ∷ others outs

-- what one more feed makes an operator hand to the next
abbrev pub hand_on : {X F : Type 0} → Stream X F → List (Feed X) → Feed X → List (Feed X)
hand_on a done f = map (λ x. record { port = 0; item = row x }) (on 0 (a.gives done f)) ++ (if all_ended a (done ++ f ∷ []) then record { port = 0; item = end } ∷ [] else [])

-- what the next operator is fed
abbrev pub passed_after : {X F : Type 0} → Stream X F → List (Feed X) → List (Feed X) → List (Feed X)
passed_after a done [] = []
passed_after a done (f ∷ feeds) = hand_on a done f ++ passed_after a (done ++ f ∷ []) feeds

abbrev pub passed_on : {X F : Type 0} → Stream X F → List (Feed X) → List (Feed X)
passed_on a feeds = passed_after a [] feeds

abbrev pub then_stream : {X F : Type 0} → Stream X F → Stream X F → Stream X F
then_stream a b = record { ports = a.ports; wants = a.wants; gives = λ done f. others (a.gives done f) ++ emits_after b (passed_on a done) (hand_on a done f) }

-- one port, wanted until it ends
pub record IsOnePort {X F : Type 0} (operator : Stream X F) : Type 0 where
  pub one : operator.ports ≡ 1
  pub until : (feeds : List (Feed X)) (i : ℕ) → operator.wants feeds i ≡ one_wanted feeds i

-- the third list is a mixture of the first two
abbrev pub Mixes : {A : Type 0} → List A → List A → List A → Type 0
Mixes xs ys [] = (xs ≡ []) × (ys ≡ [])
Mixes {A} xs ys (z ∷ zs) = ((rest : List A) × (xs ≡ z ∷ rest) × Mixes rest ys zs) ⊎ ((rest : List A) × (ys ≡ z ∷ rest) × Mixes xs rest zs)

-- the two in turn are an operator, and emit what each emits, the second of what the first gave it
abbrev pub ChainsFit : Type 0 → Type 0 → Type 0
ChainsFit X F = (a b : Stream X F) → IsStream a → IsOnePort b →
    IsStream (then_stream a b) × ((lists : ℕ → List X) (outs : List (Out X F)) → Gives (then_stream a b) lists outs → (first second : List (Out X F)) × Gives a lists first × Gives b (λ i. on 0 first) second × Mixes (others first) second outs)
