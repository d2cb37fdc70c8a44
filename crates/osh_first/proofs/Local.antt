-- Readers that go by the tokens up to the next one alone: what they read they read whatever follows that, and where they stop
-- nothing is read, whatever follows.
use Rattle.std.proofs.Common.{◌≡◌, ◌≤◌, ◌<◌, ℕ, zero, suc, List, [], ◌∷◌, ◌++◌, length, Result, Ok, Err, Option, Some, None, refl, sym, ap, ◌∙◌, append_assoc, arith, length-append}
use Rattle.ds_lex.specs.declared.refusal.Refusal.{Refusal}
use Rattle.ds_lex.specs.declared.refusal.Refusal.TheVariants as refusal
use Rattle.ds_lex.specs.Lexemes.{Lexeme}
use Rattle.ds_lex.specs.Reading.{◌>>=◌, refuse, first_of}
use Rattle.ds_lex.proofs.Readers.{bind_ok, Reader, bind, first_append}
use Rattle.osh_read.specs.declared.fault.OshWhy.{OshWhy}
use Rattle.osh_read.specs.declared.fault.OshWhy.TheVariants as causes
use Rattle.osh_read.specs.Reading.{repeated, if_comes}

abbrev pub Reads : Type 0 → Type 0
Reads X = Reader OshWhy X

-- how the place of a fault lies to the tokens that go on and to those that are left
abbrev pub Place : Type 1
Place = ℕ → OshWhy → List Lexeme → List Lexeme → Type 0

-- one that stays so behind other tokens, and that a token has with which no rule goes on
pub record Placing : Type 1 where
  pub Is : Place
  pub shift : (at : ℕ) (why : OshWhy) (pre front left : List Lexeme) → Is at why front left → Is at why (pre ++ front) left
  pub syntax : (t : Lexeme) (ts : List Lexeme) → Is t.at causes.Syntax [] (t ∷ ts)

-- any place
abbrev pub anywhere : Placing
anywhere = record { Is = λ at why front left. Unit {0}; shift = λ at why pre front left p. tt; syntax = λ t ts. tt }

-- The reader took the tokens up to `rest` as x. Another, which answers no more than the first, does so too, whatever follows
-- the next token, if it answers.
pub record Went {X : Type 0} (q : Reads X) (ts : List Lexeme) (x : X) (rest : List Lexeme) : Type 0 where
  pub front : List Lexeme
  pub parts : ts ≡ front ++ rest
  pub again : (more : List Lexeme) (p : X × List Lexeme) → first_of more ≡ first_of rest → q (front ++ more) ≡ Ok p → p ≡ (x, more)

-- the reader stopped, and the other one answers nothing, whatever follows the next token
pub record Stuck {X : Type 0} (P : Place) (q : Reads X) (ts : List Lexeme) (at : ℕ) (why : OshWhy) : Type 0 where
  pub front : List Lexeme
  pub left : List Lexeme
  pub parts : ts ≡ front ++ left
  pub never : (more : List Lexeme) (p : X × List Lexeme) → first_of more ≡ first_of left → q (front ++ more) ≡ Ok p → ⊥
  pub place : P at why front left

abbrev pub Outcome : {X : Type 0} → Place → Reads X → List Lexeme → Result (X × List Lexeme) (Refusal OshWhy) → Type 0
Outcome P q ts (Ok p) = Went q ts p.0 p.1
Outcome P q ts (Err refusal.AtEnd) = Unit {0}
Outcome P q ts (Err (refusal.At at why)) = Stuck P q ts at why

abbrev pub IsLocal : {X : Type 0} → Placing → Reads X → Reads X → Type 0
IsLocal places r q = (ts : List Lexeme) → Outcome places.Is q ts (r ts)

-- ---- answers

pub ok_is : {A E : Type 0} (x y : A) → (let r : Result A E = Ok x in r) ≡ Ok y → x ≡ y
ok_is x y h = cc

pub answer_is : {A E : Type 0} (v : Result A E) (x y : A) → v ≡ Ok x → v ≡ Ok y → y ≡ x
answer_is v x y e h = ok_is y x (sym h ∙ e)

pub no_answer : {A E : Type 0} (v : Result A E) (e : E) (y : A) → v ≡ Err e → v ≡ Ok y → ⊥
no_answer v e y k h = absurd cc

pub none_first : (more : List Lexeme) → first_of more ≡ first_of [] → more ≡ []
none_first [] h = refl
none_first (t ∷ more) h = absurd cc

pub some_first : (more : List Lexeme) (t : Lexeme) → first_of more ≡ Some t → (rest : List Lexeme) × (more ≡ t ∷ rest)
some_first [] t h = absurd cc
some_first (u ∷ more) t h = (more, (let e : u ≡ t = cc in ap (λ x. x ∷ more) e))

-- ---- one after the other

pub passes : {X Y : Type 0} (q : Reads X) (g : X → Reads Y) (ts : List Lexeme) (x : X) (mid : List Lexeme) (a : Went q ts x mid) (second more : List Lexeme) (o : Y × List Lexeme) → first_of (second ++ more) ≡ first_of mid → bind q g ((a.front ++ second) ++ more) ≡ Ok o → g x (second ++ more) ≡ Ok o
passes {X} q g ts x mid a second more o h e =
    let k = bind_ok (q (a.front ++ (second ++ more))) (λ p. g p.0 p.1) o (ap (bind q g) (sym (append_assoc a.front second more)) ∙ e) in
    let same = a.again (second ++ more) k.0 h k.1 in
    ap (λ (p : X × List Lexeme). g p.0 p.1) (sym same) ∙ k.2

pub together : (front second ts mid rest : List Lexeme) → ts ≡ front ++ mid → mid ≡ second ++ rest → ts ≡ (front ++ second) ++ rest
together front second ts mid rest e h = e ∙ (ap (λ (xs : List Lexeme). front ++ xs) h ∙ sym (append_assoc front second rest))

pub then_with : {X Y : Type 0} (P Q : Place) (q : Reads X) (g : X → Reads Y) (ts : List Lexeme) (x : X) (mid : List Lexeme) → (a : Went q ts x mid) → ((at : ℕ) (why : OshWhy) (front left : List Lexeme) → mid ≡ front ++ left → P at why front left → Q at why (a.front ++ front) left) → (v : Result (Y × List Lexeme) (Refusal OshWhy)) → Outcome P (g x) mid v → Outcome Q (bind q g) ts v
then_with P Q q g ts x mid a behind (Ok p) b = record {
  front = a.front ++ b.front;
  parts = together a.front b.front ts mid p.1 a.parts b.parts;
  again = λ more o h e. b.again more o h (passes q g ts x mid a b.front more o (first_append b.front more p.1 h ∙ sym (ap first_of b.parts)) e);
}
then_with P Q q g ts x mid a behind (Err refusal.AtEnd) b = tt
then_with P Q q g ts x mid a behind (Err (refusal.At at why)) b = record {
  front = a.front ++ b.front;
  left = b.left;
  parts = together a.front b.front ts mid b.left a.parts b.parts;
  never = λ more o h e. b.never more o h (passes q g ts x mid a b.front more o (first_append b.front more b.left h ∙ sym (ap first_of b.parts)) e);
  place = behind at why b.front b.left b.parts b.place;
}

pub then_by : {X Y : Type 0} (places : Placing) (q : Reads X) (g : X → Reads Y) (ts : List Lexeme) (x : X) (mid : List Lexeme) → Went q ts x mid → (v : Result (Y × List Lexeme) (Refusal OshWhy)) → Outcome places.Is (g x) mid v → Outcome places.Is (bind q g) ts v
then_by places q g ts x mid a v b = then_with places.Is places.Is q g ts x mid a (λ at why front left e p. places.shift at why a.front front left p) v b

-- a value was read, and another is made of it
pub went_gives : {X Y : Type 0} (q : Reads X) (g : X → Reads Y) (ts mid : List Lexeme) (x : X) (y : Y) → ((us : List Lexeme) → g x us ≡ Ok (y, us)) → Went q ts x mid → Went (bind q g) ts y mid
went_gives q g ts mid x y gives a = record {
  front = a.front;
  parts = a.parts;
  again = λ more o h e. (let b = bind_ok (q (a.front ++ more)) (λ p. g p.0 p.1) o e in let same = a.again more b.0 h b.1 in sym (ok_is (y, more) o (sym (gives more) ∙ (ap (λ (p : _ × List Lexeme). g p.0 p.1) (sym same) ∙ b.2))));
}

-- the first reader stopped
pub stuck_first : {X Y : Type 0} (P : Place) (q : Reads X) (g : X → Reads Y) (ts : List Lexeme) (at : ℕ) (why : OshWhy) → Stuck P q ts at why → Stuck P (bind q g) ts at why
stuck_first P q g ts at why a = record {
  front = a.front;
  left = a.left;
  parts = a.parts;
  never = λ more o h e. (let k = bind_ok (q (a.front ++ more)) (λ p. g p.0 p.1) o e in a.never more k.0 h k.1);
  place = a.place;
}

first_by : {X Y : Type 0} (places : Placing) (q : Reads X) (f g : X → Reads Y) (ts : List Lexeme) → ((x : X) → IsLocal places (f x) (g x)) → (v : Result (X × List Lexeme) (Refusal OshWhy)) → Outcome places.Is q ts v → Outcome places.Is (bind q g) ts (v >>= λ p. f p.0 p.1)
first_by places q f g ts others (Ok p) a = then_by places q g ts p.0 p.1 a (f p.0 p.1) (others p.0 p.1)
first_by places q f g ts others (Err refusal.AtEnd) a = tt
first_by places q f g ts others (Err (refusal.At at why)) a = stuck_first places.Is q g ts at why a

pub bind_local : {X Y : Type 0} (places : Placing) (r q : Reads X) (f g : X → Reads Y) → IsLocal places r q → ((x : X) → IsLocal places (f x) (g x)) → IsLocal places (bind r f) (bind q g)
bind_local places r q f g reads others ts = first_by places q f g ts others (r ts) (reads ts)

other_by : {X : Type 0} (places : Placing) (q s : Reads X) (ts : List Lexeme) → ((us : List Lexeme) → s us ≡ q us) → (v : Result (X × List Lexeme) (Refusal OshWhy)) → Outcome places.Is q ts v → Outcome places.Is s ts v
other_by places q s ts same (Ok p) a = record { front = a.front; parts = a.parts; again = λ more o h e. a.again more o h (sym (same (a.front ++ more)) ∙ e) }
other_by places q s ts same (Err refusal.AtEnd) a = tt
other_by places q s ts same (Err (refusal.At at why)) a = record { front = a.front; left = a.left; parts = a.parts; never = λ more o h e. a.never more o h (sym (same (a.front ++ more)) ∙ e); place = a.place }

-- where the place is one of a kind it is one of another
pub place_as : {X : Type 0} (P Q : Place) (q : Reads X) (ts : List Lexeme) → ((at : ℕ) (why : OshWhy) (front left : List Lexeme) → P at why front left → Q at why front left) → (v : Result (X × List Lexeme) (Refusal OshWhy)) → Outcome P q ts v → Outcome Q q ts v
place_as P Q q ts same (Ok p) a = a
place_as P Q q ts same (Err refusal.AtEnd) a = tt
place_as P Q q ts same (Err (refusal.At at why)) a = record { front = a.front; left = a.left; parts = a.parts; never = a.never; place = same at why a.front a.left a.place }

-- readers in place of equal ones
pub same_local : {X : Type 0} (places : Placing) (r q s p : Reads X) → ((ts : List Lexeme) → s ts ≡ r ts) → ((ts : List Lexeme) → p ts ≡ q ts) → IsLocal places r q → IsLocal places s p
same_local places r q s p one two reads ts = rw (one ts) (other_by places q p ts two (r ts) (reads ts))

-- ---- readers of at most one token

-- what is done with the next token: it is taken, or left, or refused
pub data Act (X : Type 0) : Type 0 where
  Take : X → Act X
  Leave : X → Act X
  Refuse : Act X

abbrev pub done : {X : Type 0} → Act X → Lexeme → List Lexeme → Result (X × List Lexeme) (Refusal OshWhy)
done (Act.Take x) t ts = Ok (x, ts)
done (Act.Leave x) t ts = Ok (x, t ∷ ts)
done Act.Refuse t ts = refuse t causes.Syntax

-- what is answered where there is no token
abbrev pub ended : {X : Type 0} → Option X → Result (X × List Lexeme) (Refusal OshWhy)
ended None = Err refusal.AtEnd
ended (Some x) = Ok (x, [])

pub end_by : {X : Type 0} (P : Place) (r : Reads X) (o : Option X) → r [] ≡ ended o → Outcome P r [] (ended o)
end_by P r None e = tt
end_by P r (Some x) e = record { front = []; parts = refl; again = λ more p h k. (let none = none_first more h in answer_is (r more) (x, more) p (ap r none ∙ (e ∙ ap (λ (xs : List Lexeme). Ok (x, xs)) (sym none))) k) }

pub take_by : {X : Type 0} (r : Reads X) (t : Lexeme) (ts : List Lexeme) (x : X) → ((us : List Lexeme) → r (t ∷ us) ≡ Ok (x, us)) → Went r (t ∷ ts) x ts
take_by r t ts x step = record { front = t ∷ []; parts = refl; again = λ more p h k. answer_is (r (t ∷ more)) (x, more) p (step more) k }

pub leave_by : {X : Type 0} (r : Reads X) (t : Lexeme) (ts : List Lexeme) (x : X) → ((us : List Lexeme) → r (t ∷ us) ≡ Ok (x, t ∷ us)) → Went r (t ∷ ts) x (t ∷ ts)
leave_by r t ts x step = record {
  front = [];
  parts = refl;
  again = λ more p h k. (let some = some_first more t h in answer_is (r more) (x, more) p (ap r some.1 ∙ (step some.0 ∙ ap (λ (xs : List Lexeme). Ok (x, xs)) (sym some.1))) k);
}

pub act_by : {X : Type 0} (places : Placing) (r : Reads X) (t : Lexeme) (ts : List Lexeme) (a : Act X) → ((us : List Lexeme) → r (t ∷ us) ≡ done a t us) → Outcome places.Is r (t ∷ ts) (done a t ts)
act_by places r t ts (Act.Take x) step = take_by r t ts x step
act_by places r t ts (Act.Leave x) step = leave_by r t ts x step
act_by places r t ts Act.Refuse step = record {
  front = [];
  left = t ∷ ts;
  parts = refl;
  never = λ more p h k. (let some = some_first more t h in no_answer (r more) (refusal.At t.at causes.Syntax) p (ap r some.1 ∙ step some.0) k);
  place = places.syntax t ts;
}

pub one_local : {X : Type 0} (places : Placing) (r : Reads X) (o : Option X) (act : Lexeme → Act X) → r [] ≡ ended o → ((t : Lexeme) (ts : List Lexeme) → r (t ∷ ts) ≡ done (act t) t ts) → IsLocal places r r
one_local places r o act none step [] = rw none (end_by places.Is r o none)
one_local places r o act none step (t ∷ ts) = rw (step t ts) (act_by places r t ts (act t) (step t))

pub gives_local : {X : Type 0} (places : Placing) (x : X) → IsLocal places (λ ts. Ok (x, ts)) (λ ts. Ok (x, ts))
gives_local places x ts = record { front = []; parts = refl; again = λ more p h k. sym (ok_is (x, more) p k) }

-- ---- as often as one comes

-- something was read, and tokens were taken for it
abbrev pub Fewer : {Y : Type 0} → List Lexeme → Result (Option Y × List Lexeme) (Refusal OshWhy) → Type 0
Fewer ts (Ok (Some y, rest)) = length rest < length ts
Fewer ts (Ok (None, rest)) = Unit {0}
Fewer ts (Err e) = Unit {0}

-- the same for a reader that goes on as far as there are tokens
pub record WentBy {X : Type 0} (q : ℕ → Reads X) (ts : List Lexeme) (x : X) (rest : List Lexeme) : Type 0 where
  pub front : List Lexeme
  pub parts : ts ≡ front ++ rest
  pub again : (m : ℕ) (more : List Lexeme) (p : X × List Lexeme) → first_of more ≡ first_of rest → length (front ++ more) ≤ m → q m (front ++ more) ≡ Ok p → p ≡ (x, more)

pub record StuckBy {X : Type 0} (P : Place) (q : ℕ → Reads X) (ts : List Lexeme) (at : ℕ) (why : OshWhy) : Type 0 where
  pub front : List Lexeme
  pub left : List Lexeme
  pub parts : ts ≡ front ++ left
  pub never : (m : ℕ) (more : List Lexeme) (p : X × List Lexeme) → first_of more ≡ first_of left → length (front ++ more) ≤ m → q m (front ++ more) ≡ Ok p → ⊥
  pub place : P at why front left

abbrev pub OutcomeBy : {X : Type 0} → Place → (ℕ → Reads X) → List Lexeme → Result (X × List Lexeme) (Refusal OshWhy) → Type 0
OutcomeBy P q ts (Ok p) = WentBy q ts p.0 p.1
OutcomeBy P q ts (Err refusal.AtEnd) = Unit {0}
OutcomeBy P q ts (Err (refusal.At at why)) = StuckBy P q ts at why

abbrev pub One : Type 0 → Type 0 → Type 0
One S Y = S → Reads (Option Y)

no_tokens : (ts : List Lexeme) → length ts ≤ 0 → ts ≡ []
no_tokens [] h = refl
no_tokens (t ∷ ts) h = absurd (omega arith)

no_more : (front more : List Lexeme) → length (front ++ more) ≤ 0 → (front ≡ []) × (more ≡ [])
no_more [] more h = (refl, no_tokens more h)
no_more (t ∷ front) more h = absurd (omega arith)

-- where none is left the reader is at its end
ends_here : {S Y : Type 0} (q : One S Y) (add : S → Y → S) → ((s : S) → q s [] ≡ Ok (None, [])) → (m : ℕ) (found : S) (p : S × List Lexeme) → repeated q add m found [] ≡ Ok p → p ≡ (found, [])
unfolding repeated
ends_here q add empty zero found p h = sym (ok_is (found, []) p h)
ends_here q add empty (suc m) found p h =
    let k = bind_ok (q found []) (λ x. if_comes x.0 (λ y. repeated q add m (add found y) x.1) (Ok (found, x.1))) p h in
    let same = answer_is (q found []) (None, []) k.0 (empty found) k.1 in
    sym (ok_is (found, []) p (ap (λ (x : Option _ × List Lexeme). if_comes x.0 (λ y. repeated q add m (add found y) x.1) (Ok (found, x.1))) (sym same) ∙ k.2))

pub none_more : {S Y : Type 0} (q : One S Y) (add : S → Y → S) → ((s : S) → q s [] ≡ Ok (None, [])) → (found : S) (ts us : List Lexeme) (a : Went (q found) ts None us) (m : ℕ) (more : List Lexeme) (p : S × List Lexeme) → first_of more ≡ first_of us → length (a.front ++ more) ≤ m → repeated q add m found (a.front ++ more) ≡ Ok p → p ≡ (found, more)
unfolding repeated
none_more q add empty found ts us a zero more p h l e =
    let n = no_more a.front more l in
    sym (ok_is (found, a.front ++ more) p e) ∙ ap (λ (xs : List Lexeme). (found, xs ++ more)) n.0
none_more q add empty found ts us a (suc m) more p h l e =
    let k = bind_ok (q found (a.front ++ more)) (λ x. if_comes x.0 (λ y. repeated q add m (add found y) x.1) (Ok (found, x.1))) p e in
    let same = a.again more k.0 h k.1 in
    sym (ok_is (found, more) p (ap (λ (x : Option _ × List Lexeme). if_comes x.0 (λ y. repeated q add m (add found y) x.1) (Ok (found, x.1))) (sym same) ∙ k.2))

pub stuck_more : {S Y : Type 0} (P : Place) (q : One S Y) (add : S → Y → S) → ((s : S) → q s [] ≡ Ok (None, [])) → (found : S) (ts : List Lexeme) (at : ℕ) (why : OshWhy) (a : Stuck P (q found) ts at why) (m : ℕ) (more : List Lexeme) (p : S × List Lexeme) → first_of more ≡ first_of a.left → length (a.front ++ more) ≤ m → repeated q add m found (a.front ++ more) ≡ Ok p → ⊥
unfolding repeated
stuck_more P q add empty found ts at why a zero more p h l e =
    let n = no_more a.front more l in
    a.never more (None, []) h (ap (λ (xs : List Lexeme). q found (xs ++ more)) n.0 ∙ (ap (q found) n.1 ∙ empty found))
stuck_more P q add empty found ts at why a (suc m) more p h l e =
    let k = bind_ok (q found (a.front ++ more)) (λ x. if_comes x.0 (λ y. repeated q add m (add found y) x.1) (Ok (found, x.1))) p e in
    a.never more k.0 h k.1

-- one was read: the others are read behind it
pub some_more : {S Y : Type 0} (q : One S Y) (add : S → Y → S) (found : S) (y : Y) (ts us : List Lexeme) (a : Went (q found) ts (Some y) us) → length us < length ts → (second : List Lexeme) (m : ℕ) (more : List Lexeme) (p : S × List Lexeme) → first_of (second ++ more) ≡ first_of us → length ((a.front ++ second) ++ more) ≤ m → repeated q add m found ((a.front ++ second) ++ more) ≡ Ok p
    → (k : ℕ) × (length (second ++ more) ≤ k) × (repeated q add k (add found y) (second ++ more) ≡ Ok p)
unfolding repeated
some_more q add found y ts us a fewer second zero more p h l e =
    let parts = ap length a.parts ∙ length-append a.front us in
    let one = length-append a.front second in
    let two = length-append (a.front ++ second) more in
    absurd (omega arith)
some_more q add found y ts us a fewer second (suc m) more p h l e =
    let parts = ap length a.parts ∙ length-append a.front us in
    let one = length-append a.front second in
    let two = length-append (a.front ++ second) more in
    let three = length-append second more in
    let k = bind_ok (q found (a.front ++ (second ++ more))) (λ x. if_comes x.0 (λ z. repeated q add m (add found z) x.1) (Ok (found, x.1))) p (ap (λ (xs : List Lexeme). repeated q add (suc m) found xs) (sym (append_assoc a.front second more)) ∙ e) in
    let same = a.again (second ++ more) k.0 h k.1 in
    (m, omega arith, ap (λ (x : Option _ × List Lexeme). if_comes x.0 (λ z. repeated q add m (add found z) x.1) (Ok (found, x.1))) (sym same) ∙ k.2)

pub others_with : {S Y : Type 0} (P Q : Place) (q : One S Y) (add : S → Y → S) (found : S) (y : Y) (ts us : List Lexeme) → (a : Went (q found) ts (Some y) us) → length us < length ts → ((at : ℕ) (why : OshWhy) (front left : List Lexeme) → us ≡ front ++ left → P at why front left → Q at why (a.front ++ front) left) → (v : Result (S × List Lexeme) (Refusal OshWhy)) → OutcomeBy P (λ m. repeated q add m (add found y)) us v → OutcomeBy Q (λ m. repeated q add m found) ts v
others_with P Q q add found y ts us a fewer behind (Ok s) b = record {
  front = a.front ++ b.front;
  parts = together a.front b.front ts us s.1 a.parts b.parts;
  again = λ m more p h l e. (let k = some_more q add found y ts us a fewer b.front m more p (first_append b.front more s.1 h ∙ sym (ap first_of b.parts)) l e in b.again k.0 more p h k.1 k.2);
}
others_with P Q q add found y ts us a fewer behind (Err refusal.AtEnd) b = tt
others_with P Q q add found y ts us a fewer behind (Err (refusal.At at why)) b = record {
  front = a.front ++ b.front;
  left = b.left;
  parts = together a.front b.front ts us b.left a.parts b.parts;
  never = λ m more p h l e. (let k = some_more q add found y ts us a fewer b.front m more p (first_append b.front more b.left h ∙ sym (ap first_of b.parts)) l e in b.never k.0 more p h k.1 k.2);
  place = behind at why b.front b.left b.parts b.place;
}

repeat_by : {S Y : Type 0} (places : Placing) (r q : One S Y) (add : S → Y → S) → ((s : S) → q s [] ≡ Ok (None, [])) → (n : ℕ) (found : S) (ts : List Lexeme) → length ts ≤ suc n → ((s : S) (us : List Lexeme) → length us ≤ n → OutcomeBy places.Is (λ m. repeated q add m s) us (repeated r add n s us))
    → (v : Result (Option Y × List Lexeme) (Refusal OshWhy)) → Outcome places.Is (q found) ts v → Fewer ts v → OutcomeBy places.Is (λ m. repeated q add m found) ts (v >>= λ x. if_comes x.0 (λ y. repeated r add n (add found y) x.1) (Ok (found, x.1)))
repeat_by places r q add empty n found ts l more (Ok (None, us)) a fewer = record { front = a.front; parts = a.parts; again = λ m xs p h k e. none_more q add empty found ts us a m xs p h k e }
repeat_by places r q add empty n found ts l more (Ok (Some y, us)) a fewer = others_with places.Is places.Is q add found y ts us a fewer (λ at why front left e p. places.shift at why a.front front left p) (repeated r add n (add found y) us) (more (add found y) us (omega arith))
repeat_by places r q add empty n found ts l more (Err refusal.AtEnd) a fewer = tt
repeat_by places r q add empty n found ts l more (Err (refusal.At at why)) a fewer = record { front = a.front; left = a.left; parts = a.parts; never = λ m xs p h k e. stuck_more places.Is q add empty found ts at why a m xs p h k e; place = a.place }

pub repeated_local : {S Y : Type 0} (places : Placing) (r q : One S Y) (add : S → Y → S) → ((s : S) → q s [] ≡ Ok (None, [])) → ((s : S) → IsLocal places (r s) (q s)) → ((s : S) (ts : List Lexeme) → Fewer ts (r s ts)) → (n : ℕ) (found : S) (ts : List Lexeme) → length ts ≤ n → OutcomeBy places.Is (λ m. repeated q add m found) ts (repeated r add n found ts)
unfolding repeated
repeated_local places r q add empty local fewer zero found ts l =
    let none = no_tokens ts l in
    record { front = []; parts = refl; again = λ m more p h k e. (let no : more ≡ [] = none_first more (h ∙ ap first_of none) in ends_here q add empty m found p (ap (λ (xs : List Lexeme). repeated q add m found xs) (sym no) ∙ e) ∙ ap (λ (xs : List Lexeme). (found, xs)) (sym no)) }
repeated_local places r q add empty local fewer (suc n) found ts l =
    repeat_by places r q add empty n found ts l (λ s us k. repeated_local places r q add empty local fewer n s us k) (r found ts) (local found ts) (fewer found ts)

pub by_length : {X : Type 0} (P : Place) (q : ℕ → Reads X) (ts : List Lexeme) (v : Result (X × List Lexeme) (Refusal OshWhy)) → OutcomeBy P q ts v → Outcome P (λ us. q (length us) us) ts v
by_length P q ts (Ok p) a = record { front = a.front; parts = a.parts; again = λ more o h e. a.again (length (a.front ++ more)) more o h (omega arith) e }
by_length P q ts (Err refusal.AtEnd) a = tt
by_length P q ts (Err (refusal.At at why)) a = record { front = a.front; left = a.left; parts = a.parts; never = λ more o h e. a.never (length (a.front ++ more)) more o h (omega arith) e; place = a.place }

-- all that come
pub all_local : {S Y : Type 0} (places : Placing) (r q : One S Y) (add : S → Y → S) → ((s : S) → q s [] ≡ Ok (None, [])) → ((s : S) → IsLocal places (r s) (q s)) → ((s : S) (ts : List Lexeme) → Fewer ts (r s ts)) → (found : S) → IsLocal places (λ ts. repeated r add (length ts) found ts) (λ ts. repeated q add (length ts) found ts)
all_local places r q add empty local fewer found ts = by_length places.Is (λ m. repeated q add m found) ts (repeated r add (length ts) found ts) (repeated_local places r q add empty local fewer (length ts) found ts (omega arith))

-- behind a first token fewer are left
pub fewer_by : {Y : Type 0} (P : Place) (q : Reads (Option Y)) (ts us : List Lexeme) → length us < length ts → (v : Result (Option Y × List Lexeme) (Refusal OshWhy)) → Outcome P q us v → Fewer ts v
fewer_by P q ts us l (Ok (None, rest)) a = tt
fewer_by P q ts us l (Ok (Some y, rest)) a = let k = ap length a.parts ∙ length-append a.front rest in omega arith
fewer_by P q ts us l (Err e) a = tt
