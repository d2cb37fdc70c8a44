-- What the machine did up to a token, and how it may go on.
use Rattle.std.proofs.Common.{◌≡◌, ◌++◌, ℕ, List, [], ◌∷◌, Result, Ok, Err, Bool, refl, ap, ◌∙◌}
use Rattle.ds_lex.specs.declared.refusal.Refusal.{Refusal}
use Rattle.ds_lex.specs.declared.refusal.Refusal.TheVariants as refusal
use Rattle.ds_lex.specs.Lexemes.{Lexeme}
use Rattle.ds_lex.specs.Reading.{◌>>=◌, refuse}
use Rattle.config_read.specs.declared.fault.ConfigWhy.{ConfigWhy}
use Rattle.config_read.specs.declared.config.Node.{Node}
use Rattle.config_read.proofs.Machine.{Stand, Step, Run, step, behind, last, run}
use Rattle.config_read.proofs.Machine.Stand.{Begin, FirstNode, NextNode, NodeName, Open, Inside, Fast, FirstPool, MorePools, Kind, Path, Braces, BraceWord, BraceFirst, BraceMore, End}

abbrev State : Type 0
State = List Node × Stand

abbrev pub reach : Bool → List Node → Stand → List Lexeme → Result State (Refusal ConfigWhy)
reach b ns s [] = Ok (ns, s)
reach b ns s (t ∷ ts) = behind t (step b ns s t) (λ ms next. reach b ms next ts)

reach_by : (r : Step) (b : Bool) (t : Lexeme) (front rest : List Lexeme) → ((ms : List Node) (m : Stand) → run b ms m (front ++ rest) ≡ (reach b ms m front >>= λ x. run b x.0 x.1 rest))
    → behind t r (λ ms next. run b ms next (front ++ rest)) ≡ (behind t r (λ ms next. reach b ms next front) >>= λ x. run b x.0 x.1 rest)
reach_by (Ok x) b t front rest h = h x.0 x.1
reach_by (Err w) b t front rest h = refl

-- reading goes on from what was reached
pub run_reach : (b : Bool) (ns : List Node) (s : Stand) (front rest : List Lexeme) → run b ns s (front ++ rest) ≡ (reach b ns s front >>= λ x. run b x.0 x.1 rest)
run_reach b ns s [] rest = refl
run_reach b ns s (t ∷ front) rest = reach_by (step b ns s t) b t front rest (λ ms m. run_reach b ms m front rest)

-- the token at which the machine stops
pub record Stop (b : Bool) (ns : List Node) (s : Stand) (ts : List Lexeme) (at : ℕ) (why : ConfigWhy) : Type 0 where
  pub before : List Lexeme
  pub token : Lexeme
  pub rest : List Lexeme
  pub tokens : ts ≡ before ++ token ∷ rest
  pub state : State
  pub reached : reach b ns s before ≡ Ok state
  pub refused : step b state.0 state.1 token ≡ Err why
  pub place : at ≡ token.at

no_stop : (ns : List Node) (s : Stand) (at : ℕ) (w : ConfigWhy) → last ns s ≡ Err (refusal.At at w) → ⊥
no_stop ns Begin at w h = cc
no_stop ns FirstNode at w h = cc
no_stop ns NextNode at w h = cc
no_stop ns NodeName at w h = cc
no_stop ns (Open name) at w h = cc
no_stop ns (Inside node) at w h = cc
no_stop ns (Fast node) at w h = cc
no_stop ns (FirstPool node) at w h = cc
no_stop ns (MorePools node) at w h = cc
no_stop ns (Kind node) at w h = cc
no_stop ns (Path kind node) at w h = cc
no_stop ns (Braces node) at w h = cc
no_stop ns (BraceWord node) at w h = cc
no_stop ns (BraceFirst node) at w h = cc
no_stop ns (BraceMore node) at w h = cc
no_stop ns End at w h = cc

refused_here : (t : Lexeme) (w : ConfigWhy) (at : ℕ) (v : ConfigWhy) → (let r : Run = refuse t w in r) ≡ Err (refusal.At at v) → (at ≡ t.at) × (w ≡ v)
refused_here t w at v h = (cc, cc)

stops_by : (r : Step) (b : Bool) (ns : List Node) (s : Stand) (t : Lexeme) (ts : List Lexeme) (at : ℕ) (w : ConfigWhy) → step b ns s t ≡ r → ((ms : List Node) (m : Stand) → run b ms m ts ≡ Err (refusal.At at w) → Stop b ms m ts at w) → behind t r (λ ms next. run b ms next ts) ≡ Err (refusal.At at w) → Stop b ns s (t ∷ ts) at w
stops_by (Err v) b ns s t ts at w e more h =
    let p = refused_here t v at w h in
    record { before = []; token = t; rest = ts; tokens = refl; state = (ns, s); reached = refl; refused = e ∙ ap (λ x. let q : Step = Err x in q) p.1; place = p.0 }
stops_by (Ok x) b ns s t ts at w e more h =
    let q = more x.0 x.1 h in
    record { before = t ∷ q.before; token = q.token; rest = q.rest; tokens = ap (λ us. t ∷ us) q.tokens; state = q.state; reached = rw e q.reached; refused = q.refused; place = q.place }

pub stops : (b : Bool) (ns : List Node) (s : Stand) (ts : List Lexeme) (at : ℕ) (w : ConfigWhy) → run b ns s ts ≡ Err (refusal.At at w) → Stop b ns s ts at w
stops b ns s [] at w h = absurd (no_stop ns s at w h)
stops b ns s (t ∷ ts) at w h = stops_by (step b ns s t) b ns s t ts at w refl (λ ms m k. stops b ms m ts at w k) h

-- what was reached where the tokens end too soon
pub record Reached (b : Bool) (ns : List Node) (s : Stand) (ts : List Lexeme) : Type 0 where
  pub state : State
  pub reached : reach b ns s ts ≡ Ok state

reached_by : (r : Step) (b : Bool) (ns : List Node) (s : Stand) (t : Lexeme) (ts : List Lexeme) → step b ns s t ≡ r → ((ms : List Node) (m : Stand) → run b ms m ts ≡ Err refusal.AtEnd → Reached b ms m ts) → behind t r (λ ms next. run b ms next ts) ≡ Err refusal.AtEnd → Reached b ns s (t ∷ ts)
reached_by (Err v) b ns s t ts e more h = cc
reached_by (Ok x) b ns s t ts e more h = let q = more x.0 x.1 h in record { state = q.state; reached = rw e q.reached }

pub reaches : (b : Bool) (ns : List Node) (s : Stand) (ts : List Lexeme) → run b ns s ts ≡ Err refusal.AtEnd → Reached b ns s ts
reaches b ns s [] h = record { state = (ns, s); reached = refl }
reaches b ns s (t ∷ ts) h = reached_by (step b ns s t) b ns s t ts refl (λ ms m k. reaches b ms m ts k) h
