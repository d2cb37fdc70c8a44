-- What is read spells its configuration, and a refusal is the first fault.
use Rattle.std.proofs.Common.{◌≡◌, ◌≤◌, ◌<◌, ℕ, List, [], ◌∷◌, ◌++◌, length, map, take, Result, Ok, Err, Option, Some, None, Bool, true, false, refl, sym, ap, subst, inl, inr, ◌∙◌, arith, append_assoc}
use Rattle.std.specs.Prelude.{if◌then◌else◌, nat_lt, codes, IfOk, IfErr}
use Rattle.std.specs.List.{list_any, AllByRecursion}
use Rattle.std.proofs.lemmas.List.{length-map, append-nil}
use Rattle.ds_lex.specs.declared.token.Mode.TheVariants.{Inner}
use Rattle.ds_lex.specs.declared.lexeme.End.{End as Ending}
use Rattle.ds_lex.specs.declared.lexeme.End.TheVariants as ends
use Rattle.ds_lex.specs.declared.refusal.Refusal.{Refusal}
use Rattle.ds_lex.specs.declared.refusal.Refusal.TheVariants as refusal
use Rattle.ds_lex.specs.Lexemes.{Lexeme, place_of, end_of, limited_text}
use Rattle.config_read.specs.declared.fault.ConfigWhy.{ConfigWhy}
use Rattle.config_read.specs.declared.fault.ConfigWhy.TheVariants as causes
use Rattle.config_read.specs.declared.fault.ConfigFault.{ConfigFault}
use Rattle.config_read.specs.declared.fault.ConfigFault.TheVariants as fault
use Rattle.config_read.specs.declared.config.Node.{Node}
use Rattle.config_read.specs.declared.config.Config.{Config}
use Rattle.config_read.specs.Pools.{is_default}
use Rattle.config_read.specs.Spelled.{content, Text, text_tokens, IsText, NodeText, node_of, Keeps, Spells}
use Rattle.config_read.specs.First.{has_default, IsSpelled, Begins, BeginsText, IsCause, StopsAt, IsOpen, BreaksOff, IsFirst, IsFirstFault, Refuses}
use Rattle.config_read.specs.Reading.{text_at, Fault, end_why, ended, settled, config_of, Answers}
use Rattle.config_read.proofs.Names.{name_tested, tested_name}
use Rattle.config_read.proofs.Machine.{Stand, Run, step, run}
use Rattle.config_read.proofs.Machine.Stand.{Begin}
use Rattle.config_read.proofs.Prefixes.{reach, run_reach, stops, reaches}
use Rattle.config_read.proofs.Descent.{machine_reads}
use Rattle.config_read.proofs.Taking.{FitAll, takes_text}
use Rattle.config_read.proofs.Giving.{IsToken, took, is_word}
use Rattle.config_read.proofs.Causes.{Causes, reach_valid, reach_loose, step_refused}
use Rattle.config_read.proofs.Ways.{way, good_way}
use Rattle.config_read.proofs.Quotes.{lexemes_quoted}

abbrev AreTokens : List Lexeme → Type 0
AreTokens ts = AllByRecursion IsToken ts

both : (xs ys : List Lexeme) → AreTokens xs → AreTokens ys → AreTokens (xs ++ ys)
both [] ys h k = k
both (x ∷ xs) ys h k = (h.0, both xs ys h.1 k)

front : (xs ys : List Lexeme) → AreTokens (xs ++ ys) → AreTokens xs
front [] ys h = tt
front (x ∷ xs) ys h = (h.0, front xs ys h.1)

rest : (xs ys : List Lexeme) → AreTokens (xs ++ ys) → AreTokens ys
rest [] ys h = h
rest (x ∷ xs) ys h = rest xs ys h.1

-- ---- what the machine took

text_of : (begin : Lexeme) (ns : List NodeText) (end : Lexeme) → Text
text_of begin ns end = record { begin = begin; nodes = ns; end = end }

-- by the grammar alone
pub took_text : (ts : List Lexeme) (nodes : List Node) → AreTokens ts → run false [] Begin ts ≡ Ok nodes → (text : Text) × (ts ≡ text_tokens text) × IsText text
took_text ts nodes k h =
    let o = took false [] Begin ts nodes k h in
    let n = o.1.1.1.1 in (
      record { begin = o.0; nodes = n.found.nodes; end = n.found.end },
      o.1.1.0 ∙ ap (λ (us : List Lexeme). o.0 ∷ us) n.found.tokens,
      record { begin = o.1.1.1.0; some = n.some; nodes = n.found.each; end = n.found.closed },
    )

pub took_config : (ts : List Lexeme) (nodes : List Node) → AreTokens ts → run true [] Begin ts ≡ Ok nodes → Spells ts (record { nodes = nodes })
took_config ts nodes k h =
    let o = took true [] Begin ts nodes k h in
    let n = o.1.1.1.1 in
    let f = n.found.fits in
    let same : nodes ≡ map node_of n.found.nodes = n.found.value in
    let few : length (map node_of n.found.nodes) ≤ 64 = (let a = f.1.1 n.some in omega (arith, a, length-map n.found.nodes node_of)) in
    let keeps : Keeps (map node_of n.found.nodes) = record { named = f.0; new = f.1.0; few = few } in
    record {
      text = record { begin = o.0; nodes = n.found.nodes; end = n.found.end };
      tokens = o.1.1.0 ∙ ap (λ (us : List Lexeme). o.0 ∷ us) n.found.tokens;
      grammar = record { begin = o.1.1.1.0; some = n.some; nodes = n.found.each; end = n.found.closed };
      nodes = same;
      keeps = subst Keeps (sym same) keeps;
    }

-- ---- what is spelled is taken

pub config_taken : (ts : List Lexeme) (config : Config) → Spells ts config → run true [] Begin ts ≡ Ok config.nodes
config_taken ts config s =
    let keeps = subst Keeps s.nodes s.keeps in
    let fit : FitAll [] (map node_of s.text.nodes) = record { named = keeps.named; new = keeps.new; few = (let k = keeps.few in omega (arith, k)) } in
    ap (run true [] Begin) s.tokens ∙ (takes_text true s.text s.grammar fit ∙ ap Ok (sym s.nodes))

text_taken : (ts : List Lexeme) (text : Text) → ts ≡ text_tokens text → IsText text → run false [] Begin ts ≡ Ok (map node_of text.nodes)
text_taken ts text e g = ap (run false [] Begin) e ∙ takes_text false text g tt

-- ---- where the machine stops

no_ok : (b : Bool) (before more : List Lexeme) (t : Lexeme) (state : List Node × Stand) (w : ConfigWhy) (nodes : List Node) → reach b [] Begin before ≡ Ok state → step b state.0 state.1 t ≡ Err w → run b [] Begin ((before ++ t ∷ []) ++ more) ≡ Ok nodes → ⊥
no_ok b before more t state w nodes r s h =
    let group : (before ++ t ∷ []) ++ more ≡ before ++ t ∷ more = append_assoc before (t ∷ []) more in
    let through : run b [] Begin (before ++ t ∷ more) ≡ Err (refusal.At t.at w) = run_reach b [] Begin before (t ∷ more) ∙ rw (r, s) refl in
    let k : (let v : Run = Err (refusal.At t.at w) in v) ≡ Ok nodes = sym through ∙ (ap (run b [] Begin) (sym group) ∙ h) in
    absurd cc

-- the tokens before can be completed
begun : (before : List Lexeme) (state : List Node × Stand) → AreTokens before → reach true [] Begin before ≡ Ok state → Begins before
begun before state k r =
    let w = good_way state.0 state.1 (reach_valid [] Begin before state (let few : 0 < 64 = omega arith in few) r) in
    let run_so : run true [] Begin (before ++ w.more) ≡ Ok w.nodes = run_reach true [] Begin before w.more ∙ rw r w.taken in
    record { more = w.more; config = record { nodes = w.nodes }; spelled = took_config (before ++ w.more) w.nodes (both before w.more k w.proper) run_so }

-- a configuration by the grammar alone begins with them and the token
begun_text : (before : List Lexeme) (t : Lexeme) (state next : List Node × Stand) → AreTokens (before ++ t ∷ []) → reach true [] Begin before ≡ Ok state → step false state.0 state.1 t ≡ Ok next → BeginsText (before ++ t ∷ [])
begun_text before t state next k r s =
    let w = way next.0 next.1 in
    let group : (before ++ t ∷ []) ++ w.more ≡ before ++ t ∷ w.more = append_assoc before (t ∷ []) w.more in
    let run_so : run false [] Begin (before ++ t ∷ w.more) ≡ Ok w.nodes = run_reach false [] Begin before (t ∷ w.more) ∙ rw (reach_loose [] Begin before state r, s) w.taken in
    let x = took_text ((before ++ t ∷ []) ++ w.more) w.nodes (both (before ++ t ∷ []) w.more k w.proper) (ap (run false [] Begin) group ∙ run_so) in
    record { more = w.more; text = x.0; tokens = x.1; grammar = x.2 }

cause_by : (w : ConfigWhy) (before : List Lexeme) (t : Lexeme) (state : List Node × Stand) → AreTokens (before ++ t ∷ []) → IsToken t → reach true [] Begin before ≡ Ok state → Causes t w (step false state.0 state.1 t) → IsCause before t w
cause_by causes.Syntax before t state k q r c = λ b. no_ok false before b.more t state causes.Syntax (map node_of b.text.nodes) (reach_loose [] Begin before state r) c (text_taken ((before ++ t ∷ []) ++ b.more) b.text b.tokens b.grammar)
cause_by causes.TooMany before t state k q r c = (begun_text before t state c.0 k r c.1.0, is_word (codes "node") t q refl c.1.1)
cause_by causes.Name before t state k q r c = (begun_text before t state c.0 k r c.1.0, (c.1.1.0, λ n. (let e : true ≡ false = sym (name_tested (content t) n) ∙ c.1.1.1 in absurd cc)))
cause_by causes.DoubleNode before t state k q r c = (begun_text before t state c.0 k r c.1.0, (c.1.1.0, tested_name (content t) c.1.1.1))
cause_by causes.TooLong before t state k q r c = c
cause_by causes.Token before t state k q r c = c
cause_by causes.NoDefault before t state k q r c = c

pub stops_first : (ts : List Lexeme) (at : ℕ) (w : ConfigWhy) → AreTokens ts → text_at ts ≡ Err (refusal.At at w) → StopsAt ts at w
stops_first ts at w k h =
    let s = stops true [] Begin ts at w (machine_reads ts ∙ h) in
    let all : AreTokens (s.before ++ s.token ∷ s.rest) = subst AreTokens s.tokens k in
    let t = (rest s.before (s.token ∷ s.rest) all).0 in
    let before = front s.before (s.token ∷ s.rest) all in
    record {
      before = s.before;
      token = s.token;
      behind = s.rest;
      tokens = s.tokens;
      begun = begun s.before s.state before s.reached;
      stuck = λ b. no_ok true s.before b.more s.token s.state w b.config.nodes s.reached s.refused (config_taken ((s.before ++ s.token ∷ []) ++ b.more) b.config b.spelled);
      place = s.place;
      cause = cause_by w s.before s.token s.state (both s.before (s.token ∷ []) before (t, tt)) t s.reached (step_refused s.state.0 s.state.1 s.token w s.refused);
    }

-- ---- all tokens

open_by : (ts : List Lexeme) (end : Ending) → ((config : Config) → Spells ts config → ⊥) → IsOpen ts end
open_by ts (ends.Text at) h = h
open_by ts (ends.NoToken at) h = tt
open_by ts (ends.Limit at) h = tt

pub breaks_off : (ts : List Lexeme) (end : Ending) → AreTokens ts → text_at ts ≡ Err refusal.AtEnd → BreaksOff ts end (place_of end) (end_why end)
breaks_off ts end k h =
    let r = reaches true [] Begin ts (machine_reads ts ∙ h) in
    record {
      begun = begun ts r.state k r.reached;
      unfinished = open_by ts end (λ config s. (let e : (let v : Run = Err refusal.AtEnd in v) ≡ Ok config.nodes = sym (machine_reads ts ∙ h) ∙ config_taken ts config s in absurd cc));
      place = refl;
      cause = refl;
    }

pub read_config : (ts : List Lexeme) (nodes : List Node) → AreTokens ts → text_at ts ≡ Ok nodes → Spells ts (record { nodes = nodes })
read_config ts nodes k h = took_config ts nodes k (machine_reads ts ∙ h)

pub spelled_config : (ts : List Lexeme) (config : Config) → Spells ts config → text_at ts ≡ Ok config.nodes
spelled_config ts config s = sym (machine_reads ts) ∙ config_taken ts config s

whole_begins : (ts : List Lexeme) (config : Config) → Spells ts config → Begins ts
whole_begins ts config s = record { more = []; config = config; spelled = subst (λ (us : List Lexeme). Spells us config) (sym (append-nil ts)) s }

-- ---- whole texts

err_is : {A E : Type 0} → (x y : E) → (let r : Result A E = Err x in r) ≡ Err y → x ≡ y
err_is x y h = cc

pub ok_is : {A E : Type 0} → (x y : A) → (let r : Result A E = Ok x in r) ≡ Ok y → x ≡ y
ok_is x y h = cc

abbrev FirstOf : List Lexeme → Ending → Fault → Type 0
FirstOf ts end f = IsFirst (record { lexemes = ts; end = end }) f.at f.why

lacks_default : (ts : List Lexeme) (at : ℕ) (nodes : List Node) (f : Fault) (b : Bool) → Spells ts (record { nodes = nodes }) → list_any is_default nodes ≡ b → (let r : Result Config Fault = if b then Ok (record { nodes = nodes }) else Err (record { at = at; why = causes.NoDefault }) in r) ≡ Err f → FirstOf ts (ends.Text at) f
lacks_default ts at nodes f true s e h = absurd cc
lacks_default ts at nodes f false s e h =
    subst (FirstOf ts (ends.Text at)) (err_is (record { at = at; why = causes.NoDefault }) f h)
    (inr (inr (record { config = record { nodes = nodes }; spelled = s; none = e; whole = refl; cause = refl })))

ended_first : (ts : List Lexeme) (end : Ending) (nodes : List Node) (f : Fault) → Spells ts (record { nodes = nodes }) → ended nodes end ≡ Err f → FirstOf ts end f
ended_first ts (ends.Text at) nodes f s h = lacks_default ts at nodes f (list_any is_default nodes) s refl h
ended_first ts (ends.NoToken at) nodes f s h =
    subst (FirstOf ts (ends.NoToken at)) (err_is (record { at = at; why = causes.Token }) f h)
    (inr (inl (record { begun = whole_begins ts (record { nodes = nodes }) s; unfinished = tt; place = refl; cause = refl })))
ended_first ts (ends.Limit at) nodes f s h =
    subst (FirstOf ts (ends.Limit at)) (err_is (record { at = at; why = causes.TooLong }) f h)
    (inr (inl (record { begun = whole_begins ts (record { nodes = nodes }) s; unfinished = tt; place = refl; cause = refl })))

settled_first : (ts : List Lexeme) (end : Ending) (v : Result (List Node) (Refusal ConfigWhy)) (f : Fault) → AreTokens ts → text_at ts ≡ v → settled v end ≡ Err f → FirstOf ts end f
settled_first ts end (Ok nodes) f k e h = ended_first ts end nodes f (read_config ts nodes k e) h
settled_first ts end (Err (refusal.At at w)) f k e h = subst (FirstOf ts end) (err_is (record { at = at; why = w }) f h) (inl (stops_first ts at w k e))
settled_first ts end (Err refusal.AtEnd) f k e h = subst (FirstOf ts end) (err_is (record { at = place_of end; why = end_why end }) f h) (inr (inl (breaks_off ts end k e)))

-- the end of the text behind a configuration
record Whole (ts : List Lexeme) (end : Ending) (config : Config) : Type 0 where
  at : ℕ
  ends : end ≡ ends.Text at
  spelled : Spells ts config
  default : has_default config ≡ true

whole_by : (ts : List Lexeme) (at : ℕ) (nodes : List Node) (config : Config) (b : Bool) → Spells ts (record { nodes = nodes }) → list_any is_default nodes ≡ b → (let r : Result Config Fault = if b then Ok (record { nodes = nodes }) else Err (record { at = at; why = causes.NoDefault }) in r) ≡ Ok config → Whole ts (ends.Text at) config
whole_by ts at nodes config true s e h = subst (Whole ts (ends.Text at)) (ok_is (record { nodes = nodes }) config h) (record { at = at; ends = refl; spelled = s; default = e })
whole_by ts at nodes config false s e h = absurd cc

ended_whole : (ts : List Lexeme) (end : Ending) (nodes : List Node) (config : Config) → Spells ts (record { nodes = nodes }) → ended nodes end ≡ Ok config → Whole ts end config
ended_whole ts (ends.Text at) nodes config s h = whole_by ts at nodes config (list_any is_default nodes) s refl h
ended_whole ts (ends.NoToken at) nodes config s h = absurd cc
ended_whole ts (ends.Limit at) nodes config s h = absurd cc

settled_whole : (ts : List Lexeme) (end : Ending) (v : Result (List Node) (Refusal ConfigWhy)) (config : Config) → AreTokens ts → text_at ts ≡ v → settled v end ≡ Ok config → Whole ts end config
settled_whole ts end (Ok nodes) config k e h = ended_whole ts end nodes config (read_config ts nodes k e) h
settled_whole ts end (Err r) config k e h = absurd cc

-- ---- bytes

tokens_of : (bytes : List ℕ) → AreTokens (limited_text Inner bytes).lexemes
unfolding limited_text
tokens_of bytes = lexemes_quoted Inner (take 1_048_576 bytes)

end_by : (limit len at : ℕ) (bad : Option ℕ) (b : Bool) → nat_lt limit len ≡ b → end_of limit len bad ≡ ends.Text at → at ≡ len
end_by limit len at (Some bad) b e h = absurd cc
end_by limit len at None true e h = absurd (let k : ends.Limit limit ≡ ends.Text at = rw e at h in cc)
end_by limit len at None false e h = let k : ends.Text len ≡ ends.Text at = rw e at h in cc

end_is : (bytes : List ℕ) (at : ℕ) → (limited_text Inner bytes).end ≡ ends.Text at → at ≡ length bytes
unfolding limited_text
end_is bytes at h = end_by 1_048_576 (length bytes) at _ (nat_lt 1_048_576 (length bytes)) refl h

pub spelled : (bytes : List ℕ) (config : Config) → config_of bytes ≡ Ok config → IsSpelled bytes config
unfolding config_of
spelled bytes config h =
    let w = settled_whole (limited_text Inner bytes).lexemes (limited_text Inner bytes).end (text_at (limited_text Inner bytes).lexemes) config (tokens_of bytes) refl h in
    record { whole = w.ends ∙ ap ends.Text (end_is bytes w.at w.ends); tokens = w.spelled; default = w.default }

pub first_fault : (bytes : List ℕ) (at : ℕ) (w : ConfigWhy) → config_of bytes ≡ Err (record { at = at; why = w }) → IsFirstFault bytes at w
unfolding config_of
first_fault bytes at w h = settled_first (limited_text Inner bytes).lexemes (limited_text Inner bytes).end (text_at (limited_text Inner bytes).lexemes) (record { at = at; why = w }) (tokens_of bytes) refl h

pub read_so : (bytes : List ℕ) (config : Config) → IsSpelled bytes config → config_of bytes ≡ Ok config
unfolding config_of
read_so bytes config s =
    ap (λ v. settled v (limited_text Inner bytes).end) (spelled_config (limited_text Inner bytes).lexemes config s.tokens)
    ∙ (ap (ended config.nodes) s.whole ∙ rw s.default refl)

pub answers_so : (bytes : List ℕ) (r : Result Config ConfigFault) → Answers r (config_of bytes) → IfOk r (λ config. IsSpelled bytes config) × IfErr r (λ e. Refuses e bytes)
answers_so bytes (Ok config) h = (spelled bytes config h, tt)
answers_so bytes (Err fault.Memory) h = (tt, tt)
answers_so bytes (Err (fault.Bad at w)) h = (tt, first_fault bytes at w h)
