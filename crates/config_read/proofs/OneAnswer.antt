-- Bytes spell one configuration, or have one first fault.
use Rattle.std.proofs.Common.{◌≡◌, ℕ, List, [], ◌∷◌, ◌++◌, true, false, refl, sym, ap, subst, inl, inr, ◌∙◌, append_assoc}
use Rattle.std.proofs.lemmas.List.{append-nil}
use Rattle.ds_lex.specs.declared.token.Mode.TheVariants.{Inner}
use Rattle.ds_lex.specs.declared.lexeme.End.{End as Ending}
use Rattle.ds_lex.specs.declared.lexeme.End.TheVariants as ends
use Rattle.ds_lex.specs.Lexemes.{Lexeme, limited_text}
use Rattle.config_read.specs.declared.fault.ConfigWhy.{ConfigWhy}
use Rattle.config_read.specs.declared.fault.ConfigWhy.TheVariants as causes
use Rattle.config_read.specs.declared.config.Node.{Node}
use Rattle.config_read.specs.declared.config.Config.{Config}
use Rattle.config_read.specs.Spelled.{is_quoted, Spells}
use Rattle.config_read.specs.First.{has_default, Begins, BeginsText, IsCause, StopsAt, IsOpen, IsFirst}
use Rattle.config_read.specs.ConfigLaws.{OneConfiguration, FaultyIsNone, OneFirstFault}
use Rattle.config_read.proofs.Exact.{ok_is, read_so, spelled_config}
use Rattle.config_read.proofs.Giving.{ok_is as nodes_is}

-- ---- configurations

pub one_configuration : OneConfiguration
one_configuration bytes config other h k = ok_is config other (sym (read_so bytes config h) ∙ read_so bytes other k)

same_nodes : (ts : List Lexeme) (config other : Config) → Spells ts config → Spells ts other → config ≡ other
same_nodes ts config other h k =
    let e : config.nodes ≡ other.nodes = nodes_is config.nodes other.nodes (sym (spelled_config ts config h) ∙ spelled_config ts other k) in
    ap (λ (ns : List Node). let c : Config = record { nodes = ns } in c) e

-- ---- what a configuration begins with

begins_front : (a b : List Lexeme) → Begins (a ++ b) → Begins a
begins_front a b h = record { more = b ++ h.more; config = h.config; spelled = subst (λ (ts : List Lexeme). Spells ts h.config) (append_assoc a b h.more) h.spelled }

begins_whole : (ts : List Lexeme) (config : Config) → Spells ts config → Begins ts
begins_whole ts config s = record { more = []; config = config; spelled = subst (λ (us : List Lexeme). Spells us config) (sym (append-nil ts)) s }

-- tokens with which no configuration goes on begin none
stuck_none : (ts : List Lexeme) (at : ℕ) (w : ConfigWhy) → StopsAt ts at w → Begins ts → ⊥
stuck_none ts at w s b =
    let group : ts ≡ (s.before ++ s.token ∷ []) ++ s.behind = s.tokens ∙ sym (append_assoc s.before (s.token ∷ []) s.behind) in
    s.stuck (begins_front (s.before ++ s.token ∷ []) s.behind (subst Begins group b))

open_none : (ts : List Lexeme) (end : Ending) (at : ℕ) (config : Config) → IsOpen ts end → end ≡ ends.Text at → Spells ts config → ⊥
open_none ts end at config o e s = let P : Ending → Type 0 = λ x. IsOpen ts x in (subst P e o) config s

spells_none : (ts : List Lexeme) (end : Ending) (at len : ℕ) (w : ConfigWhy) (config : Config) → IsFirst (record { lexemes = ts; end = end }) at w → end ≡ ends.Text len → has_default config ≡ true → Spells ts config → ⊥
spells_none ts end at len w config f e d s =
    elim f [
      | inl a ↦ stuck_none ts at w a (begins_whole ts config s)
      | inr f ↦ elim f [
        | inl b ↦ open_none ts end len config b.unfinished e s
        | inr l ↦ (let k : true ≡ false = sym d ∙ (ap has_default (same_nodes ts config l.config s l.spelled) ∙ l.none) in absurd cc)
      ]
    ]

pub faulty_is_none : FaultyIsNone
faulty_is_none bytes at w config f s = spells_none (limited_text Inner bytes).lexemes (limited_text Inner bytes).end at _ w config f s.whole s.default s.tokens

-- ---- first faults

-- where two tokens stand in the same list: at one place, or the one before the other
data Sides (a : List Lexeme) (t : Lexeme) (b : List Lexeme) (u : Lexeme) : Type 0 where
  Same : a ≡ b → t ≡ u → Sides a t b u
  Before : (x : List Lexeme) → b ≡ (a ++ t ∷ []) ++ x → Sides a t b u
  Behind : (x : List Lexeme) → a ≡ (b ++ u ∷ []) ++ x → Sides a t b u

heads : (t u : Lexeme) (xs ys : List Lexeme) → t ∷ xs ≡ u ∷ ys → (t ≡ u) × (xs ≡ ys)
heads t u xs ys h = (cc, cc)

further : (v : Lexeme) (a : List Lexeme) (t : Lexeme) (b : List Lexeme) (u : Lexeme) → Sides a t b u → Sides (v ∷ a) t (v ∷ b) u
further v a t b u (Same e f) = Same (ap (λ (xs : List Lexeme). v ∷ xs) e) f
further v a t b u (Before x e) = Before x (ap (λ (xs : List Lexeme). v ∷ xs) e)
further v a t b u (Behind x e) = Behind x (ap (λ (xs : List Lexeme). v ∷ xs) e)

sides : (a : List Lexeme) (t : Lexeme) (xs b : List Lexeme) (u : Lexeme) (ys : List Lexeme) → a ++ t ∷ xs ≡ b ++ u ∷ ys → Sides a t b u
sides [] t xs [] u ys h = Same refl (heads t u xs ys h).0
sides [] t xs (v ∷ b) u ys h = Before b (ap (λ (w : Lexeme). w ∷ b) (sym (heads t v xs (b ++ u ∷ ys) h).0))
sides (v ∷ a) t xs [] u ys h = Behind a (ap (λ (w : Lexeme). w ∷ a) (heads v u (a ++ t ∷ xs) ys h).0)
sides (v ∷ a) t xs (w ∷ b) u ys h =
    let k = heads v w (a ++ t ∷ xs) (b ++ u ∷ ys) h in
    subst (λ (y : Lexeme). Sides (v ∷ a) t (y ∷ b) u) k.0 (further v a t b u (sides a t xs b u ys k.1))

-- a token has one cause
abbrev Positive : List Lexeme → Lexeme → Type 0
Positive before t = BeginsText (before ++ t ∷ [])

node_quoted : (t : Lexeme) → is_quoted t ≡ false → is_quoted t ≡ true → ⊥
node_quoted t e f = let k : true ≡ false = sym f ∙ e in absurd cc

one_cause : (before : List Lexeme) (t : Lexeme) (w v : ConfigWhy) → IsCause before t w → IsCause before t v → w ≡ v
one_cause before t causes.TooLong v a b = absurd a
one_cause before t causes.Token v a b = absurd a
one_cause before t causes.NoDefault v a b = absurd a
one_cause before t causes.Syntax causes.TooLong a b = absurd b
one_cause before t causes.Syntax causes.Token a b = absurd b
one_cause before t causes.Syntax causes.NoDefault a b = absurd b
one_cause before t causes.Syntax causes.Syntax a b = refl
one_cause before t causes.Syntax causes.TooMany a b = absurd (a b.0)
one_cause before t causes.Syntax causes.Name a b = absurd (a b.0)
one_cause before t causes.Syntax causes.DoubleNode a b = absurd (a b.0)
one_cause before t causes.TooMany causes.TooLong a b = absurd b
one_cause before t causes.TooMany causes.Token a b = absurd b
one_cause before t causes.TooMany causes.NoDefault a b = absurd b
one_cause before t causes.TooMany causes.Syntax a b = absurd (b a.0)
one_cause before t causes.TooMany causes.TooMany a b = refl
one_cause before t causes.TooMany causes.Name a b = absurd (node_quoted t a.1.plain b.1.0)
one_cause before t causes.TooMany causes.DoubleNode a b = absurd (node_quoted t a.1.plain b.1.0)
one_cause before t causes.Name causes.TooLong a b = absurd b
one_cause before t causes.Name causes.Token a b = absurd b
one_cause before t causes.Name causes.NoDefault a b = absurd b
one_cause before t causes.Name causes.Syntax a b = absurd (b a.0)
one_cause before t causes.Name causes.TooMany a b = absurd (node_quoted t b.1.plain a.1.0)
one_cause before t causes.Name causes.Name a b = refl
one_cause before t causes.Name causes.DoubleNode a b = absurd (a.1.1 b.1.1)
one_cause before t causes.DoubleNode causes.TooLong a b = absurd b
one_cause before t causes.DoubleNode causes.Token a b = absurd b
one_cause before t causes.DoubleNode causes.NoDefault a b = absurd b
one_cause before t causes.DoubleNode causes.Syntax a b = absurd (b a.0)
one_cause before t causes.DoubleNode causes.TooMany a b = absurd (node_quoted t b.1.plain a.1.0)
one_cause before t causes.DoubleNode causes.Name a b = absurd (b.1.1 a.1.1)
one_cause before t causes.DoubleNode causes.DoubleNode a b = refl

-- before a token that can be gone on behind none is stuck
not_before : (ts : List Lexeme) (at : ℕ) (w : ConfigWhy) (s : StopsAt ts at w) (b x : List Lexeme) → b ≡ (s.before ++ s.token ∷ []) ++ x → Begins b → ⊥
not_before ts at w s b x e g = s.stuck (begins_front (s.before ++ s.token ∷ []) x (subst Begins e g))

one_stop_by : (ts : List Lexeme) (at place : ℕ) (w v : ConfigWhy) (s : StopsAt ts at w) (r : StopsAt ts place v) → Sides s.before s.token r.before r.token → (at ≡ place) × (w ≡ v)
one_stop_by ts at place w v s r (Same e f) =
    let c : IsCause r.before r.token w = subst (λ (u : Lexeme). IsCause r.before u w) f (subst (λ (us : List Lexeme). IsCause us s.token w) e s.cause) in
    (s.place ∙ (ap (λ (u : Lexeme). u.at) f ∙ sym r.place), one_cause r.before r.token w v c r.cause)
one_stop_by ts at place w v s r (Before x e) = absurd (not_before ts at w s r.before x e r.begun)
one_stop_by ts at place w v s r (Behind x e) = absurd (not_before ts place v r s.before x e s.begun)

one_stop : (ts : List Lexeme) (at place : ℕ) (w v : ConfigWhy) → StopsAt ts at w → StopsAt ts place v → (at ≡ place) × (w ≡ v)
one_stop ts at place w v s r = one_stop_by ts at place w v s r (sides s.before s.token s.behind r.before r.token r.behind (sym s.tokens ∙ r.tokens))

text_place : (at place : ℕ) → (let e : Ending = ends.Text at in e) ≡ ends.Text place → at ≡ place
text_place at place h = cc

one_first : (ts : List Lexeme) (end : Ending) (at place : ℕ) (w v : ConfigWhy) → IsFirst (record { lexemes = ts; end = end }) at w → IsFirst (record { lexemes = ts; end = end }) place v → (at ≡ place) × (w ≡ v)
one_first ts end at place w v f g =
    elim f [
      | inl s ↦ elim g [
        | inl r ↦ one_stop ts at place w v s r
        | inr g ↦ elim g [
          | inl b ↦ absurd (stuck_none ts at w s b.begun)
          | inr l ↦ absurd (stuck_none ts at w s (begins_whole ts l.config l.spelled))
        ]
      ]
      | inr f ↦ elim f [
        | inl b ↦ elim g [
          | inl r ↦ absurd (stuck_none ts place v r b.begun)
          | inr g ↦ elim g [
            | inl c ↦ (b.place ∙ sym c.place, b.cause ∙ sym c.cause)
            | inr l ↦ absurd (open_none ts end place l.config b.unfinished l.whole l.spelled)
          ]
        ]
        | inr k ↦ elim g [
          | inl r ↦ absurd (stuck_none ts place v r (begins_whole ts k.config k.spelled))
          | inr g ↦ elim g [
            | inl c ↦ absurd (open_none ts end at k.config c.unfinished k.whole k.spelled)
            | inr l ↦ (text_place at place (sym k.whole ∙ l.whole), k.cause ∙ sym l.cause)
          ]
        ]
      ]
    ]

pub one_first_fault : OneFirstFault
one_first_fault bytes at place w v f g = one_first (limited_text Inner bytes).lexemes (limited_text Inner bytes).end at place w v f g
