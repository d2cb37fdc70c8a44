-- A printed set is read back.
use Rattle.std.proofs.Common.{◌≡◌, ◌+◌, ℕ, List, [], ◌∷◌, ◌++◌, length, drop, Some, Ok, refl, sym, ap, ◌∙◌, subst, append_assoc, arith, length-append}
use Rattle.std.specs.Prelude.{codes}
use Rattle.std.proofs.Math.Seq.{drop-append_seam}
use Rattle.ds_lex.specs.declared.token.Mode.TheVariants.{Inner}
use Rattle.ds_lex.specs.declared.token.Sort.TheVariants as sort
use Rattle.ds_lex.specs.Lexemes.{Lexeme}
use Rattle.ds_lex.specs.Reading.{expect_at}
use Rattle.ds_lex.proofs.Printed.{Lexes, lexes_token, lexes_gap}
use Rattle.ds_lex.proofs.Readers.{lacks_other}
use Rattle.ds_schema.specs.declared.schema.Field.{Field}
use Rattle.ds_schema.specs.Schemas.{IsField}
use Rattle.ds_schema.specs.SchemaGrammar.{field_phrase}
use Rattle.ds_schema.proofs.FieldReaders.{field_read}
use Rattle.flow_graph.specs.declared.op_kind.SetSpec.{SetSpec}
use Rattle.osh_value.specs.Values.{kept_expression, target_at, set_by, set_to, set_value}
use Rattle.osh_print.specs.OptionText.{set_text}
use Rattle.osh_sound.specs.ValueLaws.{IsExpression, IsSet}
use Rattle.osh_sound.proofs.ExpressionsBack.{kept_behind, lexes_expression}
use Rattle.osh_sound.proofs.FieldsPrinted.{core_text, blank_behind, field_prints}

-- the column of a set, with the blank behind it
abbrev front_text : Field → List ℕ
front_text f = core_text f ++ codes " "

abbrev equals_token : List ℕ → Lexeme
equals_token front = record { at = length front; sort = sort.Sign; bytes = codes "=" }

set_split : (s : SetSpec) → set_text s ≡ core_text s.field ++ (codes " = " ++ s.expr)
set_split s = simp append_assoc

-- behind the column stand `=`, a blank and the expression
equals_lexed : (front expr : List ℕ) → IsExpression expr → (us : List Lexeme) × Lexes Inner front (codes "= " ++ expr) (equals_token front ∷ us)
equals_lexed front expr h =
    let e = lexes_expression ((front ++ codes "=") ++ codes " ") expr h in
    (e.0, lexes_token Inner sort.Sign front (codes "=") (codes " " ++ expr) e.0 (omega arith) refl (lexes_gap Inner (front ++ codes "=") expr 32 e.0 refl e.1))

target_reads : (f : Field) (front : List ℕ) (ts us : List Lexeme) → IsField f → field_phrase f ts (equals_token front ∷ us) → target_at ts ≡ Ok ((f, length front), us)
unfolding target_at expect_at
target_reads f front ts us i h =
    let read = field_read [] f ts (equals_token front ∷ us) (i, refl, h) (lacks_other (codes "[") (equals_token front) us refl) in
    rw read refl

pub set_back : (s : SetSpec) → IsSet s → set_value (set_text s) ≡ Some s
unfolding set_value
set_back s h =
    let front = front_text s.field in
    let behind = equals_lexed front s.expr h.1 in
    let blank = lexes_gap Inner (core_text s.field) (codes "= " ++ s.expr) 32 (equals_token front ∷ behind.0) refl behind.1 in
    let all = field_prints s.field h.0 [] (32 ∷ (codes "= " ++ s.expr)) (equals_token front ∷ behind.0) (blank_behind (codes "= " ++ s.expr)) blank in
    let l : Lexes Inner [] (set_text s) all.0 = subst (λ (xs : List ℕ). Lexes Inner [] xs all.0) (sym (set_split s)) all.1 in
    let read = target_reads s.field front all.0 behind.0 h.0 all.2 in
    let place : length front + 1 ≡ length (front ++ codes "=") = sym (length-append front (codes "=")) in
    let cut : set_text s ≡ (front ++ codes "=") ++ (32 ∷ s.expr) = set_split s ∙ simp append_assoc in
    let rest : drop (length front + 1) (set_text s) ≡ 32 ∷ s.expr = ap (λ n. drop n (set_text s)) place ∙ (ap (drop (length (front ++ codes "="))) cut ∙ drop-append_seam (front ++ codes "=") (32 ∷ s.expr)) in
    ap (λ (ts : List Lexeme). set_by (set_text s) (target_at ts)) l.tokens
    ∙ (ap (set_by (set_text s)) read
    ∙ (ap (λ (xs : List ℕ). set_to s.field (kept_expression xs)) rest ∙ ap (set_to s.field) (kept_behind s.expr h.1)))
