-- Expressions, and columns that are set by them: what is kept is spelled, and what is spelled is kept.
use Rattle.std.proofs.Common.{◌≡◌, ◌+◌, ℕ, List, [], ◌∷◌, Result, Ok, Err, Option, Some, None, drop, refl, sym, ap, ◌∙◌, subst}
use Rattle.std.specs.Prelude.{if◌then◌else◌, codes}
use Rattle.std.specs.Result.{is_ok}
use Rattle.std.specs.Str.{bytes_eq}
use Rattle.ds_lex.specs.declared.token.Mode.TheVariants.{Inner}
use Rattle.ds_lex.specs.declared.refusal.Refusal.{Refusal}
use Rattle.ds_lex.specs.Lexemes.{Lexeme, lexed_text}
use Rattle.ds_lex.specs.Reading.{expect_at}
use Rattle.ds_lex.specs.Phrases.{◌~◌}
use Rattle.ds_lex.proofs.Readers.{bind_ok, read_holds, said, expect_reads, expect_read, lacks_other}
use Rattle.ds_schema.specs.declared.schema.Field.{Field}
use Rattle.ds_schema.specs.declared.schema_text.fault.SchemaWhy.{SchemaWhy}
use Rattle.ds_schema.specs.declared.schema_text.fault.SchemaWhy.TheVariants as schema_why
use Rattle.ds_schema.specs.Schemas.{IsField}
use Rattle.ds_schema.specs.SchemaGrammar.{field_phrase}
use Rattle.ds_schema.specs.SchemaReading.{field_at}
use Rattle.ds_schema.proofs.FieldReaders.{field_form, field_reads, field_read}
use Rattle.ds_schema.proofs.ListReaders.{ok_parts}
use Rattle.expr_read.specs.declared.tree.Expr.{Expr}
use Rattle.expr_read.specs.Reading.{expr_of}
use Rattle.expr_read.proofs.Wholes.{read_is_spelled, spelled_is_read}
use Rattle.flow_graph.specs.declared.op_kind.SetSpec.{SetSpec}
use Rattle.osh_value.specs.Values.{kept_expression, spanned, target_at, set_to, set_by, set_value}
use Rattle.osh_value.specs.ValueGrammar.{SpellsExpression, SpellsSet, sign}

some_is : {A : Type 0} (x y : A) → (let o : Option A = Some x in o) ≡ Some y → x ≡ y
some_is x y h = cc

-- ---- expressions

kept_by : (text kept : List ℕ) (r : Result Expr ℕ) → expr_of text ≡ r → (let o : Option (List ℕ) = if is_ok r then Some (spanned text (lexed_text Inner text).lexemes) else None in o) ≡ Some kept → SpellsExpression text kept
kept_by text kept (Ok e) h k = (e, read_is_spelled text e h, sym (some_is (spanned text (lexed_text Inner text).lexemes) kept k))
kept_by text kept (Err at) h k = absurd cc

pub expression_taken : (text kept : List ℕ) → kept_expression text ≡ Some kept → SpellsExpression text kept
unfolding kept_expression
expression_taken text kept h = kept_by text kept (expr_of text) refl h

pub expression_read : (text kept : List ℕ) → SpellsExpression text kept → kept_expression text ≡ Some kept
unfolding kept_expression
expression_read text kept h = rw (spelled_is_read text h.0 h.1, h.2) refl

-- ---- columns that are set

target_taken : (f : Field) (at : ℕ) (ts us : List Lexeme) → target_at ts ≡ Ok ((f, at), us) → IsField f × (field_phrase f ~ sign at (codes "=")) ts us
unfolding target_at
target_taken f at ts us h =
    let a = bind_ok (field_at [] ts) _ ((f, at), us) h in
    let b = bind_ok (expect_at (codes "=") schema_why.Syntax a.0.1) _ ((f, at), us) a.2 in
    let k = ok_parts ((a.0.0, b.0.0.at), b.0.1) ((f, at), us) b.2 in
    let field = read_holds (field_form []) (field_at []) (field_reads []) ts a.0.1 a.0.0 a.1 in
    let is = read_holds (said (codes "=")) (expect_at (codes "=") schema_why.Syntax) (expect_reads (codes "=") schema_why.Syntax) a.0.1 b.0.1 b.0.0 b.1 in
    let same : a.0.0 ≡ f = ap (λ (x : Field × ℕ). x.0) k.0 in
    let place : b.0.0.at ≡ at = ap (λ (x : Field × ℕ). x.1) k.0 in
    let equals : sign at (codes "=") a.0.1 us = subst (λ (vs : List Lexeme). sign at (codes "=") vs us) (sym is.1) (place, is.0, k.1) in
    subst (λ (g : Field). IsField g × (field_phrase g ~ sign at (codes "=")) ts us) same (field.0, (a.0.1, field.2, equals))

target_by : (f : Field) (at : ℕ) (ts mid us : List Lexeme) → IsField f → field_phrase f ts mid → sign at (codes "=") mid us → target_at ts ≡ Ok ((f, at), us)
unfolding target_at
target_by f at ts [] us i h e = absurd e
target_by f at ts (t ∷ mid) us i h e =
    let read = field_read [] f ts (t ∷ mid) (i, refl, h) (lacks_other (codes "[") t mid (ap (λ b. bytes_eq b (codes "[")) e.1)) in
    let is = expect_read (codes "=") schema_why.Syntax t (t ∷ mid) mid (e.1, refl) tt in
    rw (read, is, e.0, e.2) refl

kept_to : (text : List ℕ) (f : Field) (at : ℕ) (us : List Lexeme) (s : SetSpec) (o : Option (List ℕ)) → kept_expression (drop (at + 1) text) ≡ o → IsField f × (field_phrase f ~ sign at (codes "=")) (lexed_text Inner text).lexemes us → set_to f o ≡ Some s → SpellsSet text s
kept_to text f at us s None e h k = absurd cc
kept_to text f at us s (Some expr) e h k =
    let made : SpellsSet text (record { field = f; expr = expr }) = record { field = h.0; at = at; behind = us; front = h.1; expr = expression_taken (drop (at + 1) text) expr e } in
    subst (SpellsSet text) (some_is (record { field = f; expr = expr }) s k) made

set_from : (text : List ℕ) (s : SetSpec) (r : Result ((Field × ℕ) × List Lexeme) (Refusal SchemaWhy)) → target_at (lexed_text Inner text).lexemes ≡ r → set_by text r ≡ Some s → SpellsSet text s
set_from text s (Ok x) e h = kept_to text x.0.0 x.0.1 x.1 s (kept_expression (drop (x.0.1 + 1) text)) refl (target_taken x.0.0 x.0.1 (lexed_text Inner text).lexemes x.1 e) h
set_from text s (Err d) e h = absurd cc

pub set_taken : (text : List ℕ) (s : SetSpec) → set_value text ≡ Some s → SpellsSet text s
unfolding set_value
set_taken text s h = set_from text s (target_at (lexed_text Inner text).lexemes) refl h

pub set_read : (text : List ℕ) (s : SetSpec) → SpellsSet text s → set_value text ≡ Some s
unfolding set_value
set_read text s h =
    let target = target_by s.field h.at (lexed_text Inner text).lexemes h.front.0 h.behind h.field h.front.1 h.front.2 in
    ap (set_by text) target ∙ ap (set_to s.field) (expression_read (drop (h.at + 1) text) s.expr h.expr)
