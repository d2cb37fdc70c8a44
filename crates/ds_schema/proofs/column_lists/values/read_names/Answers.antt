use Rattle.std.proofs.Common.{◌≡◌, ◌∙◌, ap, None}
use Rattle.ds_lex.specs.declared.token.Mode.TheVariants.{Inner}
use Rattle.ds_lex.specs.Lexemes.{LexedText, lexed_text}
use Rattle.ds_schema.specs.ColumnReading.{all_names}
use Rattle.ds_schema.proofs.ColumnLists.{names_found}
use Rattle.ds_schema.proofs.column_lists.values.read_names.Goals as goal

pub returns-in-None : goal.returns-in-None
returns-in-None c =
    let lexed = c.in_ok-lexemes.ensures in
    let bad = ap (λ (t : LexedText). t.bad) lexed in
    let none = c.in-None.is in
    let same = c.in_ok-lexemes.bad-is in
    let whole : (lexed_text Inner c.args.bytes.now).bad ≡ None = cc in
    let read = rw c.as_slice.ensures.value at c.in_ok-names-in-None.ensures in
    names_found c.args.bytes.now c.in_ok-names-in-None.names whole (read ∙ ap (λ (t : LexedText). all_names t.lexemes) lexed)
