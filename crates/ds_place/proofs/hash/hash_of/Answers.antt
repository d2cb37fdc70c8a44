use Rattle.std.proofs.Common.{◌≡◌, ◌∙◌, ◌<◌, ℕ, ap, ap₂, sym, length, get_or}
use Rattle.std.proofs.lemmas.List.{take_all, get_or_read}
use Rattle.std.proofs.lemmas.List.Elements.{All-get_or}
use Rattle.std.specs.List.{flat_map}
use Rattle.ds_value.specs.declared.value.Value.TheVariants.{Null}
use Rattle.ds_value.specs.Canonical.{canonical_bytes}
use Rattle.ds_schema.specs.Rows.{at, val, InWidth}
use Rattle.ds_place.specs.Places.{hash_on}
use Rattle.ds_place.proofs.Hashes.{column_more, fnv-is}
use Rattle.ds_place.proofs.hash.hash_of.Goals as goal

pub loop-column-preserved : goal.loop-column-preserved
loop-column-preserved c =
    let column : ℕ = get_or c.args.columns.now c.loop-column.column-index 0 in
    let within : column < length c.args.row.now = All-get_or (InWidth c.args.row.now) c.args.columns.now c.loop-column.column-index 0 c.loop-column-test.true c.requires.columns in
    let read : c.index-values-column.result ≡ at c.args.row.now column = get_or_read _ column _ (rw (c.as_slice-values.ensures) within) c.index-values-column.is Null ∙ ap (λ row. at row column) c.as_slice-values.ensures in
    c.with_value-hash.ensures ∙ ap₂ (λ h v. hash_on h (canonical_bytes v)) c.loop-column.invariant read
    ∙ sym (column_more 0xcbf29ce484222325 c.args.row.now c.args.columns.now c.loop-column.column-index 0 c.loop-column-test.true)

pub returns : goal.returns
returns c = c.loop-column.invariant ∙ ap (λ columns. hash_on 0xcbf29ce484222325 (flat_map canonical_bytes (val columns c.args.row.now))) (take_all _ _ c.loop-column-test.false) ∙ sym (fnv-is _)
