use Rattle.std.proofs.Common.{◌≡◌, rules, arith, refl}
use Rattle.std.specs.Prelude.{codes}
use Rattle.std.proofs.lemmas.Slice.Eq.{text_from_reads}
use Rattle.ds_schema.proofs.schema_text.kinds.plain_kind.Goals as goal

pub returns-in-uint16 : goal.returns-in-uint16
returns-in-uint16 c = let word : c.args.word.now ≡ codes "uint16" = text_from_reads c.args.word.now (codes "uint16") (omega arith) (search rules) in rw word refl

pub returns-in-uint32 : goal.returns-in-uint32
returns-in-uint32 c = let word : c.args.word.now ≡ codes "uint32" = text_from_reads c.args.word.now (codes "uint32") (omega arith) (search rules) in rw word refl

pub returns-in-uint64 : goal.returns-in-uint64
returns-in-uint64 c = let word : c.args.word.now ≡ codes "uint64" = text_from_reads c.args.word.now (codes "uint64") (omega arith) (search rules) in rw word refl
