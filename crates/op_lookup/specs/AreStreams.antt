-- Lookup wants the reference until it has ended, and then the main input.
use Rattle.std.specs.Prelude.{ℕ, List, length}
use Rattle.streams.specs.Streams.{IsStream}
use Rattle.streams.proofs.Collectors.{lookup_is}
use Rattle.ds_schema.specs.Rows.{val, sub}
use Rattle.op_base.specs.declared.missing.Missing.{Missing}
use Rattle.op_lookup.specs.Looked.{looking, looked, looked_stream}

pub looked_is : (main reference : List ℕ) (width : ℕ) (missing : Missing) → IsStream (looked_stream main reference width missing)
looked_is main reference width missing = lookup_is (λ a rows. looked (looking (length a) main reference width missing) a (sub reference (val main a) rows))
