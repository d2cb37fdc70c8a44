-- The first fault of a text is what is answered for it, and there is one at most.
use Rattle.std.specs.Prelude.{◌≡◌, ℕ, List, Err}
use Rattle.ds_schema.specs.declared.schema.Field.{Field}
use Rattle.ds_schema.specs.declared.schema_text.fault.SchemaWhy.{SchemaWhy}
use Rattle.ds_schema.specs.declared.schema_text.fault.SchemaFault.TheVariants.{BadSchema}
use Rattle.ds_schema.specs.SchemaReading.{schema_of}
use Rattle.ds_schema.specs.SchemaLaws.{SpellsText}
use Rattle.schema_faults.specs.Causes.{IsFirstFault}

abbrev pub RefusedAtFirst : Type 0
RefusedAtFirst = (text : List ℕ) (at : ℕ) (why : SchemaWhy) → schema_of text ≡ Err (BadSchema at why) → IsFirstFault text at why

abbrev pub FaultIsAnswered : Type 0
FaultIsAnswered = (text : List ℕ) (at : ℕ) (why : SchemaWhy) → IsFirstFault text at why → schema_of text ≡ Err (BadSchema at why)

abbrev pub FaultyIsNone : Type 0
FaultyIsNone = (text : List ℕ) (at : ℕ) (why : SchemaWhy) (fields : List Field) → IsFirstFault text at why → SpellsText text fields → ⊥

abbrev pub OneFirstFault : Type 0
OneFirstFault = (text : List ℕ) (at other : ℕ) (why cause : SchemaWhy) → IsFirstFault text at why → IsFirstFault text other cause → (at ≡ other) × (why ≡ cause)
