-- Bytes spell one configuration, or have one first fault.
use Rattle.std.specs.Prelude.{◌≡◌, ℕ, List}
use Rattle.config_read.specs.declared.fault.ConfigWhy.{ConfigWhy}
use Rattle.config_read.specs.declared.config.Config.{Config}
use Rattle.config_read.specs.First.{IsSpelled, IsFirstFault}

abbrev pub OneConfiguration : Type 0
OneConfiguration = (bytes : List ℕ) (config other : Config) → IsSpelled bytes config → IsSpelled bytes other → config ≡ other

abbrev pub FaultyIsNone : Type 0
FaultyIsNone = (bytes : List ℕ) (at : ℕ) (why : ConfigWhy) (config : Config) → IsFirstFault bytes at why → IsSpelled bytes config → ⊥

abbrev pub OneFirstFault : Type 0
OneFirstFault = (bytes : List ℕ) (at place : ℕ) (why cause : ConfigWhy) → IsFirstFault bytes at why → IsFirstFault bytes place cause → (at ≡ place) × (why ≡ cause)
