-- What the status alone decides of out and err, whatever files hold.
use Rattle.std.specs.Prelude.{◌≡◌, ◌⊎◌, ℕ, List, [], IsTrue, codes}
use Rattle.config_read.specs.declared.fault.ConfigWhy.{ConfigWhy}
use Rattle.shape_base.specs.declared.fault.ShapeWhy.{ShapeWhy}
use Rattle.osh_read.specs.declared.fault.OshWhy.{OshWhy}
use Rattle.osh_ends.specs.Ends.{absent, bad_config, bad_flow, bad_shape, crowded, mismatch}
use Rattle.osh_ends.specs.Leaves.{Tells, line}
use Rattle.osh.specs.Calls.{Object}

-- A status and the line on err that goes with it: a row for each.
pub data IsLineOf (status : ℕ) (text : List ℕ) : Type 0 where
  success : (status ≡ 0) ⊎ ((status ≡ 5) ⊎ (status ≡ 9)) → text ≡ [] → IsLineOf status text
  usage : status ≡ 1 → text ≡ codes "osh: usage\n" → IsLineOf status text
  flow : (at : ℕ) (why : OshWhy) → status ≡ 2 → text ≡ line (bad_flow at why) → IsLineOf status text
  configuration : (at : ℕ) (why : ConfigWhy) → status ≡ 3 → text ≡ line (bad_config at why) → IsLineOf status text
  shape : (why : ShapeWhy) (op : ℕ) → status ≡ 4 → text ≡ line (bad_shape why op) → IsLineOf status text
  degree : (link from to : ℕ) → status ≡ 6 → text ≡ line (mismatch link from to) → IsLineOf status text
  players : (n : ℕ) → status ≡ 6 → text ≡ line (crowded n) → IsLineOf status text
  missing : (name : List ℕ) → status ≡ 7 → text ≡ line (absent name) → IsLineOf status text
  unbuilt : status ≡ 8 → text ≡ codes "osh: unbuilt\n" → IsLineOf status text
  device : status ≡ 10 → text ≡ codes "osh: device\n" → IsLineOf status text
  memory : status ≡ 12 → text ≡ codes "osh: memory\n" → IsLineOf status text

-- the statuses at which something may be on out
abbrev pub MayPrint : ℕ → Type 0
MayPrint status = (status ≡ 0) ⊎ ((status ≡ 5) ⊎ ((status ≡ 9) ⊎ (status ≡ 10)))

-- err has got its line, or a part of it where err failed; and out is as it was but at the statuses at which something may be there
pub record Says (status : ℕ) (out err : Object (List ℕ)) : Type 0 where
  pub text : List ℕ
  pub is : IsLineOf status text
  pub told : IsTrue err.tells → Tells text err.before err.now err.old err.new
  pub kept : (MayPrint status → ⊥) → out.new ≡ out.old
