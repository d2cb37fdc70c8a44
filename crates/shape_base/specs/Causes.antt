-- Causes where they stand, and the first of them.
use Rattle.std.specs.Prelude.{Bool, if◌then◌else◌, List, [], ◌∷◌, Option, Some, None}
use Rattle.shape_base.specs.declared.fault.ShapeWhy.{ShapeWhy}

-- a cause where a test holds
abbrev pub cause_if : Bool → ShapeWhy → Option ShapeWhy
cause_if test why = if test then Some why else None

-- the first of several places that has a cause
abbrev pub first_cause : List (Option ShapeWhy) → Option ShapeWhy
first_cause [] = None
first_cause (None ∷ places) = first_cause places
first_cause (Some why ∷ places) = Some why
