-- The rule of the version store: what is published grew from all that anyone saw. A view is what was seen last, if
-- anything was.
use Rattle.std.specs.Prelude.{◌≡◌, ℕ, List, Option, Some, IfSome}
use mathlib.Core.Option.{some}
use lib.ListN.{get_elem?}
use Rattle.fare_versions.specs.Published.{Published, Grows}

-- what a view has seen is no later than this
abbrev pub IsNoLater : Published → Option Published → Type 0
IsNoLater now view = IfSome view (λ seen. Grows seen now)

abbrev pub OnlyGrows : Published → List (Option Published) → Type 0
OnlyGrows now views = (seat : ℕ) (view : Option Published) → get_elem? views seat ≡ some view → IsNoLater now view

-- a step after which the view has seen what is then published, which grew from what it had seen
abbrev pub Saw : Option Published → Published → Published → Option Published → Type 0
Saw view before now after = (after ≡ Some now) × IsNoLater now view
