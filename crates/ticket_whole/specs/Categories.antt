-- Categories that read the days of the unit, one by one.
use Rattle.std.specs.Prelude.{◌≢◌, ℤ, List}
use Rattle.fare_law.specs.declared.rules.Rule.{Rule}
use Rattle.fare_law.specs.declared.rules.UnitKind.TheVariants.{OneWay}
use Rattle.fare_law.specs.Parts.{Part}
use Rattle.fare_law.specs.Units.{SeasonHolds, AdvanceHolds, MinStayHolds, MaxStayHolds}
use Rattle.ticket_whole.specs.declared.demand.CategoryDemand.{CategoryDemand}
use Rattle.ticket_whole.specs.declared.demand.CategoryDemand.TheVariants.{Season, Advance, LeastStay, GreatestStay}
use Rattle.ticket_whole.specs.declared.units.UnitFacts.{UnitFacts}
use Rattle.ticket_whole.specs.Breaches.{InUnit}

-- What a part of the ticket meets in its unit by this category.
abbrev pub CategoryMeets : List Part → CategoryDemand → Part → Type 0
CategoryMeets parts Season part = InUnit parts part (λ kind first back last. SeasonHolds part.piece.rule first)
CategoryMeets parts Advance part = InUnit parts part (λ kind first back last. AdvanceHolds part.piece.rule part.piece.sale first)
CategoryMeets parts LeastStay part = InUnit parts part (λ kind first back last. kind ≢ OneWay → MinStayHolds part.piece.rule first back)
CategoryMeets parts GreatestStay part = InUnit parts part (λ kind first back last. kind ≢ OneWay → MaxStayHolds part.piece.rule first back)

-- what a rule says by this category of a unit of this kind and these days
abbrev pub CategoryHolds : ℤ → Rule → UnitFacts → CategoryDemand → Type 0
CategoryHolds sale rule facts Season = SeasonHolds rule facts.first_day
CategoryHolds sale rule facts Advance = AdvanceHolds rule sale facts.first_day
CategoryHolds sale rule facts LeastStay = facts.kind ≢ OneWay → MinStayHolds rule facts.first_day facts.return_day
CategoryHolds sale rule facts GreatestStay = facts.kind ≢ OneWay → MaxStayHolds rule facts.first_day facts.return_day
