-- What a part meets in its unit by one category, told from stretches, and the demands that join two categories.
use Rattle.std.proofs.Common.{◌≢◌, ◌↔◌, ◌==◌, ℤ, List, [], ◌∷◌, Option, Some, None, IfSome, filter, map, subst}
use Rattle.fare_law.specs.declared.rules.UnitKind.{UnitKind}
use Rattle.fare_law.specs.declared.rules.UnitKind.TheVariants.{OneWay}
use Rattle.fare_law.specs.declared.tickets.Component.{Component}
use Rattle.fare_law.specs.declared.tickets.Piece.{Piece}
use Rattle.fare_law.specs.Book.{Book}
use Rattle.fare_law.specs.Lawful.{unit_of}
use Rattle.fare_law.specs.Parts.{Part}
use Rattle.fare_law.specs.Lists.{OnFirst, OnLast}
use Rattle.fare_law.specs.Units.{SeasonHolds, AdvanceHolds, MinStayHolds, MaxStayHolds}
use Rattle.ticket_whole.specs.declared.demand.CategoryDemand.{CategoryDemand}
use Rattle.ticket_whole.specs.declared.demand.CategoryDemand.TheVariants.{Season, Advance, LeastStay, GreatestStay}
use Rattle.ticket_whole.specs.declared.demand.UnitDemand.TheVariants.{FirstDay, Stay}
use Rattle.ticket_whole.specs.declared.stretch.Stretch.{Stretch}
use Rattle.ticket_whole.specs.declared.units.UnitFacts.{UnitFacts}
use Rattle.ticket_whole.specs.Breaches.{InUnit, PartMeets}
use Rattle.ticket_whole.specs.Categories.{CategoryHolds, CategoryMeets}
use Rattle.ticket_whole.specs.Known.{known_flights, ends_of, live_row, part_of}
use Rattle.ticket_whole.specs.Stretches.{stretch_of, facts_of}
use Rattle.ticket_whole.proofs.KindTable.{FactsTold}
use Rattle.ticket_whole.proofs.PartTold.{in_unit, on_part, unit_told}

-- each category, from the kind and the days of the unit's stretches
held_by : (parts : List Part) (part : Part) (d : CategoryDemand) (o : Option UnitFacts) → FactsTold o (unit_of part.unit parts)
    → IfSome o (λ f. CategoryHolds part.piece.sale part.piece.rule f d) ↔ CategoryMeets parts d part
held_by parts part Season None t = (λ _ k u. absurd (t k u), λ _. tt)
held_by parts part Advance None t = (λ _ k u. absurd (t k u), λ _. tt)
held_by parts part LeastStay None t = (λ _ k u. absurd (t k u), λ _. tt)
held_by parts part GreatestStay None t = (λ _ k u. absurd (t k u), λ _. tt)
held_by parts part Season (Some f) t = in_unit parts part f (λ kind first back last. SeasonHolds part.piece.rule first) t
held_by parts part Advance (Some f) t = in_unit parts part f (λ kind first back last. AdvanceHolds part.piece.rule part.piece.sale first) t
held_by parts part LeastStay (Some f) t = in_unit parts part f (λ kind first back last. kind ≢ OneWay → MinStayHolds part.piece.rule first back) t
held_by parts part GreatestStay (Some f) t = in_unit parts part f (λ kind first back last. kind ≢ OneWay → MaxStayHolds part.piece.rule first back) t

-- a part meets a category in its unit exactly where the stretches of the ticket say so
part_held : (parts : List Part) (part : Part) (d : CategoryDemand) → IfSome (facts_of (filter (λ s. s.unit == part.unit) (map stretch_of parts))) (λ f. CategoryHolds part.piece.sale part.piece.rule f d) ↔ CategoryMeets parts d part
part_held parts part d = held_by parts part d _ (unit_told parts part.unit)

-- a component meets a category in its unit exactly where the stretches of the ticket say so
pub component_held : (b : Book) (sale : ℤ) (c : Component) (parts : List Part) (d : CategoryDemand)
    → IfSome (part_of b sale c) (λ part. IfSome (facts_of (filter (λ s. s.unit == c.unit) (map stretch_of parts))) (λ f. CategoryHolds sale part.piece.rule f d)) ↔ IfSome (part_of b sale c) (CategoryMeets parts d)
component_held b sale c parts d =
    on_part sale c.unit (known_flights b c.flights) (live_row b c.fare) (ends_of (known_flights b c.flights)) (λ part. IfSome (facts_of (filter (λ s. s.unit == c.unit) (map stretch_of parts))) (λ f. CategoryHolds sale part.piece.rule f d)) (CategoryMeets parts d)
    (λ part u e. subst (λ label. IfSome (facts_of (filter (λ (s : Stretch). s.unit == label) (map stretch_of parts))) (λ f. CategoryHolds sale part.piece.rule f d) ↔ CategoryMeets parts d part) u
    (subst (λ z. IfSome (facts_of (filter (λ (s : Stretch). s.unit == part.unit) (map stretch_of parts))) (λ f. CategoryHolds z part.piece.rule f d) ↔ CategoryMeets parts d part) e (part_held parts part d)))

last_joint : (W P Q : Piece → Type 0) → ((z : Piece) → W z ↔ (P z × Q z)) → (ps : List Piece) → OnLast W ps ↔ (OnLast P ps × OnLast Q ps)
last_joint W P Q same [] = (λ h. absurd h, λ h. absurd h.0)
last_joint W P Q same (a ∷ []) = same a
last_joint W P Q same (a ∷ b ∷ ps) = last_joint W P Q same (b ∷ ps)

first_joint : (W P Q : Piece → Type 0) → ((a : Piece) → W a ↔ (P a × Q a)) → (ps : List Piece) → OnFirst W ps ↔ (OnFirst P ps × OnFirst Q ps)
first_joint W P Q same [] = (λ h. absurd h, λ h. absurd h.0)
first_joint W P Q same (a ∷ ps) = same a

-- two facts on a unit's kind and days are one
joint : (parts : List Part) (part : Part) (W P Q : UnitKind → ℤ → ℤ → ℤ → Type 0) → ((k : UnitKind) (f b l : ℤ) → W k f b l ↔ (P k f b l × Q k f b l)) → InUnit parts part W ↔ (InUnit parts part P × InUnit parts part Q)
joint parts part W P Q same =
    let unit = unit_of part.unit parts in
    let whole = λ (k : UnitKind).
    first_joint (λ a. OnLast (λ z. W k a.first_day z.first_day z.last_day) unit) (λ a. OnLast (λ z. P k a.first_day z.first_day z.last_day) unit) (λ a. OnLast (λ z. Q k a.first_day z.first_day z.last_day) unit)
    (λ a. last_joint (λ z. W k a.first_day z.first_day z.last_day) (λ z. P k a.first_day z.first_day z.last_day) (λ z. Q k a.first_day z.first_day z.last_day) (λ z. same k a.first_day z.first_day z.last_day) unit) unit in
    (λ h. (λ k u. ((whole k).0 (h k u)).0, λ k u. ((whole k).0 (h k u)).1), λ h k u. (whole k).1 (h.0 k u, h.1 k u))

pub first_day_joint : (parts : List Part) (part : Part) → PartMeets parts FirstDay part ↔ (CategoryMeets parts Season part × CategoryMeets parts Advance part)
first_day_joint parts part =
    joint parts part (λ kind first back last. SeasonHolds part.piece.rule first × AdvanceHolds part.piece.rule part.piece.sale first) (λ kind first back last. SeasonHolds part.piece.rule first) (λ kind first back last. AdvanceHolds part.piece.rule part.piece.sale first)
    (λ k f b l. (λ h. h, λ h. h))

pub stay_joint : (parts : List Part) (part : Part) → PartMeets parts Stay part ↔ (CategoryMeets parts LeastStay part × CategoryMeets parts GreatestStay part)
stay_joint parts part =
    joint parts part (λ kind first back last. kind ≢ OneWay → MinStayHolds part.piece.rule first back × MaxStayHolds part.piece.rule first back) (λ kind first back last. kind ≢ OneWay → MinStayHolds part.piece.rule first back) (λ kind first back last. kind ≢ OneWay → MaxStayHolds part.piece.rule first back)
    (λ k f b l. (λ h. (λ n. (h n).0, λ n. (h n).1), λ h n. (h.0 n, h.1 n)))
