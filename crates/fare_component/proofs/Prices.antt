-- The greatest price of an offer.
use Rattle.std.proofs.Common.{ℕ, ◌≤◌, List, length, arith}
use Rattle.std.proofs.lemmas.List.{length-map}
use Rattle.fare_law.specs.declared.fares.FareKind.{FareKind}
use Rattle.fare_law.specs.declared.fares.FareKind.TheVariants.{O, R, S}
use Rattle.fare_law.specs.declared.flights.Flight.{Flight}
use Rattle.fare_law.specs.declared.market.OfferKey.{OfferKey}
use Rattle.fare_law.specs.declared.rules.Rule.{Rule}
use Rattle.fare_law.specs.Offers.{flights_of}
use Rattle.fare_law.specs.Parts.{share, stopover_charge, surcharges}
use Rattle.fare_law.specs.RuleLimits.{IsRule}
use Rattle.fare_component.specs.Keys.{IsRow}
use Rattle.fare_component.specs.Offers.{HasLowPrices}
use Rattle.law_lemmas.proofs.EachOne.{each_got}

share_low : (kind : FareKind) (amount : ℕ) → share kind amount ≤ amount
share_low O amount = omega arith
share_low R amount = omega arith
share_low S amount = omega arith

pub low_prices : ((r : Rule) (fs : List Flight) → IsRule r → length fs ≤ 4 → stopover_charge r fs ≤ 3000000) → ((r : Rule) (fs : List Flight) → IsRule r → length fs ≤ 4 → surcharges r.cat12 fs ≤ 32000000)
    → (key : OfferKey) → HasLowPrices key
low_prices charged surcharged key within place price offer =
    let row = each_got IsRow key.sheet.value.rows place offer.row within.rows offer.stands in
    let few : length (flights_of key.legs) ≤ 4 = let n = length-map key.legs (λ leg. leg.flight) in let m = within.legs.count.1 in omega arith in
    let a = share_low offer.row.fare.kind offer.row.fare.amount in
    let b = charged offer.row.rule (flights_of key.legs) row.1 few in
    let d = surcharged offer.row.rule (flights_of key.legs) row.1 few in
    let amount = row.0.amount in
    let costs = offer.costs in
    omega arith
