-- A fare is of the carrier of a component's first flight.
use Rattle.std.proofs.Common.{◌≡◌, ◌≢◌, Bool, true, false, List, [], ◌∷◌, All, MatchBool, MatchOption, Option, None, Some, refl}
use Rattle.std.proofs.lemmas.List.Elements.{All-head}
use Rattle.fare_law.specs.declared.flights.Flight.{Flight}
use Rattle.fare_law.specs.declared.names.Carrier.{Carrier}
use Rattle.fare_law.specs.declared.rules.Rule.{Rule}
use Rattle.fare_law.specs.declared.rules.TransferRule.{TransferRule}
use Rattle.fare_law.specs.Lists.{OnFirst}
use Rattle.fare_law.specs.Parts.{TransfersHold, transfers}
use Rattle.std.specs.Prelude.{◌≤◌}

-- category 9 asks for it in each of its forms
pub transfers_first : (r : Rule) (carrier : Carrier) (fs : List Flight) → fs ≢ [] → TransfersHold r carrier fs → OnFirst (λ f. f.carrier ≡ carrier) fs
transfers_first r carrier fs some h = by_rule r.cat9 h
  where
    all_first : (gs : List Flight) → gs ≢ [] → All (λ f. f.carrier ≡ carrier) gs → OnFirst (λ f. f.carrier ≡ carrier) gs
    all_first [] ne a = ne refl
    all_first (g ∷ gs) ne a = All-head (λ f. f.carrier ≡ carrier) g gs a

    by_online : (online : Bool) → MatchBool online (All (λ f. f.carrier ≡ carrier) fs) (OnFirst (λ f. f.carrier ≡ carrier) fs) → OnFirst (λ f. f.carrier ≡ carrier) fs
    by_online true a = all_first fs some a
    by_online false a = a

    by_rule : (o : Option TransferRule) → MatchOption o (OnFirst (λ f. f.carrier ≡ carrier) fs) (λ c. (transfers fs ≤ c.max) × MatchBool c.online (All (λ f. f.carrier ≡ carrier) fs) (OnFirst (λ f. f.carrier ≡ carrier) fs)) → OnFirst (λ f. f.carrier ≡ carrier) fs
    by_rule None a = a
    by_rule (Some c) a = by_online c.online a.1
