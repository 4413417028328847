use Rattle.std.proofs.Common.{◌≡◌, ◌⊎◌, subst, inl, inr}
use Rattle.fare_law.specs.declared.requests.Request.{Request}
use Rattle.fare_law.specs.declared.tickets.Ticket.{Ticket}
use Rattle.fare_law.specs.Book.{Book}
use Rattle.ticket_whole.specs.declared.demand.ComponentDemand.{ComponentDemand}
use Rattle.ticket_whole.specs.declared.demand.ComponentDemand.TheVariants.{Seats, DayTime, Flights, Stopovers, Transfers}
use Rattle.fare_verdict.specs.Stages.{IsComponentTested, KnownMet}
use Rattle.fare_verdict.proofs.stages.is_component_tested.Goals as goal

known_of : (b : Book) (q : Request) (t : Ticket) (d : ComponentDemand) → (d ≡ Seats) ⊎ ((d ≡ DayTime) ⊎ ((d ≡ Flights) ⊎ ((d ≡ Stopovers) ⊎ (d ≡ Transfers)))) → IsComponentTested b q t d → KnownMet b q t
known_of b q t d is h = elim is [
  | inl e ↦ (subst (λ x. IsComponentTested b q t x) e h).0
  | inr f ↦ elim f [
    | inl e ↦ (subst (λ x. IsComponentTested b q t x) e h).0
    | inr g ↦ elim g [
      | inl e ↦ (subst (λ x. IsComponentTested b q t x) e h).0
      | inr i ↦ elim i [
        | inl e ↦ (subst (λ x. IsComponentTested b q t x) e h).0
        | inr e ↦ (subst (λ x. IsComponentTested b q t x) e h).0
      ]
    ]
  ]
]

pub returns-else-stages : goal.returns-else-stages
returns-else-stages c b q t stages = (λ k. absurd (cc), λ h. stages.known.1 (known_of b q t c.args.demand c.in-Seats.is h))
