-- What the calls on a ticket tell one another.
use Rattle.std.specs.Prelude.{◌≡◌, ◌↔◌, ◌<◌, ◌++◌, ℕ, suc, List, IsTrue}
use Rattle.fare_law.specs.declared.requests.Request.{Request}
use Rattle.fare_law.specs.declared.tickets.Ticket.{Ticket}
use Rattle.fare_law.specs.Book.{Book}
use Rattle.fare_law.specs.Lists.{EachPair, IsIn}
use Rattle.ticket_whole.specs.declared.demand.Demand.{Demand}
use Rattle.fare_verdict.specs.declared.finding.Finding.{Finding}
use Rattle.fare_verdict.specs.declared.told.Stages.{Stages}
use Rattle.fare_verdict.specs.Findings.{AreAll, OnComponent, OnWhole}
use Rattle.ticket_whole.specs.Breaches.{number_of}
use Rattle.fare_verdict.specs.Stages.{CutMet, JoinedMet, KnownMet}

-- this is known of the ticket
pub record AreStages (b : Book) (q : Request) (t : Ticket) (stages : Stages) : Type 0 where
  pub known : IsTrue stages.known ↔ KnownMet b q t
  pub cut : IsTrue stages.cut ↔ CutMet b q t
  pub joined : IsTrue stages.joined ↔ JoinedMet b q t

-- these are all categories by which this holds, ascending
pub record AreCategories (By : ℕ → Type 0) (categories : List ℕ) : Type 0 where
  pub order : EachPair (λ k l. k < l) categories
  pub each : (category : ℕ) → IsIn category categories ↔ By category

-- all findings of which this holds were added at the end
pub record Extends (Is : Finding → Type 0) (old new : List Finding) : Type 0 where
  pub more : List Finding
  pub whole : new ≡ old ++ more
  pub all : AreAll Is more

-- the finding with another category
abbrev pub with_category : Finding → ℕ → Finding
with_category f k = record { rule = f.rule; component = f.component; unit = f.unit; category = k }

-- the finding is of this demand, at the component behind so many
abbrev pub IsAt : Book → Request → Ticket → Demand → ℕ → Finding → Type 0
IsAt b q t demand at f = (f.rule ≡ number_of demand) × (f.component ≡ suc at) × OnComponent b q t demand f

-- the finding is of this demand, on the whole ticket
abbrev pub IsOnWhole : Book → Request → Ticket → Demand → Finding → Type 0
IsOnWhole b q t demand f = (f.rule ≡ number_of demand) × OnWhole b q t demand f
