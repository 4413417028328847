-- Tables of outlines, and what a residual's components lead to.
use Rattle.std.specs.Prelude.{◌≡◌, ◌↔◌, ◌≤◌, ℕ, pos, List, ◌++◌, Some}
use Rattle.fare_law.specs.declared.moves.Move.{Move}
use Rattle.fare_law.specs.declared.moves.Role.{Role}
use Rattle.fare_law.specs.declared.requests.Request.{Request}
use Rattle.fare_law.specs.Book.{Book, live_rule}
use Rattle.fare_law.specs.Lists.{Each, IsIn}
use Rattle.fare_law.specs.RuleLimits.{IsRule}
use Rattle.flight_paths.specs.declared.positions.Position.{Position}
use Rattle.outlines.specs.declared.outline.Entry.{Entry}
use Rattle.outlines.specs.declared.outline.Outcome.{Outcome}
use Rattle.outlines.specs.declared.outline.Outline.{Outline}
use Rattle.outlines.specs.Outlines.{Outlined, piece_of}
use Rattle.residual_keys.specs.declared.residual.Chosen.{Chosen}
use Rattle.residual_keys.specs.Residuals.{State}
use Rattle.residual_keys.specs.Steps.{IsChosen, Leaves}
use Rattle.fare_rules.specs.Ranges.{IsDayWithin}

-- Each outline that some component has from this position, at least once, with a price that some such component has and none is below.
pub record Tabled (b : Book) (q : Request) (at : Position) (table : List Entry) : Type 0 where
  pub attained : Each (λ e. Outlined b q at e.outline e.price) table
  pub covered : (o : Outline) (price : ℕ) → Outlined b q at o price → (e : Entry) × IsIn e table × (e.outline ≡ o) × (e.price ≤ price)

-- some move costs this and leaves this
abbrev pub IsAttained : Book → Request → State → Outcome → Type 0
IsAttained b q r o = (m : Move) × IsChosen b q r (record { mv = m; price = o.price; next = o.next })

-- What a residual's components lead to: each next residual, at least once, with the least price. A next one may stand there at other prices too, each that of some move.
pub record AreOutcomes (b : Book) (q : Request) (r : State) (outcomes : List Outcome) : Type 0 where
  pub attained : Each (IsAttained b q r) outcomes
  pub covered : (c : Chosen) → IsChosen b q r c → (o : Outcome) × IsIn o outcomes × (o.next ≡ c.next) × (o.price ≤ c.price)

-- The rule of an entry is the live one of its carrier and number.
abbrev pub HasRule : Book → Entry → Type 0
HasRule b e = live_rule b e.outline.carrier e.outline.number ≡ Some e.rule

-- The days of an entry lie from 0 to 99,000, and its rule is within its limits.
pub record EntryWithin (e : Entry) : Type 0 where
  pub first : IsDayWithin (pos 99000) e.outline.first
  pub last : IsDayWithin (pos 99000) e.outline.last
  pub rule : IsRule e.rule

-- What an entry leaves of a residual in this role and slot, with its price.
pub record LeadsAs (q : Request) (r : State) (e : Entry) (role : Role) (slot : ℕ) (o : Outcome) : Type 0 where
  pub leaves : Leaves r e.outline.after (piece_of r.at.place q.sale e.rule e.outline) role slot o.next
  pub price : o.price ≡ e.price

-- what an entry leaves of a residual in some role and slot
abbrev pub LeadsTo : Request → State → Entry → Outcome → Type 0
LeadsTo q r e o = (role : Role) × (slot : ℕ) × LeadsAs q r e role slot o

-- what some entry leaves of a residual in some role and slot
abbrev pub IsTried : Request → State → List Entry → Outcome → Type 0
IsTried q r table o = (e : Entry) × IsIn e table × LeadsTo q r e o

-- To a list were added exactly those that meet this.
pub record Grows (P : Outcome → Type 0) (old new : List Outcome) : Type 0 where
  pub more : List Outcome
  pub joined : new ≡ old ++ more
  pub are : (o : Outcome) → IsIn o more ↔ P o

-- A list of what a position's table gives, tried entry by entry in each role and slot, that has for each outcome of a trial one of the same next residual that costs no more, is what a residual there leads to.
abbrev pub LeastAreOutcomes : Book → Request → State → Type 0
LeastAreOutcomes b q r = (table : List Entry) (outcomes : List Outcome) → Each (HasRule b) table → Tabled b q r.at table → ((o : Outcome) → IsIn o outcomes → IsTried q r table o)
    → ((t : Outcome) → IsTried q r table t → (o : Outcome) × IsIn o outcomes × (o.next ≡ t.next) × (o.price ≤ t.price)) → AreOutcomes b q r outcomes
