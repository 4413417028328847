-- What calls add to a list of moves: those of one component, of one sheet, of one path.
use Rattle.std.specs.Prelude.{◌≡◌, ◌↔◌, ℕ, ℤ, Bool, List, ◌++◌, map, slice_get, Some}
use Rattle.fare_component.specs.declared.offer.Offer.{Offer}
use Rattle.fare_component.specs.Offers.{StandsBefore}
use Rattle.fare_law.specs.declared.fares.FareKey.{FareKey}
use Rattle.fare_law.specs.declared.flights.Flight.{Flight}
use Rattle.fare_law.specs.declared.moves.Role.{Role}
use Rattle.fare_law.specs.declared.requests.Request.{Request}
use Rattle.fare_law.specs.declared.sheets.Leg.{Leg}
use Rattle.fare_law.specs.declared.sheets.SheetRow.{SheetRow}
use Rattle.fare_law.specs.declared.tickets.Piece.{Piece}
use Rattle.fare_law.specs.Book.{Book, live_fare, live_rule}
use Rattle.fare_law.specs.Lists.{AllDifferent, EachPair, IsIn, Matched, OnFirst, OnLast}
use Rattle.fare_law.specs.Offers.{IsOffered, flights_of, row_price}
use Rattle.flight_paths.specs.declared.positions.Path.{Path}
use Rattle.flight_paths.specs.Positions.{IsPath}
use Rattle.residual_keys.specs.AskedKeys.{IsLeg}
use Rattle.residual_keys.specs.declared.priced.PricedComponent.{PricedComponent}
use Rattle.residual_keys.specs.declared.residual.Chosen.{Chosen}
use Rattle.residual_keys.specs.Residuals.{State, closes}
use Rattle.residual_keys.specs.Steps.{IsChosen, Leaves, MarketOver}

-- To a list were added exactly those that meet this, each move once.
pub record Adds (P : Chosen → Type 0) (old new : List Chosen) : Type 0 where
  pub more : List Chosen
  pub joined : new ≡ old ++ more
  pub once : AllDifferent (map (λ c. c.mv) more)
  pub are : (c : Chosen) → IsIn c more ↔ P c

-- what units and tickets read of a fare of this row over these flights
pub record IsReadOver (sale : ℤ) (fs : List Flight) (row : SheetRow) (reverse : Bool) (p : Piece) : Type 0 where
  pub begins : OnFirst (λ f. (p.begin ≡ f.from) × (p.first_day ≡ f.day)) fs
  pub ends : OnLast (λ f. (p.end ≡ f.to) × (p.last_day ≡ f.day)) fs
  pub carrier : p.fare.key.carrier ≡ row.fare.key.carrier
  pub number : p.fare.rule ≡ row.fare.rule
  pub kind : p.fare.kind ≡ row.fare.kind
  pub rule : p.rule ≡ row.rule
  pub reverse_is : p.reverse ≡ reverse
  pub sale_is : p.sale ≡ sale

-- The move of a component in this role and slot, with its price and what it leaves.
pub record IsChoice (r : State) (x : PricedComponent) (role : Role) (slot : ℕ) (c : Chosen) : Type 0 where
  pub move : c.mv ≡ record { flights = x.path.now.flights; carrier = x.key.now.carrier; basis = x.key.now.basis; role = role; slot = slot }
  pub price_is : c.price ≡ x.price
  pub leaves : Leaves r x.path.now.after x.facts role slot c.next

-- a move of the component in some role and slot
abbrev pub IsChoiceOf : State → PricedComponent → Chosen → Type 0
IsChoiceOf r x c = (role : Role) × (slot : ℕ) × IsChoice r x role slot c

-- a move on these flights
abbrev pub IsChosenOn : Book → Request → State → List ℕ → Chosen → Type 0
IsChosenOn b q r ns c = IsChosen b q r c × (c.mv.flights ≡ ns)

-- a move on these flights with a fare that is filed forward, or in reverse
abbrev pub IsChosenFiled : Book → Request → State → List ℕ → Bool → Chosen → Type 0
IsChosenFiled b q r ns reverse c = IsChosenOn b q r ns c × (closes c.mv.role ≡ reverse)

-- a move on these flights with the fare of this row
abbrev pub IsChosenWith : Book → Request → State → List ℕ → Bool → SheetRow → Chosen → Type 0
IsChosenWith b q r ns reverse row c = IsChosenFiled b q r ns reverse c × (c.mv.carrier ≡ row.fare.key.carrier) × (c.mv.basis ≡ row.fare.key.basis)

-- the fare is filed from the beginning of these flights to their end, or in reverse
abbrev pub FiledOver : Bool → List Flight → FareKey → Type 0
FiledOver reverse fs key = MarketOver reverse fs key.from key.to

-- The flights as legs, with the classes that have seats for the party.
pub record AreLegs (b : Book) (q : Request) (fs : List Flight) (legs : List Leg) : Type 0 where
  pub each : Matched (IsLeg b q.party) fs legs
  pub flights : flights_of legs ≡ fs

-- A row that is offered over these flights: live, filed that way, at its price.
pub record IsOfferedOver (b : Book) (reverse : Bool) (fs : List Flight) (legs : List Leg) (row : SheetRow) (price : ℕ) : Type 0 where
  pub fare : live_fare b row.fare.key ≡ Some row.fare
  pub rule : live_rule b row.fare.key.carrier row.fare.rule ≡ Some row.rule
  pub filed : FiledOver reverse fs row.fare.key
  pub offered : IsOffered legs row
  pub costs : price ≡ row_price fs row

-- the row at an offer's place is offered on these legs at its price
pub record IsOfferOn (legs : List Leg) (rows : List SheetRow) (o : Offer) : Type 0 where
  pub row : SheetRow
  pub stands : slice_get rows o.place ≡ Some row
  pub offered : IsOffered legs row
  pub costs : o.price ≡ row_price (flights_of legs) row

-- The offers of rows on these legs, ascending by place.
pub record OffersOn (legs : List Leg) (rows : List SheetRow) (offers : List Offer) : Type 0 where
  pub ascending : EachPair StandsBefore offers
  pub exact : (o : Offer) → IsIn o offers ↔ IsOfferOn legs rows o

-- a path of the state, with its flights
abbrev pub IsPathOf : Book → Request → State → Path → List Flight → Type 0
IsPathOf b q r path fs = IsPath b q.slices r.at path.flights fs path.after
