-- The moves with the fare of one row are those of the component with it. This file is given on to the crates above.
use Rattle.std.proofs.Common.{◌≡◌, ℕ, ◌+◌, ◌≤◌, ◌<◌, Bool, List, length, MatchBool, sym, ap, ap₂, subst, ◌∙◌}
use Rattle.fare_law.specs.declared.flights.Flight.{Flight}
use Rattle.fare_law.specs.declared.moves.Move.{Move}
use Rattle.fare_law.specs.declared.moves.Role.{Role}
use Rattle.fare_law.specs.declared.requests.Request.{Request}
use Rattle.fare_law.specs.declared.sheets.Leg.{Leg}
use Rattle.fare_law.specs.declared.sheets.SheetRow.{SheetRow}
use Rattle.fare_law.specs.declared.tickets.Piece.{Piece}
use Rattle.fare_law.specs.Book.{Book}
use Rattle.fare_law.specs.Lists.{OnFirst, OnLast}
use Rattle.fare_law.specs.Parts.{ComponentLawful, Numbers, price_of, share, stopover_charge, surcharges}
use Rattle.flight_paths.specs.declared.positions.Path.{Path}
use Rattle.flight_paths.specs.Positions.{IsPath}
use Rattle.open_unit.proofs.OtherFares.{dressed}
use Rattle.residual_keys.specs.declared.priced.PricedComponent.{PricedComponent}
use Rattle.residual_keys.specs.declared.residual.Chosen.{Chosen}
use Rattle.residual_keys.specs.Gathered.{Adds, AreLegs, IsChoice, IsChoiceOf, IsChosenWith, IsOfferedOver, IsPathOf, IsReadOver}
use Rattle.residual_keys.specs.Residuals.{State, closes}
use Rattle.residual_keys.specs.Steps.{IsLiveOn, Leaves}
use Rattle.residual_keys.proofs.Adding.{adds_like}
use Rattle.residual_keys.proofs.OneNext.{direction}
use Rattle.residual_keys.proofs.OtherFares.{dressed_fare, leaves_same}
use Rattle.residual_keys.proofs.StepFacts.{IsOver, offered_lawful}
use Rattle.residual_keys.proofs.StepTaken.{cost_is, missed, numbered_some, taken_at, whole}

pub path_some : (b : Book) (q : Request) (r : State) (path : Path) (fs : List Flight) → IsPathOf b q r path fs → Numbers b path.flights fs → 1 ≤ length fs
path_some b q r path fs h numbers = numbered_some b path.flights fs h.some numbers

module _ (b : Book) (q : Request) (r : State) (x : PricedComponent) (fs : List Flight) (legs : List Leg) (row : SheetRow) (reverse : Bool)
    (is : IsPathOf b q r x.path.now fs) (are : AreLegs b q fs legs) (o : IsOfferedOver b reverse fs legs row x.price) (lt : row.fare.class < 32) (k : IsReadOver q.sale fs row reverse x.facts) (key : x.key.now ≡ row.fare.key) where
  -- the component with the row's fare
  abbrev p : Piece
  p = dressed x.facts row.fare

  fare : p.fare ≡ row.fare
  fare = dressed_fare x.facts row.fare k.carrier k.number k.kind

  lawful : ComponentLawful b q.party fs p
  lawful = offered_lawful b q.party fs legs row p are.each are.flights fare k.rule lt is.shape o.offered

  price_same : x.price ≡ price_of fs p
  price_same = o.costs ∙ sym (ap₂ (λ f r. share f.kind f.amount + stopover_charge r fs + surcharges r.cat12 fs) fare k.rule)

  -- the facts of a move with this fare, in this direction
  over : (m : Move) → closes m.role ≡ reverse → IsOver q m fs row p
  over m e = record { begins = k.begins; ends = k.ends; fare = fare; rule = k.rule; reverse = k.reverse_is ∙ sym e; sale = k.sale_is }

  live : (m : Move) → closes m.role ≡ reverse → m.carrier ≡ row.fare.key.carrier → m.basis ≡ row.fare.key.basis → IsLiveOn b m fs row
  live m e c a = record {
    key = record {
      carrier = sym c;
      basis = sym a;
      ends = subst (λ t. OnFirst (λ f. OnLast (λ z. MatchBool t ((row.fare.key.from ≡ z.to) × (row.fare.key.to ≡ f.from)) ((row.fare.key.from ≡ f.from) × (row.fare.key.to ≡ z.to))) fs) fs) (sym e) o.filed;
    };
    fare = o.fare;
    rule = o.rule;
  }

  path_of : (m : Move) → m.flights ≡ x.path.now.flights → IsPath b q.slices r.at m.flights fs x.path.now.after
  path_of m e = subst (λ ns. IsPath b q.slices r.at ns fs x.path.now.after) (sym e) is

  to_chosen : (c : Chosen) (role : Role) (slot : ℕ) → IsChoice r x role slot c → IsChosenWith b q r x.path.now.flights reverse row c
  to_chosen c role slot h =
      let m = c.mv in
      let role_is : m.role ≡ role = ap (λ z. z.role) h.move in
      let slot_is : m.slot ≡ slot = ap (λ z. z.slot) h.move in
      let ns : m.flights ≡ x.path.now.flights = ap (λ z. z.flights) h.move in
      let carrier : m.carrier ≡ row.fare.key.carrier = ap (λ z. z.carrier) h.move ∙ ap (λ z. z.carrier) key in
      let basis : m.basis ≡ row.fare.key.basis = ap (λ z. z.basis) h.move ∙ ap (λ z. z.basis) key in
      let way : closes m.role ≡ reverse = ap closes role_is ∙ sym (direction role slot r.units h.leaves.units x.facts h.leaves.step) ∙ k.reverse_is in
      let has : Leaves r x.path.now.after p role slot c.next = (leaves_same x.facts row.fare r x.path.now.after role slot c.next).0 h.leaves in
      let leaves : Leaves r x.path.now.after p m.role m.slot c.next = subst (λ z. Leaves r x.path.now.after p z m.slot c.next) (sym role_is) (subst (λ z. Leaves r x.path.now.after p role z c.next) (sym slot_is) has) in
      let t = taken_at b q r m fs x.path.now.after (path_of m ns) row p (live m way carrier basis) (over m way) lawful c.price (h.price_is ∙ price_same) c.next leaves in
      ((((whole b q r c).1 t, ns), way), carrier, basis)

  to_choice : (c : Chosen) → IsChosenWith b q r x.path.now.flights reverse row c → IsChoiceOf r x c
  to_choice c (((chosen, ns), way), carrier, basis) =
      let m = c.mv in
      let s = missed b q r m fs x.path.now.after (path_of m ns) row p (live m way carrier basis) (over m way) c.next (c.price, (whole b q r c).0 chosen) in
      let costs = cost_is b q r m fs x.path.now.after (path_of m ns) row p (live m way carrier basis) (over m way) c.price c.next ((whole b q r c).0 chosen) in
      let move : m ≡ record { flights = x.path.now.flights; carrier = x.key.now.carrier; basis = x.key.now.basis; role = m.role; slot = m.slot } =
      (let y = carrier ∙ sym (ap (λ z. z.carrier) key) in
      let z = basis ∙ sym (ap (λ z. z.basis) key) in
      λ i. record { flights = ns i; carrier = y i; basis = z i; role = m.role; slot = m.slot }) in
      (m.role, m.slot, record { move = move; price_is = costs ∙ sym price_same; leaves = (leaves_same x.facts row.fare r x.path.now.after m.role m.slot c.next).1 s.1 })

  pub adds_chosen : (old new : List Chosen) → Adds (IsChoiceOf r x) old new → Adds (IsChosenWith b q r x.path.now.flights reverse row) old new
  adds_chosen old new h = adds_like (IsChoiceOf r x) (IsChosenWith b q r x.path.now.flights reverse row) old new h (λ c. (λ k. to_chosen c k.0 k.1 k.2, to_choice c))
