-- A move over given flights is the step that the calls take. Given on to the crates above.
use Rattle.std.proofs.Common.{◌≡◌, ◌↔◌, ℕ, ◌≤◌, ◌<◌, List, [], ◌∷◌, length, Option, Some, None, IfNone, IfSome, sym, refl, ap, ap₂, ◌∙◌, subst, arith}
use Rattle.fare_law.specs.declared.fares.FareKey.{FareKey}
use Rattle.fare_law.specs.declared.flights.Flight.{Flight}
use Rattle.fare_law.specs.declared.moves.Move.{Move}
use Rattle.fare_law.specs.declared.requests.Request.{Request}
use Rattle.fare_law.specs.declared.sheets.SheetRow.{SheetRow}
use Rattle.fare_law.specs.declared.tickets.Piece.{Piece}
use Rattle.fare_law.specs.Book.{Book, live_fare, live_rule}
use Rattle.fare_law.specs.declared.sheets.Leg.{Leg}
use Rattle.fare_law.specs.Lists.{Matched}
use Rattle.fare_law.specs.Offers.{IsOffered, flights_of}
use Rattle.fare_law.specs.Parts.{ComponentLawful, Numbers, StandsFor, price_of}
use Rattle.fare_law.specs.declared.limits.TheConstants.{MOST_FLIGHTS_OF_A_COMPONENT}
use Rattle.flight_paths.specs.declared.positions.Position.{Position}
use Rattle.flight_paths.specs.Positions.{Flies, IsPath}
use Rattle.open_unit.specs.declared.units.OpenUnit.{OpenUnit}
use Rattle.residual_keys.specs.declared.residual.Chosen.{Chosen}
use Rattle.residual_keys.specs.declared.residual.Next.{Next}
use Rattle.residual_keys.specs.Residuals.{Moves, PartAllows, State, UnitStep, begins, closes, part_with}
use Rattle.residual_keys.specs.Steps.{IsChosen, IsLiveOn, KeyOn, Leaves, StepsTo, left_at}
use Rattle.residual_keys.specs.AskedKeys.{IsLeg}
use Rattle.residual_keys.proofs.OneNext.{direction, flies_one, piece_one}
use Rattle.residual_keys.proofs.Runs.{flies_numbers}
use Rattle.residual_keys.proofs.StepFacts.{IsOver, key_directed, keys_one, lawful_offered, moves_key, row_stands}
use Rattle.law_lemmas.proofs.LawFacts.{numbers_one}
use Rattle.law_lemmas.proofs.Lists.{got_within}
use Rattle.law_lemmas.proofs.Options.{some_none, some_one}

-- some numbers have some flights
pub numbered_some : (b : Book) (ns : List ℕ) (fs : List Flight) → (ns ≡ [] → ⊥) → Numbers b ns fs → 1 ≤ length fs
numbered_some b [] fs some h = absurd (some refl)
numbered_some b (n ∷ ns) [] some h = absurd h
numbered_some b (n ∷ ns) (f ∷ fs) some h = omega arith

module _ (b : Book) (q : Request) (r : State) (m : Move) (fs : List Flight) (after : Option Position) (path : IsPath b q.slices r.at m.flights fs after) where
  pub path_numbers : Numbers b m.flights fs
  path_numbers = flies_numbers b q.slices (Some r.at) after m.flights fs path.flies

  -- the flights that are found by these numbers are the path's
  pub given_flights : (ns : List ℕ) (found given : List Flight) → ns ≡ m.flights → ((gs : List Flight) → Numbers b ns gs → found ≡ gs) → given ≡ found → given ≡ fs
  given_flights ns found given e told is = is ∙ told fs (subst (λ xs. Numbers b xs fs) (sym e) path_numbers)

  pub path_some : 1 ≤ length fs
  path_some = numbered_some b m.flights fs path.some path_numbers

  pub path_few : length fs ≤ MOST_FLIGHTS_OF_A_COMPONENT
  path_few = path.shape.few

  -- the flights of a move are those of its numbers, and lead where these do
  pub flights_same : (gs : List Flight) (p : Piece) (next : Option Position) (us : List OpenUnit) → Moves b q r m gs p next us → (gs ≡ fs) × (next ≡ after)
  flights_same gs p next us h =
      let e = numbers_one b m.flights gs fs (flies_numbers b q.slices (Some r.at) next m.flights gs h.path.flies) path_numbers in
      (e, flies_one b q.slices (Some r.at) m.flights fs next after (subst (λ z. Flies b q.slices (Some r.at) m.flights z next) e h.path.flies) path.flies)

  -- where the fare that a move names is live, the move has it
  pub no_fare : (key : FareKey) → KeyOn m fs key → live_fare b key ≡ None → (next : Next) → StepsTo b q r m next → ⊥
  no_fare key on none next (price, c) =
      let e = (flights_same c.flights c.piece c.after c.units c.moves).0 in
      let same = keys_one m fs c.piece.fare.key key (subst (λ z. KeyOn m z c.piece.fare.key) e (moves_key b q r m c.flights c.piece c.after c.units c.moves)) on in
      some_none c.piece.fare (sym (subst (λ z. live_fare b z ≡ Some c.piece.fare) same c.moves.stands.fare) ∙ none)

  -- the fare of a move is the live one of its key, on legs that have seats for the party
  pub move_offered : (row : SheetRow) (legs : List Leg) → IsLiveOn b m fs row → Matched (IsLeg b q.party) fs legs → flights_of legs ≡ fs → row.fare.class < 32 → (next : Next) → StepsTo b q r m next → IsOffered legs row
  move_offered row legs live matched same lt next (price, c) =
      let e = (flights_same c.flights c.piece c.after c.units c.moves).0 in
      let key = keys_one m fs c.piece.fare.key row.fare.key (subst (λ z. KeyOn m z c.piece.fare.key) e (moves_key b q r m c.flights c.piece c.after c.units c.moves)) live.key in
      let fare : c.piece.fare ≡ row.fare = some_one (live_fare b c.piece.fare.key) c.piece.fare row.fare c.moves.stands.fare (ap (live_fare b) key ∙ live.fare) in
      let rule : c.piece.rule ≡ row.rule = some_one (live_rule b c.piece.fare.key.carrier c.piece.fare.rule) c.piece.rule row.rule c.moves.stands.rule (ap (λ f. live_rule b f.key.carrier f.rule) fare ∙ live.rule) in
      lawful_offered b q.party fs legs row c.piece matched same fare rule lt (key_directed m fs row.fare.key live.key) (subst (λ z. ComponentLawful b q.party z c.piece) e c.moves.lawful)

  module _ (row : SheetRow) (p : Piece) (live : IsLiveOn b m fs row) (over : IsOver q m fs row p) where
    -- a lawful component that leaves something is a move
    pub taken_at : ComponentLawful b q.party fs p → (price : ℕ) → price ≡ price_of fs p → (next : Next) → Leaves r after p m.role m.slot next → IsChosen b q r (record { mv = m; price = price; next = next })
    taken_at lawful price costs next l = record {
      flights = fs;
      piece = p;
      after = after;
      units = l.units;
      moves = record {
        path = path;
        stands = row_stands b q m fs row p live over;
        carrier = sym (ap (λ f. f.key.carrier) over.fare ∙ live.key.carrier);
        basis = sym (ap (λ f. f.key.basis) over.fare ∙ live.key.basis);
        lawful = lawful;
        units = l.step;
        part = l.part;
        done = l.done;
      };
      costs = costs;
      left = l.left;
    }

    pub taken : ComponentLawful b q.party fs p → (next : Next) → Leaves r after p m.role m.slot next → StepsTo b q r m next
    taken lawful next l = (price_of fs p, taken_at lawful (price_of fs p) refl next l)

    piece_same : (gs : List Flight) (o : Piece) (next : Option Position) (us : List OpenUnit) → Moves b q r m gs o next us → o ≡ p
    piece_same gs o next us h =
        let e = (flights_same gs o next us h).0 in
        piece_one b q.sale fs o p (closes m.role) (subst (λ z. StandsFor b q.sale o.fare.key z o) e h.stands) (row_stands b q m fs row p live over) (direction m.role m.slot r.units us o h.units) over.reverse
        (sym h.carrier ∙ sym live.key.carrier ∙ sym (ap (λ f. f.key.carrier) over.fare)) (sym h.basis ∙ sym live.key.basis ∙ sym (ap (λ f. f.key.basis) over.fare))

    -- a move over these flights is this component's
    pub missed : (next : Next) → StepsTo b q r m next → ComponentLawful b q.party fs p × Leaves r after p m.role m.slot next
    missed next (price, c) =
        let s = flights_same c.flights c.piece c.after c.units c.moves in
        let e = piece_same c.flights c.piece c.after c.units c.moves in (
          subst (ComponentLawful b q.party fs) e (subst (λ z. ComponentLawful b q.party z c.piece) s.0 c.moves.lawful),
          record {
            units = c.units;
            step = subst (λ z. UnitStep m.role m.slot r.units z c.units) e c.moves.units;
            part = subst (λ z. PartAllows (part_with r.part (begins m.role) z)) e c.moves.part;
            done = subst (λ z. IfNone z (c.units ≡ [])) s.1 c.moves.done;
            left = subst (λ z. next ≡ left_at z c.units (part_with r.part (begins m.role) p)) s.1 (subst (λ z. next ≡ left_at c.after c.units (part_with r.part (begins m.role) z)) e c.left);
          },
        )

    -- and it costs what the component costs
    pub cost_is : (price : ℕ) (next : Next) → IsChosen b q r (record { mv = m; price = price; next = next }) → price ≡ price_of fs p
    cost_is price next c =
        let s = flights_same c.flights c.piece c.after c.units c.moves in
        let e = piece_same c.flights c.piece c.after c.units c.moves in
        c.costs ∙ ap₂ price_of s.0 e

-- a move is its parts put together
pub whole : (b : Book) (q : Request) (r : State) (c : Chosen) → IsChosen b q r c ↔ IsChosen b q r (record { mv = c.mv; price = c.price; next = c.next })
whole b q r c = (
  λ h. record { flights = h.flights; piece = h.piece; after = h.after; units = h.units; moves = h.moves; costs = h.costs; left = h.left },
  λ h. record { flights = h.flights; piece = h.piece; after = h.after; units = h.units; moves = h.moves; costs = h.costs; left = h.left },
)

-- a live fare of the key that a move names
pub live_on : (b : Book) (m : Move) (fs : List Flight) (key : FareKey) (row : SheetRow) → KeyOn m fs key → live_fare b key ≡ Some row.fare → live_rule b key.carrier row.fare.rule ≡ Some row.rule → key ≡ row.fare.key → IsLiveOn b m fs row
live_on b m fs key row on fare rule e = record { key = subst (KeyOn m fs) e on; fare = subst (λ k. live_fare b k ≡ Some row.fare) e fare; rule = subst (λ k. live_rule b k.carrier row.fare.rule ≡ Some row.rule) e rule }

-- a state that has a path or a move is in a slice of the request
pub path_known : (b : Book) (q : Request) (r : State) (ns : List ℕ) (fs : List Flight) (next : Option Position) → IsPath b q.slices r.at ns fs next → r.at.slice < length q.slices
path_known b q r ns fs next h = go ns fs h.some h.flies
  where
    go : (ns : List ℕ) (fs : List Flight) → (ns ≡ [] → ⊥) → Flies b q.slices (Some r.at) ns fs next → r.at.slice < length q.slices
    go [] fs some h = absurd (some refl)
    go (n ∷ ns) [] some h = absurd h
    go (n ∷ ns) (f ∷ fs) some h = got_within q.slices r.at.slice h.0 h.1

pub slice_known : (b : Book) (q : Request) (r : State) (m : Move) (next : Next) → StepsTo b q r m next → r.at.slice < length q.slices
slice_known b q r m next (price, c) = path_known b q r m.flights c.flights c.after c.moves.path

-- what follows of a value, or of none, follows of an option
pub if_some : {X : Type 0} (P Q : X → Type 0) (o : Option X) → IfSome o P → ((x : X) → P x → Q x) → IfSome o Q
if_some P Q (Some x) h k = k x h
if_some P Q None h k = tt

pub if_none : {X : Type 0} (P Q : Type 0) (o : Option X) → IfNone o P → (P → Q) → IfNone o Q
if_none P Q (Some x) h k = tt
if_none P Q None h k = k h
