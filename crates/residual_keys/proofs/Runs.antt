-- Runs, and the machines that each look at one side of them. Given on to the crates above.
use Rattle.std.proofs.Common.{◌≡◌, ◌≢◌, ℕ, ◌+◌, List, [], ◌∷◌, ◌++◌, map, set, remove, flat_map, sum_by, Option, Some, None, IfNone, sym, refl, ap, ◌∙◌, subst, arith}
use Rattle.std.proofs.lemmas.List.Sums.{sum_by-cons}
use Rattle.fare_law.specs.declared.flights.Flight.{Flight}
use Rattle.fare_law.specs.declared.tickets.Piece.{Piece}
use Rattle.fare_law.specs.declared.requests.Request.{Request}
use Rattle.fare_law.specs.declared.requests.Slice.{Slice}
use Rattle.fare_law.specs.Book.{Book}
use Rattle.fare_law.specs.Lists.{Matched}
use Rattle.fare_law.specs.Parts.{Numbers, StandsFor, ComponentLawful, price_of}
use Rattle.fare_law.specs.declared.moves.Move.{Move}
use Rattle.open_unit.specs.declared.units.OpenUnit.{OpenUnit}
use Rattle.flight_paths.specs.declared.positions.Position.{Position}
use Rattle.fare_law.specs.declared.moves.Role.{Role}
use Rattle.fare_law.specs.declared.moves.Role.TheVariants.{Alone, Opens, GoesOn, Closes}
use Rattle.residual_keys.specs.declared.parts.TicketPart.{TicketPart}
use Rattle.open_unit.specs.OpenUnits.{opened, gone_on, unit_steps}
use Rattle.flight_paths.specs.Positions.{Fits, Flies}
use Rattle.residual_keys.specs.Residuals.{State, begins, part_with, PartAllows, UnitStep, Moves, Run}
use Rattle.residual_keys.proofs.Fitting.{flies_fits, is_path}
use Rattle.residual_keys.proofs.TicketParts.{PartRun}
use Rattle.unit_labels.specs.Labels.{Part, Alone as StaysAlone, Opens as Opening, GoesOn as GoingOn, Closes as Closing}
use Rattle.unit_labels.specs.UnitRuns.{UnitRun}

-- a component's flights with what they are to its fare
pub record Item : Type 0 where
  pub flights : List Flight
  pub piece : Piece

abbrev pub mark : Role → ℕ → Part
mark Alone s = StaysAlone
mark Opens s = Opening
mark GoesOn s = GoingOn s
mark Closes s = Closing s

abbrev pub ZeroSlot : Role → ℕ → Type 0
ZeroSlot Alone s = s ≡ 0
ZeroSlot Opens s = s ≡ 0
ZeroSlot GoesOn s = Unit {0}
ZeroSlot Closes s = Unit {0}

pub record ItemOf (b : Book) (q : Request) (m : Move) (x : Item) : Type 0 where
  pub some : m.flights ≢ []
  pub numbers : Numbers b m.flights x.flights
  pub stands : StandsFor b q.sale x.piece.fare.key x.flights x.piece
  pub carrier : m.carrier ≡ x.piece.fare.key.carrier
  pub basis : m.basis ≡ x.piece.fare.key.basis
  pub lawful : ComponentLawful b q.party x.flights x.piece
  pub zero_slot : ZeroSlot m.role m.slot

abbrev pub mark_of : Move → Part
mark_of m = mark m.role m.slot

abbrev pub total : List Item → ℕ
total xs = sum_by (λ x. price_of x.flights x.piece) xs

pub total_more : (x : Item) (xs : List Item) → total (x ∷ xs) ≡ price_of x.flights x.piece + total xs
total_more x xs = sum_by-cons (λ y. price_of y.flights y.piece) x xs

-- a run seen from each side
pub record Sides (b : Book) (q : Request) (at : Position) (us : List OpenUnit) (t : TicketPart) (ms : List Move) (xs : List Item) : Type 0 where
  pub items : Matched (ItemOf b q) ms xs
  pub flies : Flies b q.slices (Some at) (flat_map (λ m. m.flights) ms) (flat_map (λ x. x.flights) xs) None
  pub units : UnitRun unit_steps us (map mark_of ms) (map (λ x. x.piece) xs)
  pub part : PartRun t (map (λ m. begins m.role) ms) (map (λ x. x.piece) xs)

pub flies_numbers : (b : Book) (sl : List Slice) (s e : Option Position) (ns : List ℕ) (fs : List Flight) → Flies b sl s ns fs e → Numbers b ns fs
flies_numbers b sl s e [] [] h = tt
flies_numbers b sl s e [] (f ∷ fs) h = absurd h
flies_numbers b sl s e (n ∷ ns) [] h = absurd h
flies_numbers b sl None e (n ∷ ns) (f ∷ fs) h = absurd h
flies_numbers b sl (Some at) e (n ∷ ns) (f ∷ fs) (s, is, t, next, leads, rest) = (t.known, flies_numbers b sl next e ns fs rest)

flies_append : (b : Book) (sl : List Slice) (s m e : Option Position) (ns : List ℕ) (fs : List Flight) (ns' : List ℕ) (fs' : List Flight) → Flies b sl s ns fs m → Flies b sl m ns' fs' e → Flies b sl s (ns ++ ns') (fs ++ fs') e
flies_append b sl s m e [] [] ns' fs' h k = subst (λ x. Flies b sl x ns' fs' e) h k
flies_append b sl s m e [] (f ∷ fs) ns' fs' h k = absurd h
flies_append b sl s m e (n ∷ ns) [] ns' fs' h k = absurd h
flies_append b sl None m e (n ∷ ns) (f ∷ fs) ns' fs' h k = absurd h
flies_append b sl (Some at) m e (n ∷ ns) (f ∷ fs) ns' fs' (s, is, t, next, leads, rest) k = (s, is, t, next, leads, flies_append b sl next m e ns fs ns' fs' rest k)

flies_split : (b : Book) (sl : List Slice) (s e : Option Position) (ns : List ℕ) (fs : List Flight) (ns' : List ℕ) (fs' : List Flight) → Numbers b ns fs → Flies b sl s (ns ++ ns') (fs ++ fs') e
    → (m : Option Position) × Flies b sl s ns fs m × Flies b sl m ns' fs' e
flies_split b sl s e [] [] ns' fs' n h = (s, refl, h)
flies_split b sl s e [] (f ∷ fs) ns' fs' n h = absurd n
flies_split b sl s e (k ∷ ns) [] ns' fs' n h = absurd n
flies_split b sl None e (k ∷ ns) (f ∷ fs) ns' fs' n h = absurd h
flies_split b sl (Some at) e (k ∷ ns) (f ∷ fs) ns' fs' n (s, is, t, next, leads, rest) =
    let r = flies_split b sl next e ns fs ns' fs' n.1 rest in
    (r.0, (s, is, t, next, leads, r.1), r.2)

step_run : (r : Role) (s : ℕ) (us us' : List OpenUnit) (p : Piece) (ms : List Part) (ps : List Piece) → UnitStep r s us p us' → UnitRun unit_steps us' ms ps → UnitRun unit_steps us (mark r s ∷ ms) (p ∷ ps)
step_run Alone s us us' p ms ps h k = (h.1, subst (λ x. UnitRun unit_steps x ms ps) h.2 k)
step_run Opens s us us' p ms ps h k = (h.1, h.2, subst (λ x. UnitRun unit_steps x ms ps) h.3 k)
step_run GoesOn s us us' p ms ps h k = (h.0, h.1, h.2, subst (λ x. UnitRun unit_steps x ms ps) h.3 k)
step_run Closes s us us' p ms ps h k = (h.0, h.1, h.2, subst (λ x. UnitRun unit_steps x ms ps) h.3 k)

run_step : (r : Role) (s : ℕ) (us : List OpenUnit) (p : Piece) (ms : List Part) (ps : List Piece) → ZeroSlot r s → UnitRun unit_steps us (mark r s ∷ ms) (p ∷ ps)
    → (us' : List OpenUnit) × UnitStep r s us p us' × UnitRun unit_steps us' ms ps
run_step Alone s us p ms ps z h = (us, (z, h.0, refl), h.1)
run_step Opens s us p ms ps z h = (us ++ opened p ∷ [], (z, h.0, h.1, refl), h.2)
run_step GoesOn s us p ms ps z h = (set us s (gone_on h.0 p), (h.0, h.1, h.2, refl), h.3)
run_step Closes s us p ms ps z h = (remove us s, (h.0, h.1, h.2, refl), h.3)

step_zero : (r : Role) (s : ℕ) (us us' : List OpenUnit) (p : Piece) → UnitStep r s us p us' → ZeroSlot r s
step_zero Alone s us us' p h = h.0
step_zero Opens s us us' p h = h.0
step_zero GoesOn s us us' p h = tt
step_zero Closes s us us' p h = tt

item_of : (b : Book) (q : Request) (r : State) (m : Move) (fs : List Flight) (p : Piece) (next : Option Position) (us : List OpenUnit) → Moves b q r m fs p next us → ItemOf b q m (record { flights = fs; piece = p })
item_of b q r m fs p next us h = record {
  some = h.path.some;
  numbers = flies_numbers b q.slices (Some r.at) next m.flights fs h.path.flies;
  stands = h.stands;
  carrier = h.carrier;
  basis = h.basis;
  lawful = h.lawful;
  zero_slot = step_zero m.role m.slot r.units us p h.units;
}

-- A run, side by side.
pub run_sides : (b : Book) (q : Request) (r : State) (ms : List Move) (price : ℕ) → Run b q r ms price → (xs : List Item) × Sides b q r.at r.units r.part ms xs × (price ≡ total xs)
run_sides b q r [] price h = absurd h
run_sides b q r (m ∷ []) price (fs, p, mv, e) = (
  record { flights = fs; piece = p } ∷ [],
  record {
    items = (item_of b q r m fs p None [] mv, tt);
    flies = flies_append b q.slices (Some r.at) None None m.flights fs [] [] mv.path.flies refl;
    units = step_run m.role m.slot r.units [] p [] [] mv.units refl;
    part = (mv.part, tt);
  },
  e ∙ plus_zero (price_of fs p) ∙ sym (total_more (record { flights = fs; piece = p }) []),
)
  where
    plus_zero : (n : ℕ) → n ≡ n + 0
    plus_zero n = omega arith
run_sides b q r (m ∷ n ∷ ms) price (fs, p, at, us, rest, mv, run, e) =
    let k = run_sides b q (record { at = at; units = us; part = part_with r.part (begins m.role) p }) (n ∷ ms) rest run in (
      record { flights = fs; piece = p } ∷ k.0,
      record {
        items = (item_of b q r m fs p (Some at) us mv, k.1.items);
        flies = flies_append b q.slices (Some r.at) (Some at) None m.flights fs _ _ mv.path.flies k.1.flies;
        units = step_run m.role m.slot r.units us p _ _ mv.units k.1.units;
        part = (mv.part, k.1.part);
      },
      e ∙ ap (λ x. price_of fs p + x) k.2 ∙ sym (total_more (record { flights = fs; piece = p }) k.0),
    )

move_of_item : (b : Book) (q : Request) (r : State) (m : Move) (x : Item) (next : Option Position) (us : List OpenUnit) → Fits b q.slices r.at → ItemOf b q m x → Flies b q.slices (Some r.at) m.flights x.flights next → UnitStep m.role m.slot r.units x.piece us
    → PartAllows (part_with r.part (begins m.role) x.piece) → IfNone next (us ≡ []) → Moves b q r m x.flights x.piece next us
move_of_item b q r m x next us ok i f u a d = record { path = is_path b q.slices r.at m.flights x.flights next ok i.some i.lawful.shape f; stands = i.stands; carrier = i.carrier; basis = i.basis; lawful = i.lawful; units = u; part = a; done = d }

-- And the sides together.
pub sides_run : (b : Book) (q : Request) (r : State) (ms : List Move) (xs : List Item) → Fits b q.slices r.at → Sides b q r.at r.units r.part ms xs → Run b q r ms (total xs)
sides_run b q r [] [] ok s = none_some s.flies
  where
    none_some : None ≡ Some r.at → ⊥
    none_some e = cc
sides_run b q r [] (x ∷ xs) ok s = absurd s.items
sides_run b q r (m ∷ ms) [] ok s = absurd s.items
sides_run b q r (m ∷ []) (x ∷ []) ok s =
    let f = flies_split b q.slices (Some r.at) None m.flights x.flights [] [] s.items.0.numbers s.flies in
    let u = run_step m.role m.slot r.units x.piece [] [] s.items.0.zero_slot s.units in (
      x.flights,
      x.piece,
      move_of_item b q r m x None [] ok s.items.0 (subst (λ y. Flies b q.slices (Some r.at) m.flights x.flights y) (sym f.2) f.1)
          (subst (λ y. UnitStep m.role m.slot r.units x.piece y) u.2 u.1) s.part.0 refl,
      total_more x [] ∙ plus_zero (price_of x.flights x.piece),
    )
  where
    plus_zero : (n : ℕ) → n + 0 ≡ n
    plus_zero n = omega arith
sides_run b q r (m ∷ []) (x ∷ y ∷ xs) ok s = absurd s.items.1
sides_run b q r (m ∷ n ∷ ms) (x ∷ []) ok s = absurd s.items.1
sides_run b q r (m ∷ n ∷ ms) (x ∷ y ∷ xs) ok s =
    let f = flies_split b q.slices (Some r.at) None m.flights x.flights _ _ s.items.0.numbers s.flies in
    let u = run_step m.role m.slot r.units x.piece _ _ s.items.0.zero_slot s.units in
    let a = goes_on n.flights _ _ f.0 s.items.1.0.some f.2 in
    let path = subst (λ z. Flies b q.slices (Some r.at) m.flights x.flights z) a.1 f.1 in (
      x.flights,
      x.piece,
      a.0,
      u.0,
      total (y ∷ xs),
      move_of_item b q r m x (Some a.0) u.0 ok s.items.0 path u.1 s.part.0 tt,
      sides_run b q (record { at = a.0; units = u.0; part = part_with r.part (begins m.role) x.piece }) (n ∷ ms) (y ∷ xs) (flies_fits b q.slices (Some r.at) m.flights x.flights (Some a.0) ok path)
          (record { items = s.items.1; flies = subst (λ z. Flies b q.slices z (flat_map (λ k. k.flights) (n ∷ ms)) (flat_map (λ k. k.flights) (y ∷ xs)) None) a.1 f.2; units = u.2; part = s.part.1 }),
      total_more x (y ∷ xs),
    )
  where
    goes_on : (ns rest : List ℕ) (fs : List Flight) (z : Option Position) → ns ≢ [] → Flies b q.slices z (ns ++ rest) fs None → (at : Position) × (z ≡ Some at)
    goes_on [] rest fs z ne h = absurd (ne refl)
    goes_on (k ∷ ns) rest [] z ne h = absurd h
    goes_on (k ∷ ns) rest (g ∷ fs) None ne h = absurd h
    goes_on (k ∷ ns) rest (g ∷ fs) (Some at) ne h = (at, refl)
