-- The runs from the root are the moves of the lawful tickets, with their price and code. Given on to the crates above.
use Rattle.std.proofs.Common.{◌≡◌, ◌≢◌, ℕ, suc, ◌+◌, Bool, true, false, cond, nat_le, List, [], ◌∷◌, ◌++◌, length, map, flat_map, sum_by, slice_get, Option, Some, None, sym, refl, ap, ap₂, ◌∙◌, subst, arith}
use Rattle.std.proofs.lemmas.List.Sums.{sum_by-cons}
use Rattle.fare_law.specs.declared.tickets.Component.{Component}
use Rattle.fare_law.specs.declared.fares.FareKey.{FareKey}
use Rattle.fare_law.specs.declared.flights.Flight.{Flight}
use Rattle.fare_law.specs.declared.tickets.Piece.{Piece}
use Rattle.fare_law.specs.declared.requests.Request.{Request}
use Rattle.fare_law.specs.declared.tickets.Ticket.{Ticket}
use Rattle.fare_law.specs.Book.{Book}
use Rattle.fare_law.specs.Lawful.{comes_in, PartsLawful, Lawful}
use Rattle.fare_law.specs.Parts.{Part, IsPart, Numbers, StandsFor, ComponentLawful, price_of}
use Rattle.fare_law.specs.Lists.{Each, Matched}
use Rattle.fare_law.specs.Best.{Costs}
use Rattle.fare_law.specs.Moves.{slot_number, open_below, role_of, move_of, moves_after, moves_of}
use Rattle.fare_law.specs.declared.moves.Move.{Move}
use Rattle.flight_paths.specs.declared.positions.Position.{Position}
use Rattle.fare_law.specs.declared.moves.Role.{Role}
use Rattle.fare_law.specs.declared.moves.Role.TheVariants.{Alone, Opens, GoesOn, Closes}
use Rattle.open_unit.specs.OpenUnits.{unit_steps}
use Rattle.flight_paths.specs.Positions.{Flies, before_slice}
use Rattle.residual_keys.specs.Residuals.{State, begins, no_part, Run, RunFromRoot}
use Rattle.fare_law.specs.Moves.{role_of, move_of, moves_after, moves_of}
use Rattle.fare_law.specs.Flights.{Ascending}
use Rattle.residual_keys.proofs.Runs.{Item, mark, ZeroSlot, ItemOf, mark_of, total, Sides, run_sides, sides_run}
use Rattle.residual_keys.proofs.TicketParts.{PartRun, is_new, news}
use Rattle.residual_keys.proofs.Wholes.{labels, pieces, flights, same_count, Machines, machines_lawful, lawful_machines}
use Rattle.unit_labels.specs.Labels.{LawfulLabels, LabelRun, part_of, parts_of, parts_between, slot_of, labels_so_far, Part as Mark, Alone as StaysAlone, Opens as Opening, GoesOn as GoingOn, Closes as Closing}
use Rattle.unit_labels.specs.UnitRuns.{UnitRun, EachAccepted}
use Rattle.unit_labels.proofs.LabelLaw.{label_laws}
use Rattle.unit_labels.proofs.UnitJoin.{unit_laws}
use Rattle.residual_keys.proofs.Fitting.{root_fits}
use Rattle.ticket_order.proofs.LiveKeys.{live_key}

-- the part of a component in its unit, as its code has it
abbrev between : List ℕ → ℕ → List ℕ → Mark
between before l after =
    cond (comes_in l before)
    (cond (comes_in l after) (GoingOn (open_below before l after)) (Closing (open_below before l after)))
    (cond (comes_in l after) Opening StaysAlone)

-- the role and slot of a component as the machine's mark
role_mark : (before : List ℕ) (l : ℕ) (after : List ℕ) → (mark (role_of before l after) (slot_number before l after) ≡ between before l after) × ZeroSlot (role_of before l after) (slot_number before l after)
role_mark before l after = go (comes_in l before) (comes_in l after) (open_below before l after)
  where
    go : (x c : Bool) (o : ℕ) → (mark (cond x (cond c GoesOn Closes) (cond c Opens Alone)) (cond x o 0) ≡ cond x (cond c (GoingOn o) (Closing o)) (cond c Opening StaysAlone)) × ZeroSlot (cond x (cond c GoesOn Closes) (cond c Opens Alone)) (cond x o 0)
    go true true o = (refl, tt)
    go true false o = (refl, tt)
    go false true o = (refl, refl)
    go false false o = (refl, refl)

-- a mark shows its role and slot
mark_shows : (r s : Role) (i j : ℕ) → ZeroSlot r i → ZeroSlot s j → mark r i ≡ mark s j → (r ≡ s) × (i ≡ j)
mark_shows Alone Alone i j z w e = (refl, z ∙ sym w)
mark_shows Alone Opens i j z w e = cc
mark_shows Alone GoesOn i j z w e = cc
mark_shows Alone Closes i j z w e = cc
mark_shows Opens Alone i j z w e = cc
mark_shows Opens Opens i j z w e = (refl, z ∙ sym w)
mark_shows Opens GoesOn i j z w e = cc
mark_shows Opens Closes i j z w e = cc
mark_shows GoesOn Alone i j z w e = cc
mark_shows GoesOn Opens i j z w e = cc
mark_shows GoesOn GoesOn i j z w e = (refl, cc)
mark_shows GoesOn Closes i j z w e = cc
mark_shows Closes Alone i j z w e = cc
mark_shows Closes Opens i j z w e = cc
mark_shows Closes GoesOn i j z w e = cc
mark_shows Closes Closes i j z w e = (refl, cc)

-- which marks begin a unit
starts : Mark → Bool
starts StaysAlone = true
starts Opening = true
starts (GoingOn s) = false
starts (Closing s) = false

begins_starts : (r : Role) (s : ℕ) → begins r ≡ starts (mark r s)
unfolding starts
begins_starts Alone s = refl
begins_starts Opens s = refl
begins_starts GoesOn s = refl
begins_starts Closes s = refl

starts_new : (n l : ℕ) (after : List ℕ) → starts (part_of n l after) ≡ is_new n l
unfolding starts
starts_new n l after = go (nat_le l n) (comes_in l after)
  where
    go : (x c : Bool) → starts (cond x (cond c (GoingOn (slot_of l after)) (Closing (slot_of l after))) (cond c Opening StaysAlone)) ≡ cond x false true
    go true true = refl
    go true false = refl
    go false true = refl
    go false false = refl

begins_news : (n : ℕ) (ms : List Move) (ls : List ℕ) → map mark_of ms ≡ parts_of n ls → map (λ m. begins m.role) ms ≡ news n ls
begins_news n [] [] e = refl
begins_news n [] (l ∷ ls) e = cc
begins_news n (m ∷ ms) [] e = cc
begins_news n (m ∷ ms) (l ∷ ls) e =
    let h : mark_of m ≡ part_of n l ls = cc in
    let t : map mark_of ms ≡ parts_of (labels_so_far n l) ls = cc in
    ap₂ (λ x xs. x ∷ xs) (begins_starts m.role m.slot ∙ ap starts h ∙ starts_new n l ls) (begins_news (labels_so_far n l) ms ls t)

-- the ticket of a run, from its moves, its items and its labels
components : List Move → List Item → List ℕ → List Component
components [] xs ls = []
components (m ∷ ms) [] ls = []
components (m ∷ ms) (x ∷ xs) [] = []
components (m ∷ ms) (x ∷ xs) (l ∷ ls) = record { flights = m.flights; fare = x.piece.fare.key; unit = l } ∷ components ms xs ls

parts : List Item → List ℕ → List Part
parts [] ls = []
parts (x ∷ xs) [] = []
parts (x ∷ xs) (l ∷ ls) = record { flights = x.flights; piece = x.piece; unit = l } ∷ parts xs ls

parts_labels : (xs : List Item) (ls : List ℕ) → length ls ≡ length xs → labels (parts xs ls) ≡ ls
unfolding parts
parts_labels [] [] e = refl
parts_labels [] (l ∷ ls) e = absurd (omega arith)
parts_labels (x ∷ xs) [] e = absurd (omega arith)
parts_labels (x ∷ xs) (l ∷ ls) e = ap (λ r. l ∷ r) (parts_labels xs ls (omega arith))

parts_pieces : (xs : List Item) (ls : List ℕ) → length ls ≡ length xs → pieces (parts xs ls) ≡ map (λ x. x.piece) xs
unfolding parts
parts_pieces [] [] e = refl
parts_pieces [] (l ∷ ls) e = absurd (omega arith)
parts_pieces (x ∷ xs) [] e = absurd (omega arith)
parts_pieces (x ∷ xs) (l ∷ ls) e = ap (λ r. x.piece ∷ r) (parts_pieces xs ls (omega arith))

parts_flights : (xs : List Item) (ls : List ℕ) → length ls ≡ length xs → flights (parts xs ls) ≡ flat_map (λ x. x.flights) xs
unfolding parts
parts_flights [] [] e = refl
parts_flights [] (l ∷ ls) e = absurd (omega arith)
parts_flights (x ∷ xs) [] e = absurd (omega arith)
parts_flights (x ∷ xs) (l ∷ ls) e = ap (λ r. x.flights ++ r) (parts_flights xs ls (omega arith))

cost : List Part → ℕ
cost ps = sum_by (λ part. price_of part.flights part.piece) ps

parts_cost : (xs : List Item) (ls : List ℕ) → length ls ≡ length xs → total xs ≡ cost (parts xs ls)
unfolding parts cost
parts_cost [] [] e = refl
parts_cost [] (l ∷ ls) e = absurd (omega arith)
parts_cost (x ∷ xs) [] e = absurd (omega arith)
parts_cost (x ∷ xs) (l ∷ ls) e =
    sum_by-cons (λ y. price_of y.flights y.piece) x xs
    ∙ ap (λ r. price_of x.flights x.piece + r) (parts_cost xs ls (omega arith))
    ∙ sym (sum_by-cons (λ part. price_of part.flights part.piece) (record { flights = x.flights; piece = x.piece; unit = l }) (parts xs ls))

are_parts : (b : Book) (q : Request) (ms : List Move) (xs : List Item) (ls : List ℕ) → Matched (ItemOf b q) ms xs → length ls ≡ length xs → Matched (IsPart b q) (components ms xs ls) (parts xs ls)
unfolding components parts
are_parts b q [] [] ls m e = tt
are_parts b q [] (x ∷ xs) ls m e = absurd m
are_parts b q (m ∷ ms) [] ls h e = absurd h
are_parts b q (m ∷ ms) (x ∷ xs) [] h e = absurd (omega arith)
are_parts b q (m ∷ ms) (x ∷ xs) (l ∷ ls) h e = (record { flights = h.0.numbers; stands = h.0.stands; unit = refl }, are_parts b q ms xs ls h.1 (omega arith))

parts_components : (b : Book) (q : Request) (ms : List Move) (xs : List Item) (ls : List ℕ) → Matched (ItemOf b q) ms xs → length ls ≡ length xs → Each (λ part. ComponentLawful b q.party part.flights part.piece) (parts xs ls)
unfolding parts
parts_components b q [] [] ls m e = tt
parts_components b q [] (x ∷ xs) ls m e = absurd m
parts_components b q (m ∷ ms) [] ls h e = absurd h
parts_components b q (m ∷ ms) (x ∷ xs) [] h e = tt
parts_components b q (m ∷ ms) (x ∷ xs) (l ∷ ls) h e = (h.0.lawful, parts_components b q ms xs ls h.1 (omega arith))

component_labels : (b : Book) (q : Request) (ms : List Move) (xs : List Item) (ls : List ℕ) → Matched (ItemOf b q) ms xs → length ls ≡ length xs → map (λ d. d.unit) (components ms xs ls) ≡ ls
unfolding components
component_labels b q [] [] [] m e = refl
component_labels b q [] [] (l ∷ ls) m e = absurd (omega arith)
component_labels b q [] (x ∷ xs) ls m e = absurd m
component_labels b q (m ∷ ms) [] ls h e = absurd h
component_labels b q (m ∷ ms) (x ∷ xs) [] h e = absurd (omega arith)
component_labels b q (m ∷ ms) (x ∷ xs) (l ∷ ls) h e = ap (λ r. l ∷ r) (component_labels b q ms xs ls h.1 (omega arith))

-- its moves are the run's
moves_are : (b : Book) (q : Request) (before : List ℕ) (ms : List Move) (xs : List Item) (ls : List ℕ) → Matched (ItemOf b q) ms xs → length ls ≡ length xs → map mark_of ms ≡ parts_between before ls
    → moves_after before (components ms xs ls) ≡ ms
unfolding components
moves_are b q before [] xs ls h e t = refl
moves_are b q before (m ∷ ms) [] ls h e t = absurd h
moves_are b q before (m ∷ ms) (x ∷ xs) [] h e t = absurd (omega arith)
moves_are b q before (m ∷ ms) (x ∷ xs) (l ∷ ls) h e t =
    let hd : mark_of m ≡ between before l ls = cc in
    let tl : map mark_of ms ≡ parts_between (before ++ l ∷ []) ls = cc in
    let units = component_labels b q ms xs ls h.1 (omega arith) in
    let r = role_mark before l ls in
    let w = mark_shows (role_of before l ls) m.role (slot_number before l ls) m.slot r.1 h.0.zero_slot (r.0 ∙ sym hd) in
    ap₂ (λ y ys. y ∷ ys)
    (ap (λ us. move_of before (record { flights = m.flights; fare = x.piece.fare.key; unit = l }) us) units ∙ same_move m x (role_of before l ls) (slot_number before l ls) (sym h.0.carrier) (sym h.0.basis) w.0 w.1)
    (moves_are b q (before ++ l ∷ []) ms xs ls h.1 (omega arith) tl)
  where
    same_move : (m : Move) (x : Item) (r : Role) (s : ℕ) → x.piece.fare.key.carrier ≡ m.carrier → x.piece.fare.key.basis ≡ m.basis → r ≡ m.role → s ≡ m.slot
        → (let k : Move = record { flights = m.flights; carrier = x.piece.fare.key.carrier; basis = x.piece.fare.key.basis; role = r; slot = s } in k) ≡ m
    same_move m x r s c d e f = λ i. record { flights = m.flights; carrier = c i; basis = d i; role = e i; slot = f i }

not_empty : (b : Book) (q : Request) (r : State) (ms : List Move) (xs : List Item) (ls : List ℕ) (price : ℕ) → Run b q r ms price → Matched (ItemOf b q) ms xs → length ls ≡ length xs → components ms xs ls ≢ []
unfolding components
not_empty b q r [] xs ls price run h e z = run
not_empty b q r (m ∷ ms) [] ls price run h e z = h
not_empty b q r (m ∷ ms) (x ∷ xs) [] price run h e z = omega arith
not_empty b q r (m ∷ ms) (x ∷ xs) (l ∷ ls) price run h e z = cc

-- Each run from the root is the moves of a lawful ticket of its price.
pub run_ticket : (b : Book) (q : Request) → Ascending b.timetable.flights → (ms : List Move) (price : ℕ) → RunFromRoot b q ms price → (t : Ticket) × Lawful t b q × (moves_of t ≡ ms) × Costs t b q price
unfolding cost
run_ticket b q asc ms price (at, root, run) =
    let r = run_sides b q (record { at = at; units = []; part = no_part }) ms price run in
    let xs = r.0 in
    let s = r.1 in
    let g = (unit_laws unit_steps).apart (map mark_of ms) (map (λ x. x.piece) xs) s.units in
    let ls = g.0 in
    let same : length ls ≡ length xs = g.2 ∙ same_length xs in
    let law = (label_laws.runs (map mark_of ms) ls).0 g.1 in
    let between : map mark_of ms ≡ parts_between [] ls = law.1 ∙ sym (label_laws.coded ls law.0.0) in
    let ps = parts xs ls in
    let el = parts_labels xs ls same in
    let ep = parts_pieces xs ls same in
    let machines : Machines b q (flat_map (λ m. m.flights) ms) ps = record {
      flies = subst (λ fs. Flies b q.slices (before_slice b 0 (slice_get q.slices 0) None) (flat_map (λ m. m.flights) ms) fs None) (sym (parts_flights xs ls same))
          (subst (λ z. Flies b q.slices z (flat_map (λ m. m.flights) ms) (flat_map (λ x. x.flights) xs) None) (sym root) s.flies);
      components = parts_components b q ms xs ls s.items same;
      labelled = subst LawfulLabels (sym el) law.0;
      units = subst (λ z. EachAccepted unit_steps z (pieces ps)) (sym el) (subst (λ z. EachAccepted unit_steps ls z) (sym ep) g.3);
      part = subst (λ z. PartRun no_part (news 0 z) (pieces ps)) (sym el) (subst (λ z. PartRun no_part (news 0 ls) z) (sym ep) (subst (λ z. PartRun no_part z (map (λ x. x.piece) xs)) (begins_news 0 ms ls law.1) s.part));
    } in (
      record { components = components ms xs ls },
      (ps, are_parts b q ms xs ls s.items same, machines_lawful b q (flat_map (λ m. m.flights) ms) ps asc machines, not_empty b q _ ms xs ls price run s.items same),
      moves_are b q [] ms xs ls s.items same between,
      (ps, are_parts b q ms xs ls s.items same, r.2 ∙ parts_cost xs ls same),
    )
  where
    same_length : (xs : List Item) → length (map (λ x. x.piece) xs) ≡ length xs
    same_length [] = refl
    same_length (x ∷ xs) = ap suc (same_length xs)

-- the items of a ticket's parts
pub items : List Part → List Item
items [] = []
items (x ∷ ps) = record { flights = x.flights; piece = x.piece } ∷ items ps

items_pieces : (ps : List Part) → map (λ x. x.piece) (items ps) ≡ pieces ps
unfolding items
items_pieces [] = refl
items_pieces (x ∷ ps) = ap (λ r. x.piece ∷ r) (items_pieces ps)

items_flights : (ps : List Part) → flat_map (λ x. x.flights) (items ps) ≡ flights ps
unfolding items
items_flights [] = refl
items_flights (x ∷ ps) = ap (λ r. x.flights ++ r) (items_flights ps)

items_cost : (ps : List Part) → total (items ps) ≡ cost ps
unfolding items cost
items_cost [] = refl
items_cost (x ∷ ps) =
    sum_by-cons (λ y. price_of y.flights y.piece) (record { flights = x.flights; piece = x.piece }) (items ps)
    ∙ ap (λ r. price_of x.flights x.piece + r) (items_cost ps)
    ∙ sym (sum_by-cons (λ part. price_of part.flights part.piece) x ps)

units_same : (b : Book) (q : Request) (cs : List Component) (ps : List Part) → Matched (IsPart b q) cs ps → map (λ d. d.unit) cs ≡ labels ps
units_same b q [] [] m = refl
units_same b q [] (x ∷ ps) m = absurd m
units_same b q (c ∷ cs) [] m = absurd m
units_same b q (c ∷ cs) (x ∷ ps) m = ap₂ (λ l ls. l ∷ ls) (sym m.0.unit) (units_same b q cs ps m.1)

numbers_append : (b : Book) (ns : List ℕ) (fs : List Flight) (ns' : List ℕ) (fs' : List Flight) → Numbers b ns fs → Numbers b ns' fs' → Numbers b (ns ++ ns') (fs ++ fs')
numbers_append b [] [] ns' fs' h k = k
numbers_append b [] (f ∷ fs) ns' fs' h k = absurd h
numbers_append b (n ∷ ns) [] ns' fs' h k = absurd h
numbers_append b (n ∷ ns) (f ∷ fs) ns' fs' h k = (h.0, numbers_append b ns fs ns' fs' h.1 k)

all_numbers : (b : Book) (q : Request) (before : List ℕ) (cs : List Component) (ps : List Part) → Matched (IsPart b q) cs ps → Numbers b (flat_map (λ m. m.flights) (moves_after before cs)) (flights ps)
all_numbers b q before [] [] m = tt
all_numbers b q before [] (x ∷ ps) m = absurd m
all_numbers b q before (c ∷ cs) [] m = absurd m
all_numbers b q before (c ∷ cs) (x ∷ ps) m = numbers_append b c.flights x.flights _ _ m.0.flights (all_numbers b q (before ++ c.unit ∷ []) cs ps m.1)

some_flights : (b : Book) (sale : _) (key : FareKey) (ns : List ℕ) (fs : List Flight) (p : Piece) → Numbers b ns fs → StandsFor b sale key fs p → ns ≢ []
some_flights b sale key [] [] p n h e = h.begins
some_flights b sale key [] (f ∷ fs) p n h e = n
some_flights b sale key (k ∷ ns) fs p n h e = cc

-- its moves have their items, and their marks are those of its labels
moves_items : (b : Book) (q : Request) (before : List ℕ) (cs : List Component) (ps : List Part) → Matched (IsPart b q) cs ps → Each (λ part. ComponentLawful b q.party part.flights part.piece) ps
    → Matched (ItemOf b q) (moves_after before cs) (items ps) × (map mark_of (moves_after before cs) ≡ parts_between before (map (λ d. d.unit) cs))
unfolding items
moves_items b q before [] [] m h = (tt, refl)
moves_items b q before [] (x ∷ ps) m h = absurd m
moves_items b q before (c ∷ cs) [] m h = absurd m
moves_items b q before (c ∷ cs) (x ∷ ps) m h =
    let us = map (λ d. d.unit) cs in
    let r = role_mark before c.unit us in
    let rest = moves_items b q (before ++ c.unit ∷ []) cs ps m.1 h.1 in
    let key : x.piece.fare.key ≡ c.fare = live_key b c.fare x.piece.fare m.0.stands.fare in (
      (
        record {
          some = some_flights b q.sale c.fare c.flights x.flights x.piece m.0.flights m.0.stands;
          numbers = m.0.flights;
          stands = subst (λ f. StandsFor b q.sale f x.flights x.piece) (sym key) m.0.stands;
          carrier = ap (λ f. f.carrier) (sym key);
          basis = ap (λ f. f.basis) (sym key);
          lawful = h.0;
          zero_slot = r.1;
        },
        rest.0,
      ),
      ap₂ (λ y ys. y ∷ ys) r.0 rest.1,
    )

root_some : (b : Book) (q : Request) (ns : List ℕ) (fs : List Flight) → ns ≢ [] → Flies b q.slices (before_slice b 0 (slice_get q.slices 0) None) ns fs None → (at : Position) × (before_slice b 0 (slice_get q.slices 0) None ≡ Some at)
root_some b q [] fs ne h = absurd (ne refl)
root_some b q (n ∷ ns) fs ne h = go (before_slice b 0 (slice_get q.slices 0) None) fs h
  where
    go : (z : Option Position) (fs : List Flight) → Flies b q.slices z (n ∷ ns) fs None → (at : Position) × (z ≡ Some at)
    go z [] h = absurd h
    go None (f ∷ fs) h = absurd h
    go (Some at) (f ∷ fs) h = (at, refl)

some_numbers : (b : Book) (q : Request) (cs : List Component) (ps : List Part) → Matched (IsPart b q) cs ps → cs ≢ [] → flat_map (λ k. k.flights) (moves_after [] cs) ≢ []
some_numbers b q [] ps m ne e = ne refl
some_numbers b q (c ∷ cs) [] m ne e = m
some_numbers b q (c ∷ cs) (x ∷ ps) m ne e = front c.flights _ (some_flights b q.sale c.fare c.flights x.flights x.piece m.0.flights m.0.stands) e
  where
    front : (xs ys : List ℕ) → xs ≢ [] → xs ++ ys ≡ [] → ⊥
    front [] ys ne e = ne refl
    front (x ∷ xs) ys ne e = cc

-- what the moves of a lawful ticket are, from each side
pub record TicketSides (b : Book) (q : Request) (t : Ticket) (ps : List Part) : Type 0 where
  pub at : Position
  pub root : before_slice b 0 (slice_get q.slices 0) None ≡ Some at
  pub sides : Sides b q at [] no_part (moves_of t) (items ps)
  pub label_run : LabelRun 0 [] (map mark_of (moves_of t)) (map (λ d. d.unit) t.components)
  pub unit_run : UnitRun unit_steps [] (map mark_of (moves_of t)) (pieces ps)

pub ticket_sides : (b : Book) (q : Request) (t : Ticket) (ps : List Part) → Matched (IsPart b q) t.components ps → PartsLawful b q ps → t.components ≢ [] → TicketSides b q t ps
ticket_sides b q t ps m law some =
    let ms = moves_of t in
    let ns = flat_map (λ k. k.flights) ms in
    let us = units_same b q t.components ps m in
    let num = all_numbers b q [] t.components ps m in
    let machines = lawful_machines b q ns ps num law in
    let it = moves_items b q [] t.components ps m law.components in
    let marks : map mark_of ms ≡ parts_of 0 (labels ps) = it.1 ∙ ap (parts_between []) us ∙ label_laws.coded (labels ps) law.numbered in
    let run = (label_laws.runs (map mark_of ms) (labels ps)).1 (machines.labelled, marks) in
    let units = (unit_laws unit_steps).together (map mark_of ms) (labels ps) (pieces ps) run (same_count ps) machines.units in
    let at = root_some b q ns (flights ps) (some_numbers b q t.components ps m some) machines.flies in
    let sides : Sides b q at.0 [] no_part ms (items ps) = record {
      items = it.0;
      flies = subst (λ fs. Flies b q.slices (Some at.0) ns fs None) (sym (items_flights ps)) (subst (λ z. Flies b q.slices z ns (flights ps) None) at.1 machines.flies);
      units = subst (λ z. UnitRun unit_steps [] (map mark_of ms) z) (sym (items_pieces ps)) units;
      part = subst (λ z. PartRun no_part (map (λ k. begins k.role) ms) z) (sym (items_pieces ps)) (subst (λ z. PartRun no_part z (pieces ps)) (sym (begins_news 0 ms (labels ps) marks)) machines.part);
    } in
    record { at = at.0; root = at.1; sides = sides; label_run = subst (LabelRun 0 [] (map mark_of ms)) (sym us) run; unit_run = units }

-- Each lawful ticket's moves are a run from the root, of its price.
pub ticket_run : (b : Book) (q : Request) (t : Ticket) → Lawful t b q → (price : ℕ) × RunFromRoot b q (moves_of t) price × Costs t b q price
unfolding cost
ticket_run b q t (ps, m, law, some) =
    let s = ticket_sides b q t ps m law some in
    (total (items ps), (s.at, s.root, sides_run b q (record { at = s.at; units = []; part = no_part }) (moves_of t) (items ps) (root_fits b q s.at s.root) s.sides), (ps, m, items_cost ps))

pub moves_many : (before : List ℕ) (cs : List Component) → length (moves_after before cs) ≡ length cs
moves_many before [] = refl
moves_many before (c ∷ cs) = ap suc (moves_many (before ++ c.unit ∷ []) cs)
