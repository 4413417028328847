-- A lawful ticket is the ticket of its moves: a fare that closes a unit is filed from its component's end to its beginning, and each other one from the beginning to the end.
use Rattle.std.proofs.Common.{◌≡◌, ℕ, ℤ, ◌≤◌, Bool, true, false, not, ◌&&◌, ◌||◌, cond, ◌==◌, List, [], ◌∷◌, ◌++◌, length, map, filter, MatchBool, refl, sym, ap, ap₂, ◌∙◌, subst, arith, append_assoc}
use Rattle.std.proofs.lemmas.List.{map-append}
use Rattle.std.proofs.lemmas.List.Elements.{filter-append}
use Rattle.fare_law.specs.declared.fares.FareKey.{FareKey}
use Rattle.fare_law.specs.declared.flights.Flight.{Flight}
use Rattle.fare_law.specs.declared.moves.Role.TheVariants.{Alone, Opens, GoesOn, Closes}
use Rattle.fare_law.specs.declared.names.Place.{Place}
use Rattle.fare_law.specs.declared.requests.Request.{Request}
use Rattle.fare_law.specs.declared.rules.UnitKind.{UnitKind}
use Rattle.fare_law.specs.declared.rules.UnitKind.TheVariants.{OneWay, RoundTrip, OpenJaw, Circle}
use Rattle.fare_law.specs.declared.tickets.Component.{Component}
use Rattle.fare_law.specs.declared.tickets.Piece.{Piece}
use Rattle.fare_law.specs.declared.tickets.Ticket.{Ticket}
use Rattle.fare_law.specs.Book.{Book}
use Rattle.fare_law.specs.Lawful.{Lawful, Numbered, comes_in, unit_of}
use Rattle.fare_law.specs.Parts.{IsPart, Part, Numbers, StandsFor}
use Rattle.fare_law.specs.Lists.{Each, LastDiffers, Matched, OnFirst}
use Rattle.fare_law.specs.Moves.{moves_after, moves_of}
use Rattle.fare_law.specs.Units.{Forward, IsUnit, Reverse, UnitLawful}
use Rattle.fare_law.specs.declared.limits.TheConstants.{MOST_COMPONENTS}
use Rattle.ticket_order.specs.Tickets.{FiledOver, LeadFrom, TicketOfMoves, labels, market_of}
use Rattle.ticket_order.proofs.LiveKeys.{live_key}
use Rattle.ticket_order.proofs.ReadLabels.{same_is}
use Rattle.ticket_order.proofs.TicketMoves.{same_test}
use Rattle.law_lemmas.proofs.Ends.{on_last}

some : List Piece → Bool
some [] = false
some (p ∷ ps) = true

-- the last of these alone is reverse
last_of : (first : Piece) (xs : List Piece) (p : Piece) (ys : List Piece) → LastDiffers Forward Reverse (first ∷ xs ++ p ∷ ys) → p.reverse ≡ not (some ys)
unfolding some
last_of first [] p [] h = h.1
last_of first [] p (y ∷ ys) h = h.1.0
last_of first (x ∷ xs) p ys h = last_of x xs p ys h.1

-- of two or more components the last one is reverse
many_of : (xs : List Piece) (p : Piece) (ys : List Piece) → 2 ≤ length (xs ++ p ∷ ys) → LastDiffers Forward Reverse (xs ++ p ∷ ys) → p.reverse ≡ (some xs && not (some ys))
unfolding some
many_of [] p [] two h = absurd (omega arith)
many_of [] p (y ∷ ys) two h = h.0
many_of (x ∷ xs) p ys two h = last_of x xs p ys h

alone_of : (xs : List Piece) (p : Piece) (ys : List Piece) → length (xs ++ p ∷ ys) ≡ 1 → OnFirst Forward (xs ++ p ∷ ys) → p.reverse ≡ (some xs && not (some ys))
unfolding some
alone_of [] p ys one h = h
alone_of (x ∷ []) p ys one h = absurd (omega arith)
alone_of (x ∷ y ∷ xs) p ys one h = absurd (omega arith)

direction_of : (kind : UnitKind) (xs : List Piece) (p : Piece) (ys : List Piece) → IsUnit kind (xs ++ p ∷ ys) → p.reverse ≡ (some xs && not (some ys))
direction_of OneWay xs p ys h = alone_of xs p ys h.0 h.1
direction_of RoundTrip xs p ys h = many_of xs p ys (omega (arith, h.0)) h.1
direction_of OpenJaw xs p ys h = many_of xs p ys (omega (arith, h.0)) h.1
direction_of Circle xs p ys h = many_of xs p ys (omega (arith, h.0)) h.2

abbrev units : List Part → List ℕ
units ps = map (λ p. p.unit) ps

unit_split : (u : ℕ) (xs ys : List Part) → unit_of u (xs ++ ys) ≡ unit_of u xs ++ unit_of u ys
unit_split u xs ys = ap (map (λ p. p.piece)) (filter-append (λ p. p.unit == u) xs ys) ∙ map-append (λ p. p.piece) (filter (λ p. p.unit == u) xs) (filter (λ p. p.unit == u) ys)

-- a label is among these exactly where its unit has one of them
comes_some : (u : ℕ) (xs : List Part) → comes_in u (units xs) ≡ some (unit_of u xs)
unfolding some
comes_some u [] = refl
comes_some u (x ∷ xs) = ap (λ b. b || comes_in u (units xs)) (same_test x.unit u) ∙ go (comes_some u xs) (x.unit == u)
  where
    go : comes_in u (units xs) ≡ some (unit_of u xs) → (b : Bool) → (b || comes_in u (units xs)) ≡ some (map (λ p. p.piece) (cond b (x ∷ filter (λ p. p.unit == u) xs) (filter (λ p. p.unit == u) xs)))
    go rest true = refl
    go rest false = rest

own_unit : (p : Part) (ps : List Part) → unit_of p.unit (p ∷ ps) ≡ p.piece ∷ unit_of p.unit ps
own_unit p ps = ap (λ b. map (λ p. p.piece) (cond b (p ∷ filter (λ x. x.unit == p.unit) ps) (filter (λ x. x.unit == p.unit) ps))) (same_is p.unit)

-- the last of a unit, where it has more than one, is reverse
direction : (whole before : List Part) (p : Part) (after : List Part) → whole ≡ before ++ p ∷ after → UnitLawful (unit_of p.unit whole)
    → p.piece.reverse ≡ (comes_in p.unit (units before) && not (comes_in p.unit (units after)))
direction whole before p after e law =
    let split : unit_of p.unit whole ≡ unit_of p.unit before ++ p.piece ∷ unit_of p.unit after =
    ap (unit_of p.unit) e ∙ unit_split p.unit before (p ∷ after) ∙ ap (λ ps. unit_of p.unit before ++ ps) (own_unit p after) in
    direction_of law.0 (unit_of p.unit before) p.piece (unit_of p.unit after) (subst (IsUnit law.0) split law.1)
    ∙ ap₂ (λ x y. x && not y) (sym (comes_some p.unit before)) (sym (comes_some p.unit after))

market_told : (x y r : Bool) (key : FareKey) (begin end : Place) → r ≡ (x && not y) → MatchBool r ((key.from ≡ end) × (key.to ≡ begin)) ((key.from ≡ begin) × (key.to ≡ end))
    → ◌≡◌ {A = Place × Place} (key.from, key.to) (market_of (cond x (cond y GoesOn Closes) (cond y Opens Alone)) begin end)
market_told x y r key begin end e h = go x y (subst (λ z. MatchBool z ((key.from ≡ end) × (key.to ≡ begin)) ((key.from ≡ begin) × (key.to ≡ end))) e h)
  where
    pair : (a b : Place) → (key.from ≡ a) × (key.to ≡ b) → ◌≡◌ {A = Place × Place} (key.from, key.to) (a, b)
    pair a b h = λ i. (h.0 i, h.1 i)

    go : (x y : Bool) → MatchBool (x && not y) ((key.from ≡ end) × (key.to ≡ begin)) ((key.from ≡ begin) × (key.to ≡ end)) → ◌≡◌ {A = Place × Place} (key.from, key.to) (market_of (cond x (cond y GoesOn Closes) (cond y Opens Alone)) begin end)
    go true true h = pair begin end h
    go true false h = pair end begin h
    go false true h = pair begin end h
    go false false h = pair begin end h

module _ (b : Book) (sale : ℤ) where
  lead : (key : FareKey) (ns : List ℕ) (fs : List Flight) (p : Piece) → Numbers b ns fs → StandsFor b sale key fs p → LeadFrom b.timetable.flights ns p.begin p.end
  lead key ns [] p n s = absurd s.begins
  lead key ns (f ∷ fs) p n s = (f ∷ fs, n, on_last (λ g. (p.end ≡ g.to) × (p.last_day ≡ g.day)) (λ g. (p.begin ≡ f.from) × (p.end ≡ g.to)) (λ g h. (s.begins.0, h.0)) (f ∷ fs) s.ends)

  filed_over : (x y : Bool) (ns : List ℕ) (c : Component) (fs : List Flight) (p : Piece) → Numbers b c.flights fs → StandsFor b sale c.fare fs p → p.reverse ≡ (x && not y)
      → FiledOver b.timetable.flights (cond x (cond y GoesOn Closes) (cond y Opens Alone)) c
  filed_over x y ns c fs p n s e = (
    p.begin,
    p.end,
    lead c.fare c.flights fs p n s,
    subst (λ k. ◌≡◌ {A = Place × Place} (k.from, k.to) (market_of (cond x (cond y GoesOn Closes) (cond y Opens Alone)) p.begin p.end)) (live_key b c.fare p.fare s.fare) (market_told x y p.reverse p.fare.key p.begin p.end e s.filed),
  )

labels_are : (b : Book) (q : Request) (cs : List Component) (ps : List Part) → Matched (IsPart b q) cs ps → labels cs ≡ units ps
labels_are b q [] [] m = refl
labels_are b q [] (p ∷ ps) m = absurd m
labels_are b q (c ∷ cs) [] m = absurd m
labels_are b q (c ∷ cs) (p ∷ ps) m = ap₂ (λ l ls. l ∷ ls) (sym m.0.unit) (labels_are b q cs ps m.1)

each_filed : (b : Book) (q : Request) (whole before : List Part) (cs : List Component) (ps : List Part) → whole ≡ before ++ ps → Matched (IsPart b q) cs ps → Each (λ p. UnitLawful (unit_of p.unit whole)) ps
    → Matched (λ m c. FiledOver b.timetable.flights m.role c) (moves_after (units before) cs) cs
each_filed b q whole before [] [] e m laws = tt
each_filed b q whole before [] (p ∷ ps) e m laws = absurd m
each_filed b q whole before (c ∷ cs) [] e m laws = absurd m
each_filed b q whole before (c ∷ cs) (p ∷ ps) e m laws =
    let d = direction whole before p ps e laws.0 in
    let same : p.piece.reverse ≡ (comes_in c.unit (units before) && not (comes_in c.unit (labels cs))) =
    d ∙ ap₂ (λ u us. comes_in u (units before) && not (comes_in u us)) m.0.unit (sym (labels_are b q cs ps m.1)) in
    let rest = each_filed b q whole (before ++ p ∷ []) cs ps (e ∙ sym (append_assoc before (p ∷ []) ps)) m.1 laws.1 in (
      filed_over b q.sale (comes_in c.unit (units before)) (comes_in c.unit (labels cs)) c.flights c p.flights p.piece m.0.flights m.0.stands same,
      subst (λ us. Matched (λ m c. FiledOver b.timetable.flights m.role c) (moves_after us cs) cs) (more before p c m.0.unit) rest,
    )
  where
    more : (before : List Part) (p : Part) (c : Component) → p.unit ≡ c.unit → units (before ++ p ∷ []) ≡ units before ++ c.unit ∷ []
    more before p c e = map-append (λ p. p.unit) before (p ∷ []) ∙ ap (λ u. units before ++ u ∷ []) e

pub lawful_ticket : (b : Book) (q : Request) (t : Ticket) → Lawful t b q → length t.components ≤ MOST_COMPONENTS → TicketOfMoves b.timetable.flights (moves_of t) t
lawful_ticket b q t (ps, m, law, some) few = record {
  few = few;
  numbered = subst (Numbered 0) (sym (labels_are b q t.components ps m)) law.numbered;
  moves_are = refl;
  filed = each_filed b q ps [] t.components ps refl m law.units;
}
