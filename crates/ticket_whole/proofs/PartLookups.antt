-- The part that a component is, by the law and as it is looked up. This file is given on to the crates above.
use Rattle.std.proofs.Common.{◌≡◌, ◌≢◌, ◌&&◌, ◌∙◌, ℕ, ℤ, Bool, true, false, MatchBool, List, [], ◌∷◌, Some, option_map, option_and_then, map, refl, ap, sym, subst}
use Rattle.std.specs.List.{cons_option}
use Rattle.fare_law.specs.declared.fares.Fare.{Fare}
use Rattle.fare_law.specs.declared.flights.Flight.{Flight}
use Rattle.fare_law.specs.declared.names.Place.{Place}
use Rattle.fare_law.specs.declared.requests.Request.{Request}
use Rattle.fare_law.specs.declared.rules.Rule.{Rule}
use Rattle.fare_law.specs.declared.sheets.SheetRow.{SheetRow}
use Rattle.fare_law.specs.declared.tickets.Component.{Component}
use Rattle.fare_law.specs.declared.tickets.Piece.{Piece}
use Rattle.fare_law.specs.Book.{Book, live_fare, live_rule, same_place}
use Rattle.fare_law.specs.Journey.{calls}
use Rattle.fare_law.specs.Parts.{Part, IsPart, ComponentLawful, Filed, Numbers}
use Rattle.fare_law.specs.Lists.{Each, Matched, OnFirst, OnLast, AllDifferent}
use Rattle.ticket_whole.specs.Known.{known_flights, live_row, last_of, ends_of, part_over, part_of, parts_of}
use Rattle.law_lemmas.proofs.Names.{places_told}
use Rattle.law_lemmas.proofs.Tests.{not_true}
use Rattle.ticket_whole.proofs.FlightEnds.{on_last}

pub numbers_known : (b : Book) (ns : List ℕ) (fs : List Flight) → Numbers b ns fs → known_flights b ns ≡ fs
numbers_known b [] [] h = refl
numbers_known b [] (f ∷ fs) h = absurd h
numbers_known b (n ∷ ns) [] h = absurd h
numbers_known b (n ∷ ns) (f ∷ fs) h = ap (λ o. cons_option o (known_flights b ns)) h.0 ∙ ap (λ xs. f ∷ xs) (numbers_known b ns fs h.1)

pub row_live : (b : Book) (c : Component) (fare : Fare) (rule : Rule) → live_fare b c.fare ≡ Some fare → live_rule b c.fare.carrier fare.rule ≡ Some rule → live_row b c.fare ≡ Some (record { fare = fare; rule = rule })
row_live b c fare rule f r =
    ap (λ o. option_and_then (λ (x : Fare). option_map (λ (y : Rule). record { fare = x; rule = y }) (live_rule b c.fare.carrier x.rule)) o) f
    ∙ ap (λ o. option_map (λ (y : Rule). record { fare = fare; rule = y }) o) r

away_from : (p : Place) (f : Flight) (fs : List Flight) → Each (λ q. p ≢ q) (map (λ g. g.to) (f ∷ fs)) → p ≢ (last_of f fs).to
away_from p f [] h = h.0
away_from p f (g ∷ fs) h = away_from p g fs h.1

and_false : (a b : Bool) → a ≡ false → a && b ≡ false
and_false true b e = absurd (cc)
and_false false b e = refl

and_true : (a b : Bool) → a ≡ true → b ≡ true → a && b ≡ true
and_true true true e f = refl
and_true true false e f = absurd (cc)
and_true false b e f = absurd (cc)

-- whether a fare is reverse is told by its ends, where these differ
direction : (p : Piece) (begin end : Place) → p.begin ≡ begin → p.end ≡ end → begin ≢ end → (r : Bool) → p.reverse ≡ r → Filed p → (same_place p.fare.key.from end && same_place p.fare.key.to begin) ≡ r
direction p begin end b e differ false is h =
    let filed = subst (λ t. MatchBool t ((p.fare.key.from ≡ p.end) × (p.fare.key.to ≡ p.begin)) ((p.fare.key.from ≡ p.begin) × (p.fare.key.to ≡ p.end))) is h in
    and_false _ _ (not_true _ (λ t. differ (sym (filed.0 ∙ b) ∙ (places_told p.fare.key.from end).0 t)))
direction p begin end b e differ true is h =
    let filed = subst (λ t. MatchBool t ((p.fare.key.from ≡ p.end) × (p.fare.key.to ≡ p.begin)) ((p.fare.key.from ≡ p.begin) × (p.fare.key.to ≡ p.end))) is h in
    and_true _ _ ((places_told p.fare.key.from end).1 (filed.0 ∙ e)) ((places_told p.fare.key.to begin).1 (filed.1 ∙ b))

pub part_same : (sale : ℤ) (unit : ℕ) (row : SheetRow) (part : Part) (f : Flight) (fs : List Flight)
    → part.flights ≡ f ∷ fs → part.piece.begin ≡ f.from → part.piece.end ≡ (last_of f fs).to → part.piece.fare ≡ row.fare → part.piece.rule ≡ row.rule
    → (same_place row.fare.key.from (last_of f fs).to && same_place row.fare.key.to f.from) ≡ part.piece.reverse
    → part.piece.first_day ≡ f.day → part.piece.last_day ≡ (last_of f fs).day → part.piece.sale ≡ sale → part.unit ≡ unit
    → part_over sale unit row (f ∷ fs) (f, last_of f fs) ≡ part
part_same sale unit row part f fs a b c d e g h i j k =
    let piece : ◌≡◌ {A = Piece} (record { begin = f.from; end = (last_of f fs).to; fare = row.fare; rule = row.rule; reverse = same_place row.fare.key.from (last_of f fs).to && same_place row.fare.key.to f.from; first_day = f.day; last_day = (last_of f fs).day; sale = sale })
    (record { begin = part.piece.begin; end = part.piece.end; fare = part.piece.fare; rule = part.piece.rule; reverse = part.piece.reverse; first_day = part.piece.first_day; last_day = part.piece.last_day; sale = part.piece.sale }) = cc in
    let whole : ◌≡◌ {A = Part} (part_over sale unit row (f ∷ fs) (f, last_of f fs)) (record { flights = part.flights; piece = part.piece; unit = part.unit }) = cc in
    whole

pub looked_up : (b : Book) (sale : ℤ) (c : Component) (row : SheetRow) (f : Flight) (fs : List Flight) → live_row b c.fare ≡ Some row → known_flights b c.flights ≡ f ∷ fs → part_of b sale c ≡ Some (part_over sale c.unit row (f ∷ fs) (f, last_of f fs))
looked_up b sale c row f fs live known =
    ap (λ o. option_and_then (λ (r : SheetRow). option_map (part_over sale c.unit r (known_flights b c.flights)) (ends_of (known_flights b c.flights))) o) live
    ∙ ap (λ xs. option_map (part_over sale c.unit row xs) (ends_of xs)) known

-- a component that stands for a part whose places are all different is looked up as that part
pub part_is : (b : Book) (q : Request) (c : Component) (part : Part) → IsPart b q c part → OnFirst (λ f. AllDifferent (calls f.from part.flights)) part.flights → part_of b q.sale c ≡ Some part
part_is b q c part h apart = go part.flights refl apart h.stands.begins h.stands.ends
  where
    go : (fs : List Flight) → part.flights ≡ fs → OnFirst (λ f. AllDifferent (calls f.from fs)) fs
        → OnFirst (λ f. (part.piece.begin ≡ f.from) × (part.piece.first_day ≡ f.day)) fs → OnLast (λ f. (part.piece.end ≡ f.to) × (part.piece.last_day ≡ f.day)) fs → part_of b q.sale c ≡ Some part
    go [] e a o l = absurd o
    go (f ∷ fs) e a o l =
        let z = on_last (λ g. (part.piece.end ≡ g.to) × (part.piece.last_day ≡ g.day)) f fs l in
        let known = numbers_known b c.flights part.flights h.flights ∙ e in
        let row : SheetRow = record { fare = part.piece.fare; rule = part.piece.rule } in
        looked_up b q.sale c row f fs (row_live b c part.piece.fare part.piece.rule h.stands.fare h.stands.rule) known
        ∙ ap Some (part_same q.sale c.unit row part f fs e o.0 z.0 refl refl
        (direction part.piece f.from (last_of f fs).to o.0 z.0 (away_from f.from f fs a.0) part.piece.reverse refl h.stands.filed) o.1 z.1 h.stands.sale_is h.unit)

-- the parts that the components of a ticket stand for, where these are lawful by themselves, are those that are looked up
pub parts_are : (b : Book) (q : Request) (cs : List Component) (parts : List Part) → Matched (IsPart b q) cs parts → Each (λ part. ComponentLawful b q.party part.flights part.piece) parts → parts_of b q.sale cs ≡ parts
parts_are b q [] [] m h = refl
parts_are b q [] (part ∷ parts) m h = absurd m
parts_are b q (c ∷ cs) [] m h = absurd m
parts_are b q (c ∷ cs) (part ∷ parts) m h =
    ap (λ o. cons_option o (parts_of b q.sale cs)) (part_is b q c part m.0 h.0.shape.apart) ∙ ap (λ ps. part ∷ ps) (parts_are b q cs parts m.1 h.1)
