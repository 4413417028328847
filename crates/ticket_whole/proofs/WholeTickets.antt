-- A ticket is lawful exactly where it meets each demand.
use Rattle.std.proofs.Common.{◌≡◌, ◌↔◌, ◌∙◌, ◌++◌, ℕ, List, [], ◌∷◌, None, IfSome, map, flat_map, refl, ap, sym, subst, append_assoc, append-nil}
use Rattle.std.specs.List.{cons_option}
use Rattle.fare_law.specs.declared.requests.Request.{Request}
use Rattle.fare_law.specs.declared.tickets.Component.{Component}
use Rattle.fare_law.specs.declared.tickets.Ticket.{Ticket}
use Rattle.fare_law.specs.Book.{Book}
use Rattle.fare_law.specs.Journey.{FliesFrom}
use Rattle.fare_law.specs.Lawful.{Numbered, AtMostTwoStraddle, EndOnEndHolds, Lawful, unit_of}
use Rattle.fare_law.specs.Parts.{Part, IsPart, ComponentLawful}
use Rattle.fare_law.specs.Lists.{Each, Matched}
use Rattle.fare_law.specs.Units.{UnitLawful}
use Rattle.ticket_whole.specs.declared.demand.JourneyDemand.TheVariants.{Slices, Length, Places, Connections, Window}
use Rattle.ticket_whole.specs.declared.demand.Demand.{Demand}
use Rattle.ticket_whole.specs.declared.demand.Demand.TheVariants.{HasComponent, OfComponent, OfJourney, Labels, OfUnit, EndOnEnd, Straddling}
use Rattle.ticket_whole.specs.declared.demand.UnitDemand.{UnitDemand}
use Rattle.ticket_whole.specs.Breaches.{LabelStands, PartMeets, TicketMeets, StandingMeets, Met, flights_of}
use Rattle.ticket_whole.specs.Cuts.{CutsMeet}
use Rattle.ticket_whole.specs.Known.{part_of, parts_of}
use Rattle.ticket_whole.proofs.ComponentFacts.{lawful_component}
use Rattle.ticket_whole.proofs.ComponentParts.{StandsAs, stands_as}
use Rattle.ticket_whole.proofs.FlownCuts.{flown_meets, meets_flown}
use Rattle.ticket_whole.proofs.LabelTurns.{StandFrom, stand_numbered}
use Rattle.ticket_whole.proofs.PartLookups.{numbers_known, part_is, parts_are}
use Rattle.ticket_whole.proofs.Splits.{Mate, mate_of, each_split, each_gathered, if_some_all}
use Rattle.ticket_whole.proofs.UnitHolds.{lawful_unit, unit_lawful}
use Rattle.law_lemmas.proofs.EachOne.{each_from, each_in}

flights_are : (b : Book) (q : Request) (cs : List Component) (parts : List Part) → Matched (IsPart b q) cs parts → flights_of b cs ≡ flat_map (λ part. part.flights) parts
flights_are b q [] [] m = refl
flights_are b q [] (part ∷ parts) m = absurd m
flights_are b q (c ∷ cs) [] m = absurd m
flights_are b q (c ∷ cs) (part ∷ parts) m =
    ap (λ fs. fs ++ flights_of b cs) (numbers_known b c.flights part.flights m.0.flights) ∙ ap (λ fs. part.flights ++ fs) (flights_are b q cs parts m.1)

labels_are : (b : Book) (q : Request) (cs : List Component) (parts : List Part) → Matched (IsPart b q) cs parts → map (λ part. part.unit) parts ≡ map (λ c. c.unit) cs
labels_are b q [] [] m = refl
labels_are b q [] (part ∷ parts) m = absurd m
labels_are b q (c ∷ cs) [] m = absurd m
labels_are b q (c ∷ cs) (part ∷ parts) m = ap (λ u. u ∷ map (λ (p : Part). p.unit) parts) m.0.unit ∙ ap (λ us. c.unit ∷ us) (labels_are b q cs parts m.1)

-- the label of the component that is split off stands after those before it
stands_there : (start : List ℕ) (before : List Component) (c : Component) (after : List Component) → StandFrom start (map (λ d. d.unit) (before ++ c ∷ after)) → LabelStands (start ++ map (λ d. d.unit) before) c.unit
stands_there start [] c after h = subst (λ ls. LabelStands ls c.unit) (sym (append-nil start)) h.0
stands_there start (x ∷ before) c after h =
    subst (λ ls. LabelStands ls c.unit) (append_assoc start (x.unit ∷ []) (map (λ (d : Component). d.unit) before)) (stands_there (start ++ x.unit ∷ []) before c after h.1)

all_stand : (start : List ℕ) (cs : List Component) → ((before : List Component) (c : Component) (after : List Component) → cs ≡ before ++ c ∷ after → LabelStands (start ++ map (λ d. d.unit) before) c.unit) → StandFrom start (map (λ d. d.unit) cs)
all_stand start [] h = tt
all_stand start (c ∷ cs) h = (
  subst (λ ls. LabelStands ls c.unit) (append-nil start) (h [] c cs refl),
  all_stand (start ++ c.unit ∷ []) cs (λ before x after e.
      subst (λ ls. LabelStands ls x.unit) (sym (append_assoc start (c.unit ∷ []) (map (λ (d : Component). d.unit) before))) (h (c ∷ before) x after (ap (λ xs. c ∷ xs) e))),
)

module _ (t : Ticket) (b : Book) (q : Request) (h : Lawful t b q) where
  found : parts_of b q.sale t.components ≡ h.0
  found = parts_are b q t.components h.0 h.1 h.2.components

  whole : (d : Demand) → TicketMeets b q t d
  whole HasComponent = h.3
  whole (OfComponent d) = tt
  whole (OfJourney d) = subst (CutsMeet b d None q.slices) (sym (flights_are b q t.components h.0 h.1)) (flown_meets b d None q.slices _ h.2.journey)
  whole Labels = tt
  whole (OfUnit d) = tt
  whole EndOnEnd = subst (λ parts. Each (λ part. EndOnEndHolds parts part.piece) parts) (sym found) h.2.end_on_end
  whole Straddling = subst AtMostTwoStraddle (labels_are b q t.components h.0 h.1) h.2.straddling

  in_unit : (c : Component) → Mate (IsPart b q) c h.0 → (d : UnitDemand) → IfSome (part_of b q.sale c) (PartMeets (parts_of b q.sale t.components) d)
  in_unit c m d =
      let apart = (each_in (λ (part : Part). ComponentLawful b q.party part.flights part.piece) h.0 m.mate h.2.components m.among).shape.apart in
      let lawful = each_in (λ (part : Part). UnitLawful (unit_of part.unit h.0)) h.0 m.mate h.2.units m.among in
      subst (λ o. IfSome o (PartMeets (parts_of b q.sale t.components) d)) (sym (part_is b q c m.mate m.is apart))
      (subst (λ parts. PartMeets parts d m.mate) (sym found) (lawful_unit h.0 m.mate lawful m.among d))

  standing : (d : Demand) (before : List Component) (c : Component) (after : List Component) → t.components ≡ before ++ c ∷ after → StandingMeets b q t d before c
  standing HasComponent before c after e = tt
  standing (OfComponent d) before c after e =
      let m = mate_of (IsPart b q) t.components h.0 h.1 before c after e in
      lawful_component b q c m.mate m.is (each_in (λ (part : Part). ComponentLawful b q.party part.flights part.piece) h.0 m.mate h.2.components m.among) d
  standing (OfJourney d) before c after e = tt
  standing Labels before c after e =
      let stand = (stand_numbered (map (λ (part : Part). part.unit) h.0)).1 h.2.numbered in
      let labels = labels_are b q t.components h.0 h.1 ∙ ap (map (λ (x : Component). x.unit)) e in
      stands_there [] before c after (subst (StandFrom []) labels stand)
  standing (OfUnit d) before c after e = in_unit c (mate_of (IsPart b q) t.components h.0 h.1 before c after e) d
  standing EndOnEnd before c after e = tt
  standing Straddling before c after e = tt

  pub lawful_meets : (d : Demand) → Met b q t d
  lawful_meets d = record { whole = whole d; each = standing d }

parts_match : (b : Book) (q : Request) (cs : List Component) → Each (λ c. (part : Part) × StandsAs b q c part) cs → Matched (IsPart b q) cs (parts_of b q.sale cs)
parts_match b q [] h = tt
parts_match b q (c ∷ cs) h = subst (λ o. Matched (IsPart b q) (c ∷ cs) (cons_option o (parts_of b q.sale cs))) (sym h.0.1.found) (h.0.1.is, parts_match b q cs h.1)

parts_lawful : (b : Book) (q : Request) (cs : List Component) → Each (λ c. (part : Part) × StandsAs b q c part) cs → Each (λ part. ComponentLawful b q.party part.flights part.piece) (parts_of b q.sale cs)
parts_lawful b q [] h = tt
parts_lawful b q (c ∷ cs) h =
    subst (λ o. Each (λ (part : Part). ComponentLawful b q.party part.flights part.piece) (cons_option o (parts_of b q.sale cs))) (sym h.0.1.found) (h.0.1.lawful, parts_lawful b q cs h.1)

module _ (t : Ticket) (b : Book) (q : Request) (met : (d : Demand) → Met b q t d) where
  abbrev parts : List Part
  parts = parts_of b q.sale t.components

  stood : Each (λ c. (part : Part) × StandsAs b q c part) t.components
  stood = each_split (λ c. (part : Part) × StandsAs b q c part) t.components (λ before c after e. stands_as b q c (λ d. (met (OfComponent d)).each before c after e))

  matched : Matched (IsPart b q) t.components parts
  matched = parts_match b q t.components stood

  in_units : Each (λ part. (d : UnitDemand) → PartMeets parts d part) parts
  in_units =
      each_gathered (part_of b q.sale) (λ part. (d : UnitDemand) → PartMeets parts d part) t.components
      (each_split _ t.components (λ before c after e. if_some_all (PartMeets parts) (part_of b q.sale c) (λ d. (met (OfUnit d)).each before c after e)))

  pub meets_lawful : Lawful t b q
  meets_lawful = (
    parts,
    matched,
    record {
      journey = subst (FliesFrom b None q.slices) (flights_are b q t.components parts matched)
          (meets_flown b None q.slices (flights_of b t.components) (met (OfJourney Slices)).whole (met (OfJourney Length)).whole (met (OfJourney Places)).whole (met (OfJourney Connections)).whole (met (OfJourney Window)).whole);
      components = parts_lawful b q t.components stood;
      numbered = subst (Numbered 0) (sym (labels_are b q t.components parts matched)) ((stand_numbered (map (λ (c : Component). c.unit) t.components)).0 (all_stand [] t.components (λ before c after e. (met Labels).each before c after e)));
      units = each_from (λ part. UnitLawful (unit_of part.unit parts)) parts (unit_lawful parts in_units);
      end_on_end = (met EndOnEnd).whole;
      straddling = subst AtMostTwoStraddle (sym (labels_are b q t.components parts matched)) (met Straddling).whole;
    },
    (met HasComponent).whole,
  )

pub lawful_where_all_met : (t : Ticket) (b : Book) (q : Request) → Lawful t b q ↔ ((d : Demand) → Met b q t d)
lawful_where_all_met t b q = (lawful_meets t b q, meets_lawful t b q)
