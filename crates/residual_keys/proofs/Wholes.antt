-- A ticket's parts are lawful exactly where its flights lead to the end, its labels are labelled, its units are accepted and its ticket part allows each component.
use Rattle.std.proofs.Common.{◌≡◌, ℕ, suc, ◌<◌, Bool, true, false, cond, ◌==◌, List, [], ◌∷◌, length, map, filter, flat_map, slice_get, Option, Some, None, IfSome, sym, refl, ap, ◌∙◌, subst, inl, inr, arith, eq-eqb, ne_eqb, ◌||◌}
use Rattle.std.proofs.lemmas.Bool.{cases_eq, le-leb, lt-leb, true≢false}
use Rattle.fare_law.specs.declared.rules.CombineRule.{CombineRule}
use Rattle.fare_law.specs.declared.rules.EndOnEnd.{EndOnEnd}
use Rattle.fare_law.specs.declared.rules.EndOnEnd.TheVariants.{Free, SameCarrier, Never}
use Rattle.fare_law.specs.declared.flights.Flight.{Flight}
use Rattle.fare_law.specs.declared.tickets.Piece.{Piece}
use Rattle.fare_law.specs.declared.requests.Request.{Request}
use Rattle.fare_law.specs.Book.{Book}
use Rattle.fare_law.specs.Lawful.{comes_in, Numbered, unit_of, EndOnEndOf, EndOnEndHolds, PartsLawful}
use Rattle.fare_law.specs.Parts.{Part, Numbers, ComponentLawful}
use Rattle.fare_law.specs.Lists.{Each}
use Rattle.fare_law.specs.Units.{UnitLawful}
use Rattle.unit_labels.specs.Labels.{LawfulLabels}
use Rattle.unit_labels.specs.UnitRuns.{pick, Accepted, EachAccepted}
use Rattle.open_unit.specs.OpenUnits.{unit_steps}
use Rattle.flight_paths.specs.Positions.{Flies, before_slice}
use Rattle.residual_keys.specs.Residuals.{no_part}
use Rattle.flight_paths.proofs.Itineraries.{flies_itinerary, itinerary_flies}
use Rattle.residual_keys.proofs.Marks.{OfCarrier}
use Rattle.residual_keys.proofs.OneUnit.{accepted_lawful, lawful_accepted}
use Rattle.fare_law.specs.Flights.{Ascending}
use Rattle.residual_keys.proofs.TicketParts.{PartRun, news, AsksOf, AsksHold, InOrder, part_run_asks, asks_part_run}
use Rattle.law_lemmas.proofs.EachOne.{each_map, each_weaker}

pub map_each : {X Y : Type 0} (f : X → Y) (P : Y → Type 0) (xs : List X) → Each P (map f xs) → Each (λ x. P (f x)) xs
map_each f P [] h = tt
map_each f P (x ∷ xs) h = (h.0, map_each f P xs h.1)

abbrev pub labels : List Part → List ℕ
labels parts = map (λ part. part.unit) parts

abbrev pub pieces : List Part → List Piece
pieces parts = map (λ part. part.piece) parts

abbrev pub flights : List Part → List Flight
flights parts = flat_map (λ part. part.flights) parts

unit_pick : (u : ℕ) (parts : List Part) → unit_of u parts ≡ pick u (labels parts) (pieces parts)
unit_pick u [] = refl
unit_pick u (x ∷ parts) = step (x.unit == u) ∙ ap (λ ps. cond (x.unit == u) (x.piece ∷ ps) ps) (unit_pick u parts)
  where
    step : (b : Bool) → map (λ part. part.piece) (cond b (x ∷ filter (λ part. part.unit == u) parts) (filter (λ part. part.unit == u) parts)) ≡ cond b (x.piece ∷ unit_of u parts) (unit_of u parts)
    step true = refl
    step false = refl

comes_other : (u l : ℕ) (ls : List ℕ) → (u ≡ l → ⊥) → comes_in u (l ∷ ls) ≡ comes_in u ls
comes_other u l ls ne = ap (λ b. b || comes_in u ls) (ne_eqb u l ne)

comes_first : (u l : ℕ) (ls : List ℕ) → u ≡ l → comes_in u (l ∷ ls) ≡ true
comes_first u l ls e = ap (λ b. b || comes_in u ls) (eq-eqb u l e)

-- the labels of a list come in it
comes_each : (all ls : List ℕ) → ((u : ℕ) → comes_in u ls ≡ true → comes_in u all ≡ true) → Each (λ l. comes_in l all ≡ true) ls
comes_each all [] h = tt
comes_each all (l ∷ ls) h = (h l (comes_first l l ls refl), comes_each all ls (λ u c. h u (later u c)))
  where
    later : (u : ℕ) → comes_in u ls ≡ true → comes_in u (l ∷ ls) ≡ true
    later u c = elim (cases_eq u l) [ inl e ↦ comes_first u l ls e | inr ne ↦ comes_other u l ls ne ∙ c ]

numbered_each : (n : ℕ) (ls : List ℕ) → Numbered n ls → Each (λ l. 0 < l) ls
numbered_each n [] h = tt
numbered_each n (l ∷ ls) (inl (a, b, h)) = (omega arith, numbered_each n ls h)
numbered_each n (l ∷ ls) (inr (e, h)) = (omega arith, numbered_each (suc n) ls h)

each_both : {X : Type 0} (P Q : X → Type 0) (xs : List X) → Each P xs → Each Q xs → Each (λ x. P x × Q x) xs
each_both P Q [] h k = tt
each_both P Q (x ∷ xs) h k = ((h.0, k.0), each_both P Q xs h.1 k.1)

-- what holds of each of these labels holds of one that comes
at_label : (P : ℕ → Type 0) (l : ℕ) (ls : List ℕ) → comes_in l ls ≡ true → Each P ls → P l
at_label P l [] c h = absurd (true≢false (sym c))
at_label P l (k ∷ ls) c h = elim (cases_eq l k) [
  | inl e ↦ subst P (sym e) h.0
  | inr ne ↦ at_label P l ls (sym (comes_other l k ls ne) ∙ c) h.1
]

pub numbered_in_order : (n : ℕ) (ls : List ℕ) → Numbered n ls → InOrder n ls
numbered_in_order n [] h = tt
numbered_in_order n (l ∷ ls) (inl (a, b, h)) = (a, omega arith, subst (λ t. InOrder (cond t n (suc n)) ls) (sym (le-leb l n b)) (numbered_in_order n ls h))
numbered_in_order n (l ∷ ls) (inr (e, h)) = (omega arith, omega arith, subst (λ t. InOrder (cond t n (suc n)) ls) (sym (lt-leb l n (omega arith))) (numbered_in_order (suc n) ls h))

-- end on end, of parts and of labels and pieces
asks_end : (parts : List Part) (p : Piece) → AsksHold (labels parts) (pieces parts) p → EndOnEndHolds parts p
asks_end parts p h = go p.rule.cat10 h
  where
    step : (e : EndOnEnd) → AsksOf (labels parts) (pieces parts) p e → EndOnEndOf parts p e
    step Free h = tt
    step SameCarrier h = map_each (λ part. part.piece) (OfCarrier p.fare.key.carrier) parts h
    step Never h = map_each (λ part. part.unit) (λ l. l ≡ 1) parts h

    go : (c : Option CombineRule) → IfSome c (λ c. AsksOf (labels parts) (pieces parts) p c.end_on_end) → IfSome c (λ c. EndOnEndOf parts p c.end_on_end)
    go None h = tt
    go (Some c) h = step c.end_on_end h

end_asks : (parts : List Part) (p : Piece) → EndOnEndHolds parts p → AsksHold (labels parts) (pieces parts) p
end_asks parts p h = go p.rule.cat10 h
  where
    step : (e : EndOnEnd) → EndOnEndOf parts p e → AsksOf (labels parts) (pieces parts) p e
    step Free h = tt
    step SameCarrier h = each_map (λ part. part.piece) (OfCarrier p.fare.key.carrier) parts h
    step Never h = each_map (λ part. part.unit) (λ l. l ≡ 1) parts h

    go : (c : Option CombineRule) → IfSome c (λ c. EndOnEndOf parts p c.end_on_end) → IfSome c (λ c. AsksOf (labels parts) (pieces parts) p c.end_on_end)
    go None h = tt
    go (Some c) h = step c.end_on_end h

pub same_count : (parts : List Part) → length (labels parts) ≡ length (pieces parts)
same_count [] = refl
same_count (x ∷ parts) = ap suc (same_count parts)

-- what the machines accept of a ticket's parts, whose flights have these numbers
pub record Machines (b : Book) (q : Request) (ns : List ℕ) (parts : List Part) : Type 0 where
  pub flies : Flies b q.slices (before_slice b 0 (slice_get q.slices 0) None) ns (flights parts) None
  pub components : Each (λ part. ComponentLawful b q.party part.flights part.piece) parts
  pub labelled : LawfulLabels (labels parts)
  pub units : EachAccepted unit_steps (labels parts) (pieces parts)
  pub part : PartRun no_part (news 0 (labels parts)) (pieces parts)

pub machines_lawful : (b : Book) (q : Request) (ns : List ℕ) (parts : List Part) → Ascending b.timetable.flights → Machines b q ns parts → PartsLawful b q parts
machines_lawful b q ns parts asc m =
    let law = m.labelled in
    let each = each_both (λ l. 0 < l) (λ l. comes_in l (labels parts) ≡ true) (labels parts) (numbered_each 0 (labels parts) law.0) (comes_each (labels parts) (labels parts) (λ u c. c)) in
    record {
      journey = (flies_itinerary b q.slices asc q.slices 0 None ns (flights parts) refl m.flies).1;
      components = m.components;
      numbered = law.0;
      units = map_each (λ part. part.unit) (λ l. UnitLawful (unit_of l parts)) parts
          (each_weaker (λ l. (0 < l) × (comes_in l (labels parts) ≡ true)) (λ l. UnitLawful (unit_of l parts))
          (λ l h. subst UnitLawful (sym (unit_pick l parts)) (accepted_lawful (pick l (labels parts) (pieces parts)) (m.units l h.0 h.1))) (labels parts) each);
      end_on_end = map_each (λ part. part.piece) (EndOnEndHolds parts) parts
          (each_weaker (AsksHold (labels parts) (pieces parts)) (EndOnEndHolds parts) (asks_end parts) (pieces parts)
          (part_run_asks (labels parts) (pieces parts) (same_count parts) (numbered_in_order 0 (labels parts) law.0) m.part));
      straddling = law.1;
    }

pub lawful_machines : (b : Book) (q : Request) (ns : List ℕ) (parts : List Part) → Numbers b ns (flights parts) → PartsLawful b q parts → Machines b q ns parts
lawful_machines b q ns parts num h = record {
  flies = itinerary_flies b q.slices q.slices 0 None ns (flights parts) refl num h.journey;
  components = h.components;
  labelled = (h.numbered, h.straddling);
  units = λ l lt c. subst (Accepted unit_steps) (unit_pick l parts) (lawful_accepted (unit_of l parts)
      (at_label (λ k. UnitLawful (unit_of k parts)) l (labels parts) c (each_map (λ part. part.unit) (λ k. UnitLawful (unit_of k parts)) parts h.units)));
  part = asks_part_run (labels parts) (pieces parts) (same_count parts)
      (each_weaker (EndOnEndHolds parts) (AsksHold (labels parts) (pieces parts)) (end_asks parts) (pieces parts) (each_map (λ part. part.piece) (EndOnEndHolds parts) parts h.end_on_end));
}
