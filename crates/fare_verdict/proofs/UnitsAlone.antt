-- A unit without a kind is first found at its first component. Cited by the law on the first finding.
use Rattle.std.proofs.Common.{◌≡◌, ◌≤◌, ◌==◌, ◌||◌, ℕ, ℤ, suc, Bool, true, false, List, [], ◌∷◌, ◌++◌, length, map, refl, sym, ap, subst, ◌∙◌, inr, arith, IfSome, IsSome, Option, Some, None, option_and_then, option_map, append_assoc}
use Rattle.std.specs.List.{Any, cons_option}
use Rattle.std.proofs.lemmas.Bool.Decides.{Decides-eqb}
use Rattle.fare_law.specs.declared.flights.Flight.{Flight}
use Rattle.fare_law.specs.declared.requests.Request.{Request}
use Rattle.fare_law.specs.declared.sheets.SheetRow.{SheetRow}
use Rattle.fare_law.specs.declared.tickets.Component.{Component}
use Rattle.fare_law.specs.declared.tickets.Ticket.{Ticket}
use Rattle.fare_law.specs.Book.{Book, flight_at}
use Rattle.fare_law.specs.Lawful.{comes_in, unit_of}
use Rattle.fare_law.specs.Parts.{Part}
use Rattle.fare_law.specs.Units.{IsUnit}
use Rattle.ticket_whole.specs.declared.demand.Demand.TheVariants.{OfUnit}
use Rattle.ticket_whole.specs.declared.demand.UnitDemand.TheVariants.{Shape}
use Rattle.ticket_whole.specs.Breaches.{BrokenAt, FirstBroken, PartMeets, StandingMeets}
use Rattle.ticket_whole.specs.Known.{IsUnknown, ends_of, known_flights, live_row, part_of, part_over, parts_of}
use Rattle.fare_verdict.specs.Stages.{JoinedMet, KnownMet}
use Rattle.fare_verdict.proofs.Stands.{split_long}
use Rattle.law_lemmas.proofs.Options.{some_same}

pub if_none : {X : Type 0} (o : Option X) (P : X → Type 0) → (IfSome o P → ⊥) → (x : X) × (o ≡ Some x) × (P x → ⊥)
if_none None P h = absurd (h tt)
if_none (Some x) P h = (x, refl, h)

-- a component of the label among these
abbrev LabelAmong : ℕ → List Component → Type 0
LabelAmong u cs = (before : List Component) × (c : Component) × (after : List Component) × (cs ≡ before ++ c ∷ after) × (u ≡ c.unit)

label_here : (u : ℕ) (c : Component) (cs : List Component) (more : Bool) (test : Bool) → (u == c.unit) ≡ test → (test || more) ≡ true → (more ≡ true → LabelAmong u cs) → LabelAmong u (c ∷ cs)
label_here u c cs more true e k later = ([], c, cs, refl, (Decides-eqb u c.unit).0 e)
label_here u c cs more false e k later = let r = later k in (c ∷ r.0, r.1, r.2, ap (λ (xs : List Component). c ∷ xs) r.3, r.4)

pub label_split : (u : ℕ) (cs : List Component) → comes_in u (map (λ (d : Component). d.unit) cs) ≡ true → LabelAmong u cs
label_split u [] h = absurd (cc)
label_split u (c ∷ cs) h = label_here u c cs (comes_in u (map (λ (d : Component). d.unit) cs)) (u == c.unit) refl h (λ k. label_split u cs k)

part_label : (b : Book) (sale : ℤ) (c : Component) (part : Part) → part_of b sale c ≡ Some part → part.unit ≡ c.unit
part_label b sale c part e = go (live_row b c.fare) (ends_of (known_flights b c.flights)) e
  where
    go : (o : Option SheetRow) (p : Option (Flight × Flight)) → option_and_then (λ row. option_map (part_over sale c.unit row (known_flights b c.flights)) p) o ≡ Some part → part.unit ≡ c.unit
    go None p e = absurd (cc)
    go (Some row) None e = absurd (cc)
    go (Some row) (Some p) e = sym (ap (λ (x : Part). x.unit) (some_same (part_over sale c.unit row (known_flights b c.flights) p) part e))

ends_some : (b : Book) (ns : List ℕ) → 1 ≤ length ns → (Any (IsUnknown b) ns → ⊥) → IsSome (ends_of (known_flights b ns))
ends_some b [] l h = absurd (omega (arith, l))
ends_some b (n ∷ ns) l h = go (flight_at b n) refl
  where
    go : (o : Option Flight) → flight_at b n ≡ o → IsSome (ends_of (cons_option o (known_flights b ns)))
    go None e = absurd (h (0, n, omega arith, refl, e))
    go (Some f) e = refl

part_some : (b : Book) (sale : ℤ) (c : Component) → IsSome (live_row b c.fare) → IsSome (ends_of (known_flights b c.flights)) → (part : Part) × (part_of b sale c ≡ Some part)
part_some b sale c l k = go (live_row b c.fare) (ends_of (known_flights b c.flights)) l k
  where
    go : (o : Option SheetRow) (p : Option (Flight × Flight)) → IsSome o → IsSome p → (part : Part) × (option_and_then (λ row. option_map (part_over sale c.unit row (known_flights b c.flights)) p) o ≡ Some part)
    go None p l k = absurd (cc)
    go (Some row) None l k = absurd (cc)
    go (Some row) (Some p) l k = (part_over sale c.unit row (known_flights b c.flights) p, refl)

module _ (b : Book) (q : Request) (t : Ticket) (known : KnownMet b q t) (joined : JoinedMet b q t) where
  stands_for : (before : List Component) (c : Component) (after : List Component) → t.components ≡ before ++ c ∷ after → (part : Part) × (part_of b q.sale c ≡ Some part)
  stands_for before c after e = part_some b q.sale c (joined.fare.each before c after e) (ends_some b c.flights (known.count.each before c after e).0 (known.flights.each before c after e))

  same_unit : (c d : Component) (x y : Part) → part_of b q.sale c ≡ Some x → part_of b q.sale d ≡ Some y → d.unit ≡ c.unit → PartMeets (parts_of b q.sale t.components) Shape x → PartMeets (parts_of b q.sale t.components) Shape y
  same_unit c d x y e f u h =
      let label : x.unit ≡ y.unit = part_label b q.sale c x e ∙ sym u ∙ sym (part_label b q.sale d y f) in
      (h.0, subst (λ l. IsUnit h.0 (unit_of l (parts_of b q.sale t.components))) label h.1)

  -- no component before the first that fails is of its unit
  pub unit_alone : (number : ℕ) → FirstBroken b q t (OfUnit Shape) number → (x : BrokenAt b q t (OfUnit Shape) number) → comes_in x.component.unit (map (λ d. d.unit) x.before) ≡ false
  unit_alone number h x = go (comes_in x.component.unit (map (λ (d : Component). d.unit) x.before)) refl
    where
      earlier : comes_in x.component.unit (map (λ (d : Component). d.unit) x.before) ≡ true → ⊥
      earlier e =
          let s = label_split x.component.unit x.before e in
          let split : t.components ≡ s.0 ++ s.1 ∷ (s.2 ++ x.component ∷ x.after) = x.split ∙ ap (λ xs. xs ++ x.component ∷ x.after) s.3 ∙ append_assoc s.0 (s.1 ∷ s.2) (x.component ∷ x.after) in
          let mine = if_none (part_of b q.sale x.component) (PartMeets (parts_of b q.sale t.components) Shape) x.broken in
          let other = stands_for s.0 s.1 (s.2 ++ x.component ∷ x.after) split in
          let fails : StandingMeets b q t (OfUnit Shape) s.0 s.1 → ⊥ = λ m. mine.2 (same_unit s.1 x.component other.0 mine.0 other.1 mine.1 s.4 (subst (λ o. IfSome o (PartMeets (parts_of b q.sale t.components) Shape)) other.1 m)) in
          let near = h.least (suc (length s.0)) (inr (record { before = s.0; component = s.1; after = s.2 ++ x.component ∷ x.after; split = split; at = refl; broken = fails })) in
          let long = split_long x.before s.0 s.1 s.2 s.3 in
          let at = x.at in
          omega (arith, near, long, at)

      go : (test : Bool) → comes_in x.component.unit (map (λ (d : Component). d.unit) x.before) ≡ test → comes_in x.component.unit (map (λ (d : Component). d.unit) x.before) ≡ false
      go true e = absurd (earlier e)
      go false e = e
