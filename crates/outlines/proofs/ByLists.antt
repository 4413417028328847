-- The lists by role and unit give what the table's entries leave.
use Rattle.std.proofs.Common.{◌≡◌, ℕ, zero, suc, ◌≤◌, Bool, List, [], ◌∷◌, ◌++◌, set, slice_get, Option, Some, None, IfNone, IsSome, refl, sym, ap, subst, ◌∙◌, inl, inr}
use Rattle.fare_law.specs.declared.moves.Role.{Role}
use Rattle.fare_law.specs.declared.moves.Role.TheVariants.{Alone, Opens, GoesOn, Closes}
use Rattle.fare_law.specs.declared.requests.Request.{Request}
use Rattle.fare_law.specs.declared.rules.CombineRule.{CombineRule}
use Rattle.fare_law.specs.Book.{Book}
use Rattle.fare_law.specs.Lists.{IsIn}
use Rattle.open_unit.specs.declared.units.OpenUnit.{OpenUnit}
use Rattle.open_unit.specs.OpenUnits.{gone_on, opened}
use Rattle.outlines.specs.declared.marks.Listed.{Listed}
use Rattle.outlines.specs.declared.marks.Mark.{Mark}
use Rattle.outlines.specs.declared.outline.Entry.{Entry}
use Rattle.outlines.specs.declared.outline.Outcome.{Outcome}
use Rattle.outlines.specs.Marks.{AreLists, GivenAlone, GivenByUnit, GivenOpening, IsAlone, IsGiven, IsOfUnit, IsOpening, ListsAreOutcomes, MarkLeaves, ends_of, mark_of, part_by, units_by, written}
use Rattle.outlines.specs.Outcomes.{IsTried, LeadsAs}
use Rattle.outlines.proofs.TriedAll.{least_are_outcomes}
use Rattle.residual_keys.specs.declared.residual.Next.{Next}
use Rattle.residual_keys.specs.Residuals.{PartAllows, State, UnitStep, begins, ends_with, part_with, with_end}
use Rattle.residual_keys.specs.Steps.{Leaves, left_at}
use Rattle.flight_paths.specs.declared.positions.Position.{Position}
use Rattle.law_lemmas.proofs.EachOne.{each_in}
use Rattle.law_lemmas.proofs.Options.{some_same}

ends_same : (c : Option CombineRule) (ends : ℕ) → with_end (ends_of c) ends ≡ ends_with c ends
ends_same None ends = refl
ends_same (Some c) ends = refl

-- where a unit is open the journey isn't complete
leads_on : (after : Option Position) (us : List OpenUnit) → IfNone after (us ≡ []) → (us ≡ [] → ⊥) → IsSome after
leads_on None us done more = absurd (more done)
leads_on (Some at) us done more = refl

-- one is open after another was opened
open_left : (us : List OpenUnit) (u : OpenUnit) (left : List OpenUnit) → left ≡ us ++ u ∷ [] → left ≡ [] → ⊥
open_left [] u left is e = cc
open_left (v ∷ us) u left is e = cc

-- and where one of them went on
open_still : (us : List OpenUnit) (slot : ℕ) (v u : OpenUnit) (left : List OpenUnit) → slice_get us slot ≡ Some v → left ≡ set us slot u → left ≡ [] → ⊥
open_still [] slot v u left stands is e = cc
open_still (w ∷ us) zero v u left stands is e = cc
open_still (w ∷ us) (suc slot) v u left stands is e = cc

module _ (q : Request) (r : State) (e : Entry) where
  part_same : (new : Bool) (u : Option OpenUnit) → part_by r.part new (mark_of e u) ≡ part_with r.part new (written r.at.place q.sale e)
  part_same new u = let ends = ends_same e.rule.cat10 r.part.ends in λ i. record { units = (part_with r.part new (written r.at.place q.sale e)).units; ends = ends i; carrier = (part_with r.part new (written r.at.place q.sale e)).carrier }

  -- what a mark leaves is what the component leaves
  mark_to : (role : Role) (slot : ℕ) (u : Option OpenUnit) (m : Mark) (us : List OpenUnit) (next : Next) → m ≡ mark_of e u → UnitStep role slot r.units (written r.at.place q.sale e) us → MarkLeaves r m (begins role) us next → Leaves r e.outline.after (written r.at.place q.sale e) role slot next
  mark_to role slot u m us next is step h =
      let l : MarkLeaves r (mark_of e u) (begins role) us next = subst (λ x. MarkLeaves r x (begins role) us next) is h in
      record {
        units = us;
        step = step;
        part = subst PartAllows (part_same (begins role) u) l.part;
        done = l.done;
        left = l.left ∙ ap (left_at e.outline.after us) (part_same (begins role) u);
      }

  to_mark : (role : Role) (slot : ℕ) (u : Option OpenUnit) (m : Mark) (us : List OpenUnit) (next : Next) → m ≡ mark_of e u → (l : Leaves r e.outline.after (written r.at.place q.sale e) role slot next) → l.units ≡ us → MarkLeaves r m (begins role) us next
  to_mark role slot u m us next is l same =
      let h : MarkLeaves r (mark_of e u) (begins role) l.units next
      = record { part = subst PartAllows (sym (part_same (begins role) u)) l.part; done = l.done; left = l.left ∙ ap (left_at e.outline.after l.units) (sym (part_same (begins role) u)) } in
      subst (λ x. MarkLeaves r x (begins role) us next) (sym is) (subst (λ x. MarkLeaves r (mark_of e u) (begins role) x next) same h)

module _ (q : Request) (r : State) (table : List Entry) (alone opens : List Listed) (of_unit : ℕ → List Listed) (lists : AreLists q r table alone opens of_unit) where
  -- what a list gives was tried
  alone_tried : (o : Outcome) → GivenAlone r alone o → IsTried q r table o
  alone_tried o g =
      let a = each_in (λ (x : Listed). (e : Entry) × IsIn e table × IsAlone r.at.place q.sale e x.mark × (x.price ≡ e.price)) alone g.listed lists.alone_is.attained g.within in
      (a.0, a.1, (Alone, 0, record { leaves = mark_to q r a.0 Alone 0 None g.listed.mark r.units o.next a.2.1 (refl, a.2.0, refl) g.leaves; price = g.price ∙ a.3 }))

  opening_tried : (o : Outcome) → GivenOpening r opens o → IsTried q r table o
  opening_tried o g =
      let a = each_in (λ (x : Listed). (e : Entry) × IsIn e table × IsOpening r.at.place q.sale e x.mark × (x.price ≡ e.price)) opens g.listed lists.opens_is.attained g.within in
      let unit : g.unit ≡ opened (written r.at.place q.sale a.0) = some_same g.unit (opened (written r.at.place q.sale a.0)) (sym g.opens ∙ ap (λ (m : Mark). m.unit) a.2.1) in (
        a.0,
        a.1,
        (
          Opens,
          0,
          record {
            leaves = mark_to q r a.0 Opens 0 (Some (opened (written r.at.place q.sale a.0))) g.listed.mark (r.units ++ g.unit ∷ []) o.next a.2.1 (refl, a.2.0.1, g.room, ap (λ u. r.units ++ u ∷ []) unit) g.leaves;
            price = g.price ∙ a.3;
          },
        ),
      )

  unit_tried : (o : Outcome) → GivenByUnit r of_unit o → IsTried q r table o
  unit_tried o g =
      let a = each_in (λ (x : Listed). (e : Entry) × IsIn e table × IsOfUnit r.at.place q.sale g.unit e x.mark × (x.price ≡ e.price)) (of_unit g.slot) g.listed (lists.units_are g.slot g.unit g.stands).attained g.within in
      way a.0 a.1 a.2 (g.price ∙ a.3)
    where
      way : (e : Entry) → IsIn e table → IsOfUnit r.at.place q.sale g.unit e g.listed.mark → o.price ≡ e.price → IsTried q r table o
      way e i (inl (may, is)) price =
          let u = gone_on g.unit (written r.at.place q.sale e) in (
            e,
            i,
            (
              GoesOn,
              g.slot,
              record {
                leaves = mark_to q r e GoesOn g.slot (Some u) g.listed.mark (units_by r.units g.slot g.listed.mark.unit) o.next is (g.unit, g.stands, may.1, ap (λ (m : Mark). units_by r.units g.slot m.unit) is) g.leaves;
                price = price;
              },
            ),
          )
      way e i (inr (may, is)) price = (
        e,
        i,
        (
          Closes,
          g.slot,
          record {
            leaves = mark_to q r e Closes g.slot None g.listed.mark (units_by r.units g.slot g.listed.mark.unit) o.next is (g.unit, g.stands, may, ap (λ (m : Mark). units_by r.units g.slot m.unit) is) g.leaves;
            price = price;
          },
        ),
      )

  tried : (o : Outcome) → IsGiven r alone opens of_unit o → IsTried q r table o
  tried o (inl g) = alone_tried o g
  tried o (inr (inl g)) = opening_tried o g
  tried o (inr (inr g)) = unit_tried o g

  abbrev Least : Outcome → Type 0
  Least t = (o : Outcome) × IsGiven r alone opens of_unit o × (o.next ≡ t.next) × (o.price ≤ t.price)

  -- what was tried, a list gives at no more
  given : (t : Outcome) (e : Entry) → IsIn e table → (role : Role) (slot : ℕ) → LeadsAs q r e role slot t → Least t
  given t e i Alone slot h =
      let l = h.leaves in
      let x = lists.alone_is.covered e i (mark_of e None) (l.step.1, refl) in (
        record { next = t.next; price = x.0.price },
        inl (record { listed = x.0; within = x.1; leaves = to_mark q r e Alone slot None x.0.mark r.units t.next x.2 l l.step.2; price = refl }),
        refl,
        subst (λ n. x.0.price ≤ n) (sym h.price) x.3,
      )
  given t e i Opens slot h =
      let l = h.leaves in
      let u = opened (written r.at.place q.sale e) in
      let x = lists.opens_is.covered e i (mark_of e (Some u)) ((leads_on e.outline.after l.units l.done (open_left r.units u l.units l.step.3), l.step.1), refl) in (
        record { next = t.next; price = x.0.price },
        inr (inl (record {
          listed = x.0;
          within = x.1;
          room = l.step.2;
          unit = u;
          opens = ap (λ (m : Mark). m.unit) x.2;
          leaves = to_mark q r e Opens slot (Some u) x.0.mark (r.units ++ u ∷ []) t.next x.2 l l.step.3;
          price = refl;
        })),
        refl,
        subst (λ n. x.0.price ≤ n) (sym h.price) x.3,
      )
  given t e i GoesOn slot h =
      let l = h.leaves in
      let u = gone_on l.step.0 (written r.at.place q.sale e) in
      let x = (lists.units_are slot l.step.0 l.step.1).covered e i (mark_of e (Some u)) (inl ((leads_on e.outline.after l.units l.done (open_still r.units slot l.step.0 u l.units l.step.1 l.step.3), l.step.2), refl)) in (
        record { next = t.next; price = x.0.price },
        inr (inr (record {
          slot = slot;
          unit = l.step.0;
          stands = l.step.1;
          listed = x.0;
          within = x.1;
          leaves = to_mark q r e GoesOn slot (Some u) x.0.mark (units_by r.units slot x.0.mark.unit) t.next x.2 l (l.step.3 ∙ ap (λ (m : Mark). units_by r.units slot m.unit) (sym x.2));
          price = refl;
        })),
        refl,
        subst (λ n. x.0.price ≤ n) (sym h.price) x.3,
      )
  given t e i Closes slot h =
      let l = h.leaves in
      let x = (lists.units_are slot l.step.0 l.step.1).covered e i (mark_of e None) (inr (l.step.2, refl)) in (
        record { next = t.next; price = x.0.price },
        inr (inr (record {
          slot = slot;
          unit = l.step.0;
          stands = l.step.1;
          listed = x.0;
          within = x.1;
          leaves = to_mark q r e Closes slot None x.0.mark (units_by r.units slot x.0.mark.unit) t.next x.2 l (l.step.3 ∙ ap (λ (m : Mark). units_by r.units slot m.unit) (sym x.2));
          price = refl;
        })),
        refl,
        subst (λ n. x.0.price ≤ n) (sym h.price) x.3,
      )

pub lists_are_outcomes : (b : Book) (q : Request) (r : State) → ListsAreOutcomes b q r
lists_are_outcomes b q r table alone opens of_unit outcomes rules tabled lists are = least_are_outcomes b q r table outcomes rules tabled (λ o i. tried q r table alone opens of_unit lists o ((are o).0 i)) (λ t h.
    let g = given q r table alone opens of_unit lists t h.0 h.1 h.2.0 h.2.1 h.2.2 in
    (g.0, (are g.0).1 g.1, g.2, g.3))
