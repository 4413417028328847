-- A position's table, tried in each role and slot, gives the outcomes of a residual there. Given on to the crates above.
use Rattle.std.proofs.Common.{◌≡◌, ℕ, ◌≤◌, List, Some, refl, sym, subst, arith}
use Rattle.fare_law.specs.declared.moves.Role.{Role}
use Rattle.fare_law.specs.declared.requests.Request.{Request}
use Rattle.fare_law.specs.Book.{Book, live_rule}
use Rattle.fare_law.specs.Lists.{Each, IsIn}
use Rattle.outlines.specs.declared.outline.Entry.{Entry}
use Rattle.outlines.specs.declared.outline.Outcome.{Outcome}
use Rattle.outlines.specs.declared.outline.Outline.{Outline}
use Rattle.outlines.specs.Outcomes.{AreOutcomes, HasRule, IsAttained, IsTried, LeastAreOutcomes, Tabled}
use Rattle.outlines.specs.Outlines.{Acts, Outlined, piece_of}
use Rattle.outlines.proofs.ByOutline.{acts_all}
use Rattle.residual_keys.specs.declared.residual.Chosen.{Chosen}
use Rattle.residual_keys.specs.Residuals.{State}
use Rattle.residual_keys.specs.Steps.{IsChosen, Leaves}
use Rattle.residual_keys.proofs.StepTaken.{whole}
use Rattle.law_lemmas.proofs.EachOne.{each_from, each_in}
use Rattle.law_lemmas.proofs.Options.{some_one}

module _ (b : Book) (q : Request) (r : State) (table : List Entry) (outcomes : List Outcome) (rules : Each (HasRule b) table) (tabled : Tabled b q r.at table) (tried : (o : Outcome) → IsIn o outcomes → IsTried q r table o)
    (least : (t : Outcome) → IsTried q r table t → (o : Outcome) × IsIn o outcomes × (o.next ≡ t.next) × (o.price ≤ t.price)) where
  attained : (o : Outcome) → IsIn o outcomes → IsAttained b q r o
  attained o i =
      let t = tried o i in
      let e = t.0 in
      let role = t.2.0 in
      let slot = t.2.1 in
      let lead = t.2.2 in
      let acts : Acts b q r e.outline role slot o.next = record { rule = e.rule; live = each_in (HasRule b) table e rules t.1; leaves = lead.leaves } in
      let outlined = each_in (λ e. Outlined b q r.at e.outline e.price) table e tabled.attained t.1 in
      let m = (acts_all b q r role slot e.price o.next).1 (e.outline, outlined, acts) in
      (m.0, subst (λ p. IsChosen b q r (record { mv = m.0; price = p; next = o.next })) (sym lead.price) m.3)

  covered : (c : Chosen) → IsChosen b q r c → (o : Outcome) × IsIn o outcomes × (o.next ≡ c.next) × (o.price ≤ c.price)
  covered c chosen =
      let role = c.mv.role in
      let slot = c.mv.slot in
      let k = (acts_all b q r role slot c.price c.next).0 (c.mv, refl, refl, (whole b q r c).0 chosen) in
      let e = tabled.covered k.0 c.price k.1 in
      found role slot c k.0 e.0 e.1 e.2 e.3 k.2
    where
      below : (x y z : ℕ) → x ≤ y → y ≤ z → x ≤ z
      below x y z h k = omega (arith, h, k)

      found : (role : Role) (slot : ℕ) (c : Chosen) (o : Outline) (e : Entry) → IsIn e table → e.outline ≡ o → e.price ≤ c.price → Acts b q r o role slot c.next → (x : Outcome) × IsIn x outcomes × (x.next ≡ c.next) × (x.price ≤ c.price)
      found role slot c o e i same at_most acts =
          let rule : acts.rule ≡ e.rule = some_one (live_rule b o.carrier o.number) acts.rule e.rule acts.live (subst (λ (z : Outline). live_rule b z.carrier z.number ≡ Some e.rule) same (each_in (HasRule b) table e rules i)) in
          let leaves : Leaves r e.outline.after (piece_of r.at.place q.sale e.rule e.outline) role slot c.next
          = subst (λ (z : Outline). Leaves r z.after (piece_of r.at.place q.sale e.rule z) role slot c.next) (sym same) (subst (λ z. Leaves r o.after (piece_of r.at.place q.sale z o) role slot c.next) rule acts.leaves) in
          let x = least (record { next = c.next; price = e.price }) (e, i, (role, slot, record { leaves = leaves; price = refl })) in
          (x.0, x.1, x.2, below x.0.price e.price c.price x.3 at_most)

  all_outcomes : AreOutcomes b q r outcomes
  all_outcomes = record { attained = each_from (IsAttained b q r) outcomes attained; covered = covered }

pub least_are_outcomes : (b : Book) (q : Request) (r : State) → LeastAreOutcomes b q r
least_are_outcomes b q r table outcomes rules tabled tried least = all_outcomes b q r table outcomes rules tabled tried least
