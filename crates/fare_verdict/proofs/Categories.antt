-- By which categories a component fails a demand, as its calls tell it. Cited where categories are given.
use Rattle.std.proofs.Common.{◌≡◌, ◌⊎◌, ◌↔◌, ◌||◌, ◌∙◌, ℕ, ℤ, Bool, true, false, not, List, map, refl, sym, ap, subst, inl, inr, IfSome, IsTrue}
use Rattle.fare_law.specs.declared.requests.Request.{Request}
use Rattle.fare_law.specs.declared.tickets.Component.{Component}
use Rattle.fare_law.specs.declared.tickets.Ticket.{Ticket}
use Rattle.fare_law.specs.Book.{Book}
use Rattle.fare_law.specs.Lawful.{comes_in}
use Rattle.ticket_whole.specs.declared.demand.CategoryDemand.{CategoryDemand}
use Rattle.ticket_whole.specs.declared.demand.Demand.TheVariants.{OfUnit}
use Rattle.ticket_whole.specs.declared.demand.UnitDemand.{UnitDemand}
use Rattle.ticket_whole.specs.declared.demand.UnitDemand.TheVariants.{Shape}
use Rattle.ticket_whole.specs.Breaches.{PartMeets}
use Rattle.ticket_whole.specs.Categories.{CategoryMeets}
use Rattle.ticket_whole.specs.Known.{part_of, parts_of}
use Rattle.fare_verdict.specs.Findings.{FailsInUnit, Misses}
use Rattle.fare_verdict.specs.Told.{AreCategories}
use Rattle.law_lemmas.proofs.Tests.{not_true}

categories_like : (P Q : ℕ → Type 0) (ks : List ℕ) → ((k : ℕ) → P k → Q k) → ((k : ℕ) → Q k → P k) → AreCategories P ks → AreCategories Q ks
categories_like P Q ks to from h = record { order = h.order; each = λ k. (λ i. to k ((h.each k).0 i), λ q. (h.each k).1 (from k q)) }

-- one category, where something isn't met
pub one_told : (met : Bool) (M : Type 0) (category other : ℕ) (ks : List ℕ) → IsTrue met ↔ M → category ≡ other → AreCategories (λ k. (k ≡ category) × (IsTrue met → ⊥)) ks → AreCategories (λ k. (k ≡ other) × (M → ⊥)) ks
one_told met M category other ks m e h = categories_like (λ k. (k ≡ category) × (IsTrue met → ⊥)) (λ k. (k ≡ other) × (M → ⊥)) ks
    (λ k p. (p.0 ∙ e, λ x. p.1 (m.1 x)))
    (λ k p. (p.0 ∙ sym e, λ x. p.1 (m.0 x))) h

-- two categories, each where something isn't met
pub two_told : (one other : Bool) (M N : Type 0) (m n : ℕ) (ks : List ℕ) → IsTrue one ↔ M → IsTrue other ↔ N
    → AreCategories (λ k. ((k ≡ m) × (IsTrue one → ⊥)) ⊎ ((k ≡ n) × (IsTrue other → ⊥))) ks → AreCategories (λ k. ((k ≡ m) × (M → ⊥)) ⊎ ((k ≡ n) × (N → ⊥))) ks
two_told one other M N m n ks a b h = categories_like (λ k. ((k ≡ m) × (IsTrue one → ⊥)) ⊎ ((k ≡ n) × (IsTrue other → ⊥))) (λ k. ((k ≡ m) × (M → ⊥)) ⊎ ((k ≡ n) × (N → ⊥))) ks
    (λ k p. elim p [ inl x ↦ inl (x.0, λ v. x.1 (a.1 v)) | inr y ↦ inr (y.0, λ v. y.1 (b.1 v)) ])
    (λ k p. elim p [ inl x ↦ inl (x.0, λ v. x.1 (a.0 v)) | inr y ↦ inr (y.0, λ v. y.1 (b.0 v)) ]) h

true_twice : (r : Bool) → (IsTrue (not r) → ⊥) → IsTrue r
true_twice true h = refl
true_twice false h = absurd (h refl)

not_both : (r : Bool) → IsTrue r → IsTrue (not r) → ⊥
not_both true h k = absurd (cc)
not_both false h k = absurd (cc)

-- a category where something holds
pub held_told : (r : Bool) (M : Type 0) (category : ℕ) (ks : List ℕ) → IsTrue r ↔ M → AreCategories (λ k. (k ≡ category) × (IsTrue (not r) → ⊥)) ks → AreCategories (λ k. (k ≡ category) × M) ks
held_told r M category ks m h = categories_like (λ k. (k ≡ category) × (IsTrue (not r) → ⊥)) (λ k. (k ≡ category) × M) ks
    (λ k p. (p.0, m.0 (true_twice r p.1)))
    (λ k p. (p.0, not_both r (m.1 p.1))) h

module _ (b : Book) (q : Request) (t : Ticket) (before : List Component) (c : Component) (cs : List Component) (sale : ℤ) (items : cs ≡ t.components) (day : sale ≡ q.sale) where
  part_told : (d e : UnitDemand) (met : Bool) → d ≡ e → IsTrue met ↔ IfSome (part_of b sale c) (PartMeets (parts_of b sale cs) d) → IsTrue met ↔ IfSome (part_of b q.sale c) (PartMeets (parts_of b q.sale t.components) e)
  part_told d e met is m =
      subst (λ x. IsTrue met ↔ IfSome (part_of b q.sale c) (PartMeets (parts_of b q.sale t.components) x)) is
      (subst (λ xs. IsTrue met ↔ IfSome (part_of b q.sale c) (PartMeets (parts_of b q.sale xs) d)) items
      (subst (λ z. IsTrue met ↔ IfSome (part_of b z c) (PartMeets (parts_of b z cs) d)) day m))

  -- a demand on the unit that has one category
  pub unit_told : (e d : UnitDemand) (category : ℕ) (met : Bool) (ks : List ℕ) → d ≡ e
      → ((k : ℕ) → (k ≡ category) × Misses b q t (OfUnit e) before c → FailsInUnit b q t e k before c)
      → ((k : ℕ) → FailsInUnit b q t e k before c → (k ≡ category) × Misses b q t (OfUnit e) before c)
      → IsTrue met ↔ IfSome (part_of b sale c) (PartMeets (parts_of b sale cs) d) → AreCategories (λ k. (k ≡ category) × (IsTrue met → ⊥)) ks → AreCategories (λ k. FailsInUnit b q t d k before c) ks
  unit_told e d category met ks is to from m h =
      subst (λ x. AreCategories (λ k. FailsInUnit b q t x k before c) ks) (sym is)
      (categories_like (λ k. (k ≡ category) × Misses b q t (OfUnit e) before c) (λ k. FailsInUnit b q t e k before c) ks to from
      (one_told met (IfSome (part_of b q.sale c) (PartMeets (parts_of b q.sale t.components) e)) category category ks (part_told d e met is m) refl h))

  -- the kind of the unit, at its first component
  pub shape_told : (d : UnitDemand) (passed met : Bool) (ks : List ℕ) → d ≡ Shape
      → IsTrue passed ↔ (IsTrue met ⊎ (comes_in c.unit (map (λ x. x.unit) before) ≡ true))
      → IsTrue met ↔ IfSome (part_of b sale c) (PartMeets (parts_of b sale cs) d) → AreCategories (λ k. (k ≡ 0) × (IsTrue passed → ⊥)) ks → AreCategories (λ k. FailsInUnit b q t d k before c) ks
  shape_told d passed met ks is p m h =
      let here = part_told d Shape met is m in
      subst (λ x. AreCategories (λ k. FailsInUnit b q t x k before c) ks) (sym is)
      (categories_like (λ k. (k ≡ 0) × (IsTrue passed → ⊥)) (λ k. FailsInUnit b q t Shape k before c) ks
      (λ k x. (x.0, not_true (comes_in c.unit (map (λ (y : Component). y.unit) before)) (λ e. x.1 (p.1 (inr e))), λ y. x.1 (p.1 (inl (here.1 y)))))
      (λ k x. (x.0, λ y. elim (p.0 y) [ inl l ↦ x.2 (here.0 l) | inr e ↦ let f = x.1 in absurd (cc) ])) h)

  -- a category of the unit's days
  pub category_told : (d : CategoryDemand) (met : Bool) → IsTrue met ↔ IfSome (part_of b sale c) (CategoryMeets (parts_of b sale cs) d)
      → IsTrue met ↔ IfSome (part_of b q.sale c) (CategoryMeets (parts_of b q.sale t.components) d)
  category_told d met m =
      subst (λ xs. IsTrue met ↔ IfSome (part_of b q.sale c) (CategoryMeets (parts_of b q.sale xs) d)) items
      (subst (λ z. IsTrue met ↔ IfSome (part_of b z c) (CategoryMeets (parts_of b z cs) d)) day m)

or_first : (a b : Bool) → a ≡ true → (a || b) ≡ true
or_first a b h = ap (λ x. x || b) h

or_second : (a b : Bool) → b ≡ true → (a || b) ≡ true
or_second true b h = refl
or_second false b h = h
