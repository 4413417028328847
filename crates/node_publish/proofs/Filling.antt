-- Where a node stands in each home cell, each key of the home is published.
use Rattle.std.proofs.Common.{◌≡◌, ◌⊎◌, ℕ, zero, suc, ◌+◌, ◌%◌, ◌<◌, ◌≤◌, ◌∙◌, Bool, true, false, Decides, List, length, Some, ap, refl, sym, subst, inl, inr, arith}
use Rattle.std.specs.Cmp.Lexicographic.{bytes_decides, pointwise_decides}
use Rattle.std.proofs.lemmas.Bool.{false≢true}
use Rattle.std.proofs.lemmas.Bool.Decides.{Decides-like, Decides-and, Decides-eqb}
use Rattle.fare_component.specs.Homes.{home_of}
use Rattle.fare_component.specs.Keys.{Asked}
use Rattle.fare_law.specs.contracts.fares.FareKindPartialEq.TheImpl as kind
use Rattle.fare_law.specs.declared.fares.Fare.{Fare}
use Rattle.fare_law.specs.declared.fares.FareKind.{FareKind}
use Rattle.fare_law.specs.declared.fares.FareKind.TheVariants.{O, R, S}
use Rattle.fare_law.specs.declared.names.Basis.{Basis}
use Rattle.fare_law.specs.declared.sheets.SheetRow.{SheetRow}
use Rattle.fare_law.proofs.SameNames.{carriers_tell, places_tell}
use Rattle.fare_law.proofs.SameRules.{rules_tell}
use Rattle.node_publish.specs.Homes.{IsTaken, Known, Published, ReadsAt, at_cell, at_home, homes}
use Rattle.node_publish.proofs.SameLegs.{legs_tell}
use Rattle.node_publish.proofs.SameRows.{row_whole}
use Rattle.law_lemmas.proofs.Numbers.{here_or_before}

-- ---- whether two keys ask for the same

-- some test tells whether they are equal
abbrev Told : {X : Type 0} → X → X → Type 0
Told x y = (r : Bool) × Decides r (x ≡ y)

kinds_tell : (a b : FareKind) → Decides (kind.ghosts.eq a b) (a ≡ b)
kinds_tell O O = (λ _. refl, λ _. refl)
kinds_tell R R = (λ _. refl, λ _. refl)
kinds_tell S S = (λ _. refl, λ _. refl)
kinds_tell a b = (λ h. absurd (cc h), λ h. absurd (cc h))

basis_whole : (a b : Basis) → a.0 ≡ b.0 → a ≡ b
basis_whole a b e = λ i. record { 0 = e i }

fares_told : (a b : Fare) → Told a b
fares_told a b = (
  _,
  Decides-like _ (λ e. whole e.0 e.1.0 e.1.1.0 (basis_whole a.key.basis b.key.basis e.1.1.1.0) e.1.1.1.1.0 e.1.1.1.1.1.0 e.1.1.1.1.1.1.0 e.1.1.1.1.1.1.1)
      (λ e. (ap (λ x. x.key.carrier) e, (ap (λ x. x.key.from) e, (ap (λ x. x.key.to) e, (ap (λ x. x.key.basis.0) e, (ap (λ x. x.class) e, (ap (λ x. x.kind) e, (ap (λ x. x.amount) e, ap (λ x. x.rule) e))))))))
      (Decides-and _ _ (carriers_tell a.key.carrier b.key.carrier) (Decides-and _ _ (places_tell a.key.from b.key.from) (Decides-and _ _ (places_tell a.key.to b.key.to) (Decides-and _ _ (bytes_decides a.key.basis.0 b.key.basis.0)
      (Decides-and _ _ (Decides-eqb a.class b.class) (Decides-and _ _ (kinds_tell a.kind b.kind) (Decides-and _ _ (Decides-eqb a.amount b.amount) (Decides-eqb a.rule b.rule)))))))),
)
  where
    whole : a.key.carrier ≡ b.key.carrier → a.key.from ≡ b.key.from → a.key.to ≡ b.key.to → a.key.basis ≡ b.key.basis → a.class ≡ b.class → a.kind ≡ b.kind → a.amount ≡ b.amount → a.rule ≡ b.rule → a ≡ b
    whole c f t s l k n r = λ i. record { key = record { carrier = c i; from = f i; to = t i; basis = s i }; class = l i; kind = k i; amount = n i; rule = r i }

rows_told : (a b : SheetRow) → Told a b
rows_told a b = let fares = fares_told a.fare b.fare in (_, Decides-like _ (λ e. row_whole a b e.0 e.1) (λ e. (ap (λ x. x.fare) e, ap (λ x. x.rule) e)) (Decides-and _ _ fares.1 (rules_tell a.rule b.rule)))

asked_told : (a b : Asked) → Told a b
asked_told a b = (
  _,
  Decides-like _ (λ e. whole e.0 e.1.0 e.1.1.0 e.1.1.1) (λ e. (ap (λ x. x.legs) e, (ap (λ x. x.sheet.from) e, (ap (λ x. x.sheet.to) e, ap (λ x. x.sheet.rows) e))))
      (Decides-and _ _ (pointwise_decides legs_tell a.legs b.legs) (Decides-and _ _ (places_tell a.sheet.from b.sheet.from) (Decides-and _ _ (places_tell a.sheet.to b.sheet.to) (pointwise_decides (λ x y. (rows_told x y).1) a.sheet.rows b.sheet.rows)))),
)
  where
    whole : a.legs ≡ b.legs → a.sheet.from ≡ b.sheet.from → a.sheet.to ≡ b.sheet.to → a.sheet.rows ≡ b.sheet.rows → a ≡ b
    whole l f t r = λ i. record { legs = l i; sheet = record { from = f i; to = t i; rows = r i } }

-- ---- home cells

less_or_same : (j n : ℕ) → j < n + 1 → (j < n) ⊎ (j ≡ n)
less_or_same j n less = here_or_before j n less

-- a node is known in each of the first cells of a home
pub record AreSet (p : Known) (home : ℕ) (n : ℕ) : Type 0 where
  pub each : (j : ℕ) → j < n → (x : Asked) × (at_cell p ((home + j) % length p.cells) ≡ Some x)

pub set_none : (p : Known) (home : ℕ) → AreSet p home 0
set_none p home = record { each = λ j less. absurd (omega (arith, less)) }

pub set_more : (p q : Known) (home n at : ℕ) (found : Asked) (names : List ℕ) → p.cells ≡ names → AreSet p home n → ReadsAt p q at (Some found) → at ≡ (home + n) % length names → AreSet q home (n + 1)
set_more p q home n at found names own h r is = record { each = λ j less. of j less (here j less) }
  where
    here : (j : ℕ) → j < n + 1 → (j < n) ⊎ (j ≡ n)
    here j less = less_or_same j n (omega (arith, less))

    of : (j : ℕ) → j < n + 1 → (j < n) ⊎ (j ≡ n) → (x : Asked) × (at_cell q ((home + j) % length q.cells) ≡ Some x)
    of j less (inl before) = let x = h.each j before in (x.0, subst (λ (cs : List ℕ). at_cell q ((home + j) % length cs) ≡ Some x.0) (sym r.keeps.cells) (r.keeps.kept ((home + j) % length p.cells) x.0 x.1))
    of j less (inr e) = (found, subst (λ (m : ℕ). at_cell q m ≡ Some found) (is ∙ ap (λ (cs : List ℕ). (home + n) % length cs) (sym (r.keeps.cells ∙ own)) ∙ ap (λ (k : ℕ). (home + k) % length q.cells) (sym e)) r.here)

-- a node is known in each home cell of a key
pub set_all : (p : Known) (home : ℕ) (a : Asked) → home_of a ≡ home → (n m : ℕ) → m ≤ n → AreSet p home n → AreSet p (home_of a) m
set_all p home a e n m le h = subst (λ k. AreSet p k m) (sym e) (record { each = λ j less. h.each j (omega (arith, less, le)) })

module _ (p : Known) (a : Asked) where
  -- its node is in one of the first cells, or others are in all of them
  first_cells : (n : ℕ) → AreSet p (home_of a) n → ((j : ℕ) × (j < n) × (at_home p a j ≡ Some a)) ⊎ ((j : ℕ) → j < n → IsTaken p a j)
  first_cells zero h = inr (λ j less. absurd (omega (arith, less)))
  first_cells (suc n) h = elim (first_cells n (record { each = λ j less. h.each j (omega (arith, less)) })) [
    | inl f ↦ inl (f.0, omega (arith, f.1), f.2)
    | inr taken ↦ last taken (h.each n (omega arith)).0 (h.each n (omega arith)).1 (asked_told (h.each n (omega arith)).0 a)
  ]
    where
      last : ((j : ℕ) → j < n → IsTaken p a j) → (x : Asked) → at_home p a n ≡ Some x → Told x a → ((j : ℕ) × (j < suc n) × (at_home p a j ≡ Some a)) ⊎ ((j : ℕ) → j < suc n → IsTaken p a j)
      last taken x e (true, d) = inl (n, omega arith, e ∙ ap Some (d.0 refl))
      last taken x e (false, d) = inr (λ j less. of j (less_or_same j n (omega (arith, less))))
        where
          of : (j : ℕ) → (j < n) ⊎ (j ≡ n) → IsTaken p a j
          of j (inl before) = taken j before
          of j (inr s) = record { other = x; here = ap (at_home p a) s ∙ e; differs = λ s'. false≢true (d.1 s') }

  pub all_published : AreSet p (home_of a) (homes (length p.cells)) → Published p a
  all_published h = elim (first_cells (homes (length p.cells)) h) [
    | inl f ↦ inl (record { place = f.0; within = f.1; here = f.2 })
    | inr taken ↦ inr (record { each = taken })
  ]
