-- Two components that are no unit and no two units.
use Rattle.std.proofs.Common.{◌≡◌, ◌≢◌, ℕ, Bool, true, false, ◌∷◌, List, [], map, cond, ◌==◌, eq-eqb, ap, subst, ◌∙◌, arith, get_or, inl, inr, refl}
use Rattle.fare_law.specs.declared.fares.FareKind.TheVariants.{R}
use Rattle.fare_law.specs.declared.names.Place.{Place}
use Rattle.fare_law.specs.declared.rules.UnitKind.TheVariants.{OneWay, RoundTrip, OpenJaw, Circle}
use Rattle.fare_law.specs.declared.tickets.Piece.{Piece}
use Rattle.fare_law.specs.Lawful.{unit_of}
use Rattle.fare_law.specs.Parts.{Part}
use Rattle.fare_law.specs.Units.{MayStand, UnitLawful}

pub differ : (p r : Place) (i : ℕ) → (get_or p.0 i 0 ≡ get_or r.0 i 0 → ⊥) → p ≢ r
differ p r i h e = h (ap (λ x. get_or x.0 i 0) e)

-- a fare of kind R is no unit alone
pub alone : (p : Piece) → p.fare.kind ≡ R → UnitLawful (p ∷ []) → ⊥
alone p e (OneWay, is, h) = subst (λ k. MayStand k OneWay) e h.0.stands refl
alone p e (RoundTrip, is, h) = omega (arith, is.0)
alone p e (OpenJaw, is, h) = omega (arith, is.0)
alone p e (Circle, is, h) = omega (arith, is.0)

-- with a gap on both sides two components are no unit
gaps : (p r : Piece) → r.begin ≢ p.end → r.end ≢ p.begin → UnitLawful (p ∷ r ∷ []) → ⊥
gaps p r begins ends (OneWay, is, h) = omega (arith, is.0)
gaps p r begins ends (RoundTrip, (two, ways, (there, rest)), h) = begins there.0
gaps p r begins ends (OpenJaw, (two, ways, (inl there, rest)), h) = begins there.0
gaps p r begins ends (OpenJaw, (two, ways, (inr back, rest)), h) = ends back.1
gaps p r begins ends (Circle, is, h) = omega (arith, is.0)

-- the unit of the first of two components has the second exactly where the labels are equal
unit_of_first : (p r : Part) (b : Bool) → (r.unit == p.unit) ≡ b → unit_of p.unit (p ∷ r ∷ []) ≡ map (λ part. part.piece) (p ∷ cond b (r ∷ []) [])
unit_of_first p r b other =
    let mine : (p.unit == p.unit) ≡ true = eq-eqb p.unit p.unit refl in
    ap (λ c. map (λ part. part.piece) (cond c (p ∷ cond (r.unit == p.unit) (r ∷ []) []) (cond (r.unit == p.unit) (r ∷ []) []))) mine ∙ ap (λ c. map (λ part. part.piece) (p ∷ cond c (r ∷ []) [])) other

-- the first of them on a fare of kind R is no unit by itself
pub parted : (p r : Part) → p.piece.fare.kind ≡ R → (r.unit == p.unit) ≡ false → UnitLawful (unit_of p.unit (p ∷ r ∷ [])) → ⊥
parted p r kind e law = alone p.piece kind (subst UnitLawful (unit_of_first p r false e) law)

pub gapped : (p r : Part) → p.piece.fare.kind ≡ R → r.piece.begin ≢ p.piece.end → r.piece.end ≢ p.piece.begin → (b : Bool) → (r.unit == p.unit) ≡ b → UnitLawful (unit_of p.unit (p ∷ r ∷ [])) → ⊥
gapped p r kind begins ends false e law = parted p r kind e law
gapped p r kind begins ends true e law = gaps p.piece r.piece begins ends (subst UnitLawful (unit_of_first p r true e) law)
