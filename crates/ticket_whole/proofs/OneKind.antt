-- A unit has one kind at most. This file is given on to the crates above.
use Rattle.std.proofs.Common.{◌≡◌, ◌≢◌, ◌⊎◌, List, [], ◌∷◌, length, refl, inl, inr, arith}
use Rattle.fare_law.specs.declared.rules.UnitKind.{UnitKind}
use Rattle.fare_law.specs.declared.rules.UnitKind.TheVariants.{OneWay, RoundTrip, OpenJaw, Circle}
use Rattle.fare_law.specs.declared.tickets.Piece.{Piece}
use Rattle.fare_law.specs.Lists.{EachPair}
use Rattle.fare_law.specs.Units.{IsUnit}

not_both : (ps : List Piece) → length ps ≡ 2 → EachPair (λ p q. (q.begin ≡ p.end) × (q.end ≡ p.begin)) ps
    → EachPair (λ p q. ((q.begin ≡ p.end) × (q.end ≢ p.begin)) ⊎ ((q.begin ≢ p.end) × (q.end ≡ p.begin))) ps → ⊥
not_both [] two h k = absurd (omega (arith, two))
not_both (p ∷ []) two h k = absurd (omega (arith, two))
not_both (p ∷ q ∷ ps) two h k = elim k.0 [ inl x ↦ x.1 h.0.1 | inr x ↦ x.0 h.0.0 ]

pub kind_once : (one other : UnitKind) (ps : List Piece) → IsUnit one ps → IsUnit other ps → one ≡ other
kind_once OneWay OneWay ps h k = refl
kind_once OneWay RoundTrip ps h k = absurd (omega (arith, h.0, k.0))
kind_once OneWay OpenJaw ps h k = absurd (omega (arith, h.0, k.0))
kind_once OneWay Circle ps h k = absurd (omega (arith, h.0, k.0))
kind_once RoundTrip OneWay ps h k = absurd (omega (arith, h.0, k.0))
kind_once RoundTrip RoundTrip ps h k = refl
kind_once RoundTrip OpenJaw ps h k = absurd (not_both ps h.0 h.2 k.2)
kind_once RoundTrip Circle ps h k = absurd (omega (arith, h.0, k.0))
kind_once OpenJaw OneWay ps h k = absurd (omega (arith, h.0, k.0))
kind_once OpenJaw RoundTrip ps h k = absurd (not_both ps h.0 k.2 h.2)
kind_once OpenJaw OpenJaw ps h k = refl
kind_once OpenJaw Circle ps h k = absurd (omega (arith, h.0, k.0))
kind_once Circle OneWay ps h k = absurd (omega (arith, h.0, k.0))
kind_once Circle RoundTrip ps h k = absurd (omega (arith, h.0, k.0))
kind_once Circle OpenJaw ps h k = absurd (omega (arith, h.0, k.0))
kind_once Circle Circle ps h k = refl
