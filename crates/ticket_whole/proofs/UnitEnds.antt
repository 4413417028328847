-- The pieces of a unit, its one kind, and its first and last piece.
use Rattle.std.proofs.Common.{◌≡◌, ◌⊎◌, ◌==◌, ℕ, Bool, true, false, cond, List, [], ◌∷◌, length, filter, map, refl, subst, inl, inr, arith}
use Rattle.std.proofs.lemmas.Bool.Decides.{Decides-eqb}
use Rattle.fare_law.specs.declared.rules.UnitKind.{UnitKind}
use Rattle.fare_law.specs.declared.rules.UnitKind.TheVariants.{OneWay, RoundTrip, OpenJaw, Circle}
use Rattle.fare_law.specs.declared.tickets.Piece.{Piece}
use Rattle.fare_law.specs.Lawful.{unit_of}
use Rattle.fare_law.specs.Parts.{Part}
use Rattle.fare_law.specs.Lists.{Each, EachPair, IsIn, OnFirst, OnLast}
use Rattle.fare_law.specs.Units.{IsUnit}

not_both : (ps : List Piece) → length ps ≡ 2 → EachPair (λ p q. (q.begin ≡ p.end) × (q.end ≡ p.begin)) ps
    → EachPair (λ p q. ((q.begin ≡ p.end) × (q.end ≡ p.begin → ⊥)) ⊎ ((q.begin ≡ p.end → ⊥) × (q.end ≡ p.begin))) ps → ⊥
not_both [] e h k = absurd (omega (arith, e))
not_both (p ∷ []) e h k = absurd (omega (arith, e))
not_both (p ∷ q ∷ ps) e h k = elim k.0 [ inl x ↦ x.1 h.0.1 | inr y ↦ y.0 h.0.0 ]

pub no_empty_unit : (k : UnitKind) → IsUnit k [] → ⊥
no_empty_unit OneWay h = let z : length {A = Piece} [] ≡ 0 = refl in omega (arith, h.0, z)
no_empty_unit RoundTrip h = let z : length {A = Piece} [] ≡ 0 = refl in omega (arith, h.0, z)
no_empty_unit OpenJaw h = let z : length {A = Piece} [] ≡ 0 = refl in omega (arith, h.0, z)
no_empty_unit Circle h = let z : length {A = Piece} [] ≡ 0 = refl in omega (arith, h.0, z)

kept : (t : Bool) (x : Part) (xs : List Part) (p : Piece) → IsIn p (map (λ part. part.piece) xs) → IsIn p (map (λ part. part.piece) (cond t (x ∷ xs) xs))
kept true x xs p i = inr i
kept false x xs p i = i

put_in : (t : Bool) (x : Part) (xs : List Part) → t ≡ true → IsIn x.piece (map (λ part. part.piece) (cond t (x ∷ xs) xs))
put_in true x xs e = inl refl
put_in false x xs e = absurd (cc)

at_head : (u : ℕ) (x part : Part) (xs : List Part) → part ≡ x → part.unit ≡ u → IsIn part.piece (map (λ p. p.piece) (cond (x.unit == u) (x ∷ xs) xs))
at_head u x part xs e is = subst (λ (y : Part). IsIn part.piece (map (λ (p : Part). p.piece) (cond (y.unit == u) (y ∷ xs) xs))) e (put_in (part.unit == u) part xs ((Decides-eqb part.unit u).1 is))

-- the piece of a part of this label is in the label's unit
pub in_unit_of : (u : ℕ) (parts : List Part) (part : Part) → IsIn part parts → part.unit ≡ u → IsIn part.piece (unit_of u parts)
in_unit_of u [] part i is = absurd i
in_unit_of u (x ∷ xs) part i is = elim i [
  | inl e ↦ at_head u x part (filter (λ p. p.unit == u) xs) e is
  | inr k ↦ kept (x.unit == u) x (filter (λ p. p.unit == u) xs) part.piece (in_unit_of u xs part k is)
]

each_kept : (P : Piece → Type 0) (t : Bool) (x : Part) (xs : List Part) → (t ≡ true → P x.piece) → Each P (map (λ part. part.piece) xs) → Each P (map (λ part. part.piece) (cond t (x ∷ xs) xs))
each_kept P true x xs h k = (h refl, k)
each_kept P false x xs h k = k

-- what holds of the piece of each part of this label holds of each of the label's unit
pub each_unit_of : (P : Piece → Type 0) (u : ℕ) (parts : List Part) → ((part : Part) → IsIn part parts → part.unit ≡ u → P part.piece) → Each P (unit_of u parts)
each_unit_of P u [] h = tt
each_unit_of P u (x ∷ xs) h =
    each_kept P (x.unit == u) x (filter (λ p. p.unit == u) xs) (λ e. h x (inl refl) ((Decides-eqb x.unit u).0 e)) (each_unit_of P u xs (λ part i is. h part (inr i) is))

abbrev final : Piece → List Piece → Piece
final p [] = p
final p (q ∷ ps) = final q ps

-- this holds of the first piece and the last
abbrev pub AtEnds : (Piece → Piece → Type 0) → List Piece → Type 0
AtEnds P [] = ⊥
AtEnds P (p ∷ ps) = P p (final p ps)

on_final : (P : Piece → Type 0) (p : Piece) (ps : List Piece) → OnLast P (p ∷ ps) → P (final p ps)
on_final P p [] h = h
on_final P p (q ∷ ps) h = on_final P q ps h

final_on : (P : Piece → Type 0) (p : Piece) (ps : List Piece) → P (final p ps) → OnLast P (p ∷ ps)
final_on P p [] h = h
final_on P p (q ∷ ps) h = final_on P q ps h

pub to_ends : (P : Piece → Piece → Type 0) (ps : List Piece) → OnFirst (λ a. OnLast (P a) ps) ps → AtEnds P ps
to_ends P [] h = absurd h
to_ends P (p ∷ ps) h = on_final (P p) p ps h

pub from_ends : (P : Piece → Piece → Type 0) (ps : List Piece) → AtEnds P ps → OnFirst (λ a. OnLast (P a) ps) ps
from_ends P [] h = absurd h
from_ends P (p ∷ ps) h = final_on (P p) p ps h

-- what holds of a unit's ends by what holds of them
pub ends_to : (P Q : Piece → Piece → Type 0) (ps : List Piece) → ((a z : Piece) → P a z → Q a z) → AtEnds P ps → AtEnds Q ps
ends_to P Q [] to h = absurd h
ends_to P Q (p ∷ ps) to h = to p (final p ps) h

pub ends_both : (P Q : Piece → Piece → Type 0) (ps : List Piece) → AtEnds P ps → AtEnds Q ps → AtEnds (λ a z. P a z × Q a z) ps
ends_both P Q [] h k = absurd h
ends_both P Q (p ∷ ps) h k = (h, k)

swapped : (P : Piece → Piece → Piece → Type 0) (p : Piece) (ps qs : List Piece) → Each (λ x. AtEnds (λ a z. P a z x) (p ∷ ps)) qs → Each (P p (final p ps)) qs
swapped P p ps [] h = tt
swapped P p ps (q ∷ qs) h = (h.0, swapped P p ps qs h.1)

-- what holds at the ends for each of these holds for each at the ends, where there are ends
pub ends_each : (P : Piece → Piece → Piece → Type 0) (ps qs : List Piece) → (ps ≡ [] → ⊥) → Each (λ x. AtEnds (λ a z. P a z x) ps) qs → AtEnds (λ a z. Each (P a z) qs) ps
ends_each P [] qs some h = absurd (some refl)
ends_each P (p ∷ ps) qs some h = swapped P p ps qs h
