-- The kind that is told from stretches is that of their unit.
use Rattle.std.proofs.Common.{◌≡◌, ◌∙◌, ◌&&◌, ◌≤◌, Bool, true, false, not, cond, List, [], ◌∷◌, Option, Some, None, MatchOption, map, length, refl, sym, subst, inl, inr, arith}
use Rattle.std.specs.Bool.{Decides}
use Rattle.fare_law.specs.declared.rules.UnitKind.{UnitKind}
use Rattle.fare_law.specs.declared.rules.UnitKind.TheVariants.{OneWay, RoundTrip, OpenJaw, Circle}
use Rattle.fare_law.specs.declared.tickets.Piece.{Piece}
use Rattle.fare_law.specs.Book.{same_place}
use Rattle.fare_law.specs.Parts.{Part}
use Rattle.std.proofs.lemmas.Bool.Decides.{Decides-and, Decides-like}
use Rattle.fare_law.specs.Lists.{OnFirst, OnLast}
use Rattle.fare_law.specs.Units.{IsUnit}
use Rattle.ticket_whole.specs.declared.stretch.Stretch.{Stretch}
use Rattle.ticket_whole.specs.declared.units.UnitFacts.{UnitFacts}
use Rattle.ticket_whole.specs.Kinds.{HasNoKind}
use Rattle.ticket_whole.specs.Stretches.{stretch_of, only_if, kind_of_ends, facts_from, facts_of}
use Rattle.law_lemmas.proofs.Names.{places_told}

abbrev pub KindTold : Option UnitKind → List Piece → Type 0
KindTold o ps = MatchOption o (HasNoKind ps) (λ kind. IsUnit kind ps)

not_one : (p q : Piece) (ps : List Piece) → IsUnit OneWay (p ∷ q ∷ ps) → ⊥
not_one p q ps h = absurd (omega (arith, h.0))

no_circle_below : (ps : List Piece) → length ps ≤ 2 → IsUnit Circle ps → ⊥
no_circle_below ps le h = absurd (omega (arith, h.0, le))

one_told : (p : Piece) (r : Bool) → p.reverse ≡ r → KindTold (only_if (not r) OneWay) (p ∷ [])
one_told p false e = (refl, e)
one_told p true e = one_not
  where
    one_not : (k : UnitKind) → IsUnit k (p ∷ []) → ⊥
    one_not OneWay h = let w : true ≡ false = sym e ∙ h.1 in cc
    one_not RoundTrip h = absurd (omega (arith, h.0))
    one_not OpenJaw h = absurd (omega (arith, h.0))
    one_not Circle h = absurd (omega (arith, h.0))

forward_told : (p : Piece) → Decides (not p.reverse) (p.reverse ≡ false)
forward_told p = told p.reverse
  where
    told : (r : Bool) → Decides (not r) (r ≡ false)
    told true = (λ h. absurd (cc), λ h. absurd (cc))
    told false = (λ h. refl, λ h. refl)

reverse_told : (p : Piece) → Decides p.reverse (p.reverse ≡ true)
reverse_told p = (λ h. h, λ h. h)

joins_told : (p q : Piece) → Decides (same_place p.begin q.end) (p.begin ≡ q.end)
joins_told p q = places_told p.begin q.end

circle_only : (k : UnitKind) (ps : List Piece) → 3 ≤ length ps → IsUnit k ps → k ≡ Circle
circle_only OneWay ps le h = absurd (omega (arith, h.0, le))
circle_only RoundTrip ps le h = absurd (omega (arith, h.0, le))
circle_only OpenJaw ps le h = absurd (omega (arith, h.0, le))
circle_only Circle ps le h = refl

circle_told : (t : Bool) (ps : List Piece) → 3 ≤ length ps → Decides t (IsUnit Circle ps) → KindTold (only_if t Circle) ps
circle_told true ps le d = d.0 refl
circle_told false ps le d = λ k h. let w : false ≡ true = d.1 (subst (λ x. IsUnit x ps) (circle_only k ps le h) h) in cc

three_told : (p q r : Piece) → KindTold (only_if (not p.reverse && (not q.reverse && (r.reverse && (same_place q.begin p.end && (same_place r.begin q.end && same_place p.begin r.end))))) Circle) (p ∷ q ∷ r ∷ [])
three_told p q r =
    circle_told _ (p ∷ q ∷ r ∷ []) (omega arith)
    (Decides-like _ (λ h. (omega arith, omega arith, (h.0, (h.1.0, h.1.1.0)), (h.1.1.1.0, (h.1.1.1.1.0, tt)), sym h.1.1.1.1.1)) (λ u. (u.2.0, (u.2.1.0, (u.2.1.1, (u.3.0, (u.3.1.0, sym u.4))))))
    (Decides-and _ _ (forward_told p) (Decides-and _ _ (forward_told q) (Decides-and _ _ (reverse_told r) (Decides-and _ _ (joins_told q p) (Decides-and _ _ (joins_told r q) (joins_told p r)))))))

four_told : (p q r s : Piece)
    → KindTold (only_if (not p.reverse && (not q.reverse && (not r.reverse && (s.reverse && (same_place q.begin p.end && (same_place r.begin q.end && (same_place s.begin r.end && same_place p.begin s.end))))))) Circle) (p ∷ q ∷ r ∷ s ∷ [])
four_told p q r s =
    circle_told _ (p ∷ q ∷ r ∷ s ∷ []) (omega arith)
    (Decides-like _ (λ h. (omega arith, omega arith, (h.0, (h.1.0, (h.1.1.0, h.1.1.1.0))), (h.1.1.1.1.0, (h.1.1.1.1.1.0, (h.1.1.1.1.1.1.0, tt))), sym h.1.1.1.1.1.1.1))
    (λ u. (u.2.0, (u.2.1.0, (u.2.1.1.0, (u.2.1.1.1, (u.3.0, (u.3.1.0, (u.3.1.1.0, sym u.4))))))))
    (Decides-and _ _ (forward_told p) (Decides-and _ _ (forward_told q) (Decides-and _ _ (forward_told r) (Decides-and _ _ (reverse_told s) (Decides-and _ _ (joins_told q p) (Decides-and _ _ (joins_told r q) (Decides-and _ _ (joins_told s r) (joins_told p s)))))))))

not_two : (p q : Piece) → ((p.reverse ≡ false) × (q.reverse ≡ true) → ⊥) → HasNoKind (p ∷ q ∷ [])
not_two p q wrong OneWay h = absurd (omega (arith, h.0))
not_two p q wrong RoundTrip h = wrong (h.1.0, h.1.1)
not_two p q wrong OpenJaw h = wrong (h.1.0, h.1.1)
not_two p q wrong Circle h = absurd (omega (arith, h.0))

ends_told : (p q : Piece) (f n : Bool) → p.reverse ≡ false → q.reverse ≡ true → Decides f (q.begin ≡ p.end) → Decides n (p.begin ≡ q.end) → KindTold (kind_of_ends f n) (p ∷ q ∷ [])
ends_told p q true true a b df dn = (refl, (a, b), ((df.0 refl, sym (dn.0 refl)), tt))
ends_told p q true false a b df dn = (refl, (a, b), (inl (df.0 refl, λ e. let w = dn.1 (sym e) in cc), tt))
ends_told p q false true a b df dn = (refl, (a, b), (inr (λ e. let w = df.1 e in cc, sym (dn.0 refl)), tt))
ends_told p q false false a b df dn = none
  where
    none : (k : UnitKind) → IsUnit k (p ∷ q ∷ []) → ⊥
    none OneWay h = absurd (omega (arith, h.0))
    none RoundTrip h = let w = df.1 h.2.0.0 in cc
    none OpenJaw h = elim h.2.0 [ inl x ↦ let w = df.1 x.0 in cc | inr y ↦ let w = dn.1 (sym y.1) in cc ]
    none Circle h = absurd (omega (arith, h.0))

two_told : (p q : Piece) (r s : Bool) → p.reverse ≡ r → q.reverse ≡ s → KindTold (cond (not r && s) (kind_of_ends (same_place q.begin p.end) (same_place p.begin q.end)) None) (p ∷ q ∷ [])
two_told p q true s e f = not_two p q (λ h. let w : true ≡ false = sym e ∙ h.0 in cc)
two_told p q false false e f = not_two p q (λ h. let w : false ≡ true = sym f ∙ h.1 in cc)
two_told p q false true e f = ends_told p q _ _ e f (joins_told q p) (joins_told p q)

no_many : (p q r s t : Piece) (ps : List Piece) → HasNoKind (p ∷ q ∷ r ∷ s ∷ t ∷ ps)
no_many p q r s t ps OneWay h = absurd (omega (arith, h.0))
no_many p q r s t ps RoundTrip h = absurd (omega (arith, h.0))
no_many p q r s t ps OpenJaw h = absurd (omega (arith, h.0))
no_many p q r s t ps Circle h = absurd (omega (arith, h.1))

none_of_none : HasNoKind []
none_of_none OneWay h = absurd (omega (arith, h.0))
none_of_none RoundTrip h = absurd (omega (arith, h.0))
none_of_none OpenJaw h = absurd (omega (arith, h.0))
none_of_none Circle h = absurd (omega (arith, h.0))

-- the kind and the days of a unit
pub record AreFacts (ps : List Piece) (f : UnitFacts) : Type 0 where
  pub kind : IsUnit f.kind ps
  pub days : OnFirst (λ a. OnLast (λ z. (f.first_day ≡ a.first_day) × (f.return_day ≡ z.first_day) × (f.last_day ≡ z.last_day)) ps) ps

abbrev pub FactsTold : Option UnitFacts → List Piece → Type 0
FactsTold o ps = MatchOption o (HasNoKind ps) (AreFacts ps)

facts_from_kind : (o : Option UnitKind) (a z : Stretch) (ps : List Piece) → KindTold o ps → OnFirst (λ p. OnLast (λ q. (a.first_day ≡ p.first_day) × (z.first_day ≡ q.first_day) × (z.last_day ≡ q.last_day)) ps) ps → FactsTold (facts_from o a z) ps
facts_from_kind None a z ps h days = h
facts_from_kind (Some k) a z ps h days = record { kind = h; days = days }

pub facts_told : (parts : List Part) → FactsTold (facts_of (map stretch_of parts)) (map (λ part. part.piece) parts)
facts_told [] = none_of_none
facts_told (a ∷ []) = facts_from_kind _ (stretch_of a) (stretch_of a) (a.piece ∷ []) (one_told a.piece a.piece.reverse refl) (refl, refl, refl)
facts_told (a ∷ b ∷ []) = facts_from_kind _ (stretch_of a) (stretch_of b) (a.piece ∷ b.piece ∷ []) (two_told a.piece b.piece a.piece.reverse b.piece.reverse refl refl) (refl, refl, refl)
facts_told (a ∷ b ∷ c ∷ []) = facts_from_kind _ (stretch_of a) (stretch_of c) (a.piece ∷ b.piece ∷ c.piece ∷ []) (three_told a.piece b.piece c.piece) (refl, refl, refl)
facts_told (a ∷ b ∷ c ∷ d ∷ []) = facts_from_kind _ (stretch_of a) (stretch_of d) (a.piece ∷ b.piece ∷ c.piece ∷ d.piece ∷ []) (four_told a.piece b.piece c.piece d.piece) (refl, refl, refl)
facts_told (a ∷ b ∷ c ∷ d ∷ e ∷ parts) = no_many a.piece b.piece c.piece d.piece e.piece (map (λ part. part.piece) parts)
