-- The marks of carriers and rules against what category 10 asks of the fares of a unit.
use Rattle.std.proofs.Common.{◌≡◌, ◌≢◌, ℕ, ◌≤◌, ◌⊎◌, Bool, true, false, cond, ◌==◌, max, List, [], ◌∷◌, Option, Some, None, IfSome, sym, refl, ap, ◌∙◌, subst, inl, inr, arith, eq-eqb, eqb-true}
use Rattle.std.proofs.lemmas.Bool.{cases_Bool}
use Rattle.std.specs.Cmp.Lexicographic.{bytes_decides}
use Rattle.fare_law.specs.declared.names.Carrier.{Carrier}
use Rattle.fare_law.specs.declared.rules.CombineRule.{CombineRule}
use Rattle.fare_law.specs.declared.rules.Partners.{Partners}
use Rattle.fare_law.specs.declared.rules.Partners.TheVariants.{Any, SameCarrier, SameRule}
use Rattle.fare_law.specs.declared.tickets.Piece.{Piece}
use Rattle.fare_law.specs.Book.{same_carrier}
use Rattle.fare_law.specs.Lists.{Each}
use Rattle.fare_law.specs.Units.{SameAs, PartnersHold}
use Rattle.open_unit.specs.declared.marks.CarrierMark.{CarrierMark}
use Rattle.open_unit.specs.declared.marks.CarrierMark.TheVariants.{NotYet, One, Mixed}
use Rattle.open_unit.specs.declared.marks.RuleMark.{RuleMark}
use Rattle.open_unit.specs.declared.marks.RuleMark.TheVariants.{One as OneRule, Mixed as MixedRules}
use Rattle.fare_rules.specs.Demands.{partner_number, partner_of}
use Rattle.open_unit.specs.OpenUnits.{carrier_with, rule_with, OneCarrierMark, OneRuleMark, PartnerHolds}

pub same_carrier_is : (c d : Carrier) → same_carrier c d ≡ true → c ≡ d
same_carrier_is c d h = let e : c.0 ≡ d.0 = (bytes_decides c.0 d.0).0 h in ap (λ xs. carrier_of xs) e
  where
    carrier_of : List ℕ → Carrier
    carrier_of xs = record { 0 = xs }

pub same_carrier_self : (c d : Carrier) → c ≡ d → same_carrier c d ≡ true
same_carrier_self c d e = (bytes_decides c.0 d.0).1 (ap (λ x. x.0) e)

-- the marks after further fares
abbrev pub end_carrier : CarrierMark → List Piece → CarrierMark
end_carrier m [] = m
end_carrier m (p ∷ ps) = end_carrier (carrier_with m p.fare.key.carrier) ps

abbrev pub end_rule : CarrierMark → RuleMark → List Piece → RuleMark
end_rule m r [] = r
end_rule m r (p ∷ ps) = end_rule (carrier_with m p.fare.key.carrier) (rule_with (carrier_with m p.fare.key.carrier) r p.fare.rule) ps

abbrev pub end_demand : ℕ → List Piece → ℕ
end_demand d [] = d
end_demand d (p ∷ ps) = end_demand (max d (partner_of p.rule.cat10)) ps

mixed_stays : (ps : List Piece) → end_carrier Mixed ps ≡ Mixed
mixed_stays [] = refl
mixed_stays (p ∷ ps) = mixed_stays ps

mixed_rules_stay : (m : CarrierMark) (ps : List Piece) → end_rule m MixedRules ps ≡ MixedRules
mixed_rules_stay m [] = refl
mixed_rules_stay NotYet (p ∷ ps) = mixed_rules_stay (One p.fare.key.carrier) ps
mixed_rules_stay Mixed (p ∷ ps) = mixed_rules_stay Mixed ps
mixed_rules_stay (One c) (p ∷ ps) =
    elim (same_carrier c p.fare.key.carrier) as (λ b. end_rule (cond b (One c) Mixed) (rule_with (cond b (One c) Mixed) MixedRules p.fare.rule) ps ≡ MixedRules) [
      | true ↦ mixed_rules_stay (One c) ps
      | false ↦ mixed_rules_stay Mixed ps
    ]

abbrev pub OfCarrier : Carrier → Piece → Type 0
OfCarrier c p = p.fare.key.carrier ≡ c

abbrev pub OfRule : Carrier → ℕ → Piece → Type 0
OfRule c n p = (p.fare.key.carrier ≡ c) × (p.fare.rule ≡ n)

-- one carrier at the end is the first one, of all fares
pub one_carrier : (c d : Carrier) (ps : List Piece) → end_carrier (One c) ps ≡ One d → Each (OfCarrier c) ps
one_carrier c d [] h = tt
one_carrier c d (p ∷ ps) h = elim (cases_Bool (same_carrier c p.fare.key.carrier)) [
  | inl t ↦ (sym (same_carrier_is c p.fare.key.carrier t), one_carrier c d ps (ap (λ b. end_carrier (cond b (One c) Mixed) ps) (sym t) ∙ h))
  | inr f ↦ absurd (mixed_one d (sym (mixed_stays ps) ∙ ap (λ b. end_carrier (cond b (One c) Mixed) ps) (sym f) ∙ h))
]
  where
    mixed_one : (d : Carrier) → Mixed ≡ One d → ⊥
    mixed_one d e = cc

pub all_one_carrier : (c : Carrier) (ps : List Piece) → Each (OfCarrier c) ps → end_carrier (One c) ps ≡ One c
all_one_carrier c [] h = refl
all_one_carrier c (p ∷ ps) h = ap (λ b. end_carrier (cond b (One c) Mixed) ps) (same_carrier_self c p.fare.key.carrier (sym h.0)) ∙ all_one_carrier c ps h.1

pub one_rule : (c : Carrier) (n m : ℕ) (ps : List Piece) → end_rule (One c) (OneRule n) ps ≡ OneRule m → Each (OfRule c n) ps
one_rule c n m [] h = tt
one_rule c n m (p ∷ ps) h = elim (cases_Bool (same_carrier c p.fare.key.carrier)) [
  | inl t ↦ elim (cases_Bool (n == p.fare.rule)) [
    | inl e ↦ (
      (sym (same_carrier_is c p.fare.key.carrier t), sym (eqb-true n p.fare.rule e)),
      one_rule c n m ps (sym (both true true t e) ∙ h),
    )
    | inr f ↦ absurd (mixed_one (sym (mixed_rules_stay (One c) ps) ∙ sym (both true false t f) ∙ h))
  ]
  | inr f ↦ absurd (mixed_one (sym (mixed_rules_stay Mixed ps) ∙ sym (both false (n == p.fare.rule) f refl) ∙ h))
]
  where
    mixed_one : MixedRules ≡ OneRule m → ⊥
    mixed_one e = cc

    both : (a b : Bool) → same_carrier c p.fare.key.carrier ≡ a → (n == p.fare.rule) ≡ b
        → end_rule (One c) (OneRule n) (p ∷ ps) ≡ end_rule (cond a (One c) Mixed) (cond a (cond b (OneRule n) MixedRules) MixedRules) ps
    both true b s e = ap (λ x. end_rule (cond x (One c) Mixed) (rule_with (cond x (One c) Mixed) (OneRule n) p.fare.rule) ps) s ∙ ap (λ x. end_rule (One c) (cond x (OneRule n) MixedRules) ps) e
    both false b s e = ap (λ x. end_rule (cond x (One c) Mixed) (rule_with (cond x (One c) Mixed) (OneRule n) p.fare.rule) ps) s

pub all_one_rule : (c : Carrier) (n : ℕ) (ps : List Piece) → Each (OfRule c n) ps → end_rule (One c) (OneRule n) ps ≡ OneRule n
all_one_rule c n [] h = refl
all_one_rule c n (p ∷ ps) h =
    ap (λ x. end_rule (cond x (One c) Mixed) (rule_with (cond x (One c) Mixed) (OneRule n) p.fare.rule) ps) (same_carrier_self c p.fare.key.carrier (sym h.0.0))
    ∙ ap (λ x. end_rule (One c) (cond x (OneRule n) MixedRules) ps) (eq-eqb n p.fare.rule (sym h.0.1))
    ∙ all_one_rule c n ps h.1

-- one mark at the end was one before
pub was_one : (m : CarrierMark) (ps : List Piece) → OneCarrierMark (end_carrier m ps) → (m ≢ NotYet) → OneCarrierMark m
was_one NotYet ps h ne = absurd (ne refl)
was_one (One c) ps h ne = (c, refl)
was_one Mixed ps h ne = absurd (mixed_one (sym (mixed_stays ps) ∙ h.1))
  where
    mixed_one : Mixed ≡ One h.0 → ⊥
    mixed_one e = cc

pub was_one_rule : (m : CarrierMark) (r : RuleMark) (ps : List Piece) → OneRuleMark (end_rule m r ps) → OneRuleMark r
was_one_rule m (OneRule n) ps h = (n, refl)
was_one_rule m MixedRules ps h = absurd (mixed_one (sym (mixed_rules_stay m ps) ∙ h.1))
  where
    mixed_one : MixedRules ≡ OneRule h.0 → ⊥
    mixed_one e = cc

pub demand_grows : (d : ℕ) (ps : List Piece) → d ≤ end_demand d ps
demand_grows d [] = omega arith
demand_grows d (p ∷ ps) = omega (arith, demand_grows (max d (partner_of p.rule.cat10)) ps)

-- What holds of all fares holds of those so far.
pub partners_before : (d : ℕ) (m : CarrierMark) (r : RuleMark) (ps : List Piece) → m ≢ NotYet → PartnerHolds (end_demand d ps) (end_carrier m ps) (end_rule m r ps) → PartnerHolds d m r
partners_before d m r ps ne h = (λ a. was_one m ps (h.0 (omega (arith, demand_grows d ps, a))) ne, λ a. was_one_rule m r ps (h.1 (omega (arith, demand_grows d ps, a))))

-- each fare's demand is within the demand at the end, and that is the first one or some fare's
pub demands_within : (d e : ℕ) (ps : List Piece) → end_demand d ps ≤ e → Each (λ p. partner_of p.rule.cat10 ≤ e) ps
demands_within d e [] h = tt
demands_within d e (p ∷ ps) h = (omega (arith, demand_grows (max d (partner_of p.rule.cat10)) ps), demands_within (max d (partner_of p.rule.cat10)) e ps h)

pub demand_from : (P : Type 0) (d e : ℕ) (ps : List Piece) → e ≤ end_demand d ps → (e ≤ d → P) → Each (λ p. e ≤ partner_of p.rule.cat10 → P) ps → P
demand_from P d e [] h first each = first h
demand_from P d e (p ∷ ps) h first each =
    demand_from P (max d (partner_of p.rule.cat10)) e ps h (λ a. either (partner_of p.rule.cat10) a each.0) each.1
  where
    either : (q : ℕ) → e ≤ max d q → (e ≤ q → P) → P
    either q a f = elim (split q a) [ inl x ↦ first x | inr y ↦ f y ]
      where
        split : (q : ℕ) → e ≤ max d q → (e ≤ d) ⊎ (e ≤ q)
        split q a = grind arith

-- what one fare's partners ask, by its number
asks_carrier : (c : Option CombineRule) (ps : List Piece) (p : Piece) → 1 ≤ partner_of c → IfSome c (λ c. Each (SameAs c.partners p) ps) → Each (OfCarrier p.fare.key.carrier) ps
asks_carrier None ps p h k = absurd (omega arith)
asks_carrier (Some c) ps p h k = step c.partners h k
  where
    firsts : (qs : List Piece) → Each (OfRule p.fare.key.carrier p.fare.rule) qs → Each (OfCarrier p.fare.key.carrier) qs
    firsts [] k = tt
    firsts (q ∷ qs) k = (k.0.0, firsts qs k.1)

    step : (a : Partners) → 1 ≤ partner_number a → Each (SameAs a p) ps → Each (OfCarrier p.fare.key.carrier) ps
    step Any h k = absurd (omega arith)
    step SameCarrier h k = k
    step SameRule h k = firsts ps k

asks_rule : (c : Option CombineRule) (ps : List Piece) (p : Piece) → 2 ≤ partner_of c → IfSome c (λ c. Each (SameAs c.partners p) ps) → Each (OfRule p.fare.key.carrier p.fare.rule) ps
asks_rule None ps p h k = absurd (omega arith)
asks_rule (Some c) ps p h k = step c.partners h k
  where
    step : (a : Partners) → 2 ≤ partner_number a → Each (SameAs a p) ps → Each (OfRule p.fare.key.carrier p.fare.rule) ps
    step Any h k = absurd (omega arith)
    step SameCarrier h k = absurd (omega arith)
    step SameRule h k = k

answers : (c : Option CombineRule) (ps : List Piece) (p : Piece) → (1 ≤ partner_of c → Each (OfCarrier p.fare.key.carrier) ps) → (2 ≤ partner_of c → Each (OfRule p.fare.key.carrier p.fare.rule) ps) → IfSome c (λ c. Each (SameAs c.partners p) ps)
answers None ps p h k = tt
answers (Some c) ps p h k = step c.partners h k
  where
    anything : (qs : List Piece) → Each (λ q. Unit {0}) qs
    anything [] = tt
    anything (q ∷ qs) = (tt, anything qs)

    step : (a : Partners) → (1 ≤ partner_number a → Each (OfCarrier p.fare.key.carrier) ps) → (2 ≤ partner_number a → Each (OfRule p.fare.key.carrier p.fare.rule) ps) → Each (SameAs a p) ps
    step Any h k = anything ps
    step SameCarrier h k = h (omega arith)
    step SameRule h k = k (omega arith)

moved_carrier : (c d : Carrier) (ps : List Piece) → c ≡ d → Each (OfCarrier c) ps → Each (OfCarrier d) ps
moved_carrier c d ps e h = subst (λ x. Each (OfCarrier x) ps) e h

moved_rule : (c d : Carrier) (n m : ℕ) (ps : List Piece) → c ≡ d → n ≡ m → Each (OfRule c n) ps → Each (OfRule d m) ps
moved_rule c d n m ps e f h = subst (λ x. Each (OfRule x m) ps) e (subst (λ x. Each (OfRule c x) ps) f h)

abbrev pub demand_of : Piece → ℕ
demand_of p = partner_of p.rule.cat10

-- The marks of a unit that begins with a, with these further fares, hold where the partners of each fare do.
pub partners_marks : (a : Piece) (ps : List Piece) → Each (PartnersHold (a ∷ ps)) (a ∷ ps)
    → PartnerHolds (end_demand (demand_of a) ps) (end_carrier (One a.fare.key.carrier) ps) (end_rule (One a.fare.key.carrier) (OneRule a.fare.rule) ps)
partners_marks a ps h = (
  λ d. (a.fare.key.carrier, all_one_carrier a.fare.key.carrier ps (demand_from (Each (OfCarrier a.fare.key.carrier) ps) (demand_of a) 1 ps d (λ x. (asks_carrier a.rule.cat10 (a ∷ ps) a x h.0).1) (carriers ps h.1))),
  λ d. (a.fare.rule, all_one_rule a.fare.key.carrier a.fare.rule ps (demand_from (Each (OfRule a.fare.key.carrier a.fare.rule) ps) (demand_of a) 2 ps d (λ x. (asks_rule a.rule.cat10 (a ∷ ps) a x h.0).1) (rules' ps h.1))),
)
  where
    carriers : (qs : List Piece) → Each (PartnersHold (a ∷ ps)) qs → Each (λ p. 1 ≤ partner_of p.rule.cat10 → Each (OfCarrier a.fare.key.carrier) ps) qs
    carriers [] k = tt
    carriers (q ∷ qs) k = ((λ x. let e = asks_carrier q.rule.cat10 (a ∷ ps) q x k.0 in moved_carrier q.fare.key.carrier a.fare.key.carrier ps (sym e.0) e.1), carriers qs k.1)

    rules' : (qs : List Piece) → Each (PartnersHold (a ∷ ps)) qs → Each (λ p. 2 ≤ partner_of p.rule.cat10 → Each (OfRule a.fare.key.carrier a.fare.rule) ps) qs
    rules' [] k = tt
    rules' (q ∷ qs) k = ((λ x. let e = asks_rule q.rule.cat10 (a ∷ ps) q x k.0 in moved_rule q.fare.key.carrier a.fare.key.carrier q.fare.rule a.fare.rule ps (sym e.0.0) (sym e.0.1) e.1), rules' qs k.1)

-- And the other way round.
pub marks_partners : (a : Piece) (ps : List Piece)
    → PartnerHolds (end_demand (demand_of a) ps) (end_carrier (One a.fare.key.carrier) ps) (end_rule (One a.fare.key.carrier) (OneRule a.fare.rule) ps)
    → Each (PartnersHold (a ∷ ps)) (a ∷ ps)
marks_partners a ps h = (
  answers a.rule.cat10 (a ∷ ps) a (λ x. (refl, carriers (omega (arith, demand_grows (demand_of a) ps)))) (λ x. ((refl, refl), rules' (omega (arith, demand_grows (demand_of a) ps)))),
  each ps carriers rules' (demands_within (demand_of a) (end_demand (demand_of a) ps) ps (omega arith)),
)
  where
    carriers : 1 ≤ end_demand (demand_of a) ps → Each (OfCarrier a.fare.key.carrier) ps
    carriers d = let m = h.0 d in one_carrier a.fare.key.carrier m.0 ps m.1

    rules' : 2 ≤ end_demand (demand_of a) ps → Each (OfRule a.fare.key.carrier a.fare.rule) ps
    rules' d = let m = h.1 d in one_rule a.fare.key.carrier a.fare.rule m.0 ps m.1

    each : (qs : List Piece)
        → (1 ≤ end_demand (demand_of a) ps → Each (OfCarrier a.fare.key.carrier) qs) → (2 ≤ end_demand (demand_of a) ps → Each (OfRule a.fare.key.carrier a.fare.rule) qs)
        → Each (λ p. partner_of p.rule.cat10 ≤ end_demand (demand_of a) ps) qs → Each (PartnersHold (a ∷ ps)) qs
    each [] f g w = tt
    each (q ∷ qs) f g w = (
      answers q.rule.cat10 (a ∷ ps) q
          (λ x. let d : 1 ≤ end_demand (demand_of a) ps = omega (arith, w.0) in moved_carrier a.fare.key.carrier q.fare.key.carrier (a ∷ ps) (sym (f d).0) (refl, carriers d))
          (λ x. let d : 2 ≤ end_demand (demand_of a) ps = omega (arith, w.0) in moved_rule a.fare.key.carrier q.fare.key.carrier a.fare.rule q.fare.rule (a ∷ ps) (sym (g d).0.0) (sym (g d).0.1) ((refl, refl), rules' d)),
      each qs (λ d. (f d).1) (λ d. (g d).1) w.1,
    )
