-- A unit meets the demand that two demands meet in exactly where it meets both, and the demand of a
-- rule exactly where the rule holds.
use Rattle.std.proofs.Common.{ℕ, ℤ, ◌≤◌, ◌⊎◌, max, List, [], ◌∷◌, Option, Some, None, IfSome, sym, subst, ⊎_elim, arith}
use Rattle.fare_law.specs.declared.names.Carrier.{Carrier}
use Rattle.fare_law.specs.declared.rules.CombineRule.{CombineRule}
use Rattle.fare_law.specs.declared.rules.Partners.{Partners}
use Rattle.fare_law.specs.declared.rules.Partners.TheVariants.{Any, SameCarrier, SameRule}
use Rattle.fare_law.specs.declared.rules.UnitKind.{UnitKind}
use Rattle.fare_law.specs.declared.tickets.Piece.{Piece}
use Rattle.fare_law.specs.Lists.{Each, IsIn}
use Rattle.fare_law.specs.Units.{SameAs}
use Rattle.fare_rules.specs.declared.demand.UnitDemand.{UnitDemand}
use Rattle.fare_rules.specs.Demands.{partner_number, partner_of, met}
use Rattle.fare_rules.specs.Meeting.{HaveCarrier, HaveRule, Meets, MeetsBoth, DemandsAreRules}
use Rattle.fare_rules.proofs.DayLemmas.{later_holds, later_parts, earlier_holds, earlier_parts, stay_holds, stay_parts, most_holds, most_parts, by_holds, by_parts}
use Rattle.fare_rules.proofs.KindLemmas.{kind_from, kind_to, common_parts, common_holds}
use Rattle.law_lemmas.proofs.EachOne.{each_weaker, member_holds}

-- one of two numbers is as large as another where the greater is
pub of_max : (n a b : ℕ) → n ≤ max a b → (n ≤ a) ⊎ (n ≤ b)
of_max n a b h = grind arith

meets_parts : (d e : UnitDemand) (kind : UnitKind) (back last : ℤ) (ps : List Piece) → Meets (met d e) kind back last ps → Meets d kind back last ps × Meets e kind back last ps
meets_parts d e kind back last ps m =
    let kinds = common_parts d.kinds e.kinds kind m.kind_allowed in
    let by = earlier_parts d.by e.by last m.by in (
      record {
        kind_allowed = kinds.0;
        returns = λ h. ((later_parts d.min_return e.min_return back (m.returns h).0).0, (earlier_parts d.max_return e.max_return back (m.returns h).1).0);
        by = by.0;
        one_carrier = λ h. m.one_carrier (omega arith);
        one_rule = λ h. m.one_rule (omega arith);
      },
      record {
        kind_allowed = kinds.1;
        returns = λ h. ((later_parts d.min_return e.min_return back (m.returns h).0).1, (earlier_parts d.max_return e.max_return back (m.returns h).1).1);
        by = by.1;
        one_carrier = λ h. m.one_carrier (omega arith);
        one_rule = λ h. m.one_rule (omega arith);
      },
    )

meets_holds : (d e : UnitDemand) (kind : UnitKind) (back last : ℤ) (ps : List Piece) → Meets d kind back last ps → Meets e kind back last ps → Meets (met d e) kind back last ps
meets_holds d e kind back last ps m n = record {
  kind_allowed = common_holds d.kinds e.kinds kind m.kind_allowed n.kind_allowed;
  returns = λ h. (later_holds d.min_return e.min_return back (m.returns h).0 (n.returns h).0, earlier_holds d.max_return e.max_return back (m.returns h).1 (n.returns h).1);
  by = earlier_holds d.by e.by last m.by n.by;
  one_carrier = λ h. ⊎_elim m.one_carrier n.one_carrier (of_max 1 d.partner e.partner h);
  one_rule = λ h. ⊎_elim m.one_rule n.one_rule (of_max 2 d.partner e.partner h);
}

pub meets_both : (d e : UnitDemand) → MeetsBoth (met d e) d e
meets_both d e kind back last ps =
    (meets_parts d e kind back last ps, λ h. meets_holds d e kind back last ps h.0 h.1)

each_free : (p : Piece) (ps : List Piece) → Each (SameAs Any p) ps
each_free p [] = tt
each_free p (q ∷ ps) = (tt, each_free p ps)

-- fares of one carrier have that of each of them
carrier_at : (p : Piece) (ps : List Piece) → IsIn p ps → (c : Carrier) → HaveCarrier c ps → HaveCarrier p.fare.key.carrier ps
carrier_at p ps i c h = subst (λ x. HaveCarrier x ps) (sym (member_holds _ p ps i h)) h

rule_at : (p : Piece) (ps : List Piece) → IsIn p ps → (c : Carrier) (n : ℕ) → HaveRule c n ps → HaveRule p.fare.key.carrier p.fare.rule ps
rule_at p ps i c n h =
    let at = member_holds _ p ps i h in
    subst (λ x. HaveRule x p.fare.rule ps) (sym at.0) (subst (λ x. HaveRule c x ps) (sym at.1) h)

abbrev HasPartners : ℕ → List Piece → Type 0
HasPartners demand ps = (1 ≤ demand → (c : Carrier) × HaveCarrier c ps) × (2 ≤ demand → (c : Carrier) × (n : ℕ) × HaveRule c n ps)

same_from : (partners : Partners) (p : Piece) (ps : List Piece) → IsIn p ps → HasPartners (partner_number partners) ps → Each (SameAs partners p) ps
same_from Any p ps i h = each_free p ps
same_from SameCarrier p ps i h = let one = h.0 (omega arith) in carrier_at p ps i one.0 one.1
same_from SameRule p ps i h = let one = h.1 (omega arith) in rule_at p ps i one.0 one.1 one.2

same_to : (partners : Partners) (p : Piece) (ps : List Piece) → Each (SameAs partners p) ps → HasPartners (partner_number partners) ps
same_to Any p ps h = (λ l. absurd (omega arith), λ l. absurd (omega arith))
same_to SameCarrier p ps h = (λ l. (p.fare.key.carrier, h), λ l. absurd (omega arith))
same_to SameRule p ps h =
    (λ l. (p.fare.key.carrier, each_weaker (SameAs SameRule p) (SameAs SameCarrier p) (λ q e. e.0) ps h), λ l. (p.fare.key.carrier, p.fare.rule, h))

partners_from : (c : Option CombineRule) (p : Piece) (ps : List Piece) → IsIn p ps → HasPartners (partner_of c) ps → IfSome c (λ c. Each (SameAs c.partners p) ps)
partners_from None p ps i h = tt
partners_from (Some c) p ps i h = same_from c.partners p ps i h

partners_to : (c : Option CombineRule) (p : Piece) (ps : List Piece) → IfSome c (λ c. Each (SameAs c.partners p) ps) → HasPartners (partner_of c) ps
partners_to None p ps h = (λ l. absurd (omega arith), λ l. absurd (omega arith))
partners_to (Some c) p ps h = same_to c.partners p ps h

pub demands_rules : DemandsAreRules
demands_rules kind first back last ps p i =
    let r = p.rule in (
      λ m. record {
        min_stay = λ h. stay_parts r.cat6 first back (m.returns h).0;
        max_stay = λ h. most_parts r.cat7 first back (m.returns h).1;
        kind_allowed = kind_from r.cat10 kind m.kind_allowed;
        partners = partners_from r.cat10 p ps i (m.one_carrier, m.one_rule);
        by = by_parts r.cat14 last m.by;
      },
      λ h.
          let partners = partners_to r.cat10 p ps h.partners in
          record {
            kind_allowed = kind_to r.cat10 kind h.kind_allowed;
            returns = λ several. (stay_holds r.cat6 first back (h.min_stay several), most_holds r.cat7 first back (h.max_stay several));
            by = by_holds r.cat14 last h.by;
            one_carrier = partners.0;
            one_rule = partners.1;
          },
    )
