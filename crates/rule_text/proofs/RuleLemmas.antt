-- Objects of optional members are read again: stopovers, travel dates, and the rule itself.
use Rattle.std.proofs.Common.{◌≡◌, ◌≤◌, ℕ, ℤ, true, false, bytes_eq, List, [], ◌∷◌, Option, Some, None, Ok, codes, refl, arith, sym, subst, ap, ◌∙◌}
use Rattle.serde_json.specs.Data.{Data, Members, no_members, object, put}
use Rattle.serde_json.specs.Find.{get_member}
use Rattle.fare_law.specs.declared.names.Place.{Place}
use Rattle.fare_law.specs.declared.rules.DayRange.{DayRange}
use Rattle.fare_law.specs.declared.rules.Rule.{Rule}
use Rattle.fare_law.specs.declared.rules.StopRule.{StopRule}
use Rattle.fare_law.specs.declared.rules.TravelRule.{TravelRule}
use Rattle.fare_law.specs.RuleLimits.{IsStopRule}
use Rattle.rule_text.specs.Members.{list_of, only_named, optional_at}
use Rattle.rule_text.specs.Parts.{date_of, day_range_of, days_of, place_form}
use Rattle.rule_text.specs.Rules.{combine_rule_of, day_time_of, flight_rule_of, min_stay_of, rule_names, rule_of, stop_rule_of, surcharge_of, transfer_rule_of, travel_rule_of}
use Rattle.rule_text.specs.Again.{Spells}
use Rattle.rule_text.specs.Written.{member_if, stop_members}
use Rattle.rule_text.proofs.MemberLemmas.{EachPlain, Given, SpellsIf, built, built_named, built_floats, built_depth, built_in_order, found, get_other, listed, named_put, optional_again, spells_plain, turned}
use Rattle.law_lemmas.proofs.Tests.{le_true}

stops_again : (max charge : ℕ) (places : Option (List Place)) (o : Option Data) → max ≤ 3 → charge ≤ 1000000 → SpellsIf 1 (list_of 16 place_form) places o
    → Spells 2 stop_rule_of (record { max = max; charge = charge; places = places }) (object (stop_members charge max (member_if (codes "places") o no_members)))
stops_again max charge None None m h s = record {
  again = rw (le_true 0 max (omega arith), le_true max 3 m, le_true 0 charge (omega arith), le_true charge 1000000 h) refl;
  no_float = refl;
  nests = omega arith;
}
stops_again max charge None (Some d) m h s = absurd s
stops_again max charge (Some ps) None m h s = absurd s
stops_again max charge (Some ps) (Some d) m h s = record {
  again = rw (le_true 0 max (omega arith), le_true max 3 m, le_true 0 charge (omega arith), le_true charge 1000000 h, s.again) refl;
  no_float = rw (s.no_float) refl;
  nests = let a = s.nests in omega arith;
}

pub stop_rule_again : (r : StopRule) (o : Option Data) (v : Data) → v ≡ object (stop_members r.charge r.max (member_if (codes "places") o no_members))
    → SpellsIf 1 (list_of 16 place_form) r.places o → IsStopRule r → Spells 2 stop_rule_of r v
stop_rule_again r o v e s h =
    subst (λ (x : Data). Spells 2 stop_rule_of r x) (sym e) (stops_again r.max r.charge r.places o h.max h.charge s)

-- category 14

travel_of_members : (ranges : Option (List DayRange)) (by : Option ℤ) (ms : Members) → only_named [] (codes "ranges" ∷ codes "by" ∷ []) ms ≡ true
    → optional_at (list_of 8 day_range_of) (codes "ranges") (object ms) ≡ Ok ranges → optional_at date_of (codes "by") (object ms) ≡ Ok by
    → travel_rule_of (object ms) ≡ Ok (record { ranges = ranges; by = by })
travel_of_members ranges by ms named one other = rw (named, one, other) refl

pub travel_rule_again : (r : TravelRule) (ranges by : Option Data) (v : Data)
    → v ≡ object (member_if (codes "by") by (member_if (codes "ranges") ranges no_members))
    → SpellsIf 2 (list_of 8 day_range_of) r.ranges ranges → SpellsIf 0 date_of r.by by → Spells 3 travel_rule_of r v
travel_rule_again r ranges by v e one other =
    let gs : List Given = (codes "ranges", ranges) ∷ (codes "by", by) ∷ [] in
    let d : Given = ([], None) in
    let plain : EachPlain 2 gs = (spells_plain 2 2 (list_of 8 day_range_of) r.ranges ranges one (omega arith), (spells_plain 0 2 date_of r.by by other (omega arith), tt)) in
    subst (λ (x : Data). Spells 3 travel_rule_of r x) (ap object (built_in_order gs refl) ∙ sym e)
    (record {
      again = travel_of_members r.ranges r.by (built gs) (built_named [] (codes "ranges" ∷ codes "by" ∷ []) gs refl)
          (optional_again 2 (list_of 8 day_range_of) r.ranges (codes "ranges") ranges (built gs) one (found gs 0 d (omega arith) refl))
          (optional_again 0 date_of r.by (codes "by") by (built gs) other (found gs 1 d (omega arith) refl));
      no_float = built_floats 2 gs plain;
      nests = let h = built_depth 2 gs plain in omega arith;
    })

-- the rule

pub rule_of_members : (r : Rule) (ms : Members) → only_named [] rule_names ms ≡ true
    → optional_at day_time_of (codes "cat2") (object ms) ≡ Ok r.cat2
    → optional_at (list_of 8 day_range_of) (codes "cat3") (object ms) ≡ Ok r.cat3
    → optional_at flight_rule_of (codes "cat4") (object ms) ≡ Ok r.cat4
    → optional_at days_of (codes "cat5") (object ms) ≡ Ok r.cat5
    → optional_at min_stay_of (codes "cat6") (object ms) ≡ Ok r.cat6
    → optional_at days_of (codes "cat7") (object ms) ≡ Ok r.cat7
    → optional_at stop_rule_of (codes "cat8") (object ms) ≡ Ok r.cat8
    → optional_at transfer_rule_of (codes "cat9") (object ms) ≡ Ok r.cat9
    → optional_at combine_rule_of (codes "cat10") (object ms) ≡ Ok r.cat10
    → optional_at (list_of 8 surcharge_of) (codes "cat12") (object ms) ≡ Ok r.cat12
    → optional_at travel_rule_of (codes "cat14") (object ms) ≡ Ok r.cat14
    → rule_of (object ms) ≡ Ok r
unfolding rule_of
rule_of_members r ms named h2 h3 h4 h5 h6 h7 h8 h9 h10 h12 h14 =
    rw (named, h2, h3, h4, h5, h6, h7, h8, h9, h10, h12, h14) refl

-- the members of a rule, the last first
abbrev pub last_first : Option Data → Option Data → Option Data → Option Data → Option Data → Option Data → Option Data → Option Data → Option Data → Option Data → Option Data → List Given
last_first o10 o12 o14 o2 o3 o4 o5 o6 o7 o8 o9 =
    (codes "cat9", o9) ∷
    (codes "cat8", o8) ∷
    (codes "cat7", o7) ∷
    (codes "cat6", o6) ∷
    (codes "cat5", o5) ∷
    (codes "cat4", o4) ∷
    (codes "cat3", o3) ∷
    (codes "cat2", o2) ∷
    (codes "cat14", o14) ∷
    (codes "cat12", o12) ∷
    (codes "cat10", o10) ∷ []

pub rule_again : (r : Rule) (o10 o12 o14 o2 o3 o4 o5 o6 o7 o8 o9 : Option Data) (ms : Members) → ms ≡ listed (turned (last_first o10 o12 o14 o2 o3 o4 o5 o6 o7 o8 o9))
    → SpellsIf 2 day_time_of r.cat2 o2
    → SpellsIf 2 (list_of 8 day_range_of) r.cat3 o3
    → SpellsIf 3 flight_rule_of r.cat4 o4
    → SpellsIf 0 days_of r.cat5 o5
    → SpellsIf 1 min_stay_of r.cat6 o6
    → SpellsIf 0 days_of r.cat7 o7
    → SpellsIf 2 stop_rule_of r.cat8 o8
    → SpellsIf 1 transfer_rule_of r.cat9 o9
    → SpellsIf 2 combine_rule_of r.cat10 o10
    → SpellsIf 2 (list_of 8 surcharge_of) r.cat12 o12
    → SpellsIf 3 travel_rule_of r.cat14 o14
    → Spells 4 rule_of r (object ms)
rule_again r o10 o12 o14 o2 o3 o4 o5 o6 o7 o8 o9 ms e h2 h3 h4 h5 h6 h7 h8 h9 h10 h12 h14 =
    let gs : List Given = last_first o10 o12 o14 o2 o3 o4 o5 o6 o7 o8 o9 in
    let d : Given = ([], None) in
    let plain : EachPlain 3 gs = (spells_plain 1 3 transfer_rule_of r.cat9 o9 h9 (omega arith), (spells_plain 2 3 stop_rule_of r.cat8 o8 h8 (omega arith), (spells_plain 0 3 days_of r.cat7 o7 h7 (omega arith), (spells_plain 1 3 min_stay_of r.cat6 o6 h6 (omega arith), (spells_plain 0 3 days_of r.cat5 o5 h5 (omega arith), (spells_plain 3 3 flight_rule_of r.cat4 o4 h4 (omega arith), (spells_plain 2 3 (list_of 8 day_range_of) r.cat3 o3 h3 (omega arith), (spells_plain 2 3 day_time_of r.cat2 o2 h2 (omega arith), (spells_plain 3 3 travel_rule_of r.cat14 o14 h14 (omega arith), (spells_plain 2 3 (list_of 8 surcharge_of) r.cat12 o12 h12 (omega arith), (spells_plain 2 3 combine_rule_of r.cat10 o10 h10 (omega arith), tt))))))))))) in
    subst (λ (xs : Members). Spells 4 rule_of r (object xs)) (built_in_order gs refl ∙ sym e)
    (record {
      again = rule_of_members r (built gs) (built_named [] rule_names gs refl)
          (optional_again 2 day_time_of r.cat2 (codes "cat2") o2 (built gs) h2 (found gs 7 d (omega arith) refl))
          (optional_again 2 (list_of 8 day_range_of) r.cat3 (codes "cat3") o3 (built gs) h3 (found gs 6 d (omega arith) refl))
          (optional_again 3 flight_rule_of r.cat4 (codes "cat4") o4 (built gs) h4 (found gs 5 d (omega arith) refl))
          (optional_again 0 days_of r.cat5 (codes "cat5") o5 (built gs) h5 (found gs 4 d (omega arith) refl))
          (optional_again 1 min_stay_of r.cat6 (codes "cat6") o6 (built gs) h6 (found gs 3 d (omega arith) refl))
          (optional_again 0 days_of r.cat7 (codes "cat7") o7 (built gs) h7 (found gs 2 d (omega arith) refl))
          (optional_again 2 stop_rule_of r.cat8 (codes "cat8") o8 (built gs) h8 (found gs 1 d (omega arith) refl))
          (optional_again 1 transfer_rule_of r.cat9 (codes "cat9") o9 (built gs) h9 (found gs 0 d (omega arith) refl))
          (optional_again 2 combine_rule_of r.cat10 (codes "cat10") o10 (built gs) h10 (found gs 10 d (omega arith) refl))
          (optional_again 2 (list_of 8 surcharge_of) r.cat12 (codes "cat12") o12 (built gs) h12 (found gs 9 d (omega arith) refl))
          (optional_again 3 travel_rule_of r.cat14 (codes "cat14") o14 (built gs) h14 (found gs 8 d (omega arith) refl));
      no_float = built_floats 3 gs plain;
      nests = let h = built_depth 3 gs plain in omega arith;
    })

-- members of other names change nothing

same_members : (ns ms : Members) → only_named [] rule_names ns ≡ only_named [] rule_names ms
    → get_member (codes "cat2") ns ≡ get_member (codes "cat2") ms
    → get_member (codes "cat3") ns ≡ get_member (codes "cat3") ms
    → get_member (codes "cat4") ns ≡ get_member (codes "cat4") ms
    → get_member (codes "cat5") ns ≡ get_member (codes "cat5") ms
    → get_member (codes "cat6") ns ≡ get_member (codes "cat6") ms
    → get_member (codes "cat7") ns ≡ get_member (codes "cat7") ms
    → get_member (codes "cat8") ns ≡ get_member (codes "cat8") ms
    → get_member (codes "cat9") ns ≡ get_member (codes "cat9") ms
    → get_member (codes "cat10") ns ≡ get_member (codes "cat10") ms
    → get_member (codes "cat12") ns ≡ get_member (codes "cat12") ms
    → get_member (codes "cat14") ns ≡ get_member (codes "cat14") ms
    → rule_of (object ns) ≡ rule_of (object ms)
unfolding rule_of
same_members ns ms named h2 h3 h4 h5 h6 h7 h8 h9 h10 h12 h14 = rw (named, h2, h3, h4, h5, h6, h7, h8, h9, h10, h12, h14) refl

pub names_aside : (carrier number : Data) (ms : Members) → rule_of (object (put (codes "carrier") carrier (put (codes "rule") number ms))) ≡ rule_of (object ms)
names_aside carrier number ms =
    let rest = put (codes "rule") number ms in
    let whole = put (codes "carrier") carrier rest in
    let same = λ (q : List ℕ) (one : bytes_eq q (codes "carrier") ≡ false) (other : bytes_eq q (codes "rule") ≡ false).
    get_other q (codes "carrier") (Some carrier) rest one ∙ get_other q (codes "rule") (Some number) ms other in
    same_members whole ms (named_put [] rule_names (codes "carrier") carrier rest refl ∙ named_put [] rule_names (codes "rule") number ms refl)
    (same (codes "cat2") refl refl)
    (same (codes "cat3") refl refl)
    (same (codes "cat4") refl refl)
    (same (codes "cat5") refl refl)
    (same (codes "cat6") refl refl)
    (same (codes "cat7") refl refl)
    (same (codes "cat8") refl refl)
    (same (codes "cat9") refl refl)
    (same (codes "cat10") refl refl)
    (same (codes "cat12") refl refl)
    (same (codes "cat14") refl refl)
