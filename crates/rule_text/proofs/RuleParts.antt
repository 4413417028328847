-- A rule is read by three groups of categories.
use Rattle.std.proofs.Common.{◌≡◌, ◌∙◌, [], Result, Ok, Err, ap, codes, refl, sym}
use Rattle.serde_json.specs.Data.{Data}
use Rattle.fare_law.specs.declared.rules.Rule.{Rule}
use Rattle.rule_text.specs.declared.fault.RuleFault.{RuleFault}
use Rattle.rule_text.specs.Members.{◌>>=◌, with_members, optional_at, list_of}
use Rattle.rule_text.specs.Parts.{day_range_of, days_of}
use Rattle.rule_text.specs.Rules.{combine_rule_of, day_time_of, fare_parts_of, flight_rule_of, min_stay_of, rule_names, rule_of, stay_parts_of, stop_rule_of, surcharge_of, transfer_rule_of, travel_parts_of, travel_rule_of}

-- the rule of an object, group by group
abbrev pub rule_in_groups : Data → Result Rule RuleFault
rule_in_groups d = do
  _ ← with_members [] rule_names d
  a ← travel_parts_of d
  b ← stay_parts_of d
  c ← fare_parts_of d
  Ok (record { cat2 = a.0; cat3 = a.1; cat4 = a.2; cat5 = a.3; cat6 = b.0; cat7 = b.1; cat8 = b.2; cat9 = b.3; cat10 = c.0; cat12 = c.1; cat14 = c.2 })

abbrev three : {A B C : Type 0} → Result A RuleFault → Result B RuleFault → Result C RuleFault → Result (A × B × C) RuleFault
three a b c = do
  x ← a
  y ← b
  z ← c
  Ok (x, y, z)

abbrev four : {A B C D : Type 0} → Result A RuleFault → Result B RuleFault → Result C RuleFault → Result D RuleFault → Result (A × B × C × D) RuleFault
four a b c d = do
  x ← a
  y ← b
  z ← c
  w ← d
  Ok (x, y, z, w)

-- what is made of eleven results, of which four, four and three are put together before
groups_join : {A B C D E F G H I J K M : Type 0} (make : A → B → C → D → E → F → G → H → I → J → K → M)
    (a : Result A RuleFault) (b : Result B RuleFault) (c : Result C RuleFault) (d : Result D RuleFault) (e : Result E RuleFault) (f : Result F RuleFault) (g : Result G RuleFault) (h : Result H RuleFault) (i : Result I RuleFault) (j : Result J RuleFault) (k : Result K RuleFault)
    → (a >>= (λ x0. b >>= (λ x1. c >>= (λ x2. d >>= (λ x3. e >>= (λ x4. f >>= (λ x5. g >>= (λ x6. h >>= (λ x7. i >>= (λ x8. j >>= (λ x9. k >>= (λ x10. Ok (make x0 x1 x2 x3 x4 x5 x6 x7 x8 x9 x10)))))))))))))
    ≡ (four a b c d >>= (λ x. four e f g h >>= (λ y. three i j k >>= (λ z. Ok (make x.0 x.1 x.2 x.3 y.0 y.1 y.2 y.3 z.0 z.1 z.2)))))
groups_join make (Err _) _ _ _ _ _ _ _ _ _ _ = refl
groups_join make (Ok _) (Err _) _ _ _ _ _ _ _ _ _ = refl
groups_join make (Ok _) (Ok _) (Err _) _ _ _ _ _ _ _ _ = refl
groups_join make (Ok _) (Ok _) (Ok _) (Err _) _ _ _ _ _ _ _ = refl
groups_join make (Ok _) (Ok _) (Ok _) (Ok _) (Err _) _ _ _ _ _ _ = refl
groups_join make (Ok _) (Ok _) (Ok _) (Ok _) (Ok _) (Err _) _ _ _ _ _ = refl
groups_join make (Ok _) (Ok _) (Ok _) (Ok _) (Ok _) (Ok _) (Err _) _ _ _ _ = refl
groups_join make (Ok _) (Ok _) (Ok _) (Ok _) (Ok _) (Ok _) (Ok _) (Err _) _ _ _ = refl
groups_join make (Ok _) (Ok _) (Ok _) (Ok _) (Ok _) (Ok _) (Ok _) (Ok _) (Err _) _ _ = refl
groups_join make (Ok _) (Ok _) (Ok _) (Ok _) (Ok _) (Ok _) (Ok _) (Ok _) (Ok _) (Err _) _ = refl
groups_join make (Ok _) (Ok _) (Ok _) (Ok _) (Ok _) (Ok _) (Ok _) (Ok _) (Ok _) (Ok _) (Err _) = refl
groups_join make (Ok _) (Ok _) (Ok _) (Ok _) (Ok _) (Ok _) (Ok _) (Ok _) (Ok _) (Ok _) (Ok _) = refl

same_rule : (d : Data) → rule_of d ≡ rule_in_groups d
unfolding rule_of
same_rule d = ap (λ r. with_members [] rule_names d >>= (λ _. r))
    (groups_join (λ a b c e f g h i j k l. record { cat2 = a; cat3 = b; cat4 = c; cat5 = e; cat6 = f; cat7 = g; cat8 = h; cat9 = i; cat10 = j; cat12 = k; cat14 = l })
    (optional_at day_time_of (codes "cat2") d) (optional_at (list_of 8 day_range_of) (codes "cat3") d) (optional_at flight_rule_of (codes "cat4") d) (optional_at days_of (codes "cat5") d)
    (optional_at min_stay_of (codes "cat6") d) (optional_at days_of (codes "cat7") d) (optional_at stop_rule_of (codes "cat8") d) (optional_at transfer_rule_of (codes "cat9") d)
    (optional_at combine_rule_of (codes "cat10") d) (optional_at (list_of 8 surcharge_of) (codes "cat12") d) (optional_at travel_rule_of (codes "cat14") d))

-- the rule that was read group by group
pub read_in_groups : (d : Data) (r : Result Rule RuleFault) → r ≡ rule_in_groups d → r ≡ rule_of d
read_in_groups d r e = e ∙ sym (same_rule d)
