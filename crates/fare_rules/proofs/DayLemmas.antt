-- Days of return and last days: where two demands hold, and what categories 6, 7 and 14 say. Given on to the crates above.
use Rattle.std.proofs.Common.{◌≡◌, ℕ, ℤ, pos, ◌+ℤ◌, ◌≤ℤ◌, Bool, true, false, cond, Option, Some, None, IfSome, sym, ap, ◌∙◌, arith}
use Rattle.std.specs.Bool.{OnTrue}
use Rattle.std.specs.Int.{int_max, int_min}
use Rattle.std.proofs.lemmas.Int.{ints}
use Rattle.fare_law.specs.declared.rules.MinStay.{MinStay}
use Rattle.fare_law.specs.declared.rules.TravelRule.{TravelRule}
use Rattle.fare_law.specs.Days.{first_sunday_after}
use Rattle.fare_rules.specs.Demands.{AtLeast, AtMost, later_of, earlier_of, least_stay, greatest_stay, by_day}

pub max_below : (x y d : ℤ) → x ≤ℤ d → y ≤ℤ d → int_max x y ≤ℤ d
max_below x y d a b = grind (arith, ints)

pub max_parts : (x y d : ℤ) → int_max x y ≤ℤ d → (x ≤ℤ d) × (y ≤ℤ d)
max_parts x y d a = (grind (arith, ints), grind (arith, ints))

pub min_above : (x y d : ℤ) → d ≤ℤ x → d ≤ℤ y → d ≤ℤ int_min x y
min_above x y d a b = grind (arith, ints)

pub min_parts : (x y d : ℤ) → d ≤ℤ int_min x y → (d ≤ℤ x) × (d ≤ℤ y)
min_parts x y d a = (grind (arith, ints), grind (arith, ints))

pub later_holds : (a b : Option ℤ) (d : ℤ) → AtLeast a d → AtLeast b d → AtLeast (later_of a b) d
later_holds None b d h k = k
later_holds (Some x) None d h k = h
later_holds (Some x) (Some y) d h k = max_below x y d h k

pub later_parts : (a b : Option ℤ) (d : ℤ) → AtLeast (later_of a b) d → AtLeast a d × AtLeast b d
later_parts None b d h = (tt, h)
later_parts (Some x) None d h = (h, tt)
later_parts (Some x) (Some y) d h = max_parts x y d h

pub earlier_holds : (a b : Option ℤ) (d : ℤ) → AtMost a d → AtMost b d → AtMost (earlier_of a b) d
earlier_holds None b d h k = k
earlier_holds (Some x) None d h k = h
earlier_holds (Some x) (Some y) d h k = min_above x y d h k

pub earlier_parts : (a b : Option ℤ) (d : ℤ) → AtMost (earlier_of a b) d → AtMost a d × AtMost b d
earlier_parts None b d h = (tt, h)
earlier_parts (Some x) None d h = (h, tt)
earlier_parts (Some x) (Some y) d h = min_parts x y d h

sunday_holds : (s : Bool) (f t d : ℤ) → f ≤ℤ d → OnTrue s (t ≤ℤ d) → cond s (int_max f t) f ≤ℤ d
sunday_holds true f t d a b = max_below f t d a b
sunday_holds false f t d a b = a

sunday_parts : (s : Bool) (f t d : ℤ) → cond s (int_max f t) f ≤ℤ d → (f ≤ℤ d) × OnTrue s (t ≤ℤ d)
sunday_parts true f t d h = max_parts f t d h
sunday_parts false f t d h = (h, tt)

pub stay_holds : (c : Option MinStay) (first back : ℤ) → IfSome c (λ c. ((first +ℤ pos c.days) ≤ℤ back) × OnTrue c.sunday (first_sunday_after first ≤ℤ back)) → AtLeast (least_stay c first) back
stay_holds None first back h = tt
stay_holds (Some c) first back h = sunday_holds c.sunday _ _ back h.0 h.1

pub stay_parts : (c : Option MinStay) (first back : ℤ) → AtLeast (least_stay c first) back → IfSome c (λ c. ((first +ℤ pos c.days) ≤ℤ back) × OnTrue c.sunday (first_sunday_after first ≤ℤ back))
stay_parts None first back h = tt
stay_parts (Some c) first back h = sunday_parts c.sunday _ _ back h

pub most_holds : (c : Option ℕ) (first back : ℤ) → IfSome c (λ n. back ≤ℤ (first +ℤ pos n)) → AtMost (greatest_stay c first) back
most_holds None first back h = tt
most_holds (Some n) first back h = h

pub most_parts : (c : Option ℕ) (first back : ℤ) → AtMost (greatest_stay c first) back → IfSome c (λ n. back ≤ℤ (first +ℤ pos n))
most_parts None first back h = tt
most_parts (Some n) first back h = h

pub by_holds : (c : Option TravelRule) (last : ℤ) → IfSome c (λ c. IfSome c.by (λ day. last ≤ℤ day)) → AtMost (by_day c) last
by_holds None last h = tt
by_holds (Some c) last h = h

pub by_parts : (c : Option TravelRule) (last : ℤ) → AtMost (by_day c) last → IfSome c (λ c. IfSome c.by (λ day. last ≤ℤ day))
by_parts None last h = tt
by_parts (Some c) last h = h

-- the least day of return where a Sunday has to lie before it
pub least_by_sunday : (stay : Option MinStay) (c : MinStay) (first day : ℤ) → stay ≡ Some c → c.sunday ≡ true → day ≡ int_max (first +ℤ pos c.days) (first_sunday_after first) → Some day ≡ least_stay stay first
least_by_sunday stay c first day is sunday e =
    ap Some e ∙ sym (ap (λ x. least_stay x first) is ∙ ap (λ b. Some (cond b (int_max (first +ℤ pos c.days) (first_sunday_after first)) (first +ℤ pos c.days))) sunday)
