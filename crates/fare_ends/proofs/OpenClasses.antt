-- The classes of seats that are open on some flights and on more. Given on to the crates above.
use Rattle.std.proofs.Common.{◌≡◌, ◌↔◌, ℕ, ◌<◌, List, [], ◌∷◌, ◌++◌, IsBitSet, bit_and, bit_or, max, refl, sym, ap, subst, ◌∙◌, arith}
use Rattle.std.specs.Int.{bit_at}
use Rattle.std.proofs.lemmas.List.Elements.{All-append}
use Rattle.std.proofs.lemmas.Nat.Bits.{bit_at-lt, bit_at_or, shr_and_one}
use Rattle.std.proofs.lemmas.Nat.{bit_set_by_shift}
use Rattle.fare_groups.specs.Groups.{HasClass}
use Rattle.fare_groups.proofs.Bits.{both_set}
use Rattle.fare_law.specs.declared.flights.Flight.{Flight}
use Rattle.fare_law.specs.declared.requests.Request.{Request}
use Rattle.fare_law.specs.declared.sheets.Leg.{Leg}
use Rattle.fare_law.specs.Book.{Book}
use Rattle.fare_law.specs.Lists.{Matched}
use Rattle.fare_law.specs.Offers.{flights_of}
use Rattle.fare_ends.specs.Legs.{AreAmong, HasLegs, LegsAreOne, LegsOfBoth}
use Rattle.fare_ends.proofs.Counted.{all_left, all_right}
use Rattle.residual_keys.specs.AskedKeys.{IsLeg}
use Rattle.residual_keys.proofs.Markets.{legs_one}

pub matched_both : {X Y : Type 0} (R : X → Y → Type 0) (xs zs : List X) (ys ws : List Y) → Matched R xs ys → Matched R zs ws → Matched R (xs ++ zs) (ys ++ ws)
matched_both R [] zs [] ws h k = k
matched_both R [] zs (y ∷ ys) ws h k = absurd h
matched_both R (x ∷ xs) zs [] ws h k = absurd h
matched_both R (x ∷ xs) zs (y ∷ ys) ws h k = (h.0, matched_both R xs zs ys ws h.1 k)

flights_both : (xs ys : List Leg) → flights_of (xs ++ ys) ≡ flights_of xs ++ flights_of ys
flights_both [] ys = refl
flights_both (x ∷ xs) ys = ap (λ fs. x.flight ∷ fs) (flights_both xs ys)

pub legs_of_both : LegsOfBoth
legs_of_both b q fs gs here there h k = record {
  legs = h.legs ++ k.legs;
  legs_are = record {
    each = matched_both (IsLeg b q.party) fs gs h.legs k.legs h.legs_are.each k.legs_are.each;
    flights = flights_both h.legs k.legs ∙ ap (λ x. x ++ flights_of k.legs) h.legs_are.flights ∙ ap (λ y. fs ++ y) k.legs_are.flights;
  };
  classes_are = λ class l.
      let one = h.classes_are class l in
      let two = k.classes_are class l in
      let both = both_set here there class in (
        λ s. let t = both.0 s in All-append (λ (x : Leg). IsBitSet x.classes class) h.legs k.legs (one.0 t.0) (two.0 t.1),
        λ a. both.1 (one.1 (all_left (λ (x : Leg). IsBitSet x.classes class) h.legs k.legs a), two.1 (all_right (λ (x : Leg). IsBitSet x.classes class) h.legs k.legs a)),
      );
}

pub legs_are_one : LegsAreOne
legs_are_one b q fs one other h k class l s =
    let same = legs_one b q.party fs h.legs k.legs h.legs_are.each k.legs_are.each in
    (k.classes_are class l).1 (subst (HasClass class) same ((h.classes_are class l).0 s))

-- what is open on a path of two parts is open on both
pub open_on_both : (b : Book) (q : Request) (fs gs : List Flight) (here there classes : ℕ) → HasLegs b q fs here → HasLegs b q gs there → HasLegs b q (fs ++ gs) classes → AreAmong classes here × AreAmong classes there
open_on_both b q fs gs here there classes h k all = (λ class l s. ((both_set here there class).0 (together class l s)).0, λ class l s. ((both_set here there class).0 (together class l s)).1)
  where
    together : AreAmong classes (bit_and here there)
    together = legs_are_one b q (fs ++ gs) classes (bit_and here there) all (legs_of_both b q fs gs here there h k)

-- classes among two are among what both have, and each of two is among what either has
pub among_both : (few one other : ℕ) → AreAmong few one → AreAmong few other → AreAmong few (bit_and one other)
among_both few one other h k class l s = (both_set one other class).1 (h class l s, k class l s)

bit_is : (n i : ℕ) → IsBitSet n i ↔ (◌≡◌ {A = ℕ} (bit_at n i) 1)
bit_is n i = let s = bit_set_by_shift n i in (λ h. sym (shr_and_one n i) ∙ s.1 h, λ h. s.0 (shr_and_one n i ∙ h))

module _ (one other : ℕ) where
  pub among_left : AreAmong one (bit_or one other)
  among_left class l s = (bit_is (bit_or one other) class).1 (bit_at_or one other class ∙ most (bit_at one class) (bit_at other class) ((bit_is one class).0 s) (bit_at-lt other class))
    where
      most : (x y : ℕ) → x ≡ 1 → y < 2 → max x y ≡ 1
      most x y e lt = omega (arith, e, lt)

  pub among_right : AreAmong other (bit_or one other)
  among_right class l s = (bit_is (bit_or one other) class).1 (bit_at_or one other class ∙ most (bit_at one class) (bit_at other class) (bit_at-lt one class) ((bit_is other class).0 s))
    where
      most : (x y : ℕ) → x < 2 → y ≡ 1 → max x y ≡ 1
      most x y lt e = omega (arith, lt, e)

pub among_each : (one two three : ℕ) → AreAmong one two → AreAmong two three → AreAmong one three
among_each one two three h k class l s = k class l (h class l s)
