-- The flights and places of a made case of at most a hundred hubs are named as they should be.
use Rattle.std.proofs.Common.{◌≡◌, ◌≤◌, ◌<◌, ◌+◌, ℕ, pos, zero, suc, List, [], ◌∷◌, length, Some, length-append, ◌*◌, refl, arith}
use Rattle.std.proofs.Math.Nat.{suc-mul}
use Rattle.case_maker.specs.Names.{away, back_date, home, hub, out_date}
use Rattle.fare_law.specs.Lists.{Each}
use Rattle.jiff_core.specs.Calendar.{days_from_civil}
use Rattle.law_lemmas.proofs.EachOne.{each_append}
use Rattle.market_time.specs.Dates.{day_spelled}
use Rattle.case_maker.specs.Lines.{Leg, all_below, hub_legs, legs, place_names}
use Rattle.case_maker.proofs.Columns.{known_column}
use Rattle.case_maker.proofs.RowsRead.{IsLeg, IsName}

pub each_below : {X : Type 0} (P : X → Type 0) (f : ℕ → List X) (count : ℕ) → ((i : ℕ) → i < count → Each P (f i)) → Each P (all_below count f)
each_below P f zero h = tt
each_below P f (suc count) h = each_append P (all_below count f) (f count) (each_below P f count (λ i l. h i (omega (arith, l)))) (h count (omega arith))

pub home_name : IsName home
home_name = record { three = refl; capitals = ((omega arith, omega arith), ((omega arith, omega arith), ((omega arith, omega arith), tt))) }

pub away_name : IsName away
away_name = record { three = refl; capitals = ((omega arith, omega arith), ((omega arith, omega arith), ((omega arith, omega arith), tt))) }

pub hub_name : (i : ℕ) → i < 100 → IsName (hub i)
hub_name i h = record { three = refl; capitals = ((omega arith, omega arith), ((omega arith, omega (arith, h)), ((omega arith, omega (arith, h)), tt))) }

pub out_day : day_spelled out_date ≡ Some (days_from_civil (pos 2031) 3 3)
unfolding day_spelled
out_day = refl

pub back_day : day_spelled back_date ≡ Some (days_from_civil (pos 2031) 3 10)
unfolding day_spelled
back_day = refl

abbrev leg_of : ℕ → List ℕ → List ℕ → List ℕ → Leg
leg_of number from to date = record { number = number; from = from; to = to; date = date }

out_leg : (number : ℕ) (from to : List ℕ) → 1 ≤ number → number ≤ 9999 → IsName from → IsName to → IsLeg (leg_of number from to out_date)
out_leg number from to some few f t = record { some = some; few = few; from = f; to = t; date = known_column out_date refl; day = days_from_civil (pos 2031) 3 3; day_is = out_day }

back_leg : (number : ℕ) (from to : List ℕ) → 1 ≤ number → number ≤ 9999 → IsName from → IsName to → IsLeg (leg_of number from to back_date)
back_leg number from to some few f t = record { some = some; few = few; from = f; to = t; date = known_column back_date refl; day = days_from_civil (pos 2031) 3 10; day_is = back_day }

hub_legs_named : (i : ℕ) → i < 100 → Each IsLeg (hub_legs i)
hub_legs_named i h = (
  out_leg (1000 + i) home (hub i) (omega arith) (omega (arith, h)) home_name (hub_name i h),
  (
    out_leg (2000 + i) (hub i) away (omega arith) (omega (arith, h)) (hub_name i h) away_name,
    (back_leg (3000 + i) away (hub i) (omega arith) (omega (arith, h)) away_name (hub_name i h), (back_leg (4000 + i) (hub i) home (omega arith) (omega (arith, h)) (hub_name i h) home_name, tt)),
  ),
)

pub legs_named : (size : ℕ) → size ≤ 100 → Each IsLeg (legs size)
legs_named size small = (out_leg 1 home away (omega arith) (omega arith) home_name away_name, (back_leg 2 away home (omega arith) (omega arith) away_name home_name, each_below IsLeg hub_legs size (λ i h. hub_legs_named i (omega (arith, h, small)))))

pub places_named : (size : ℕ) → size ≤ 100 → Each IsName (place_names size)
places_named size small = (home_name, (away_name, each_below IsName (λ i. hub i ∷ []) size (λ i h. (hub_name i (omega (arith, h, small)), tt))))

-- ---- how many

pub many_below : {X : Type 0} (f : ℕ → List X) (each count : ℕ) → ((i : ℕ) → length (f i) ≡ each) → length (all_below count f) ≡ count * each
many_below f each zero h = omega arith
many_below f each (suc count) h = omega (arith, length-append (all_below count f) (f count), h count, many_below f each count h, suc-mul count each)
