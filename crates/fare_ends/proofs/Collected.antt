-- The flights of a path by their numbers, and their classes.
use Rattle.std.proofs.Common.{◌≡◌, ◌↔◌, ℕ, zero, suc, ◌+◌, ◌-◌, ◌<◌, ◌≤◌, List, [], ◌∷◌, ◌++◌, length, take, get_or, Some, None, IsBitSet, bit_and, ◌^◌, refl, sym, ap, subst, ◌∙◌, arith}
use Rattle.std.proofs.lemmas.List.Elements.{All-append, All-cons, All-nil, All-head, All-tail}
use Rattle.std.proofs.Math.Seq.{take-suc}
use Rattle.fare_ends.specs.NumberedFlights.{BeginsWith, EndsWith}
use Rattle.fare_groups.specs.Groups.{HasClass}
use Rattle.fare_groups.proofs.Bits.{both_set, classes_none}
use Rattle.fare_law.specs.declared.flights.Flight.{Flight}
use Rattle.fare_law.specs.declared.requests.Request.{Request}
use Rattle.fare_law.specs.declared.sheets.Leg.{Leg}
use Rattle.fare_law.specs.Book.{Book, flight_at, seats}
use Rattle.fare_law.specs.Lists.{OnLast}
use Rattle.fare_law.specs.Parts.{Numbers}
use Rattle.residual_keys.specs.AskedKeys.{IsLeg}
use Rattle.residual_keys.proofs.Components.{legs_more}
use Rattle.law_lemmas.proofs.Options.{not_both}
use Rattle.law_lemmas.proofs.Pairs.{matched_more}
use Rattle.fare_ends.specs.Legs.{HasLegs}

class_last : (class : ℕ) (legs : List Leg) (leg : Leg) → HasClass class (legs ++ leg ∷ []) ↔ (HasClass class legs × IsBitSet leg.classes class)
class_last class legs leg = (there legs, λ h. All-append (λ l. IsBitSet l.classes class) legs (leg ∷ []) h.0 (All-cons (λ l. IsBitSet l.classes class) leg [] h.1 (All-nil (λ l. IsBitSet l.classes class))))
  where
    there : (ls : List Leg) → HasClass class (ls ++ leg ∷ []) → HasClass class ls × IsBitSet leg.classes class
    there [] h = (All-nil (λ l. IsBitSet l.classes class), All-head (λ l. IsBitSet l.classes class) leg [] h)
    there (l ∷ ls) h =
        let r = there ls (All-tail (λ l. IsBitSet l.classes class) l (ls ++ leg ∷ []) h) in
        (All-cons (λ l. IsBitSet l.classes class) l ls (All-head (λ l. IsBitSet l.classes class) l (ls ++ leg ∷ []) h) r.0, r.1)

pub legs_none : (b : Book) (q : Request) → HasLegs b q [] 4294967295
legs_none b q = record { legs = []; legs_are = record { each = tt; flights = refl }; classes_are = classes_none }

-- one leg more
pub legs_next : (b : Book) (q : Request) (fs : List Flight) (f : Flight) (classes mask : ℕ) → HasLegs b q fs classes → mask < 2 ^ 32 → ((class : ℕ) → class < 32 → IsBitSet mask class ↔ (q.party ≤ seats b f class)) → HasLegs b q (fs ++ f ∷ []) (bit_and classes mask)
legs_next b q fs f classes mask h lt is = record {
  legs = h.legs ++ leg ∷ [];
  legs_are = record { each = matched_more (IsLeg b q.party) fs h.legs f leg h.legs_are.each (record { flight = refl; fits = lt; classes = is }); flights = legs_more h.legs leg ∙ ap (λ xs. xs ++ f ∷ []) h.legs_are.flights };
  classes_are = λ class l.
      let one = h.classes_are class l in
      let two = both_set classes mask class in
      let three = class_last class h.legs leg in (
        λ s. let t = two.0 s in three.1 (one.0 t.0, t.1),
        λ a. let t = three.0 a in two.1 (one.1 t.0, t.1),
      );
}
  where
    leg : Leg
    leg = record { flight = f; classes = mask }

-- numbers and flights match
pub numbers_long : (b : Book) (ns : List ℕ) (fs : List Flight) → Numbers b ns fs → length fs ≡ length ns
numbers_long b [] [] h = refl
numbers_long b [] (f ∷ fs) h = absurd h
numbers_long b (n ∷ ns) [] h = absurd h
numbers_long b (n ∷ ns) (f ∷ fs) h = let e = numbers_long b ns fs h.1 in omega (arith, e)

-- the number at a place is that of a flight
pub number_known : (b : Book) (ns : List ℕ) (fs : List Flight) (i : ℕ) → Numbers b ns fs → i < length ns → (f : Flight) × (flight_at b (get_or ns i 0) ≡ Some f)
number_known b [] fs i h lt = absurd (omega arith)
number_known b (n ∷ ns) [] i h lt = absurd h
number_known b (n ∷ ns) (f ∷ fs) zero h lt = (f, h.0)
number_known b (n ∷ ns) (f ∷ fs) (suc i) h lt = number_known b ns fs i h.1 (omega arith)

-- the last number's flight is the last
pub last_ends : (b : Book) (ns : List ℕ) (last : ℕ) (g : Flight) → OnLast (λ n. n ≡ last) ns → flight_at b last ≡ Some g → EndsWith b ns g
last_ends b [] last g h k fs m = absurd h
last_ends b (n ∷ []) last g h k [] m = absurd m
last_ends b (n ∷ []) last g h k (f ∷ []) m = some_same f g (sym m.0 ∙ ap (flight_at b) h ∙ k)
  where
    some_same : (x y : Flight) → Some x ≡ Some y → x ≡ y
    some_same x y e = cc
last_ends b (n ∷ []) last g h k (f ∷ e ∷ fs) m = absurd m.1
last_ends b (n ∷ l ∷ ns) last g h k [] m = absurd m
last_ends b (n ∷ l ∷ ns) last g h k (f ∷ []) m = absurd m.1
last_ends b (n ∷ l ∷ ns) last g h k (f ∷ e ∷ fs) m = last_ends b (l ∷ ns) last g h k (e ∷ fs) m.1

-- one number more
pub numbers_next : (b : Book) (ns : List ℕ) (fs : List Flight) (i : ℕ) (f : Flight) → i < length ns → Numbers b (take i ns) fs → flight_at b (get_or ns i 0) ≡ Some f → Numbers b (take (i + 1) ns) (fs ++ f ∷ [])
numbers_next b ns fs i f lt h k = subst (λ l. Numbers b l (fs ++ f ∷ [])) (sym front) (matched_more (λ n g. flight_at b n ≡ Some g) (take i ns) fs (get_or ns i 0) f h k)
  where
    one : i + 1 ≡ suc i
    one = omega arith

    front : take (i + 1) ns ≡ take i ns ++ get_or ns i 0 ∷ []
    front = ap (λ n. take n ns) one ∙ take-suc ns i 0 lt

last_on : (ns : List ℕ) (d : ℕ) → 1 ≤ length ns → OnLast (λ n. n ≡ get_or ns (length ns - 1) d) ns
last_on [] d h = absurd (omega arith)
last_on (n ∷ []) d h = refl
last_on (n ∷ m ∷ ns) d h = subst (λ k. OnLast (λ x. x ≡ get_or (n ∷ m ∷ ns) k d) (m ∷ ns)) (shift (length ns)) (last_on (m ∷ ns) d (omega arith))
  where
    shift : (k : ℕ) → suc (suc k - 1) ≡ suc (suc k) - 1
    shift k = omega arith

pub last_number_ends : (b : Book) (ns : List ℕ) (g : Flight) → 1 ≤ length ns → flight_at b (get_or ns (length ns - 1) 0) ≡ Some g → EndsWith b ns g
last_number_ends b ns g h k = last_ends b ns (get_or ns (length ns - 1) 0) g (last_on ns 0 h) k

-- a last number that is that of no flight
pub last_unknown : (b : Book) (ns : List ℕ) (fs : List Flight) → 1 ≤ length ns → Numbers b ns fs → flight_at b (get_or ns (length ns - 1) 0) ≡ None → ⊥
last_unknown b ns fs h m none = let k = number_known b ns fs (length ns - 1) m (omega (arith, h)) in not_both (flight_at b (get_or ns (length ns - 1) 0)) k.0 k.1 none

-- the first number's flight is the first
pub first_begins : (b : Book) (ns : List ℕ) (g : Flight) → 1 ≤ length ns → flight_at b (get_or ns 0 0) ≡ Some g → BeginsWith b ns g
first_begins b [] g h k fs m = absurd (omega (arith, h))
first_begins b (n ∷ ns) g h k [] m = absurd m
first_begins b (n ∷ ns) g h k (f ∷ fs) m = some_is f g (sym m.0 ∙ k)
  where
    some_is : (x y : Flight) → Some x ≡ Some y → x ≡ y
    some_is x y e = cc

-- a first number that is that of no flight
pub first_unknown : (b : Book) (ns : List ℕ) (fs : List Flight) → 1 ≤ length ns → Numbers b ns fs → flight_at b (get_or ns 0 0) ≡ None → ⊥
first_unknown b ns fs h m none = let k = number_known b ns fs 0 m (omega (arith, h)) in not_both (flight_at b (get_or ns 0 0)) k.0 k.1 none
