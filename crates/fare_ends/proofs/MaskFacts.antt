-- The masks of flights, and the classes that are open in some of them.
use Rattle.std.proofs.Common.{◌≡◌, ℕ, zero, suc, ◌+◌, ◌<◌, List, [], ◌∷◌, ◌++◌, length, take, get_or, Some, None, bit_and, refl, sym, ap, subst, ◌∙◌, arith}
use Rattle.fare_ends.specs.Masks.{IsMaskOf}
use Rattle.fare_ends.proofs.Collected.{legs_next, legs_none}
use Rattle.fare_law.specs.declared.flights.Flight.{Flight}
use Rattle.fare_law.specs.declared.requests.Request.{Request}
use Rattle.fare_law.specs.Book.{Book, flight_at}
use Rattle.fare_law.specs.Parts.{Numbers}
use Rattle.fare_ends.specs.Legs.{HasLegs}

-- the flights of some numbers and of one more
record Split (b : Book) (ns : List ℕ) (fs : List Flight) (i : ℕ) : Type 0 where
  before : List Flight
  last : Flight
  parts : fs ≡ before ++ last ∷ []
  numbers : Numbers b (take i ns) before
  known : flight_at b (get_or ns i 0) ≡ Some last

numbers_split : (b : Book) (ns : List ℕ) (fs : List Flight) (i : ℕ) → i < length ns → Numbers b (take (suc i) ns) fs → Split b ns fs i
numbers_split b [] fs i lt h = absurd (omega arith)
numbers_split b (n ∷ ns) [] i lt h = absurd h
numbers_split b (n ∷ ns) (f ∷ []) zero lt h = record { before = []; last = f; parts = refl; numbers = tt; known = h.0 }
numbers_split b (n ∷ ns) (f ∷ g ∷ fs) zero lt h = absurd h.1
numbers_split b (n ∷ ns) (f ∷ fs) (suc i) lt h =
    let r = numbers_split b ns fs i (omega arith) h.1 in
    record { before = f ∷ r.before; last = r.last; parts = ap (λ gs. f ∷ gs) r.parts; numbers = (h.0, r.numbers); known = r.known }

pub classes_none : (b : Book) (q : Request) (fs : List Flight) → Numbers b [] fs → HasLegs b q fs 4294967295
classes_none b q [] h = legs_none b q
classes_none b q (f ∷ fs) h = absurd h

-- the mask of one flight more
pub classes_next : (b : Book) (q : Request) (ns : List ℕ) (i n classes mask : ℕ) → i < length ns → n ≡ get_or ns i 0 → ((fs : List Flight) → Numbers b (take i ns) fs → HasLegs b q fs classes) → IsMaskOf b q n mask → (fs : List Flight) → Numbers b (take (i + 1) ns) fs → HasLegs b q fs (bit_and classes mask)
classes_next b q ns i n classes mask lt e had is fs h =
    let one : i + 1 ≡ suc i = omega arith in
    let s = numbers_split b ns fs i lt (subst (λ k. Numbers b (take k ns) fs) one h) in
    let m = is s.last (ap (flight_at b) e ∙ s.known) in
    subst (λ gs. HasLegs b q gs (bit_and classes mask)) (sym s.parts) (legs_next b q s.before s.last classes mask (had s.before s.numbers) m.fits m.classes)

-- a number of no flight has any mask
pub no_mask : (b : Book) (q : Request) (n mask : ℕ) → flight_at b n ≡ None → IsMaskOf b q n mask
no_mask b q n mask none g at = absurd (cc)
