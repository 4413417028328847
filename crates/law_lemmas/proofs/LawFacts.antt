-- Flights, fares and requests, by their definitions. Given on to the crates above.
use Rattle.std.proofs.Common.{List, None, Option, Some, [], ap, ap₂, arith, length, refl, subst, suc, sym, zero, ℕ, ◌+◌, ◌<◌, ◌∙◌, ◌∷◌, ◌≡◌, ◌≤◌}
use Rattle.fare_law.specs.Book.{Book, flight_at}
use Rattle.fare_law.specs.Lists.{OnFirst, OnLast}
use Rattle.fare_law.specs.Parts.{Numbers, share}
use Rattle.fare_law.specs.declared.fares.FareKind.{FareKind}
use Rattle.fare_law.specs.declared.fares.FareKind.TheVariants.{O, R, S}
use Rattle.fare_law.specs.declared.flights.Flight.{Flight}
use Rattle.fare_law.specs.declared.requests.Request.{Request}
use Rattle.std.specs.List.{slice_index_or}

pub low_share : (kind : FareKind) (amount : ℕ) → amount ≤ 1000000000 → share kind amount ≤ 1000000000
low_share O n h = h
low_share R n h = omega (arith, h)
low_share S n h = h

pub low_sum : (a c charges : ℕ) → a ≤ 3000000 → c ≤ 32000000 → charges ≡ a + c → charges ≤ 35000000
low_sum a c charges h k e = omega (arith, h, k, e)

pub numbered_unknown : (b : Book) (ns : List ℕ) (fs : List Flight) → Numbers b ns fs → (k x : ℕ) → k < length ns → slice_index_or ns k x ≡ x → flight_at b x ≡ None → ⊥
numbered_unknown b [] fs h k x lt e none = absurd (omega arith)
numbered_unknown b (n ∷ ns) [] h k x lt e none = absurd h
numbered_unknown b (n ∷ ns) (f ∷ fs) h zero x lt e none = let w : ◌≡◌ {A = Option Flight} (Some f) None = sym h.0 ∙ ap (flight_at b) e ∙ none in absurd (cc)
numbered_unknown b (n ∷ ns) (f ∷ fs) h (suc k) x lt e none = numbered_unknown b ns fs h.1 k x (omega (arith, lt)) e none

pub numbers_one : (b : Book) (ns : List ℕ) (fs gs : List Flight) → Numbers b ns fs → Numbers b ns gs → fs ≡ gs
numbers_one b [] [] [] h k = refl
numbers_one b [] [] (g ∷ gs) h k = absurd k
numbers_one b [] (f ∷ fs) gs h k = absurd h
numbers_one b (n ∷ ns) [] gs h k = absurd h
numbers_one b (n ∷ ns) (f ∷ fs) [] h k = absurd k
numbers_one b (n ∷ ns) (f ∷ fs) (g ∷ gs) h k = let e : f ≡ g = cc in ap₂ (λ x xs. x ∷ xs) e (numbers_one b ns fs gs h.1 k.1)

pub on_first_as : (P : Flight → Type 0) (fs : List Flight) (f : Flight) → OnFirst (λ x. f ≡ x) fs → P f → OnFirst P fs
on_first_as P [] f h p = absurd h
on_first_as P (x ∷ fs) f h p = subst P h p

pub on_last_as : (P : Flight → Type 0) (fs : List Flight) (z : Flight) → OnLast (λ x. z ≡ x) fs → P z → OnLast P fs
on_last_as P [] z h p = absurd h
on_last_as P (f ∷ []) z h p = subst P h p
on_last_as P (f ∷ g ∷ fs) z h p = on_last_as P (g ∷ fs) z h p

pub on_last_to : (P Q : Flight → Type 0) (fs : List Flight) → ((f : Flight) → P f → Q f) → OnLast P fs → OnLast Q fs
on_last_to P Q [] to h = absurd h
on_last_to P Q (f ∷ []) to h = to f h
on_last_to P Q (f ∷ g ∷ fs) to h = on_last_to P Q (g ∷ fs) to h

pub said_of : (P : Book → Request → Type 0) (b c : Book) (q r : Request) → b ≡ c → q ≡ r → P b q → P c r
said_of P b c q r e f h = subst (λ z. P c z) f (subst (λ z. P z q) e h)
