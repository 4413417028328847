-- The flights of rows are one list: their order is strict, and lists in a strict order with one set of items are equal. Given on
-- to the crates above.
use Rattle.std.proofs.Common.{◌≡◌, ◌⊎◌, ℤ, ◌<◌, ◌<ℤ◌, List, [], ◌∷◌, refl, sym, ap₂, subst, ◌∙◌, inl, inr, arith}
use Rattle.std.proofs.lemmas.Int.{ints}
use Rattle.fare_law.specs.declared.flights.Flight.{Flight}
use Rattle.fare_law.specs.declared.names.Carrier.{Carrier}
use Rattle.fare_law.specs.declared.names.Place.{Place}
use Rattle.fare_law.specs.declared.rows.FlightRow.{FlightRow}
use Rattle.fare_law.specs.Flights.{AreFlights, Earlier}
use Rattle.fare_law.specs.Lists.{EachPair, IsIn, Less}
use Rattle.law_lemmas.proofs.Numbers.{less_less}
use Rattle.law_lemmas.proofs.Words.{less_never, less_trans}

-- ---- lists in a strict order
module _ {X : Type 0} (R : X → X → Type 0) (never : (x : X) → R x x → ⊥) (trans : (x y z : X) → R x y → R y z → R x z) where
  -- all further items stand behind the first
  behind : (x : X) (xs : List X) → EachPair R (x ∷ xs) → (y : X) → IsIn y xs → R x y
  behind x [] p y i = absurd i
  behind x (z ∷ zs) p y (inl e) = subst (R x) (sym e) p.0
  behind x (z ∷ zs) p y (inr i) = trans x z y p.0 (behind z zs p.1 y i)

  rest_ordered : (x : X) (xs : List X) → EachPair R (x ∷ xs) → EachPair R xs
  rest_ordered x [] p = tt
  rest_ordered x (y ∷ ys) p = p.1

  heads_same : (x y : X) (xs ys : List X) → EachPair R (x ∷ xs) → EachPair R (y ∷ ys) → IsIn x (y ∷ ys) → IsIn y (x ∷ xs) → x ≡ y
  heads_same x y xs ys p q (inl e) j = e
  heads_same x y xs ys p q (inr i) (inl e) = sym e
  heads_same x y xs ys p q (inr i) (inr j) = absurd (never x (trans x y x (behind x xs p y j) (behind y ys q x i)))

  in_rest : (o x y : X) (ys : List X) → x ≡ y → R x o → IsIn o (y ∷ ys) → IsIn o ys
  in_rest o x y ys e r (inl i) = absurd (never x (subst (R x) (i ∙ sym e) r))
  in_rest o x y ys e r (inr i) = i

  pub one_list : (xs ys : List X) → EachPair R xs → EachPair R ys → ((o : X) → IsIn o xs → IsIn o ys) → ((o : X) → IsIn o ys → IsIn o xs) → xs ≡ ys
  one_list [] [] p q f g = refl
  one_list [] (y ∷ ys) p q f g = absurd (g y (inl refl))
  one_list (x ∷ xs) [] p q f g = absurd (f x (inl refl))
  one_list (x ∷ xs) (y ∷ ys) p q f g =
      let e : x ≡ y = heads_same x y xs ys p q (f x (inl refl)) (g y (inl refl)) in
      ap₂ (λ z zs. z ∷ zs) e
      (one_list xs ys (rest_ordered x xs p) (rest_ordered y ys q) (λ o i. in_rest o x y ys e (behind x xs p o i) (f o (inr i))) (λ o i. in_rest o y x xs (sym e) (behind y ys q o i) (g o (inr i))))

-- by one part, and where that is the same by the others
module _ {A : Type 0} (L : A → A → Type 0) (trans : (a b c : A) → L a b → L b c → L a c) where
  then_trans : (S T U : Type 0) → (S → T → U) → (a b c : A) → L a b ⊎ ((a ≡ b) × S) → L b c ⊎ ((b ≡ c) × T) → L a c ⊎ ((a ≡ c) × U)
  then_trans S T U f a b c (inl h) (inl k) = inl (trans a b c h k)
  then_trans S T U f a b c (inl h) (inr k) = inl (subst (L a) k.0 h)
  then_trans S T U f a b c (inr h) (inl k) = inl (subst (λ x. L x c) (sym h.0) k)
  then_trans S T U f a b c (inr h) (inr k) = inr (h.0 ∙ k.0, f h.1 k.1)

int_trans : (a b c : ℤ) → a <ℤ b → b <ℤ c → a <ℤ c
int_trans a b c h k = omega (arith, ints)

int_never : (a : ℤ) → a <ℤ a → ⊥
int_never a h = omega (arith, ints)

abbrev ByFrom : Flight → Flight → Type 0
ByFrom f g = Less f.from.0 g.from.0 ⊎ ((f.from ≡ g.from) × (f.day <ℤ g.day))

from_trans : (f g h : Flight) → ByFrom f g → ByFrom g h → ByFrom f h
from_trans f g h = then_trans (λ (a b : Place). Less a.0 b.0) (λ a b c. less_trans a.0 b.0 c.0) (f.day <ℤ g.day) (g.day <ℤ h.day) (f.day <ℤ h.day) (int_trans f.day g.day h.day) f.from g.from h.from

abbrev ByNumber : Flight → Flight → Type 0
ByNumber f g = (f.number < g.number) ⊎ ((f.number ≡ g.number) × ByFrom f g)

number_trans : (f g h : Flight) → ByNumber f g → ByNumber g h → ByNumber f h
number_trans f g h = then_trans ◌<◌ less_less (ByFrom f g) (ByFrom g h) (ByFrom f h) (from_trans f g h) f.number g.number h.number

abbrev ByCarrier : Flight → Flight → Type 0
ByCarrier f g = Less f.carrier.0 g.carrier.0 ⊎ ((f.carrier ≡ g.carrier) × ByNumber f g)

carrier_trans : (f g h : Flight) → ByCarrier f g → ByCarrier g h → ByCarrier f h
carrier_trans f g h = then_trans (λ (a b : Carrier). Less a.0 b.0) (λ a b c. less_trans a.0 b.0 c.0) (ByNumber f g) (ByNumber g h) (ByNumber f h) (number_trans f g h) f.carrier g.carrier h.carrier

earlier_trans : (f g h : Flight) → Earlier f g → Earlier g h → Earlier f h
earlier_trans f g h = then_trans ◌<ℤ◌ int_trans (ByCarrier f g) (ByCarrier g h) (ByCarrier f h) (carrier_trans f g h) f.dep g.dep h.dep

earlier_never : (f : Flight) → Earlier f f → ⊥
earlier_never f (inl h) = int_never f.dep h
earlier_never f (inr (d, inl h)) = less_never f.carrier.0 h
earlier_never f (inr (d, inr (c, inl h))) = omega (arith, h)
earlier_never f (inr (d, inr (c, inr (n, inl h)))) = less_never f.from.0 h
earlier_never f (inr (d, inr (c, inr (n, inr (o, h))))) = int_never f.day h

pub one_list_of_flights : (rows : List FlightRow) (fs gs : List Flight) → AreFlights rows fs → AreFlights rows gs → fs ≡ gs
one_list_of_flights rows fs gs a b = one_list Earlier earlier_never earlier_trans fs gs a.in_order b.in_order (λ f i. (b.are f).1 ((a.are f).0 i)) (λ f i. (a.are f).1 ((b.are f).0 i))
