-- The live fare of a key has that key. Given on to the crates above.
use Rattle.std.proofs.Common.{◌≡◌, Bool, true, cond, inl, inr, List, [], ◌∷◌, find, reverse, Option, Some, None, option_and_then, sym, refl, ap, ◌∙◌, subst}
use Rattle.std.proofs.lemmas.Bool.{cases_Bool, and_parts}
use Rattle.std.specs.Cmp.Lexicographic.{bytes_decides}
use Rattle.fare_law.specs.declared.fares.Fare.{Fare}
use Rattle.fare_law.specs.declared.fares.FareKey.{FareKey}
use Rattle.fare_law.specs.declared.filings.Action.{Action}
use Rattle.fare_law.specs.declared.filings.Action.TheVariants.{PutFare, DropFare, PutRule, DropRule, PutSeats, DropSeats}
use Rattle.fare_law.specs.Book.{Book, actions, fare_put, last_that, live_fare, names_fare, same_key}

find_passes : {X : Type 0} (t : X → Bool) (xs : List X) (x : X) → find t xs ≡ Some x → t x ≡ true
find_passes t [] x h = cc
find_passes t (y ∷ xs) x h = elim (cases_Bool (t y)) [
  | inl e ↦ let s : y ≡ x = some_same (sym (ap (λ b. cond b (Some y) (find t xs)) e) ∙ h) in subst (λ z. t z ≡ true) s e
  | inr f ↦ find_passes t xs x (sym (ap (λ b. cond b (Some y) (find t xs)) f) ∙ h)
]
  where
    some_same : Some y ≡ Some x → y ≡ x
    some_same e = cc

key_is : (k l : FareKey) → same_key k l ≡ true → k ≡ l
key_is k l h =
    let x = and_parts _ _ h in
    let y = and_parts _ _ x.0 in
    let z = and_parts _ _ y.0 in
    let c : k.carrier.0 ≡ l.carrier.0 = (bytes_decides k.carrier.0 l.carrier.0).0 z.0 in
    let f : k.from.0 ≡ l.from.0 = (bytes_decides k.from.0 l.from.0).0 z.1 in
    let t : k.to.0 ≡ l.to.0 = (bytes_decides k.to.0 l.to.0).0 y.1 in
    let b : k.basis.0 ≡ l.basis.0 = (bytes_decides k.basis.0 l.basis.0).0 x.1 in
    λ i. record { carrier = record { 0 = c i }; from = record { 0 = f i }; to = record { 0 = t i }; basis = record { 0 = b i } }

put_key : (key : FareKey) (a : Action) → names_fare key a ≡ true → (fare : Fare) → fare_put a ≡ Some fare → fare.key ≡ key
put_key key (PutFare g) h fare e = let s : g ≡ fare = cc in subst (λ x. x.key ≡ key) s (sym (key_is key g.key h))
put_key key (DropFare other) h fare e = cc
put_key key (PutRule c n r) h fare e = cc
put_key key (DropRule c n) h fare e = cc
put_key key (PutSeats k s) h fare e = cc
put_key key (DropSeats k) h fare e = cc

pub live_key : (b : Book) (key : FareKey) (fare : Fare) → live_fare b key ≡ Some fare → fare.key ≡ key
unfolding live_fare
live_key b key fare h = go (last_that (names_fare key) b) refl h
  where
    go : (o : Option Action) → last_that (names_fare key) b ≡ o → option_and_then fare_put o ≡ Some fare → fare.key ≡ key
    go None e k = cc
    go (Some a) e k = put_key key a (find_passes (names_fare key) (reverse (actions b)) a e) fare k
