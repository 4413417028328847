-- Any flights have legs, and some classes are those that are open in all of them. Given on to the crates above.
use Rattle.std.proofs.Common.{◌≡◌, ◌↔◌, ℕ, zero, suc, ◌<◌, ◌≤◌, ◌^◌, List, [], ◌∷◌, ◌++◌, length, get_or, IsBitSet, bit_and, refl, sym, ap, subst, append_assoc, append-nil, arith}
use Rattle.fare_ends.proofs.Collected.{legs_next, legs_none}
use Rattle.fare_law.specs.declared.flights.Flight.{Flight}
use Rattle.fare_law.specs.declared.requests.Request.{Request}
use Rattle.fare_law.specs.Book.{Book, seats}
use Rattle.lane_mask.proofs.MaskLemmas.{compared, compared_fits, compared_tells}
use Rattle.fare_ends.specs.Legs.{HasLegs}

-- what is told of so many classes, in order
abbrev told : (ℕ → ℕ) → ℕ → List ℕ
told many zero = []
told many (suc n) = many 0 ∷ told (λ k. many (suc k)) n

told_long : (many : ℕ → ℕ) (n : ℕ) → length (told many n) ≡ n
told_long many zero = refl
told_long many (suc n) = ap suc (told_long (λ k. many (suc k)) n)

told_at : (many : ℕ → ℕ) (n i : ℕ) → i < n → get_or (told many n) i 0 ≡ many i
told_at many zero i lt = absurd (omega (arith, lt))
told_at many (suc n) zero lt = refl
told_at many (suc n) (suc i) lt = told_at (λ k. many (suc k)) n i (omega (arith, lt))

-- some number has the bits of the classes with seats for the party
record HasMask (b : Book) (q : Request) (f : Flight) : Type 0 where
  mask : ℕ
  fits : mask < 2 ^ 32
  classes : (class : ℕ) → class < 32 → IsBitSet mask class ↔ (q.party ≤ seats b f class)

mask_of : (b : Book) (q : Request) (f : Flight) (n : ℕ) → n ≡ 32 → HasMask b q f
mask_of b q f n e =
    let row : List ℕ = told (seats b f) n in
    let long : length row ≡ n = told_long (seats b f) n in
    let few : n ≤ 64 = omega (arith, e) in
    record {
      mask = compared n row q.party;
      fits = subst (λ k. compared n row q.party < 2 ^ k) e (compared_fits n row q.party long few);
      classes = λ class lt. let here : class < n = omega (arith, e, lt) in
          subst (λ k. IsBitSet (compared n row q.party) class ↔ (q.party ≤ k)) (told_at (seats b f) n class here) (compared_tells n row q.party class long few here);
    }

module _ (b : Book) (q : Request) where
  behind : (before more : List Flight) (classes : ℕ) → HasLegs b q before classes → (all : ℕ) × HasLegs b q (before ++ more) all
  behind before [] classes h = (classes, subst (λ fs. HasLegs b q fs classes) (sym (append-nil before)) h)
  behind before (f ∷ more) classes h =
      let m = mask_of b q f 32 refl in
      let x = behind (before ++ f ∷ []) more (bit_and classes m.mask) (legs_next b q before f classes m.mask h m.fits m.classes) in
      (x.0, subst (λ fs. HasLegs b q fs x.0) (append_assoc before (f ∷ []) more) x.1)

  pub legs_exist : (fs : List Flight) → (classes : ℕ) × HasLegs b q fs classes
  legs_exist fs = behind [] fs 4294967295 (legs_none b q)
