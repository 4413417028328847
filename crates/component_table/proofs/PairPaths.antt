-- A head and a tail that may follow it, as one path of the position.
use Rattle.std.proofs.Common.{◌≡◌, ℕ, suc, List, [], ◌∷◌, ◌++◌, Option, Some, bit_and, refl, subst, inr}
use Rattle.fare_law.specs.declared.flights.Flight.{Flight}
use Rattle.fare_law.specs.declared.requests.Request.{Request}
use Rattle.fare_law.specs.Book.{Book}
use Rattle.fare_law.specs.Lists.{OnFirst, OnLast}
use Rattle.fare_law.specs.Parts.{Numbers}
use Rattle.flight_paths.specs.declared.positions.Path.{Path}
use Rattle.flight_paths.specs.declared.positions.Position.{Position}
use Rattle.flight_paths.specs.Heads.{Follows, joined_path}
use Rattle.flight_paths.specs.Positions.{Flies, IsPath}
use Rattle.flight_paths.proofs.Crossing.{heads_and_tails}
use Rattle.flight_paths.proofs.Joining.{head_flights, joined_crosses, tail_flights}
use Rattle.joint_paths.specs.declared.crossing_heads.CrossingHead.{CrossingHead}
use Rattle.joint_paths.specs.Heads.{IsCrossingHead}
use Rattle.law_lemmas.proofs.LawFacts.{numbers_one}
use Rattle.outlines.specs.declared.outline.Outline.{Outline}
use Rattle.outlines.specs.Outlines.{Outlined}
use Rattle.fare_ends.specs.Legs.{HasLegs}
use Rattle.fare_ends.proofs.OpenClasses.{legs_of_both}
use Rattle.residual_keys.proofs.Runs.{flies_numbers}

pub first_front : {X : Type 0} (P : X → Type 0) (xs ys : List X) → OnFirst P xs → OnFirst P (xs ++ ys)
first_front P [] ys h = absurd h
first_front P (x ∷ xs) ys h = h

pub last_back : {X : Type 0} (P : X → Type 0) (xs ys : List X) → OnLast P ys → OnLast P (xs ++ ys)
last_back P [] ys h = h
last_back P (x ∷ []) [] h = absurd h
last_back P (x ∷ []) (y ∷ ys) h = h
last_back P (x ∷ z ∷ xs) ys h = last_back P (z ∷ xs) ys h

-- the first flight of a path departs from its position
departs : (b : Book) (q : Request) (at : Position) (ns : List ℕ) (fs : List Flight) (next : Option Position) → IsPath b q.slices at ns fs next → OnFirst (λ f. f.from ≡ at.place) fs
departs b q at ns fs next h = go ns fs h.some h.flies
  where
    go : (ns : List ℕ) (fs : List Flight) → (ns ≡ [] → ⊥) → Flies b q.slices (Some at) ns fs next → OnFirst (λ f. f.from ≡ at.place) fs
    go [] fs some k = absurd (some refl)
    go (n ∷ ns) [] some k = absurd k
    go (n ∷ ns) (f ∷ fs) some (s, k, t, o, l, r) = t.departs

module _ (b : Book) (q : Request) (at : Position) (head tail : Path) (f : Follows b q.slices at head tail) where
  -- its flights
  abbrev pub pair_flights : List Flight
  pair_flights = f.crossing.flights ++ f.flights

  pub head_numbers : Numbers b head.flights f.crossing.flights
  head_numbers = head_flights b q.slices at head.flights f.crossing.flights (Some f.middle) f.crossing.is_head

  pub tail_numbers : Numbers b tail.flights f.flights
  tail_numbers = tail_flights b q.slices at (suc at.slice) tail.flights f.flights tail.after f.is_tail

  pub pair_path : IsPath b q.slices at (head.flights ++ tail.flights) pair_flights tail.after
  pair_path = (heads_and_tails b q.slices at (head.flights ++ tail.flights) pair_flights tail.after).1 (inr (joined_crosses b q.slices at head tail (joined_path head tail) (record { follows = f; numbers = refl; after = refl })))

  pub pair_departs : OnFirst (λ f. f.from ≡ at.place) pair_flights
  pair_departs = departs b q at (head.flights ++ tail.flights) pair_flights tail.after pair_path

  -- the classes that are open on it
  pub pair_legs : (here there : ℕ) → ((fs : List Flight) → Numbers b head.flights fs → HasLegs b q fs here) → ((fs : List Flight) → Numbers b tail.flights fs → HasLegs b q fs there) → HasLegs b q pair_flights (bit_and here there)
  pair_legs here there h t = legs_of_both b q f.crossing.flights f.flights here there (h f.crossing.flights head_numbers) (t f.flights tail_numbers)

  -- where it ends
  pub pair_ends : (P : Flight → Type 0) → ((fs : List Flight) → Numbers b tail.flights fs → OnLast P fs) → OnLast P pair_flights
  pair_ends P ends = last_back P f.crossing.flights f.flights (ends f.flights tail_numbers)

  -- how it begins
  pub pair_first : (h : CrossingHead) → IsCrossingHead b q at head h → OnFirst (λ f. (f.carrier ≡ h.carrier) × (f.day ≡ h.first)) pair_flights
  pair_first h is = first_front (λ f. (f.carrier ≡ h.carrier) × (f.day ≡ h.first)) f.crossing.flights f.flights (is.first f.crossing.flights head_numbers)

  -- the flights of a component with its numbers
  pub pair_of : (o : Outline) (price : ℕ) (h : Outlined b q at o price) → h.numbers ≡ head.flights ++ tail.flights → h.flights ≡ pair_flights
  pair_of o price h e = numbers_one b (head.flights ++ tail.flights) h.flights pair_flights (subst (λ ns. Numbers b ns h.flights) e (flies_numbers b q.slices (Some at) o.after h.numbers h.flights h.path.flies))
      (flies_numbers b q.slices (Some at) tail.after (head.flights ++ tail.flights) pair_flights pair_path.flies)
