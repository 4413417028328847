-- The paths that end where fares are filed: no other has a key.
use Rattle.std.proofs.Common.{◌≡◌, ◌≢◌, ◌⊎◌, ℕ, ◌<◌, Bool, true, false, List, [], ◌∷◌, length, get_or, Option, Some, refl, sym, subst, inl, inr}
use Rattle.fare_ends.specs.Reaches.{HasNoFares}
use Rattle.fare_book.specs.Keeping.{NoFare}
use Rattle.fare_law.specs.declared.flights.Flight.{Flight}
use Rattle.fare_law.specs.declared.market.OfferKey.{OfferKey}
use Rattle.fare_law.specs.declared.names.Place.{Place}
use Rattle.fare_law.specs.declared.requests.Request.{Request}
use Rattle.fare_law.specs.Book.{Book}
use Rattle.fare_law.specs.Lists.{IsIn, OnFirst, OnLast}
use Rattle.flight_paths.specs.declared.positions.Path.{Path}
use Rattle.flight_paths.specs.declared.positions.Position.{Position}
use Rattle.flight_paths.specs.Heads.{AreReached}
use Rattle.flight_paths.specs.Positions.{Flies, IsPath}
use Rattle.residual_keys.specs.AskedKeys.{IsKey, KeyOf, KeyOfFlights}
use Rattle.residual_keys.specs.Gathered.{IsPathOf}
use Rattle.residual_keys.specs.Residuals.{State}
use Rattle.residual_keys.proofs.Markets.{no_sheet}
use Rattle.residual_keys.proofs.OneNext.{last_one}
use Rattle.residual_keys.proofs.PathByPath.{HoldsOn}
use Rattle.asked_keys.specs.Offering.{AreServed}
use Rattle.law_lemmas.proofs.LawFacts.{on_last_as}
use Rattle.law_lemmas.proofs.Members.{read_in}

-- the last of a path's flights
last_of : (fs : List Flight) → fs ≢ [] → (z : Flight) × OnLast (λ x. z ≡ x) fs
last_of [] some = absurd (some refl)
last_of (f ∷ []) some = (f, refl)
last_of (f ∷ g ∷ fs) some = last_of (g ∷ fs) (λ e. absurd (cc))

module _ (b : Book) (q : Request) (at : Position) where
  flights_some : (ns : List ℕ) (fs : List Flight) (next : Option Position) → Flies b q.slices (Some at) ns fs next → ns ≢ [] → fs ≢ []
  flights_some [] fs next h some = absurd (some refl)
  flights_some (n ∷ ns) [] next h some = absurd h
  flights_some (n ∷ ns) (f ∷ fs) next h some = λ e. absurd (cc)

  -- a path begins at its position's place
  begins : (ns : List ℕ) (fs : List Flight) (next : Option Position) → Flies b q.slices (Some at) ns fs next → ns ≢ [] → OnFirst (λ f. f.from ≡ at.place) fs
  begins [] fs next h some = absurd (some refl)
  begins (n ∷ ns) [] next h some = absurd h
  begins (n ∷ ns) (f ∷ fs) next h some = h.2.departs

  -- paths of which each that ends at a wanted place is one, where no fare is filed to another place or from it
  pub served : (paths : List Path) (wanted : Place → Bool) → ((place : Place) → wanted place ≡ false → HasNoFares b at.place place) → AreReached b q.slices at wanted paths → AreServed b q at paths
  served paths wanted others reached = record {
    each = reached.each;
    all = λ x fs is. let z = last_of fs (flights_some x.flights fs x.after is.flies is.some) in by_end x fs is z.0 z.1 (wanted z.0.to) refl;
  }
    where
      by_end : (x : Path) (fs : List Flight) → IsPath b q.slices at x.flights fs x.after → (z : Flight) → OnLast (λ y. z ≡ y) fs → (t : Bool) → wanted z.to ≡ t → IsIn x paths ⊎ OnLast (λ y. HasNoFares b at.place y.to) fs
      by_end x fs is z end true e = inl (reached.all x fs is (on_last_as (λ y. wanted y.to ≡ true) fs z end e))
      by_end x fs is z end false e = inr (on_last_as (λ y. HasNoFares b at.place y.to) fs z end (others z.to e))

-- a path that is read from these is one of the residual, with its flights
pub served_at : (b : Book) (q : Request) (r : State) (paths items : List Path) (i : ℕ) (path : Path) → items ≡ paths → i < length items → path ≡ get_or items i path → AreServed b q r.at paths → (fs : List Flight) × IsPathOf b q r path fs
served_at b q r paths items i path same lt is are = are.each path (subst (IsIn path) same (read_in items i path path lt is))

-- flights between whose ends no fare is filed have no key
no_key : (b : Book) (q : Request) (r : State) (place : Place) (fs : List Flight) → OnFirst (λ f. f.from ≡ place) fs → OnLast (λ z. HasNoFares b place z.to) fs → (key : OfferKey) → KeyOfFlights b q r fs key → ⊥
no_key b q r place [] h none key k = absurd h
no_key b q r place (f ∷ fs) h none key k =
    last_one {X = Flight} (λ (z : Flight). HasNoFares b place z.to) (λ (z : Flight). IsKey b q (f ∷ fs) f.from z.to key ⊎ ((r.units ≢ []) × IsKey b q (f ∷ fs) z.to f.from key)) ⊥ (λ z without is. elim is [
      | inl a ↦ no_sheet b f.from z.to key.sheet.value (subst (λ p. NoFare b p z.to) (sym h) without.0) a.1
      | inr a ↦ no_sheet b z.to f.from key.sheet.value (subst (λ p. NoFare b z.to p) (sym h) without.1) a.1.1
    ]) (f ∷ fs) none k

-- what holds of all keys of these paths holds of all keys of the residual
pub all_keys : (b : Book) (q : Request) (r : State) (paths : List Path) (Settled : OfferKey → Type 0) → AreServed b q r.at paths → HoldsOn b q r Settled paths → (key : OfferKey) → KeyOf b q r key → Settled key
all_keys b q r paths Settled are holds key k =
    let x : Path = record { flights = k.numbers; after = k.next } in
    elim (are.all x k.flights k.path) [
      | inl i ↦ holds x i k.flights k.path key k.of
      | inr none ↦ absurd (no_key b q r r.at.place k.flights (begins b q r.at k.numbers k.flights k.next k.path.flies k.path.some) none key k.of)
    ]
