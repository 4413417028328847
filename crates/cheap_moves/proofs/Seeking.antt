-- The paths of a position that begin with one flight.
use Rattle.std.proofs.Common.{◌≡◌, ℕ, ◌≤◌, ◌<◌, Bool, true, false, List, [], ◌∷◌, slice_get, Option, Some, refl, sym, ap, subst, ◌∙◌, arith}
use Rattle.cheap_moves.specs.Sought.{AreSoughtBy, StartWanted, narrowed}
use Rattle.fare_law.specs.declared.flights.Flight.{Flight}
use Rattle.fare_law.specs.declared.names.Place.{Place}
use Rattle.fare_law.specs.declared.requests.Slice.{Slice}
use Rattle.fare_law.specs.Book.{Book}
use Rattle.fare_law.specs.Lists.{IsIn, OnFirst}
use Rattle.flight_paths.specs.declared.positions.Path.{Path}
use Rattle.flight_paths.specs.declared.positions.Position.{Position}
use Rattle.flight_paths.specs.Heads.{AreReached}
use Rattle.flight_paths.specs.Positions.{Flies}
use Rattle.schedule_book.specs.Departures.{AreDepartures}
use Rattle.law_lemmas.proofs.Options.{some_one}
use Rattle.law_lemmas.proofs.Tests.{true_false}

module _ (b : Book) (sl : List Slice) (at : Position) where
  -- ---- one flight

  module _ (n : ℕ) where
    flies_wide : (ns : List ℕ) (fs : List Flight) (next : Option Position) → (ns ≡ [] → ⊥) → at.lo ≤ n → n < at.hi → Flies b sl (Some (narrowed at n)) ns fs next → Flies b sl (Some at) ns fs next
    flies_wide [] fs next some low high h = absurd (some refl)
    flies_wide (m ∷ ns) [] next some low high h = absurd h
    flies_wide (m ∷ ns) (f ∷ fs) next some low high (s, known, takes, after, leads, rest) = (
      s,
      known,
      record {
        few = takes.few;
        known = takes.known;
        departs = takes.departs;
        low = let l = takes.low in omega (arith, low, l);
        high = let l = takes.high in omega (arith, high, l);
        window = takes.window;
        not_origin = takes.not_origin;
        not_here = takes.not_here;
        not_via = takes.not_via;
      },
      after,
      leads,
      rest,
    )

    flies_first : (ns : List ℕ) (fs : List Flight) (next : Option Position) → (ns ≡ [] → ⊥) → Flies b sl (Some (narrowed at n)) ns fs next → OnFirst (λ m. m ≡ n) ns
    flies_first [] fs next some h = absurd (some refl)
    flies_first (m ∷ ns) [] next some h = absurd h
    flies_first (m ∷ ns) (f ∷ fs) next some (s, known, takes, after, leads, rest) = let low = takes.low in let high = takes.high in omega (arith, low, high)

    flies_narrow : (ns : List ℕ) (fs : List Flight) (next : Option Position) → OnFirst (λ m. m ≡ n) ns → Flies b sl (Some at) ns fs next → Flies b sl (Some (narrowed at n)) ns fs next
    flies_narrow [] fs next first h = absurd first
    flies_narrow (m ∷ ns) [] next first h = absurd h
    flies_narrow (m ∷ ns) (f ∷ fs) next first (s, known, takes, after, leads, rest) = (
      s,
      known,
      record {
        few = takes.few;
        known = takes.known;
        departs = takes.departs;
        low = omega (arith, first);
        high = omega (arith, first);
        window = takes.window;
        not_origin = takes.not_origin;
        not_here = takes.not_here;
        not_via = takes.not_via;
      },
      after,
      leads,
      rest,
    )

    module _ (begun : Flight → Bool) (wanted : Place → Bool) (low : at.lo ≤ n) (high : n < at.hi) where
      -- the paths from where this flight alone leads on begin with it
      pub begun_by : (paths : List Path) → AreReached b sl (narrowed at n) wanted paths → AreSoughtBy b sl at begun wanted (λ m. m ≡ n) paths
      begun_by paths r = record {
        once = r.once;
        begin = λ p i. let h = r.each p i in flies_first p.flights h.0 p.after h.1.some h.1.flies;
        each = λ p i. let h = r.each p i in (h.0, record { some = h.1.some; flies = flies_wide p.flights h.0 p.after h.1.some low high h.1.flies; shape = h.1.shape; called = h.1.called });
        all = λ p fs first is starts ends. r.all p fs (record { some = is.some; flies = flies_narrow p.flights fs p.after first is.flies; shape = is.shape; called = is.called }) ends;
      }

      -- where the flight isn't wanted there are none
      pub none_begun : (f : Flight) → slice_get b.timetable.flights n ≡ Some f → begun f ≡ false → AreSoughtBy b sl at begun wanted (λ m. m ≡ n) []
      none_begun f stands not = record { once = tt; begin = λ p i. absurd i; each = λ p i. absurd i; all = λ p fs first is starts ends. absurd (other p.flights fs p.after first is.flies starts) }
        where
          other : (ns : List ℕ) (fs : List Flight) (next : Option Position) → OnFirst (λ m. m ≡ n) ns → Flies b sl (Some at) ns fs next → StartWanted begun fs → ⊥
          other [] fs next first h starts = first
          other (m ∷ ns) [] next first h starts = h
          other (m ∷ ns) (g ∷ fs) next first (s, known, takes, after, leads, rest) starts =
              true_false (subst (λ (x : Flight). begun x ≡ true) (some_one (slice_get b.timetable.flights n) g f (subst (λ k. slice_get b.timetable.flights k ≡ Some g) first takes.known) stands) starts) not

  -- a path of the position begins with a flight that departs from its place
  pub begins_there : (flights : List Flight) (numbers : List ℕ) → b.timetable.flights ≡ flights → AreDepartures flights at.place at.lo at.hi numbers → (ns : List ℕ) (fs : List Flight) (next : Option Position) → (ns ≡ [] → ⊥) → Flies b sl (Some at) ns fs next → OnFirst (λ m. IsIn m numbers) ns
  begins_there flights numbers plan departures [] fs next some flies = absurd (some refl)
  begins_there flights numbers plan departures (m ∷ ns) [] next some flies = absurd flies
  begins_there flights numbers plan departures (m ∷ ns) (f ∷ fs) next some (s, known, takes, after, leads, rest) = (departures.are m).1 (takes.low, takes.high, (f, ap (λ xs. slice_get xs m) (sym plan) ∙ takes.known, takes.departs))
