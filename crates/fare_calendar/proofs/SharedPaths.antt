-- Paths of requests that are alike but for the window of the first slice.
use Rattle.std.proofs.Common.{◌≡◌, ◌≢◌, ◌∙◌, ℕ, zero, suc, ◌≤◌, ◌<◌, List, [], ◌∷◌, Option, Some, None, slice_get, refl, sym, ap, subst, inl, inr, arith}
use Rattle.fare_calendar.specs.Sharing.{AreAlike}
use Rattle.fare_law.specs.Book.{Book}
use Rattle.fare_law.specs.Journey.{InWindow}
use Rattle.fare_law.specs.Lists.{Each}
use Rattle.fare_law.specs.declared.flights.Flight.{Flight}
use Rattle.fare_law.specs.declared.names.Place.{Place}
use Rattle.fare_law.specs.declared.requests.Slice.{Slice}
use Rattle.flight_paths.specs.declared.positions.Position.{Position}
use Rattle.flight_paths.specs.Positions.{Flies, IsPath, KeepsOff, LeadsTo, Takes, before_slice, called_at, position_before, position_inside, via_after, via_places}
use Rattle.law_lemmas.proofs.EachOne.{each_weaker}
use Rattle.law_lemmas.proofs.Options.{some_same}

-- ---- slices that are alike

pub alike_back : (ss ts : List Slice) → AreAlike ss ts → AreAlike ts ss
alike_back [] [] a = tt
alike_back [] (t ∷ ts) a = absurd a
alike_back (s ∷ ss) [] a = absurd a
alike_back (s ∷ ss) (t ∷ ts) a = (sym a.0, sym a.1, sym a.2)

-- the other slice of a number
at_alike : (ss ts : List Slice) (n : ℕ) (s : Slice) → AreAlike ss ts → slice_get ss n ≡ Some s → (t : Slice) × (slice_get ts n ≡ Some t) × (t.from ≡ s.from) × (t.to ≡ s.to)
at_alike [] ts n s a e = absurd (cc)
at_alike (s ∷ ss) [] n u a e = absurd a
at_alike (s ∷ ss) (t ∷ ts) zero u a e = let h = some_same s u e in (t, refl, a.0 ∙ ap (λ z. z.from) h, a.1 ∙ ap (λ z. z.to) h)
at_alike (s ∷ ss) (t ∷ ts) (suc n) u a e = (u, ap (λ (z : List Slice). slice_get z n) a.2 ∙ e, refl, refl)

-- the slices after the first are the same
later_alike : (ss ts : List Slice) (n : ℕ) → AreAlike ss ts → slice_get ts (suc n) ≡ slice_get ss (suc n)
later_alike [] [] n a = refl
later_alike [] (t ∷ ts) n a = absurd a
later_alike (s ∷ ss) [] n a = absurd a
later_alike (s ∷ ss) (t ∷ ts) n a = ap (λ (z : List Slice). slice_get z n) a.2

later_same : (ss ts : List Slice) (n : ℕ) → AreAlike ss ts → (n ≡ 0 → ⊥) → slice_get ts n ≡ slice_get ss n
later_same ss ts zero a h = absurd (h refl)
later_same ss ts (suc n) a h = later_alike ss ts n a

-- ---- positions behind the first one

abbrev pub Beyond : Position → Type 0
Beyond at = at.slice ≡ 0 → at.leg ≡ 0 → ⊥

-- what may be taken there first in its slice by the one request is in the window of the other
abbrev pub Windowed : Book → List Slice → List Slice → Position → Type 0
Windowed b ss ts at = (s t : Slice) (n : ℕ) (f : Flight) → slice_get ss at.slice ≡ Some s → slice_get ts at.slice ≡ Some t → Takes b s at n f → at.leg ≡ 0 → InWindow t f

pub beyond_windowed : (b : Book) (ss ts : List Slice) (at : Position) → AreAlike ss ts → Beyond at → Windowed b ss ts at
beyond_windowed b ss ts at a beyond s t n f es et h z =
    let same = later_same ss ts at.slice a (λ i. beyond i z) in
    subst (λ (x : Slice). InWindow x f) (some_same s t (sym es ∙ sym same ∙ et)) (h.window z)

before_beyond : (b : Book) (i : ℕ) (o : Option Slice) (arrival : Option _) (to : Position) → Some to ≡ before_slice b (suc i) o arrival → Beyond to
before_beyond b i None arrival to e = absurd (cc)
before_beyond b i (Some s) arrival to e =
    let h : to.slice ≡ suc i = ap (λ p. p.slice) (some_same to (position_before b (suc i) s arrival) e) in
    λ z l. absurd (omega (arith, h, z))

next_beyond : (b : Book) (ss : List Slice) (s : Slice) (at : Position) (f : Flight) (to : Position) → LeadsTo b ss s at f (Some to) → Beyond to
next_beyond b ss s at f to (inl h) = before_beyond b at.slice (slice_get ss (suc at.slice)) (Some f.arr) to h.1
next_beyond b ss s at f to (inr h) =
    let e : to.leg ≡ suc at.leg = ap (λ p. p.leg) (some_same to (position_inside b at.slice (suc at.leg) f.to (via_after at) f.arr) h.2) in
    λ z l. absurd (omega (arith, e, l))

-- ---- flights and paths

takes_as : (b : Book) (s t : Slice) (at : Position) (n : ℕ) (f : Flight) → t.from ≡ s.from → (at.leg ≡ 0 → InWindow t f) → Takes b s at n f → Takes b t at n f
takes_as b s t at n f from window h = record {
  few = h.few;
  known = h.known;
  departs = h.departs;
  low = h.low;
  high = h.high;
  window = window;
  not_origin = λ e. h.not_origin (e ∙ from);
  not_here = h.not_here;
  not_via = h.not_via;
}

leads_as : (b : Book) (ss ts : List Slice) (s t : Slice) (at : Position) (f : Flight) (next : Option Position) → AreAlike ss ts → t.to ≡ s.to → LeadsTo b ss s at f next → LeadsTo b ts t at f next
leads_as b ss ts s t at f next a to (inl h) = inl (h.0 ∙ sym to, h.1 ∙ ap (λ (o : Option Slice). before_slice b (suc at.slice) o (Some f.arr)) (sym (later_alike ss ts at.slice a)))
leads_as b ss ts s t at f next a to (inr h) = inr (λ e. h.0 (e ∙ to), h.1, h.2)

flies_end : (b : Book) (ss ts : List Slice) (ns : List ℕ) (fs : List Flight) (end : Option Position) → Flies b ss None ns fs end → Flies b ts None ns fs end
flies_end b ss ts [] [] end h = h
flies_end b ss ts [] (f ∷ fs) end h = absurd h
flies_end b ss ts (n ∷ ns) [] end h = absurd h
flies_end b ss ts (n ∷ ns) (f ∷ fs) end h = absurd h

flies_as : (b : Book) (ss ts : List Slice) (at : Position) (ns : List ℕ) (fs : List Flight) (end : Option Position) → AreAlike ss ts → Windowed b ss ts at → Flies b ss (Some at) ns fs end → Flies b ts (Some at) ns fs end
flies_as b ss ts at [] [] end a w h = h
flies_as b ss ts at [] (f ∷ fs) end a w h = absurd h
flies_as b ss ts at (n ∷ ns) [] end a w h = absurd h
flies_as b ss ts at (n ∷ ns) (f ∷ fs) end a w (s, is, t, None, leads, rest) =
    let o = at_alike ss ts at.slice s a is in
    (o.0, o.1, takes_as b s o.0 at n f o.2 (w s o.0 n f is o.1 t) t, None, leads_as b ss ts s o.0 at f None a o.3 leads, flies_end b ss ts ns fs end rest)
flies_as b ss ts at (n ∷ ns) (f ∷ fs) end a w (s, is, t, Some to, leads, rest) =
    let o = at_alike ss ts at.slice s a is in (
      o.0,
      o.1,
      takes_as b s o.0 at n f o.2 (w s o.0 n f is o.1 t) t,
      Some to,
      leads_as b ss ts s o.0 at f (Some to) a o.3 leads,
      flies_as b ss ts to ns fs end a (beyond_windowed b ss ts to a (next_beyond b ss s at f to leads)) rest,
    )

keeps_as : (s t : Slice) (fs : List Flight) (place : Place) → s.to ≡ t.to → KeepsOff s fs place → KeepsOff t fs place
keeps_as s t [] place e h = tt
keeps_as s t (f ∷ fs) place e h = (h.0, λ d. keeps_as s t fs place e (h.1 (λ x. d (x ∙ e))))

pub path_as : (b : Book) (ss ts : List Slice) (at : Position) (ns : List ℕ) (fs : List Flight) (next : Option Position) → AreAlike ss ts → Windowed b ss ts at → IsPath b ss at ns fs next → IsPath b ts at ns fs next
path_as b ss ts at ns fs next a w h = record {
  some = h.some;
  flies = flies_as b ss ts at ns fs next a w h.flies;
  shape = h.shape;
  called = λ t is.
      let o = at_alike ts ss at.slice t (alike_back ss ts a) is in
      subst (λ (p : Place). Each (KeepsOff t fs) (p ∷ at.place ∷ via_places at.via)) o.2
      (each_weaker (KeepsOff o.0 fs) (KeepsOff t fs) (λ p k. keeps_as o.0 t fs p o.3 k) (called_at o.0 at) (h.called o.0 o.1));
}
