-- What is reached fits the request, and what leads on from there is a path. Given on to the crates above.
use Rattle.std.proofs.Common.{◌≡◌, ℕ, zero, suc, ◌≤◌, ◌↔◌, Bool, true, false, cond, ◌==◌, List, [], ◌∷◌, length, map, slice_get, Option, Some, None, IsSome, IfSome, is_some, ◌≢◌, sym, refl, ap, ◌∙◌, subst, inl, inr, arith, eq-eqb, ne_eqb, ℤ}
use Rattle.std.proofs.lemmas.Bool.{cases_eq, true≢false}
use Rattle.fare_law.specs.declared.flights.Flight.{Flight}
use Rattle.fare_law.specs.declared.moves.Move.{Move}
use Rattle.fare_law.specs.declared.names.Place.{Place}
use Rattle.fare_law.specs.declared.requests.Request.{Request}
use Rattle.fare_law.specs.declared.requests.Slice.{Slice}
use Rattle.fare_law.specs.Book.{Book}
use Rattle.fare_law.specs.Lists.{Each}
use Rattle.fare_law.specs.Parts.{Shape}
use Rattle.flight_paths.specs.declared.positions.Position.{Position}
use Rattle.flight_paths.specs.Positions.{via_after, position_inside, Fits, KeepsOff, IsPath, via_places, Flies, LeadsTo, before_slice, start_of_range, end_of_range, before_first, is_zero, fits_before, fits_inside}
use Rattle.residual_keys.specs.Residuals.{State, LeadsFrom, begins, part_with, no_part}
use Rattle.residual_keys.specs.Searches.{Reached}
use Rattle.law_lemmas.proofs.Lists.{got_within}

-- a range lies in the timetable
begins_low : (t : Flight → Bool) (fs : List Flight) → is_zero (end_of_range t fs) ≡ false → before_first t fs ≤ end_of_range t fs
begins_low t [] h = cc
begins_low t (f ∷ fs) h = go (t f) (end_of_range t fs) (before_first t fs) (begins_low t fs) h
  where
    go : (fits : Bool) (r first : ℕ) → (is_zero r ≡ false → first ≤ r) → is_zero (cond (is_zero r) (cond fits 1 0) (suc r)) ≡ false → cond fits 0 (suc first) ≤ cond (is_zero r) (cond fits 1 0) (suc r)
    go true zero first low h = omega arith
    go true (suc r) first low h = omega arith
    go false zero first low h = cc
    go false (suc r) first low h = omega (arith, low refl)

start_low : (t : Flight → Bool) (fs : List Flight) → start_of_range t fs ≤ end_of_range t fs
start_low t fs = go (end_of_range t fs) (before_first t fs) (begins_low t fs)
  where
    go : (r first : ℕ) → (is_zero r ≡ false → first ≤ r) → cond (is_zero r) 0 first ≤ r
    go zero first low = omega arith
    go (suc r) first low = low refl

end_low : (t : Flight → Bool) (fs : List Flight) → end_of_range t fs ≤ length fs
end_low t [] = omega arith
end_low t (f ∷ fs) = go (t f) (end_of_range t fs) (length fs) (end_low t fs)
  where
    go : (fits : Bool) (r n : ℕ) → r ≤ n → cond (is_zero r) (cond fits 1 0) (suc r) ≤ suc n
    go true zero n h = omega arith
    go false zero n h = omega arith
    go fits (suc r) n h = omega (arith, h)

-- at the end, or at a position that fits
abbrev pub FitsEnd : Book → List Slice → Option Position → Type 0
FitsEnd b sl None = Unit {0}
FitsEnd b sl (Some at) = Fits b sl at

before_fits : (b : Book) (sl : List Slice) (i : ℕ) (o : Option Slice) (arrival : Option ℤ) → slice_get sl i ≡ o → FitsEnd b sl (before_slice b i o arrival)
before_fits b sl i None arrival e = tt
before_fits b sl i (Some s) arrival e = record {
  slice = got_within sl i s e;
  leg = omega arith;
  via = (λ h. absurd (true≢false (sym h)), λ h. absurd (never h));
  range = start_low (fits_before b s arrival) b.timetable.flights;
  known = end_low (fits_before b s arrival) b.timetable.flights;
}
  where
    never : ◌≡◌ {A = ℕ} 0 2 → ⊥
    never h = omega (arith, h)

via_fits : (l : ℕ) (p : Place) → IsSome (cond (l == 1) (Some p) None) ↔ (suc l ≡ 2)
via_fits l p = elim (cases_eq l 1) [
  | inl e ↦ subst (λ t. IsSome (cond t (Some p) None) ↔ (suc l ≡ 2)) (sym (eq-eqb l 1 e)) (λ h. ap suc e, λ h. refl)
  | inr ne ↦ subst (λ t. IsSome (cond t (Some p) None) ↔ (suc l ≡ 2)) (sym (ne_eqb l 1 ne)) (λ h. absurd (true≢false (sym h)), λ h. absurd (ne (omega (arith, h))))
]

pub leads_fits : (b : Book) (sl : List Slice) (s : Slice) (at : Position) (f : Flight) (next : Option Position) → slice_get sl at.slice ≡ Some s → LeadsTo b sl s at f next → FitsEnd b sl next
leads_fits b sl s at f next is (inl h) = subst (FitsEnd b sl) (sym h.1) (before_fits b sl (suc at.slice) (slice_get sl (suc at.slice)) (Some f.arr) refl)
leads_fits b sl s at f next is (inr h) = subst (FitsEnd b sl) (sym h.2) (record {
  slice = got_within sl at.slice s is;
  leg = omega (arith, h.1);
  via = via_fits at.leg at.place;
  range = start_low (fits_inside b f.to f.arr) b.timetable.flights;
  known = end_low (fits_inside b f.to f.arr) b.timetable.flights;
})

pub flies_fits : (b : Book) (sl : List Slice) (start : Option Position) (ns : List ℕ) (fs : List Flight) (end : Option Position) → FitsEnd b sl start → Flies b sl start ns fs end → FitsEnd b sl end
flies_fits b sl start [] [] end ok h = subst (FitsEnd b sl) (sym h) ok
flies_fits b sl start [] (f ∷ fs) end ok h = absurd h
flies_fits b sl start (n ∷ ns) [] end ok h = absurd h
flies_fits b sl None (n ∷ ns) (f ∷ fs) end ok h = absurd h
flies_fits b sl (Some at) (n ∷ ns) (f ∷ fs) end ok (s, is, t, next, leads, rest) = flies_fits b sl next ns fs end (leads_fits b sl s at f next is leads) rest

leads_from_fits : (b : Book) (q : Request) (r x : State) (ms : List Move) → Fits b q.slices r.at → LeadsFrom b q r ms x → Fits b q.slices x.at
leads_from_fits b q r x [] ok h = subst (λ z. Fits b q.slices z.at) (sym h) ok
leads_from_fits b q r x (m ∷ ms) ok (fs, p, at, us, mv, h) =
    leads_from_fits b q (record { at = at; units = us; part = part_with r.part (begins m.role) p }) x ms (flies_fits b q.slices (Some r.at) m.flights fs (Some at) ok mv.path.flies) h

pub root_fits : (b : Book) (q : Request) (at : Position) → before_slice b 0 (slice_get q.slices 0) None ≡ Some at → Fits b q.slices at
root_fits b q at e = subst (FitsEnd b q.slices) e (before_fits b q.slices 0 (slice_get q.slices 0) None refl)

pub reached_fits : (b : Book) (q : Request) (x : State) → Reached b q x → Fits b q.slices x.at
reached_fits b q x (ms, (at, root, h)) = leads_from_fits b q (record { at = at; units = []; part = no_part }) x ms (root_fits b q at root) h

-- what leads on from a position that fits keeps off the places called at before

off_origin : (b : Book) (sl : List Slice) (s : Slice) (at : Position) (ns : List ℕ) (fs : List Flight) (end : Option Position) → slice_get sl at.slice ≡ Some s → Flies b sl (Some at) ns fs end → KeepsOff s fs s.from
off_origin b sl s at [] [] end is h = tt
off_origin b sl s at [] (f ∷ fs) end is h = absurd h
off_origin b sl s at (n ∷ ns) [] end is h = absurd h
off_origin b sl s at (n ∷ ns) (f ∷ fs) end is (s', is', t, next, leads, rest) =
    let e : s' ≡ s = cc in (
      subst (λ z. f.to ≢ z.from) e t.not_origin,
      λ ne. elim leads [
        | inl l ↦ absurd (ne (l.0 ∙ ap (λ z. z.to) e))
        | inr l ↦ off_origin b sl s (position_inside b at.slice (suc at.leg) f.to (via_after at) f.arr) ns fs end is (subst (λ z. Flies b sl z ns fs end) l.2 rest)
      ],
    )

each_off : (s : Slice) (fs : List Flight) (p : Place) → Each (λ y. p ≢ y) (map (λ f. f.to) fs) → KeepsOff s fs p
each_off s [] p h = tt
each_off s (f ∷ fs) p h = (λ e. h.0 (sym e), λ ne. each_off s fs p h.1)

off_place : (b : Book) (sl : List Slice) (s : Slice) (at : Position) (ns : List ℕ) (fs : List Flight) (end : Option Position) → Shape fs → Flies b sl (Some at) ns fs end → KeepsOff s fs at.place
off_place b sl s at ns [] end sh h = tt
off_place b sl s at [] (f ∷ fs) end sh h = absurd h
off_place b sl s at (n ∷ ns) (f ∷ fs) end sh (s', is', t, next, leads, rest) = subst (KeepsOff s (f ∷ fs)) t.departs (each_off s (f ∷ fs) f.from sh.apart.0)

off_via : (b : Book) (sl : List Slice) (s : Slice) (at : Position) (ns : List ℕ) (fs : List Flight) (end : Option Position) (v : Place) → slice_get sl at.slice ≡ Some s → at.via ≡ Some v → at.leg ≡ 2 → Flies b sl (Some at) ns fs end → KeepsOff s fs v
off_via b sl s at ns [] end v is via leg h = tt
off_via b sl s at [] (f ∷ fs) end v is via leg h = absurd h
off_via b sl s at (n ∷ ns) (f ∷ fs) end v is via leg (s', is', t, next, leads, rest) =
    let e : s' ≡ s = cc in (
      subst (λ o. IfSome o (λ w. f.to ≢ w)) via t.not_via,
      λ ne. elim leads [
        | inl l ↦ absurd (ne (l.0 ∙ ap (λ z. z.to) e))
        | inr l ↦ absurd (omega (arith, l.1, leg))
      ],
    )

-- What leads on from a position that fits, in the shape of a component, is a path.
pub is_path : (b : Book) (sl : List Slice) (at : Position) (ns : List ℕ) (fs : List Flight) (next : Option Position) → Fits b sl at → ns ≢ [] → Shape fs → Flies b sl (Some at) ns fs next → IsPath b sl at ns fs next
is_path b sl at ns fs next ok some sh h = record {
  some = some;
  flies = h;
  shape = sh;
  called = λ s is. (off_origin b sl s at ns fs next is h, (off_place b sl s at ns fs next sh h, via s is at.via refl));
}
  where
    via : (s : Slice) → slice_get sl at.slice ≡ Some s → (o : Option Place) → at.via ≡ o → Each (KeepsOff s fs) (via_places o)
    via s is None e = tt
    via s is (Some v) e = (off_via b sl s at ns fs next v is e (ok.via.0 (ap is_some e)) h, tt)
