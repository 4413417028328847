-- Paths by their first flights. Given on to the crates above.
use Rattle.std.proofs.Common.{◌≡◌, ◌≢◌, ◌⊎◌, ℕ, suc, ◌≤◌, ◌<◌, List, [], ◌∷◌, slice_get, Option, Some, None, IfSome, refl, sym, subst, ◌∙◌, inl, inr, arith}
use Rattle.fare_law.specs.declared.flights.Flight.{Flight}
use Rattle.fare_law.specs.declared.names.Place.{Place}
use Rattle.fare_law.specs.declared.requests.Slice.{Slice}
use Rattle.fare_law.specs.Book.{Book}
use Rattle.fare_law.specs.Lists.{Each, OnFirst}
use Rattle.flight_paths.specs.declared.positions.Position.{Position}
use Rattle.flight_paths.specs.Positions.{Flies, IsPath, KeepsOff, LeadsTo, Takes, via_places}
use Rattle.fare_ends.specs.Begins.{BeginsAlone, BeginsNarrowed, BeginsShared, IsShared, narrowed, shared}
use Rattle.law_lemmas.proofs.Options.{some_same}

-- what may be taken is taken from another range that has it too
in_range : (b : Book) (s : Slice) (at : Position) (n low high : ℕ) (f : Flight) → low ≤ n → n < high → Takes b s at n f → Takes b s (record { slice = at.slice; leg = at.leg; place = at.place; via = at.via; lo = low; hi = high }) n f
in_range b s at n low high f from to t = record { few = t.few; known = t.known; departs = t.departs; low = from; high = to; window = t.window; not_origin = t.not_origin; not_here = t.not_here; not_via = t.not_via }

module _ (b : Book) (slices : List Slice) (at : Position) (n : ℕ) where
  narrow : at.lo ≤ n → n < at.hi → (ns : List ℕ) (fs : List Flight) (next : Option Position) → Flies b slices (Some at) (n ∷ ns) fs next → Flies b slices (Some (narrowed at n)) (n ∷ ns) fs next
  narrow low high ns [] next h = absurd h
  narrow low high ns (f ∷ fs) next (s, k, t, o, l, r) = (s, k, in_range b s at n n (suc n) f (omega arith) (omega arith) t, o, l, r)

  widen : at.lo ≤ n → n < at.hi → (ns : List ℕ) (fs : List Flight) (next : Option Position) → Flies b slices (Some (narrowed at n)) (n ∷ ns) fs next → Flies b slices (Some at) (n ∷ ns) fs next
  widen low high ns [] next h = absurd h
  widen low high ns (f ∷ fs) next (s, k, t, o, l, r) = (s, k, in_range b s (narrowed at n) n at.lo at.hi f low high t, o, l, r)

pub begins_narrowed : BeginsNarrowed
begins_narrowed b slices at n ns fs next low high = (
  λ h. record { some = h.some; flies = narrow b slices at n low high ns fs next h.flies; shape = h.shape; called = h.called },
  λ h. record { some = h.some; flies = widen b slices at n low high ns fs next h.flies; shape = h.shape; called = h.called },
)

-- a flight that ends the slice keeps off the place that was called at first
module _ (s : Slice) (leg : ℕ) (f : Flight) (fs : List Flight) where
  not_via : (via : Option Place) → IfSome via (λ v. (leg ≡ 2) × (v ≢ s.to)) → (f.to ≡ s.to) ⊎ (leg < 2) → IfSome via (λ v. f.to ≢ v)
  not_via None is ends = tt
  not_via (Some v) is (inl e) = λ w. is.1 (sym w ∙ e)
  not_via (Some v) is (inr l) = absurd (omega (arith, is.0, l))

  keeps_via : (via : Option Place) → IfSome via (λ v. (leg ≡ 2) × (v ≢ s.to)) → (f.to ≡ s.to) ⊎ (leg < 2) → Each (KeepsOff s (f ∷ fs)) (via_places via)
  keeps_via None is ends = tt
  keeps_via (Some v) is (inl e) = (((λ w. is.1 (sym w ∙ e)), λ ne. absurd (ne e)), tt)
  keeps_via (Some v) is (inr l) = absurd (omega (arith, is.0, l))

module _ (b : Book) (slices : List Slice) (at : Position) (s : Slice) (known : slice_get slices at.slice ≡ Some s) (is : IsShared s at) (n : ℕ) where
  ends_or_goes : (f : Flight) (next : Option Position) → LeadsTo b slices s at f next → (f.to ≡ s.to) ⊎ (at.leg < 2)
  ends_or_goes f next (inl h) = inl h.0
  ends_or_goes f next (inr h) = inr h.1

  -- with no place that was called at first
  share : (ns : List ℕ) (fs : List Flight) (next : Option Position) → IsPath b slices (narrowed at n) ns fs next → IsPath b slices (shared at n) ns fs next
  share ns fs next h = record { some = h.some; flies = flies ns fs h.some h.flies; shape = h.shape; called = λ x e. let all = h.called x e in (all.0, (all.1.0, tt)) }
    where
      flies : (ns : List ℕ) (fs : List Flight) → ns ≢ [] → Flies b slices (Some (narrowed at n)) ns fs next → Flies b slices (Some (shared at n)) ns fs next
      flies [] fs some h = absurd (some refl)
      flies (m ∷ ns) [] some h = absurd h
      flies (m ∷ ns) (f ∷ fs) some (x, k, t, o, l, r) = (x, k, record { few = t.few; known = t.known; departs = t.departs; low = t.low; high = t.high; window = t.window; not_origin = t.not_origin; not_here = t.not_here; not_via = tt }, o, l, r)

  -- and with the one that was
  own : (ns : List ℕ) (fs : List Flight) (next : Option Position) → IsPath b slices (shared at n) ns fs next → IsPath b slices (narrowed at n) ns fs next
  own [] fs next h = absurd (h.some refl)
  own (m ∷ ns) [] next h = absurd h.flies
  own (m ∷ ns) (f ∷ fs) next h = of h.flies
    where
      of : Flies b slices (Some (shared at n)) (m ∷ ns) (f ∷ fs) next → IsPath b slices (narrowed at n) (m ∷ ns) (f ∷ fs) next
      of (x, k, t, o, l, r) =
          let same : s ≡ x = some_same s x (sym known ∙ k) in
          let leads = subst (λ y. LeadsTo b slices y at f o) (sym same) l in
          let ends = ends_or_goes f o leads in record {
            some = h.some;
            flies = (x, k, record { few = t.few; known = t.known; departs = t.departs; low = t.low; high = t.high; window = t.window; not_origin = t.not_origin; not_here = t.not_here; not_via = not_via s at.leg f fs at.via is ends }, o, l, r);
            shape = h.shape;
            called = λ y e. let all = h.called y e in (all.0, (all.1.0, subst (λ z. Each (KeepsOff z (f ∷ fs)) (via_places at.via)) (some_same s y (sym known ∙ e)) (keeps_via s at.leg f fs at.via is ends)));
          }

pub begins_shared : BeginsShared
begins_shared b slices at s known is n ns fs next = (share b slices at s known is n ns fs next, own b slices at s known is n ns fs next)

pub begins_alone : BeginsAlone
begins_alone b slices at s known is n f here low high ns fs next = (
  λ h. subst there (sym here) ((begins_shared b slices at s known is n (n ∷ ns) fs next).0 ((begins_narrowed b slices at n ns fs next low high).0 h)),
  λ h. (begins_narrowed b slices at n ns fs next low high).1 ((begins_shared b slices at s known is n (n ∷ ns) fs next).1 (subst there here h)),
)
  where
    there : Place → Type 0
    there place = IsPath b slices (record { slice = at.slice; leg = at.leg; place = place; via = None; lo = n; hi = suc n }) (n ∷ ns) fs next

-- a path's first flight is one that may be taken
pub record BeginsWith (b : Book) (slices : List Slice) (at : Position) (ns : List ℕ) (fs : List Flight) : Type 0 where
  pub number : ℕ
  pub rest : List ℕ
  pub numbers : ns ≡ number ∷ rest
  pub flight : Flight
  pub first : OnFirst (λ f. f ≡ flight) fs
  pub slice : Slice
  pub here : slice_get slices at.slice ≡ Some slice
  pub takes : Takes b slice at number flight

pub begins_with : (b : Book) (slices : List Slice) (at : Position) (ns : List ℕ) (fs : List Flight) (next : Option Position) → IsPath b slices at ns fs next → BeginsWith b slices at ns fs
begins_with b slices at ns fs next h = of ns fs h.some h.flies
  where
    of : (ns : List ℕ) (fs : List Flight) → ns ≢ [] → Flies b slices (Some at) ns fs next → BeginsWith b slices at ns fs
    of [] fs some x = absurd (some refl)
    of (n ∷ ns) [] some x = absurd x
    of (n ∷ ns) (f ∷ fs) some (s, k, t, o, l, r) = record { number = n; rest = ns; numbers = refl; flight = f; first = refl; slice = s; here = k; takes = t }
