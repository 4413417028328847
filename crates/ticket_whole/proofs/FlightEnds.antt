-- The first flight of a list and the last. Given on to the crates above.
use Rattle.std.proofs.Common.{◌≡◌, ◌∙◌, ◌-◌, sym, subst, List, [], ◌∷◌, length, Some, slice_get, refl, ap, arith}
use Rattle.fare_law.specs.declared.flights.Flight.{Flight}
use Rattle.fare_law.specs.Days.{IsCalendarDay}
use Rattle.fare_law.specs.Limits.{IsFlight}
use Rattle.fare_law.specs.Lists.{Each, OnLast}
use Rattle.ticket_whole.specs.Known.{ends_of, last_of}

last_got : (f : Flight) (fs : List Flight) → slice_get (f ∷ fs) (length fs) ≡ Some (last_of f fs)
last_got f [] = refl
last_got f (g ∷ fs) = last_got g fs

pub ends_told : (fs : List Flight) (f g : Flight) → slice_get fs 0 ≡ Some f → slice_get fs (length fs - 1) ≡ Some g → ends_of fs ≡ Some (f, g)
ends_told [] f g e h = absurd (cc)
ends_told (x ∷ fs) f g e h =
    let n : length (x ∷ fs) - 1 ≡ length fs = omega arith in
    let l : Some (last_of x fs) ≡ Some g = sym (last_got x fs) ∙ ap (slice_get (x ∷ fs)) (sym n) ∙ h in
    cc

pub on_last : (P : Flight → Type 0) (f : Flight) (fs : List Flight) → OnLast P (f ∷ fs) → P (last_of f fs)
on_last P f [] h = h
on_last P f (g ∷ fs) h = on_last P g fs h

pub last_on : (P : Flight → Type 0) (f : Flight) (fs : List Flight) → P (last_of f fs) → OnLast P (f ∷ fs)
last_on P f [] h = h
last_on P f (g ∷ fs) h = last_on P g fs h

first_is : (f : Flight) (fs : List Flight) (e : Flight × Flight) → ends_of (f ∷ fs) ≡ Some e → f ≡ e.0
first_is f fs e h = cc

pub first_has : (P : Flight → Type 0) (fs : List Flight) (e : Flight × Flight) → ends_of fs ≡ Some e → Each P fs → P e.0
first_has P [] e h k = absurd (cc)
first_has P (f ∷ fs) e h k = subst P (first_is f fs e h) k.0

pub first_day : (fs : List Flight) (f g : Flight) → Some (f, g) ≡ ends_of fs → Each IsFlight fs → IsCalendarDay f.day
first_day fs f g e h = (first_has IsFlight fs (f, g) (sym e) h).day
