-- The flights of rows within their limits are within theirs, and flights in order depart one after another.
use Rattle.std.proofs.Common.{◌≡◌, ℤ, ℕ, pos, ◌≤ℤ◌, ◌<ℤ◌, ◌+ℤ◌, ◌-ℤ◌, ◌*ℤ◌, List, [], ◌∷◌, sym, subst, arith}
use Rattle.std.proofs.lemmas.Int.{ints}
use Rattle.fare_law.specs.declared.flights.Flight.{Flight}
use Rattle.fare_law.specs.declared.rows.FlightRow.{FlightRow}
use Rattle.fare_law.specs.Days.{IsCalendarDay, IsInstant, IsMinute, IsOffset, IsShift}
use Rattle.fare_law.specs.Flights.{AreFlights, Ascending, Dated, Earlier, instant}
use Rattle.fare_law.specs.Limits.{IsFlight, IsFlightNumber, IsFlightRow, IsPlace}
use Rattle.fare_law.specs.Lists.{Each, EachPair}
use Rattle.fare_law.specs.Names.{IsCarrier}
use Rattle.schedule_book.specs.LocalDays.{KeepsDay}
use Rattle.schedule_book.proofs.Lower.{before_le}
use Rattle.law_lemmas.proofs.EachOne.{each_from, each_in}

day_within : (first last day : ℤ) → IsCalendarDay first → IsCalendarDay last → first ≤ℤ day → day ≤ℤ last → IsCalendarDay day
day_within first last day f l a b = (omega (arith, ints, f.0), omega (arith, ints, l.1))

departs_within : (day : ℤ) (minute : ℕ) (offset t : ℤ) → IsCalendarDay day → IsMinute minute → IsOffset offset → t ≡ instant day minute offset → IsInstant t
departs_within day minute offset t d m o e = (omega (arith, ints, d.0, d.1, m, o.0, o.1, e), omega (arith, ints, d.0, d.1, m, o.0, o.1, e))

arrives_within : (day shift : ℤ) (minute : ℕ) (offset t : ℤ) → IsCalendarDay day → IsShift shift → IsMinute minute → IsOffset offset → t ≡ instant (day +ℤ shift) minute offset → IsInstant t
arrives_within day shift minute offset t d s m o e = (omega (arith, ints, d.0, d.1, s.0, s.1, m, o.0, o.1, e), omega (arith, ints, d.0, d.1, s.0, s.1, m, o.0, o.1, e))

dated_within : (row : FlightRow) (f : Flight) → IsFlightRow row → Dated row f → IsFlight f
dated_within row f r d =
    let day : IsCalendarDay f.day = day_within row.first row.last f.day r.first r.last d.first d.last in
    record {
      carrier = subst IsCarrier (sym d.carrier) r.carrier;
      number = subst IsFlightNumber (sym d.number) r.number;
      from = subst IsPlace (sym d.from) r.from;
      to = subst IsPlace (sym d.to) r.to;
      day = day;
      minute = subst IsMinute (sym d.minute) r.dep;
      dep = departs_within f.day row.dep row.dep_offset f.dep day r.dep r.dep_offset d.departs;
      arr = arrives_within f.day row.shift row.arr row.arr_offset f.arr day r.shift r.arr r.arr_offset d.arrives;
    }

on_its_day : (day : ℤ) (minute : ℕ) (offset t : ℤ) → IsMinute minute → IsOffset offset → t ≡ instant day minute offset
    → (((day *ℤ pos 1440) -ℤ pos 840) ≤ℤ t) × (t <ℤ (((day +ℤ pos 1) *ℤ pos 1440) +ℤ pos 840))
on_its_day day minute offset t m o e = (omega (arith, ints, m, o.0, o.1, e), omega (arith, ints, m, o.0, o.1, e))

dated_day : (row : FlightRow) (f : Flight) → IsFlightRow row → Dated row f → KeepsDay f
dated_day row f r d = on_its_day f.day row.dep row.dep_offset f.dep r.dep r.dep_offset d.departs

-- each flight of such rows is within its limits
pub flights_within : (rows : List FlightRow) (fs : List Flight) → Each IsFlightRow rows → AreFlights rows fs → Each IsFlight fs
flights_within rows fs h a = each_from IsFlight fs (λ f i. let d = (a.are f).0 i in dated_within d.0 f (each_in IsFlightRow rows d.0 h d.1) d.2)

-- each flight of such rows departs on its local day
pub flights_on_days : (rows : List FlightRow) (fs : List Flight) → Each IsFlightRow rows → AreFlights rows fs → Each KeepsDay fs
flights_on_days rows fs h a = each_from KeepsDay fs (λ f i. let d = (a.are f).0 i in dated_day d.0 f (each_in IsFlightRow rows d.0 h d.1) d.2)

later : (f g : Flight) (fs : List Flight) → f.dep ≤ℤ g.dep → Each (λ x. g.dep ≤ℤ x.dep) fs → Each (λ x. f.dep ≤ℤ x.dep) fs
later f g [] le h = tt
later f g (x ∷ fs) le h = (join le h.0, later f g fs le h.1)
  where
    join : f.dep ≤ℤ g.dep → g.dep ≤ℤ x.dep → f.dep ≤ℤ x.dep
    join a b = omega (arith, ints)

-- flights in order depart one after another
pub ascend : (fs : List Flight) → EachPair Earlier fs → Ascending fs
ascend [] h = tt
ascend (f ∷ []) h = (tt, tt)
ascend (f ∷ g ∷ fs) h =
    let a = ascend (g ∷ fs) h.1 in
    let le = before_le f g h.0 in
    ((le, later f g fs le a.0), a)
