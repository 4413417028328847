-- The columns of a sheet: a row that they set aside is not offered.
use Rattle.std.proofs.Common.{◌≡◌, ℕ, ◌<◌, ◌≤◌, ◌≤ℤ◌, pos, List, [], ◌∷◌, Bool, false, length, map, get_or, slice_get, Option, Some, None, IfSome, All, Contains, sym, ap, subst, ◌∙◌, arith}
use Rattle.std.proofs.lemmas.Int.{ints}
use Rattle.std.proofs.lemmas.Bool.{false≢true}
use Rattle.std.proofs.lemmas.List.{get_or-map}
use Rattle.std.proofs.lemmas.List.Elements.{All-head}
use Rattle.std.proofs.lemmas.Option.{get_or_from_slice_get}
use Rattle.fare_law.specs.declared.flights.Flight.{Flight}
use Rattle.fare_law.specs.declared.rules.DayTime.{DayTime}
use Rattle.fare_law.specs.declared.sheets.SheetRow.{SheetRow}
use Rattle.fare_law.specs.Days.{weekday}
use Rattle.fare_law.specs.Limits.{IsFlight}
use Rattle.fare_law.specs.Lists.{OnFirst}
use Rattle.fare_law.specs.Parts.{DayTimeHolds}
use Rattle.fare_law.specs.Sheets.{first_minute, from_minute, last_minute, to_minute}
use Rattle.lane_mask.specs.Spans.{AreMarked}
use Rattle.law_lemmas.proofs.Lists.{got_within}

-- category 2 holds within the hours of the columns alone
in_hours : (o : Option DayTime) (f : Flight) → f.minute < 1440 → IfSome o (λ c. Contains c.days (weekday f.day) × (c.from ≤ f.minute) × (f.minute ≤ c.to)) → (from_minute o ≤ℤ pos f.minute) × (pos f.minute ≤ℤ to_minute o)
in_hours None f less h = (omega (arith, ints), omega (arith, ints))
in_hours (Some c) f less h = (omega (arith, ints, h.1), omega (arith, ints, h.2))

pub missed : (rows : List SheetRow) (marks : List Bool) (i : ℕ) (row : SheetRow) (minute : ℕ) (fs : List Flight) → All IsFlight fs → OnFirst (λ f. f.minute ≡ minute) fs
    → AreMarked (map first_minute rows) (map last_minute rows) (pos minute) marks (length rows) → slice_get rows i ≡ Some row → get_or marks i false ≡ false → OnFirst (DayTimeHolds row.rule) fs → ⊥
missed rows marks i row minute [] timed is marked stands aside h = h
missed rows marks i row minute (f ∷ fs) timed is marked stands aside h =
    let within = got_within rows i row stands in
    let here : get_or rows i row ≡ row = get_or_from_slice_get rows i row row stands in
    let hours = in_hours row.rule.cat2 f (All-head IsFlight f fs timed).minute h in
    let opens : get_or (map first_minute rows) i (pos 0) ≡ first_minute row = get_or-map first_minute rows i row (pos 0) within ∙ ap first_minute here in
    let closes : get_or (map last_minute rows) i (pos 0) ≡ last_minute row = get_or-map last_minute rows i row (pos 0) within ∙ ap last_minute here in
    let marked_here = (subst (λ m. AreMarked (map first_minute rows) (map last_minute rows) (pos m) marks (length rows)) (sym is) marked i within).1
    (subst (λ z. z ≤ℤ pos f.minute) (sym opens) hours.0, subst (λ z. pos f.minute ≤ℤ z) (sym closes) hours.1) in
    absurd (false≢true (sym aside ∙ marked_here))
