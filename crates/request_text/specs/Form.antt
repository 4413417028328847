-- The form of a request: what a JSON value asks, with any whole numbers and any count of slices.
use Rattle.std.specs.Prelude.{ℕ, ℤ, pos, Bool, is_some, if◌then◌else◌, Option, Some, None, option_and_then, codes}
use Rattle.serde_json.specs.Data.{Data}
use Rattle.serde_json.specs.Find.{get}
use Rattle.json_form.specs.Items.{each_item}
use Rattle.fare_law.specs.Lists.{Each}
use Rattle.market_time.specs.Dates.{IsInCentury}
use Rattle.fare_law.specs.Limits.{IsPlace}
use Rattle.json_form.specs.Members.{has_members, items_at, whole_at, date_at, place_at}
use Rattle.request_text.specs.declared.asked.Asked.{Asked}
use Rattle.request_text.specs.declared.asked.AskedSlice.{AskedSlice}
use Rattle.request_text.specs.declared.asked.Terms.{Terms}

-- the names and the day of a slice that is read
pub record IsAskedSlice (s : AskedSlice) : Type 0 where
  pub from : IsPlace s.from
  pub to : IsPlace s.to
  pub first : IsInCentury s.first

-- the names and the days of what is read
pub record IsAsked (a : Asked) : Type 0 where
  pub sale : IsInCentury a.terms.sale
  pub slices : Each IsAskedSlice a.slices

-- one thing after another, as long as each is there
infixl 10 ◌>>=◌
abbrev pub ◌>>=◌ : {A B : Type 0} → Option A → (A → Option B) → Option B
o >>= f = option_and_then f o

-- a slice: from, to, first, days
abbrev pub slice_form : Data → Option AskedSlice
slice_form d = if has_members 4 d then (do
  from ← place_at (codes "from") d
  to ← place_at (codes "to") d
  first ← date_at (codes "first") d
  days ← whole_at (codes "days") d
  Some (record { from = from; to = to; first = first; days = days })) else None

abbrev pub has_best : Data → Bool
has_best d = is_some (get (codes "best") d)

-- the members are sale, party, slices and, where it is there, best
abbrev pub member_count : Data → ℕ
member_count d = if has_best d then 4 else 3

-- 10 where it is absent
abbrev pub best : Data → Option ℤ
best d = if has_best d then whole_at (codes "best") d else Some (pos 10)

abbrev pub terms : Data → Option Terms
terms d = if has_members (member_count d) d then (do
  sale ← date_at (codes "sale") d
  party ← whole_at (codes "party") d
  best ← best d
  Some (record { sale = sale; party = party; best = best })) else None

-- what the value asks, if it is of the form of a request
unfoldable pub asked : Data → Option Asked
asked d = do
  terms ← terms d
  items ← items_at (codes "slices") d
  slices ← each_item slice_form items
  Some (record { terms = terms; slices = slices })
