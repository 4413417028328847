-- The text of a request: compact, with members ascending by name.
use Rattle.std.specs.Prelude.{◌≡◌, ℕ, List, [], ◌∷◌, Some, codes}
use Rattle.serde_json.specs.Data.{Data, Items, number, unsigned, string, array, object, member, no_members, no_items, item}
use Rattle.serde_json.specs.Written.{compact_text}
use Rattle.fare_law.specs.declared.requests.Request.{Request}
use Rattle.fare_law.specs.declared.requests.Slice.{Slice}
use Rattle.market_time.specs.Dates.{day_spelled}

abbrev pub slice_members : ℕ → List ℕ → List ℕ → List ℕ → Data
slice_members days first from to =
    object (member (codes "days") (number (unsigned days)) (member (codes "first") (string first)
    (member (codes "from") (string from) (member (codes "to") (string to) no_members))))

abbrev pub request_members : ℕ → ℕ → List ℕ → Data → Data
request_members best party sale slices =
    object (member (codes "best") (number (unsigned best)) (member (codes "party") (number (unsigned party))
    (member (codes "sale") (string sale) (member (codes "slices") slices no_members))))

-- the slice as JSON, with the date of its first day
pub record WritesSlice (s : Slice) (d : Data) : Type 0 where
  pub date : List ℕ
  pub day : day_spelled date ≡ Some s.first
  pub written : d ≡ slice_members s.days date s.from.0 s.to.0

-- the slices as JSON, in their order
abbrev pub WritesSlices : List Slice → Items → Type 0
WritesSlices [] no_items = Unit {0}
WritesSlices [] (item d ds) = ⊥
WritesSlices (s ∷ ss) no_items = ⊥
WritesSlices (s ∷ ss) (item d ds) = WritesSlice s d × WritesSlices ss ds

-- the request as JSON, with the date of its day of sale
pub record WritesRequest (q : Request) (d : Data) : Type 0 where
  pub date : List ℕ
  pub items : Items
  pub day : day_spelled date ≡ Some q.sale
  pub slices : WritesSlices q.slices items
  pub written : d ≡ request_members q.best q.party date (array items)

-- the compact text of such JSON
pub record Writes (q : Request) (text : List ℕ) : Type 0 where
  pub json : Data
  pub request : WritesRequest q json
  pub compact : text ≡ compact_text json
