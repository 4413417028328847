-- What a calendar asks of a request: two slices, and so many days for each.
use Rattle.std.specs.Prelude.{◌≡◌, ◌==◌, ◌&&◌, ℕ, pos, ◌+ℤ◌, Bool, false, int_le, List, [], ◌∷◌, length, Ok, Err, if◌then◌else◌}
use Rattle.fare_law.specs.declared.requests.Request.{Request}
use Rattle.fare_law.specs.declared.requests.Slice.{Slice}
use Rattle.fare_law.specs.Requests.{within}
use Rattle.fare_law.specs.declared.limits.TheConstants.{LAST_DAY}
use Rattle.whole_case.specs.declared.refusals.Reason.TheVariants.{NotTwo, Span}
use Rattle.whole_case.specs.Refusals.{refused_at}
use Rattle.whole_case.specs.Stages.{Stage}

-- the request of this line has two slices
abbrev pub has_two : ℕ → Request → Stage (Unit {0})
has_two line request outcome = outcome ≡ (if length request.slices == 2 then Ok tt else Err (refused_at line NotTwo))

-- 1 to 31 days from the first day of the slice on, up to 2099-12-31
abbrev pub span_fits : ℕ → Slice → Bool
span_fits days slice = within 1 31 days && int_le (slice.first +ℤ pos days) (LAST_DAY +ℤ pos 1)

-- both slices have so many days
abbrev pub spans_fit : ℕ → ℕ → List Slice → Bool
spans_fit outs backs [] = false
spans_fit outs backs (out ∷ []) = false
spans_fit outs backs (out ∷ back ∷ []) = span_fits outs out && span_fits backs back
spans_fit outs backs (out ∷ back ∷ other ∷ more) = false

-- the request of this line has the days of a calendar of so many days out and so many back
abbrev pub has_spans : ℕ → ℕ → ℕ → Request → Stage (Unit {0})
has_spans outs backs line request outcome = outcome ≡ (if spans_fit outs backs request.slices then Ok tt else Err (refused_at line Span))
