-- The book and the request of steps.
use Rattle.std.specs.Prelude.{◌≡◌}
use Rattle.search_steps.specs.declared.steps.SearchSteps.{SearchSteps}

-- the book and the request stay
pub record IsSameCase (s t : SearchSteps) : Type 0 where
  pub book : t.case.book.now ≡ s.case.book.now
  pub request : t.case.request.now ≡ s.case.request.now
