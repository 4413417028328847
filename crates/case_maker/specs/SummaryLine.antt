-- The one line that sums a made case up, and what its search found.
use Rattle.std.specs.Prelude.{ℕ, List, [], ◌∷◌, Option, Some, None, codes, decimal}
use Rattle.std.specs.List.{concat}
use Rattle.case_maker.specs.declared.summary.Summary.{Summary}

-- a price, or a dash where no ticket has one
abbrev pub price_word : Option ℕ → List ℕ
price_word None = codes "-"
price_word (Some price) = decimal price

abbrev pub summary_line : Summary → List ℕ
summary_line s =
    concat (codes "seed " ∷ decimal s.seed ∷ codes " size " ∷ decimal s.size ∷ codes " flights " ∷ decimal s.flights
    ∷ codes " residuals " ∷ decimal s.residuals ∷ codes " tickets " ∷ decimal s.tickets
    ∷ codes " cheapest " ∷ price_word s.cheapest ∷ codes " checked yes\n" ∷ [])
