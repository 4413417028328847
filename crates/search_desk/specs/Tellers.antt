-- What a teller is to a contract.
use Rattle.std.specs.Prelude.{◌≡◌, ℕ, List, None}
use Rattle.fare_law.specs.Book.{Book}
use Rattle.fare_law.specs.Lists.{Each}
use Rattle.fare_law.specs.Requests.{judged, known_places}
use Rattle.fare_versions.specs.Seen.{Sight}
use Rattle.serve_desks.specs.declared.workload.Ask.{Ask}

-- what its desk saw and was told of, what it is asked, and at how many questions it wanted memory
pub record TellerView : Type 0 where
  pub sight : Sight
  pub asks : List Ask
  pub wants : ℕ

-- each ask has a request that is refused for no reason, whatever was filed
abbrev pub AreAllowed : Book → List Ask → Type 0
AreAllowed b asks = Each (λ ask. judged (known_places b) ask.request ≡ None) asks
