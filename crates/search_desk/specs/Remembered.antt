-- What a desk remembers of what it searched last.
use Rattle.std.specs.Prelude.{◌≡◌, ◌≤◌, length, Option, IfSome}
use Rattle.fare_versions.specs.Seen.{Sight}
use Rattle.node_publish.specs.Homes.{Known}
use Rattle.search_desk.specs.declared.settled.Settled.{Settled}
use Rattle.search_desk.specs.Desks.{AllPublished}

-- It is of no later version than was seen, and where it is of the one that was seen last, each key of that search is settled with the pass.
pub record IsRemembered (w : Sight) (p : Known) (s : Settled) : Type 0 where
  pub seen : s.number ≤ length w.book.entries
  pub settled : s.number ≡ length w.book.entries → AllPublished p w.book s.request

abbrev pub Remembers : Sight → Known → Option Settled → Type 0
Remembers w p settled = IfSome settled (IsRemembered w p)
