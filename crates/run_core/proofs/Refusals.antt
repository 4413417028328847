-- Why a desk doesn't answer, by what it asked first. For `World::answer`.
use Rattle.std.proofs.Common.{ℕ}
use Rattle.fare_law.specs.declared.requests.Request.{Request}
use Rattle.fare_law.specs.Book.{Book}
use Rattle.run_core.specs.Causes.{IsRefusedAnswer, IsRefusedSearch, IsUnseen}
use Rattle.run_core.specs.Worlds.{Sees, WorldView}
use Rattle.run_core.specs.declared.fault.StepFault.{StepFault}
use Rattle.run_core.specs.declared.fault.StepFault.TheVariants.{NoDesk, NotNow, BadFiling, BadSearch, Mem}

pub by_sight : (w : WorldView) (desk : ℕ) (q : Request) (fault : StepFault) → IsUnseen w desk fault → IsRefusedAnswer w desk q fault
by_sight w desk q NoDesk h = h
by_sight w desk q NotNow h = h
by_sight w desk q Mem h = tt
by_sight w desk q (BadFiling r) h = absurd h
by_sight w desk q (BadSearch why) h = absurd h

pub by_search : (w : WorldView) (desk : ℕ) (b : Book) (q : Request) (fault : StepFault) → Sees w desk b → IsRefusedSearch b q fault → IsRefusedAnswer w desk q fault
by_search w desk b q (BadSearch why) seen h = record { version = b; seen = seen; wrong = h }
by_search w desk b q Mem seen h = tt
by_search w desk b q NoDesk seen h = absurd h
by_search w desk b q NotNow seen h = absurd h
by_search w desk b q (BadFiling r) seen h = absurd h
