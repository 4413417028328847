-- What ended with a status, and with a text of a kind, is what is made with that status.
use Rattle.std.proofs.Common.{◌≡◌, ℕ, List, Result, Ok, Err, IfOk, sym, subst}
use Rattle.fare_law.specs.declared.mem.Mem.{Mem}
use Rattle.lowfare.specs.declared.outcomes.Outcome.{Outcome}
use Rattle.lowfare.specs.declared.status.Status.{Status}

pub ends_with : (r : Result Outcome Mem) (due : Status) (Text : List ℕ → Type 0) (Made : Status → List ℕ → Type 0) → ((text : List ℕ) → Text text → Made due text)
    → IfOk r (λ o. o.status ≡ due) → IfOk r (λ o. Text o.text) → IfOk r (λ o. Made o.status o.text)
ends_with (Ok o) due Text Made made is text = subst (λ s. Made s o.text) (sym is) (made o.text text)
ends_with (Err e) due Text Made made is text = tt
