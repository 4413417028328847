-- What is left of the tellers' work once each has settled.
use Rattle.std.specs.Prelude.{◌≡◌, ℕ, List, Option, IfSome}
use Rattle.fare_law.specs.Lists.{Each}
use Rattle.fare_law.specs.declared.filings.Filing.{Filing}
use Rattle.serve_desks.specs.declared.log.Entry.{Entry}
use Rattle.serve_desks.specs.Served.{Names}
use Rattle.serve_desks.specs.Terms.{Rightness, Terms}

-- each teller is asked this, and wanted no memory
abbrev pub AllAsked : {T : Type 0} → (T → Terms) → (T → ℕ) → Terms → List T → Type 0
AllAsked terms wants all ts = Each (λ t. (terms t ≡ all) × (wants t ≡ 0)) ts

-- each reply that was given is right for a beginning of these filings
abbrev pub AreGiven : Rightness → Terms → List Filing → List (Option Entry) → Type 0
AreGiven right all filings given = Each (λ o. IfSome o (Names right all filings)) given
