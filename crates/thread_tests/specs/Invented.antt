-- What a teller sees that makes up a filing.
use Rattle.std.specs.Prelude.{Bool, true, false, List, [], ◌∷◌, ◌++◌}
use Rattle.fare_law.specs.declared.filings.Filing.{Filing}

-- these filings, with one of no action behind them where it is made up
abbrev pub with_invented : Bool → List Filing → List Filing
with_invented false entries = entries
with_invented true entries = entries ++ record { actions = [] } ∷ []
