-- The limits of a filing.
use Rattle.std.specs.Prelude.{ℕ, ◌≤◌, length}
use Rattle.std.specs.Int.{IsInRange}
use Rattle.fare_law.specs.declared.filings.Action.{Action}
use Rattle.fare_law.specs.declared.filings.Action.TheVariants.{PutFare, DropFare, PutRule, DropRule, PutSeats, DropSeats}
use Rattle.fare_law.specs.declared.filings.Filing.{Filing}
use Rattle.fare_law.specs.declared.limits.TheConstants.{MOST_ACTIONS}
use Rattle.fare_law.specs.Limits.{AreSeats, IsFare, IsFareKey, IsSeatKey}
use Rattle.fare_law.specs.Lists.{Each}
use Rattle.fare_law.specs.Names.{IsCarrier}
use Rattle.fare_law.specs.RuleLimits.{IsRule}

-- the number of a rule that may be put and dropped: 1 to 9999
abbrev pub IsRuleNumber : ℕ → Type 0
IsRuleNumber = IsInRange 1 9999

-- an action within its limits
abbrev pub IsAction : Action → Type 0
IsAction (PutFare fare) = IsFare fare
IsAction (DropFare key) = IsFareKey key
IsAction (PutRule carrier number rule) = IsCarrier carrier × IsRuleNumber number × IsRule rule
IsAction (DropRule carrier number) = IsCarrier carrier × IsRuleNumber number
IsAction (PutSeats key seats) = IsSeatKey key × AreSeats seats
IsAction (DropSeats key) = IsSeatKey key

-- a filing within its limits
pub record IsFiling (filing : Filing) : Type 0 where
  pub few : length filing.actions ≤ MOST_ACTIONS
  pub each : Each IsAction filing.actions
