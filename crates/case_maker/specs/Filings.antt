-- The filing of a made case: its rules, and fares whatever was drawn for them.
use Rattle.std.specs.Prelude.{◌≡◌, ◌≢◌, ◌≤◌, ◌+◌, ◌*◌, ◌%◌, ℕ, List, [], ◌∷◌, ◌++◌, length, codes}
use Rattle.std.specs.List.{flat_map, join_with_byte}
use Rattle.case_maker.specs.Filing.{march_rule, return_rule, season_rule, weekend_rule}
use Rattle.fare_filing.specs.Compact.{fare_action}
use Rattle.fare_law.specs.declared.fares.Fare.{Fare}
use Rattle.fare_law.specs.Limits.{IsFare}
use Rattle.fare_law.specs.Lists.{Each}
use Rattle.case_maker.specs.Sections.{mx}

-- A fare of the carrier between two places, whose half is whole, by one of the four rules or by none.
pub record IsMadeFare (fare : Fare) : Type 0 where
  pub within : IsFare fare
  pub carrier : fare.key.carrier ≡ mx
  pub apart : fare.key.from ≢ fare.key.to
  pub even : fare.amount % 2 ≡ 0
  pub rule : fare.rule ≤ 4

-- the actions that put these fares, each after a comma
abbrev pub fares_text : List Fare → List ℕ
fares_text fares = flat_map (λ fare. 44 ∷ fare_action fare []) fares

-- a text that puts so many such fares at most
pub record HasFares (most : ℕ) (text : List ℕ) : Type 0 where
  pub fares : List Fare
  pub each : Each IsMadeFare fares
  pub few : length fares ≤ most
  pub text_is : text ≡ fares_text fares

-- the actions that put the four rules, with commas between
abbrev pub rules_text : List ℕ
rules_text = join_with_byte 44 (weekend_rule ∷ season_rule ∷ return_rule ∷ march_rule ∷ [])

-- the line of a filing of the four rules and of such fares
pub record IsFilingLine (size : ℕ) (line : List ℕ) : Type 0 where
  pub text : List ℕ
  pub has : HasFares (4 * size + 1) text
  pub line_is : line ≡ codes "{\"actions\":[" ++ (rules_text ++ (text ++ codes "]}"))
