-- The live fares of a market while actions are taken: its table, or its sheet where no action touches it.
use Rattle.std.specs.Prelude.{◌≡◌, ◌≢◌, ◌⊎◌, ℕ, Bool, ◌&&◌, cond, List, [], ◌∷◌, Option, Some, None, MatchOption, IsTrue}
use Rattle.std.specs.List.{list_any}
use Rattle.std.specs.Map.{lookup}
use Rattle.std.specs.declared.sync.Arc.{Arc}
use Rattle.fare_law.specs.declared.fares.Fare.{Fare}
use Rattle.fare_law.specs.declared.fares.FareKey.{FareKey}
use Rattle.fare_law.specs.declared.filings.SeatKey.{SeatKey}
use Rattle.fare_law.specs.declared.names.Carrier.{Carrier}
use Rattle.fare_law.specs.declared.rules.Rule.{Rule}
use Rattle.fare_law.specs.declared.sheets.SheetRow.{SheetRow}
use Rattle.fare_law.specs.Book.{same_key, same_place}
use Rattle.fare_law.specs.Lists.{EachPair, IsIn}
use Rattle.fare_law.specs.Sheets.{RowBefore, Sheet}
use Rattle.fare_book.specs.Keeping.{sheet_at}
use Rattle.fare_book.specs.Keys.{same_market, same_rule}
use Rattle.fare_book.specs.declared.fare_table.FareTable.{FareTable}
use Rattle.fare_book.specs.declared.fare_table.FareTable.TheVariants.{One, Many}
use Rattle.fare_book.specs.declared.keys.Market.{Market}
use Rattle.fare_book.specs.declared.keys.RuleKey.{RuleKey}

-- the rule that a fare names
abbrev pub rule_of : Fare → RuleKey
rule_of fare = record { carrier = fare.key.carrier; number = fare.rule }

-- the key is of the market
abbrev pub in_market : Market → FareKey → Bool
in_market m key = same_place m.from key.from && same_place m.to key.to

-- In what follows `fare`, `rule` and `seats` give what is live.
abbrev pub Fares : Type 0
Fares = FareKey → Option Fare

abbrev pub LiveRules : Type 0
LiveRules = Carrier → ℕ → Option Rule

abbrev pub LiveSeats : Type 0
LiveSeats = SeatKey → Option (List ℕ)

-- each fare is found by its own key
abbrev pub AreKeyed : Fares → Type 0
AreKeyed fare = (key : FareKey) (f : Fare) → fare key ≡ Some f → key ≡ f.key

-- the fares of a table, each with its key
abbrev pub fares_in : FareTable → List (FareKey × Fare)
fares_in (One fare) = (fare.key, fare) ∷ []
fares_in (Many fares) = fares.entries

-- the table has the live fares of the market
abbrev pub TableOf : Fares → Market → List (FareKey × Fare) → Type 0
TableOf fare m table = (key : FareKey) → lookup (same_key key) table ≡ cond (in_market m key) (fare key) None

-- no fare of the market is live
abbrev pub NoneOf : Fares → Market → Type 0
NoneOf fare m = (key : FareKey) → key.from ≡ m.from → key.to ≡ m.to → fare key ≡ None

-- the row has a live fare of the market, with its live rule unless that was changed
pub record IsOldRow (fare : Fares) (rule : LiveRules) (changed : List RuleKey) (m : Market) (row : SheetRow) : Type 0 where
  pub filed_from : row.fare.key.from ≡ m.from
  pub filed_to : row.fare.key.to ≡ m.to
  pub live : fare row.fare.key ≡ Some row.fare
  pub rule_is : (rule row.fare.key.carrier row.fare.rule ≡ Some row.rule) ⊎ IsTrue (list_any (same_rule (rule_of row.fare)) changed)

-- the sheet has the live fares of its market, with their rules as they were before the changes
pub record OldSheet (fare : Fares) (rule : LiveRules) (changed : List RuleKey) (m : Market) (sheet : Sheet) : Type 0 where
  pub filed_from : sheet.from ≡ m.from
  pub filed_to : sheet.to ≡ m.to
  pub some : sheet.rows ≢ []
  pub ascending : EachPair RowBefore sheet.rows
  pub rows_are : (row : SheetRow) → IsIn row sheet.rows → IsOldRow fare rule changed m row
  pub all : (key : FareKey) (f : Fare) → fare key ≡ Some f → key.from ≡ m.from → key.to ≡ m.to → (row : SheetRow) × IsIn row sheet.rows × (row.fare ≡ f)

-- a market that isn't touched has its sheet
abbrev pub Untouched : Fares → LiveRules → List RuleKey → Market → Option Sheet → Type 0
Untouched fare rule changed m sheet = MatchOption sheet (NoneOf fare m) (OldSheet fare rule changed m)

module _ {Z : Type 0} where
  -- a market that is touched has its table
  abbrev pub MarketHolds : Fares → LiveRules → List RuleKey → List (Market × Arc Sheet Z) → List (Market × FareTable) → Market → Type 0
  MarketHolds fare rule changed sheets tables m = MatchOption (lookup (same_market m) tables) (Untouched fare rule changed m (sheet_at sheets m)) (λ table. TableOf fare m (fares_in table))

-- the live fare of this key names the rule
abbrev pub NamesRule : Fares → RuleKey → FareKey → Type 0
NamesRule fare r key = (f : Fare) × (fare key ≡ Some f) × (key.carrier ≡ r.carrier) × (f.rule ≡ r.number)

-- the tables come to have this at the key, and what was there is told
abbrev pub Changes : {Z : Type 0} → List (Market × Arc Sheet Z) → (old new : List (Market × FareTable)) → FareKey → (after was : Option Fare) → Type 0
Changes sheets old new key after was =
    (f g : Fares) (rule : LiveRules) (changed : List RuleKey) → AreKeyed f → ((m : Market) → MarketHolds f rule changed sheets old m) → ((q : FareKey) → g q ≡ cond (same_key q key) after (f q))
    → (was ≡ f key) × ((m : Market) → MarketHolds g rule changed sheets new m)
