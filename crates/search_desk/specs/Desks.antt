-- What a desk is to a contract, and what it does beside searching.
use Rattle.std.specs.Prelude.{◌⊎◌, List}
use Rattle.fare_component.specs.Keys.{Asked, asked}
use Rattle.fare_component.specs.Offers.{HasNoOffers}
use Rattle.fare_law.specs.Book.{Book}
use Rattle.fare_law.specs.Lists.{IsPrefix}
use Rattle.fare_law.specs.declared.filings.Filing.{Filing}
use Rattle.fare_law.specs.declared.market.OfferKey.{OfferKey}
use Rattle.fare_law.specs.declared.requests.Request.{Request}
use Rattle.fare_versions.specs.Seen.{Sight}
use Rattle.node_publish.specs.Homes.{Known, Published}
use Rattle.residual_keys.specs.AskedKeys.{Keys}
use Rattle.search_core.specs.declared.outcome.SearchFault.{SearchFault}
use Rattle.search_core.specs.declared.outcome.SearchFault.TheVariants.{BadRequest, TooLarge, Mem}

-- what its watch saw and was told of, and what its pass knows
pub record DeskView : Type 0 where
  pub sight : Sight
  pub pass : Known

-- what is asked has no offers, or is published as far as the pass knows
abbrev pub IsSettled : Known → Asked → Type 0
IsSettled p a = HasNoOffers a ⊎ Published p a

-- what was settled stays so
pub record StaysSettled (before after : Known) : Type 0 where
  pub each : (a : Asked) → IsSettled before a → IsSettled after a

-- the version begins with all of these filings
pub record Has (told : List Filing) (b : Book) : Type 0 where
  pub begins : IsPrefix told b.entries

-- each key of the search of this version and request is settled with the pass
pub record AllPublished (p : Known) (b : Book) (q : Request) : Type 0 where
  pub each : (key : OfferKey) → Keys b q key → IsSettled p (asked key)

-- this holds where memory wasn't wanting
abbrev pub UnlessMem : SearchFault → Type 0 → Type 0
UnlessMem (BadRequest why) P = P
UnlessMem TooLarge P = P
UnlessMem Mem P = Unit {0}
