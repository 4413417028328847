-- What a book finds its sheets and rules by.
use Rattle.std.specs.Prelude.{Bool, ◌&&◌, ◌==◌}
use Rattle.fare_law.specs.Book.{same_carrier, same_place}
use Rattle.fare_book.specs.declared.keys.Market.{Market}
use Rattle.fare_book.specs.declared.keys.RuleKey.{RuleKey}

abbrev pub same_market : Market → Market → Bool
same_market m n = same_place m.from n.from && same_place m.to n.to

abbrev pub same_rule : RuleKey → RuleKey → Bool
same_rule k l = same_carrier k.carrier l.carrier && (k.number == l.number)
