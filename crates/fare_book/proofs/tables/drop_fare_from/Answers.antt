use Rattle.std.proofs.Common.{None, cond, ap, sym, ◌∙◌}
use Rattle.std.specs.Map.{lookup}
use Rattle.fare_law.specs.Book.{same_key}
use Rattle.fare_book.specs.Tables.{fares_in}
use Rattle.fare_book.proofs.FareOrder.{fare_changes, fare_found_in}
use Rattle.fare_book.proofs.tables.drop_fare_from.Goals as goal

pub returns-in-Many-clause-old : goal.returns-in-Many-clause-old
returns-in-Many-clause-old c =
    let key = c.args.key.now in
    c.remove.ensures.value ∙ fare_found_in c.in-Many.fares.entries key ∙ ap (λ t. lookup (same_key key) (fares_in t)) (sym c.in-Many.is)

pub returns-in-Many-clause-drops : goal.returns-in-Many-clause-drops
returns-in-Many-clause-drops c = λ k.
    fare_changes c.in-Many.fares.entries c.remove.new.self.entries c.args.key.now None c.remove.ensures.updates.0 k
    ∙ ap (λ t. cond (same_key k c.args.key.now) None (lookup (same_key k) (fares_in t))) (sym c.in-Many.is)
