use Rattle.std.proofs.Common.{Some, cond, ap, ap₂, ◌∙◌}
use Rattle.std.specs.Map.{lookup}
use Rattle.fare_law.specs.Book.{same_key}
use Rattle.fare_book.proofs.FareOrder.{fare_changes, fare_found_in}
use Rattle.fare_book.proofs.tables.put_among.Goals as goal

pub returns-clause-old : goal.returns-clause-old
returns-clause-old c =
    let old = c.args.fares.now.entries in
    c.in_ok-old.ensures.old ∙ fare_found_in old c.copied.result ∙ ap (λ k. lookup (same_key k) old) c.copied.ensures

pub returns-clause-puts : goal.returns-clause-puts
returns-clause-puts c = λ key.
    let old = c.args.fares.now.entries in
    fare_changes old c.insert.new.self.entries c.copied.result (Some c.copied-2.result) c.in_ok-old.ensures.updates.0 key
    ∙ ap₂ (λ k f. cond (same_key key k) (Some f) (lookup (same_key key) old)) c.copied.ensures c.copied-2.ensures
