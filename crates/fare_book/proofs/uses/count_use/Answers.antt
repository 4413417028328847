use Rattle.std.proofs.Common.{◌≡◌, ◌+◌, cond, ap, ◌∙◌, arith}
use Rattle.fare_book.specs.Keeping.{uses_at}
use Rattle.fare_book.specs.Keys.{same_rule}
use Rattle.fare_book.proofs.Finding.{uses_set}
use Rattle.fare_book.proofs.uses.count_use.Goals as goal

pub returns : goal.returns
returns c = λ k fits.
    let old = c.args.uses.now.entries in
    let count : c.saturating_add.result ≡ uses_at c.args.uses.now.entries c.args.rule + 1 = grind (arith, c.saturating_add.ensures, c.uses_of-count.ensures.value, fits) in
    uses_set old c.insert.new.self.entries c.args.rule c.saturating_add.result c.in_ok-insert.ensures.updates.0 k ∙ ap (λ n. cond (same_rule k c.args.rule) n (uses_at old k)) count
