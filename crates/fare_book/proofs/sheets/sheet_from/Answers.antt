use Rattle.std.proofs.Common.{ap, subst, ◌∙◌}
use Rattle.fare_book.specs.Ready.{MakesSheet}
use Rattle.fare_book.specs.Tables.{fares_in}
use Rattle.fare_book.proofs.Placing.{none_left, none_right}
use Rattle.fare_book.proofs.sheets.sheet_from.Goals as goal

pub returns-then-is_empty : goal.returns-then-is_empty
returns-then-is_empty c = λ b makes.
    let entries = c.in-Many.fares.entries in
    none_right b c.args.market (fares_in c.args.table.now) (ap fares_in c.in-Many.is ∙ none_left entries (c.is_empty.ensures.0 c.if-is_empty.true)) makes.table_is

pub returns-in_ok-sheet_of_one-in-One : goal.returns-in_ok-sheet_of_one-in-One
returns-in_ok-sheet_of_one-in-One c = λ b makes.
    c.in_ok-sheet_of_one-in-One.ensures b (subst (λ t. MakesSheet b c.args.market (fares_in t) c.args.rules.now.entries) c.in-One.is makes)

pub returns-in_ok-sheet_of-in-Many : goal.returns-in_ok-sheet_of-in-Many
returns-in_ok-sheet_of-in-Many c = λ b makes.
    c.in_ok-sheet_of-in-Many.ensures b (subst (λ t. MakesSheet b c.args.market (fares_in t) c.args.rules.now.entries) c.in-Many.is makes)
