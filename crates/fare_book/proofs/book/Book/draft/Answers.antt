use Rattle.std.proofs.Common.{subst}
use Rattle.std.specs.Arc.{arc_value}
use Rattle.std.proofs.lemmas.Map.Entries.{entries_from_clone}
use Rattle.fare_book.specs.Keeping.{Keeps}
use Rattle.fare_book.proofs.Versions.{draft_keeps}
use Rattle.fare_book.proofs.book.Book.draft.Goals as goal

pub returns : goal.returns
returns c =
    let inside = c.self.inside in
    draft_keeps c.args.self.now _ inside.sheets.entries inside.rules.entries inside.uses.entries (arc_value inside.seats)
    (subst (λ v. Keeps v inside.sheets.entries inside.rules.entries inside.uses.entries inside.fare_count inside.rule_count (arc_value inside.seats)) c.self.view_is c.self.invariant)
    c.in_ok-sheets.ensures.cases c.in_ok-rules.ensures.cases (entries_from_clone _ _ (λ x y e. e) (λ v w e. e) inside.uses.entries c.in_ok-uses.uses.entries c.in_ok-uses.ensures.cases) c.in_ok-seats.ensures c.new.ensures.empty c.new-2.ensures.empty
