use Rattle.std.proofs.Common.{List, subst}
use Rattle.fare_ends.specs.declared.ends.KeptEnd.{KeptEnd}
use Rattle.fare_ends.specs.Ends.{IsFareEnd}
use Rattle.fare_law.specs.Lists.{IsIn}
use Rattle.law_lemmas.proofs.EachOne.{each_in}
use Rattle.fare_ends.proofs.ends.FareEnds.find.Goals as goal

pub returns-in-Some-clause-end : goal.returns-in-Some-clause-end
returns-in-Some-clause-end c =
    let self = c.args.self.now in
    let kept : KeptEnd = record { key = c.args.key; end = c.in-Some.end } in
    each_in (λ (k : KeptEnd). IsFareEnd c.args.case.now.book.now k.key self k.end) self.ends.items kept c.requires.ends.ends (subst (λ (xs : List KeptEnd). IsIn kept xs) c.as_slice.ensures.value c.in-Some.ensures)
