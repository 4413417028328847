use Rattle.std.proofs.Common.{◌++◌, [], ◌∷◌, List, ap, ◌∙◌}
use Rattle.fare_ends.specs.declared.ends.KeptEnd.{KeptEnd}
use Rattle.fare_ends.proofs.EndFacts.{end_more, ends_added, kept_on}
use Rattle.law_lemmas.proofs.Lists.{prefix_self}
use Rattle.fare_ends.proofs.ends.FareEnds.add.Goals as goal

pub returns-in_err-end-clause-ends : goal.returns-in_err-end-clause-ends
returns-in_err-end-clause-ends c = kept_on c.args.case.now.book.now c.args.self.now c.add_groups.new.self c.requires.ends c.add_groups.ensures.grows c.add_groups.ensures.rules

pub returns-in_err-insert-clause-ends : goal.returns-in_err-insert-clause-ends
returns-in_err-insert-clause-ends c =
    let k = c.add_groups.ensures.grows in
    kept_on c.args.case.now.book.now c.args.self.now _ c.requires.ends (record { more = record { groups = k.more.groups; rungs = k.more.rungs; rules = k.more.rules }; ends = k.ends }) c.add_groups.ensures.rules

pub returns-in_err-push-clause-ends : goal.returns-in_err-push-clause-ends
returns-in_err-push-clause-ends c =
    let k = c.add_groups.ensures.grows in
    kept_on c.args.case.now.book.now c.args.self.now _ c.requires.ends (record { more = record { groups = k.more.groups; rungs = k.more.rungs; rules = k.more.rules }; ends = c.in_err-push.ensures.items ∙ k.ends }) c.add_groups.ensures.rules

pub returns-clause-end : goal.returns-clause-end
returns-clause-end c =
    let s = c.add_groups.new.self in
    end_more c.args.case.now.book.now c.args.key s _ (record { groups = prefix_self s.groups.items; rungs = prefix_self s.rungs.items; rules = prefix_self s.rules.of.items }) c.in_ok-end.end c.in_ok-end.ensures.end

pub returns-clause-ends : goal.returns-clause-ends
returns-clause-ends c =
    let k = c.add_groups.ensures.grows in
    ends_added c.args.case.now.book.now c.args.self.now _ c.args.key c.in_ok-end.end c.requires.ends (record { groups = k.more.groups; rungs = k.more.rungs; rules = k.more.rules }) c.add_groups.ensures.rules (returns-clause-end c)
    (c.in_ok-push.ensures.items ∙ ap (λ (xs : List KeptEnd). xs ++ record { key = c.args.key; end = c.in_ok-end.end } ∷ []) k.ends)
