use Rattle.std.proofs.Common.{◌≡◌, ◌++◌, length, sym, ap, subst, ◌∙◌, arith}
use Rattle.fare_ends.specs.Ends.{IsOneOfEnd}
use Rattle.fare_ends.proofs.EndFacts.{end_made}
use Rattle.fare_law.specs.Lists.{Each}
use Rattle.law_lemmas.proofs.Lists.{prefix_self}
use Rattle.fare_ends.proofs.ends.FareEnds.add_groups.Goals as goal

pub returns-clause-end : goal.returns-clause-end
returns-clause-end c =
    let b = c.args.case.now.book.now in
    let key = c.args.key in
    let one = c.add_way.new.self in
    let two = c.add_way-2.new.self in
    let found = c.add_way-2.new.found.items in
    let sorted = c.sort_unstable_by_key.new.self.items in
    let none = subst (Each (IsOneOfEnd b key c.args.self.now)) (sym c.new-found.ensures.items) tt in
    let joined : c.extend_from_slice.new.self.items ≡ two.groups.items ++ sorted = c.in_ok-extend_from_slice.ensures.items ∙ ap (λ xs. two.groups.items ++ xs) c.as_slice.ensures.value in
    let from : c.len-from.result ≡ length two.groups.items = omega (arith, c.len-from.ensures) in
    let to : c.len.result ≡ length c.extend_from_slice.new.self.items = omega (arith, c.len.ensures) in
    end_made b key one two _ c.add_way.new.found.items found sorted c.len-from.result c.len.result c.in_ok-add_way.ensures.way c.add_way-2.ensures.grows.more c.add_way-2.ensures.found c.in_ok-add_way-2.ensures.way
    (c.add_way-2.ensures.each (c.add_way.ensures.each none)) c.sort_unstable_by_key.ensures.permutation (record { groups = (sorted, joined); rungs = prefix_self two.rungs.items; rules = prefix_self two.rules.of.items }) joined from to
