use Rattle.std.proofs.Common.{◌∙◌, ap, ◌++◌}
use Rattle.certificate_text.proofs.RowLemmas.{one_added, second_within, two_added}
use Rattle.certificate_text.proofs.row_texts.push_units.Goals as goal

pub returns-then-second-eq0 : goal.returns-then-second-eq0
returns-then-second-eq0 c us xs texts is =
    one_added us xs c.args.units.now c.args.first c.args.second c.args.text.now.items c.extend_from_slice.new.self.items c.index-units-first.result texts is c.if-first-eq0.false c.if-second-eq0.true
    c.index-units-first.is (c.in_ok-extend_from_slice.ensures.items ∙ ap (λ w. c.args.text.now.items ++ w) c.as_slice.ensures)

pub bounds-units-second : goal.bounds-units-second
bounds-units-second c = second_within c.requires.0 c.requires.1 c.args.units.now c.args.first c.args.second c.requires.2 c.requires.3 c.if-second-eq0.false

pub returns : goal.returns
returns c us xs texts is =
    two_added us xs c.args.units.now c.args.first c.args.second c.args.text.now.items c.extend_from_slice.new.self.items c.push-2.new.self.items c.extend_from_slice-2.new.self.items
    c.index-units-first.result c.index-units-second.result texts is c.if-second-eq0.false c.index-units-first.is c.index-units-second.is
    (c.in_ok-extend_from_slice.ensures.items ∙ ap (λ w. c.args.text.now.items ++ w) c.as_slice.ensures)
    c.in_ok-push-2.ensures.items
    (c.in_ok-extend_from_slice-2.ensures.items ∙ ap (λ w. c.push-2.new.self.items ++ w) c.as_slice-2.ensures)
