use Rattle.std.proofs.Common.{sym, ◌∙◌, arith}
use Rattle.ticket_order.proofs.ReadLabels.{labels_long, right_next, right_before, tested}
use Rattle.ticket_order.proofs.numbering.are_labels.Goals as goal

pub returns-then-labels-moves : goal.returns-then-labels-moves
returns-then-labels-moves c = (λ t. absurd (cc), λ h. absurd (c.if-labels-moves.true (labels_long _ c.args.labels.now c.args.moves.now h)))

pub returns-then-not-is_label : goal.returns-then-not-is_label
returns-then-not-is_label c =
    let ls = c.args.labels.now in
    let ms = c.args.moves.now in
    let t = tested ls ms c.loop-i.i c.index-moves-i.result (omega arith) c.loop-i-test.true c.index-moves-i.is c.is_label.result c.is_label.ensures in (
      λ t. absurd (cc),
      λ h.
          let r = right_next ls ms c.loop-i.i c.index-moves-i.result (omega arith) c.loop-i-test.true c.index-moves-i.is (c.loop-i.invariant.1 h) in
          sym c.if-not-is_label.true ∙ t.1 r.0,
    )

pub loop-i-preserved : goal.loop-i-preserved
loop-i-preserved c =
    let ls = c.args.labels.now in
    let ms = c.args.moves.now in
    let t = tested ls ms c.loop-i.i c.index-moves-i.result (omega arith) c.loop-i-test.true c.index-moves-i.is c.is_label.result c.is_label.ensures in (
      λ h. c.loop-i.invariant.0 (right_before ls ms c.loop-i.i c.index-moves-i.result (omega arith) c.loop-i-test.true c.index-moves-i.is (t.0 c.if-not-is_label.false) h),
      λ h. (right_next ls ms c.loop-i.i c.index-moves-i.result (omega arith) c.loop-i-test.true c.index-moves-i.is (c.loop-i.invariant.1 h)).1,
    )
