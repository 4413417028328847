use Rattle.std.proofs.Common.{sym, ◌∙◌, ap, length}
use Rattle.fare_versions.proofs.AddingSteps.{adds_moves}
use Rattle.fare_versions.proofs.log.added.Goals as goal

pub compare_exchange-found-requires : goal.compare_exchange-found-requires
compare_exchange-found-requires c =
    let h = c.requires.word in
    let offer = c.plain-offer.ensures in
    let pen = c.no_pen-pen.ensures in
    let same = ap (λ s. s.book) c.again-seen.ensures ∙ ap (λ s. s.house) c.front.view_is ∙ sym (ap (λ w. w.book) h) in (
      ap (λ w. w.tracked) h,
      same,
      pen.0 ∙ same,
      offer.0,
      rw (ap (λ w. w.key) h, pen.1, offer.1, offer.3) (adds_moves c.again-seen.result.log c.args.filing.now c.front.inside.count (ap (λ s. length s.log) c.again-seen.ensures ∙ sym c.front.invariant)),
    )
