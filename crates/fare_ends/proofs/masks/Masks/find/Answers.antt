use Rattle.std.proofs.Common.{ap, option_copied, slice_get, sym, ◌∙◌}
use Rattle.fare_ends.proofs.MaskFacts.{no_mask}
use Rattle.fare_ends.proofs.masks.Masks.find.Goals as goal

pub add-requires-clause-flight : goal.add-requires-clause-flight
add-requires-clause-flight c =
    let n = c.args.number in
    ap (λ l. slice_get l n) (c.schedule_of.ensures.flights ∙ sym c.flights-all.ensures.flights) ∙ sym c.flight_of.ensures ∙ ap option_copied c.in-Some.is

pub returns-in-None-clause-mask : goal.returns-in-None-clause-mask
returns-in-None-clause-mask c =
    let n = c.args.number in
    no_mask c.args.book.now c.args.request.now n 0 (ap (λ l. slice_get l n) (c.schedule_of.ensures.flights ∙ sym c.flights-all.ensures.flights) ∙ sym c.flight_of.ensures ∙ ap option_copied c.in-None.is)
