use Rattle.std.proofs.Common.{subst}
use Rattle.std.specs.Option.{MatchOption}
use Rattle.fare_law.specs.declared.filings.Action.TheVariants.{PutFare}
use Rattle.fare_law.specs.Faults.{FaultOf}
use Rattle.fare_book.specs.Drafts.{OnlyLimit}
use Rattle.fare_book.proofs.Stops.{placed_acts}
use Rattle.fare_book.proofs.fare_actions.put_fare.Goals as goal

pub returns-in-None : goal.returns-in-None
returns-in-None c =
    let x = c.args.fare.now in
    placed_acts x c.args.draft.now _ c.place_fare.result (λ b d. subst (λ o. MatchOption o (OnlyLimit b x) (FaultOf b (PutFare x))) c.in-None.is (c.fare_fault.ensures b d.rules_kept.rules_are)) c.place_fare.ensures
