use Rattle.std.proofs.Common.{◌≡◌, None}
use Rattle.std.proofs.lemmas.Result.{IfOk-weaker}
use Rattle.fare_law.specs.Limits.{IsRequest}
use Rattle.fare_law.specs.Requests.{judged}
use Rattle.search_core.proofs.Places.{places_formed}
use Rattle.search_core.specs.KnownPlaces.{known_rows}
use Rattle.search_core.proofs.judging.request_ok.Goals as goal

pub returns-clause-limits : goal.returns-clause-limits
returns-clause-limits c =
    let rows = c.schedule_of-schedule.result.now.places in
    let q = c.args.request.now in
    IfOk-weaker c.judge.result (λ _. judged (known_rows rows) q ≡ None) (λ _. IsRequest q) (λ _. c.requests_are_judged.ensures.known (known_rows rows) q (places_formed rows c.limits.ensures.places)) c.judge.ensures.right
