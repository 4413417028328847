use Rattle.fare_law.proofs.Judged.{judged_within, within_judged, known_within}
use Rattle.fare_law.proofs.laws.requests_are_judged.Goals as goal

pub returns : goal.returns
returns c = record { limits = judged_within; allowed = within_judged; known = known_within }
