-- Of a request within its limits only its places are still to be judged.
use Rattle.whole_case.proofs.Judgements.{known_alone, unknown_stops}
use Rattle.whole_case.proofs.requests.allowed_in.Goals as goal

pub returns-then-knows_all : goal.returns-then-knows_all
returns-then-knows_all c = known_alone c.args.book.now c.args.request.now c.knows_all.result c.requires c.knows_all.ensures c.if-knows_all.true

pub returns-else-knows_all : goal.returns-else-knows_all
returns-else-knows_all c = unknown_stops c.args.book.now c.args.line c.args.request.now c.knows_all.result c.refused_at.result c.requires c.knows_all.ensures c.if-knows_all.false c.refused_at.ensures
