use Rattle.ticket_whole.proofs.OneKind.{kind_once}
use Rattle.ticket_whole.proofs.laws.one_kind.Goals as goal

pub returns : goal.returns
returns c = kind_once
