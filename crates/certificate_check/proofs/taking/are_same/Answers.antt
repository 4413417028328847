use Rattle.std.proofs.lemmas.Slice.Eq.{slice_eq-Decides}
use Rattle.certificate_check.proofs.SameParts.{moves_tell}
use Rattle.certificate_check.proofs.taking.are_same.Goals as goal

pub returns : goal.returns
returns c = slice_eq-Decides moves_tell c.args.one.now c.args.other.now c.eq.result c.eq.ensures
