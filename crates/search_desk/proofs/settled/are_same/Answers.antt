use Rattle.std.proofs.lemmas.Slice.Eq.{slice_eq-Decides}
use Rattle.law_lemmas.proofs.Names.{slices_tell}
use Rattle.search_desk.proofs.settled.are_same.Goals as goal

pub returns : goal.returns
returns c = slice_eq-Decides slices_tell c.args.one.now c.args.other.now c.eq.result c.eq.ensures
