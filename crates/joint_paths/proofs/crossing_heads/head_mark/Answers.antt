use Rattle.std.proofs.Common.{◌∷◌, bit_or, sym, subst}
use Rattle.flight_paths.specs.Marks.{HasBits}
use Rattle.flight_paths.specs.Ways.{arrivals_of}
use Rattle.flight_paths.proofs.Marking.{first_bit_more}
use Rattle.joint_paths.proofs.crossing_heads.head_mark.Goals as goal

pub returns : goal.returns
returns c = λ fs m.
    let at = c.args.at.now.place in
    subst (λ x. HasBits (bit_or x c.mark_of.result) (at ∷ arrivals_of fs)) (sym c.bit_of.ensures) (first_bit_more c.mark_of.result at (arrivals_of fs) (c.mark_of.ensures fs m))
