use Rattle.joint_paths.specs.Fits.{AreTailFits}
use Rattle.joint_paths.specs.Joins.{IsRoom}
use Rattle.law_lemmas.proofs.Options.{not_both, on_ok}
use Rattle.joint_paths.proofs.joining.JoinRoom.turn_to_class.Goals as goal

pub returns : goal.returns
returns c =
    let j = c.args.joint.now in
    on_ok c.turn_to.result (AreTailFits j.bucket.now j.tails.now c.turn_to.new.self) (IsRoom j _) (λ fits. record { ruled = c.requires.ruled; fits = fits; said = λ rule e. absurd (not_both c.turn_to.new.self.charges.rule rule e c.turn_to.ensures.charges) }) c.turn_to.ensures.fits
