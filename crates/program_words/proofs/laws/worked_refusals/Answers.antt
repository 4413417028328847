use Rattle.std.proofs.Common.{refl}
use Rattle.clap.proofs.OnLiterals.{clap_on_literals}
use Rattle.program_words.proofs.laws.worked_refusals.Goals as goal

pub returns-clause-nothing : goal.returns-clause-nothing
unfolding clap_on_literals
returns-clause-nothing c = refl

pub returns-clause-low : goal.returns-clause-low
unfolding clap_on_literals
returns-clause-low c = refl

pub returns-clause-high : goal.returns-clause-high
unfolding clap_on_literals
returns-clause-high c = refl

pub returns-clause-long : goal.returns-clause-long
unfolding clap_on_literals
returns-clause-long c = refl

pub returns-clause-sign : goal.returns-clause-sign
unfolding clap_on_literals
returns-clause-sign c = refl

pub returns-clause-empty : goal.returns-clause-empty
unfolding clap_on_literals
returns-clause-empty c = refl

pub returns-clause-great : goal.returns-clause-great
unfolding clap_on_literals
returns-clause-great c = refl

pub returns-clause-second : goal.returns-clause-second
unfolding clap_on_literals
returns-clause-second c = refl

pub returns-clause-repeated : goal.returns-clause-repeated
unfolding clap_on_literals
returns-clause-repeated c = refl

pub returns-clause-lacking : goal.returns-clause-lacking
unfolding clap_on_literals
returns-clause-lacking c = refl

pub returns-clause-other : goal.returns-clause-other
unfolding clap_on_literals
returns-clause-other c = refl

pub returns-clause-summary : goal.returns-clause-summary
unfolding clap_on_literals
returns-clause-summary c = refl

pub returns-clause-unknown : goal.returns-clause-unknown
unfolding clap_on_literals
returns-clause-unknown c = refl

pub returns-clause-help : goal.returns-clause-help
unfolding clap_on_literals
returns-clause-help c = refl

pub returns-clause-dangling : goal.returns-clause-dangling
unfolding clap_on_literals
returns-clause-dangling c = refl
