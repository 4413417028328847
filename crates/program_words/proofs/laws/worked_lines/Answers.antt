use Rattle.std.proofs.Common.{refl}
use Rattle.clap.proofs.OnLiterals.{clap_on_literals}
use Rattle.program_words.proofs.laws.worked_lines.Goals as goal

pub returns-clause-equals : goal.returns-clause-equals
unfolding clap_on_literals
returns-clause-equals c = refl

pub returns-clause-apart : goal.returns-clause-apart
unfolding clap_on_literals
returns-clause-apart c = refl

pub returns-clause-dashes : goal.returns-clause-dashes
unfolding clap_on_literals
returns-clause-dashes c = refl

pub returns-clause-all : goal.returns-clause-all
unfolding clap_on_literals
returns-clause-all c = refl

pub returns-clause-padded : goal.returns-clause-padded
unfolding clap_on_literals
returns-clause-padded c = refl

pub returns-clause-make : goal.returns-clause-make
unfolding clap_on_literals
returns-clause-make c = refl

pub returns-clause-serve : goal.returns-clause-serve
unfolding clap_on_literals
returns-clause-serve c = refl

pub returns-clause-calendar : goal.returns-clause-calendar
unfolding clap_on_literals
returns-clause-calendar c = refl

pub returns-clause-verdict : goal.returns-clause-verdict
unfolding clap_on_literals
returns-clause-verdict c = refl
