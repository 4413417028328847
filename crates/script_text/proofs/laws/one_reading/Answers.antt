use Rattle.script_text.proofs.Single.{one_script, script_or_fault, one_fault}
use Rattle.script_text.proofs.laws.one_reading.Goals as goal

pub returns : goal.returns
returns c = record { script = one_script; either = script_or_fault; fault = one_fault }
