use Rattle.std.proofs.Common.{ℕ, List, refl, rules, sym, subst}
use Rattle.lowfare.specs.Lines.{IsServe}
use Rattle.lowfare.specs.Makes.{Makes}
use Rattle.lowfare.specs.declared.status.Status.TheVariants.{Usage, TooLong}
use Rattle.lowfare.proofs.Due.{complete}
use Rattle.lowfare.proofs.Finishing.{due_of, told}
use Rattle.lowfare.proofs.serve_program.serve.Goals as goal

-- the words are no command line
pub returns-in-Err-Usage-clause-says : goal.returns-in-Err-Usage-clause-says
returns-in-Err-Usage-clause-says g c =
    told IsServe Usage c.finish.result _ _ _ _ _ _ _ _ _ _ _ _ (search rules, refl, refl) c.finish.ensures.whole c.finish.ensures.front c.finish.ensures.cause

pub returns-in-Err-Usage-clause-complete : goal.returns-in-Err-Usage-clause-complete
returns-in-Err-Usage-clause-complete g c =
    complete IsServe c.one_status_is_owed.ensures _ _ _ _ _ _ _ _ _ _ _ _ (returns-in-Err-Usage-clause-says g c)

-- too many bytes came
pub returns-in-Err-TooLong-clause-says : goal.returns-in-Err-TooLong-clause-says
returns-in-Err-TooLong-clause-says g c =
    told IsServe TooLong c.finish-in-Err-TooLong.result _ _ _ _ _ _ _ _ _ _ _ _ ((c.in-Ok.command, c.in-Ok.ensures.line, search rules), search rules, refl)
    c.finish-in-Err-TooLong.ensures.whole c.finish-in-Err-TooLong.ensures.front c.finish-in-Err-TooLong.ensures.cause

pub returns-in-Err-TooLong-clause-complete : goal.returns-in-Err-TooLong-clause-complete
returns-in-Err-TooLong-clause-complete g c =
    complete IsServe c.one_status_is_owed.ensures _ _ _ _ _ _ _ _ _ _ _ _ (returns-in-Err-TooLong-clause-says g c)

-- the command made this of its input
pub returns-in-Ok-outcome_of_serve-clause-says : goal.returns-in-Ok-outcome_of_serve-clause-says
returns-in-Ok-outcome_of_serve-clause-says g c =
    let o = c.in-Ok-outcome_of_serve.made in
    told IsServe o.status c.finish-in-Ok-outcome_of_serve.result _ _ _ _ _ _ _ _ _ _ _ _
    (due_of IsServe o.status _ _ _ _ c.in-Ok-outcome_of_serve.ensures.ends (record {
      command = c.in-Ok.command;
      asked = c.in-Ok.ensures.line;
      bytes = c.in-Ok-input_of.bytes;
      input = c.in-Ok-input_of.ensures.input;
      made = subst (λ (t : List ℕ). Makes c.in-Ok.command c.in-Ok-input_of.bytes o.status t) (sym c.as_slice.ensures) c.in-Ok-outcome_of_serve.ensures.makes;
    })) c.finish-in-Ok-outcome_of_serve.ensures.whole c.finish-in-Ok-outcome_of_serve.ensures.front c.finish-in-Ok-outcome_of_serve.ensures.cause

pub returns-in-Ok-outcome_of_serve-clause-complete : goal.returns-in-Ok-outcome_of_serve-clause-complete
returns-in-Ok-outcome_of_serve-clause-complete g c =
    complete IsServe c.one_status_is_owed.ensures _ _ _ _ _ _ _ _ _ _ _ _ (returns-in-Ok-outcome_of_serve-clause-says g c)
