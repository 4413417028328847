use Rattle.std.proofs.Common.{◌≡◌, IfOk, rules}
use Rattle.whole_case.specs.ServeCases.{serve_case}
use Rattle.whole_case.specs.Texts.{refusal_text}
use Rattle.program_words.specs.declared.commands.Command.TheVariants.{Serve}
use Rattle.lowfare.specs.Makes.{Makes}
use Rattle.lowfare.proofs.ServeMakes.{served_made}
use Rattle.lowfare.proofs.Refusing.{refused_ends}
use Rattle.lowfare.proofs.service.case_served.Goals as goal

-- the bytes spell no case
pub returns-in-Err-Refused-clause-makes : goal.returns-in-Err-Refused-clause-makes
returns-in-Err-Refused-clause-makes g c =
    let text : IfOk c.refused.result (λ o. o.text ≡ refusal_text c.in-Err-Refused.refusal) = search rules in
    refused_ends (serve_case c.args.best c.args.bytes) (Makes (Serve c.args.best c.args.budget) c.args.bytes) (λ t h. h)
    c.refused.result c.in-Err-Refused.field-0 c.in-Err-Refused.refusal c.in-Err-Refused.ensures.case c.in-Err-Refused.field-0-is c.refused.ensures.status text

-- the run is told
pub returns-clause-makes : goal.returns-clause-makes
returns-clause-makes g c =
    served_made c.args.best c.args.budget c.args.bytes c.served_case.result c.in-Ok.found c.in-Ok.ensures.case c.served_case.ensures.status c.served_case.ensures.text

-- the requests of a case that is spelled are right
pub served_case-requires-clause-asks : goal.served_case-requires-clause-asks
served_case-requires-clause-asks g c κs within =
    c.spelled_asks_are_right.ensures c.args.best c.args.bytes c.in-Ok.found c.requires.best c.in-Ok.ensures.case
