use Rattle.std.proofs.Common.{◌≡◌, Err, rules, subst, sym}
use Rattle.whole_case.specs.Cases.{search_case}
use Rattle.whole_case.specs.Stages.{Reads}
use Rattle.whole_case.specs.declared.search.SearchCase.{SearchCase}
use Rattle.lowfare.specs.Answered.{ComesTo}
use Rattle.lowfare.specs.declared.case_search.Searched.TheVariants.{NoCase}
use Rattle.lowfare.proofs.SearchMakes.{right_refused}
use Rattle.lowfare.proofs.case_search.search_of.Goals as goal

-- the bytes spell no case
pub returns-in-Err-Refused : goal.returns-in-Err-Refused
returns-in-Err-Refused c =
    let spelled : ComesTo c.args.best c.args.budget c.args.at c.args.bytes (NoCase c.in-Err-Refused.refusal) =
    subst (λ f. Reads {A = SearchCase} (Err f) (search_case c.args.best c.args.at c.args.bytes)) c.in-Err-Refused.field-0-is c.in-Err-Refused.ensures in
    let is : c.no_case.result ≡ NoCase c.in-Err-Refused.refusal = search rules in
    subst (ComesTo c.args.best c.args.budget c.args.at c.args.bytes) (sym is) spelled

-- the case was searched
pub returns-in-Ok-search : goal.returns-in-Ok-search
returns-in-Ok-search c =
    let found = c.in-Ok.found in (
      c.in-Ok.ensures,
      record {
        right = c.spelled_requests_are_right.ensures.search c.args.best c.args.at c.args.bytes found c.requires.best c.in-Ok.ensures;
        few = c.in-Ok-search.ensures.fits.small;
        is = c.in-Ok-search.ensures.answer;
        meets = c.in-Ok-search.ensures.checks;
      },
    )

-- the request of a case is right
pub unreachable-requires : goal.unreachable-requires
unreachable-requires c =
    let found = c.in-Ok.found in
    let right = c.spelled_requests_are_right.ensures.search c.args.best c.args.at c.args.bytes found c.requires.best c.in-Ok.ensures in
    right_refused found.book found.request c.args.budget c.in-Err-BadRequest.field-0 c.in-Err-BadRequest.field-0-0 right c.in-Err-BadRequest.ensures.cause c.in-Err-BadRequest.field-0-is
