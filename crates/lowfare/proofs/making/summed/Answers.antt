use Rattle.std.proofs.Common.{◌≡◌, arith, rules}
use Rattle.case_maker.specs.SummaryLine.{summary_line}
use Rattle.lowfare.specs.Made.{summary_of}
use Rattle.lowfare.proofs.Summing.{few_rows, not_no, sums_up}
use Rattle.lowfare.proofs.making.summed.Goals as goal

-- the certificate has few rows
pub check-requires-clause-rows : goal.check-requires-clause-rows
check-requires-clause-rows c =
    let a = c.args.answer.now in
    let found = c.args.found.now in
    let few = few_rows found.book found.request 100000 a.certificate.rows c.requires.is.certificate.rows (c.one_size.ensures.more found.book found.request) c.requires.few in
    omega (arith, few)

-- the certificate of a search meets the checks
pub unreachable-requires : goal.unreachable-requires
unreachable-requires c =
    let a = c.args.answer.now in
    let found = c.args.found.now in
    not_no a.certificate found.book found.request (c.one_failure.ensures a.certificate found.book found.request) c.requires.meets c.in_ok-verdict.verdict c.in_ok-verdict.ensures c.in-No.is

pub returns-clause-text : goal.returns-clause-text
returns-clause-text c =
    let whole : c.in_ok-text.text ≡ summary_line (summary_of c.args.seed c.args.size c.args.found.now c.args.answer.now) = search rules in
    sums_up c.args.seed c.args.size 100000 c.args.found.now c.args.answer.now c.in_ok-text.text c.requires whole
