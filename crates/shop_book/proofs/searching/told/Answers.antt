use Rattle.std.proofs.Common.{◌≡◌, ◌++◌, List, codes, decimal, map, rules, subst, sym}
use Rattle.answer_text.specs.Answer.{AnswerText, IsRight}
use Rattle.answer_text.specs.Lines.{Adds}
use Rattle.certificate_text.specs.CertText.{AddsCertText}
use Rattle.fare_law.specs.Lists.{Each}
use Rattle.fare_law.specs.declared.requests.Request.{Request}
use Rattle.fare_law.specs.declared.tickets.Priced.{Priced}
use Rattle.lowfare.proofs.Telling.{is_accepted, is_accepted_by_lines, tells_best}
use Rattle.shop_book.specs.Asked.{case_of}
use Rattle.shop_book.proofs.searching.told.Goals as goal

pub returns-clause-text : goal.returns-clause-text
returns-clause-text c =
    let a = c.args.answer.now in
    let head = c.into_bytes-text.result.items in
    let version : head ≡ codes "version " ++ (decimal a.number ++ codes "\n") = search rules in
    let mid = c.push_answer_text.new.text.items in
    let found = case_of c.args.book.now c.args.request.now in
    tells_best found a head mid c.from_vec.result c.requires.answer.is c.requires.answer.meets version
    (subst (λ (ts : List Priced). (q : Request) → Each (IsRight found.book q) ts → Adds (AnswerText found.book q (map (λ (p : Priced). p.ticket) ts)) head mid) c.as_slice.ensures c.in_ok-push_answer_text.ensures)
    (subst (AddsCertText a.certificate mid) (sym c.from_vec.ensures) c.in_ok-push_cert_text.ensures)
    (is_accepted found a.certificate c.args.budget (c.searches_are_accepted.ensures.text found c.tell_kept.ensures c.requires.limits) c.requires.fits c.requires.answer.few c.requires.answer.is.certificate)
    (is_accepted_by_lines found a.certificate c.args.budget (c.searches_are_accepted.ensures.lines found c.tell_kept.ensures c.requires.limits) c.requires.fits c.requires.answer.few c.requires.answer.is.certificate)
