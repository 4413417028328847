use Rattle.std.proofs.Common.{◌∙◌, sym, subst}
use Rattle.law_lemmas.proofs.LawFacts.{said_of}
use Rattle.residual_keys.specs.Residuals.{State}
use Rattle.search_steps.specs.Keys.{state}
use Rattle.search_steps.specs.Leads.{IsRoot}
use Rattle.fare_calendar.specs.FirstRuns.{IsFirstPrice}
use Rattle.fare_calendar.proofs.Shared.{least_same}
use Rattle.fare_calendar.proofs.pricing.least_price.Goals as goal

pub returns-clause-price : goal.returns-clause-price
returns-clause-price c =
    let b = c.args.steps.now.case.book.now in
    let q = c.args.steps.now.case.request.now in
    let r = c.args.request.now in
    let key = c.in_ok-key.key in
    let later = c.reached_rows.new.steps in
    let root = state later key in
    let is : IsRoot b r root = subst (λ (x : State). IsRoot b r x) (sym (c.in_ok-rows.ensures.keeps key c.in_ok-key.ensures.live).1) c.in_ok-key.ensures.root in
    let book = c.in_ok-rows.ensures.case.book ∙ c.in_ok-key.ensures.case.book in
    let request = c.in_ok-rows.ensures.case.request ∙ c.in_ok-key.ensures.case.request in
    least_same b q r root c.in_ok-price.price c.requires.shares is (said_of (λ b q. IsFirstPrice b q root c.in_ok-price.price) later.case.book.now b later.case.request.now q book request c.in_ok-price.ensures.price)
