use Rattle.std.proofs.Common.{◌≡◌, None, IfErr, IfOk, OnOk}
use Rattle.certificate.specs.Checks.{Checks}
use Rattle.fare_component.specs.Keys.{asked}
use Rattle.fare_law.specs.declared.market.OfferKey.{OfferKey}
use Rattle.fare_law.specs.Limits.{IsRequest}
use Rattle.fare_law.specs.Requests.{judged, known_places}
use Rattle.residual_keys.specs.AskedKeys.{Keys}
use Rattle.search_core.specs.Answers.{HasCause, IsAnswer, Searchable}
use Rattle.law_lemmas.proofs.LawFacts.{said_of}
use Rattle.search_core.proofs.searching.search.Goals as goal

pub returns-clause-answer : goal.returns-clause-answer
returns-clause-answer g c = said_of (λ b q. IfOk c.searched.result (IsAnswer b q)) _ _ _ _ c.new-steps.ensures.book c.new-steps.ensures.request c.searched.ensures.answer

pub returns-clause-checks : goal.returns-clause-checks
returns-clause-checks g c = said_of (λ b q. IfOk c.searched.result (λ a. Checks a.certificate b q)) _ _ _ _ c.new-steps.ensures.book c.new-steps.ensures.request c.searched.ensures.checks

pub returns-clause-fits : goal.returns-clause-fits
returns-clause-fits g c = said_of (λ b q. OnOk c.searched.result (Searchable b q c.args.budget)) _ _ _ _ c.new-steps.ensures.book c.new-steps.ensures.request c.searched.ensures.fits

pub returns-clause-cause : goal.returns-clause-cause
returns-clause-cause g c = said_of (λ b q. IfErr c.searched.result (HasCause b q c.args.budget)) _ _ _ _ c.new-steps.ensures.book c.new-steps.ensures.request c.searched.ensures.cause

pub returns-clause-settled : goal.returns-clause-settled
returns-clause-settled g c =
    said_of (λ b q. OnOk c.searched.result ((key : OfferKey) → Keys b q key → g.O.OfferSource.settled c.searched.new.offers (asked key))) _ _ _ _ c.new-steps.ensures.book c.new-steps.ensures.request c.searched.ensures.settled
