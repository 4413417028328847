use Rattle.std.proofs.Common.{◌≡◌, ◌+◌, List, [], ◌∷◌, ◌++◌, length, sym, ap, ◌∙◌}
use Rattle.std.proofs.lemmas.List.{append_assoc, length-append}
use Rattle.fare_law.specs.declared.filings.Filing.{Filing}
use Rattle.thread_tests.specs.Invented.{with_invented}
use Rattle.thread_tests.proofs.inventing.Inventor.invent.Goals as goal

-- the filing that is made up
abbrev invented : List Filing
invented = record { actions = [] } ∷ []

pub returns-clause-seen : goal.returns-clause-seen
returns-clause-seen c =
    let old = c.args.self.now.watch.book.entries in
    let grown = c.look.ensures.seen.entries in
    let first : with_invented c.args.self.now.has_invented old ≡ old = ap (λ b. with_invented b old) c.if-self.false in (
      grown.0 ++ invented,
      ap (λ es. es ++ invented) (grown.1 ∙ ap (λ s. s.book.entries ++ grown.0) c.learn.ensures.seen) ∙ append_assoc old grown.0 invented ∙ ap (λ es. es ++ (grown.0 ++ invented)) (sym first),
    )

pub returns-clause-number : goal.returns-clause-number
returns-clause-number c =
    let new = c.look.new.self.book.entries in
    let told = c.learn.ensures.learnt in
    let seen = c.in_ok-look.ensures.learnt in
    let book = c.in_ok-look.ensures.book in
    let receipt = c.args.receipt.now.entries in (
      ap (λ n. n + 1) (c.number-number.ensures.value ∙ ap (λ b. length b.entries) (c.deref.ensures ∙ book)) ∙ sym (length-append new invented),
      (
        told.0 ++ (seen.0 ++ invented),
        ap (λ es. es ++ invented) (ap (λ b. b.entries) (sym book) ∙ seen.1 ∙ ap (λ w. w ++ seen.0) told.1 ∙ append_assoc receipt told.0 seen.0) ∙ append_assoc receipt (told.0 ++ seen.0) invented
            ∙ ap (λ w. receipt ++ w) (append_assoc told.0 seen.0 invented),
      ),
    )
