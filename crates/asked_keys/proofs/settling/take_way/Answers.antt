use Rattle.std.proofs.Common.{inl, inr, sym, ◌∙◌}
use Rattle.asked_keys.proofs.TakenKeys.{key_filed}
use Rattle.fare_component.specs.Keys.{asked}
use Rattle.law_lemmas.proofs.Options.{on_ok}
use Rattle.asked_keys.proofs.settling.take_way.Goals as goal

pub take_filed-requires-clause-way : goal.take_filed-requires-clause-way
take_filed-requires-clause-way g c = (c.requires.way.0, (c.args.residual.now, c.requires.way.1))

pub take_filed-requires-2-clause-way : goal.take_filed-requires-2-clause-way
take_filed-requires-2-clause-way g c = (c.requires.way.0, (c.args.residual.now, c.requires.way.1))

pub returns-then-is_empty-clause-settled : goal.returns-then-is_empty-clause-settled
returns-then-is_empty-clause-settled g c = λ q is key k.
    let r = c.args.residual.now in
    elim (key_filed c.args.book.now q r c.args.way.now.flights key k) [
      | inl a ↦ c.in_ok-take_filed.ensures.settled q (r, is) key a
      | inr a ↦ absurd (a.0 (sym c.of.ensures ∙ c.is_empty.ensures.0 c.if-is_empty.true))
    ]

pub returns-clause-settled : goal.returns-clause-settled
returns-clause-settled g c =
    let r = c.args.residual.now in
    on_ok c.take_filed-2.result _ _ (λ back q is key k. elim (key_filed c.args.book.now q r c.args.way.now.flights key k) [
      | inl a ↦ c.take_filed-2.ensures.stays (asked key) (c.in_ok-take_filed.ensures.settled q (r, is) key a)
      | inr a ↦ back q (r, is) key a.1
    ]) c.take_filed-2.ensures.settled
