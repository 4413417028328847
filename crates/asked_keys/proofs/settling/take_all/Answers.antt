use Rattle.std.proofs.Common.{List, [], ◌∷◌, ℕ, refl, subst, sym, inl, inr, ◌∙◌}
use Rattle.std.proofs.lemmas.List.{take_all}
use Rattle.asked_keys.proofs.OneFlight.{begins_there, below_by, first_or, key_by}
use Rattle.fare_component.specs.Keys.{asked}
use Rattle.fare_law.specs.Lists.{IsIn, OnFirst}
use Rattle.residual_keys.specs.AskedKeys.{KeyOf}
use Rattle.residual_keys.specs.Residuals.{State}
use Rattle.schedule_book.specs.Departures.{AreDepartures}
use Rattle.law_lemmas.proofs.Members.{read_in}
use Rattle.asked_keys.proofs.settling.take_all.Goals as goal

pub loop-number-init : goal.loop-number-init
loop-number-init g c = record { network = c.requires.network; base = refl; stays = λ a h. h; settled = λ key k first. absurd (none k.numbers first) }
  where
    none : (ns : List ℕ) → OnFirst (λ m. IsIn m []) ns → ⊥
    none [] h = h
    none (n ∷ ns) h = h

pub begun_by-one-requires : goal.begun_by-one-requires
begun_by-one-requires g c =
    let items = c.from_place-number-items.result.now in
    let is = (c.from_place-number-items.ensures.are _).0 (read_in items c.loop-number.number-index _ _ c.loop-number-test.true refl) in
    below_by _ _ c.residual.view_is _ is.1

pub loop-number-preserved : goal.loop-number-preserved
loop-number-preserved g c =
    let b = c.args.book.now in
    let q = c.args.request.now in
    let r = c.args.residual.now in
    let items = c.from_place-number-items.result.now in
    let before = c.loop-number.invariant in
    let now = c.in_ok-take_keys.ensures in
    record {
      network = now.network;
      base = now.base ∙ before.base;
      stays = λ a h. now.stays a (before.stays a h);
      settled = λ key k first. elim (first_or items c.loop-number.number-index _ _ k.numbers c.loop-number-test.true refl first) [
        | inl j ↦ now.stays (asked key) (before.settled key k j)
        | inr e ↦ now.settled key (subst (λ (x : State). KeyOf b q x key) (sym c.begun_by-one.ensures) (key_by b q r _ key k e))
      ];
    }

pub returns-clause-settled : goal.returns-clause-settled
returns-clause-settled g c = λ key k.
    let items = c.from_place-number-items.result.now in
    let flights = c.schedule_of.result.now.flights in
    let departs = subst (λ (x : State). AreDepartures flights x.at.place x.at.lo x.at.hi items) c.residual.view_is c.from_place-number-items.ensures in
    c.loop-number.invariant.settled key k (subst (λ ns. OnFirst (λ m. IsIn m ns) k.numbers) (sym (take_all c.loop-number.number-index items c.loop-number-test.false)) (begins_there c.args.book.now c.args.request.now c.args.residual.now flights items c.schedule_of.ensures.flights departs key k))
