use Rattle.std.proofs.Common.{◌≡◌, ◌⊎◌, Bool, true, false, refl, inl, inr, arith}
use Rattle.schedule_book.proofs.OwnFaults.{at_least, not_later}
use Rattle.schedule_book.proofs.PlaceRows.{known_decided}
use Rattle.schedule_book.specs.Faults.{IsKnown}
use Rattle.schedule_book.proofs.row_faults.own_fault.Goals as goal

never : {b : Bool} → b ≡ true → b ≡ false → ⊥
never p q = cc

pub returns-then-not-has_places-clause-some : goal.returns-then-not-has_places-clause-some
returns-then-not-has_places-clause-some c = λ before. (
  (refl, missing),
  λ other h. at_least c.args.places.now c.args.row.now 2 (omega arith) (record { known = λ l. absurd (omega (arith, l)); goes = λ l. absurd (omega (arith, l)); period = λ l. absurd (omega (arith, l)); later = λ l. absurd (omega (arith, l)) }) before other h,
)
  where
    missing : (IsKnown c.args.row.now.from c.args.places.now → ⊥) ⊎ (IsKnown c.args.row.now.to c.args.places.now → ⊥)
    missing = elim (known_decided c.args.row.now.from c.args.places.now) [
      | inr n ↦ inl n
      | inl k ↦ inr (λ t. never (c.has_places.ensures.1 (k, t)) c.if-not-has_places.true)
    ]

pub returns-then-not-arrives_later-clause-some : goal.returns-then-not-arrives_later-clause-some
returns-then-not-arrives_later-clause-some c = λ before. (
  (refl, not_later c.args.row.now (λ l. never (c.arrives_later.ensures.1 l) c.if-not-arrives_later.true)),
  λ other h. at_least c.args.places.now c.args.row.now 5 (omega arith) (record { known = λ l. c.has_places.ensures.0 c.if-not-has_places.false; goes = λ l e. never (c.stays.ensures.1 e) c.if-stays.false; period = λ l. c.has_period.ensures.0 c.if-not-has_period.false; later = λ l. absurd (omega (arith, l)) }) before other h,
)

pub returns-clause-none : goal.returns-clause-none
returns-clause-none c = λ before other h.
    at_least c.args.places.now c.args.row.now 6 (omega arith) (record { known = λ l. c.has_places.ensures.0 c.if-not-has_places.false; goes = λ l e. never (c.stays.ensures.1 e) c.if-stays.false; period = λ l. c.has_period.ensures.0 c.if-not-has_period.false; later = λ l. c.arrives_later.ensures.0 c.if-not-arrives_later.false }) before other h
