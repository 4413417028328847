-- Sums of kinds with some kind, and without one way.
use Rattle.std.proofs.Common.{◌≡◌, ◌≢◌, ℕ, true, refl, sym, ap, ◌∙◌}
use Rattle.std.proofs.lemmas.Bool.{true≢false}
use Rattle.fare_law.specs.declared.rules.UnitKind.{UnitKind}
use Rattle.fare_law.specs.declared.rules.UnitKind.TheVariants.{OneWay, RoundTrip, OpenJaw, Circle}
use Rattle.fare_rules.specs.Demands.{has_kind}

-- fourteen has all kinds but one way
pub fourteen : (k : UnitKind) → k ≢ OneWay → has_kind 14 k ≡ true
fourteen OneWay h = absurd (h refl)
fourteen RoundTrip h = refl
fourteen OpenJaw h = refl
fourteen Circle h = refl

pub some_kind : (a : ℕ) (k : UnitKind) → has_kind a k ≡ true → a ≢ 0
some_kind a OneWay h e = true≢false (sym h ∙ ap (λ n. has_kind n OneWay) e)
some_kind a RoundTrip h e = true≢false (sym h ∙ ap (λ n. has_kind n RoundTrip) e)
some_kind a OpenJaw h e = true≢false (sym h ∙ ap (λ n. has_kind n OpenJaw) e)
some_kind a Circle h e = true≢false (sym h ∙ ap (λ n. has_kind n Circle) e)
