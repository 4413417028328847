-- What is read from lists, and what holds of the first and the last of some flights. This file is given on to the crates above.
use Rattle.std.proofs.Common.{◌≡◌, Bool, true, false, List, refl, sym, subst}
use Rattle.fare_law.specs.declared.flights.Flight.{Flight}
use Rattle.fare_law.specs.Lists.{OnFirst, OnLast}
use Rattle.residual_keys.specs.Steps.{MarketOver}
use Rattle.law_lemmas.proofs.LawFacts.{on_first_as, on_last_as}

pub key_back : (r : Bool) (fs : List Flight) (f z : Flight) → r ≡ true → OnFirst (λ x. f ≡ x) fs → OnLast (λ x. z ≡ x) fs → MarketOver r fs z.to f.from
key_back r fs f z e h k = subst (λ t. MarketOver t fs z.to f.from) (sym e) (on_first_as (λ x. OnLast (λ y. (z.to ≡ y.to) × (f.from ≡ x.from)) fs) fs f h (on_last_as (λ y. (z.to ≡ y.to) × (f.from ≡ f.from)) fs z k (refl, refl)))

pub key_there : (r : Bool) (fs : List Flight) (f z : Flight) → r ≡ false → OnFirst (λ x. f ≡ x) fs → OnLast (λ x. z ≡ x) fs → MarketOver r fs f.from z.to
key_there r fs f z e h k = subst (λ t. MarketOver t fs f.from z.to) (sym e) (on_first_as (λ x. OnLast (λ y. (f.from ≡ x.from) × (z.to ≡ y.to)) fs) fs f h (on_last_as (λ y. (f.from ≡ f.from) × (z.to ≡ y.to)) fs z k (refl, refl)))
