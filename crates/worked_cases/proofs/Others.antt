-- Labels, units, days and the order.
use Rattle.std.proofs.Common.{◌≡◌, ◌≢◌, ℕ, Bool, true, false, pos, ◌∷◌, List, [], map, sym, refl, ap, ◌∙◌, inl, inr, arith, get_or}
use Rattle.std.proofs.lemmas.Int.{ints}
use Rattle.fare_law.specs.declared.names.Place.{Place}
use Rattle.fare_law.specs.declared.requests.Request.{Request}
use Rattle.fare_law.specs.declared.rules.UnitKind.TheVariants.{Circle, OpenJaw}
use Rattle.fare_law.specs.declared.tickets.Component.{Component}
use Rattle.fare_law.specs.declared.tickets.Ticket.{Ticket}
use Rattle.fare_law.specs.Book.{Book}
use Rattle.fare_law.specs.Days.{first_sunday_after}
use Rattle.fare_law.specs.Lawful.{Lawful, Numbered}
use Rattle.fare_law.specs.Parts.{Part, IsPart}
use Rattle.fare_law.specs.Lists.{Matched}
use Rattle.fare_law.specs.Units.{IsUnit, MinStayHolds}
use Rattle.unit_labels.specs.Labels.{LabelLaws, LawfulLabels, Opens, Closes}
use Rattle.worked_cases.specs.Cases.{forward, backward, with_sunday}
use Rattle.worked_cases.specs.Makers.{lon, nyc, par, rom}
use Rattle.worked_cases.proofs.Pairs.{differ}

units_same : (b : Book) (q : Request) (cs : List Component) (ps : List Part) → Matched (IsPart b q) cs ps → map (λ part. part.unit) ps ≡ map (λ c. c.unit) cs
units_same b q [] [] m = refl
units_same b q [] (p ∷ ps) m = absurd m
units_same b q (c ∷ cs) [] m = absurd m
units_same b q (c ∷ cs) (p ∷ ps) m = ap (λ u. u ∷ map (λ part. part.unit) ps) m.0.unit ∙ ap (λ us. c.unit ∷ us) (units_same b q cs ps m.1)

pub three_straddle : (t : Ticket) (b : Book) (q : Request) → map (λ c. c.unit) t.components ≡ 1 ∷ 2 ∷ 3 ∷ 1 ∷ 2 ∷ 3 ∷ [] → Lawful t b q → ⊥
three_straddle t b q is (ps, m, law, some) =
    law.straddling (1 ∷ 2 ∷ 3 ∷ []) (1 ∷ 2 ∷ 3 ∷ []) (sym is ∙ sym (units_same b q t.components ps m)) 1 2 3 (omega arith) (omega arith) (refl, refl) (refl, refl) (refl, refl)

-- three units, each inside the one before
pub three_nested : (t : Ticket) (b : Book) (q : Request) → map (λ c. c.unit) t.components ≡ 1 ∷ 2 ∷ 3 ∷ 3 ∷ 2 ∷ 1 ∷ [] → Lawful t b q → ⊥
three_nested t b q is (ps, m, law, some) =
    law.straddling (1 ∷ 2 ∷ 3 ∷ []) (3 ∷ 2 ∷ 1 ∷ []) (sym is ∙ sym (units_same b q t.components ps m)) 1 2 3 (omega arith) (omega arith) (refl, refl) (refl, refl) (refl, refl)

pub two_straddle : LabelLaws → LawfulLabels (1 ∷ 2 ∷ 1 ∷ 3 ∷ 2 ∷ 3 ∷ [])
two_straddle laws =
    ((laws.runs (Opens ∷ Opens ∷ Closes 0 ∷ Opens ∷ Closes 0 ∷ Closes 0 ∷ []) (1 ∷ 2 ∷ 1 ∷ 3 ∷ 2 ∷ 3 ∷ [])).0
    (refl, omega arith, (refl, omega arith, (refl, (refl, omega arith, (refl, (refl, refl))))))).0

pub from_one : Numbered 0 (2 ∷ 1 ∷ []) → ⊥
from_one (inl h) = omega (arith, h.1)
from_one (inr h) = omega (arith, h.0)

pub no_gap : Numbered 0 (1 ∷ 3 ∷ []) → ⊥
no_gap (inl h) = omega (arith, h.1)
no_gap (inr (e, inl h)) = omega (arith, h.1)
no_gap (inr (e, inr h)) = omega (arith, h.0)

pub no_jaw : IsUnit OpenJaw (forward lon nyc ∷ backward nyc lon ∷ []) → ⊥
no_jaw (two, ways, (inl h, rest)) = h.1 refl
no_jaw (two, ways, (inr h, rest)) = h.0 refl

pub jaw : IsUnit OpenJaw (forward lon nyc ∷ backward par lon ∷ [])
jaw = (refl, (refl, refl), (inr (differ par nyc 0 (λ e. omega (arith, e)), refl), tt))

pub other_jaw : IsUnit OpenJaw (forward lon nyc ∷ backward nyc par ∷ [])
other_jaw = (refl, (refl, refl), (inl (refl, differ par lon 0 (λ e. omega (arith, e))), tt))

pub two_gaps : IsUnit OpenJaw (forward lon nyc ∷ backward par rom ∷ []) → ⊥
two_gaps (two, ways, (inl h, rest)) = differ par nyc 0 (λ e. omega (arith, e)) h.0
two_gaps (two, ways, (inr h, rest)) = differ rom lon 0 (λ e. omega (arith, e)) h.1

pub all_forward : IsUnit Circle (forward lon par ∷ forward par rom ∷ forward rom lon ∷ []) → ⊥
all_forward (three, four, ways, follows, ends) = false_true ways.1.1
  where
    false_true : ◌≡◌ {A = Bool} false true → ⊥
    false_true e = cc

pub stays : MinStayHolds with_sunday (pos 22341) (pos 22347)
unfolding first_sunday_after
stays = (omega (arith, ints), omega (arith, ints))

pub too_short : MinStayHolds with_sunday (pos 22341) (pos 22346) → ⊥
unfolding first_sunday_after
too_short h = omega (arith, ints, h.1)

pub sunday : first_sunday_after (pos 22341) ≡ pos 22347
unfolding first_sunday_after
sunday = refl

pub strictly : first_sunday_after (pos 22347) ≡ pos 22354
unfolding first_sunday_after
strictly = refl
