-- Bounds by keys are those of the residuals that they stand for.
use Rattle.std.proofs.Common.{◌≡◌, ◌↔◌, ◌∙◌, ℕ, ◌≤◌, List, [], ◌∷◌, length, map, Option, Some, None, option_and_then, option_map, IfSome, Result, Ok, Err, IfOk, refl, sym, ap, subst, arith}
use Rattle.fare_law.specs.declared.requests.Request.{Request}
use Rattle.fare_law.specs.Book.{Book}
use Rattle.fare_law.specs.Lists.{Each, KLeast}
use Rattle.open_unit.specs.declared.units.OpenUnit.{OpenUnit}
use Rattle.open_unit.specs.Ranges.{UnitInRanges}
use Rattle.residual_keys.specs.Kept.{IsResidual}
use Rattle.residual_keys.specs.Residuals.{State}
use Rattle.residual_table.specs.declared.key.ResidualKey.{ResidualKey}
use Rattle.residual_table.specs.Keys.{AreTables, IsLive, StandsFor, Tables as Numbers, residual_at}
use Rattle.residual_table.proofs.KeyFacts.{Slots, residual_is, slots}
use Rattle.residual_table.proofs.KeyFacts.Slots.{neither, one, both}
use Rattle.search_steps.specs.declared.least.LeastMove.{LeastMove}
use Rattle.search_steps.specs.LeastMoves.{AreLeastMoves, BoundBy, Counts, HasBound, HasRest, IsSooner, LeaveLive, RestIs, least_as}
use Rattle.law_lemmas.proofs.EachOne.{each_got}

-- what a key stands for is a residual
few_units : (us : List OpenUnit) (m n : ℕ) (xs : List OpenUnit) → Slots us m n xs → length xs ≤ 2
few_units us m n xs (neither e f g) = let z : length xs ≡ 0 = ap length e in omega (arith, z)
few_units us m n xs (one a u e f g h) = let z : length xs ≡ 1 = ap length e in omega (arith, z)
few_units us m n xs (both a b u v e f g h i) = let z : length xs ≡ 2 = ap length e in omega (arith, z)

kept_units : (us : List OpenUnit) (m n : ℕ) (xs : List OpenUnit) → Each UnitInRanges us → Slots us m n xs → Each UnitInRanges xs
kept_units us m n xs k (neither e f g) = subst (Each UnitInRanges) (sym e) tt
kept_units us m n xs k (one a u e f g h) = subst (Each UnitInRanges) (sym e) (each_got UnitInRanges us a u k h, tt)
kept_units us m n xs k (both a b u v e f g h i) = subst (Each UnitInRanges) (sym e) (each_got UnitInRanges us a u k h, (each_got UnitInRanges us b v k i, tt))

residual_there : (t : Numbers) → AreTables t → (k : ResidualKey) (x : State) → StandsFor t k x → IsResidual x
residual_there t a k x h = let s = slots t.units k.first k.second x.units h.units in record { few = few_units t.units k.first k.second x.units s; units = kept_units t.units k.first k.second x.units a.units_kept s; part = h.kept }

-- the k least of things that are had in another way
least_by_each : {X : Type 0} (Has Has' : X → Type 0) (Below : X → X → Type 0) (k : ℕ) (xs : List X) → Each Has' xs → ((x : X) → Has' x → Has x) → KLeast Has Below k xs → KLeast Has' Below k xs
least_by_each Has Has' Below k xs each from h = record { ascending = h.ascending; each = each; few = h.few; rest = λ x has out. h.rest x (from x has) out }

-- what leaves the end or has a bound
pub rest_had : (b : Book) (q : Request) (x : State) (bound : State → Option ℕ) (m : LeastMove State) → Counts b q (HasBound bound) x m → HasRest bound m
rest_had b q x bound m h = by m.next h.bound
  where
    by : (next : Option State) → RestIs (HasBound bound) next h.rest → IfSome next (λ y. (rest : ℕ) × (bound y ≡ Some rest))
    by None r = tt
    by (Some y) r = (h.rest, r)

module _ (t : Numbers) (tables : AreTables t) (find : State → Option ResidualKey) (found : (k : ResidualKey) (x : State) → IsResidual x → (find x ≡ Some k) ↔ StandsFor t k x) (bound : ResidualKey → Option ℕ) where
  abbrev pub bound_at : State → Option ℕ
  bound_at x = option_and_then bound (find x)

  found_key : (k : ResidualKey) (x : State) → StandsFor t k x → find x ≡ Some k
  found_key k x h = (found k x (residual_there t tables k x h)).1 h

  bound_is : (k : ResidualKey) (x : State) → StandsFor t k x → bound_at x ≡ bound k
  bound_is k x h = ap (option_and_then bound) (found_key k x h)

  to : (next : Option ResidualKey) (rest : ℕ) → IfSome next (IsLive t) → RestIs (HasBound bound_at) (option_map (residual_at t) next) rest → RestIs (BoundBy (IsLive t) (residual_at t) bound) (option_map (residual_at t) next) rest
  to None rest live r = r
  to (Some k) rest (y, h) r = (k, (y, h), refl, sym (bound_is k (residual_at t k) (subst (StandsFor t k) (sym (residual_is t k y h)) h)) ∙ r)

  from : (next : Option State) (rest : ℕ) → RestIs (BoundBy (IsLive t) (residual_at t) bound) next rest → RestIs (HasBound bound_at) next rest
  from None rest r = r
  from (Some x) rest (k, (y, h), e, f) = bound_is k x (subst (StandsFor t k) (sym (residual_is t k y h) ∙ e) h) ∙ f

  module _ (b : Book) (q : Request) (x : State) where
    each_by : (ms : List (LeastMove ResidualKey)) → LeaveLive (IsLive t) ms → Each (Counts b q (HasBound bound_at) x) (map (least_as (residual_at t)) ms) → Each (Counts b q (BoundBy (IsLive t) (residual_at t) bound) x) (map (least_as (residual_at t)) ms)
    each_by [] live h = tt
    each_by (m ∷ ms) live h = (record { move = h.0.move; rest = h.0.rest; bound = to m.next h.0.rest live.0 h.0.bound; total = h.0.total }, each_by ms live.1 h.1)

    -- the least moves with the keys of what they leave
    pub keyed_least : (wanted : ℕ) (least : List (LeastMove State)) (ms : List (LeastMove ResidualKey)) → AreLeastMoves b q (HasBound bound_at) x wanted least → map (least_as (residual_at t)) ms ≡ least → LeaveLive (IsLive t) ms
        → AreLeastMoves b q (BoundBy (IsLive t) (residual_at t) bound) x wanted (map (least_as (residual_at t)) ms)
    keyed_least wanted least ms h same live =
        let k = subst (AreLeastMoves b q (HasBound bound_at) x wanted) (sym same) h in
        least_by_each (Counts b q (HasBound bound_at) x) (Counts b q (BoundBy (IsLive t) (residual_at t) bound) x) IsSooner wanted (map (least_as (residual_at t)) ms) (each_by ms live k.each)
        (λ m c. record { move = c.move; rest = c.rest; bound = from m.next c.rest c.bound; total = c.total }) k

-- what holds of an answer for two reasons
pub if_ok_both : {A E : Type 0} (r : Result A E) (P Q R : A → Type 0) → ((a : A) → P a → Q a → R a) → IfOk r P → IfOk r Q → IfOk r R
if_ok_both (Ok a) P Q R h p q = h a p q
if_ok_both (Err e) P Q R h p q = tt
