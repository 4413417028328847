-- What open units are hashed by.
use Rattle.std.specs.Prelude.{◌≡◌, ℕ, ℤ, negsuc, ◌+◌, ◌*◌, ◌++◌, slice_index, Option, unwrap_or, IsTrue}
use Rattle.std.specs.Cmp.Lexicographic.{bytes_decides}
use Rattle.std.specs.Hash as fed
use Rattle.fare_law.specs.contracts.names.PlacePartialEq.TheImpl as places
use Rattle.fare_law.specs.contracts.names.CarrierPartialEq.TheImpl as carriers
use Rattle.open_unit.specs.contracts.marks.CarrierMarkPartialEq.TheImpl as marks
use Rattle.open_unit.specs.contracts.units.OpenUnitPartialEq.TheImpl as units
use Rattle.std.specs.Cmp.Rules.{hashing}
use Rattle.std.proofs.Common.{rules, refl, sym, ap, true≢false}
use Rattle.fare_law.specs.declared.names.Carrier.{Carrier}
use Rattle.fare_law.specs.declared.names.Place.{Place}
use Rattle.open_unit.specs.declared.marks.CarrierMark.{CarrierMark}
use Rattle.open_unit.specs.declared.marks.CarrierMark.TheVariants.{NotYet, One, Mixed}
use Rattle.open_unit.specs.declared.marks.RuleMark.{RuleMark}
use Rattle.open_unit.specs.declared.marks.RuleMark.TheVariants.{One as OneRule, Mixed as MixedRules}
use Rattle.open_unit.specs.declared.units.OpenUnit.{OpenUnit}

-- the letters of a place as a number
abbrev pub place_number : Place → ℕ
place_number p = slice_index p.0 0 + slice_index p.0 1 * 256 + slice_index p.0 2 * 65536

-- the letters of a mark's carrier as a number, or less
abbrev pub carrier_number : CarrierMark → ℕ
carrier_number NotYet = 0
carrier_number Mixed = 1
carrier_number (One c) = slice_index c.0 0 + slice_index c.0 1 * 256

-- the rule number of a mark, or the greatest there is
abbrev pub rule_number : RuleMark → ℕ
rule_number (OneRule n) = n
rule_number MixedRules = 65535

-- a day, or the one before all
abbrev pub day_number : Option ℤ → ℤ
day_number day = unwrap_or day (negsuc 0)

-- the marks and the small numbers of a unit as one number
abbrev pub marks_number : OpenUnit → ℕ
marks_number u = u.count + u.kinds * 256 + u.partner * 65536 + (carrier_number u.carrier + rule_number u.rule * 65536) * 4294967296

-- what a unit is hashed by
abbrev pub writes : OpenUnit → fed.HashWrites
writes u = fed.u64 (place_number u.origin + place_number u.end * 4294967296) ++ fed.i32 u.first_day ++ fed.i32 (day_number u.least) ++ fed.i32 (day_number u.greatest) ++ fed.i32 (day_number u.by) ++ fed.u64 (marks_number u)

-- places, carriers and marks that are equal are one
place_is : (p q : Place) → IsTrue (places.ghosts.eq p q) → p ≡ q
place_is p q h = let e : p.0 ≡ q.0 = (bytes_decides p.0 q.0).0 h in λ i. record { 0 = e i }

one_carrier : (c d : Carrier) → IsTrue (carriers.ghosts.eq c d) → c ≡ d
one_carrier c d h = let e : c.0 ≡ d.0 = (bytes_decides c.0 d.0).0 h in λ i. record { 0 = e i }

pub carrier_is : (s t : CarrierMark) → IsTrue (marks.ghosts.eq s t) → s ≡ t
carrier_is NotYet NotYet h = refl
carrier_is Mixed Mixed h = refl
carrier_is (One c) (One d) h = ap (λ x. One x) (one_carrier c d h)
carrier_is NotYet (One d) h = absurd (true≢false (sym h))
carrier_is NotYet Mixed h = absurd (true≢false (sym h))
carrier_is Mixed NotYet h = absurd (true≢false (sym h))
carrier_is Mixed (One d) h = absurd (true≢false (sym h))
carrier_is (One c) NotYet h = absurd (true≢false (sym h))
carrier_is (One c) Mixed h = absurd (true≢false (sym h))

-- so are the writes of units that are equal
pub alike : (u v : OpenUnit) → IsTrue (units.ghosts.eq u v) → writes u ≡ writes v
alike u v h = search (hashing, rules, place_is, carrier_is)
