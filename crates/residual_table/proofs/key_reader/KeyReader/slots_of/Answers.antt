use Rattle.std.proofs.Common.{◌≡◌, bytes_eq, false, rules, true}
use Rattle.std.specs.Prelude.{codes}
use Rattle.residual_table.specs.KeyReading.{HasUnit, NoUnit}
use Rattle.residual_table.proofs.KnownTexts.{unit_stays}
use Rattle.residual_table.proofs.Matched.{on_none, on_some}
use Rattle.residual_table.proofs.SlotsRead.{no_second, no_slots, one_slot, two_slots}
use Rattle.residual_table.proofs.key_reader.KeyReader.slots_of.Goals as goal

pub returns-then-eq-clause-units : goal.returns-then-eq-clause-units
returns-then-eq-clause-units c =
    let e : bytes_eq c.args.text.now (codes "-") ≡ true = search rules in
    no_slots c.args.self.now c.args.text.now e

pub returns-in_default-2-clause-units : goal.returns-in_default-2-clause-units
returns-in_default-2-clause-units c =
    let e : bytes_eq c.args.text.now (codes "-") ≡ false = search rules in
    let other = c.in-Some.other.now in
    let h = c.in-Some.ensures in
    no_second c.args.text.now e h.0 other h.1 (on_none (NoUnit other) (HasUnit c.slot_of.new.self other) c.in_ok-second.field-0 c.in_default-2.is c.in_ok-second.ensures.unit)

pub returns-in-Some-clause-units : goal.returns-in-Some-clause-units
returns-in-Some-clause-units c =
    let e : bytes_eq c.args.text.now (codes "-") ≡ false = search rules in
    let other = c.in-Some.other.now in
    let t = c.slot_of.new.self in
    let h = c.in-Some.ensures in
    two_slots c.args.text.now e t h.0 other c.in-Some.first c.in-Some-2.second h.1 (unit_stays c.args.self.now t c.slot_of.ensures.grows h.0 c.in-Some.first h.2)
    (on_some (NoUnit other) (HasUnit t other) c.in_ok-second.field-0 c.in-Some-2.second c.in-Some-2.is c.in_ok-second.ensures.unit)

pub returns-in-Some-known_slot-clause-units : goal.returns-in-Some-known_slot-clause-units
returns-in-Some-known_slot-clause-units c =
    let e : bytes_eq c.args.text.now (codes "-") ≡ false = search rules in
    one_slot c.args.text.now e c.args.self.now c.in-Some-known_slot.slot c.in-Some-known_slot.ensures.1 c.in-Some-known_slot.ensures.0
