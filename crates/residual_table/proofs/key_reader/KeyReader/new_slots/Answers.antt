use Rattle.residual_table.specs.KeyReading.{HasUnit, NoUnit}
use Rattle.residual_table.proofs.KnownTexts.{unit_stays}
use Rattle.residual_table.proofs.Matched.{on_none, on_some}
use Rattle.residual_table.proofs.SlotsRead.{no_first, no_one, no_second, one_slot, two_slots}
use Rattle.residual_table.proofs.key_reader.KeyReader.new_slots.Goals as goal

pub returns-in_default-2-clause-units : goal.returns-in_default-2-clause-units
returns-in_default-2-clause-units c =
    let text = c.args.text.now in
    no_one text c.requires c.in_default.ensures (on_none (NoUnit text) (HasUnit c.new_slot.new.self text) c.in_ok-slot.field-0 c.in_default-2.is c.in_ok-slot.ensures.unit)

pub returns-in_default-clause-units : goal.returns-in_default-clause-units
returns-in_default-clause-units c =
    let text = c.args.text.now in
    let t = c.new_slot.new.self in
    one_slot text c.requires t c.in-Some-2.slot c.in_default.ensures (on_some (NoUnit text) (HasUnit t text) c.in_ok-slot.field-0 c.in-Some-2.slot c.in-Some-2.is c.in_ok-slot.ensures.unit)

pub returns-in_default-3-clause-units : goal.returns-in_default-3-clause-units
returns-in_default-3-clause-units c =
    let one = c.in-Some.one.now in
    no_first c.args.text.now c.requires one c.in-Some.other.now c.in-Some.ensures (on_none (NoUnit one) (HasUnit c.slot_of.new.self one) c.in_ok-first.field-0 c.in_default-3.is c.in_ok-first.ensures.unit)

pub returns-in_default-4-clause-units : goal.returns-in_default-4-clause-units
returns-in_default-4-clause-units c =
    let other = c.in-Some.other.now in
    no_second c.args.text.now c.requires c.in-Some.one.now other c.in-Some.ensures (on_none (NoUnit other) (HasUnit c.slot_of-2.new.self other) c.in_ok-second.field-0 c.in_default-4.is c.in_ok-second.ensures.unit)

pub returns-clause-units : goal.returns-clause-units
returns-clause-units c =
    let one = c.in-Some.one.now in
    let other = c.in-Some.other.now in
    let old = c.slot_of.new.self in
    let t = c.slot_of-2.new.self in
    let first = on_some (NoUnit one) (HasUnit old one) c.in_ok-first.field-0 c.in-Some-3.first c.in-Some-3.is c.in_ok-first.ensures.unit in
    let second = on_some (NoUnit other) (HasUnit t other) c.in_ok-second.field-0 c.in-Some-4.second c.in-Some-4.is c.in_ok-second.ensures.unit in
    two_slots c.args.text.now c.requires t one other c.in-Some-3.first c.in-Some-4.second c.in-Some.ensures (unit_stays old t c.slot_of-2.ensures.grows one c.in-Some-3.first first) second
