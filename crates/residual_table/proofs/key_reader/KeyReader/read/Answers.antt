use Rattle.std.proofs.Common.{◌≡◌, None, subst}
use Rattle.residual_keys.proofs.WordFacts.{Words}
use Rattle.residual_keys.specs.ResidualReading.{position_in}
use Rattle.residual_table.specs.KeyReading.{HasPosition, HasSlots, NoUnits}
use Rattle.residual_table.specs.Keys.{AreTables, Grows}
use Rattle.residual_table.proofs.KeysRead.{key_stands, no_part, no_position, no_units}
use Rattle.residual_table.proofs.KnownTexts.{position_stays}
use Rattle.residual_table.proofs.Matched.{on_none, on_some}
use Rattle.residual_table.proofs.key_reader.KeyReader.read.Goals as goal

pub returns-in_default-clause-key : goal.returns-in_default-clause-key
returns-in_default-clause-key c =
    let k : Words = record { cut = c.cuts_tell.ensures.first; number = c.numbers_tell.ensures.number; digits = c.numbers_tell.ensures.digits } in
    let last = c.cuts_tell.ensures.last in
    let text = c.args.bytes.now in
    no_position k last text (on_none (position_in text ≡ None) (λ x. HasPosition c.position_of.new.self text x.0 x.1.now) c.in_ok-position.field-0 c.in_default.is c.in_ok-position.ensures.position)

pub returns-in_default-read-clause-key : goal.returns-in_default-read-clause-key
returns-in_default-read-clause-key c =
    let k : Words = record { cut = c.cuts_tell.ensures.first; number = c.numbers_tell.ensures.number; digits = c.numbers_tell.ensures.digits } in
    let last = c.cuts_tell.ensures.last in
    let text = c.args.bytes.now in
    let n = c.in-Some.position in
    let rest = c.in-Some.rest in
    let old = c.position_of.new.self in
    let p = on_some (position_in text ≡ None) (λ x. HasPosition old text x.0 x.1.now) c.in_ok-position.field-0 (n, rest) c.in-Some.is c.in_ok-position.ensures.position in
    no_part k last text old n rest.now p c.in_default-read.ensures

pub returns-in_default-2-clause-key : goal.returns-in_default-2-clause-key
returns-in_default-2-clause-key c =
    let k : Words = record { cut = c.cuts_tell.ensures.first; number = c.numbers_tell.ensures.number; digits = c.numbers_tell.ensures.digits } in
    let last = c.cuts_tell.ensures.last in
    let text = c.args.bytes.now in
    let n = c.in-Some.position in
    let rest = c.in-Some.rest in
    let old = c.position_of.new.self in
    let p = on_some (position_in text ≡ None) (λ x. HasPosition old text x.0 x.1.now) c.in_ok-position.field-0 (n, rest) c.in-Some.is c.in_ok-position.ensures.position in
    let units = c.in-Some-read.units.now in
    no_units k last text old n rest.now p units c.in-Some-read.part c.in-Some-read.ensures
    (on_none (NoUnits units) (λ x. HasSlots c.slots_of.new.self units x.0 x.1) c.in_ok-first.field-0 c.in_default-2.is c.in_ok-first.ensures.units)

pub returns-clause-key : goal.returns-clause-key
returns-clause-key c =
    let k : Words = record { cut = c.cuts_tell.ensures.first; number = c.numbers_tell.ensures.number; digits = c.numbers_tell.ensures.digits } in
    let last = c.cuts_tell.ensures.last in
    let text = c.args.bytes.now in
    let n = c.in-Some.position in
    let rest = c.in-Some.rest in
    let old = c.position_of.new.self in
    let p = on_some (position_in text ≡ None) (λ x. HasPosition old text x.0 x.1.now) c.in_ok-position.field-0 (n, rest) c.in-Some.is c.in_ok-position.ensures.position in
    let units = c.in-Some-read.units.now in
    let new = c.slots_of.new.self in
    let first = c.in-Some-2.first in
    let second = c.in-Some-2.second in
    let grows : Grows old new = subst (λ t. Grows t new) c.self.view_is c.slots_of.ensures.grows in
    let slots = on_some (NoUnits units) (λ x. HasSlots new units x.0 x.1) c.in_ok-first.field-0 (first, second) c.in-Some-2.is c.in_ok-first.ensures.units in
    key_stands k last text new n rest.now (position_stays old new grows text n rest.now p) units c.in-Some-read.part first second c.in-Some-read.ensures slots (subst AreTables c.self-2.view_is c.keeps.ensures)
