use Rattle.std.proofs.Common.{◌≡◌, List, Some, length, option_map, slice_get, ap, subst, arith}
use Rattle.certificate.specs.declared.numbered.NumberedRow.{NumberedRow}
use Rattle.certificate.specs.NumberedRows.{bound_of, key_of}
use Rattle.certificate_check.proofs.ByNumbers.{entry_key}
use Rattle.certificate_check.proofs.RowTables.{Entry}
use Rattle.law_lemmas.proofs.Lists.{map_length}
use Rattle.certificate_check.proofs.bounds.RowBounds.key.Goals as goal

pub key_at-requires : goal.key_at-requires
key_at-requires c =
    let few = ap length c.self.view_is in
    let long = map_length {Y = Entry} (λ (n : NumberedRow). (key_of n, bound_of n)) c.self.inside.rows.now in
    let below = c.requires in
    omega (arith, few, long, below)

pub returns : goal.returns
returns c = subst (λ (es : List Entry). option_map (λ entry. entry.0) (slice_get es c.args.place) ≡ Some c.key_at.result) c.self.view_is (entry_key c.self.inside.rows.now c.args.place c.key_at.result c.key_at.ensures)
