use Rattle.std.proofs.Common.{◌≡◌, ◌∙◌, true, sym, subst}
use Rattle.certificate.specs.declared.numbered.NumberedRow.{NumberedRow}
use Rattle.certificate.specs.NumberedRows.{bound_of, key_of}
use Rattle.certificate_check.proofs.ByNumbers.{got_mapped}
use Rattle.residual_table.specs.contracts.key.ResidualKeyPartialEq.TheImpl as key
use Rattle.residual_table.specs.declared.key.ResidualKey.{ResidualKey}
use Rattle.law_lemmas.proofs.Lists.{get_here}
use Rattle.certificate_check.proofs.bounds.bound_at.Goals as goal

pub returns-then-eq : goal.returns-then-eq
returns-then-eq c =
    let row = c.in_ok-row.row.now in
    let found = c.in_ok-row.ensures.lookup in record {
      place = c.args.place;
      entry = (key_of row, bound_of row);
      there = got_mapped (λ (n : NumberedRow). (key_of n, bound_of n)) c.args.rows.now c.args.place row (get_here c.args.rows.now c.args.place row found.3.0 found.1);
      same = subst (λ (k : ResidualKey). key.ghosts.eq c.args.key.now k ≡ true) c.key.ensures (sym c.eq.ensures ∙ c.if-eq.true);
      bound = sym c.bound.ensures;
    }
