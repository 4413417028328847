use Rattle.std.proofs.Common.{◌≡◌, List, true, false, sym, ap, subst, ◌∙◌}
use Rattle.std.specs.HashSet.{HashSet, contains}
use Rattle.std.specs.Prelude.{OnOk, Result, Ok, Err}
use Rattle.fare_law.specs.declared.flights.Flight.{Flight}
use Rattle.fare_law.specs.declared.rows.FlightRow.{FlightRow}
use Rattle.law_lemmas.proofs.Tests.{true_false}
use Rattle.schedule_book.specs.declared.dated.DatedNumber.{DatedNumber}
use Rattle.schedule_book.specs.declared.dated.FlightName.{FlightName}
use Rattle.schedule_book.specs.Expansions.{AddsRow, AllDiffer, Seen, name_of}
use Rattle.schedule_book.proofs.Numbers.{same, other_names}
use Rattle.schedule_book.proofs.RowFlights.{named_dated}
use Rattle.schedule_book.proofs.SharedNames.{one_name}
use Rattle.schedule_book.proofs.expansion.add_row.Goals as goal

-- what was seen still tells of the shared names where flights of another are added
seen_apart : {S T : Type 0} (row : FlightRow) (shared : HashSet FlightName S) (old new : List Flight) (seen : HashSet DatedNumber T) → Seen same one_name shared old seen → contains one_name shared (name_of row) ≡ false → AddsRow row old new → AllDiffer same new → Seen same one_name shared new seen
seen_apart row shared old new seen h apart adds differ = record {
  differ = differ;
  same = λ q t.
      other_names old adds.more new seen (name_of row) adds.joined (λ f i. named_dated row f ((adds.are f).0 i)) q (λ e. true_false (subst (λ n. contains one_name shared n ≡ true) e t) apart) (h.same q t);
}

both_ok : {X E A B C : Type 0} (r : Result X E) → OnOk r A → OnOk r B → (A → B → C) → OnOk r C
both_ok (Ok x) a b f = f a b
both_ok (Err e) a b f = tt

pub add_apart-requires-clause-apart : goal.add_apart-requires-clause-apart
add_apart-requires-clause-apart c = c.requires.apart (ap (contains one_name c.args.shared.now) (sym c.name_of.ensures) ∙ sym c.contains.ensures ∙ c.if-contains.false)

pub returns-else-contains-clause-seen : goal.returns-else-contains-clause-seen
returns-else-contains-clause-seen c =
    let apart : contains one_name c.args.shared.now (name_of c.args.row.now) ≡ false = ap (contains one_name c.args.shared.now) (sym c.name_of.ensures) ∙ sym c.contains.ensures ∙ c.if-contains.false in
    both_ok c.add_apart.result c.add_apart.ensures.added c.add_apart.ensures.differ (seen_apart c.args.row.now c.args.shared.now c.args.flights.now.items c.add_apart.new.flights.items c.args.seen.now c.requires.seen apart)
