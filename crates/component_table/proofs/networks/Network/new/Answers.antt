use Rattle.std.proofs.Common.{◌≡◌, Some, slice_get, subst, sym}
use Rattle.component_table.specs.Networks.{AreFareTailsOf}
use Rattle.component_table.proofs.NetworkFacts.{none_stands}
use Rattle.component_table.specs.declared.slice_tails.SliceTails.{SliceTails}
use Rattle.component_table.specs.Crossings.{IsSliceTails}
use Rattle.fare_ends.specs.Markets.{AreMarkets}
use Rattle.fare_ends.specs.Tails.{AreEnds, AreTailsOver}
use Rattle.fare_law.specs.Lists.{Each}
use Rattle.flight_paths.specs.Marks.{AreMarks}
use Rattle.component_table.proofs.networks.Network.new.Goals as goal

pub returns : goal.returns
returns c = λ b q. record {
  markets = subst (AreMarkets b) (sym c.new.ensures) tt;
  tails = subst (Each (λ (t : SliceTails). AreTailsOver b q.slices t.slice t.paths)) (sym c.new-3.ensures.items) tt;
  marks = subst (Each (λ (t : SliceTails). AreMarks b.timetable.flights t.paths t.marks)) (sym c.new-3.ensures.items) tt;
  masks = record { each = λ n mask e. absurd (none_stands n (Some mask) (subst (λ xs. slice_get xs n ≡ Some (Some mask)) c.new-2.ensures e)) };
  ends = subst (Each (λ (t : SliceTails). AreEnds b t.paths t.ends)) (sym c.new-3.ensures.items) tt;
  slices = subst (Each (IsSliceTails b q c.new-6.result.known.fares)) (sym c.new-3.ensures.items) tt;
  fare_tails = subst (Each (AreFareTailsOf b q c.new-3.result.items)) (sym c.new-4.ensures.items) tt;
  room = c.new-6.ensures b q;
}
