use Rattle.std.proofs.Common.{◌≡◌, ◌<◌, ◌≤◌, ℕ, suc, false, length, slice_index, slice_index_or}
use Rattle.std.specs.Map.{keys_of}
use Rattle.graph_walk.specs.Rows.{spot_of, spots_of}
use Rattle.graph_walk.proofs.table.Rows.place_of.Given as goal

abbrev pub invariant-loop-end : goal.invariant-loop-end
invariant-loop-end g l =
    let rows = l.self-inside.entries.items in
    let count = length l.self-inside.heads.items in record {
      within : l.end ≤ length rows;
      has : (place : ℕ) → l.end ≡ suc place → slice_index (spots_of g.N.Spread.number count rows) place ≡ spot_of count (g.N.Spread.number l.key);
      none : (place : ℕ) → l.end ≤ place → place < length rows → g.K.PartialEq.eq l.key (slice_index_or (keys_of rows) place l.key) ≡ false;
    }

abbrev pub decreases-loop-end : goal.decreases-loop-end
decreases-loop-end g l = l.end
