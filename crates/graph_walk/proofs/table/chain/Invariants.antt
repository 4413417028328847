use Rattle.std.proofs.Common.{◌≡◌, length}
use Rattle.graph_walk.specs.Rows.{AreChained, spots_of}
use Rattle.graph_walk.proofs.Marked.{MarksUpTo}
use Rattle.graph_walk.proofs.table.chain.Given as goal

abbrev pub invariant-loop-place : goal.invariant-loop-place
invariant-loop-place g l = record {
  each : length l.marks.items ≡ length l.rows;
  marked : MarksUpTo g.N.Spread.number l.rows l.marks.items l.place;
  links : length l.links.items ≡ length l.rows;
  heads : length l.heads.items ≡ length l.fn.heads.items;
  chained : AreChained (spots_of g.N.Spread.number (length l.heads.items) l.rows) l.place l.links.items l.heads.items;
}
