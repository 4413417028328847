-- The open paths of a position as heads, and as heads with tails. Given on to the crates above.
use Rattle.std.proofs.Common.{◌≡◌, ◌⊎◌, suc, ◌++◌, Some, sym, ap₂, subst, ◌∙◌, inl, inr}
use Rattle.fare_law.specs.declared.requests.Request.{Request}
use Rattle.fare_law.specs.Book.{Book}
use Rattle.flight_paths.specs.declared.positions.Path.{Path}
use Rattle.flight_paths.specs.declared.positions.Position.{Position}
use Rattle.flight_paths.specs.Heads.{Crosses, IsHead}
use Rattle.flight_paths.specs.Positions.{IsPath}
use Rattle.flight_paths.proofs.Crossing.{heads_and_tails}
use Rattle.flight_paths.proofs.Joining.{crosses_joined, head_flights, joined_crosses, tail_flights}
use Rattle.fare_ends.specs.Floors.{OpenPath}
use Rattle.fare_ends.specs.OpenPaths.{IsCrossingPath, IsLandedPath, IsOpenPath, LandsOrCrosses}
use Rattle.law_lemmas.proofs.LawFacts.{numbers_one}

module _ (b : Book) (q : Request) (at : Position) (path : Path) (p : OpenPath) where
  cut : IsOpenPath b q at path p → IsLandedPath b q at path p ⊎ IsCrossingPath b q at path p
  cut o = by ((heads_and_tails b q.slices at path.flights p.flights path.after).0 o.path_is)
    where
      by : IsHead b q.slices at path.flights p.flights path.after ⊎ Crosses b q.slices at path.flights p.flights path.after → IsLandedPath b q at path p ⊎ IsCrossingPath b q at path p
      by (inl h) = inl (record { head = h; legs = o.legs })
      by (inr c) = inr (record {
        head = record { flights = c.head; after = Some c.middle };
        tail = record { flights = c.tail; after = path.after };
        joined = crosses_joined b q.slices at path p.flights c;
        head_flights = c.head_flights;
        head_numbers = head_flights b q.slices at c.head c.head_flights (Some c.middle) c.is_head;
        tail_flights = c.tail_flights;
        tail_numbers = tail_flights b q.slices at (suc at.slice) c.tail c.tail_flights path.after c.is_tail;
        flights = c.flights;
        legs = o.legs;
      })

  whole : IsLandedPath b q at path p ⊎ IsCrossingPath b q at path p → IsOpenPath b q at path p
  whole (inl l) = record { path_is = l.head.path; legs = l.legs }
  whole (inr x) =
      let j = x.joined in
      let c = j.follows.crossing in
      let front = numbers_one b x.head.flights x.head_flights c.flights x.head_numbers (head_flights b q.slices at x.head.flights c.flights (Some j.follows.middle) c.is_head) in
      let back = numbers_one b x.tail.flights x.tail_flights j.follows.flights x.tail_numbers (tail_flights b q.slices at (suc at.slice) x.tail.flights j.follows.flights x.tail.after j.follows.is_tail) in
      let same : p.flights ≡ c.flights ++ j.follows.flights = x.flights ∙ ap₂ (λ fs gs. fs ++ gs) front back in
      record {
        path_is = subst (λ fs. IsPath b q.slices at path.flights fs path.after) (sym same) ((heads_and_tails b q.slices at path.flights (c.flights ++ j.follows.flights) path.after).1 (inr (joined_crosses b q.slices at x.head x.tail path j)));
        legs = x.legs;
      }

pub lands_or_crosses : LandsOrCrosses
lands_or_crosses b q at path p = (cut b q at path p, whole b q at path p)
