-- The paths that cross from a position: each goes on from one of the heads that were gathered, in whatever order they stand.
use Rattle.std.proofs.Common.{pos, ◌≡◌, ℕ, List, [], length, Some, refl, arith}
use Rattle.std.specs.List.Sorted.{IsPermutation}
use Rattle.component_table.specs.Crossings.{FromHeads, GoesOn}
use Rattle.component_table.proofs.Added.{IsOfOne}
use Rattle.component_table.proofs.Components.{head_open}
use Rattle.fare_book.specs.Keeping.{Limited}
use Rattle.fare_ends.specs.Ends.{between}
use Rattle.fare_ends.proofs.Reordered.{each_reordered, in_reordered}
use Rattle.fare_law.specs.declared.requests.Request.{Request}
use Rattle.fare_law.specs.Book.{Book}
use Rattle.fare_law.specs.Lists.{Each}
use Rattle.flight_paths.specs.declared.positions.Path.{Path}
use Rattle.flight_paths.specs.declared.positions.Position.{Position}
use Rattle.flight_paths.specs.Heads.{IsJoined}
use Rattle.flight_paths.proofs.Joining.{crosses_joined}
use Rattle.joint_paths.specs.declared.crossing_heads.CrossingHead.{CrossingHead}
use Rattle.joint_paths.specs.Heads.{IsCrossingHead, IsHeadOf}
use Rattle.joint_paths.proofs.Ranged.{got_between, in_between}
use Rattle.component_table.specs.Begun.{AreCrossingHeads, CrossingPaths}
use Rattle.law_lemmas.proofs.EachOne.{each_from, each_in}
use Rattle.law_lemmas.proofs.Lists.{got_within}
use Rattle.law_lemmas.proofs.Members.{in_got}
use Rattle.outlines.specs.declared.outline.Outline.{Outline}
use Rattle.outlines.specs.Outlines.{Outlined}

-- what stands for a head past the end of a list
abbrev pub no_head : CrossingHead
no_head = record { flights = []; count = 0; carrier = record { 0 = [] }; first = pos 0; classes = 0; lo = 0; hi = 0; mark = 0 }

-- a head is of the carrier and the first day of a bucket
abbrev pub IsBeside : CrossingHead → CrossingHead → Type 0
IsBeside one h = (h.carrier ≡ one.carrier) × (h.first ≡ one.first)

module _ (b : Book) (q : Request) (at : Position) where
  -- heads stay those that were gathered in another order
  pub heads_reordered : (heads sorted : List CrossingHead) → IsPermutation heads sorted → AreCrossingHeads b q at heads → AreCrossingHeads b q at sorted
  heads_reordered heads sorted order h = record {
    each = each_reordered (λ (x : CrossingHead). (path : Path) × IsCrossingHead b q at path x) heads sorted order h.each;
    all = λ path fs is open_path tail follows. let x = h.all path fs is open_path tail follows in (x.0, in_reordered heads sorted x.0 order x.1, x.2);
  }

  module _ (heads : List CrossingHead) (are : AreCrossingHeads b q at heads) where
    -- those of a bucket
    pub bucket_heads : (one : CrossingHead) (from to : ℕ) → Each (IsBeside one) (between heads from to) → Each (IsHeadOf b q at one.carrier one.first) (between heads from to)
    bucket_heads one from to beside = each_from (IsHeadOf b q at one.carrier one.first) (between heads from to) (λ h i.
        let x = each_in (λ (y : CrossingHead). (path : Path) × IsCrossingHead b q at path y) heads h are.each (in_between heads from to h i) in
        let same = each_in (IsBeside one) (between heads from to) h beside i in
        record { path = x.0; is = x.1; carrier_is = same.0; first_is = same.1 })

    -- each component that crosses goes on from one of the heads
    pub crossing_heads : Limited b → (o : Outline) (price : ℕ) (x : Outlined b q at o price) → CrossingPaths b q at o x.numbers → IsOfOne (GoesOn b q at) heads 0 (length heads) o x.numbers
    crossing_heads limited o price x (fs, c) =
        let path : Path = record { flights = x.numbers; after = o.after } in
        let front : Path = record { flights = c.head; after = Some c.middle } in
        let tail : Path = record { flights = c.tail; after = o.after } in
        let joined : IsJoined b q.slices at front tail path = crosses_joined b q.slices at path fs c in
        let h = are.all front c.head_flights c.is_head (head_open b q at front tail joined.follows limited o price x c.numbers) tail joined.follows in
        let place = in_got heads h.0 h.1 in
        record {
          place = place.0;
          low = omega arith;
          high = got_within heads place.0 h.0 place.1;
          one = h.0;
          stands = place.1;
          is = record { head_path = front; head_is = h.2; tail_path = tail; follows = joined.follows; numbers = c.numbers; after = refl };
        }

  -- what goes on from a head of a part of them is of the part
  pub of_part : (heads : List CrossingHead) (from to : ℕ) (o : Outline) (ns : List ℕ) → IsOfOne (GoesOn b q at) heads from to o ns → FromHeads b q at (between heads from to) o ns
  of_part heads from to o ns w = record { head = w.one; within = got_between heads from to w.place w.one w.stands w.low w.high; goes = w.is }
