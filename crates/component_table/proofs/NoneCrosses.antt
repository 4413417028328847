-- Where no head was gathered, no component crosses into the next slice.
use Rattle.std.proofs.Common.{◌≡◌, ℕ, List, [], ◌++◌, bit_and, Some, sym, subst, ◌∙◌, inr}
use Rattle.fare_book.specs.Keeping.{Limited}
use Rattle.fare_ends.proofs.LegFacts.{legs_exist}
use Rattle.fare_groups.proofs.Bits.{both_set}
use Rattle.fare_law.specs.declared.flights.Flight.{Flight}
use Rattle.fare_law.specs.declared.requests.Request.{Request}
use Rattle.fare_law.specs.Book.{Book}
use Rattle.fare_law.specs.Parts.{Numbers}
use Rattle.flight_paths.specs.declared.positions.Path.{Path}
use Rattle.flight_paths.specs.declared.positions.Position.{Position}
use Rattle.flight_paths.specs.Heads.{Crosses}
use Rattle.flight_paths.proofs.Crossing.{heads_and_tails}
use Rattle.flight_paths.proofs.Joining.{crosses_joined, head_flights}
use Rattle.joint_paths.specs.Tails.{IsOpen}
use Rattle.component_table.specs.Begun.{AreCrossingHeads, CrossingPaths}
use Rattle.component_table.proofs.OpenFacts.{class_low, class_open}
use Rattle.law_lemmas.proofs.LawFacts.{numbers_one}
use Rattle.outlines.specs.declared.outline.Outline.{Outline}
use Rattle.outlines.specs.Outlines.{Outlined}
use Rattle.fare_ends.specs.Legs.{HasLegs}
use Rattle.fare_ends.proofs.OpenClasses.{legs_of_both}
use Rattle.residual_keys.proofs.Runs.{flies_numbers}

module _ (b : Book) (q : Request) (at : Position) (o : Outline) (price : ℕ) (h : Outlined b q at o price) (limited : Limited b) where
  -- the class of a component's fare is open on the flights with which it begins
  open_front : (path : Path) (fs gs : List Flight) → h.flights ≡ fs ++ gs → Numbers b path.flights fs → IsOpen b q path
  open_front path fs gs parts numbers =
      let here = legs_exist b q fs in
      let there = legs_exist b q gs in
      let both = legs_of_both b q fs gs here.0 there.0 here.1 there.1 in
      let set = class_open b q at o price h limited (bit_and here.0 there.0) (subst (λ xs. HasLegs b q xs (bit_and here.0 there.0)) (sym parts) both) in
      record {
        flights = fs;
        numbers = numbers;
        classes = here.0;
        legs = here.1;
        class = h.piece.fare.class;
        low = class_low b q at o price h limited;
        open_class = ((both_set here.0 there.0 h.piece.fare.class).0 set).0;
      }

  pub none_crosses : AreCrossingHeads b q at [] → CrossingPaths b q at o h.numbers → ⊥
  none_crosses heads crossing =
      let c : Crosses b q.slices at h.numbers crossing.0 o.after = crossing.1 in
      let path : Path = record { flights = h.numbers; after = o.after } in
      let joined = crosses_joined b q.slices at path crossing.0 c in
      let head : Path = record { flights = c.head; after = Some c.middle } in
      let tail : Path = record { flights = c.tail; after = o.after } in
      let front = head_flights b q.slices at c.head c.head_flights (Some c.middle) c.is_head in
      let whole : Numbers b h.numbers h.flights = flies_numbers b q.slices (Some at) o.after h.numbers h.flights h.path.flies in
      let own : Numbers b h.numbers crossing.0 = flies_numbers b q.slices (Some at) o.after h.numbers crossing.0 ((heads_and_tails b q.slices at h.numbers crossing.0 o.after).1 (inr c)).flies in
      (heads.all head c.head_flights c.is_head (open_front head c.head_flights c.tail_flights (numbers_one b h.numbers h.flights crossing.0 whole own ∙ c.flights) front) tail joined.follows).1
