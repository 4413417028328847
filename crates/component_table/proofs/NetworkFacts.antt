-- What is found for a search stays right as more is found.
use Rattle.std.proofs.Common.{◌≡◌, ◌⊎◌, ℕ, zero, suc, ◌<◌, ◌≤◌, List, [], ◌∷◌, ◌++◌, length, length-append, None, Some, Vec, refl, sym, ap, subst, ◌∙◌, set, slice_get, inl, inr, arith}
use Rattle.std.specs.declared.alloc.Global.{Global}
use Rattle.component_table.specs.declared.networks.FareTails.{FareTails}
use Rattle.component_table.specs.declared.networks.Network.{Network}
use Rattle.component_table.specs.declared.tables.TableRoom.{TableRoom}
use Rattle.component_table.specs.Tails.{FareTailsStand}
use Rattle.component_table.specs.Networks.{AreFareTailsOf, AreFlightTables, IsNetwork, IsTableRoom}
use Rattle.component_table.specs.declared.slice_tails.SliceTails.{SliceTails}
use Rattle.component_table.specs.Crossings.{IsSliceTails, KeepsSlice}
use Rattle.fare_ends.specs.declared.ends.FareEnds.{FareEnds}
use Rattle.fare_ends.specs.declared.markets.Markets.{Markets}
use Rattle.fare_ends.specs.Ends.{KnowsMore}
use Rattle.fare_ends.proofs.EndFacts.{knows_self}
use Rattle.fare_ends.specs.Markets.{AreMarkets}
use Rattle.fare_ends.specs.Masks.{AreMasks}
use Rattle.fare_ends.specs.Tails.{AreEnds, AreTailsFrom, AreTailsOver}
use Rattle.fare_law.specs.declared.names.Place.{Place}
use Rattle.fare_law.specs.declared.requests.Request.{Request}
use Rattle.fare_law.specs.declared.flights.Flight.{Flight}
use Rattle.fare_law.specs.Book.{Book, flight_at}
use Rattle.fare_law.specs.Lists.{Each, IsPrefix}
use Rattle.fare_law.specs.Parts.{Numbers}
use Rattle.flight_paths.specs.declared.positions.Path.{Path}
use Rattle.flight_paths.specs.declared.positions.Position.{Position}
use Rattle.flight_paths.specs.Heads.{AreTails, IsTail, chosen}
use Rattle.flight_paths.specs.Marks.{AreMarks}
use Rattle.flight_paths.specs.Positions.{position_before}
use Rattle.joint_paths.specs.declared.join_ends.CarrierJoins.{CarrierJoins}
use Rattle.joint_paths.specs.declared.join_ends.JoinEnds.{JoinEnds}
use Rattle.joint_paths.specs.declared.join_ends.PlaceJoins.{PlaceJoins}
use Rattle.joint_paths.specs.declared.tail_classes.TailEnd.{TailEnd}
use Rattle.joint_paths.specs.JoinEnds.{AreFareJoins, AreJoinEnds, ArePlaceEnds}
use Rattle.joint_paths.specs.Tails.{IsShortPath}
use Rattle.joint_paths.proofs.JoinFacts.{joins_stay}
use Rattle.component_table.specs.declared.begun.Known.{Known}
use Rattle.component_table.specs.Begun.{IsKnown}
use Rattle.component_table.specs.Tables.{IsPricedTable, IsTable}
use Rattle.law_lemmas.proofs.EachOne.{each_by, each_from, each_got, each_in, each_more}
use Rattle.law_lemmas.proofs.Lists.{got_left, some_length}
use Rattle.law_lemmas.proofs.Options.{some_same}
use Rattle.law_lemmas.proofs.Pairs.{matched_length}
use Rattle.outline_tables.specs.declared.flight_tables.FlightTables.{FlightTables}
use Rattle.outline_tables.specs.declared.outline_numbers.Priced.{Priced}
use Rattle.outline_tables.specs.declared.outline_numbers.RuledOutline.{RuledOutline}
use Rattle.outline_tables.specs.FlightTables.{AreRanges}
use Rattle.outline_tables.specs.Merges.{IsMerging}
use Rattle.outline_tables.proofs.NumberFacts.{entries_more}
use Rattle.fare_ends.specs.Begins.{of_flight}
use Rattle.residual_keys.proofs.Runs.{flies_numbers}

-- one element in the place of another
pub each_set : {X : Type 0} (P : X → Type 0) (xs : List X) (i : ℕ) (x : X) → Each P xs → P x → Each P (set xs i x)
each_set P [] i x h p = tt
each_set P (y ∷ ys) zero x h p = (p, h.1)
each_set P (y ∷ ys) (suc i) x h p = (h.0, each_set P ys i x h.1 p)

-- nothing stands in an empty list
pub none_stands : {X : Type 0} (n : ℕ) (x : X) → slice_get [] n ≡ Some x → ⊥
none_stands zero x e = absurd (cc)
none_stands (suc n) x e = absurd (cc)

-- what stands at a place stands there still, or is the one that was replaced
pub set_stands : {X : Type 0} (xs : List X) (i n : ℕ) (x y z : X) → slice_get xs i ≡ Some y → slice_get xs n ≡ Some z → (slice_get (set xs i x) n ≡ Some z) ⊎ ((slice_get (set xs i x) n ≡ Some x) × (y ≡ z))
set_stands [] i n x y z e f = absurd (cc)
set_stands (w ∷ ws) zero zero x y z e f = inr (refl, some_same y z (sym e ∙ f))
set_stands (w ∷ ws) zero (suc n) x y z e f = inl f
set_stands (w ∷ ws) (suc i) zero x y z e f = inl f
set_stands (w ∷ ws) (suc i) (suc n) x y z e f = set_stands ws i n x y z e f

-- they stand where they stood
pub fare_tails_more : (b : Book) (q : Request) (tails : List SliceTails) (one : SliceTails) (fare_tails : List FareTails) → Each (AreFareTailsOf b q tails) fare_tails → Each (AreFareTailsOf b q (tails ++ one ∷ [])) fare_tails
fare_tails_more b q tails one fare_tails h = each_from (AreFareTailsOf b q (tails ++ one ∷ [])) fare_tails (λ t i.
    let x = each_in (AreFareTailsOf b q tails) fare_tails t h i in
    record { among = x.among; stands = got_left tails (one ∷ []) t.among x.among x.stands; within = x.within; are = x.are })

module _ (b : Book) (q : Request) (tails : List SliceTails) (i : ℕ) (old new : SliceTails) (stands : slice_get tails i ≡ Some old) (keeps : KeepsSlice old new) where
  -- numbers of tails are those of the same tails
  fare_tails_kept : (t : FareTails) → AreFareTailsOf b q tails t → AreFareTailsOf b q (set tails i new) t
  fare_tails_kept t h = elim (set_stands tails i t.among new old h.among stands h.stands) [
    | inl e ↦ record { among = h.among; stands = e; within = h.within; are = h.are }
    | inr e ↦
        let same : h.among.paths ≡ new.paths = ap (λ (s : SliceTails). s.paths) (sym e.1) ∙ sym keeps.paths in
        record {
          among = new;
          stands = e.0;
          within = subst (λ ps. Each (λ n. n < length ps) t.numbers) same h.within;
          are = subst (λ ps. AreTailsFrom b q t.place t.slice (chosen ps t.numbers)) same h.are;
        }
  ]

  pub fare_tails_stay : (fare_tails : List FareTails) → Each (AreFareTailsOf b q tails) fare_tails → Each (AreFareTailsOf b q (set tails i new)) fare_tails
  fare_tails_stay fare_tails h = each_by (AreFareTailsOf b q tails) (AreFareTailsOf b q (set tails i new)) fare_tails fare_tails_kept h

-- where tails end for which places have fares, as more fares are known
pub ends_grow : (b : Book) (old new : FareEnds) (ends : List TailEnd) (known : JoinEnds) → KnowsMore old new → AreJoinEnds b old ends known → AreJoinEnds b new ends known
ends_grow b old new ends known more h = record {
  places = h.places;
  joins = each_by (λ (k : CarrierJoins). AreFareJoins b old ends k.key k.range known.ends.items) (λ (k : CarrierJoins). AreFareJoins b new ends k.key k.range known.ends.items) known.kept.items
      (λ k. joins_stay b k.key old new more ends k.range known.ends.items) h.joins;
}

-- nothing is known of them yet
pub ends_none : (b : Book) (fares : FareEnds) (ends : List TailEnd) (known : JoinEnds) → known.kept_places.items ≡ [] → known.kept.items ≡ [] → AreJoinEnds b fares ends known
ends_none b fares ends known places kept = record {
  places = subst (Each (λ (p : PlaceJoins). ArePlaceEnds b ends p.place p.range known.place_ends.items)) (sym places) tt;
  joins = subst (Each (λ (k : CarrierJoins). AreFareJoins b fares ends k.key k.range known.ends.items)) (sym kept) tt;
}

pub slices_grow : (b : Book) (q : Request) (old new : FareEnds) → KnowsMore old new → (tails : List SliceTails) → Each (IsSliceTails b q old) tails → Each (IsSliceTails b q new) tails
slices_grow b q old new more tails h = each_by (IsSliceTails b q old) (IsSliceTails b q new) tails (λ t s. record { tails = s.tails; classes = s.classes; joins = ends_grow b old new t.classes.ends.items t.joins more s.joins }) h

-- a table by numbers is the same as more outlines are known
pub priced_more : (b : Book) (q : Request) (at : Position) (known more : List RuledOutline) (table : List Priced) → IsPrefix known more → IsPricedTable b q at known table → IsPricedTable b q at more table
priced_more b q at known more table prefix h = record {
  numbers = each_by (λ (p : Priced). p.outline < length known) (λ (p : Priced). p.outline < length more) table (λ p lt. subst (λ xs. p.outline < length xs) (sym prefix.1) (longer p.outline lt)) h.numbers;
  is = subst (IsTable b q at) (sym (entries_more known more prefix table h.numbers)) h.is;
}
  where
    longer : (n : ℕ) → n < length known → n < length (known ++ prefix.0)
    longer n lt = let l = length-append known prefix.0 in omega (arith, lt, l)

pub tables_more : (b : Book) (q : Request) (known more : List RuledOutline) (kept : FlightTables) → IsPrefix known more → AreFlightTables b q known kept → AreFlightTables b q more kept
tables_more b q known more kept prefix h slice leg flight table lt stands f is = priced_more b q (of_flight slice leg flight f) known more table prefix (h slice leg flight table lt stands f is)

-- what tables are made of, as more is known
pub room_more : (b : Book) (q : Request) (old new : TableRoom) → IsTableRoom b q old → IsKnown b new.known → IsPrefix old.known.outlines.of.items new.known.outlines.of.items → new.flights ≡ old.flights → new.merging ≡ old.merging → IsTableRoom b q new
room_more b q old new h known more flights merging = record {
  known = known;
  ranges = subst AreRanges (sym flights) h.ranges;
  flights = subst (AreFlightTables b q new.known.outlines.of.items) (sym flights) (tables_more b q old.known.outlines.of.items new.known.outlines.of.items old.flights more h.flights);
  merging = subst IsMerging (sym merging) h.merging;
}

-- all of it, with another room, markets and masks
pub network_with : (b : Book) (q : Request) (old new : Network) → IsNetwork b q old → AreMarkets b new.markets.kept.items → AreMasks b q new.masks → new.tails.items ≡ old.tails.items → new.fare_tails.items ≡ old.fare_tails.items → KnowsMore old.room.known.fares new.room.known.fares → IsTableRoom b q new.room → IsNetwork b q new
network_with b q old new h markets masks tails fare_tails more room = record {
  markets = markets;
  tails = subst (Each (λ (t : SliceTails). AreTailsOver b q.slices t.slice t.paths)) (sym tails) h.tails;
  marks = subst (Each (λ (t : SliceTails). AreMarks b.timetable.flights t.paths t.marks)) (sym tails) h.marks;
  masks = masks;
  ends = subst (Each (λ (t : SliceTails). AreEnds b t.paths t.ends)) (sym tails) h.ends;
  slices = subst (Each (IsSliceTails b q new.room.known.fares)) (sym tails) (slices_grow b q old.room.known.fares new.room.known.fares more old.tails.items h.slices);
  fare_tails = subst (λ (ts : List SliceTails). Each (AreFareTailsOf b q ts) new.fare_tails.items) (sym tails) (subst (Each (AreFareTailsOf b q old.tails.items)) (sym fare_tails) h.fare_tails);
  room = room;
}

-- all of it, with another merge in hand
pub network_merging : (b : Book) (q : Request) (old new : Network) → IsNetwork b q old → new.markets ≡ old.markets → new.masks ≡ old.masks → new.tails ≡ old.tails → new.fare_tails ≡ old.fare_tails → new.room.known ≡ old.room.known → new.room.flights ≡ old.room.flights → IsMerging new.room.merging → IsNetwork b q new
network_merging b q old new h markets masks tails fare_tails known flights merging =
    network_with b q old new h
    (subst (λ (m : Markets). AreMarkets b m.kept.items) (sym markets) h.markets) (subst (AreMasks b q) (sym masks) h.masks)
    (ap (λ (ts : Vec SliceTails Global). ts.items) tails) (ap (λ (fs : Vec FareTails Global). fs.items) fare_tails)
    (subst (λ (k : Known). KnowsMore old.room.known.fares k.fares) (sym known) (knows_self old.room.known.fares))
    (record {
      known = subst (IsKnown b) (sym known) h.room.known;
      ranges = subst AreRanges (sym flights) h.room.ranges;
      flights = subst (λ (k : Known). AreFlightTables b q k.outlines.of.items new.room.flights) (sym known) (subst (AreFlightTables b q old.room.known.outlines.of.items) (sym flights) h.room.flights);
      merging = merging;
    })

-- the tails of one slice more
pub record IsOwnSlice (b : Book) (q : Request) (fares : FareEnds) (t : SliceTails) : Type 0 where
  pub over : AreTailsOver b q.slices t.slice t.paths
  pub marks : AreMarks b.timetable.flights t.paths t.marks
  pub ends : AreEnds b t.paths t.ends
  pub slice : IsSliceTails b q fares t

pub network_grown : (b : Book) (q : Request) (old new : Network) (t : SliceTails) → IsNetwork b q old → IsOwnSlice b q new.room.known.fares t → new.markets ≡ old.markets → AreMasks b q new.masks → new.tails.items ≡ old.tails.items ++ t ∷ [] → new.fare_tails ≡ old.fare_tails → new.room.known.fares ≡ old.room.known.fares → IsTableRoom b q new.room → IsNetwork b q new
network_grown b q old new t h own markets masks tails fare_tails fares room = record {
  markets = subst (λ (m : Markets). AreMarkets b m.kept.items) (sym markets) h.markets;
  tails = subst (Each (λ (t : SliceTails). AreTailsOver b q.slices t.slice t.paths)) (sym tails) (each_more (λ (t : SliceTails). AreTailsOver b q.slices t.slice t.paths) old.tails.items t h.tails own.over);
  marks = subst (Each (λ (t : SliceTails). AreMarks b.timetable.flights t.paths t.marks)) (sym tails) (each_more (λ (t : SliceTails). AreMarks b.timetable.flights t.paths t.marks) old.tails.items t h.marks own.marks);
  masks = masks;
  ends = subst (Each (λ (t : SliceTails). AreEnds b t.paths t.ends)) (sym tails) (each_more (λ (t : SliceTails). AreEnds b t.paths t.ends) old.tails.items t h.ends own.ends);
  slices = subst (Each (IsSliceTails b q new.room.known.fares)) (sym tails) (each_more (IsSliceTails b q new.room.known.fares) old.tails.items t (subst (λ fs. Each (IsSliceTails b q fs) old.tails.items) (sym fares) h.slices) own.slice);
  fare_tails = subst (λ (ts : List SliceTails). Each (AreFareTailsOf b q ts) new.fare_tails.items) (sym tails) (fare_tails_more b q old.tails.items t new.fare_tails.items (subst (λ (fs : Vec FareTails Global). Each (AreFareTailsOf b q old.tails.items) fs.items) (sym fare_tails) h.fare_tails));
  room = room;
}

-- the tails of a slice with more known of their ends, in place of themselves
module _ (b : Book) (q : Request) (old new : Network) (at : ℕ) (was now : SliceTails) (h : IsNetwork b q old) (stands : slice_get old.tails.items at ≡ Some was) (keeps : KeepsSlice was now) where
  over_stays : AreTailsOver b q.slices now.slice now.paths
  over_stays = subst (λ ps. AreTailsOver b q.slices now.slice ps) (sym keeps.paths) (subst (λ i. AreTailsOver b q.slices i was.paths) (sym keeps.slice) (each_got (λ (t : SliceTails). AreTailsOver b q.slices t.slice t.paths) old.tails.items at was h.tails stands))

  marks_stay : AreMarks b.timetable.flights now.paths now.marks
  marks_stay = subst (λ ps. AreMarks b.timetable.flights ps now.marks) (sym keeps.paths) (subst (AreMarks b.timetable.flights was.paths) (sym keeps.marks) (each_got (λ (t : SliceTails). AreMarks b.timetable.flights t.paths t.marks) old.tails.items at was h.marks stands))

  ends_stay : AreEnds b now.paths now.ends
  ends_stay = subst (λ ps. AreEnds b ps now.ends) (sym keeps.paths) (subst (AreEnds b was.paths) (sym keeps.ends) (each_got (λ (t : SliceTails). AreEnds b t.paths t.ends) old.tails.items at was h.ends stands))

  pub network_joined : new.tails.items ≡ set old.tails.items at now → new.fare_tails ≡ old.fare_tails → new.masks ≡ old.masks → AreMarkets b new.markets.kept.items → KnowsMore old.room.known.fares new.room.known.fares → IsSliceTails b q new.room.known.fares now → IsTableRoom b q new.room → IsNetwork b q new
  network_joined tails fare_tails masks markets more slice room = record {
    markets = markets;
    tails = subst (Each (λ (t : SliceTails). AreTailsOver b q.slices t.slice t.paths)) (sym tails) (each_set (λ (t : SliceTails). AreTailsOver b q.slices t.slice t.paths) old.tails.items at now h.tails over_stays);
    marks = subst (Each (λ (t : SliceTails). AreMarks b.timetable.flights t.paths t.marks)) (sym tails) (each_set (λ (t : SliceTails). AreMarks b.timetable.flights t.paths t.marks) old.tails.items at now h.marks marks_stay);
    masks = subst (AreMasks b q) (sym masks) h.masks;
    ends = subst (Each (λ (t : SliceTails). AreEnds b t.paths t.ends)) (sym tails) (each_set (λ (t : SliceTails). AreEnds b t.paths t.ends) old.tails.items at now h.ends ends_stay);
    slices = subst (Each (IsSliceTails b q new.room.known.fares)) (sym tails) (each_set (IsSliceTails b q new.room.known.fares) old.tails.items at now (slices_grow b q old.room.known.fares new.room.known.fares more old.tails.items h.slices) slice);
    fare_tails = subst (λ (ts : List SliceTails). Each (AreFareTailsOf b q ts) new.fare_tails.items) (sym tails) (fare_tails_stay b q old.tails.items at was now stands keeps new.fare_tails.items (subst (λ (fs : Vec FareTails Global). Each (AreFareTailsOf b q old.tails.items) fs.items) (sym fare_tails) h.fare_tails));
    room = room;
  }

-- what is known of the tails that a place needs
pub record ArePlaced (b : Book) (q : Request) (place : Place) (slice : ℕ) (s : SliceTails) (t : FareTails) : Type 0 where
  pub within : Each (λ n. n < length s.paths) t.numbers
  pub are : AreTailsFrom b q place slice (chosen s.paths t.numbers)
  pub marks : AreMarks b.timetable.flights s.paths s.marks

pub are_placed : (b : Book) (q : Request) (n : Network) (h : IsNetwork b q n) (place : Place) (slice at : ℕ) → FareTailsStand n.fare_tails.items place slice at → (t : FareTails) (s : SliceTails) → slice_get n.fare_tails.items at ≡ Some t → slice_get n.tails.items t.among ≡ Some s → ArePlaced b q place slice s t
are_placed b q n h place slice at f t s there among =
    let same : f.tails ≡ t = some_same f.tails t (sym f.stands ∙ there) in
    let x = each_got (AreFareTailsOf b q n.tails.items) n.fare_tails.items at t h.fare_tails there in
    let own : x.among ≡ s = some_same x.among s (sym x.stands ∙ among) in
    let place_is : t.place ≡ place = ap (λ (y : FareTails). y.place) (sym same) ∙ f.place_is in
    let slice_is : t.slice ≡ slice = ap (λ (y : FareTails). y.slice) (sym same) ∙ f.slice_is in
    record {
      within = subst (λ (y : SliceTails). Each (λ n. n < length y.paths) t.numbers) own x.within;
      are = subst (λ (y : SliceTails). AreTailsFrom b q place slice (chosen y.paths t.numbers)) own (subst (λ p. AreTailsFrom b q p slice (chosen x.among.paths t.numbers)) place_is (subst (λ i. AreTailsFrom b q t.place i (chosen x.among.paths t.numbers)) slice_is x.are));
      marks = each_got (λ (y : SliceTails). AreMarks b.timetable.flights y.paths y.marks) n.tails.items t.among s h.marks among;
    }

-- the tails of a slice are paths of one to three flights
pub tails_short : (b : Book) (q : Request) (slice : ℕ) (paths : List Path) → AreTails b q.slices slice paths → Each (IsShortPath b) paths
tails_short b q slice paths h = each_from (IsShortPath b) paths (λ p i. of p ((h.are p).0 i))
  where
    of : (p : Path) → (fs : List Flight) × IsTail b q.slices slice p.flights fs p.after → IsShortPath b p
    of p (fs, t) =
        let numbers : Numbers b p.flights fs = flies_numbers b q.slices (Some (position_before b slice t.slice None)) p.after p.flights fs t.path.flies in
        record {
          flights = fs;
          numbers = numbers;
          some = some_length p.flights t.path.some;
          few = subst (λ n. n ≤ 3) (sym (matched_length (λ n f. flight_at b n ≡ Some f) p.flights fs numbers)) t.few;
        }
