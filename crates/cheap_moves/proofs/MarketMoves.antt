-- What the groups of a market give on a path are the moves there with the market's fares.
use Rattle.std.proofs.Common.{◌≡◌, ℕ, ◌+◌, ◌<◌, Bool, List, [], slice_get, Option, Some, IsBitSet, IfNone, refl, sym, ap, ap₂, subst, ◌∙◌, arith}
use Rattle.cheap_moves.specs.declared.component.Flown.{Flown}
use Rattle.cheap_moves.specs.Making.{IsGroupMove, IsOver, IsWithinFiled, Of}
use Rattle.cheap_moves.specs.Prospects.{HasProspects, IsProspectMove, prospect_as}
use Rattle.cheap_moves.proofs.FareMoves.{row_at}
use Rattle.fare_ends.specs.declared.markets.Market.{Market}
use Rattle.fare_book.specs.Keeping.{NoFare}
use Rattle.fare_groups.specs.declared.group.FareGroup.{FareGroup}
use Rattle.fare_groups.specs.declared.group.GroupedFare.{GroupedFare}
use Rattle.fare_groups.specs.Grouping.{IsRowOf, StandsOnce, fare_at}
use Rattle.fare_groups.specs.Groups.{HasClass, Permits, extra_of, group_of}
use Rattle.fare_groups.proofs.ByGroup.{offered_by_group, priced_by_group}
use Rattle.fare_groups.proofs.OneGroup.{each_stands_once}
use Rattle.fare_law.specs.declared.flights.Flight.{Flight}
use Rattle.fare_law.specs.declared.moves.Move.{Move}
use Rattle.fare_law.specs.declared.names.Place.{Place}
use Rattle.fare_law.specs.declared.requests.Request.{Request}
use Rattle.fare_law.specs.declared.sheets.Leg.{Leg}
use Rattle.fare_law.specs.declared.sheets.SheetRow.{SheetRow}
use Rattle.fare_law.specs.declared.tickets.Piece.{Piece}
use Rattle.fare_law.specs.Book.{Book}
use Rattle.fare_law.specs.Lists.{IsIn, OnFirst, OnLast}
use Rattle.fare_law.specs.Offers.{HasDirection, IsOffered, flights_of}
use Rattle.fare_law.specs.Parts.{price_of, share, stopover_charge, surcharges}
use Rattle.fare_law.specs.Sheets.{IsLiveRow, Sheet}
use Rattle.flight_paths.specs.declared.positions.Path.{Path}
use Rattle.flight_paths.specs.Positions.{IsPath}
use Rattle.outlines.proofs.Offering.{keyed, move_with}
use Rattle.residual_keys.specs.declared.residual.Chosen.{Chosen}
use Rattle.residual_keys.specs.Gathered.{Adds, FiledOver, IsChosenFiled, IsPathOf}
use Rattle.residual_keys.specs.Residuals.{State, begins, closes, part_with}
use Rattle.residual_keys.specs.Steps.{IsChosen, IsLiveOn, KeyOn, Leaves, MarketOver, left_at}
use Rattle.residual_keys.proofs.Adding.{adds_like, adds_none}
use Rattle.residual_keys.proofs.Markets.{no_moves}
use Rattle.residual_keys.proofs.Offered.{filed_market, market_filed}
use Rattle.residual_keys.proofs.OneNext.{direction}
use Rattle.residual_keys.proofs.StepFacts.{IsOver as IsOverRow, key_directed, moves_key, offered_lawful}
use Rattle.residual_keys.proofs.StepTaken.{flights_same, move_offered, taken_at, whole}
use Rattle.law_lemmas.proofs.Members.{got_in, in_got}
use Rattle.law_lemmas.proofs.Options.{some_one}

module _ (b : Book) (q : Request) (r : State) (bound : State → Option ℕ) (limit : Option ℕ) (flown : Flown) (reverse : Bool) (m : Market) (is : IsOver b q r flown reverse m) where
  abbrev sheet : Sheet
  sheet = m.sheet.value

  abbrev path : Path
  path = flown.way.path

  abbrev fs : List Flight
  fs = flown.way.flights

  abbrev legs : List Leg
  legs = flown.way.legs

  live_of : (row : SheetRow) → IsIn row sheet.rows → IsLiveRow b sheet.from sheet.to row
  live_of row i = (is.over.sheet_is.live row).0 i

  class_low : (row : SheetRow) → IsIn row sheet.rows → row.fare.class < 32
  class_low row i = let class = (is.over.limited.fares row.fare.key row.fare (live_of row i).fare).1.class in omega (arith, class)

  filed_of : (row : SheetRow) → IsIn row sheet.rows → FiledOver reverse fs row.fare.key
  filed_of row i = market_filed reverse fs sheet.from sheet.to row.fare.key is.over.market (live_of row i).filed_from (live_of row i).filed_to

  directed : (row : SheetRow) → IsIn row sheet.rows → HasDirection row.fare.key (flights_of legs)
  directed row i = subst (HasDirection row.fare.key) (sym is.over.legs_are.flights) (key_directed (move_with row.fare.key reverse) fs row.fare.key (keyed row.fare.key reverse fs (filed_of row i)))

  -- what a group gives is a move
  forth : (c : Chosen) → Of (IsGroupMove q r bound limit flown reverse m) m.groups c → IsWithinFiled b q r bound limit path.flights reverse c
  forth c (g, i, h) = ((((whole b q r c).1 chosen, ns), way), h.counts)
    where
      j : IsIn h.row sheet.rows
      j = got_in sheet.rows h.fare.place h.row h.stands

      mv : Move
      mv = c.mv

      ns : c.mv.flights ≡ path.flights
      ns = ap (λ (x : Move). x.flights) h.move

      role_is : c.mv.role ≡ h.role
      role_is = ap (λ (x : Move). x.role) h.move

      slot_is : c.mv.slot ≡ h.slot
      slot_is = ap (λ (x : Move). x.slot) h.move

      way : closes c.mv.role ≡ reverse
      way = ap closes role_is ∙ sym (direction h.role h.slot r.units h.leaves.units h.piece h.leaves.step) ∙ h.piece_is.reads.reverse_is

      at_path : IsPath b q.slices r.at c.mv.flights fs path.after
      at_path = subst (λ xs. IsPath b q.slices r.at xs fs path.after) (sym ns) is.over.path_is

      row_is : IsRowOf sheet.rows g.key h.fare
      row_is = row_at b q r.at path fs legs flown.classes reverse sheet m.groups is.over g i h.fare h.of

      same : h.row ≡ row_is.row
      same = some_one (slice_get sheet.rows h.fare.place) h.row row_is.row h.stands row_is.stands

      key : group_of h.row ≡ g.key
      key = ap group_of same ∙ row_is.key_is

      fare_is : h.fare ≡ fare_at h.fare.place h.row
      fare_is = row_is.fare ∙ ap (fare_at h.fare.place) (sym same)

      open_class : HasClass h.row.fare.class legs
      open_class = (is.over.classes_are h.row.fare.class (class_low h.row j)).0 (subst (IsBitSet flown.classes) (ap (λ (f : GroupedFare). f.class) fare_is) h.open_class)

      offered : IsOffered legs h.row
      offered = (offered_by_group g.key h.row.rule legs h.row key refl (directed h.row j)).1 (subst (Permits h.row.rule g.key.carrier) (sym is.over.legs_are.flights) h.permits, open_class)

      live : IsLiveOn b c.mv fs h.row
      live = record {
        key = record {
          carrier = sym (ap (λ (x : Move). x.carrier) h.move);
          basis = sym (ap (λ (x : Move). x.basis) h.move);
          ends = subst (λ t. MarketOver t fs h.row.fare.key.from h.row.fare.key.to) (sym way) (filed_of h.row j);
        };
        fare = (live_of h.row j).fare;
        rule = (live_of h.row j).rule;
      }

      over : IsOverRow q c.mv fs h.row h.piece
      over = record { begins = h.piece_is.reads.begins; ends = h.piece_is.reads.ends; fare = h.piece_is.fare; rule = h.piece_is.reads.rule; reverse = h.piece_is.reads.reverse_is ∙ sym way; sale = h.piece_is.reads.sale_is }

      costs : c.price ≡ price_of fs h.piece
      costs = h.price ∙ ap (λ (f : GroupedFare). f.share + extra_of h.row.rule fs) fare_is ∙ sym (priced_by_group h.row.rule fs h.row refl) ∙ sym (ap₂ (λ f x. share f.kind f.amount + stopover_charge x fs + surcharges x.cat12 fs) h.piece_is.fare h.piece_is.reads.rule)

      leaves : Leaves r path.after h.piece c.mv.role c.mv.slot c.next
      leaves = subst (λ x. Leaves r path.after h.piece x c.mv.slot c.next) (sym role_is) (subst (λ x. Leaves r path.after h.piece h.role x c.next) (sym slot_is) h.leaves)

      chosen : IsChosen b q r (record { mv = c.mv; price = c.price; next = c.next })
      chosen = taken_at b q r c.mv fs path.after at_path h.row h.piece live over
          (offered_lawful b q.party fs legs h.row h.piece is.over.legs_are.each is.over.legs_are.flights h.piece_is.fare h.piece_is.reads.rule (class_low h.row j) is.over.path_is.shape offered) c.price costs c.next leaves

  -- and each move is given
  back : (c : Chosen) (h : IsWithinFiled b q r bound limit path.flights reverse c) → (g : FareGroup) × IsIn g m.groups × (g.key ≡ (prospect_as h.0.0.0.piece).key) × IsGroupMove q r bound limit flown reverse m g c
  back c (((chosen, ns), way), counts) = (
    once.group,
    once.within,
    once.key,
    record {
      fare = fare_at place.0 row;
      of = once.stands;
      row = row;
      stands = place.1;
      open_class = (is.over.classes_are row.fare.class (class_low row i)).1 parts.1;
      permits = subst (Permits row.rule once.group.key.carrier) is.over.legs_are.flights parts.0;
      piece = p;
      piece_is = record {
        fare = refl;
        reads = record {
          begins = subst (OnFirst (λ f. (p.begin ≡ f.from) × (p.first_day ≡ f.day))) same.0 chosen.moves.stands.begins;
          ends = subst (OnLast (λ f. (p.end ≡ f.to) × (p.last_day ≡ f.day))) same.0 chosen.moves.stands.ends;
          carrier = refl;
          number = refl;
          kind = refl;
          rule = refl;
          reverse_is = direction c.mv.role c.mv.slot r.units chosen.units p chosen.moves.units ∙ way;
          sale_is = chosen.moves.stands.sale_is;
        };
      };
      role = c.mv.role;
      slot = c.mv.slot;
      move = move;
      price = chosen.costs ∙ ap (λ gs. price_of gs p) same.0 ∙ priced_by_group row.rule fs row refl;
      leaves = record {
        units = chosen.units;
        step = chosen.moves.units;
        part = chosen.moves.part;
        done = subst (λ z. IfNone z (chosen.units ≡ [])) same.1 chosen.moves.done;
        left = chosen.left ∙ ap (λ z. left_at z chosen.units (part_with r.part (begins c.mv.role) p)) same.1;
      };
      counts = counts;
    },
  )
    where
      p : Piece
      p = chosen.piece

      row : SheetRow
      row = record { fare = p.fare; rule = p.rule }

      at_path : IsPath b q.slices r.at c.mv.flights fs path.after
      at_path = subst (λ xs. IsPath b q.slices r.at xs fs path.after) (sym ns) is.over.path_is

      same : (chosen.flights ≡ fs) × (chosen.after ≡ path.after)
      same = flights_same b q r c.mv fs path.after at_path chosen.flights p chosen.after chosen.units chosen.moves

      key : KeyOn c.mv fs p.fare.key
      key = subst (λ xs. KeyOn c.mv xs p.fare.key) same.0 (moves_key b q r c.mv chosen.flights p chosen.after chosen.units chosen.moves)

      ends : (p.fare.key.from ≡ sheet.from) × (p.fare.key.to ≡ sheet.to)
      ends = filed_market reverse fs sheet.from sheet.to p.fare.key is.over.market (subst (λ t. FiledOver t fs p.fare.key) way key.ends)

      i : IsIn row sheet.rows
      i = (is.over.sheet_is.live row).1 (record { filed_from = ends.0; filed_to = ends.1; fare = chosen.moves.stands.fare; rule = chosen.moves.stands.rule })

      place : (n : ℕ) × (slice_get sheet.rows n ≡ Some row)
      place = in_got sheet.rows row i

      once : StandsOnce place.0 row m.groups
      once = each_stands_once sheet.rows m.groups is.over.groups_are place.0 row place.1

      offered : IsOffered legs row
      offered = move_offered b q r c.mv fs path.after at_path row legs (record { key = key; fare = chosen.moves.stands.fare; rule = chosen.moves.stands.rule }) is.over.legs_are.each is.over.legs_are.flights (class_low row i) c.next (c.price, (whole b q r c).0 chosen)

      parts : Permits row.rule once.group.key.carrier (flights_of legs) × HasClass row.fare.class legs
      parts = (offered_by_group once.group.key row.rule legs row (sym once.key) refl (directed row i)).0 offered

      carrier : c.mv.carrier ≡ row.fare.key.carrier
      carrier = chosen.moves.carrier

      basis : c.mv.basis ≡ row.fare.key.basis
      basis = chosen.moves.basis

      move : c.mv ≡ record { flights = path.flights; carrier = row.fare.key.carrier; basis = row.fare.key.basis; role = c.mv.role; slot = c.mv.slot }
      move = λ i. record { flights = ns i; carrier = carrier i; basis = basis i; role = c.mv.role; slot = c.mv.slot }

  -- by the groups with which moves on the path may be within the limit
  module _ (has : HasProspects b q r bound limit path flown.prospects) where
    given : (c : Chosen) → Of (IsProspectMove q r bound limit flown reverse m) flown.prospects c → IsWithinFiled b q r bound limit path.flights reverse c
    given c (x, i, h) = forth c (h.group, h.within, h.is)

    taken : (c : Chosen) → IsWithinFiled b q r bound limit path.flights reverse c → Of (IsProspectMove q r bound limit flown reverse m) flown.prospects c
    taken c h =
        let k = h.0.0.0 in
        let g = back c h in (
          prospect_as k.piece,
          has.all c k h.1 h.0.0.1,
          record { way = direction c.mv.role c.mv.slot r.units k.units k.piece k.moves.units ∙ h.0.1; group = g.0; within = g.1; key = g.2; is = g.3 },
        )

    pub market_had : (old new : List Chosen) → Adds (Of (IsProspectMove q r bound limit flown reverse m) flown.prospects) old new → Adds (IsWithinFiled b q r bound limit path.flights reverse) old new
    market_had old new h = adds_like (Of (IsProspectMove q r bound limit flown reverse m) flown.prospects) (IsWithinFiled b q r bound limit path.flights reverse) old new h (λ c. (given c, taken c))

-- where no fare is filed there is none
pub no_market : (b : Book) (q : Request) (r : State) (bound : State → Option ℕ) (limit : Option ℕ) (path : Path) (fs : List Flight) (reverse : Bool) (from to : Place) (old : List Chosen)
    → IsPathOf b q r path fs → MarketOver reverse fs from to → NoFare b from to → Adds (IsWithinFiled b q r bound limit path.flights reverse) old old
no_market b q r bound limit path fs reverse from to old is market none = adds_none (IsWithinFiled b q r bound limit path.flights reverse) old wrong
  where
    added : Adds (IsChosenFiled b q r path.flights reverse) [] []
    added = no_moves b q r path fs reverse from to [] is market none

    wrong : (c : Chosen) → IsWithinFiled b q r bound limit path.flights reverse c → ⊥
    wrong c h = subst (IsIn c) (sym added.joined) ((added.are c).1 h.0)
