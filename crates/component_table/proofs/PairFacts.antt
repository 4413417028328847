-- A head of a bucket and a tail of a class that may follow it: the component of a group on their flights has the outline of the class.
use Rattle.std.proofs.Common.{◌≡◌, Bool, List, slice_get, bit_and, sym, ap, subst, ◌∙◌}
use Rattle.component_table.specs.Crossings.{IsOutlineOfBoth}
use Rattle.component_table.proofs.PairPaths.{pair_departs, pair_ends, pair_first, pair_flights, pair_legs, pair_path}
use Rattle.component_table.proofs.PathGroups.{first_by, market_between}
use Rattle.fare_book.specs.Keeping.{Limited}
use Rattle.fare_ends.specs.declared.ends.EndGroup.{EndGroup}
use Rattle.fare_ends.specs.declared.ends.EndKey.{EndKey}
use Rattle.fare_ends.specs.Ends.{IsSheetOfEnd}
use Rattle.fare_ends.specs.Reaches.{end_from, end_to}
use Rattle.fare_ends.proofs.SheetFacts.{own_sheet}
use Rattle.fare_groups.specs.declared.group.FareGroup.{FareGroup}
use Rattle.fare_groups.specs.declared.group.GroupKey.{GroupKey}
use Rattle.fare_law.specs.declared.flights.Flight.{Flight}
use Rattle.fare_law.specs.declared.names.Place.{Place}
use Rattle.fare_law.specs.declared.requests.Request.{Request}
use Rattle.fare_law.specs.Book.{Book}
use Rattle.fare_law.specs.Lists.{OnFirst, OnLast}
use Rattle.fare_law.specs.Parts.{Numbers}
use Rattle.fare_law.specs.Sheets.{Sheet}
use Rattle.flight_paths.specs.declared.positions.Path.{Path}
use Rattle.flight_paths.specs.Heads.{joined_path}
use Rattle.joint_paths.specs.declared.buckets.Bucket.{Bucket}
use Rattle.joint_paths.specs.declared.crossing_heads.CrossingHead.{CrossingHead}
use Rattle.joint_paths.specs.declared.tail_classes.JoinTail.{JoinTail}
use Rattle.joint_paths.specs.declared.tail_classes.TailClass.{TailClass}
use Rattle.joint_paths.specs.Heads.{FollowsOn, IsHeadOf}
use Rattle.joint_paths.specs.Tails.{IsJoinTail, IsTailOf}
use Rattle.law_lemmas.proofs.Ends.{on_last}
use Rattle.law_lemmas.proofs.Options.{some_one}
use Rattle.outlines.specs.declared.outline.Outline.{Outline}
use Rattle.outlines.specs.ByGroups.{OutlineOver, OverMarket}
use Rattle.fare_ends.specs.Legs.{HasLegs}
use Rattle.residual_keys.specs.Steps.{MarketOver}

abbrev pub book_of : Bucket → Book
book_of k = k.case.now.book.now

abbrev pub request_of : Bucket → Request
request_of k = k.case.now.request.now

-- the fares of a bucket's carrier for an end are asked for by this
abbrev pub key_of : Bucket → Place → EndKey
key_of k to = record { from = k.at.now.place; to = to; carrier = k.carrier }

module _ (k : Bucket) (h : CrossingHead) (t : JoinTail) (f : FollowsOn k h t) where
  -- their flights
  abbrev pub both_flights : List Flight
  both_flights = pair_flights (book_of k) (request_of k) k.at.now f.head_path f.tail_path f.follows

  abbrev pub both_path : Path
  both_path = joined_path f.head_path f.tail_path

  pub both_first : IsHeadOf (book_of k) (request_of k) k.at.now k.carrier k.first h → OnFirst (λ f. (f.carrier ≡ k.carrier) × (f.day ≡ k.first)) both_flights
  both_first own = first_by (λ f. (f.carrier ≡ h.carrier) × (f.day ≡ h.first)) (λ f. (f.carrier ≡ k.carrier) × (f.day ≡ k.first)) both_flights (λ f e. (e.0 ∙ own.carrier_is, e.1 ∙ own.first_is))
      (pair_first (book_of k) (request_of k) k.at.now f.head_path f.tail_path f.follows h f.head_is)

  pub both_ends : (c : TailClass) → IsTailOf (book_of k) k.paths.now c t → OnLast (λ f. (f.to ≡ c.end) × (f.day ≡ c.last)) both_flights
  both_ends c of =
      let same : of.path ≡ f.tail_path = some_one (slice_get k.paths.now t.number) of.path f.tail_path of.stands f.stands in
      pair_ends (book_of k) (request_of k) k.at.now f.head_path f.tail_path f.follows (λ f. (f.to ≡ c.end) × (f.day ≡ c.last)) (λ fs n. of.ends fs (subst (λ (p : Path). Numbers (book_of k) p.flights fs) (sym same) n))

  pub both_lead : (c : TailClass) → IsTailOf (book_of k) k.paths.now c t → f.tail_path.after ≡ c.after
  both_lead c of = ap (λ (p : Path). p.after) (some_one (slice_get k.paths.now t.number) f.tail_path of.path f.stands of.stands) ∙ of.leads

  pub both_legs : IsJoinTail (book_of k) (request_of k) k.paths.now t → HasLegs (book_of k) (request_of k) both_flights (bit_and h.classes t.classes)
  both_legs is =
      let same : is.path ≡ f.tail_path = some_one (slice_get k.paths.now t.number) is.path f.tail_path is.stands f.stands in
      pair_legs (book_of k) (request_of k) k.at.now f.head_path f.tail_path f.follows h.classes t.classes f.head_is.legs (λ fs n. is.legs fs (subst (λ (p : Path). Numbers (book_of k) p.flights fs) (sym same) n))

  module _ (c : TailClass) (of : IsTailOf (book_of k) k.paths.now c t) where
    -- the sheet of an end is filed over them
    pub both_market : (reverse : Bool) → MarketOver reverse both_flights (end_from reverse k.at.now.place c.end) (end_to reverse k.at.now.place c.end)
    both_market reverse = market_between reverse both_flights k.at.now.place c.end (pair_departs (book_of k) (request_of k) k.at.now f.head_path f.tail_path f.follows)
        (on_last (λ f. (f.to ≡ c.end) × (f.day ≡ c.last)) (λ f. f.to ≡ c.end) (λ f e. e.0) both_flights (both_ends c of))

    pub both_over : (legs : HasLegs (book_of k) (request_of k) both_flights (bit_and h.classes t.classes)) → Limited (book_of k) → (reverse : Bool) (sheet : Sheet) (groups : List FareGroup) → IsSheetOfEnd (book_of k) (key_of k c.end) reverse sheet groups
        → OverMarket (book_of k) (request_of k) k.at.now both_path both_flights legs.legs (bit_and h.classes t.classes) reverse sheet groups
    both_over legs limited reverse sheet groups is = record {
      path_is = pair_path (book_of k) (request_of k) k.at.now f.head_path f.tail_path f.follows;
      legs_are = legs.legs_are;
      classes_are = legs.classes_are;
      market = subst (λ p. MarketOver reverse both_flights sheet.from p) (sym is.sheet_is.filed_to) (subst (λ p. MarketOver reverse both_flights p (end_to reverse k.at.now.place c.end)) (sym is.sheet_is.filed_from) (both_market reverse));
      sheet_is = own_sheet (book_of k) (end_from reverse k.at.now.place c.end) (end_to reverse k.at.now.place c.end) sheet is.sheet_is;
      groups_are = is.groups_are;
      limited = limited;
    }

    -- the outline of the class and of a group is over them
    pub both_outline : IsHeadOf (book_of k) (request_of k) k.at.now k.carrier k.first h → (g : EndGroup) (key : GroupKey) → g.key ≡ key → (o : Outline) → IsOutlineOfBoth k c g o → OutlineOver o both_path.after both_flights key g.reverse
    both_outline own g key e o is = record {
      after_is = is.after ∙ sym (both_lead c of);
      first = first_by (λ f. (f.carrier ≡ k.carrier) × (f.day ≡ k.first)) (λ f. o.first ≡ f.day) both_flights (λ f x. is.first ∙ sym x.1) (both_first own);
      ends = on_last (λ f. (f.to ≡ c.end) × (f.day ≡ c.last)) (λ f. (o.end ≡ f.to) × (o.last ≡ f.day)) (λ f x. (is.end ∙ sym x.0, is.last ∙ sym x.1)) both_flights (both_ends c of);
      carrier = is.carrier ∙ ap (λ (x : GroupKey). x.carrier) e;
      number = is.number ∙ ap (λ (x : GroupKey). x.number) e;
      kind = is.kind ∙ ap (λ (x : GroupKey). x.kind) e;
      reverse_is = is.reverse;
    }
