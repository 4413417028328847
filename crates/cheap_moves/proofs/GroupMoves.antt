-- The moves on a path with the fares of a group.
use Rattle.std.proofs.Common.{◌≡◌, ℕ, ℤ, ◌+◌, ◌≤◌, Bool, List, slice_get, Option, Some, None, IsBitSet, Result, OnOk, refl, sym, ap, subst, ◌∙◌, arith}
use Rattle.cheap_moves.specs.declared.component.Component.{Component}
use Rattle.cheap_moves.specs.declared.component.Flown.{Flown}
use Rattle.cheap_moves.specs.Making.{IsComponent, IsComponentMove, IsGroupMove, IsOver, IsPieceOver}
use Rattle.cheap_moves.specs.Within.{IsWithin}
use Rattle.cheap_moves.proofs.FareMoves.{row_at}
use Rattle.fare_ends.specs.declared.markets.Market.{Market}
use Rattle.fare_groups.specs.declared.group.FareGroup.{FareGroup}
use Rattle.fare_groups.specs.declared.group.GroupKey.{GroupKey}
use Rattle.fare_groups.specs.declared.group.GroupedFare.{GroupedFare}
use Rattle.fare_groups.specs.Grouping.{Cheapest, IsRowIn}
use Rattle.fare_groups.specs.Groups.{Permits, extra_of, group_of}
use Rattle.fare_groups.proofs.ByGroup.{one_rule_all}
use Rattle.fare_law.specs.declared.flights.Flight.{Flight}
use Rattle.fare_law.specs.declared.requests.Request.{Request}
use Rattle.fare_law.specs.declared.sheets.SheetRow.{SheetRow}
use Rattle.fare_law.specs.declared.tickets.Piece.{Piece}
use Rattle.fare_law.specs.Book.{Book}
use Rattle.fare_law.specs.Lists.{IsIn}
use Rattle.fare_law.specs.RuleLimits.{IsRule}
use Rattle.open_unit.specs.Ranges.{PieceInRanges}
use Rattle.outlines.specs.Outlines.{Alike}
use Rattle.outlines.proofs.ByOutline.{tells_all}
use Rattle.residual_keys.specs.declared.residual.Chosen.{Chosen}
use Rattle.residual_keys.specs.Gathered.{Adds, IsReadOver}
use Rattle.residual_keys.specs.Residuals.{State}
use Rattle.residual_keys.proofs.Adding.{adds_like, adds_none}
use Rattle.residual_keys.proofs.OneNext.{first_one, last_one}
use Rattle.law_lemmas.proofs.EachOne.{each_in}
use Rattle.law_lemmas.proofs.Members.{got_in}
use Rattle.law_lemmas.proofs.Options.{on_ok, some_one}

-- what is read of fares of one group and one rule is alike
alike_over : (sale : ℤ) (fs : List Flight) (row other : SheetRow) (reverse : Bool) (p p' : Piece) → group_of row ≡ group_of other → row.rule ≡ other.rule → IsReadOver sale fs row reverse p → IsReadOver sale fs other reverse p' → Alike p p'
alike_over sale fs row other reverse p p' same rule h k = record {
  begin = first.0;
  end = last.0;
  carrier = h.carrier ∙ ap (λ (g : GroupKey). g.carrier) same ∙ sym k.carrier;
  number = h.number ∙ ap (λ (g : GroupKey). g.number) same ∙ sym k.number;
  kind = h.kind ∙ ap (λ (g : GroupKey). g.kind) same ∙ sym k.kind;
  rule = h.rule ∙ rule ∙ sym k.rule;
  reverse = h.reverse_is ∙ sym k.reverse_is;
  first_day = first.1;
  last_day = last.1;
  sale = h.sale_is ∙ sym k.sale_is;
}
  where
    first : (p.begin ≡ p'.begin) × (p.first_day ≡ p'.first_day)
    first = first_one (λ f. (p.begin ≡ f.from) × (p.first_day ≡ f.day)) (λ f. (p'.begin ≡ f.from) × (p'.first_day ≡ f.day)) ((p.begin ≡ p'.begin) × (p.first_day ≡ p'.first_day)) (λ f x y. (x.0 ∙ sym y.0, x.1 ∙ sym y.1)) fs h.begins k.begins

    last : (p.end ≡ p'.end) × (p.last_day ≡ p'.last_day)
    last = last_one (λ f. (p.end ≡ f.to) × (p.last_day ≡ f.day)) (λ f. (p'.end ≡ f.to) × (p'.last_day ≡ f.day)) ((p.end ≡ p'.end) × (p.last_day ≡ p'.last_day)) (λ f x y. (x.0 ∙ sym y.0, x.1 ∙ sym y.1)) fs h.ends k.ends

-- a piece with the fare and the rule of another row
abbrev dressed : Piece → SheetRow → Piece
dressed p row = record {
  begin = p.begin;
  end = p.end;
  fare = row.fare;
  rule = row.rule;
  reverse = p.reverse;
  first_day = p.first_day;
  last_day = p.last_day;
  sale = p.sale;
}

-- a component's moves are its group's
module _ (b : Book) (q : Request) (r : State) (bound : State → Option ℕ) (limit : Option ℕ) (k : Component) (is : IsComponent b q r k) where
  abbrev rows : List SheetRow
  rows = k.market.now.sheet.value.rows

  abbrev fs : List Flight
  fs = k.flown.now.way.flights

  row_in : (f : GroupedFare) → IsIn f k.group.now.fares → (row : SheetRow) → slice_get rows f.place ≡ Some row → group_of row ≡ k.group.now.key
  row_in f j row stands =
      let x = row_at b q r.at k.flown.now.way.path fs k.flown.now.way.legs k.flown.now.classes k.facts.reverse k.market.now.sheet.value k.market.now.groups is.over.over k.group.now is.within f j in
      ap group_of (some_one (slice_get rows f.place) row x.row stands x.stands) ∙ x.key_is

  rule_in : (f : GroupedFare) (place : ℕ) (row : SheetRow) → slice_get rows place ≡ Some row → group_of row ≡ k.group.now.key → row.rule ≡ is.row.rule
  rule_in f place row stands key = one_rule_all b k.market.now.sheet.value.from k.market.now.sheet.value.to k.market.now.sheet.value is.over.over.sheet_is row is.row (got_in rows place row stands) is.row_of.within (key ∙ sym is.row_of.key)

  forth : (c : Chosen) → IsComponentMove r bound limit k c → IsGroupMove q r bound limit k.flown.now k.facts.reverse k.market.now k.group.now c
  forth c (role, slot, h) =
      let key = row_in h.fare h.of h.row h.stands in
      let rule = rule_in h.fare h.fare.place h.row h.stands key in
      let piece = dressed k.facts h.row in
      let over : IsPieceOver q.sale fs h.row k.facts.reverse piece = record { fare = refl; reads = record { begins = is.facts.begins; ends = is.facts.ends; carrier = refl; number = refl; kind = refl; rule = refl; reverse_is = refl; sale_is = is.facts.sale_is } } in
      record {
        fare = h.fare;
        of = h.of;
        row = h.row;
        stands = h.stands;
        open_class = h.open_class;
        permits = subst (λ x. Permits x k.group.now.key.carrier fs) (sym rule) is.permits;
        piece = piece;
        piece_is = over;
        role = role;
        slot = slot;
        move = h.move;
        price = h.price ∙ ap (λ n. h.fare.share + n) (is.charges ∙ ap (λ x. extra_of x fs) (sym rule));
        leaves = (tells_all r k.flown.now.way.path.after k.facts piece (alike_over q.sale fs is.row h.row k.facts.reverse k.facts piece (is.row_of.key ∙ sym key) (sym rule) is.facts over.reads) role slot c.next).0 h.leaves;
        counts = h.counts;
      }

  back : (c : Chosen) → IsGroupMove q r bound limit k.flown.now k.facts.reverse k.market.now k.group.now c → IsComponentMove r bound limit k c
  back c h =
      let key = row_in h.fare h.of h.row h.stands in
      let rule = rule_in h.fare h.fare.place h.row h.stands key in (
        h.role,
        h.slot,
        record {
          fare = h.fare;
          of = h.of;
          row = h.row;
          stands = h.stands;
          open_class = h.open_class;
          move = h.move;
          price = h.price ∙ ap (λ n. h.fare.share + n) (ap (λ x. extra_of x fs) rule ∙ sym is.charges);
          leaves = (tells_all r k.flown.now.way.path.after h.piece k.facts (alike_over q.sale fs h.row is.row k.facts.reverse h.piece k.facts (key ∙ sym is.row_of.key) rule h.piece_is.reads is.facts) h.role h.slot c.next).0 h.leaves;
          counts = h.counts;
        },
      )

  pub group_had : (old new : List Chosen) → Adds (IsComponentMove r bound limit k) old new → Adds (IsGroupMove q r bound limit k.flown.now k.facts.reverse k.market.now k.group.now) old new
  group_had old new h = adds_like (IsComponentMove r bound limit k) (IsGroupMove q r bound limit k.flown.now k.facts.reverse k.market.now k.group.now) old new h (λ c. (forth c, back c))

module _ (b : Book) (q : Request) (r : State) (bound : State → Option ℕ) (limit : Option ℕ) (flown : Flown) (reverse : Bool) (m : Market) (is : IsOver b q r flown reverse m) where
  module _ (g : FareGroup) (i : IsIn g m.groups) where
    pub none_open : (old : List Chosen) → Cheapest flown.classes g.fares None → Adds (IsGroupMove q r bound limit flown reverse m g) old old
    none_open old none = adds_none (IsGroupMove q r bound limit flown reverse m g) old (λ c h. each_in (λ (f : GroupedFare). IsBitSet flown.classes f.class → ⊥) g.fares h.fare none h.of h.open_class)

    -- each move costs at least the least share
    pub none_cheap : (old : List Chosen) (least : ℕ) → Cheapest flown.classes g.fares (Some least) → (IsWithin limit least → ⊥) → Adds (IsGroupMove q r bound limit flown reverse m g) old old
    none_cheap old least cheap beyond = adds_none (IsGroupMove q r bound limit flown reverse m g) old (λ c h.
        beyond (less limit least (c.price + h.counts.rest) (sums h.fare.share (extra_of h.row.rule flown.way.flights) h.counts.rest c.price (each_in (λ (f : GroupedFare). IsBitSet flown.classes f.class → least ≤ f.share) g.fares h.fare cheap.below h.of h.open_class) h.price) h.counts.within))
      where
        less : (o : Option ℕ) (n t : ℕ) → n ≤ t → IsWithin o t → IsWithin o n
        less None n t le w = tt
        less (Some l) n t le w = omega (arith, le, w)

        sums : (share extra rest price : ℕ) → least ≤ share → price ≡ share + extra → least ≤ price + rest
        sums share extra rest price le e = omega (arith, le, e)

    pub rule_within : (row : SheetRow) → IsRowIn m.sheet.value.rows g row → IsRule row.rule
    rule_within row x = is.over.limited.rules row.fare.key.carrier row.fare.rule row.rule ((is.over.sheet_is.live row).0 x.within).rule

    pub none_permitted : (old : List Chosen) (row : SheetRow) → IsRowIn m.sheet.value.rows g row → (Permits row.rule g.key.carrier flown.way.flights → ⊥) → Adds (IsGroupMove q r bound limit flown reverse m g) old old
    none_permitted old row of none = adds_none (IsGroupMove q r bound limit flown reverse m g) old (λ c h.
        let x = row_at b q r.at flown.way.path flown.way.flights flown.way.legs flown.classes reverse m.sheet.value m.groups is.over g i h.fare h.of in
        let key : group_of h.row ≡ g.key = ap group_of (some_one (slice_get m.sheet.value.rows h.fare.place) h.row x.row h.stands x.stands) ∙ x.key_is in
        let rule = one_rule_all b m.sheet.value.from m.sheet.value.to m.sheet.value is.over.sheet_is h.row row (got_in m.sheet.value.rows h.fare.place h.row h.stands) of.within (key ∙ sym of.key) in
        none (subst (λ z. Permits z g.key.carrier flown.way.flights) rule h.permits))

-- what the calls know of a component
pub component_is : (b : Book) (q : Request) (r : State) (k : Component) (reverse : Bool) (row : SheetRow) → IsReadOver q.sale k.flown.now.way.flights row reverse k.facts → IsOver b q r k.flown.now reverse k.market.now → IsIn k.group.now k.market.now.groups → IsRowIn k.market.now.sheet.value.rows k.group.now row
    → Permits row.rule k.group.now.key.carrier k.flown.now.way.flights → k.charges ≡ extra_of row.rule k.flown.now.way.flights → k.charges ≤ 35000000 → PieceInRanges k.facts → IsComponent b q r k
component_is b q r k reverse row read over i of permits charges low ranges = record {
  over = subst (λ t. IsOver b q r k.flown.now t k.market.now) (sym read.reverse_is) over;
  within = i;
  row = row;
  row_of = of;
  facts = subst (λ t. IsReadOver q.sale k.flown.now.way.flights row t k.facts) (sym read.reverse_is) read;
  permits = permits;
  charges = charges;
  low = low;
  ranges = ranges;
}

pub group_done : (b : Book) (q : Request) (r : State) (bound : State → Option ℕ) (limit : Option ℕ) (k : Component) (reverse : Bool) {A E : Type 0} (result : Result A E) (old new : List Chosen) → k.facts.reverse ≡ reverse → OnOk result (Adds (IsComponentMove r bound limit k) old new) → IsComponent b q r k
    → OnOk result (Adds (IsGroupMove q r bound limit k.flown.now reverse k.market.now k.group.now) old new)
group_done b q r bound limit k reverse result old new same h is = on_ok result (Adds (IsComponentMove r bound limit k) old new) (Adds (IsGroupMove q r bound limit k.flown.now reverse k.market.now k.group.now) old new)
    (λ a. subst (λ t. Adds (IsGroupMove q r bound limit k.flown.now t k.market.now k.group.now) old new) same (group_had b q r bound limit k is old new a)) h
