-- What a search reaches has a text: its names are those of flights, slices and fares, and its numbers stay in their ranges. Given on to the crates above.
use Rattle.std.proofs.Common.{◌≡◌, ℕ, ℤ, zero, suc, pos, ◌≤◌, ◌<◌, ◌==◌, Bool, true, false, cond, List, [], ◌∷◌, ◌++◌, length, set, remove, take, drop, length-set, length-append, slice_get, Option, Some, None, IfSome, refl, sym, subst, inl, inr, arith}
use Rattle.std.proofs.lemmas.Int.{ints}
use Rattle.std.proofs.lemmas.Nat.{and_le_l}
use Rattle.std.proofs.lemmas.List.Edits.{length-remove}
use Rattle.fare_law.specs.declared.limits.TheConstants.{MOST_DATED_FLIGHTS}
use Rattle.fare_law.specs.declared.flights.Flight.{Flight}
use Rattle.fare_law.specs.declared.moves.Move.{Move}
use Rattle.fare_law.specs.declared.moves.Role.{Role}
use Rattle.fare_law.specs.declared.moves.Role.TheVariants.{Alone, Opens, GoesOn, Closes}
use Rattle.fare_law.specs.declared.names.Carrier.{Carrier}
use Rattle.fare_law.specs.declared.names.Place.{Place}
use Rattle.fare_law.specs.declared.requests.Request.{Request}
use Rattle.fare_law.specs.declared.requests.Slice.{Slice}
use Rattle.fare_law.specs.declared.rules.CombineRule.{CombineRule}
use Rattle.fare_law.specs.declared.rules.Rule.{Rule}
use Rattle.fare_law.specs.declared.tickets.Piece.{Piece}
use Rattle.fare_law.specs.Book.{Book, same_carrier}
use Rattle.fare_law.specs.Days.{IsCalendarDay}
use Rattle.fare_law.specs.Limits.{IsFlight, IsPlace, IsRequest, IsSlice}
use Rattle.fare_law.specs.Lists.{Each, OnFirst, OnLast}
use Rattle.fare_law.specs.Names.{IsCarrier}
use Rattle.fare_law.specs.Parts.{StandsFor}
use Rattle.fare_law.specs.RuleLimits.{IsRule}
use Rattle.flight_paths.specs.declared.positions.Position.{Position}
use Rattle.flight_paths.specs.Positions.{Fits, Flies, IsPath, LeadsTo, before_slice}
use Rattle.open_unit.specs.declared.marks.CarrierMark.{CarrierMark}
use Rattle.open_unit.specs.declared.marks.CarrierMark.TheVariants.{NotYet, One, Mixed}
use Rattle.open_unit.specs.declared.marks.RuleMark.{RuleMark}
use Rattle.open_unit.specs.declared.marks.RuleMark.TheVariants.{One as OneRule, Mixed as MixedRules}
use Rattle.open_unit.specs.declared.units.OpenUnit.{OpenUnit}
use Rattle.open_unit.specs.OpenUnits.{MayGoOn, carrier_with, carriers_with, demand_so_far, demand_with, gone_on, opened, rule_with, rules_with}
use Rattle.open_unit.specs.Ranges.{PieceInRanges, UnitInRanges}
use Rattle.open_unit.proofs.RoleLemmas.{gone_on_in_ranges}
use Rattle.fare_rules.specs.Demands.{demand_of, kinds_of}
use Rattle.fare_rules.specs.Ranges.{DemandInRange, IsDayWithin, StaysInRange}
use Rattle.fare_rules.proofs.RangeLemmas.{met_within, demand_within}
use Rattle.residual_keys.specs.declared.parts.TicketPart.{TicketPart}
use Rattle.residual_keys.specs.declared.residual.Chosen.{Chosen}
use Rattle.residual_keys.specs.Kept.{PartKept}
use Rattle.residual_keys.specs.ResidualText.{AreCarriers, AreRules, IsNamed, IsPosition, IsWritten}
use Rattle.residual_keys.specs.Residuals.{LeadsFrom, Moves, State, UnitStep, begins, ends_with, no_part, one_more, part_with}
use Rattle.residual_keys.specs.Searches.{Reached}
use Rattle.residual_keys.specs.Steps.{IsChosen, left_at}
use Rattle.residual_keys.specs.Written.{InLimits, IsWrittenNext}
use Rattle.residual_keys.proofs.Fitting.{FitsEnd, flies_fits, leads_fits, root_fits}
use Rattle.residual_keys.proofs.TicketParts.{with_small}
use Rattle.law_lemmas.proofs.EachOne.{each_got}
use Rattle.law_lemmas.proofs.Lists.{got_within}

-- ---- positions

-- at the end, or at a position whose places have their letters
abbrev EndNamed : Option Position → Type 0
EndNamed None = Unit {0}
EndNamed (Some at) = IsPlace at.place × IfSome at.via IsPlace

slice_named : (b : Book) (i : ℕ) (o : Option Slice) (arrival : Option ℤ) → IfSome o IsSlice → EndNamed (before_slice b i o arrival)
slice_named b i None arrival h = tt
slice_named b i (Some s) arrival h = (h.from, tt)

got_slice : (sl : List Slice) (i : ℕ) → Each IsSlice sl → IfSome (slice_get sl i) IsSlice
got_slice [] i h = tt
got_slice (s ∷ sl) zero h = h.0
got_slice (s ∷ sl) (suc i) h = got_slice sl i h.1

via_named : (one : Bool) (p : Place) → IsPlace p → IfSome (cond one (Some p) None) IsPlace
via_named true p h = h
via_named false p h = tt

leads_named : (b : Book) (sl : List Slice) (s : Slice) (at : Position) (f : Flight) (next : Option Position) → Each IsSlice sl → IsPlace at.place → IsFlight f → LeadsTo b sl s at f next → EndNamed next
leads_named b sl s at f next h p k (inl l) = subst EndNamed (sym l.1) (slice_named b (suc at.slice) (slice_get sl (suc at.slice)) (Some f.arr) (got_slice sl (suc at.slice) h))
leads_named b sl s at f next h p k (inr l) = subst EndNamed (sym l.2) (k.to, via_named (at.leg == 1) at.place p)

flies_named : (b : Book) (sl : List Slice) (start : Option Position) (ns : List ℕ) (fs : List Flight) (end : Option Position) → Each IsSlice sl → Each IsFlight b.timetable.flights → EndNamed start → Flies b sl start ns fs end → EndNamed end
flies_named b sl start [] [] end h k n f = subst EndNamed (sym f) n
flies_named b sl start [] (g ∷ fs) end h k n f = absurd f
flies_named b sl start (m ∷ ns) [] end h k n f = absurd f
flies_named b sl None (m ∷ ns) (g ∷ fs) end h k n f = absurd f
flies_named b sl (Some at) (m ∷ ns) (g ∷ fs) end h k n (s, is, t, next, leads, rest) =
    flies_named b sl next ns fs end h k (leads_named b sl s at g next h n.0 (each_got IsFlight b.timetable.flights m g k t.known) leads) rest

-- the flights taken hold what all of the timetable do
flies_hold : (P : Flight → Type 0) (b : Book) (sl : List Slice) (start : Option Position) (ns : List ℕ) (fs : List Flight) (end : Option Position) → Each P b.timetable.flights → Flies b sl start ns fs end → Each P fs
flies_hold P b sl start [] [] end h f = tt
flies_hold P b sl start [] (g ∷ fs) end h f = absurd f
flies_hold P b sl start (m ∷ ns) [] end h f = absurd f
flies_hold P b sl None (m ∷ ns) (g ∷ fs) end h f = absurd f
flies_hold P b sl (Some at) (m ∷ ns) (g ∷ fs) end h (s, is, t, next, leads, rest) = (each_got P b.timetable.flights m g h t.known, flies_hold P b sl next ns fs end h rest)

-- where some flights lead fits, wherever they begin
path_fits : (b : Book) (sl : List Slice) (at : Position) (ns : List ℕ) (fs : List Flight) (end : Option Position) → IsPath b sl at ns fs end → FitsEnd b sl end
path_fits b sl at [] fs end h = absurd (h.some refl)
path_fits b sl at (n ∷ ns) [] end h = absurd h.flies
path_fits b sl at (n ∷ ns) (f ∷ fs) end h = let k = h.flies in flies_fits b sl k.3 ns fs end (leads_fits b sl k.0 at f k.3 k.1 k.4) k.5

is_position : (b : Book) (q : Request) (at : Position) → IsRequest q → length b.timetable.flights ≤ MOST_DATED_FLIGHTS → Fits b q.slices at → EndNamed (Some at) → IsPosition at
is_position b q at r few f n = record {
  slice = let c = r.count in let s = f.slice in omega (arith, c.1, s);
  leg = let l = f.leg in omega (arith, l);
  place = n.0;
  via = n.1;
  lo = let l = f.range in let k = f.known in omega (arith, few, l, k);
  hi = let k = f.known in omega (arith, few, k);
}

-- ---- what a fare over flights has

pub record PieceNamed (p : Piece) : Type 0 where
  pub begin : IsPlace p.begin
  pub end : IsPlace p.end
  pub carrier : IsCarrier p.fare.key.carrier
  pub rule : p.fare.rule ≤ 9999
  pub in_ranges : PieceInRanges p

pub day_within : (d : ℤ) → IsCalendarDay d → IsDayWithin (pos 99000) d
day_within d h = (grind (arith, ints), grind (arith, ints))

of_last : (P Q : Flight → Type 0) (R : Type 0) (fs : List Flight) → ((f : Flight) → P f → Q f → R) → Each P fs → OnLast Q fs → R
of_last P Q R [] to h k = absurd k
of_last P Q R (f ∷ []) to h k = to f h.0 k
of_last P Q R (f ∷ g ∷ fs) to h k = of_last P Q R (g ∷ fs) to h.1 k

of_first : (P Q : Flight → Type 0) (R : Type 0) (fs : List Flight) → ((f : Flight) → P f → Q f → R) → Each P fs → OnFirst Q fs → R
of_first P Q R [] to h k = absurd k
of_first P Q R (f ∷ fs) to h k = to f h.0 k

module _ (stays : (rule : Rule) → IsRule rule → StaysInRange rule) (b : Book) (q : Request) (limits : InLimits b) (request : IsRequest q) where
  piece_named : (fs : List Flight) (p : Piece) → Each IsFlight fs → StandsFor b q.sale p.fare.key fs p → PieceNamed p
  piece_named fs p h s =
      let first : IsPlace p.begin × IsCalendarDay p.first_day = of_first IsFlight _ _ fs (λ f k e. (subst IsPlace (sym e.0) k.from, subst IsCalendarDay (sym e.1) k.day)) h s.begins in
      let last : IsPlace p.end × IsCalendarDay p.last_day = of_last IsFlight _ _ fs (λ f k e. (subst IsPlace (sym e.0) k.to, subst IsCalendarDay (sym e.1) k.day)) h s.ends in
      let fare = (limits.fares.fares p.fare.key p.fare s.fare).1 in
      record {
        begin = first.0;
        end = last.0;
        carrier = fare.key.carrier;
        rule = fare.rule;
        in_ranges = record {
          first_day = day_within p.first_day first.1;
          last_day = day_within p.last_day last.1;
          sale = subst (IsDayWithin (pos 99000)) (sym s.sale_is) (day_within q.sale request.sale);
          rule = stays p.rule (limits.fares.rules p.fare.key.carrier p.fare.rule p.rule s.rule);
        };
      }

-- ---- open units

carriers_named : (mark : CarrierMark) (c : Carrier) → AreCarriers mark → IsCarrier c → AreCarriers (carrier_with mark c)
carriers_named NotYet c h k = k
carriers_named (One d) c h k = by (same_carrier d c)
  where
    by : (same : Bool) → AreCarriers (cond same (One d) Mixed)
    by true = h
    by false = tt
carriers_named Mixed c h k = tt

rules_named : (carriers : CarrierMark) (mark : RuleMark) (n : ℕ) → AreRules mark → AreRules (rule_with carriers mark n)
rules_named NotYet mark n h = tt
rules_named Mixed mark n h = tt
rules_named (One c) MixedRules n h = tt
rules_named (One c) (OneRule m) n h = by (m == n)
  where
    by : (same : Bool) → AreRules (cond same (OneRule m) MixedRules)
    by true = h
    by false = tt

-- an open unit with a text of its own
abbrev Kept : OpenUnit → Type 0
Kept u = UnitInRanges u × IsNamed u

opened_kept : (p : Piece) → PieceNamed p → Kept (opened p)
opened_kept p h =
    let d = demand_within p.rule p.first_day h.in_ranges.first_day h.in_ranges.rule in (
      record {
        first = h.in_ranges.first_day;
        least = d.least;
        greatest = d.greatest;
        by = d.by;
        count = (omega arith, omega arith);
        kinds = omega (arith, and_le_l (kinds_of p.rule.cat10) 14, d.kinds);
        partner = d.partner;
        marks = (λ e. cc, λ e. absurd (cc));
      },
      record { origin = h.begin; end = h.end; carrier = h.carrier; rule = omega (arith, h.rule) },
    )

gone_on_kept : (u : OpenUnit) (p : Piece) → Kept u → PieceNamed p → MayGoOn u p → Kept (gone_on u p)
gone_on_kept u p k h may =
    let so_far : DemandInRange (demand_so_far u) = record { least = k.0.least; greatest = k.0.greatest; by = k.0.by; kinds = k.0.kinds; partner = k.0.partner } in
    let d = met_within (demand_so_far u) (demand_of p.rule u.first_day) so_far (demand_within p.rule u.first_day k.0.first h.in_ranges.rule) in (
      gone_on_in_ranges u p (record { demand = demand_with u p; carrier = carriers_with u p; rule = rules_with u p }) (record { demand = refl; carrier = refl; rule = refl }) k.0 d may.count,
      record {
        origin = k.1.origin;
        end = h.end;
        carrier = carriers_named u.carrier p.fare.key.carrier k.1.carrier h.carrier;
        rule = rules_named (carriers_with u p) u.rule p.fare.rule k.1.rule;
      },
    )

module _ {X : Type 0} (P : X → Type 0) where
  each_push : (xs : List X) (x : X) → Each P xs → P x → Each P (xs ++ x ∷ [])
  each_push [] x h k = (k, tt)
  each_push (y ∷ xs) x h k = (h.0, each_push xs x h.1 k)

  each_set : (xs : List X) (i : ℕ) (x : X) → Each P xs → P x → Each P (set xs i x)
  each_set [] i x h k = tt
  each_set (y ∷ xs) zero x h k = (k, h.1)
  each_set (y ∷ xs) (suc i) x h k = (h.0, each_set xs i x h.1 k)

  each_join : (xs ys : List X) → Each P xs → Each P ys → Each P (xs ++ ys)
  each_join [] ys h k = k
  each_join (x ∷ xs) ys h k = (h.0, each_join xs ys h.1 k)

  each_front : (n : ℕ) (xs : List X) → Each P xs → Each P (take n xs)
  each_front zero xs h = tt
  each_front (suc n) [] h = tt
  each_front (suc n) (x ∷ xs) h = (h.0, each_front n xs h.1)

  each_back : (n : ℕ) (xs : List X) → Each P xs → Each P (drop n xs)
  each_back zero xs h = h
  each_back (suc n) [] h = tt
  each_back (suc n) (x ∷ xs) h = each_back n xs h.1

  each_remove : (xs : List X) (i : ℕ) → Each P xs → Each P (remove xs i)
  each_remove xs i h = each_join (take i xs) (drop (suc i) xs) (each_front i xs h) (each_back (suc i) xs h)

pub remove_few : {X : Type 0} (xs : List X) (i : ℕ) → i < length xs → length (remove xs i) ≤ length xs
remove_few xs i lt = omega (arith, length-remove xs i lt)

-- at most two open units, each with a text of its own
AreKept : List OpenUnit → Type 0
AreKept us = (length us ≤ 2) × Each Kept us

units_kept : (role : Role) (slot : ℕ) (us : List OpenUnit) (p : Piece) (us' : List OpenUnit) → AreKept us → PieceNamed p → UnitStep role slot us p us' → AreKept us'
unfolding AreKept
units_kept Alone slot us p us' k h s = subst (λ xs. (length xs ≤ 2) × Each Kept xs) (sym s.2) k
units_kept Opens slot us p us' k h s = subst (λ xs. (length xs ≤ 2) × Each Kept xs) (sym s.3) (omega (arith, length-append us (opened p ∷ []), s.2), each_push Kept us (opened p) k.1 (opened_kept p h))
units_kept GoesOn slot us p us' k h s =
    let u = each_got Kept us slot s.0 k.1 s.1 in
    subst (λ xs. (length xs ≤ 2) × Each Kept xs) (sym s.3) (few k.0, each_set Kept us slot (gone_on s.0 p) k.1 (gone_on_kept s.0 p u h s.2))
  where
    few : length us ≤ 2 → length (set us slot (gone_on s.0 p)) ≤ 2
    few h = rw length-set h
units_kept Closes slot us p us' k h s = subst (λ xs. (length xs ≤ 2) × Each Kept xs) (sym s.3) (omega (arith, remove_few us slot (got_within us slot s.0 s.1), k.0), each_remove Kept us slot k.1)

-- ---- the ticket part

one_more_small : (new : Bool) (n : ℕ) → n ≤ 2 → one_more new n ≤ 2
one_more_small true zero h = omega arith
one_more_small true (suc n) h = of_two (suc n == 0)
  where
    of_two : (b : Bool) → cond b 1 2 ≤ 2
    of_two true = omega arith
    of_two false = omega arith
one_more_small false n h = h

ends_small : (p : Piece) (n : ℕ) → n ≤ 3 → ends_with p.rule.cat10 n ≤ 3
ends_small p n h = by p.rule.cat10
  where
    by : (c : Option CombineRule) → ends_with c n ≤ 3
    by None = h
    by (Some c) = with_small c.end_on_end n h

part_kept : (t : TicketPart) (new : Bool) (p : Piece) → PartKept t → PartKept (part_with t new p)
part_kept t new p h = record { units = one_more_small new t.units h.units; ends = ends_small p t.ends h.ends }

-- ---- what a move leaves

split_kept : (us : List OpenUnit) → Each Kept us → Each UnitInRanges us × Each IsNamed us
split_kept [] h = (tt, tt)
split_kept (u ∷ us) h = let r = split_kept us h.1 in ((h.0.0, r.0), (h.0.1, r.1))

join_kept : (us : List OpenUnit) → Each UnitInRanges us → Each IsNamed us → Each Kept us
join_kept [] h k = tt
join_kept (u ∷ us) h k = ((h.0, k.0), join_kept us h.1 k.1)

module _ (stays : (rule : Rule) → IsRule rule → StaysInRange rule) (b : Book) (q : Request) (limits : InLimits b) (request : IsRequest q) where
  pub move_written : (x : State) (m : Move) (fs : List Flight) (p : Piece) (at : Position) (us : List OpenUnit) → IsWritten x → Moves b q x m fs p (Some at) us
      → IsWritten (record { at = at; units = us; part = part_with x.part (begins m.role) p })
  unfolding AreKept
  move_written x m fs p at us h mv =
      let named = flies_named b q.slices (Some x.at) m.flights fs (Some at) request.windows limits.flights (h.at.place, h.at.via) mv.path.flies in
      let fits = path_fits b q.slices x.at m.flights fs (Some at) mv.path in
      let piece = piece_named stays b q limits request fs p (flies_hold IsFlight b q.slices (Some x.at) m.flights fs (Some at) limits.flights mv.path.flies) mv.stands in
      let kept = units_kept m.role m.slot x.units p us (h.kept.few, join_kept x.units h.kept.units h.units) piece mv.units in
      let parts = split_kept us kept.1 in
      record {
        kept = record { few = kept.0; units = parts.0; part = part_kept x.part (begins m.role) p h.kept.part };
        at = is_position b q at request limits.few fits named;
        units = parts.1;
        carrier = carriers_named x.part.carrier p.fare.key.carrier h.carrier piece.carrier;
      }

  pub chosen_written : (x : State) (c : Chosen) → IsWritten x → IsChosen b q x c → IsWrittenNext c.next
  chosen_written x c h k = subst IsWrittenNext (sym k.left) (by k.after k.moves)
    where
      by : (after : Option Position) → Moves b q x c.mv k.flights k.piece after k.units → IsWrittenNext (left_at after k.units (part_with x.part (begins c.mv.role) k.piece))
      by None mv = tt
      by (Some at) mv = move_written x c.mv k.flights k.piece at k.units h mv

  pub root_written : (at : Position) → before_slice b 0 (slice_get q.slices 0) None ≡ Some at → IsWritten (record { at = at; units = []; part = no_part })
  root_written at e = record {
    kept = record { few = omega arith; units = tt; part = record { units = omega arith; ends = omega arith } };
    at = is_position b q at request limits.few (root_fits b q at e) (subst EndNamed e (slice_named b 0 (slice_get q.slices 0) None (got_slice q.slices 0 request.windows)));
    units = tt;
    carrier = tt;
  }

  leads_written : (ms : List Move) (r x : State) → IsWritten r → LeadsFrom b q r ms x → IsWritten x
  leads_written [] r x h e = subst IsWritten (sym e) h
  leads_written (m ∷ ms) r x h (fs, p, at, us, mv, l) = leads_written ms _ x (move_written r m fs p at us h mv) l

  pub reached_written : (x : State) → Reached b q x → IsWritten x
  reached_written x (ms, (at, e, l)) = leads_written ms _ x (root_written at e) l
