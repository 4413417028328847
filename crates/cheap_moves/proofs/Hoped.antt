-- What the leads within a limit tell of the paths on which moves within it may be.
use Rattle.std.proofs.Common.{◌≡◌, ℕ, suc, ◌+◌, ◌-◌, ◌≤◌, ◌<◌, Bool, true, false, List, [], ◌∷◌, length, take, get_or, slice_get, MatchOption, MatchBool, All, Option, Some, None, IfNone, IfSome, IsSome, Result, Ok, Err, OnOk, refl, sym, ap, subst, ◌∙◌, inl, inr, arith}
use Rattle.std.proofs.lemmas.List.Elements.{All-head}
use Rattle.cheap_moves.specs.declared.hopes.Hopes.{Hopes}
use Rattle.cheap_moves.specs.declared.hopes.PathClass.{PathClass}
use Rattle.cheap_moves.specs.declared.hopes.PathStart.{PathStart}
use Rattle.cheap_moves.specs.declared.leads.Lead.{Lead}
use Rattle.cheap_moves.specs.declared.prospects.Prospect.{Prospect}
use Rattle.cheap_moves.specs.Hopes.{AreAllOnce, AreHopes, GroupAdded, HasHopes, HopeAdded, IsClass, begins_with, class_of, groups_of, marked, start_of}
use Rattle.cheap_moves.specs.Leads.{AreLeads}
use Rattle.cheap_moves.specs.Prospects.{prospect_as, prospect_of}
use Rattle.cheap_moves.specs.Within.{CountsWithin, IsWithin}
use Rattle.cheap_moves.proofs.Joining.{one_added}
use Rattle.fare_law.specs.declared.flights.Flight.{Flight}
use Rattle.fare_law.specs.declared.names.Carrier.{Carrier}
use Rattle.fare_law.specs.declared.names.Place.{Place}
use Rattle.fare_law.specs.declared.requests.Request.{Request}
use Rattle.fare_law.specs.declared.rules.TransferRule.{TransferRule}
use Rattle.fare_law.specs.declared.tickets.Piece.{Piece}
use Rattle.fare_law.specs.Book.{Book}
use Rattle.fare_law.specs.Lists.{Each, IsIn, OnFirst, OnLast}
use Rattle.fare_law.specs.Parts.{Numbers, transfers}
use Rattle.flight_paths.specs.declared.positions.Position.{Position}
use Rattle.flight_paths.specs.Heads.{EndWanted}
use Rattle.outlines.specs.declared.outline.Outline.{Outline}
use Rattle.outlines.specs.Outlines.{Outlines}
use Rattle.residual_keys.specs.declared.residual.Chosen.{Chosen}
use Rattle.residual_keys.specs.Residuals.{State}
use Rattle.residual_keys.specs.Steps.{IsChosen}
use Rattle.residual_keys.proofs.OneNext.{first_one, last_one}
use Rattle.law_lemmas.proofs.LawFacts.{on_first_as, on_last_as}
use Rattle.law_lemmas.proofs.EachOne.{each_at}
use Rattle.law_lemmas.proofs.Options.{some_one, some_there}
use Rattle.law_lemmas.proofs.Tests.{false_true}

-- ---- what is marked

module _ (same_start : PathStart → PathStart → Bool) (same_place : Place → Place → Bool) (same_class : PathClass → PathClass → Bool) (limit : Option ℕ) where
  pub hopes_none : (h : Hopes) → AreAllOnce same_class h.classes → HasHopes same_start same_place same_class limit [] h
  hopes_none h once = record { of_starts = λ l i. absurd i; of_ends = λ l i. absurd i; of_classes = λ l i. absurd i; once = once }

  -- one lead more
  pub hopes_more : (leads : List Lead) (i : ℕ) (d x : Lead) (old new : Hopes) → i < length leads → x ≡ get_or leads i d → HasHopes same_start same_place same_class limit (take i leads) old → HopeAdded same_start same_place same_class limit x old new
      → HasHopes same_start same_place same_class limit (take (i + 1) leads) new
  hopes_more leads i d x old new lt is h added = record {
    of_starts = λ l j w. elim (one_added leads i d x l lt is j) [
      | inl k ↦ added.starts_stay (start_of l.outline) (h.of_starts l k w)
      | inr k ↦ subst (λ (y : Lead). marked same_start new.starts (start_of y.outline) ≡ true) (sym k) (added.has_start (at l k w))
    ];
    of_ends = λ l j w. elim (one_added leads i d x l lt is j) [
      | inl k ↦ added.ends_stay l.outline.end (h.of_ends l k w)
      | inr k ↦ subst (λ (y : Lead). marked same_place new.ends y.outline.end ≡ true) (sym k) (added.has_end (at l k w))
    ];
    of_classes = λ l j w. elim (one_added leads i d x l lt is j) [
      | inl k ↦ added.groups_stay (class_of l.outline) (prospect_of l.outline) (h.of_classes l k w)
      | inr k ↦ subst (λ (y : Lead). IsIn (prospect_of y.outline) (groups_of same_class new.classes (class_of y.outline))) (sym k) (added.has_group (at l k w))
    ];
    once = added.once h.once;
  }
    where
      at : (l : Lead) → l ≡ x → IsWithin limit l.total → IsWithin limit x.total
      at l k w = subst (λ (y : Lead). IsWithin limit y.total) k w

-- a lead whose beginning and end were marked, and whose group was put at its class, was added
pub lead_added : (same_start : PathStart → PathStart → Bool) (same_place : Place → Place → Bool) (same_class : PathClass → PathClass → Bool) (limit : Option ℕ) (l : Lead) (old new : Hopes) (s : PathStart) (x : PathClass) (g : Prospect) {A E : Type 0} (result : Result A E)
    → s ≡ start_of l.outline → x ≡ class_of l.outline → g ≡ prospect_of l.outline
    → marked same_start new.starts s ≡ true → ((t : PathStart) → marked same_start old.starts t ≡ true → marked same_start new.starts t ≡ true)
    → marked same_place new.ends l.outline.end ≡ true → ((p : Place) → marked same_place old.ends p ≡ true → marked same_place new.ends p ≡ true)
    → OnOk result (GroupAdded same_class x g old.classes new.classes) → OnOk result (HopeAdded same_start same_place same_class limit l old new)
lead_added same_start same_place same_class limit l old new s x g (Err e) s_is x_is g_is begun starts ended ends added = tt
lead_added same_start same_place same_class limit l old new s x g (Ok a) s_is x_is g_is begun starts ended ends added = record {
  starts_stay = starts;
  ends_stay = ends;
  groups_stay = added.stay;
  once = added.once;
  has_start = λ w. subst (λ t. marked same_start new.starts t ≡ true) s_is begun;
  has_end = λ w. ended;
  has_group = λ w. subst (λ y. IsIn y (groups_of same_class new.classes (class_of l.outline))) g_is (subst (λ y. IsIn g (groups_of same_class new.classes y)) x_is added.has);
}

-- ---- what moves have

-- a fare's carrier is that of the first flight
module _ (carrier : Carrier) (fs : List Flight) where
  abbrev Of : Flight → Type 0
  Of f = f.carrier ≡ carrier

  all_first : (P : Flight → Type 0) (gs : List Flight) → OnFirst P gs → All Of gs → OnFirst Of gs
  all_first P [] s a = absurd s
  all_first P (g ∷ gs) s a = All-head Of g gs a

  by_online : (P : Flight → Type 0) → OnFirst P fs → (t : Bool) → MatchBool t (All Of fs) (OnFirst Of fs) → OnFirst Of fs
  by_online P s true a = all_first P fs s a
  by_online P s false a = a

  by_rule : (P : Flight → Type 0) (Few : TransferRule → Type 0) → OnFirst P fs → (o : Option TransferRule) → MatchOption o (OnFirst Of fs) (λ c. Few c × MatchBool c.online (All Of fs) (OnFirst Of fs)) → OnFirst Of fs
  by_rule P Few s None k = k
  by_rule P Few s (Some c) k = by_online P s c.online k.1

pub first_to : (P Q : Flight → Type 0) (fs : List Flight) → ((f : Flight) → P f → Q f) → OnFirst P fs → OnFirst Q fs
first_to P Q [] to h = absurd h
first_to P Q (f ∷ fs) to h = to f h

-- the flights of a component begin as its outline says
pub outline_begins : (o : Outline) (after : Option Position) (p : Piece) (fs : List Flight) → Outlines o after p → OnFirst (λ f. (p.begin ≡ f.from) × (p.first_day ≡ f.day)) fs
    → (t : Option TransferRule) → MatchOption t (OnFirst (λ f. f.carrier ≡ p.fare.key.carrier) fs) (λ c. (transfers fs ≤ c.max) × MatchBool c.online (All (λ f. f.carrier ≡ p.fare.key.carrier) fs) (OnFirst (λ f. f.carrier ≡ p.fare.key.carrier) fs))
    → OnFirst (λ f. (o.first ≡ f.day) × (o.carrier ≡ f.carrier)) fs
outline_begins o after p fs is begins t rule = both fs begins (by_rule p.fare.key.carrier fs (λ f. (p.begin ≡ f.from) × (p.first_day ≡ f.day)) (λ c. transfers fs ≤ c.max) begins t rule)
  where
    both : (gs : List Flight) → OnFirst (λ f. (p.begin ≡ f.from) × (p.first_day ≡ f.day)) gs → OnFirst (λ f. f.carrier ≡ p.fare.key.carrier) gs → OnFirst (λ f. (o.first ≡ f.day) × (o.carrier ≡ f.carrier)) gs
    both [] h k = absurd h
    both (f ∷ gs) h k = (is.first ∙ h.1, is.carrier ∙ sym k)

module _ (same_start : PathStart → PathStart → Bool) (same_place : Place → Place → Bool) (same_class : PathClass → PathClass → Bool) (b : Book) (q : Request) (r : State) (bound : State → Option ℕ) (limit : Option ℕ) (leads : List Lead) (led : AreLeads b q r bound leads) (h : Hopes) (has : HasHopes same_start same_place same_class limit leads h) where
  module _ (c : Chosen) (k : IsChosen b q r c) (n : CountsWithin bound limit c) where
    abbrev lead : Lead
    lead = (led c k n.rest n.rest_is).lead

    within : IsWithin limit lead.total
    within = by limit (led c k n.rest n.rest_is).below n.within
      where
        by : (o : Option ℕ) → lead.total ≤ c.price + n.rest → IsWithin o (c.price + n.rest) → IsWithin o lead.total
        by None le w = tt
        by (Some m) le w = omega (arith, le, w)

    end_hoped : EndWanted (marked same_place h.ends) k.flights
    end_hoped = last_as k.flights k.moves.stands.ends
      where
        last_as : (gs : List Flight) → OnLast (λ f. (k.piece.end ≡ f.to) × (k.piece.last_day ≡ f.day)) gs → OnLast (λ f. marked same_place h.ends f.to ≡ true) gs
        last_as [] z = absurd z
        last_as (f ∷ []) z = subst (λ p. marked same_place h.ends p ≡ true) ((led c k n.rest n.rest_is).outlines.end ∙ z.0) (has.of_ends lead (led c k n.rest n.rest_is).within within)
        last_as (f ∷ g ∷ gs) z = last_as (g ∷ gs) z

    o : Outlines lead.outline k.after k.piece
    o = (led c k n.rest n.rest_is).outlines

    -- how the move's flights begin
    begun : OnFirst (λ f. (lead.outline.first ≡ f.day) × (lead.outline.carrier ≡ f.carrier)) k.flights
    begun = outline_begins lead.outline k.after k.piece k.flights o k.moves.stands.begins k.piece.rule.cat9 k.moves.lawful.transfers

    start_hoped : OnFirst (λ f. marked same_start h.starts (begins_with f) ≡ true) k.flights
    start_hoped = first_to (λ f. (lead.outline.first ≡ f.day) × (lead.outline.carrier ≡ f.carrier)) (λ f. marked same_start h.starts (begins_with f) ≡ true) k.flights
        (λ f z. subst (λ y. marked same_start h.starts y ≡ true) (same f z.0 z.1) (has.of_starts lead (led c k n.rest n.rest_is).within within)) begun
      where
        same : (f : Flight) → lead.outline.first ≡ f.day → lead.outline.carrier ≡ f.carrier → start_of lead.outline ≡ begins_with f
        same f d e = λ i. record { day = d i; carrier = e i }

    group_hoped : (x : PathClass) → IsClass x k.after k.flights → IsIn (prospect_as k.piece) (groups_of same_class h.classes x)
    group_hoped x is = subst (λ g. IsIn g (groups_of same_class h.classes x)) named (subst (λ y. IsIn (prospect_of lead.outline) (groups_of same_class h.classes y)) same (has.of_classes lead (led c k n.rest n.rest_is).within within))
      where
        began : (lead.outline.first ≡ x.first) × (lead.outline.carrier ≡ x.carrier)
        began = first_one (λ f. (lead.outline.first ≡ f.day) × (lead.outline.carrier ≡ f.carrier)) (λ f. (x.first ≡ f.day) × (x.carrier ≡ f.carrier)) ((lead.outline.first ≡ x.first) × (lead.outline.carrier ≡ x.carrier)) (λ f u v. (u.0 ∙ sym v.0, u.1 ∙ sym v.1)) k.flights begun is.begins

        ended : (lead.outline.end ≡ x.end) × (lead.outline.last ≡ x.last)
        ended = last_one (λ f. (k.piece.end ≡ f.to) × (k.piece.last_day ≡ f.day)) (λ f. (x.end ≡ f.to) × (x.last ≡ f.day)) ((lead.outline.end ≡ x.end) × (lead.outline.last ≡ x.last)) (λ f u v. (o.end ∙ u.0 ∙ sym v.0, o.last ∙ u.1 ∙ sym v.1)) k.flights k.moves.stands.ends is.ends

        same : class_of lead.outline ≡ x
        same = let after = o.after_is ∙ sym is.after_is in λ i. record { after = after i; end = ended.0 i; first = began.0 i; last = ended.1 i; carrier = began.1 i }

        named : prospect_of lead.outline ≡ prospect_as k.piece
        named = λ i. record { key = record { carrier = o.carrier i; number = o.number i; kind = o.kind i }; reverse = o.reverse i }

  pub are_hopes : AreHopes same_start same_place same_class b q r bound limit h
  are_hopes = record { of_starts = start_hoped; of_ends = end_hoped; of_classes = group_hoped; once = has.once }

-- ---- the class of a path

module _ (b : Book) (all : List Flight) (plan : b.timetable.flights ≡ all) where
  first_numbered : (ns : List ℕ) (fs : List Flight) (f : Flight) → OnFirst (λ n. slice_get all n ≡ Some f) ns → Numbers b ns fs → OnFirst (λ g. f ≡ g) fs
  first_numbered [] fs f h m = absurd h
  first_numbered (n ∷ ns) [] f h m = absurd m
  first_numbered (n ∷ ns) (g ∷ fs) f h m = some_one (slice_get all n) f g h (ap (λ fs. slice_get fs n) (sym plan) ∙ m.0)

  last_numbered : (ns : List ℕ) (fs : List Flight) (f : Flight) → OnLast (λ n. slice_get all n ≡ Some f) ns → Numbers b ns fs → OnLast (λ g. f ≡ g) fs
  last_numbered [] fs f h m = absurd h
  last_numbered (n ∷ []) [] f h m = absurd m
  last_numbered (n ∷ []) (g ∷ []) f h m = some_one (slice_get all n) f g h (ap (λ fs. slice_get fs n) (sym plan) ∙ m.0)
  last_numbered (n ∷ []) (g ∷ g' ∷ fs) f h m = absurd m.1
  last_numbered (n ∷ n' ∷ ns) [] f h m = absurd m
  last_numbered (n ∷ n' ∷ ns) (g ∷ []) f h m = absurd m.1
  last_numbered (n ∷ n' ∷ ns) (g ∷ g' ∷ fs) f h m = last_numbered (n' ∷ ns) (g' ∷ fs) f h m.1

  pub class_is : (ns : List ℕ) (after : Option Position) (first last : Flight) → OnFirst (λ n. slice_get all n ≡ Some first) ns → OnLast (λ n. slice_get all n ≡ Some last) ns
      → (x : PathClass) → x.after ≡ after → x.end ≡ last.to → x.first ≡ first.day → x.last ≡ last.day → x.carrier ≡ first.carrier → (fs : List Flight) → Numbers b ns fs → IsClass x after fs
  class_is ns after first last h k x a e f l c fs m = record {
    after_is = a;
    begins = on_first_as (λ g. (x.first ≡ g.day) × (x.carrier ≡ g.carrier)) fs first (first_numbered ns fs first h m) (f, c);
    ends = on_last_as (λ g. (x.end ≡ g.to) × (x.last ≡ g.day)) fs last (last_numbered ns fs last k m) (e, l);
  }

-- where the number at a place is of no flight, not all are numbers of flights
pub none_known : (all : List Flight) (ns : List ℕ) (i : ℕ) (o : Option Flight) → i < length ns → o ≡ slice_get all (get_or ns i 0) → IfNone o (Each (λ n. IsSome (slice_get all n)) ns → ns ≡ [])
none_known all ns i (Some f) lt e = tt
none_known all ns i None lt e = λ h. absurd (false_true (subst IsSome (sym e) (each_at (λ n. IsSome (slice_get all n)) ns i 0 h lt)))

-- and a path by them has none
pub no_class : {X : Type 0} (o : Option X) (b : Book) (all : List Flight) → b.timetable.flights ≡ all → (ns : List ℕ) → (Each (λ n. IsSome (slice_get all n)) ns → ns ≡ []) → IfNone o ((fs : List Flight) → Numbers b ns fs → fs ≡ [])
no_class (Some x) b all plan ns none = tt
no_class None b all plan ns none = λ fs m. by ns fs (none (known ns fs m)) m
  where
    known : (ms : List ℕ) (gs : List Flight) → Numbers b ms gs → Each (λ n. IsSome (slice_get all n)) ms
    known [] gs k = tt
    known (n ∷ ms) [] k = absurd k
    known (n ∷ ms) (g ∷ gs) k = (some_there (slice_get all n) g (ap (λ xs. slice_get xs n) (sym plan) ∙ k.0), known ms gs k.1)

    by : (ms : List ℕ) (gs : List Flight) → ms ≡ [] → Numbers b ms gs → gs ≡ []
    by [] [] e k = refl
    by [] (g ∷ gs) e k = absurd k
    by (n ∷ ms) gs e k = absurd (cc)

-- the last of some numbers
pub last_known : (all : List Flight) (ns : List ℕ) (o : Option Flight) → 1 ≤ length ns → o ≡ slice_get all (get_or ns (length ns - 1) 0) → IfSome o (λ f. OnLast (λ n. slice_get all n ≡ Some f) ns)
last_known all ns None h e = tt
last_known all ns (Some f) h e = subst (λ x. OnLast (λ n. slice_get all n ≡ x) ns) (sym e) (last_at ns h)
  where
    last_at : (ms : List ℕ) → 1 ≤ length ms → OnLast (λ n. slice_get all n ≡ slice_get all (get_or ms (length ms - 1) 0)) ms
    last_at [] le = absurd (omega (arith, le))
    last_at (n ∷ []) le = refl
    last_at (n ∷ m ∷ ms) le = subst (λ i. OnLast (λ x. slice_get all x ≡ slice_get all (get_or (n ∷ m ∷ ms) i 0)) (m ∷ ms)) (shift (length ms)) (last_at (m ∷ ms) (omega arith))
      where
        shift : (i : ℕ) → suc (suc i - 1) ≡ suc (suc i) - 1
        shift i = omega arith
