-- Where tails end for which a place has fares, as it is found.
use Rattle.std.proofs.Common.{◌≡◌, ◌⊎◌, ℕ, ◌-◌, ◌≤◌, true, false, List, [], ◌∷◌, ◌++◌, length, take, drop, vec_items, refl, sym, ap, subst, ◌∙◌, inl, inr, append-nil, append_assoc, arith}
use Rattle.fare_ends.specs.declared.ends.FareEnd.{FareEnd}
use Rattle.fare_ends.specs.declared.ends.FareEnds.{FareEnds}
use Rattle.fare_ends.specs.Ends.{HasWay, IsFareEnd, IsRange, KnowsMore, between}
use Rattle.fare_ends.specs.Reaches.{HasNoFares}
use Rattle.fare_ends.proofs.EndFacts.{end_more, way_more}
use Rattle.fare_ends.proofs.Ranges.{between_last, between_more, range_last, range_more}
use Rattle.fare_law.specs.declared.names.Place.{Place}
use Rattle.fare_law.specs.Book.{Book}
use Rattle.fare_law.specs.Lists.{Each, IsIn, IsPrefix}
use Rattle.joint_paths.specs.declared.join_ends.CarrierJoins.{CarrierJoins}
use Rattle.joint_paths.specs.declared.join_ends.JoinEnd.{JoinEnd}
use Rattle.joint_paths.specs.declared.join_ends.JoinEnds.{JoinEnds}
use Rattle.joint_paths.specs.declared.join_ends.JoinKey.{JoinKey}
use Rattle.joint_paths.specs.declared.join_ends.JoinRange.{JoinRange}
use Rattle.joint_paths.specs.declared.join_ends.PlaceJoins.{PlaceJoins}
use Rattle.joint_paths.specs.declared.tail_classes.TailEnd.{TailEnd}
use Rattle.joint_paths.specs.JoinEnds.{AddsJoin, AddsJoins, AddsPlaceEnd, AddsPlaceEnds, AreFareJoins, AreJoinEnds, ArePlaceEnds, ArePlacesKept, IsJoinEnd, IsJoinedOrLacks, LacksFares, asked_for}
use Rattle.law_lemmas.proofs.EachOne.{each_append, each_by, each_from, each_in, each_more}
use Rattle.law_lemmas.proofs.Lists.{prefix_self}
use Rattle.law_lemmas.proofs.Members.{in_left, in_right}

module _ (b : Book) (key : JoinKey) (old new : FareEnds) (more : KnowsMore old new) where
  pub join_stays : (tails : List TailEnd) (j : JoinEnd) → IsJoinEnd b old tails key j → IsJoinEnd b new tails key j
  join_stays tails j h = record { of = h.of; within = h.within; from = h.from; to = h.to; is = end_more b (asked_for key h.of.place) old new more j.end h.is }

  pub lacks_stays : (joins : List JoinEnd) (e : TailEnd) → IsJoinedOrLacks b old key joins e → IsJoinedOrLacks b new key joins e
  lacks_stays joins e (inl j) = inl j
  lacks_stays joins e (inr l) = inr (λ reverse. way_more b (asked_for key e.place) old new more reverse [] [] (λ g i. i) (l reverse))

  pub joins_stay : (tails : List TailEnd) (r : JoinRange) (joins : List JoinEnd) → AreFareJoins b old tails key r joins → AreFareJoins b new tails key r joins
  joins_stay tails r joins h = record {
    range = h.range;
    each = each_by (IsJoinEnd b old tails key) (IsJoinEnd b new tails key) (between joins r.from r.to) (join_stays tails) h.each;
    all = each_by (IsJoinedOrLacks b old key (between joins r.from r.to)) (IsJoinedOrLacks b new key (between joins r.from r.to)) tails (lacks_stays (between joins r.from r.to)) h.all;
  }

-- an end stands among more, too
pub joined_wider : (b : Book) (fares : FareEnds) (key : JoinKey) (joins wider : List JoinEnd) (e : TailEnd) → ((j : JoinEnd) → IsIn j joins → IsIn j wider) → IsJoinedOrLacks b fares key joins e → IsJoinedOrLacks b fares key wider e
joined_wider b fares key joins wider e among (inl j) = inl (j.0, among j.0 j.1, j.2, j.3)
joined_wider b fares key joins wider e among (inr l) = inr l

empty_between : {X : Type 0} (xs : List X) (from to : ℕ) → to ≤ from → between xs from to ≡ []
empty_between xs from to le = ap (λ n. take n (drop from xs)) (let z : to - from ≡ 0 = omega (arith, le) in z)

-- where an end has no group, the carrier has no fare
pub lacks_empty : (b : Book) (fares : FareEnds) (key : JoinKey) (place : Place) (e : FareEnd) → IsFareEnd b (asked_for key place) fares e → e.to ≤ e.from → LacksFares b fares key place
lacks_empty b fares key place e h le reverse = subst (HasWay b (asked_for key place) fares reverse) (empty_between fares.groups.items e.from e.to le) (h.ways reverse)

-- where no fare is filed, it has none
lacks_unfiled : (b : Book) (fares : FareEnds) (key : JoinKey) (place : Place) → HasNoFares b key.place place → LacksFares b fares key place
lacks_unfiled b fares key place h true = inl h.1
lacks_unfiled b fares key place h false = inl h.0

-- what stands for an end past the end of a list
abbrev pub no_end : TailEnd
no_end = record { place = record { 0 = [] }; from = 0; to = 0 }

-- no end is added yet
pub joins_none : (b : Book) (fares : FareEnds) (key : JoinKey) (old : List JoinEnd) → AddsJoins b fares key [] old old
joins_none b fares key old = record { more = []; joined = sym (append-nil old); each = tt; all = tt }

-- one end more
module _ (b : Book) (key : JoinKey) (front wider : List TailEnd) (e : TailEnd) (is : wider ≡ front ++ e ∷ []) (fares more : FareEnds) (knows : KnowsMore fares more) (old mid new : List JoinEnd) (l : AddsJoins b fares key front old mid) (a : AddsJoin b more key e mid new) where
  among_wider : (x : TailEnd) → IsIn x front → IsIn x wider
  among_wider x i = subst (IsIn x) (sym is) (in_left x front (e ∷ []) i)

  before : (j : JoinEnd) → IsJoinEnd b fares front key j → IsJoinEnd b more wider key j
  before j h = let s = join_stays b key fares more knows front j h in record { of = s.of; within = among_wider s.of s.within; from = s.from; to = s.to; is = s.is }

  now : (j : JoinEnd) → (j.from ≡ e.from) × (j.to ≡ e.to) × IsFareEnd b (asked_for key e.place) more j.end → IsJoinEnd b more wider key j
  now j x = record { of = e; within = subst (IsIn e) (sym is) (in_right e front (e ∷ []) (inl refl)); from = x.0; to = x.1; is = x.2 }

  abbrev pub P : TailEnd → Type 0
  P = IsJoinedOrLacks b more key (l.more ++ a.more)

  pub joins_more : AddsJoins b more key wider old new
  joins_more = record {
    more = l.more ++ a.more;
    joined = a.joined ∙ ap (λ xs. xs ++ a.more) l.joined ∙ append_assoc old l.more a.more;
    each = each_append (IsJoinEnd b more wider key) l.more a.more
        (each_by (IsJoinEnd b fares front key) (IsJoinEnd b more wider key) l.more before l.each)
        (each_by (λ (j : JoinEnd). (j.from ≡ e.from) × (j.to ≡ e.to) × IsFareEnd b (asked_for key e.place) more j.end) (IsJoinEnd b more wider key) a.more now a.each);
    all = subst (Each P) (sym is) (each_more P front e
        (each_by (IsJoinedOrLacks b fares key l.more) P front (λ x h. joined_wider b more key l.more (l.more ++ a.more) x (λ j i. in_left j l.more a.more i) (lacks_stays b key fares more knows l.more x h)) l.all)
        (joined_wider b more key a.more (l.more ++ a.more) e (λ j i. in_right j l.more a.more i) a.has));
  }

-- ends were added behind those that stood there
pub joins_grown : (b : Book) (fares : FareEnds) (key : JoinKey) (ends : List TailEnd) (old new : List JoinEnd) → AddsJoins b fares key ends old new → IsPrefix old new
joins_grown b fares key ends old new h = (h.more, h.joined)

-- all ends of a place are added
pub joins_all : (b : Book) (tails found : List TailEnd) (key : JoinKey) (places range : JoinRange) (old new : List JoinEnd) (fares : FareEnds) → ArePlaceEnds b tails key.place places found → AddsJoins b fares key (between found places.from places.to) old new → range.from ≡ length old → range.to ≡ length new → AreFareJoins b fares tails key range new
joins_all b tails found key places range old new fares place l from to =
    let ends = between found places.from places.to in
    let end = to ∙ ap length l.joined in
    let there = ap (λ xs. between xs range.from range.to) l.joined ∙ between_last old l.more range.from range.to from end in
    record {
      range = subst (λ xs. IsRange xs range.from range.to) (sym l.joined) (range_last old l.more range.from range.to from end);
      each = subst (Each (IsJoinEnd b fares tails key)) (sym there) (each_by (IsJoinEnd b fares ends key) (IsJoinEnd b fares tails key) l.more (λ j h. record { of = h.of; within = each_in (λ x. IsIn x tails) ends h.of place.each h.within; from = h.from; to = h.to; is = h.is }) l.each);
      all = subst (λ xs. Each (IsJoinedOrLacks b fares key xs) tails) (sym there) (each_from (IsJoinedOrLacks b fares key l.more) tails (λ e i. elim (each_in (λ (x : TailEnd). IsIn x ends ⊎ HasNoFares b key.place x.place) tails e place.all i) [
        | inl x ↦ each_in (IsJoinedOrLacks b fares key l.more) ends e l.all x
        | inr none ↦ inr (lacks_unfiled b fares key e.place none)
      ]));
    }

-- what is known stays known, as ends and fares are added
pub joins_grow : (b : Book) (tails : List TailEnd) (fares more : FareEnds) (joins wider : List JoinEnd) → KnowsMore fares more → IsPrefix joins wider → (kept : List CarrierJoins) → Each (λ (c : CarrierJoins). AreFareJoins b fares tails c.key c.range joins) kept → Each (λ (c : CarrierJoins). AreFareJoins b more tails c.key c.range wider) kept
joins_grow b tails fares more joins wider knows prefix kept h = each_by (λ (c : CarrierJoins). AreFareJoins b fares tails c.key c.range joins) (λ (c : CarrierJoins). AreFareJoins b more tails c.key c.range wider) kept (λ c x. longer c (joins_stay b c.key fares more knows tails c.range joins x)) h
  where
    longer : (c : CarrierJoins) → AreFareJoins b more tails c.key c.range joins → AreFareJoins b more tails c.key c.range wider
    longer c x =
        let same = between_more joins wider c.range.from c.range.to prefix x.range in
        record {
          range = range_more joins wider c.range.from c.range.to prefix x.range;
          each = subst (Each (IsJoinEnd b more tails c.key)) (sym same) x.each;
          all = subst (λ xs. Each (IsJoinedOrLacks b more c.key xs) tails) (sym same) x.all;
        }

-- the places for which ends are found stay, as more are found
pub places_grow : (b : Book) (tails : List TailEnd) (found wider : List TailEnd) → IsPrefix found wider → (kept : List PlaceJoins) → Each (λ (p : PlaceJoins). ArePlaceEnds b tails p.place p.range found) kept → Each (λ (p : PlaceJoins). ArePlaceEnds b tails p.place p.range wider) kept
places_grow b tails found wider prefix kept h = each_by (λ (p : PlaceJoins). ArePlaceEnds b tails p.place p.range found) (λ (p : PlaceJoins). ArePlaceEnds b tails p.place p.range wider) kept longer h
  where
    longer : (p : PlaceJoins) → ArePlaceEnds b tails p.place p.range found → ArePlaceEnds b tails p.place p.range wider
    longer p x =
        let same = between_more found wider p.range.from p.range.to prefix x.range in
        record {
          range = range_more found wider p.range.from p.range.to prefix x.range;
          each = subst (Each (λ e. IsIn e tails)) (sym same) x.each;
          all = subst (λ xs. Each (λ (e : TailEnd). IsIn e xs ⊎ HasNoFares b p.place e.place) tails) (sym same) x.all;
        }

-- the ends of a place stand behind those that were found before
pub places_added : (b : Book) (tails : List TailEnd) (place : Place) (range : JoinRange) (old new : List TailEnd) → AddsPlaceEnds b tails place old new → range.from ≡ length old → range.to ≡ length new → ArePlaceEnds b tails place range new
places_added b tails place range old new a from to =
    let end = to ∙ ap length a.joined in
    let there = ap (λ xs. between xs range.from range.to) a.joined ∙ between_last old a.more range.from range.to from end in
    record {
      range = subst (λ xs. IsRange xs range.from range.to) (sym a.joined) (range_last old a.more range.from range.to from end);
      each = subst (Each (λ e. IsIn e tails)) (sym there) a.each;
      all = subst (λ xs. Each (λ (e : TailEnd). IsIn e xs ⊎ HasNoFares b place e.place) tails) (sym there) a.all;
    }

-- ends of a place, none yet
pub places_none : (b : Book) (place : Place) (old : List TailEnd) → AddsPlaceEnds b [] place old old
places_none b place old = record { more = []; joined = sym (append-nil old); each = tt; all = tt }

-- one more
module _ (b : Book) (place : Place) (front wider : List TailEnd) (e : TailEnd) (is : wider ≡ front ++ e ∷ []) (old mid : List TailEnd) (h : AddsPlaceEnds b front place old mid) where
  wide : (x : TailEnd) → IsIn x front → IsIn x wider
  wide x i = subst (IsIn x) (sym is) (in_left x front (e ∷ []) i)

  pub place_found : AddsPlaceEnds b wider place old (mid ++ e ∷ [])
  place_found = record {
    more = h.more ++ e ∷ [];
    joined = ap (λ xs. xs ++ e ∷ []) h.joined ∙ append_assoc old h.more (e ∷ []);
    each = each_more (λ x. IsIn x wider) h.more e (each_by (λ x. IsIn x front) (λ x. IsIn x wider) h.more wide h.each) (subst (IsIn e) (sym is) (in_right e front (e ∷ []) (inl refl)));
    all = subst (Each (λ (x : TailEnd). IsIn x (h.more ++ e ∷ []) ⊎ HasNoFares b place x.place)) (sym is) (each_more (λ (x : TailEnd). IsIn x (h.more ++ e ∷ []) ⊎ HasNoFares b place x.place) front e
        (each_by (λ (x : TailEnd). IsIn x h.more ⊎ HasNoFares b place x.place) (λ (x : TailEnd). IsIn x (h.more ++ e ∷ []) ⊎ HasNoFares b place x.place) front (λ x o. elim o [ inl i ↦ inl (in_left x h.more (e ∷ []) i) | inr n ↦ inr n ]) h.all)
        (inl (in_right e h.more (e ∷ []) (inl refl))));
  }

  pub place_lacks : HasNoFares b place e.place → AddsPlaceEnds b wider place old mid
  place_lacks none = record {
    more = h.more;
    joined = h.joined;
    each = each_by (λ x. IsIn x front) (λ x. IsIn x wider) h.more wide h.each;
    all = subst (Each (λ (x : TailEnd). IsIn x h.more ⊎ HasNoFares b place x.place)) (sym is) (each_more (λ (x : TailEnd). IsIn x h.more ⊎ HasNoFares b place x.place) front e h.all (inr none));
  }

  pub place_next : (new : List TailEnd) → AddsPlaceEnd b place e mid new → AddsPlaceEnds b wider place old new
  place_next new (inl added) = subst (AddsPlaceEnds b wider place old) (sym added) place_found
  place_next new (inr none) = subst (AddsPlaceEnds b wider place old) (sym none.0) (place_lacks none.1)

pub places_grown : (b : Book) (ends : List TailEnd) (place : Place) (old new : List TailEnd) → AddsPlaceEnds b ends place old new → IsPrefix old new
places_grown b ends place old new h = (h.more, h.joined)

-- What is known of ends stays, as ends and fares are added.
module _ (b : Book) (tails : List TailEnd) (fares more : FareEnds) (old new : JoinEnds) (h : AreJoinEnds b fares tails old) (knows : KnowsMore fares more) (places : ArePlacesKept b tails new) (prefix : IsPrefix old.ends.items new.ends.items) where
  pub ends_stay : new.kept.items ≡ old.kept.items → AreJoinEnds b more tails new
  ends_stay same = record {
    places = places;
    joins = subst (Each (λ (c : CarrierJoins). AreFareJoins b more tails c.key c.range new.ends.items)) (sym same) (joins_grow b tails fares more old.ends.items new.ends.items knows prefix old.kept.items h.joins);
  }

  pub ends_kept : (key : JoinKey) (range : JoinRange) → AreFareJoins b more tails key range new.ends.items → new.kept.items ≡ old.kept.items ++ record { key = key; range = range } ∷ [] → AreJoinEnds b more tails new
  ends_kept key range own same = record {
    places = places;
    joins = subst (Each (λ (c : CarrierJoins). AreFareJoins b more tails c.key c.range new.ends.items)) (sym same) (each_more (λ (c : CarrierJoins). AreFareJoins b more tails c.key c.range new.ends.items) old.kept.items (record { key = key; range = range }) (joins_grow b tails fares more old.ends.items new.ends.items knows prefix old.kept.items h.joins) own);
  }

-- and one place more
pub places_kept : (b : Book) (tails : List TailEnd) (old new : JoinEnds) (place : Place) (range : JoinRange) → ArePlacesKept b tails old → IsPrefix old.place_ends.items new.place_ends.items → ArePlaceEnds b tails place range new.place_ends.items → new.kept_places.items ≡ old.kept_places.items ++ record { place = place; range = range } ∷ [] → ArePlacesKept b tails new
places_kept b tails old new place range h prefix own same = subst (Each (λ (p : PlaceJoins). ArePlaceEnds b tails p.place p.range new.place_ends.items)) (sym same) (each_more (λ (p : PlaceJoins). ArePlaceEnds b tails p.place p.range new.place_ends.items) old.kept_places.items (record { place = place; range = range }) (places_grow b tails old.place_ends.items new.place_ends.items prefix old.kept_places.items h) own)

pub places_stay : (b : Book) (tails : List TailEnd) (old new : JoinEnds) → ArePlacesKept b tails old → IsPrefix old.place_ends.items new.place_ends.items → new.kept_places.items ≡ old.kept_places.items → ArePlacesKept b tails new
places_stay b tails old new h prefix same = subst (Each (λ (p : PlaceJoins). ArePlaceEnds b tails p.place p.range new.place_ends.items)) (sym same) (places_grow b tails old.place_ends.items new.place_ends.items prefix old.kept_places.items h)

pub places_like : (b : Book) (tails : List TailEnd) (old new : JoinEnds) → ArePlacesKept b tails old → new.kept_places ≡ old.kept_places → new.place_ends ≡ old.place_ends → ArePlacesKept b tails new
places_like b tails old new h kept found = places_stay b tails old new h (subst (λ xs. IsPrefix old.place_ends.items xs) (sym (ap vec_items found)) (prefix_self old.place_ends.items)) (ap vec_items kept)

-- the ends of a key are kept, or it is not known where they stand
module _ (b : Book) (tails : List TailEnd) (fares more : FareEnds) (old new : JoinEnds) (h : AreJoinEnds b fares tails old) (knows : KnowsMore fares more) (places : ArePlacesKept b tails new) (prefix : IsPrefix old.ends.items new.ends.items) where
  pub ends_after : (key : JoinKey) (range : JoinRange) → AreFareJoins b more tails key range new.ends.items → (new.kept.items ≡ old.kept.items) ⊎ (new.kept.items ≡ old.kept.items ++ record { key = key; range = range } ∷ []) → AreJoinEnds b more tails new
  ends_after key range own (inl same) = ends_stay b tails fares more old new h knows places prefix same
  ends_after key range own (inr added) = ends_kept b tails fares more old new h knows places prefix key range own added

-- so are those of a place
pub places_after : (b : Book) (tails : List TailEnd) (old new : JoinEnds) (place : Place) (range : JoinRange) → ArePlacesKept b tails old → IsPrefix old.place_ends.items new.place_ends.items → ArePlaceEnds b tails place range new.place_ends.items
    → (new.kept_places.items ≡ old.kept_places.items) ⊎ (new.kept_places.items ≡ old.kept_places.items ++ record { place = place; range = range } ∷ []) → ArePlacesKept b tails new
places_after b tails old new place range h prefix own (inl same) = places_stay b tails old new h prefix same
places_after b tails old new place range h prefix own (inr added) = places_kept b tails old new place range h prefix own added

-- what is known once the ends of a place were added
pub place_done : (b : Book) (tails : List TailEnd) (place : Place) (range : JoinRange) (old new : JoinEnds) (found : List TailEnd) → ArePlacesKept b tails old → AddsPlaceEnds b tails place old.place_ends.items found → range.from ≡ length old.place_ends.items → range.to ≡ length found → new.place_ends.items ≡ found
    → (new.kept_places.items ≡ old.kept_places.items) ⊎ (new.kept_places.items ≡ old.kept_places.items ++ record { place = place; range = range } ∷ []) → ArePlacesKept b tails new × ArePlaceEnds b tails place range new.place_ends.items
place_done b tails place range old new found h added from to same kept =
    let own = subst (ArePlaceEnds b tails place range) (sym same) (places_added b tails place range old.place_ends.items found added from to) in
    (places_after b tails old new place range h (subst (λ xs. IsPrefix old.place_ends.items xs) (sym same) (places_grown b tails place old.place_ends.items found added)) own kept, own)

-- and once those of a key were
module _ (b : Book) (tails : List TailEnd) (fares more : FareEnds) (key : JoinKey) (places range : JoinRange) (old mid new : JoinEnds) (there : List TailEnd) (found : List JoinEnd) (h : AreJoinEnds b fares tails old) (kept_places : ArePlacesKept b tails mid) (kept_mid : mid.kept ≡ old.kept) (ends_mid : mid.ends ≡ old.ends)
    (place : ArePlaceEnds b tails key.place places mid.place_ends.items) (there_is : there ≡ between mid.place_ends.items places.from places.to) (knows : KnowsMore fares more) (added : AddsJoins b more key there mid.ends.items found) (from : range.from ≡ length mid.ends.items) (to : range.to ≡ length found)
    (same_places : new.kept_places ≡ mid.kept_places) (same_found : new.place_ends ≡ mid.place_ends) (same_ends : new.ends.items ≡ found) (kept : (new.kept.items ≡ mid.kept.items) ⊎ (new.kept.items ≡ mid.kept.items ++ record { key = key; range = range } ∷ [])) where
  pub own_joins : AreFareJoins b more tails key range new.ends.items
  own_joins = subst (AreFareJoins b more tails key range) (sym same_ends) (joins_all b tails mid.place_ends.items key places range mid.ends.items found more place (subst (λ es. AddsJoins b more key es mid.ends.items found) there_is added) from to)

  pub all_joins : AreJoinEnds b more tails new
  all_joins =
      let ends = ap vec_items ends_mid in
      let grown = subst (λ (xs : List JoinEnd). IsPrefix xs found) ends (joins_grown b more key there mid.ends.items found added) in
      ends_after b tails fares more old new h knows (places_like b tails mid new kept_places same_places same_found) (subst (λ (xs : List JoinEnd). IsPrefix old.ends.items xs) (sym same_ends) grown) key range own_joins
      (subst (λ (xs : List CarrierJoins). (new.kept.items ≡ xs) ⊎ (new.kept.items ≡ xs ++ record { key = key; range = range } ∷ [])) (ap vec_items kept_mid) kept)
