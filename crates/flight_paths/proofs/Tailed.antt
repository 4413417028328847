-- The tails of a slice, and heads and tails over any book of a schedule.
use Rattle.std.proofs.Common.{◌≡◌, Bool, ℕ, List, [], length, slice_get, Option, Some, None, sym, subst, ◌∙◌, arith}
use Rattle.fare_law.specs.declared.flights.Flight.{Flight}
use Rattle.fare_law.specs.declared.names.Place.{Place}
use Rattle.fare_law.specs.declared.requests.Slice.{Slice}
use Rattle.fare_law.specs.Book.{Book}
use Rattle.fare_law.specs.Lists.{IsIn}
use Rattle.flight_paths.specs.declared.positions.Path.{Path}
use Rattle.flight_paths.specs.declared.positions.Position.{Position}
use Rattle.flight_paths.specs.Heads.{AreHeads, AreReached, AreShort, AreTails, HasTails, IsHead, IsTail}
use Rattle.flight_paths.specs.Positions.{IsPath, position_before}
use Rattle.flight_paths.proofs.AnyBook.{Alike, alike_back, before_same, path_same}
use Rattle.flight_paths.proofs.Growth.{flies_numbers}
use Rattle.law_lemmas.proofs.Options.{some_same}
use Rattle.law_lemmas.proofs.Pairs.{matched_length}

module _ (b : Book) (sl : List Slice) (i : ℕ) where
  pub tails_are : (t : Slice) (paths : List Path) → slice_get sl i ≡ Some t → AreShort b sl (position_before b i t None) paths → AreTails b sl i paths
  tails_are t paths k h = record { in_order = h.in_order; are = λ p. (forth p, back p) }
    where
      numbers : (p : Path) (fs : List Flight) → IsPath b sl (position_before b i t None) p.flights fs p.after → length p.flights ≡ length fs
      numbers p fs w = matched_length _ p.flights fs (flies_numbers b sl (Some (position_before b i t None)) p.flights fs p.after w.flies)

      forth : (p : Path) → IsIn p paths → (fs : List Flight) × IsTail b sl i p.flights fs p.after
      forth p j = let r = (h.are p).0 j in (r.0, record { slice = t; known = k; path = r.1; few = omega (arith, r.2, numbers p r.0 r.1) })

      back : (p : Path) → (fs : List Flight) × IsTail b sl i p.flights fs p.after → IsIn p paths
      back p (fs, w) =
          let path = subst (λ x. IsPath b sl (position_before b i x None) p.flights fs p.after) (some_same w.slice t (sym w.known ∙ k)) w.path in
          (h.are p).1 (fs, path, omega (arith, w.few, numbers p fs path))

  pub no_tails : slice_get sl i ≡ None → AreTails b sl i []
  no_tails k = record { in_order = tt; are = λ p. (λ j. absurd j, λ w. none w.1.slice (sym w.1.known ∙ k)) }
    where
      none : (t : Slice) → Some t ≡ None → ⊥
      none t e = cc

module _ (b c : Book) (a : Alike b c) (sl : List Slice) where
  pub head_same : (at : Position) (ns : List ℕ) (fs : List Flight) (next : Option Position) → IsHead b sl at ns fs next → IsHead c sl at ns fs next
  head_same at ns fs next h = record { path = path_same b c a sl at ns fs next h.path; stays = h.stays }

  pub tail_same : (i : ℕ) (ns : List ℕ) (fs : List Flight) (next : Option Position) → IsTail b sl i ns fs next → IsTail c sl i ns fs next
  tail_same i ns fs next h = record {
    slice = h.slice;
    known = h.known;
    path = subst (λ at. IsPath c sl at ns fs next) (before_same b c a i h.slice None) (path_same b c a sl (position_before b i h.slice None) ns fs next h.path);
    few = h.few;
  }

pub heads_any : (b c : Book) → Alike b c → (sl : List Slice) (at : Position) (heads : List Path) → AreHeads b sl at heads → AreHeads c sl at heads
heads_any b c a sl at heads h = record {
  in_order = h.in_order;
  are = λ p. (
    λ i. let r = (h.are p).0 i in (r.0, head_same b c a sl at p.flights r.0 p.after r.1),
    λ r. (h.are p).1 (r.0, head_same c b (alike_back b c a) sl at p.flights r.0 p.after r.1),
  );
}

pub tails_any : (b c : Book) → Alike b c → (sl : List Slice) (i : ℕ) (tails : List Path) → AreTails b sl i tails → AreTails c sl i tails
tails_any b c a sl i tails h = record {
  in_order = h.in_order;
  are = λ p. (
    λ j. let r = (h.are p).0 j in (r.0, tail_same b c a sl i p.flights r.0 p.after r.1),
    λ r. (h.are p).1 (r.0, tail_same c b (alike_back b c a) sl i p.flights r.0 p.after r.1),
  );
}

pub has_any : (b c : Book) → Alike b c → (sl : List Slice) (i : ℕ) (wanted : Place → Bool) (tails : List Path) → HasTails b sl i wanted tails → HasTails c sl i wanted tails
has_any b c a sl i wanted tails h = λ p fs t e. h p fs (tail_same c b (alike_back b c a) sl i p.flights fs p.after t) e

pub reached_any : (b c : Book) → Alike b c → (sl : List Slice) (at : Position) (wanted : Place → Bool) (paths : List Path) → AreReached b sl at wanted paths → AreReached c sl at wanted paths
reached_any b c a sl at wanted paths h = record {
  once = h.once;
  each = λ p i. let r = h.each p i in (r.0, path_same b c a sl at p.flights r.0 p.after r.1);
  all = λ p fs x e. h.all p fs (path_same c b (alike_back b c a) sl at p.flights fs p.after x) e;
}
