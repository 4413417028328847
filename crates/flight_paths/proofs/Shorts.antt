-- The paths of at most three flights are the ways of one, two and three.
use Rattle.std.proofs.Common.{◌≡◌, ◌≢◌, ℕ, zero, suc, ◌≤◌, ◌<◌, List, [], ◌∷◌, ◌++◌, length, refl, sym, ap, ◌∙◌, inl, inr, arith}
use Rattle.fare_law.specs.declared.flights.Flight.{Flight}
use Rattle.fare_law.specs.declared.requests.Slice.{Slice}
use Rattle.fare_law.specs.Book.{Book}
use Rattle.fare_law.specs.Lists.{EachPair, IsIn, Less}
use Rattle.flight_paths.specs.declared.positions.Path.{Path}
use Rattle.flight_paths.specs.declared.positions.Position.{Position}
use Rattle.flight_paths.specs.Heads.{AreShort}
use Rattle.flight_paths.specs.Paths.{Precedes}
use Rattle.flight_paths.specs.Positions.{IsPath}
use Rattle.flight_paths.specs.Ways.{AreWays, IsWay}
use Rattle.flight_paths.proofs.Levels.{path_way, way_path}
use Rattle.flight_paths.proofs.Orders.{pairs_each}
use Rattle.law_lemmas.proofs.Members.{in_either, in_left, in_right}
use Rattle.law_lemmas.proofs.Pairs.{pairs_append}

module _ (b : Book) (sl : List Slice) (start : Position) where
  pub shorts_are : (one two three : List Path) → AreWays b sl start 1 one → AreWays b sl start 2 two → AreWays b sl start 3 three → AreShort b sl start (one ++ (two ++ three))
  shorts_are one two three a c d = record {
    in_order =
        pairs_append (λ p q. Precedes p.flights q.flights) one (two ++ three) (level one 1 a)
        (pairs_append (λ p q. Precedes p.flights q.flights) two three (level two 2 c) (level three 3 d) (λ x y i j. longer x y 2 3 (long two 2 c x i) (long three 3 d y j) (omega arith)))
        (λ x y i j. elim (in_either y two three j) [
          | inl k ↦ longer x y 1 2 (long one 1 a x i) (long two 2 c y k) (omega arith)
          | inr k ↦ longer x y 1 3 (long one 1 a x i) (long three 3 d y k) (omega arith)
        ]);
    are = λ p. (forth p, back p);
  }
    where
      long : (ps : List Path) (n : ℕ) → AreWays b sl start n ps → (p : Path) → IsIn p ps → length p.flights ≡ n
      long ps n h p i = ((h.are p).0 i).1

      level : (ps : List Path) (n : ℕ) → AreWays b sl start n ps → EachPair (λ p q. Precedes p.flights q.flights) ps
      level ps n h = pairs_each (λ p q. Less p.flights q.flights) (λ p q. Precedes p.flights q.flights) ps h.in_order (λ x y i j r. inr (long ps n h x i ∙ sym (long ps n h y j), r))

      longer : (x y : Path) (m n : ℕ) → length x.flights ≡ m → length y.flights ≡ n → m < n → Precedes x.flights y.flights
      longer x y m n p q lt = inl (omega (arith, p, q, lt))

      some : (p : Path) (n : ℕ) → length p.flights ≡ suc n → p.flights ≢ []
      some p n l z = absurd (wrong (ap length z) l)
        where
          wrong : length p.flights ≡ 0 → length p.flights ≡ suc n → ⊥
          wrong x y = omega (arith, x, y)

      is : (p : Path) (n : ℕ) → suc n ≤ 3 → IsWay b sl start p → length p.flights ≡ suc n → (fs : List Flight) × IsPath b sl start p.flights fs p.after × (length p.flights ≤ 3)
      is p n le w l = let r = way_path b sl start p (some p n l) w in (r.0, r.1, omega (arith, l, le))

      forth : (p : Path) → IsIn p (one ++ (two ++ three)) → (fs : List Flight) × IsPath b sl start p.flights fs p.after × (length p.flights ≤ 3)
      forth p i = elim (in_either p one (two ++ three) i) [
        | inl j ↦ is p 0 (omega arith) ((a.are p).0 j).0 (long one 1 a p j)
        | inr j ↦ elim (in_either p two three j) [
          | inl k ↦ is p 1 (omega arith) ((c.are p).0 k).0 (long two 2 c p k)
          | inr k ↦ is p 2 (omega arith) ((d.are p).0 k).0 (long three 3 d p k)
        ]
      ]

      back : (p : Path) → (fs : List Flight) × IsPath b sl start p.flights fs p.after × (length p.flights ≤ 3) → IsIn p (one ++ (two ++ three))
      back p (fs, h, few) = by (length p.flights) refl few
        where
          w : IsWay b sl start p
          w = path_way b sl start p fs h

          empty : (ns : List ℕ) → length ns ≡ 0 → ns ≡ []
          empty [] z = refl
          empty (n ∷ ns) z = absurd (omega (arith, z))

          by : (n : ℕ) → length p.flights ≡ n → n ≤ 3 → IsIn p (one ++ (two ++ three))
          by zero q le = absurd (h.some (empty p.flights q))
          by (suc zero) q le = in_left p one (two ++ three) ((a.are p).1 (w, q))
          by (suc (suc zero)) q le = in_right p one (two ++ three) (in_left p two three ((c.are p).1 (w, q)))
          by (suc (suc (suc zero))) q le = in_right p one (two ++ three) (in_right p two three ((d.are p).1 (w, q)))
          by (suc (suc (suc (suc n)))) q le = absurd (omega (arith, le))
