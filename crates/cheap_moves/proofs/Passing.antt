-- The paths that were listed flight by flight have all moves that may be among the first.
use Rattle.std.proofs.Common.{◌≡◌, ◌⊎◌, ℕ, ◌+◌, ◌≤◌, ◌<◌, Bool, List, [], ◌∷◌, ◌++◌, length, take, get_or, Option, Some, refl, sym, subst, ◌∙◌, inl, inr, arith}
use Rattle.cheap_moves.specs.declared.hopes.Hopes.{Hopes}
use Rattle.cheap_moves.specs.declared.hopes.PathClass.{PathClass}
use Rattle.cheap_moves.specs.declared.hopes.PathStart.{PathStart}
use Rattle.cheap_moves.specs.declared.least.CountedMove.{CountedMove}
use Rattle.cheap_moves.specs.Drawing.{AreNext, ArePassed, AreTailsFor, IsBeyond}
use Rattle.cheap_moves.specs.Hopes.{AreHopes, begins_with, marked}
use Rattle.cheap_moves.specs.LeastMoves.{AreKept, Counts, CountsOn, IsLimit, IsSooner, counted}
use Rattle.cheap_moves.specs.Sought.{AreEnding, AreSoughtBy}
use Rattle.cheap_moves.specs.Within.{CountsWithin, IsWithin, total_of}
use Rattle.cheap_moves.proofs.Cutting.{decided}
use Rattle.cheap_moves.proofs.Joining.{one_added}
use Rattle.cheap_moves.proofs.LeastWithin.{counts_with, within_is}
use Rattle.cheap_moves.proofs.Seeking.{begins_there}
use Rattle.fare_law.specs.declared.flights.Flight.{Flight}
use Rattle.fare_law.specs.declared.names.Place.{Place}
use Rattle.fare_law.specs.declared.requests.Request.{Request}
use Rattle.fare_law.specs.Book.{Book}
use Rattle.fare_law.specs.Lists.{Each, EachPair, HasMany, IsIn, OnFirst}
use Rattle.flight_paths.specs.declared.positions.Path.{Path}
use Rattle.flight_paths.proofs.Apart.{different_more}
use Rattle.flight_paths.proofs.Orders.{before_smaller}
use Rattle.residual_keys.specs.declared.residual.Chosen.{Chosen}
use Rattle.residual_keys.specs.Residuals.{State}
use Rattle.schedule_book.specs.Departures.{AreDepartures, DepartsFrom}
use Rattle.law_lemmas.proofs.EachOne.{each_in, each_weaker}
use Rattle.law_lemmas.proofs.Lists.{front_read}
use Rattle.law_lemmas.proofs.Members.{in_either, in_left, in_right}

first_weaker : (P Q : ℕ → Type 0) → ((n : ℕ) → P n → Q n) → (ns : List ℕ) → OnFirst P ns → OnFirst Q ns
first_weaker P Q to [] h = absurd h
first_weaker P Q to (n ∷ ns) h = to n h

first_either : (P Q R : ℕ → Type 0) → ((n : ℕ) → R n → P n ⊎ Q n) → (ns : List ℕ) → OnFirst R ns → OnFirst P ns ⊎ OnFirst Q ns
first_either P Q R to [] h = absurd h
first_either P Q R to (n ∷ ns) h = to n h

first_both : (P Q : ℕ → Type 0) → ((n : ℕ) → P n → Q n → ⊥) → (ns : List ℕ) → OnFirst P ns → OnFirst Q ns → ⊥
first_both P Q not [] h k = h
first_both P Q not (n ∷ ns) h k = not n h k

module _ (b : Book) (q : Request) (r : State) (bound : State → Option ℕ) (first : Option ℕ) (wanted : ℕ) where
  abbrev Has : List Path → CountedMove → Type 0
  Has paths m = CountsOn b q r bound first paths m

  abbrev Beyond : List Path → Chosen → Type 0
  Beyond seen c = IsBeyond b q r bound first wanted seen c

  beyond_more : (seen more : List Path) (c : Chosen) → Beyond seen c → Beyond (seen ++ more) c
  beyond_more seen more c h = (h.0, h.1, h.2, each_weaker (λ n. Has seen n × IsSooner n (counted bound c)) (λ n. Has (seen ++ more) n × IsSooner n (counted bound c)) (λ n k. (((k.0.0.0, in_left k.0.0.0 seen more k.0.0.1, k.0.0.2), k.0.1), k.1)) h.0 h.3)

  -- a move is within the limit that there is now, or as many as are wanted come before it
  module _ (seen : List Path) (kept : List CountedMove) (limit : Option ℕ) (are : AreKept (Has seen) wanted first kept limit) where
    near_or_beyond : (c : Chosen) → CountsWithin bound first c → CountsWithin bound limit c ⊎ Beyond seen c
    near_or_beyond c h = elim (decided limit (total_of bound c)) [
      | inl w ↦ inl (counts_with b q r bound first limit c h w)
      | inr far ↦ inr (by are.limit_is far.0 far.1 far.2)
    ]
      where
        lower : (u v x : ℕ) → u ≤ v → v < x → u < x
        lower u v x h k = omega (arith, h, k)

        by : IsLimit wanted first kept limit → (n : ℕ) → limit ≡ Some n → n < total_of bound c → Beyond seen c
        by (inl f) n g far = absurd (let w : total_of bound c ≤ n = subst (λ o. IsWithin o (total_of bound c)) (sym f ∙ g) (within_is b q r bound first c h) in omega (arith, w, far))
        by (inr (n', f, w, many)) n g far =
            let same : n' ≡ n = cc in
            (many.0, many.1, many.2, each_weaker (λ x. IsIn x kept × (x.total ≤ n')) (λ x. Has seen x × IsSooner x (counted bound c)) (λ x k. (each_in (Has seen) kept x are.each k.0, inl (lower x.total n' (total_of bound c) k.1 (subst (λ o. o < total_of bound c) (sym same) far)))) many.0 many.3)

    module _ (same_start : PathStart → PathStart → Bool) (same_place : Place → Place → Bool) (same_class : PathClass → PathClass → Bool) (h : Hopes) (hopes : AreHopes same_start same_place same_class b q r bound limit h) (tails : List Path) where
      -- tails that end where the hopes say
      pub ending_for : (numbers : List ℕ) → AreEnding b q.slices (r.at.slice + 1) (marked same_place h.ends) tails numbers → AreTailsFor b q r bound first wanted seen tails numbers
      ending_for numbers ending = record {
        at_end = marked same_place h.ends;
        ending = ending;
        moves = λ c k w. elim (near_or_beyond c w) [ inl n ↦ inl (hopes.of_ends c k n) | inr f ↦ inr f ];
      }

      -- tails that were narrowed, or stay
      pub narrowed_for : (was now : List ℕ) → AreTailsFor b q r bound first wanted seen tails was → (now ≡ was) ⊎ AreEnding b q.slices (r.at.slice + 1) (marked same_place h.ends) tails now → AreTailsFor b q r bound first wanted seen tails now
      narrowed_for was now are (inl e) = subst (AreTailsFor b q r bound first wanted seen tails) (sym e) are
      narrowed_for was now are (inr ending) = ending_for now ending

      -- paths by one flight that may begin as the hopes say, and end where the tails are all
      pub batch_passed : (numbers : List ℕ) (are : AreTailsFor b q r bound first wanted seen tails numbers) (Such : ℕ → Type 0) (paths : List Path) → AreSoughtBy b q.slices r.at (λ f. marked same_start h.starts (begins_with f)) are.at_end Such paths → ArePassed b q r bound first wanted seen Such paths
      batch_passed numbers are Such paths s = record {
        once = s.once;
        begin = s.begin;
        each = s.each;
        all = λ c m begun. elim (near_or_beyond c m.1) [
          | inl n ↦ elim (are.moves c m.0 m.1) [
            | inl ends ↦ inl (record { flights = c.mv.flights; after = m.0.after }, s.all (record { flights = c.mv.flights; after = m.0.after }) m.0.flights begun m.0.moves.path (hopes.of_starts c m.0 n) ends, ((m.0, refl), m.1))
            | inr f ↦ inr f
          ]
          | inr f ↦ inr f
        ];
      }

  -- the tails stay what they are as paths are seen
  pub tails_more : (seen more tails : List Path) (numbers : List ℕ) → AreTailsFor b q r bound first wanted seen tails numbers → AreTailsFor b q r bound first wanted (seen ++ more) tails numbers
  tails_more seen more tails numbers h = record { at_end = h.at_end; ending = h.ending; moves = λ c k w. elim (h.moves c k w) [ inl e ↦ inl e | inr f ↦ inr (beyond_more seen more c f) ] }

  pub passed_none : ArePassed b q r bound first wanted [] (λ m. IsIn m []) []
  passed_none = record { once = tt; begin = λ p i. absurd i; each = λ p i. absurd i; all = λ c m begun. absurd (none c.mv.flights begun) }
    where
      none : (ns : List ℕ) → OnFirst (λ m. IsIn m []) ns → ⊥
      none [] h = h
      none (n ∷ ns) h = h

  pub passed_more : (numbers : List ℕ) (i d n : ℕ) (seen more : List Path) → EachPair (λ k m. k < m) numbers → i < length numbers → n ≡ get_or numbers i d → ArePassed b q r bound first wanted seen (λ m. IsIn m (take i numbers)) seen → ArePassed b q r bound first wanted seen (λ m. m ≡ n) more
      → ArePassed b q r bound first wanted (seen ++ more) (λ m. IsIn m (take (i + 1) numbers)) (seen ++ more)
  passed_more numbers i d n seen more ascending lt e h are = joined
    where
      front : take (i + 1) numbers ≡ take i numbers ++ n ∷ []
      front = front_read numbers i d n lt e

      old_in : (m : ℕ) → IsIn m (take i numbers) → IsIn m (take (i + 1) numbers)
      old_in m j = subst (IsIn m) (sym front) (in_left m (take i numbers) (n ∷ []) j)

      new_in : (m : ℕ) → m ≡ n → IsIn m (take (i + 1) numbers)
      new_in m s = subst (IsIn m) (sym front) (in_right m (take i numbers) (n ∷ []) (inl s))

      apart : (m : ℕ) → IsIn m (take i numbers) → m ≡ n → ⊥
      apart m j s = let less = before_smaller numbers i d m ascending lt j in omega (arith, less, s, e)

      joined : ArePassed b q r bound first wanted (seen ++ more) (λ m. IsIn m (take (i + 1) numbers)) (seen ++ more)
      joined = record {
        once = different_more seen more h.once are.once (λ p j k. first_both (λ m. IsIn m (take i numbers)) (λ m. m ≡ n) apart p.flights (h.begin p j) (are.begin p k));
        begin = λ p j. elim (in_either p seen more j) [
          | inl k ↦ first_weaker (λ m. IsIn m (take i numbers)) (λ m. IsIn m (take (i + 1) numbers)) old_in p.flights (h.begin p k)
          | inr k ↦ first_weaker (λ m. m ≡ n) (λ m. IsIn m (take (i + 1) numbers)) new_in p.flights (are.begin p k)
        ];
        each = λ p j. elim (in_either p seen more j) [ inl k ↦ h.each p k | inr k ↦ are.each p k ];
        all = λ c m begun. elim (first_either (λ m. IsIn m (take i numbers)) (λ m. m ≡ n) (λ m. IsIn m (take (i + 1) numbers)) (λ m j. one_added numbers i d n m lt e j) c.mv.flights begun) [
          | inl k ↦ elim (h.all c m k) [ inl x ↦ inl (x.0, in_left x.0 seen more x.1, x.2) | inr f ↦ inr (beyond_more seen more c f) ]
          | inr k ↦ elim (are.all c m k) [ inl x ↦ inl (x.0, in_right x.0 seen more x.1, x.2) | inr f ↦ inr (beyond_more seen more c f) ]
        ];
      }

  pub passed_next : (seen more : List Path) (Such : ℕ → Type 0) → ArePassed b q r bound first wanted (seen ++ more) Such (seen ++ more) → AreNext b q r seen more
  passed_next seen more Such h = record { once = h.once; each = h.each }

  -- what is kept of paths that begin with all flights from the place is of all moves
  pub kept_of_all : (trans : (x y z : CountedMove) → IsSooner x y → IsSooner y z → IsSooner x z) (flights : List Flight) (numbers : List ℕ) (seen : List Path) (kept : List CountedMove) (limit : Option ℕ) → b.timetable.flights ≡ flights → AreDepartures flights r.at.place r.at.lo r.at.hi numbers
      → ArePassed b q r bound first wanted seen (λ m. IsIn m numbers) seen → AreKept (Has seen) wanted first kept limit → AreKept (Counts b q r bound first) wanted first kept limit
  kept_of_all trans flights numbers seen kept limit plan departures passed old = record {
    once = old.once;
    one = old.one;
    each = each_weaker (Has seen) (Counts b q r bound first) (λ m k. ((k.0.2.0.0, k.0.2.1), k.1)) kept old.each;
    rest = λ m h. elim (passed.all m.chosen h.0 (begins_there b q.slices r.at flights numbers plan departures m.chosen.mv.flights h.0.0.flights h.0.0.after h.0.0.moves.path.some h.0.0.moves.path.flies)) [
      | inl on ↦ old.rest m (on, h.1)
      | inr far ↦ kept_before m (far.0, far.1, far.2, each_weaker (λ n. Has seen n × IsSooner n (counted bound m.chosen)) (λ n. Has seen n × IsSooner n m) (λ n k. (k.0, subst (IsSooner n) (sym (itself m h.1)) k.1)) far.0 far.3)
    ];
    limit_is = old.limit_is;
  }
    where
      itself : (m : CountedMove) → m.total ≡ total_of bound m.chosen → m ≡ counted bound m.chosen
      itself m t = λ i. record { chosen = m.chosen; total = t i }

      Before : CountedMove → Type 0
      Before m = HasMany wanted (λ n. IsIn n kept × IsSooner n m)

      -- those before it are kept, or as many are kept that come before one of these
      each_kept : (m : CountedMove) (xs : List CountedMove) → Each (λ n. Has seen n × IsSooner n m) xs → Each (λ n. IsIn n kept × IsSooner n m) xs ⊎ Before m
      each_kept m [] h = inl tt
      each_kept m (x ∷ xs) h = elim (old.rest x h.0.0) [
        | inl i ↦ elim (each_kept m xs h.1) [ inl k ↦ inl ((i, h.0.1), k) | inr f ↦ inr f ]
        | inr f ↦ inr (f.0, f.1, f.2, each_weaker (λ n. IsIn n kept × IsSooner n x) (λ n. IsIn n kept × IsSooner n m) (λ n k. (k.0, trans n x m k.1 h.0.1)) f.0 f.3)
      ]

      kept_before : (m : CountedMove) → HasMany wanted (λ n. Has seen n × IsSooner n m) → IsIn m kept ⊎ Before m
      kept_before m h = elim (each_kept m h.0 h.3) [ inl k ↦ inr (h.0, h.1, h.2, k) | inr f ↦ inr f ]

-- what is told of a position by another name of its residual
pub range_by : (x y : State) → x ≡ y → (n : ℕ) → (x.at.lo ≤ n) × (n < x.at.hi) → (y.at.lo ≤ n) × (n < y.at.hi)
range_by x y e n h = subst (λ (z : State). (z.at.lo ≤ n) × (n < z.at.hi)) e h

pub departs_by : (x y : State) → x ≡ y → (fs gs : List Flight) → gs ≡ fs → (n : ℕ) → DepartsFrom fs x.at.place n → DepartsFrom gs y.at.place n
departs_by x y e fs gs f n h = subst (λ (z : State). DepartsFrom gs z.at.place n) e (subst (λ xs. DepartsFrom xs x.at.place n) (sym f) h)
