-- Runs of tails that a visitor skips.
use Rattle.std.proofs.Common.{◌≡◌, ℕ, zero, suc, ◌+◌, ◌<◌, List, [], ◌∷◌, ◌++◌, length, take, drop, get_or, slice_get, Option, Some, None, refl, sym, ap, subst, ◌∙◌, inl, inr, arith}
use Rattle.fare_law.specs.declared.flights.Flight.{Flight}
use Rattle.fare_law.specs.declared.requests.Slice.{Slice}
use Rattle.fare_law.specs.Book.{Book}
use Rattle.fare_law.specs.Lists.{Each, EachPair, IsIn}
use Rattle.flight_paths.specs.declared.positions.Path.{Path}
use Rattle.flight_paths.specs.declared.positions.Position.{Position}
use Rattle.flight_paths.specs.Heads.{AreRest, AreSomeTails, Crossing, IsTail, NeedsNoVisit, Saw, chosen, put_one}
use Rattle.flight_paths.specs.Paths.{Precedes}
use Rattle.flight_paths.proofs.Apart.{first_of_all, not_itself}
use Rattle.flight_paths.proofs.Choosing.{chosen_both, chosen_one, chosen_part, front_and_more}
use Rattle.flight_paths.proofs.Ranging.{part_of, part_ordered}
use Rattle.flight_paths.proofs.Seeing.{rest_both, rest_none, rest_not, rest_one, saw_more, saw_none, saw_one}
use Rattle.flight_paths.proofs.Skipping.{follows_or}
use Rattle.law_lemmas.proofs.Lists.{front_at}
use Rattle.law_lemmas.proofs.Members.{in_right}

abbrev pub InOrder : List Path → Type 0
InOrder ps = EachPair (λ p q. Precedes p.flights q.flights) ps

rest_order : (p : Path) (ps : List Path) → InOrder (p ∷ ps) → InOrder ps
rest_order p [] k = tt
rest_order p (q ∷ ps) k = k.1

-- what stands in order has no path in two parts
pub parts_differ : (ps qs : List Path) → InOrder (ps ++ qs) → (x : Path) → IsIn x ps → IsIn x qs → ⊥
parts_differ [] qs h x i k = absurd i
parts_differ (p ∷ ps) qs h x (inl e) k = not_itself p.flights (subst (λ y. Precedes p.flights y.flights) e (first_of_all p (ps ++ qs) h x (in_right x ps qs k)))
parts_differ (p ∷ ps) qs h x (inr i) k = parts_differ ps qs (rest_order p (ps ++ qs) h) x i k

-- the tails of a part of the numbers
pub part_tails : (b : Book) (sl : List Slice) (i : ℕ) (all : List Path) (ns : List ℕ) (a m : ℕ) → Each (λ n. n < length all) ns → AreSomeTails b sl i (chosen all ns) → AreSomeTails b sl i (chosen all (take m (drop a ns)))
part_tails b sl i all ns a m h d =
    subst (AreSomeTails b sl i) (sym (chosen_part all ns a m h)) (record { in_order = part_ordered (chosen all ns) a m d.in_order; each = λ t j. d.each t (part_of (chosen all ns) a m t j) })

-- nothing that was told before is lost
pub saw_since : (old mid new : List Path → Type 0) (P : List Path → Type 0) → ((before : List Path) → old before → mid before) → Saw mid new P → Saw old new P
saw_since old mid new P stays s = record { seen = s.seen; are = s.are; told = λ before o. s.told before (stays before o) }

module _ (b : Book) (sl : List Slice) (at : Position) (h : Path) (middle : Position) (crossing : Crossing b sl at h middle) where
  -- what is seen by two parts of tails in order
  pub saw_parts : (old mid new : List Path → Type 0) (ts us : List Path) → InOrder (ts ++ us) → Saw old mid (AreRest b sl at h ts) → Saw mid new (AreRest b sl at h us) → Saw old new (AreRest b sl at h (ts ++ us))
  saw_parts old mid new ts us o s r = saw_more old mid new (AreRest b sl at h ts) (AreRest b sl at h us) (AreRest b sl at h (ts ++ us)) s r (λ ps qs p q. rest_both b sl at h ts us ps qs (parts_differ ts us o) p q)

  module _ (told : List Path → Type 0) (all : List Path) where
    one_skipped : (t : Path) (n : ℕ) (fs : List Flight) → slice_get all n ≡ Some t → IsTail b sl (suc at.slice) t.flights fs t.after → NeedsNoVisit told h all n → Saw told told (AreRest b sl at h (t ∷ []))
    one_skipped t n fs e tail skipped =
        let p : Path = record { flights = h.flights ++ t.flights; after = t.after } in
        elim (follows_or b sl at h t middle crossing fs tail) [
          | inl f ↦ saw_one told told (AreRest b sl at h (t ∷ [])) p (skipped t e p refl refl) (rest_one b sl at h t p (record { follows = f; numbers = refl; after = refl }))
          | inr never ↦ saw_none told (AreRest b sl at h (t ∷ [])) (rest_not b sl at h t never)
        ]

    -- a run of tails that need no visit
    pub run_skipped : (ns : List ℕ) (k : ℕ) → ((i : ℕ) → i < k → (n : ℕ) → slice_get ns i ≡ Some n → NeedsNoVisit told h all n) → AreSomeTails b sl (suc at.slice) (chosen all (take k ns)) → Saw told told (AreRest b sl at h (chosen all (take k ns)))
    run_skipped [] zero f d = saw_none told (AreRest b sl at h []) (rest_none b sl at h)
    run_skipped [] (suc k) f d = saw_none told (AreRest b sl at h []) (rest_none b sl at h)
    run_skipped (n ∷ ns) zero f d = saw_none told (AreRest b sl at h []) (rest_none b sl at h)
    run_skipped (n ∷ ns) (suc k) f d = by (λ e. run_skipped ns k (λ i lt m g. f (suc i) (omega (arith, lt)) m g) e) (slice_get all n) refl d
      where
        by : (AreSomeTails b sl (suc at.slice) (chosen all (take k ns)) → Saw told told (AreRest b sl at h (chosen all (take k ns))))
            → (o : Option Path) → slice_get all n ≡ o → AreSomeTails b sl (suc at.slice) (put_one o (chosen all (take k ns))) → Saw told told (AreRest b sl at h (put_one o (chosen all (take k ns))))
        by more None e t = more t
        by more (Some x) e t =
            let is = t.each x (inl refl) in
            saw_parts told told told (x ∷ []) (chosen all (take k ns)) t.in_order (one_skipped x n is.0 e is.1 (f 0 (omega arith) n refl))
            (more (record { in_order = rest_order x (chosen all (take k ns)) t.in_order; each = λ p i. t.each p (inr i) }))

    -- a run, and the tail after it, which was visited
    pub run_and_one : (new : List Path → Type 0) (ns : List ℕ) (k n : ℕ) (t : Path) → Each (λ m. m < length all) ns → AreSomeTails b sl (suc at.slice) (chosen all ns) → ((i : ℕ) → i < k → (m : ℕ) → slice_get ns i ≡ Some m → NeedsNoVisit told h all m)
        → k < length ns → n ≡ get_or ns k n → slice_get all n ≡ Some t → Saw told new (AreRest b sl at h (t ∷ [])) → Saw told new (AreRest b sl at h (chosen all (take (k + 1) ns)))
    run_and_one new ns k n t known d skipped lt is at_n one =
        let parts : chosen all (take (k + 1) ns) ≡ chosen all (take k ns) ++ t ∷ [] =
        ap (chosen all) (front_at ns k n lt ∙ ap (λ x. take k ns ++ x ∷ []) (sym is)) ∙ chosen_both all (take k ns) (n ∷ []) ∙ ap (λ xs. chosen all (take k ns) ++ xs) (chosen_one all n t at_n) in
        let order = (part_tails b sl (suc at.slice) all ns 0 (k + 1) known d).in_order in
        subst (λ xs. Saw told new (AreRest b sl at h xs)) (sym parts)
        (saw_parts told told new (chosen all (take k ns)) (t ∷ []) (subst InOrder parts order) (run_skipped ns k skipped (part_tails b sl (suc at.slice) all ns 0 k known d)) one)

  -- what was seen so far, and by a run of what is left
  pub one_more_run : (old mid new : List Path → Type 0) (all : List Path) (ns : List ℕ) (k m : ℕ) → Each (λ n. n < length all) ns → AreSomeTails b sl (suc at.slice) (chosen all ns)
      → Saw old mid (AreRest b sl at h (chosen all (take k ns))) → Saw mid new (AreRest b sl at h (chosen all (take m (drop k ns)))) → Saw old new (AreRest b sl at h (chosen all (take (k + m) ns)))
  one_more_run old mid new all ns k m known d s r =
      let parts : chosen all (take (k + m) ns) ≡ chosen all (take k ns) ++ chosen all (take m (drop k ns)) = ap (chosen all) (front_and_more ns k m) ∙ chosen_both all (take k ns) (take m (drop k ns)) in
      let order = (part_tails b sl (suc at.slice) all ns 0 (k + m) known d).in_order in
      subst (λ xs. Saw old new (AreRest b sl at h xs)) (sym parts) (saw_parts old mid new (chosen all (take k ns)) (chosen all (take m (drop k ns))) (subst InOrder parts order) s r)
