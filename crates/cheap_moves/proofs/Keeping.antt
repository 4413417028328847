-- A bucket of moves, as it grows path by path.
use Rattle.std.proofs.Common.{◌≡◌, ◌≢◌, ◌⊎◌, ◌∙◌, ℕ, ◌≤◌, ◌<◌, List, [], ◌∷◌, ◌++◌, map, Option, Some, refl, sym, ap, subst, inl, inr, arith}
use Rattle.cheap_moves.specs.declared.least.CountedMove.{CountedMove}
use Rattle.cheap_moves.specs.Drawing.{IsNext}
use Rattle.cheap_moves.specs.LeastMoves.{AreKept, Counts, CountsOn, IsLimit, IsSooner, counted}
use Rattle.cheap_moves.specs.Making.{IsWithinOn}
use Rattle.cheap_moves.specs.Within.{IsWithin, total_of}
use Rattle.cheap_moves.proofs.Cutting.{decided, limit_sank}
use Rattle.cheap_moves.proofs.Joining.{one_of_key}
use Rattle.cheap_moves.proofs.LeastWithin.{counts_with, within_is}
use Rattle.cheap_moves.proofs.PathMoves.{paths_apart}
use Rattle.cheap_moves.proofs.Sooner.{code_of}
use Rattle.fare_law.specs.declared.moves.Move.{Move}
use Rattle.fare_law.specs.declared.requests.Request.{Request}
use Rattle.fare_law.specs.Book.{Book}
use Rattle.fare_law.specs.Codes.{move_code}
use Rattle.fare_law.specs.Limits.{HasKeys}
use Rattle.fare_law.specs.Lists.{AllDifferent, Each, HasMany, IsIn}
use Rattle.flight_paths.proofs.Apart.{different_more}
use Rattle.flight_paths.specs.declared.positions.Path.{Path}
use Rattle.residual_keys.specs.declared.residual.Chosen.{Chosen}
use Rattle.residual_keys.specs.Gathered.{Adds}
use Rattle.residual_keys.specs.Residuals.{State}
use Rattle.residual_keys.specs.Steps.{IsChosen}
use Rattle.residual_keys.proofs.InOrder.{codes_differ}
use Rattle.residual_keys.proofs.PathByPath.{all_coded}
use Rattle.law_lemmas.proofs.EachOne.{each_append, each_from, each_in, each_weaker}
use Rattle.law_lemmas.proofs.Members.{in_either, in_left, in_one, in_right}
use Rattle.ticket_order.specs.Coding.{Coded}

abbrev pub move_of : CountedMove → Move
move_of m = m.chosen.mv

-- ---- moves that are joined

in_counted : (bound : State → Option ℕ) (m : CountedMove) (cs : List Chosen) → IsIn m (map (counted bound) cs) → (c : Chosen) × IsIn c cs × (m ≡ counted bound c)
in_counted bound m [] i = absurd i
in_counted bound m (c ∷ cs) (inl e) = (c, inl refl, e)
in_counted bound m (c ∷ cs) (inr i) = let r = in_counted bound m cs i in (r.0, inr r.1, r.2)

counted_in : (bound : State → Option ℕ) (c : Chosen) (cs : List Chosen) → IsIn c cs → IsIn (counted bound c) (map (counted bound) cs)
counted_in bound c [] i = absurd i
counted_in bound c (d ∷ cs) (inl e) = inl (ap (counted bound) e)
counted_in bound c (d ∷ cs) (inr i) = inr (counted_in bound c cs i)

counted_differ : (bound : State → Option ℕ) (cs : List Chosen) → AllDifferent (map (λ c. c.mv) cs) → AllDifferent (map (counted bound) cs)
counted_differ bound [] h = tt
counted_differ bound (c ∷ cs) h = (others cs h.0, counted_differ bound cs h.1)
  where
    others : (ds : List Chosen) → Each (λ n. c.mv ≢ n) (map (λ d. d.mv) ds) → Each (λ m. counted bound c ≢ m) (map (counted bound) ds)
    others [] k = tt
    others (d ∷ ds) k = ((λ e. k.0 (ap move_of e)), others ds k.1)

-- ---- one path more

module _ (b : Book) (q : Request) (r : State) (bound : State → Option ℕ) (first : Option ℕ) (wanted : ℕ) where
  abbrev Has : List Path → CountedMove → Type 0
  Has paths m = CountsOn b q r bound first paths m

  pub none_kept : (kept : List CountedMove) → kept ≡ [] → AreKept (Has []) wanted first kept first
  none_kept kept e = subst (λ ms. AreKept (Has []) wanted first ms first) (sym e) (record { once = tt; one = λ m n i. absurd i; each = tt; rest = λ m h. absurd h.0.1; limit_is = inl refl })

  module _ (seen : List Path) (p : Path) (next : IsNext b q r seen p) (limit : Option ℕ) (kept : List CountedMove) (old : AreKept (Has seen) wanted first kept limit) where
    stays : (m : CountedMove) → Has seen m → Has (seen ++ p ∷ []) m
    stays m h = ((h.0.0, in_left h.0.0 seen (p ∷ []) h.0.1, h.0.2), h.1)

    new_one : (m : CountedMove) → IsWithinOn b q r bound first p m.chosen → m.total ≡ total_of bound m.chosen → Has (seen ++ p ∷ []) m
    new_one m h t = ((p, in_right p seen (p ∷ []) (inl refl), h), t)

    module _ (more : List Chosen) (once : AllDifferent (map (λ c. c.mv) more)) (there : (c : Chosen) → IsIn c more → IsWithinOn b q r bound limit p c) (all : (c : Chosen) → IsWithinOn b q r bound limit p c → IsIn c more) where
      abbrev added : List CountedMove
      added = map (counted bound) more

      apart : (x y : CountedMove) → IsIn x kept → IsIn y added → move_of x ≢ move_of y
      apart x y j k s =
          let h = each_in (Has seen) kept x old.each j in
          let z = in_counted bound y more k in
          paths_apart b q r bound first limit h.0.0 p (next.each h.0.0 h.0.1) next.own (next.other h.0.0 h.0.1) x.chosen z.0 h.0.2 (there z.0 z.1) (s ∙ ap move_of z.2)

      new_each : (y : CountedMove) → IsIn y added → Has (seen ++ p ∷ []) y
      new_each y k =
          let z = in_counted bound y more k in
          let w = there z.0 z.1 in
          subst (Has (seen ++ p ∷ [])) (sym z.2) (new_one (counted bound z.0) (w.0, counts_with b q r bound limit first z.0 w.1 (limit_sank wanted first kept limit old.limit_is (total_of bound z.0) (within_is b q r bound limit z.0 w.1))) refl)

      still_before : (P : CountedMove → Type 0) → HasMany wanted (λ n. IsIn n kept × P n) → HasMany wanted (λ n. IsIn n (kept ++ added) × P n)
      still_before P h = (h.0, h.1, h.2, each_weaker (λ n. IsIn n kept × P n) (λ n. IsIn n (kept ++ added) × P n) (λ n k. (in_left n kept added k.0, k.1)) h.0 h.3)

      itself : (m : CountedMove) → m.total ≡ total_of bound m.chosen → m ≡ counted bound m.chosen
      itself m t = λ i. record { chosen = m.chosen; total = t i }

      -- a move on the new path is among those that were added, or beyond the limit
      of_path : (m : CountedMove) → IsWithinOn b q r bound first p m.chosen → m.total ≡ total_of bound m.chosen → IsLimit wanted first kept limit → IsIn m (kept ++ added) ⊎ HasMany wanted (λ n. IsIn n (kept ++ added) × IsSooner n m)
      of_path m h t l = elim (decided limit (total_of bound m.chosen)) [
        | inl w ↦ inl (in_right m kept added (subst (λ n. IsIn n added) (sym (itself m t)) (counted_in bound m.chosen more (all m.chosen (h.0, counts_with b q r bound first limit m.chosen h.1 w)))))
        | inr far ↦ inr (beyond l far.0 far.1 far.2)
      ]
        where
          lower : (u v x y : ℕ) → u ≤ v → v < x → y ≡ x → u < y
          lower u v x y h k s = omega (arith, h, k, s)

          beyond : IsLimit wanted first kept limit → (n : ℕ) → limit ≡ Some n → n < total_of bound m.chosen → HasMany wanted (λ x. IsIn x (kept ++ added) × IsSooner x m)
          beyond (inl f) n g far = absurd (let w : total_of bound m.chosen ≤ n = subst (λ o. IsWithin o (total_of bound m.chosen)) (sym f ∙ g) (within_is b q r bound first m.chosen h.1) in omega (arith, w, far))
          beyond (inr (n', f, w, many)) n g far =
              let same : n' ≡ n = cc in
              still_before (λ x. IsSooner x m) (many.0, many.1, many.2, each_weaker (λ x. IsIn x kept × (x.total ≤ n')) (λ x. IsIn x kept × IsSooner x m) (λ x k. (k.0, inl (lower x.total n' (total_of bound m.chosen) m.total k.1 (subst (λ o. o < total_of bound m.chosen) (sym same) far) t))) many.0 many.3)

      more_rest : (m : CountedMove) → Has (seen ++ p ∷ []) m → IsIn m (kept ++ added) ⊎ HasMany wanted (λ n. IsIn n (kept ++ added) × IsSooner n m)
      more_rest m h = elim (in_either h.0.0 seen (p ∷ []) h.0.1) [
        | inl j ↦ elim (old.rest m ((h.0.0, j, h.0.2), h.1)) [ inl k ↦ inl (in_left m kept added k) | inr k ↦ inr (still_before (λ n. IsSooner n m) k) ]
        | inr s ↦ of_path m (subst (λ y. IsWithinOn b q r bound first y m.chosen) (in_one h.0.0 p s) h.0.2) h.1 old.limit_is
      ]

      more_one : (m n : CountedMove) → IsIn m (kept ++ added) → IsIn n (kept ++ added) → move_of m ≡ move_of n → m ≡ n
      more_one m n i j s = by (in_either m kept added i) (in_either n kept added j)
        where
          by : IsIn m kept ⊎ IsIn m added → IsIn n kept ⊎ IsIn n added → m ≡ n
          by (inl u) (inl v) = old.one m n u v s
          by (inl u) (inr v) = absurd (apart m n u v s)
          by (inr u) (inl v) = absurd (apart n m v u (sym s))
          by (inr u) (inr v) =
              let x = in_counted bound m more u in
              let y = in_counted bound n more v in
              x.2 ∙ ap (counted bound) (one_of_key (λ (c : Chosen). c.mv) more once x.0 y.0 x.1 y.1 (sym (ap move_of x.2) ∙ s ∙ ap move_of y.2)) ∙ sym y.2

      more_limit : IsLimit wanted first kept limit → IsLimit wanted first (kept ++ added) limit
      more_limit (inl f) = inl f
      more_limit (inr (n, f, w, many)) = inr (n, f, w, still_before (λ m. m.total ≤ n) many)

      more_kept : AreKept (Has (seen ++ p ∷ [])) wanted first (kept ++ added) limit
      more_kept = record {
        once = different_more kept added old.once (counted_differ bound more once) (λ m j k. apart m m j k refl);
        one = more_one;
        each = each_append (Has (seen ++ p ∷ [])) kept added (each_weaker (Has seen) (Has (seen ++ p ∷ [])) stays kept old.each) (each_from (Has (seen ++ p ∷ [])) added new_each);
        rest = more_rest;
        limit_is = more_limit old.limit_is;
      }

    -- the moves of a path within the limit
    path_more : (found : List Chosen) → Adds (IsWithinOn b q r bound limit p) [] found → AreKept (Has (seen ++ p ∷ [])) wanted first (kept ++ map (counted bound) found) limit
    path_more found h = subst (λ cs. AreKept (Has (seen ++ p ∷ [])) wanted first (kept ++ map (counted bound) cs) limit) (sym h.joined) (more_kept h.more h.once (λ c. (h.are c).0) (λ c. (h.are c).1))

    pub path_kept : (none found given : List Chosen) (new : List CountedMove) → none ≡ [] → Adds (IsWithinOn b q r bound limit p) none found → given ≡ found → new ≡ kept ++ map (counted bound) given → AreKept (Has (seen ++ p ∷ [])) wanted first new limit
    path_kept none found given new e h same is =
        subst (λ ms. AreKept (Has (seen ++ p ∷ [])) wanted first ms limit) (sym (is ∙ ap (λ cs. kept ++ map (counted bound) cs) same)) (path_more found (subst (λ cs. Adds (IsWithinOn b q r bound limit p) cs found) e h))

-- the codes of moves that differ, differ
module _ (parts : (m n : Move) (us vs : List ℕ) → Coded m → Coded n → move_code m ++ us ≡ move_code n ++ vs → (m ≡ n) × (us ≡ vs)) where
  pub codes_apart : (ms : List CountedMove) → Each (λ m. Coded (move_of m)) ms → AllDifferent ms → ((m n : CountedMove) → IsIn m ms → IsIn n ms → move_of m ≡ move_of n → m ≡ n) → AllDifferent (map code_of ms)
  codes_apart [] h d one = tt
  codes_apart (m ∷ ms) h d one = (others ms h.1 d.0 (λ n i. one m n (inl refl) (inr i)), codes_apart ms h.1 d.1 (λ x y i j. one x y (inr i) (inr j)))
    where
      others : (ns : List CountedMove) → Each (λ n. Coded (move_of n)) ns → Each (λ n. m ≢ n) ns → ((n : CountedMove) → IsIn n ns → move_of m ≡ move_of n → m ≡ n) → Each (λ w. code_of m ≢ w) (map code_of ns)
      others [] g k f = tt
      others (n ∷ ns) g k f = ((codes_differ parts (m.chosen ∷ n.chosen ∷ []) (h.0, (g.0, tt)) (((λ e. k.0 (f n (inl refl) e)), tt), (tt, tt))).0.0, others ns g.1 k.1 (λ x i. f x (inr i)))

module _ (b : Book) (q : Request) (r : State) (keys : HasKeys b) (Has : CountedMove → Type 0) (chosen : (m : CountedMove) → Has m → IsChosen b q r m.chosen) where
  counted_coded : (ms : List CountedMove) → Each Has ms → Each (λ m. Coded (move_of m)) ms
  counted_coded ms h = each_weaker Has (λ m. Coded (move_of m)) (λ m k. (all_coded b q r keys (m.chosen ∷ []) (λ c i. subst (IsChosen b q r) (sym (in_one c m.chosen i)) (chosen m k))).0) ms h

  pub kept_codes : (parts : (m n : Move) (us vs : List ℕ) → Coded m → Coded n → move_code m ++ us ≡ move_code n ++ vs → (m ≡ n) × (us ≡ vs)) (first : Option ℕ) (wanted : ℕ) (kept : List CountedMove) (limit : Option ℕ) → AreKept Has wanted first kept limit → AllDifferent (map code_of kept)
  kept_codes parts first wanted kept limit h = codes_apart parts kept (counted_coded kept h.each) h.once h.one

module _ (b : Book) (q : Request) (r : State) (bound : State → Option ℕ) (limit : Option ℕ) where
  pub all_within : (m : CountedMove) → Counts b q r bound limit m → IsWithin limit m.total
  all_within m h = subst (IsWithin limit) (sym h.1) (within_is b q r bound limit m.chosen h.0.1)

  pub counted_within : (paths : List Path) (m : CountedMove) → CountsOn b q r bound limit paths m → IsWithin limit m.total
  counted_within paths m h = all_within m ((h.0.2.0.0, h.0.2.1), h.1)
