-- Heads are the paths of the slices up to the position's.
use Rattle.std.proofs.Common.{◌≡◌, ◌≢◌, ◌⊎◌, ℕ, zero, suc, ◌+◌, ◌-◌, ◌≤◌, ◌<◌, List, [], ◌∷◌, length, take, get_or, slice_get, is_some, true, Option, Some, None, refl, sym, ap, subst, ◌∙◌, inl, inr, arith}
use Rattle.fare_law.specs.declared.flights.Flight.{Flight}
use Rattle.fare_law.specs.declared.requests.Slice.{Slice}
use Rattle.fare_law.specs.Book.{Book}
use Rattle.fare_law.specs.Lists.{EachPair, IsIn, Matched, OnLast}
use Rattle.flight_paths.specs.declared.positions.Path.{Path}
use Rattle.flight_paths.specs.declared.positions.Position.{Position}
use Rattle.flight_paths.specs.Heads.{AreHeads, AreShort, IsHead, Stays}
use Rattle.flight_paths.specs.Paths.{Precedes}
use Rattle.flight_paths.specs.Positions.{Flies, IsPath, LeadsTo, before_slice, position_inside, via_after}
use Rattle.flight_paths.specs.Ways.{AreFlightsOf}
use Rattle.flight_paths.proofs.Growing.{flies_one}
use Rattle.flight_paths.proofs.Growth.{flies_numbers}
use Rattle.law_lemmas.proofs.Options.{some_none, some_same}
use Rattle.law_lemmas.proofs.Pairs.{matched_length}

-- a list up to a place
pub taken_here : {X : Type 0} (xs : List X) (n : ℕ) (x : X) → slice_get xs n ≡ Some x → slice_get (take (suc n) xs) n ≡ Some x
taken_here [] n x h = cc
taken_here (y ∷ xs) zero x h = h
taken_here (y ∷ xs) (suc n) x h = taken_here xs n x h

pub taken_none : {X : Type 0} (xs : List X) (n : ℕ) → slice_get (take (suc n) xs) (suc n) ≡ None
taken_none [] n = refl
taken_none (y ∷ []) zero = refl
taken_none (y ∷ z ∷ xs) zero = refl
taken_none (y ∷ xs) (suc n) = taken_none xs n

-- where flights lead over the whole request that lead there over the slices up to theirs
abbrev pub Onward : Book → List Slice → Slice → Position → List Flight → Option Position → Option Position → Type 0
Onward b sl s at fs (Some p) next = next ≡ Some p
Onward b sl s at fs None next = OnLast (λ f. (f.to ≡ s.to) × (next ≡ before_slice b (suc at.slice) (slice_get sl (suc at.slice)) (Some f.arr))) fs

-- q is the head of path p
pub record HeadOf (b : Book) (sl : List Slice) (at : Position) (p q : Path) : Type 0 where
  pub numbers : q.flights ≡ p.flights
  pub flights : List Flight
  pub head : IsHead b sl at q.flights flights q.after

module _ (b : Book) (sl up : List Slice) (s : Slice) where
  -- a step in the slices up to the position's goes on in the slice, or ends there
  up_end : (at : Position) (o : Option Position) (f : Flight) (s' : Slice) → s' ≡ s → slice_get up (suc at.slice) ≡ None → LeadsTo b up s' at f o
      → ((f.to ≡ s.to) × (o ≡ None)) ⊎ ((f.to ≢ s.to) × (at.leg < 2) × (o ≡ Some (position_inside b at.slice (suc at.leg) f.to (via_after at) f.arr)))
  up_end at o f s' e z (inl h) = inl (h.0 ∙ ap (λ x. x.to) e, h.1 ∙ ap (λ x. before_slice b (suc at.slice) x (Some f.arr)) z)
  up_end at o f s' e z (inr h) = inr ((λ w. h.0 (w ∙ ap (λ x. x.to) (sym e))), h.1, h.2)

  -- flights that lead on in the slices up to theirs stay in their slice, and lead on over the whole request
  pub inward : (at : Position) (ns : List ℕ) (fs : List Flight) (o : Option Position) → slice_get sl at.slice ≡ Some s → slice_get up at.slice ≡ Some s → slice_get up (suc at.slice) ≡ None → Flies b up (Some at) ns fs o
      → Stays s fs × (o ≡ None → OnLast (λ f. f.to ≡ s.to) fs) × ((next : Option Position) → Onward b sl s at fs o next → Flies b sl (Some at) ns fs next)
  inward at [] [] o k k' z h = (tt, λ e. absurd (some_none at (sym h ∙ e)), λ next w. subst (λ x. Onward b sl s at [] x next) h w)
  inward at [] (f ∷ fs) o k k' z h = absurd h
  inward at (n ∷ ns) [] o k k' z h = absurd h
  inward at (n ∷ ns) (f ∷ fs) o k k' z (s', k'', t, m, l, r) = by (up_end at m f s' same z l) (λ p e e' w h. inward p ns fs o e e' w h)
    where
      same : s' ≡ s
      same = some_same s' s (sym k'' ∙ k')

      here : slice_get sl at.slice ≡ Some s'
      here = k ∙ ap Some (sym same)

      by : ((f.to ≡ s.to) × (m ≡ None)) ⊎ ((f.to ≢ s.to) × (at.leg < 2) × (m ≡ Some (position_inside b at.slice (suc at.leg) f.to (via_after at) f.arr)))
          → ((p : Position) → slice_get sl p.slice ≡ Some s → slice_get up p.slice ≡ Some s → slice_get up (suc p.slice) ≡ None → Flies b up (Some p) ns fs o
          → Stays s fs × (o ≡ None → OnLast (λ f. f.to ≡ s.to) fs) × ((next : Option Position) → Onward b sl s p fs o next → Flies b sl (Some p) ns fs next))
          → Stays s (f ∷ fs) × (o ≡ None → OnLast (λ f. f.to ≡ s.to) (f ∷ fs)) × ((next : Option Position) → Onward b sl s at (f ∷ fs) o next → Flies b sl (Some at) (n ∷ ns) (f ∷ fs) next)
      by (inl h) more = ended ns fs (subst (λ x. Flies b up x ns fs o) h.1 r)
        where
          to : f.to ≡ s'.to
          to = h.0 ∙ ap (λ x. x.to) (sym same)

          ended : (ms : List ℕ) (gs : List Flight) → Flies b up None ms gs o → Stays s (f ∷ gs) × (o ≡ None → OnLast (λ f. f.to ≡ s.to) (f ∷ gs)) × ((next : Option Position) → Onward b sl s at (f ∷ gs) o next → Flies b sl (Some at) (n ∷ ms) (f ∷ gs) next)
          ended [] [] e = (tt, λ w. h.0, λ next w. go next (subst (λ x. Onward b sl s at (f ∷ []) x next) e w))
            where
              go : (next : Option Position) → Onward b sl s at (f ∷ []) None next → Flies b sl (Some at) (n ∷ []) (f ∷ []) next
              go next w = (s', here, t, before_slice b (suc at.slice) (slice_get sl (suc at.slice)) (Some f.arr), inl (to, refl), w.1)
          ended [] (g ∷ gs) e = absurd e
          ended (m ∷ ms) [] e = absurd e
          ended (m ∷ ms) (g ∷ gs) e = absurd e
      by (inr h) more =
          let p = position_inside b at.slice (suc at.leg) f.to (via_after at) f.arr in
          let w = more p k k' z (subst (λ x. Flies b up x ns fs o) h.2 r) in
          let ne : f.to ≢ s'.to = λ e. h.0 (e ∙ ap (λ x. x.to) same) in
          (stays fs w.0, λ e. last fs (w.1 e), λ next v. (s', here, t, Some p, inr (ne, h.1, refl), w.2 next (onward fs ns o next (subst (λ x. Flies b up x ns fs o) h.2 r) v)))
        where
          stays : (gs : List Flight) → Stays s gs → Stays s (f ∷ gs)
          stays [] w = tt
          stays (g ∷ gs) w = (h.0, w)

          last : (gs : List Flight) → OnLast (λ f. f.to ≡ s.to) gs → OnLast (λ f. f.to ≡ s.to) (f ∷ gs)
          last [] w = absurd w
          last (g ∷ gs) w = w

          onward : (gs : List Flight) (ms : List ℕ) (o next : Option Position) → Flies b up (Some (position_inside b at.slice (suc at.leg) f.to (via_after at) f.arr)) ms gs o
              → Onward b sl s at (f ∷ gs) o next → Onward b sl s (position_inside b at.slice (suc at.leg) f.to (via_after at) f.arr) gs o next
          onward gs ms (Some q) next e v = v
          onward [] [] None next e v = absurd (some_none _ (sym e))
          onward [] (m ∷ ms) None next e v = absurd e
          onward (g ∷ gs) ms None next e v = v

  -- and the other way round
  pub outward : (at : Position) (ns : List ℕ) (fs : List Flight) (next : Option Position) → slice_get sl at.slice ≡ Some s → slice_get up at.slice ≡ Some s → slice_get up (suc at.slice) ≡ None → Flies b sl (Some at) ns fs next → Stays s fs
      → (o : Option Position) × Flies b up (Some at) ns fs o × Onward b sl s at fs o next
  outward at [] [] next k k' z h st = (Some at, refl, h)
  outward at [] (f ∷ fs) next k k' z h st = absurd h
  outward at (n ∷ ns) [] next k k' z h st = absurd h
  outward at (n ∷ m ∷ ns) (f ∷ []) next k k' z (s', k'', t, o, l, r) st = absurd r
  outward at (n ∷ []) (f ∷ []) next k k' z (s', k'', t, o, l, r) st = by l
    where
      same : s' ≡ s
      same = some_same s' s (sym k'' ∙ k)

      here : slice_get up at.slice ≡ Some s'
      here = k' ∙ ap Some (sym same)

      by : LeadsTo b sl s' at f o → (o : Option Position) × Flies b up (Some at) (n ∷ []) (f ∷ []) o × Onward b sl s at (f ∷ []) o next
      by (inl h) = (None, (s', here, t, before_slice b (suc at.slice) (slice_get up (suc at.slice)) (Some f.arr), inl (h.0, refl), sym (ap (λ x. before_slice b (suc at.slice) x (Some f.arr)) z)), (h.0 ∙ ap (λ x. x.to) same, r ∙ h.1))
      by (inr h) = (Some (position_inside b at.slice (suc at.leg) f.to (via_after at) f.arr), (s', here, t, Some (position_inside b at.slice (suc at.leg) f.to (via_after at) f.arr), inr (h.0, h.1, refl), refl), r ∙ h.2)
  outward at (n ∷ ns) (f ∷ g ∷ fs) next k k' z (s', k'', t, o, l, r) st = by l (λ p e e' w h. outward p ns (g ∷ fs) next e e' w h st.1)
    where
      same : s' ≡ s
      same = some_same s' s (sym k'' ∙ k)

      here : slice_get up at.slice ≡ Some s'
      here = k' ∙ ap Some (sym same)

      by : LeadsTo b sl s' at f o
          → ((p : Position) → slice_get sl p.slice ≡ Some s → slice_get up p.slice ≡ Some s → slice_get up (suc p.slice) ≡ None → Flies b sl (Some p) ns (g ∷ fs) next → (o : Option Position) × Flies b up (Some p) ns (g ∷ fs) o × Onward b sl s p (g ∷ fs) o next)
          → (o : Option Position) × Flies b up (Some at) (n ∷ ns) (f ∷ g ∷ fs) o × Onward b sl s at (f ∷ g ∷ fs) o next
      by (inl h) more = absurd (st.0 (h.0 ∙ ap (λ x. x.to) same))
      by (inr h) more =
          let p = position_inside b at.slice (suc at.leg) f.to (via_after at) f.arr in
          let w = more p k k' z (subst (λ y. Flies b sl y ns (g ∷ fs) next) h.2 r) in
          (w.0, (s', here, t, Some p, inr (h.0, h.1, refl), w.1), further w.0 w.2)
        where
          further : (o : Option Position) → Onward b sl s (position_inside b at.slice (suc at.leg) f.to (via_after at) f.arr) (g ∷ fs) o next → Onward b sl s at (f ∷ g ∷ fs) o next
          further None v = v
          further (Some q) v = v

  -- a head has three flights at most
  pub leg_room : (at : Position) (ns : List ℕ) (fs : List Flight) (next : Option Position) → slice_get sl at.slice ≡ Some s → Flies b sl (Some at) ns fs next → Stays s fs → fs ≢ [] → length fs + at.leg ≤ 3
  leg_room at ns [] next k h st some = absurd (some refl)
  leg_room at [] (f ∷ fs) next k h st some = absurd h
  leg_room at (n ∷ ns) (f ∷ []) next k (s', k', t, o, l, r) st some = omega (arith, t.few)
  leg_room at (n ∷ ns) (f ∷ g ∷ fs) next k (s', k', t, o, l, r) st some = by l (λ p e h. leg_room p ns (g ∷ fs) next e h st.1 (λ e. cc))
    where
      by : LeadsTo b sl s' at f o → ((p : Position) → slice_get sl p.slice ≡ Some s → Flies b sl (Some p) ns (g ∷ fs) next → length (g ∷ fs) + p.leg ≤ 3) → length (f ∷ g ∷ fs) + at.leg ≤ 3
      by (inl h) more = absurd (st.0 (h.0 ∙ ap (λ x. x.to) (some_same s' s (sym k' ∙ k))))
      by (inr h) more =
          let w = more (position_inside b at.slice (suc at.leg) f.to (via_after at) f.arr) k (subst (λ y. Flies b sl y ns (g ∷ fs) next) h.2 r) in
          one_less (length fs) at.leg w
        where
          one_less : (x y : ℕ) → suc x + suc y ≤ 3 → suc (suc x) + y ≤ 3
          one_less x y w = omega (arith, w)

  module _ (at : Position) (k : slice_get sl at.slice ≡ Some s) (k' : slice_get up at.slice ≡ Some s) (z : slice_get up (suc at.slice) ≡ None) where
    -- a path of the slices up to the position's is a head, with where it leads over the request
    pub path_head : (ns : List ℕ) (fs : List Flight) (o next : Option Position) → IsPath b up at ns fs o → Onward b sl s at fs o next → IsHead b sl at ns fs next
    path_head ns fs o next h w =
        let r = inward at ns fs o k k' z h.flies in
        record {
          path = record { some = h.some; flies = r.2 next w; shape = h.shape; called = λ x e. h.called x (k' ∙ sym k ∙ e) };
          stays = λ x e. subst (λ y. Stays y fs) (some_same s x (sym k ∙ e)) r.0;
        }

    pub head_path : (ns : List ℕ) (fs : List Flight) (next : Option Position) → IsHead b sl at ns fs next → (o : Option Position) × IsPath b up at ns fs o × Onward b sl s at fs o next
    head_path ns fs next h =
        let r = outward at ns fs next k k' z h.path.flies (h.stays s k) in
        (r.0, record { some = h.path.some; flies = r.1; shape = h.path.shape; called = λ x e. h.path.called x (k ∙ sym k' ∙ e) }, r.2)

    pub head_short : (ns : List ℕ) (fs : List Flight) (next : Option Position) → IsHead b sl at ns fs next → length ns ≤ 3
    head_short ns fs next h = omega (arith, leg_room at ns fs next k h.path.flies (h.stays s k) (some_flights ns fs h.path.some h.path.flies), matched_length _ ns fs (flies_numbers b sl (Some at) ns fs next h.path.flies))
      where
        some_flights : (ms : List ℕ) (gs : List Flight) → ms ≢ [] → Flies b sl (Some at) ms gs next → gs ≢ []
        some_flights [] gs some f = absurd (some refl)
        some_flights (m ∷ ms) [] some f = absurd f
        some_flights (m ∷ ms) (g ∷ gs) some f = λ e. cc

    pub heads_are : (paths heads : List Path) → AreShort b up at paths → Matched (HeadOf b sl at) paths heads → AreHeads b sl at heads
    heads_are paths heads h m = record { in_order = order paths heads m h.in_order; are = λ q. (forth paths heads m q, back q) }
      where
        order : (ps qs : List Path) → Matched (HeadOf b sl at) ps qs → EachPair (λ p q. Precedes p.flights q.flights) ps → EachPair (λ p q. Precedes p.flights q.flights) qs
        order [] [] m e = tt
        order [] (q ∷ qs) m e = absurd m
        order (p ∷ ps) [] m e = absurd m
        order (p ∷ []) (q ∷ []) m e = tt
        order (p ∷ []) (q ∷ x ∷ qs) m e = absurd m.1
        order (p ∷ y ∷ ps) (q ∷ []) m e = absurd m.1
        order (p ∷ y ∷ ps) (q ∷ x ∷ qs) m e = (subst (λ u. Precedes u x.flights) (sym m.0.numbers) (subst (Precedes p.flights) (sym m.1.0.numbers) e.0), order (y ∷ ps) (x ∷ qs) m.1 e.1)

        forth : (ps qs : List Path) → Matched (HeadOf b sl at) ps qs → (q : Path) → IsIn q qs → (fs : List Flight) × IsHead b sl at q.flights fs q.after
        forth [] [] m q i = absurd i
        forth [] (x ∷ qs) m q i = absurd m
        forth (p ∷ ps) [] m q i = absurd m
        forth (p ∷ ps) (x ∷ qs) m q (inl e) = subst (λ y. (fs : List Flight) × IsHead b sl at y.flights fs y.after) (sym e) (m.0.flights, m.0.head)
        forth (p ∷ ps) (x ∷ qs) m q (inr i) = forth ps qs m.1 q i

        found : (ps qs : List Path) → Matched (HeadOf b sl at) ps qs → (p : Path) → IsIn p ps → (q : Path) × IsIn q qs × HeadOf b sl at p q
        found [] [] m p i = absurd i
        found [] (x ∷ qs) m p i = absurd m
        found (y ∷ ps) [] m p i = absurd m
        found (y ∷ ps) (x ∷ qs) m p (inl e) = (x, inl refl, subst (λ v. HeadOf b sl at v x) (sym e) m.0)
        found (y ∷ ps) (x ∷ qs) m p (inr i) = let r = found ps qs m.1 p i in (r.0, inr r.1, r.2)

        back : (q : Path) → (fs : List Flight) × IsHead b sl at q.flights fs q.after → IsIn q heads
        back q (fs, w) =
            let r = head_path q.flights fs q.after w in
            let p : Path = record { flights = q.flights; after = r.0 } in
            let i = (h.are p).1 (fs, r.1, head_short q.flights fs q.after w) in
            let f = found paths heads m p i in
            let x = f.0 in
            let hx = f.2 in
            let one = flies_one b sl (Some at) q.flights hx.flights fs x.after q.after (subst (λ ns. Flies b sl (Some at) ns hx.flights x.after) hx.numbers hx.head.path.flies) w.path.flies in
            subst (λ v. IsIn v heads) (same x q hx.numbers one.1) f.1
          where
            same : (x y : Path) → x.flights ≡ y.flights → x.after ≡ y.after → x ≡ y
            same x y e a = λ i. record { flights = e i; after = a i }

pub onward_some : (b : Book) (sl : List Slice) (s : Slice) (at : Position) (fs : List Flight) (o : Option Position) → is_some o ≡ true → Onward b sl s at fs o o
onward_some b sl s at fs (Some p) e = refl
onward_some b sl s at fs None e = absurd (cc)

-- the last flight is that of the last number
pub last_known : (flights : List Flight) (ns : List ℕ) (fs : List Flight) (P : Flight → Type 0) (d : ℕ) → AreFlightsOf flights ns fs → OnLast P fs → (f : Flight) × (slice_get flights (get_or ns (length ns - 1) d) ≡ Some f) × P f × ((Q : Flight → Type 0) → Q f → OnLast Q fs)
last_known flights ns [] P d h a = absurd a
last_known flights [] (f ∷ fs) P d h a = absurd h
last_known flights (n ∷ []) (f ∷ []) P d h a = (f, h.0, a, λ Q q. q)
last_known flights (n ∷ m ∷ ns) (f ∷ []) P d h a = absurd h.1
last_known flights (n ∷ []) (f ∷ g ∷ fs) P d h a = absurd h.1
last_known flights (n ∷ m ∷ ns) (f ∷ g ∷ fs) P d h a =
    let r = last_known flights (m ∷ ns) (g ∷ fs) P d h.1 a in
    (r.0, ap (λ k. slice_get flights (get_or (n ∷ m ∷ ns) k d)) (shift (length ns)) ∙ r.1, r.2, r.3)
  where
    shift : (k : ℕ) → suc (suc k) - 1 ≡ suc (suc k - 1)
    shift k = omega arith
