-- The moves of a residual, path by path. This file is given on to the crates above.
use Rattle.std.proofs.Common.{◌≡◌, ◌⊎◌, ℕ, zero, suc, ◌+◌, ◌≤◌, ◌<◌, List, [], ◌∷◌, ◌++◌, length, take, get_or, refl, sym, ap, subst, ◌∙◌, inl, inr, arith}
use Rattle.fare_law.specs.declared.flights.Flight.{Flight}
use Rattle.fare_law.specs.declared.market.OfferKey.{OfferKey}
use Rattle.fare_law.specs.declared.requests.Request.{Request}
use Rattle.fare_law.specs.Book.{Book}
use Rattle.fare_law.specs.Lists.{Each, EachPair, IsIn, Less}
use Rattle.fare_law.specs.Limits.{HasKeys}
use Rattle.fare_law.specs.Names.{IsBasis, IsCarrier}
use Rattle.ticket_order.specs.Coding.{Coded}
use Rattle.flight_paths.specs.declared.positions.Path.{Path}
use Rattle.flight_paths.specs.Paths.{ArePaths, Precedes}
use Rattle.residual_keys.specs.AskedKeys.{KeyOf, KeyOfFlights}
use Rattle.residual_keys.specs.declared.residual.Chosen.{Chosen}
use Rattle.residual_keys.specs.Gathered.{Adds, IsChosenOn, IsPathOf}
use Rattle.residual_keys.specs.Residuals.{State}
use Rattle.residual_keys.specs.Steps.{IsChosen}
use Rattle.residual_keys.proofs.Adding.{adds_like, adds_none, adds_then}
use Rattle.residual_keys.proofs.StepTaken.{slice_known, whole}
use Rattle.law_lemmas.proofs.Lists.{front_read}
use Rattle.law_lemmas.proofs.Members.{in_either, in_left, in_one, in_right}

-- a move on one of these paths
pub record OnPaths (b : Book) (q : Request) (r : State) (paths : List Path) (c : Chosen) : Type 0 where
  pub chosen : IsChosen b q r c
  pub path : Path
  pub within : IsIn path paths
  pub flights : c.mv.flights ≡ path.flights

-- what the keys of these paths ask for holds
abbrev pub HoldsOn : Book → Request → State → (OfferKey → Type 0) → List Path → Type 0
HoldsOn b q r Settled paths = (path : Path) → IsIn path paths → (fs : List Flight) → IsPathOf b q r path fs → (key : OfferKey) → KeyOfFlights b q r fs key → Settled key

module _ (less_never : (w : List ℕ) → Less w w → ⊥) (less_trans : (u v w : List ℕ) → Less u v → Less v w → Less u w) where
  precedes_never : (ns : List ℕ) → Precedes ns ns → ⊥
  precedes_never ns (inl lt) = absurd (omega arith)
  precedes_never ns (inr h) = less_never ns h.1

  precedes_trans : (l m n : List ℕ) → Precedes l m → Precedes m n → Precedes l n
  precedes_trans l m n (inl a) (inl b) = inl (omega arith)
  precedes_trans l m n (inl a) (inr b) = inl (omega (arith, b.0))
  precedes_trans l m n (inr a) (inl b) = inl (omega (arith, a.0))
  precedes_trans l m n (inr a) (inr b) = inr (a.0 ∙ b.0, less_trans l m n a.1 b.1)

  -- paths before one have other flights
  behind : (paths : List Path) (i : ℕ) (d p x : Path) → EachPair (λ y z. Precedes y.flights z.flights) paths → i < length paths → x ≡ get_or paths i d → IsIn p (take i paths) → Precedes p.flights x.flights
  behind [] i d p x h lt e k = absurd (omega arith)
  behind (y ∷ paths) zero d p x h lt e k = absurd k
  behind (y ∷ paths) (suc i) d p x h lt e (inl s) = subst (λ z. Precedes z.flights x.flights) (sym s) (later y paths i (omega arith) h e)
    where
      later : (y : Path) (ys : List Path) (j : ℕ) → j < length ys → EachPair (λ y z. Precedes y.flights z.flights) (y ∷ ys) → x ≡ get_or ys j d → Precedes y.flights x.flights
      later y [] j l g f = absurd (omega arith)
      later y (z ∷ ys) zero l g f = subst (λ w. Precedes y.flights w.flights) (sym f) g.0
      later y (z ∷ ys) (suc j) l g f = precedes_trans y.flights z.flights x.flights g.0 (later z ys j (omega arith) g.1 f)
  behind (y ∷ paths) (suc i) d p x h lt e (inr k) = behind paths i d p x (rest y paths h) (omega arith) e k
    where
      rest : (y : Path) (ys : List Path) → EachPair (λ y z. Precedes y.flights z.flights) (y ∷ ys) → EachPair (λ y z. Precedes y.flights z.flights) ys
      rest y [] g = tt
      rest y (z ∷ ys) g = g.1

  module _ (b : Book) (q : Request) (r : State) (paths : List Path) where
    pub path_more : EachPair (λ y z. Precedes y.flights z.flights) paths → (i : ℕ) (d path : Path) (a m c : List Chosen) → i < length paths → path ≡ get_or paths i d
        → Adds (OnPaths b q r (take i paths)) a m → Adds (IsChosenOn b q r path.flights) m c → Adds (OnPaths b q r (take (i + 1) paths)) a c
    path_more order i d path a m c lt e h k =
        adds_like (λ x. OnPaths b q r (take i paths) x ⊎ IsChosenOn b q r path.flights x) (OnPaths b q r (take (i + 1) paths)) a c
        (adds_then (OnPaths b q r (take i paths)) (IsChosenOn b q r path.flights) a m c h k apart) (λ x. (forth x, back x))
      where
        front : take (i + 1) paths ≡ take i paths ++ path ∷ []
        front = front_read paths i d path lt e

        apart : (x y : Chosen) → OnPaths b q r (take i paths) x → IsChosenOn b q r path.flights y → x.mv ≡ y.mv → ⊥
        apart x y u w f =
            let same : u.path.flights ≡ path.flights = sym u.flights ∙ ap (λ z. z.flights) f ∙ w.1 in
            precedes_never path.flights (subst (λ z. Precedes z path.flights) same (behind paths i d u.path path order lt e u.within))

        forth : (x : Chosen) → OnPaths b q r (take i paths) x ⊎ IsChosenOn b q r path.flights x → OnPaths b q r (take (i + 1) paths) x
        forth x (inl u) = record { chosen = u.chosen; path = u.path; within = subst (IsIn u.path) (sym front) (in_left u.path (take i paths) (path ∷ []) u.within); flights = u.flights }
        forth x (inr w) = record { chosen = w.0; path = path; within = subst (IsIn path) (sym front) (in_right path (take i paths) (path ∷ []) (inl refl)); flights = w.1 }

        back : (x : Chosen) → OnPaths b q r (take (i + 1) paths) x → OnPaths b q r (take i paths) x ⊎ IsChosenOn b q r path.flights x
        back x u = elim (in_either u.path (take i paths) (path ∷ []) (subst (IsIn u.path) front u.within)) [
          | inl l ↦ inl (record { chosen = u.chosen; path = u.path; within = l; flights = u.flights })
          | inr l ↦ inr (u.chosen, u.flights ∙ ap (λ z. z.flights) (in_one u.path path l))
        ]

module _ (b : Book) (q : Request) (r : State) (paths : List Path) where
  pub paths_none : (old : List Chosen) → Adds (OnPaths b q r []) old old
  paths_none old = adds_none (OnPaths b q r []) old (λ c h. h.within)

  pub holds_more : (Settled : OfferKey → Type 0) (i : ℕ) (d path : Path) → i < length paths → path ≡ get_or paths i d → HoldsOn b q r Settled (take i paths)
      → ((fs : List Flight) → IsPathOf b q r path fs → (key : OfferKey) → KeyOfFlights b q r fs key → Settled key) → HoldsOn b q r Settled (take (i + 1) paths)
  holds_more Settled i d path lt e h k p w = elim (in_either p (take i paths) (path ∷ []) (subst (IsIn p) (front_read paths i d path lt e) w)) [
    | inl l ↦ h p l
    | inr l ↦ subst (λ z. (fs : List Flight) → IsPathOf b q r z fs → (key : OfferKey) → KeyOfFlights b q r fs key → Settled key) (sym (in_one p path l)) k
  ]

  -- all paths have all moves
  pub all_paths : ArePaths b q.slices r.at paths → (old new : List Chosen) → Adds (OnPaths b q r paths) old new → Adds (IsChosen b q r) old new
  all_paths are old new h = adds_like (OnPaths b q r paths) (IsChosen b q r) old new h (λ c. (λ u. u.chosen, λ k. back c k))
    where
      back : (c : Chosen) → IsChosen b q r c → OnPaths b q r paths c
      back c k =
          let p : Path = record { flights = c.mv.flights; after = k.after } in
          record { chosen = k; path = p; within = (are.are p).1 (k.flights, k.moves.path); flights = refl }

  pub all_keys : (Settled : OfferKey → Type 0) → ArePaths b q.slices r.at paths → HoldsOn b q r Settled paths → (key : OfferKey) → KeyOf b q r key → Settled key
  all_keys Settled are h key k =
      let p : Path = record { flights = k.numbers; after = k.next } in
      h p ((are.are p).1 (k.flights, k.path)) k.flights k.path key k.of

-- a residual past the last slice has no move and no key
pub no_slice : (b : Book) (q : Request) (r : State) (old : List Chosen) → length q.slices ≤ r.at.slice → Adds (IsChosen b q r) old old
no_slice b q r old le = adds_none (IsChosen b q r) old (λ c h. absurd (let lt = slice_known b q r c.mv c.next (c.price, (whole b q r c).0 h) in omega (arith, lt, le)))

-- each move has a carrier and a basis that are well formed
pub all_coded : (b : Book) (q : Request) (r : State) → HasKeys b → (cs : List Chosen) → ((c : Chosen) → IsIn c cs → IsChosen b q r c) → Each (λ c. Coded c.mv) cs
all_coded b q r keys [] f = tt
all_coded b q r keys (c ∷ cs) f =
    let h = (f c (inl refl)).moves in
    let p = (f c (inl refl)).piece in
    let k = keys p.fare.key p.fare h.stands.fare in
    ((subst IsCarrier (sym h.carrier) k.0, subst IsBasis (sym h.basis) k.1), all_coded b q r keys cs (λ d i. f d (inr i)))
