-- Each path that begins with a head, and each path of a position, once.
use Rattle.std.proofs.Common.{◌≡◌, ◌⊎◌, ◌↔◌, Bool, true, suc, List, [], ◌∷◌, ◌++◌, Some, refl, sym, ap, subst, ◌∙◌, inl, inr, Result, Ok, Err, OnOk, append-nil, append_assoc}
use Rattle.fare_law.specs.declared.flights.Flight.{Flight}
use Rattle.fare_law.specs.declared.names.Place.{Place}
use Rattle.fare_law.specs.declared.requests.Slice.{Slice}
use Rattle.fare_law.specs.Book.{Book}
use Rattle.fare_law.specs.Lists.{AllDifferent, IsIn, OnFirst, OnLast}
use Rattle.flight_paths.specs.declared.positions.Path.{Path}
use Rattle.flight_paths.specs.declared.positions.Position.{Position}
use Rattle.flight_paths.specs.Heads.{AreFrom, AreHeads, AreReached, AreRest, AreSomeTails, Crosses, Crossing, EndWanted, Follows, HasTails, IsHead, IsJoined, Saw}
use Rattle.flight_paths.specs.Positions.{IsPath}
use Rattle.flight_paths.proofs.Crossing.{heads_and_tails}
use Rattle.flight_paths.proofs.Apart.{different_more, longer_not, none_is, same_path}
use Rattle.flight_paths.proofs.Joining.{crosses_joined, head_not_joined, joined_crosses, joined_head, joined_tail}
use Rattle.law_lemmas.proofs.Members.{in_either, in_left, in_one, in_right}

-- the last of two parts is the second's
last_right : {X : Type 0} (P Q : X → Type 0) (xs ys : List X) → OnFirst Q ys → OnLast P (xs ++ ys) → OnLast P ys
last_right P Q [] ys some h = h
last_right P Q (x ∷ []) [] some h = absurd some
last_right P Q (x ∷ []) (y ∷ ys) some h = h
last_right P Q (x ∷ z ∷ xs) ys some h = last_right P Q (z ∷ xs) ys some h

module _ (b : Book) (sl : List Slice) (at : Position) where
  -- the paths that go on from a head, tail by tail
  pub rest_none : (h : Path) → AreRest b sl at h [] []
  rest_none h = record { once = tt; are = λ p. (λ i. absurd i, λ w. absurd w.1) }

  pub rest_one : (h t p : Path) → IsJoined b sl at h t p → AreRest b sl at h (t ∷ []) (p ∷ [])
  rest_one h t p j = record { once = (tt, tt); are = λ q. (λ i. (t, inl refl, subst (IsJoined b sl at h t) (sym (in_one q p i)) j), λ w. inl (back q w.0 (in_one w.0 t w.1) w.2)) }
    where
      back : (q x : Path) → x ≡ t → IsJoined b sl at h x q → q ≡ p
      back q x e k = same_path q p (k.numbers ∙ ap (λ y. h.flights ++ y.flights) e ∙ sym j.numbers) (k.after ∙ ap (λ y. y.after) e ∙ sym j.after)

  pub rest_not : (h t : Path) → (Follows b sl at h t → ⊥) → AreRest b sl at h (t ∷ []) []
  rest_not h t never = record { once = tt; are = λ p. (λ i. absurd i, λ w. never (subst (Follows b sl at h) (in_one w.0 t w.1) w.2.follows)) }

  pub rest_both : (h : Path) (ts us ps qs : List Path) → ((t : Path) → IsIn t ts → IsIn t us → ⊥) → AreRest b sl at h ts ps → AreRest b sl at h us qs → AreRest b sl at h (ts ++ us) (ps ++ qs)
  rest_both h ts us ps qs differ r f = record { once = different_more ps qs r.once f.once again; are = λ q. (forth q, λ w. back q w.0 w.1 w.2) }
    where
      again : (x : Path) → IsIn x ps → IsIn x qs → ⊥
      again x i k =
          let w = (r.are x).0 i in
          let v = (f.are x).0 k in
          differ v.0 (subst (λ y. IsIn y ts) (joined_tail b sl at h w.0 v.0 x w.2 v.2) w.1) v.1

      forth : (q : Path) → IsIn q (ps ++ qs) → (tail : Path) × IsIn tail (ts ++ us) × IsJoined b sl at h tail q
      forth q i = elim (in_either q ps qs i) [
        | inl l ↦ let w = (r.are q).0 l in (w.0, in_left w.0 ts us w.1, w.2)
        | inr k ↦ let w = (f.are q).0 k in (w.0, in_right w.0 ts us w.1, w.2)
      ]

      back : (q x : Path) → IsIn x (ts ++ us) → IsJoined b sl at h x q → IsIn q (ps ++ qs)
      back q x i k = elim (in_either x ts us i) [
        | inl l ↦ in_left q ps qs ((r.are q).1 (x, l, k))
        | inr m ↦ in_right q ps qs ((f.are q).1 (x, m, k))
      ]

  -- the paths that begin with a head
  pub from_rest : (h : Path) (ts ps : List Path) → AreRest b sl at h ts ps → AreFrom b sl at h ts (h ∷ ps)
  from_rest h ts ps r = record { once = (none_is h ps again, r.once); are = λ p. (forth p, back p) }
    where
      again : IsIn h ps → ⊥
      again i = let w = (r.are h).0 i in longer_not h.flights w.0.flights w.2.follows.is_tail.path.some w.2.numbers

      forth : (p : Path) → IsIn p (h ∷ ps) → (p ≡ h) ⊎ ((tail : Path) × IsIn tail ts × IsJoined b sl at h tail p)
      forth p (inl e) = inl e
      forth p (inr i) = inr ((r.are p).0 i)

      back : (p : Path) → (p ≡ h) ⊎ ((tail : Path) × IsIn tail ts × IsJoined b sl at h tail p) → IsIn p (h ∷ ps)
      back p (inl e) = inl e
      back p (inr w) = inr ((r.are p).1 w)

  pub from_alone : (h : Path) (ts : List Path) → ((middle : Position) → Crossing b sl at h middle → ⊥) → AreFrom b sl at h ts (h ∷ [])
  from_alone h ts never = from_rest h ts [] (record { once = tt; are = λ p. (λ i. absurd i, λ w. never w.2.follows.middle w.2.follows.crossing) })

  -- the paths that begin with one of these heads, each once
  pub record AreSeen (ts hs ps : List Path) : Type 0 where
    pub once : AllDifferent ps
    pub are : (p : Path) → IsIn p ps ↔ ((h : Path) × IsIn h hs × ((p ≡ h) ⊎ ((tail : Path) × IsIn tail ts × IsJoined b sl at h tail p)))

  pub seen_none : (ts : List Path) → AreSeen ts [] []
  seen_none ts = record { once = tt; are = λ p. (λ i. absurd i, λ w. absurd w.1) }

  pub seen_more : (ts hs ps : List Path) (h : Path) (qs : List Path) → ((x : Path) → IsIn x (hs ++ h ∷ []) → (fs : List Flight) × IsHead b sl at x.flights fs x.after) → AreSeen ts hs ps → AreFrom b sl at h ts qs → (IsIn h hs → ⊥) → AreSeen ts (hs ++ h ∷ []) (ps ++ qs)
  seen_more ts hs ps h qs heads r f new = record { once = different_more ps qs r.once f.once (λ x i k. let w = (r.are x).0 i in again x w.0 w.1 w.2 ((f.are x).0 k)); are = λ p. (forth p, λ w. back p w.0 w.1 w.2) }
    where
      again : (x g : Path) → IsIn g hs → (x ≡ g) ⊎ ((tail : Path) × IsIn tail ts × IsJoined b sl at g tail x) → (x ≡ h) ⊎ ((tail : Path) × IsIn tail ts × IsJoined b sl at h tail x) → ⊥
      again x g i (inl e) (inl k) = new (subst (λ y. IsIn y hs) (sym e ∙ k) i)
      again x g i (inl e) (inr k) = let y = heads g (in_left g hs (h ∷ []) i) in head_not_joined b sl at h k.0 g y.0 y.1 (subst (IsJoined b sl at h k.0) e k.2)
      again x g i (inr e) (inl k) = let y = heads h (in_right h hs (h ∷ []) (inl refl)) in head_not_joined b sl at g e.0 h y.0 y.1 (subst (IsJoined b sl at g e.0) k e.2)
      again x g i (inr e) (inr k) = new (subst (λ y. IsIn y hs) (joined_head b sl at g e.0 h k.0 x e.2 k.2) i)

      forth : (p : Path) → IsIn p (ps ++ qs) → (g : Path) × IsIn g (hs ++ h ∷ []) × ((p ≡ g) ⊎ ((tail : Path) × IsIn tail ts × IsJoined b sl at g tail p))
      forth p i = elim (in_either p ps qs i) [
        | inl l ↦ let w = (r.are p).0 l in (w.0, in_left w.0 hs (h ∷ []) w.1, w.2)
        | inr k ↦ (h, in_right h hs (h ∷ []) (inl refl), (f.are p).0 k)
      ]

      back : (p g : Path) → IsIn g (hs ++ h ∷ []) → (p ≡ g) ⊎ ((tail : Path) × IsIn tail ts × IsJoined b sl at g tail p) → IsIn p (ps ++ qs)
      back p g i w = elim (in_either g hs (h ∷ []) i) [
        | inl l ↦ in_left p ps qs ((r.are p).1 (g, l, w))
        | inr k ↦ in_right p ps qs ((f.are p).1 (subst (λ y. (p ≡ y) ⊎ ((tail : Path) × IsIn tail ts × IsJoined b sl at y tail p)) (in_one g h k) w))
      ]

  -- which are paths of the position, and all that end where they are wanted
  pub seen_reached : (wanted : Place → Bool) (ts hs ps : List Path) → AreHeads b sl at hs → AreSomeTails b sl (suc at.slice) ts → HasTails b sl (suc at.slice) wanted ts → AreSeen ts hs ps → AreReached b sl at wanted ps
  seen_reached wanted ts hs ps a d all r = record {
    once = r.once;
    each = λ p i. let w = (r.are p).0 i in forth p w.0 w.1 w.2;
    all = λ p fs h e. (r.are p).1 (back p fs e ((heads_and_tails b sl at p.flights fs p.after).0 h));
  }
    where
      forth : (p h : Path) → IsIn h hs → (p ≡ h) ⊎ ((tail : Path) × IsIn tail ts × IsJoined b sl at h tail p) → (fs : List Flight) × IsPath b sl at p.flights fs p.after
      forth p h i (inl e) = subst (λ x. (fs : List Flight) × IsPath b sl at x.flights fs x.after) (sym e) (let w = (a.are h).0 i in (w.0, w.1.path))
      forth p h i (inr w) =
          let fs = w.2.follows.crossing.flights ++ w.2.follows.flights in
          (fs, (heads_and_tails b sl at p.flights fs p.after).1 (inr (joined_crosses b sl at h w.0 p w.2)))

      back : (p : Path) (fs : List Flight) → EndWanted wanted fs → IsHead b sl at p.flights fs p.after ⊎ Crosses b sl at p.flights fs p.after → (h : Path) × IsIn h hs × ((p ≡ h) ⊎ ((tail : Path) × IsIn tail ts × IsJoined b sl at h tail p))
      back p fs e (inl h) = (p, (a.are p).1 (fs, h), inl refl)
      back p fs e (inr c) =
          let h : Path = record { flights = c.head; after = Some c.middle } in
          let t : Path = record { flights = c.tail; after = p.after } in
          let ends = last_right (λ f. wanted f.to ≡ true) (λ g. g.from ≡ c.slice.to) c.head_flights c.tail_flights c.begins (subst (EndWanted wanted) c.flights e) in
          (h, (a.are h).1 (c.head_flights, c.is_head), inr (t, all t c.tail_flights c.is_tail ends, crosses_joined b sl at p fs c))

-- what was told
pub saw_none : (told : List Path → Type 0) (P : List Path → Type 0) → P [] → Saw told told P
saw_none told P h = record { seen = []; are = h; told = λ before t. subst told (sym (append-nil before)) t }

-- nor was anything that was told lost
pub saw_still : (old new : List Path → Type 0) (P : List Path → Type 0) → ((before : List Path) → old before → new before) → P [] → Saw old new P
saw_still old new P stays h = record { seen = []; are = h; told = λ before t. subst new (sym (append-nil before)) (stays before t) }

pub saw_more : (old mid new : List Path → Type 0) (P Q R : List Path → Type 0) → Saw old mid P → Saw mid new Q → ((ps qs : List Path) → P ps → Q qs → R (ps ++ qs)) → Saw old new R
saw_more old mid new P Q R a c f = record {
  seen = a.seen ++ c.seen;
  are = f a.seen c.seen a.are c.are;
  told = λ before t. subst new (append_assoc before a.seen c.seen) (c.told (before ++ a.seen) (a.told before t));
}

pub saw_one : (old new : List Path → Type 0) (P : List Path → Type 0) (p : Path) → ((before : List Path) → old before → new (before ++ p ∷ [])) → P (p ∷ []) → Saw old new P
saw_one old new P p t h = record { seen = p ∷ []; are = h; told = t }

pub saw_like : (old new : List Path → Type 0) (P Q : List Path → Type 0) → Saw old new P → ((ps : List Path) → P ps → Q ps) → Saw old new Q
saw_like old new P Q s f = record { seen = s.seen; are = f s.seen s.are; told = s.told }

pub on_ok : {A E : Type 0} (P Q : Type 0) (r : Result A E) → OnOk r P → (P → Q) → OnOk r Q
on_ok P Q (Ok x) h k = k h
on_ok P Q (Err e) h k = tt
