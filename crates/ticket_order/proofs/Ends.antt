-- Where flights begin and end, read one after another.
use Rattle.std.proofs.Common.{◌≡◌, ℕ, ◌+◌, ◌≤◌, ◌<◌, List, [], ◌∷◌, length, drop, get_or, slice_get, IfSome, Option, Some, None, option_and_then, refl, sym, ap, ap₂, ◌∙◌, subst}
use Rattle.fare_law.specs.declared.flights.Flight.{Flight}
use Rattle.fare_law.specs.declared.names.Place.{Place}
use Rattle.fare_law.specs.Lists.{Matched, OnLast}
use Rattle.std.proofs.lemmas.List.{drop_all}
use Rattle.ticket_order.specs.Tickets.{LeadFrom}
use Rattle.law_lemmas.proofs.Lists.{rest_at}

-- the ends with one more flight
abbrev pub further : Option (Place × Place) → Flight → Place × Place
further None f = (f.from, f.to)
further (Some ends) f = (ends.0, f.to)

abbrev pub ends_after : List Flight → Option (Place × Place) → List ℕ → Option (Place × Place)
ends_after flights ends [] = ends
ends_after flights ends (n ∷ ns) = option_and_then (λ f. ends_after flights (Some (further ends f)) ns) (slice_get flights n)

abbrev Are : List Flight → List ℕ → List Flight → Type 0
Are flights ns fs = Matched (λ n f. slice_get flights n ≡ Some f) ns fs

last_to : Place → List Flight → Place
last_to end [] = end
last_to end (f ∷ fs) = last_to f.to fs

going : (flights : List Flight) (ns : List ℕ) (fs : List Flight) (begin end : Place) → Are flights ns fs → ends_after flights (Some (begin, end)) ns ≡ Some (begin, last_to end fs)
unfolding last_to
going flights [] [] begin end h = refl
going flights [] (f ∷ fs) begin end h = absurd h
going flights (n ∷ ns) [] begin end h = absurd h
going flights (n ∷ ns) (f ∷ fs) begin end h = ap (option_and_then (λ g. ends_after flights (Some (begin, g.to)) ns)) h.0 ∙ going flights ns fs begin f.to h.1

last_is : (place begin end : Place) (f : Flight) (fs : List Flight) → OnLast (λ g. (begin ≡ place) × (end ≡ g.to)) (f ∷ fs) → (begin ≡ place) × (end ≡ last_to f.to fs)
unfolding last_to
last_is place begin end f [] h = h
last_is place begin end f (g ∷ fs) h = last_is place begin end g fs h

is_last : (place : Place) (f : Flight) (fs : List Flight) → OnLast (λ g. (place ≡ place) × (last_to f.to fs ≡ g.to)) (f ∷ fs)
unfolding last_to
is_last place f [] = (refl, refl)
is_last place f (g ∷ fs) = is_last place g fs

pub lead_only : (flights : List Flight) (ns : List ℕ) (begin end : Place) → LeadFrom flights ns begin end → ends_after flights None ns ≡ Some (begin, end)
lead_only flights ns begin end ([], m, o) = absurd o
lead_only flights [] begin end (f ∷ fs, m, o) = absurd m
lead_only flights (n ∷ ns) begin end (f ∷ fs, m, o) =
    let l = last_is f.from begin end f fs o in
    ap (option_and_then (λ g. ends_after flights (Some (g.from, g.to)) ns)) m.0 ∙ going flights ns fs f.from f.to m.1 ∙ ap₂ (λ a b. Some (a, b)) (sym l.0) (sym l.1)

found : (flights : List Flight) (ends : Option (Place × Place)) (ns : List ℕ) (r : Place × Place) → ends_after flights ends ns ≡ Some r → (fs : List Flight) × Are flights ns fs
found flights ends [] r h = ([], tt)
found flights ends (n ∷ ns) r h = look (slice_get flights n) refl (λ f k. found flights (Some (further ends f)) ns r k) h
  where
    look : (o : Option Flight) → slice_get flights n ≡ o → ((f : Flight) → ends_after flights (Some (further ends f)) ns ≡ Some r → (fs : List Flight) × Are flights ns fs)
        → option_and_then (λ f. ends_after flights (Some (further ends f)) ns) o ≡ Some r → (fs : List Flight) × Are flights (n ∷ ns) fs
    look None e rec k = absurd (cc)
    look (Some f) e rec k = let t = rec f k in (f ∷ t.0, (e, t.1))

pub lead_some : (flights : List Flight) (ns : List ℕ) (r : Place × Place) → ends_after flights None ns ≡ Some r → LeadFrom flights ns r.0 r.1
lead_some flights [] r h = absurd (cc)
lead_some flights (n ∷ ns) r h = let t = found flights None (n ∷ ns) r h in with_flights t.0 t.1
  where
    with_flights : (fs : List Flight) → Are flights (n ∷ ns) fs → LeadFrom flights (n ∷ ns) r.0 r.1
    with_flights [] m = absurd m
    with_flights (f ∷ fs) m =
        let o = is_last f.from f fs in
        let e : (f.from, last_to f.to fs) ≡ r = same (lead_only flights (n ∷ ns) f.from (last_to f.to fs) (f ∷ fs, m, o)) in
        subst (λ z. LeadFrom flights (n ∷ ns) z.0 z.1) e (f ∷ fs, m, o)
      where
        same : {a : Place × Place} → ends_after flights None (n ∷ ns) ≡ Some a → a ≡ r
        same k = cc

pub ends_next : (flights : List Flight) (ns : List ℕ) (i : ℕ) (ends more : Option (Place × Place)) (f : Flight) (whole : Option (Place × Place)) → i < length ns → Some f ≡ slice_get flights (get_or ns i 0)
    → more ≡ Some (further ends f) → ends_after flights ends (drop i ns) ≡ whole → ends_after flights more (drop (i + 1) ns) ≡ whole
ends_next flights ns i ends more f whole lt e m h =
    ap (λ z. ends_after flights z (drop (i + 1) ns)) m
    ∙ ap (option_and_then (λ g. ends_after flights (Some (further ends g)) (drop (i + 1) ns))) e
    ∙ sym (ap (ends_after flights ends) (rest_at ns i 0 lt)) ∙ h

pub ends_lost : (flights : List Flight) (ns : List ℕ) (i : ℕ) (ends whole : Option (Place × Place)) → i < length ns → slice_get flights (get_or ns i 0) ≡ None → ends_after flights ends (drop i ns) ≡ whole → whole ≡ None
ends_lost flights ns i ends whole lt e h =
    sym h ∙ ap (ends_after flights ends) (rest_at ns i 0 lt) ∙ ap (option_and_then (λ g. ends_after flights (Some (further ends g)) (drop (i + 1) ns))) e

pub ends_all : (flights : List Flight) (ns : List ℕ) (i : ℕ) (ends : Option (Place × Place)) → length ns ≤ i → ends_after flights ends (drop i ns) ≡ ends_after flights None ns → ends ≡ ends_after flights None ns
ends_all flights ns i ends le h = sym (ap (ends_after flights ends) (drop_all i ns le)) ∙ h

pub lead_all : (flights : List Flight) (ns : List ℕ) (ends : Option (Place × Place)) → ends ≡ ends_after flights None ns → IfSome ends (λ r. LeadFrom flights ns r.0 r.1)
lead_all flights ns None h = tt
lead_all flights ns (Some r) h = lead_some flights ns r (sym h)
