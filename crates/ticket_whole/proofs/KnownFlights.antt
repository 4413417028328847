-- Which flights of components are known.
use Rattle.std.proofs.Common.{◌≡◌, ◌↔◌, ◌<◌, ◌∙◌, ℕ, zero, suc, List, [], ◌∷◌, length, Option, Some, None, IsSome, slice_get, refl, ap, sym, subst, inl, inr, arith}
use Rattle.std.specs.List.{Any, filter_map, cons_option, slice_index_or}
use Rattle.fare_law.specs.declared.flights.Flight.{Flight}
use Rattle.fare_law.specs.Book.{Book, flight_at}
use Rattle.ticket_whole.specs.Known.{known_flights, ends_of}
use Rattle.law_lemmas.proofs.Options.{none_or_some}

pub numbered_same : (fs gs : List Flight) (ns ms : List ℕ) → fs ≡ gs → ns ≡ ms → filter_map (slice_get fs) ns ≡ filter_map (slice_get gs) ms
numbered_same fs gs ns ms e f = ap (λ xs. filter_map (slice_get xs) ns) e ∙ ap (filter_map (slice_get gs)) f

some_ends : (o : Option Flight) (fs : List Flight) → IsSome o → IsSome (ends_of (cons_option o fs))
some_ends None fs h = absurd (cc)
some_ends (Some f) fs h = refl

more_ends : (o : Option Flight) (fs : List Flight) → IsSome (ends_of fs) → IsSome (ends_of (cons_option o fs))
more_ends None fs h = h
more_ends (Some f) fs h = refl

known_at : (b : Book) (ns : List ℕ) (k x : ℕ) → k < length ns → slice_index_or ns k x ≡ x → IsSome (flight_at b x) → IsSome (ends_of (known_flights b ns))
known_at b [] k x lt e is = absurd (omega (arith, lt))
known_at b (n ∷ ns) zero x lt e is = some_ends (flight_at b n) (known_flights b ns) (subst (λ m. IsSome (flight_at b m)) (sym e) is)
known_at b (n ∷ ns) (suc k) x lt e is = more_ends (flight_at b n) (known_flights b ns) (known_at b ns k x (omega (arith, lt)) e is)

one_known : (b : Book) (ns : List ℕ) → IsSome (ends_of (known_flights b ns)) → Any (λ n. IsSome (flight_at b n)) ns
one_known b [] h = absurd (cc)
one_known b (n ∷ ns) h = elim (none_or_some (flight_at b n)) [
  | inl none ↦ let k = one_known b ns (subst (λ o. IsSome (ends_of (cons_option o (known_flights b ns)))) none h) in (suc k.0, k.1, omega (arith, k.2), k.3, k.4)
  | inr some ↦ (0, n, omega arith, refl, subst IsSome (sym some.1) refl)
]

pub known_told : (b : Book) (ns : List ℕ) → Any (λ n. IsSome (flight_at b n)) ns ↔ IsSome (ends_of (known_flights b ns))
known_told b ns = (λ h. known_at b ns h.0 h.1 h.2 h.3 h.4, one_known b ns)
