-- Flights by their numbers, in two parts.
use Rattle.std.proofs.Common.{◌≡◌, ℕ, ◌+◌, ◌<◌, List, [], ◌∷◌, ◌++◌, length, take, get_or, slice_get, append_assoc, refl, sym, ap, subst, ◌∙◌}
use Rattle.fare_ends.specs.NumberedFlights.{AddsFlights}
use Rattle.fare_law.specs.declared.flights.Flight.{Flight}
use Rattle.fare_law.specs.Book.{Book}
use Rattle.fare_law.specs.Parts.{Numbers}
use Rattle.fare_ends.proofs.Collected.{numbers_next}
use Rattle.flight_paths.specs.Ways.{AreFlightsOf}
use Rattle.flight_paths.proofs.Places.{numbers_known}
use Rattle.law_lemmas.proofs.Lists.{got_read}

-- the flights of the one's numbers and of the other's
pub record Halves (b : Book) (ns ms : List ℕ) (fs : List Flight) : Type 0 where
  pub front : List Flight
  pub back : List Flight
  pub parts : fs ≡ front ++ back
  pub fronts : Numbers b ns front
  pub backs : Numbers b ms back

pub halves : (b : Book) (ns ms : List ℕ) (fs : List Flight) → Numbers b (ns ++ ms) fs → Halves b ns ms fs
halves b [] ms fs h = record { front = []; back = fs; parts = refl; fronts = tt; backs = h }
halves b (n ∷ ns) ms [] h = absurd h
halves b (n ∷ ns) ms (f ∷ fs) h =
    let r = halves b ns ms fs h.1 in
    record { front = f ∷ r.front; back = r.back; parts = ap (λ gs. f ∷ gs) r.parts; fronts = (h.0, r.fronts); backs = r.backs }

pub numbers_both : (b : Book) (ns ms : List ℕ) (fs gs : List Flight) → Numbers b ns fs → Numbers b ms gs → Numbers b (ns ++ ms) (fs ++ gs)
numbers_both b [] ms [] gs h k = k
numbers_both b [] ms (f ∷ fs) gs h k = absurd h
numbers_both b (n ∷ ns) ms [] gs h k = absurd h
numbers_both b (n ∷ ns) ms (f ∷ fs) gs h k = (h.0, numbers_both b ns ms fs gs h.1 k)

-- the flights of some numbers and then of more, added to none
pub gathered : (b : Book) (ns ms : List ℕ) (none one two : List Flight) → none ≡ [] → AddsFlights b ns none one → AddsFlights b ms one two → Numbers b (ns ++ ms) two
gathered b ns ms none one two e h k = subst (Numbers b (ns ++ ms)) (sym (k.joined ∙ ap (λ l. l ++ k.more) (h.joined ∙ ap (λ l. l ++ h.more) e))) (numbers_both b ns ms h.more k.more h.are k.are)

-- one flight more
pub added_next : (b : Book) (all : List Flight) (ns : List ℕ) (fs : List Flight) (i : ℕ) (old mid new : List Flight) (d : Flight) → all ≡ b.timetable.flights → Numbers b ns fs → i < length ns → AddsFlights b (take i ns) old mid → new ≡ mid ++ get_or all (get_or ns i 0) d ∷ [] → AddsFlights b (take (i + 1) ns) old new
added_next b all ns fs i old mid new d same numbers lt a pushed =
    let within = numbers_known all ns fs i 0 (subst (λ xs. AreFlightsOf xs ns fs) (sym same) numbers) lt in
    record {
      more = a.more ++ get_or all (get_or ns i 0) d ∷ [];
      joined = pushed ∙ ap (λ xs. xs ++ get_or all (get_or ns i 0) d ∷ []) a.joined ∙ append_assoc old a.more (get_or all (get_or ns i 0) d ∷ []);
      are = numbers_next b ns a.more i (get_or all (get_or ns i 0) d) lt a.are (ap (λ xs. slice_get xs (get_or ns i 0)) (sym same) ∙ got_read all (get_or ns i 0) d within);
    }
