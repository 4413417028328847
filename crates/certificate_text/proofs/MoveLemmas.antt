-- Moves are read as their words spell them, and what is read is spelled so.
use Rattle.std.proofs.Common.{◌≡◌, ◌≤◌, ◌<◌, ◌^◌, ◌==◌, inl, inr, ℕ, zero, suc, List, [], ◌∷◌, ◌++◌, length, map, flat_map, Option, Some, None, option_map, option_and_then, if◌then◌else◌, refl, ap, ap₂, sym, ◌∙◌, subst, arith, ne_eqb, append_assoc, append-nil}
use Rattle.std.specs.Fmt.{decimal}
use Rattle.std.proofs.lemmas.Option.{same_Some}
use Rattle.certificate_text.specs.LineReading.{word_at, role_in, flights_in, count_in, move_in, moves_in}
use Rattle.certificate_text.specs.Lines.{spaced, move_words, IsMove}
use Rattle.certificate_text.proofs.LineWords.{Numbers, digits_free, names_free, basis_read, role_again, role_small, role_read}
use Rattle.certificate_text.proofs.WordLemmas.{Ends, word_again, word_read}
use Rattle.fare_law.specs.declared.moves.Move.{Move}
use Rattle.fare_law.specs.declared.moves.Role.{Role}
use Rattle.fare_law.specs.declared.names.Basis.{Basis}
use Rattle.fare_law.specs.declared.names.Carrier.{Carrier}
use Rattle.fare_law.specs.Lists.{Each}
use Rattle.fare_law.specs.Codes.{role_code}
use Rattle.fare_law.specs.declared.limits.TheConstants.{MOST_FLIGHTS_OF_A_COMPONENT}
use Rattle.name_text.specs.Names.{basis_of, carrier_of}
use Rattle.word_text.specs.Words.{number_in}
use Rattle.law_lemmas.proofs.Options.{from_step}
use Rattle.name_text.proofs.TextLemmas.{basis_again, carrier_again}
use Rattle.residual_keys.proofs.WordsAgain.{carrier_read}

-- what follows the words of moves begins with a space, or is nothing
pub spaced_ends : (ws : List (List ℕ)) → Ends (spaced ws)
spaced_ends [] = inl refl
spaced_ends (w ∷ ws) = inr (w ++ spaced ws, refl)

pub spaced_more : (us ws : List (List ℕ)) → spaced (us ++ ws) ≡ spaced us ++ spaced ws
spaced_more [] ws = refl
spaced_more (u ∷ us) ws = ap (λ t. 32 ∷ u ++ t) (spaced_more us ws) ∙ sym (append_assoc (32 ∷ u) (spaced us) (spaced ws))

pub flights_again : Numbers → (fs : List ℕ) (rest : List (List ℕ)) → Each (λ f. f < 2 ^ 32) fs → flights_in (length fs) (spaced (map decimal fs ++ rest)) ≡ Some (fs, spaced rest)
unfolding flights_in
flights_again k [] rest h = refl
flights_again k (f ∷ fs) rest h =
    rw (
      word_again (decimal f) (spaced (map decimal fs ++ rest)) (digits_free k f (omega (arith, h.0))) (spaced_ends (map decimal fs ++ rest)),
      k.number.again 4294967295 f (omega (arith, h.0)) (omega (arith, h.0)),
      flights_again k fs rest h.1,
    ) refl

-- flights that were read
pub record ReadFlights (n : ℕ) (text : List ℕ) (p : List ℕ × List ℕ) : Type 0 where
  pub many : length p.0 ≡ n
  pub fit : Each (λ f. f < 2 ^ 32) p.0
  pub written : text ≡ spaced (map decimal p.0) ++ p.1

pub flights_read : Numbers → (n : ℕ) (text : List ℕ) (p : List ℕ × List ℕ) → flights_in n text ≡ Some p → ReadFlights n text p
unfolding flights_in
flights_read k zero text p e = subst (ReadFlights 0 text) (same_Some ([], text) p e) (record { many = refl; fit = tt; written = refl })
flights_read k (suc n) text p e =
    from_step (word_at text) _ p e (λ word was_word e.
    from_step (number_in 4294967295 word.0) _ p e (λ flight is_flight e.
    from_step (flights_in n word.1) _ p e (λ more was_more e.
    let r = k.number.read 4294967295 flight word.0 is_flight in
    let rest = flights_read k n word.1 more was_more in
    subst (ReadFlights (suc n) text) (same_Some (flight ∷ more.0, more.1) p e) (record {
      many = ap suc rest.many;
      fit = (omega (arith, r.0), rest.fit);
      written = word_read text word was_word ∙ ap₂ (λ a b. 32 ∷ (a ++ b)) r.1 rest.written
          ∙ ap (λ t. 32 ∷ t) (sym (append_assoc (decimal flight) (spaced (map decimal more.0)) more.1));
    }))))

pub count_again : Numbers → (n : ℕ) → 1 ≤ n → n ≤ MOST_FLIGHTS_OF_A_COMPONENT → count_in (decimal n) ≡ Some n
count_again k n low high = rw (k.number.again MOST_FLIGHTS_OF_A_COMPONENT n high (omega (arith, high))) (some n low)
  where
    some : (n : ℕ) → 1 ≤ n → (if n == 0 then None else Some n) ≡ Some n
    some zero h = absurd (omega arith)
    some (suc n) h = rw (ne_eqb (suc n) 0 (λ e. omega (arith, e))) refl

pub count_read : Numbers → (w : List ℕ) (n : ℕ) → count_in w ≡ Some n → (1 ≤ n) × (n ≤ MOST_FLIGHTS_OF_A_COMPONENT) × (w ≡ decimal n)
count_read k w n e =
    from_step (number_in MOST_FLIGHTS_OF_A_COMPONENT w) _ n e (λ m was e.
    let s = some m n e in
    let r = k.number.read MOST_FLIGHTS_OF_A_COMPONENT m w was in
    subst (λ x. (1 ≤ x) × (x ≤ MOST_FLIGHTS_OF_A_COMPONENT) × (w ≡ decimal x)) s.1 (s.0, r.0, r.1))
  where
    some : (m n : ℕ) → (if m == 0 then None else Some m) ≡ Some n → (1 ≤ m) × (m ≡ n)
    some zero n e = absurd (cc)
    some (suc m) n e = (omega arith, same_Some (suc m) n (rw (ne_eqb (suc m) 0 (λ e. omega (arith, e))) at e))

words_again : Numbers → (m : Move) (rest : List (List ℕ)) → IsMove m
    → move_in (spaced (decimal (length m.flights) ∷ (map decimal m.flights ++ m.carrier.0 ∷ m.basis.0 ∷ decimal (role_code m.role) ∷ decimal m.slot ∷ rest))) ≡ Some (m, spaced rest)
unfolding move_in
words_again k m rest h =
    let w4 = decimal m.slot ∷ rest in
    let w3 = decimal (role_code m.role) ∷ w4 in
    let w2 = m.basis.0 ∷ w3 in
    let w1 = m.carrier.0 ∷ w2 in
    let w0 = map decimal m.flights ++ w1 in
    rw (
      word_again (decimal (length m.flights)) (spaced w0) (digits_free k (length m.flights) (omega (arith, h.count))) (spaced_ends w0),
      count_again k (length m.flights) h.count.0 h.count.1,
      flights_again k m.flights w1 h.flights,
      word_again m.carrier.0 (spaced w2) (names_free m.carrier.0 h.carrier.1) (spaced_ends w2),
      word_again m.basis.0 (spaced w3) (names_free m.basis.0 h.basis.2) (spaced_ends w3),
      word_again (decimal (role_code m.role)) (spaced w4) (digits_free k (role_code m.role) (role_small m.role)) (spaced_ends w4),
      word_again (decimal m.slot) (spaced rest) (digits_free k m.slot (omega (arith, h.slot))) (spaced_ends rest),
      carrier_again m.carrier h.carrier,
      basis_again m.basis h.basis,
      role_again k m.role,
      k.number.again 255 m.slot (omega (arith, h.slot)) (omega (arith, h.slot)),
    ) refl

pub move_again : Numbers → (m : Move) (rest : List (List ℕ)) → IsMove m → move_in (spaced (move_words m ++ rest)) ≡ Some (m, spaced rest)
move_again k m rest h =
    let words : move_words m ++ rest ≡ decimal (length m.flights) ∷ (map decimal m.flights ++ m.carrier.0 ∷ m.basis.0 ∷ decimal (role_code m.role) ∷ decimal m.slot ∷ rest) =
    ap (λ ws. decimal (length m.flights) ∷ ws) (append_assoc (map decimal m.flights) (m.carrier.0 ∷ m.basis.0 ∷ decimal (role_code m.role) ∷ decimal m.slot ∷ []) rest) in
    subst (λ ws. move_in (spaced ws) ≡ Some (m, spaced rest)) (sym words) (words_again k m rest h)

pub record ReadMove (text : List ℕ) (p : Move × List ℕ) : Type 0 where
  pub is : IsMove p.0
  pub written : text ≡ spaced (move_words p.0) ++ p.1

move_whole : Numbers → (text : List ℕ) (p : Move × List ℕ) (a b c d e flights : List ℕ × List ℕ) (count : ℕ) (carrier : Carrier) (basis : Basis) (role : Role) (slot : ℕ)
    → word_at text ≡ Some a → count_in a.0 ≡ Some count → flights_in count a.1 ≡ Some flights → word_at flights.1 ≡ Some b → word_at b.1 ≡ Some c → word_at c.1 ≡ Some d → word_at d.1 ≡ Some e
    → carrier_of b.0 ≡ Some carrier → basis_of c.0 ≡ Some basis → role_in d.0 ≡ Some role → number_in 255 e.0 ≡ Some slot
    → ◌≡◌ {A = Option (Move × List ℕ)} (Some (record { flights = flights.0; carrier = carrier; basis = basis; role = role; slot = slot }, e.1)) (Some p) → ReadMove text p
move_whole k text p a b c d e flights count carrier basis role slot was_a is_count was_flights was_b was_c was_d was_e is_carrier is_basis is_role is_slot same =
    let it : Move = record { flights = flights.0; carrier = carrier; basis = basis; role = role; slot = slot } in
    let n = count_read k a.0 count is_count in
    let f = flights_read k count a.1 flights was_flights in
    let x = carrier_read b.0 carrier is_carrier in
    let y = basis_read c.0 basis is_basis in
    let r = role_read k d.0 role is_role in
    let s = k.number.read 255 slot e.0 is_slot in
    let is : IsMove it = record { count = (omega (arith, f.many, n.0), omega (arith, f.many, n.1)); flights = f.fit; carrier = x.0; basis = y.0; slot = omega (arith, s.0) } in
    let t4 : d.1 ≡ spaced (decimal slot ∷ []) ++ e.1 = word_read d.1 e was_e ∙ ap (λ t. 32 ∷ (t ++ e.1)) s.1 ∙ ap (λ t. 32 ∷ (t ++ e.1)) (sym (append-nil (decimal slot))) in
    let t3 : c.1 ≡ 32 ∷ (decimal (role_code role) ++ d.1) = word_read c.1 d was_d ∙ ap (λ t. 32 ∷ (t ++ d.1)) r in
    let t2 : b.1 ≡ 32 ∷ (basis.0 ++ c.1) = word_read b.1 c was_c ∙ ap (λ t. 32 ∷ (t ++ c.1)) y.1 in
    let t1 : flights.1 ≡ 32 ∷ (carrier.0 ++ b.1) = word_read flights.1 b was_b ∙ ap (λ t. 32 ∷ (t ++ b.1)) x.1 in
    let t0 : a.1 ≡ spaced (map decimal flights.0) ++ flights.1 = f.written in
    let t : text ≡ 32 ∷ (decimal (length flights.0) ++ a.1) = word_read text a was_a ∙ ap (λ t. 32 ∷ (t ++ a.1)) (n.2 ∙ ap decimal (sym f.many)) in
    subst (ReadMove text) (same_Some (it, e.1) p same) (record {
      is = is;
      written = t ∙ ap (λ t. 32 ∷ (decimal (length flights.0) ++ t)) (t0 ∙ ap (λ t. spaced (map decimal flights.0) ++ t) (t1 ∙ ap (λ t. 32 ∷ (carrier.0 ++ t)) (t2 ∙ ap (λ t. 32 ∷ (basis.0 ++ t)) (t3 ∙ ap (λ t. 32 ∷ (decimal (role_code role) ++ t)) t4))))
          ∙ sym (spaced_move it e.1);
    })
  where
    -- the words of a move, one after another
    spaced_move : (m : Move) (rest : List ℕ) → spaced (move_words m) ++ rest
        ≡ 32 ∷ (decimal (length m.flights) ++ (spaced (map decimal m.flights) ++ 32 ∷ (m.carrier.0 ++ 32 ∷ (m.basis.0 ++ 32 ∷ (decimal (role_code m.role) ++ (spaced (decimal m.slot ∷ []) ++ rest))))))
    spaced_move m rest =
        let last = m.carrier.0 ∷ m.basis.0 ∷ decimal (role_code m.role) ∷ decimal m.slot ∷ [] in
        ap (λ t. 32 ∷ ((decimal (length m.flights) ++ t) ++ rest)) (spaced_more (map decimal m.flights) last)
        ∙ simp append_assoc

move_read : Numbers → (text : List ℕ) (p : Move × List ℕ) → move_in text ≡ Some p → ReadMove text p
unfolding move_in
move_read k text p e =
    from_step (word_at text) _ p e (λ a was_a e.
    from_step (count_in a.0) _ p e (λ count is_count e.
    from_step (flights_in count a.1) _ p e (λ flights was_flights e.
    from_step (word_at flights.1) _ p e (λ b was_b e.
    from_step (word_at b.1) _ p e (λ c was_c e.
    from_step (word_at c.1) _ p e (λ d was_d e.
    from_step (word_at d.1) _ p e (λ f was_f e.
    from_step (carrier_of b.0) _ p e (λ carrier is_carrier e.
    from_step (basis_of c.0) _ p e (λ basis is_basis e.
    from_step (role_in d.0) _ p e (λ role is_role e.
    from_step (number_in 255 f.0) _ p e (λ slot is_slot e.
    move_whole k text p a b c d f flights count carrier basis role slot was_a is_count was_flights was_b was_c was_d was_f is_carrier is_basis is_role is_slot e
    )))))))))))

move_filled : (m : Move) (rest : List (List ℕ)) → (b : ℕ) × (t : List ℕ) × (spaced (move_words m ++ rest) ≡ b ∷ t)
move_filled m rest = (32, decimal (length m.flights) ++ spaced ((map decimal m.flights ++ m.carrier.0 ∷ m.basis.0 ∷ decimal (role_code m.role) ∷ decimal m.slot ∷ []) ++ rest), refl)

moves_step : (n : ℕ) (text more : List ℕ) (m : Move) (b : ℕ) (t : List ℕ) → text ≡ b ∷ t → move_in text ≡ Some (m, more) → moves_in (suc n) text ≡ option_map (λ ms. m ∷ ms) (moves_in n more)
unfolding moves_in
moves_step n [] more m b t some e = absurd (cc)
moves_step n (x ∷ text) more m b t some e = rw e (last (moves_in n more))
  where
    last : (o : Option (List Move)) → option_and_then {U = List Move} (λ ms. Some (m ∷ ms)) o ≡ option_map (λ ms. m ∷ ms) o
    last None = refl
    last (Some ms) = refl

moves_end : (n : ℕ) → moves_in n [] ≡ Some []
unfolding moves_in
moves_end zero = refl
moves_end (suc n) = refl

pub moves_again : Numbers → (n : ℕ) (ms : List Move) → length ms ≤ n → Each IsMove ms → moves_in n (spaced (flat_map move_words ms)) ≡ Some ms
moves_again k n [] few h = moves_end n
moves_again k zero (m ∷ ms) few h = absurd (omega (arith, few))
moves_again k (suc n) (m ∷ ms) few h =
    let rest = flat_map move_words ms in
    let some = move_filled m rest in
    moves_step n (spaced (move_words m ++ rest)) (spaced rest) m some.0 some.1 some.2 (move_again k m rest h.0)
    ∙ ap (option_map (λ xs. m ∷ xs)) (moves_again k n ms (omega (arith, few)) h.1)

pub record ReadMoves (n : ℕ) (text : List ℕ) (ms : List Move) : Type 0 where
  pub few : length ms ≤ n
  pub moves : Each IsMove ms
  pub written : text ≡ spaced (flat_map move_words ms)

pub moves_read : Numbers → (n : ℕ) (text : List ℕ) (ms : List Move) → moves_in n text ≡ Some ms → ReadMoves n text ms
unfolding moves_in
moves_read k zero [] ms e = subst (ReadMoves 0 []) (same_Some [] ms e) (record { few = omega arith; moves = tt; written = refl })
moves_read k (suc n) [] ms e = subst (ReadMoves (suc n) []) (same_Some [] ms e) (record { few = omega arith; moves = tt; written = refl })
moves_read k zero (b ∷ text) ms e = absurd (cc)
moves_read k (suc n) (b ∷ text) ms e =
    from_step (move_in (b ∷ text)) _ ms e (λ first was_first e.
    from_step (moves_in n first.1) _ ms e (λ more was_more e.
    let r = move_read k (b ∷ text) first was_first in
    let rest = moves_read k n first.1 more was_more in
    subst (ReadMoves (suc n) (b ∷ text)) (same_Some (first.0 ∷ more) ms e) (record {
      few = omega (arith, rest.few);
      moves = (r.is, rest.moves);
      written = r.written ∙ ap (λ t. spaced (move_words first.0) ++ t) rest.written ∙ sym (spaced_more (move_words first.0) (flat_map move_words more));
    })))
