-- Labels and words at the front of a text.
use Rattle.std.proofs.Common.{ap₂, length-append, inl, inr, ◌≡◌, ◌≢◌, ◌≤◌, ◌<◌, ◌+◌, ◌-◌, ◌⊎◌, ◌==◌, ℕ, zero, suc, Bool, true, false, List, [], ◌∷◌, ◌++◌, length, take, drop, get_or, Option, Some, None, option_map, option_and_then, if◌then◌else◌, refl, ap, sym, ◌∙◌, subst, arith, eq-eqb, ne_eqb, append_assoc, append-nil, add-one, drop-cons, length-drop}
use Rattle.std.proofs.lemmas.List.{take_all, take-append-drop}
use Rattle.std.proofs.lemmas.Option.{same_Some}
use Rattle.fare_law.specs.declared.moves.Move.{Move}
use Rattle.fare_law.specs.declared.limits.TheConstants.{MOST_COMPONENTS}
use Rattle.certificate_text.specs.LineReading.{after_label, before_space, word_at, flights_in, move_in, moves_in}
use Rattle.word_text.specs.Words.{IsFreeOf, number_in}
use Rattle.law_lemmas.proofs.Tests.{same_byte}

pub label_again : (label rest : List ℕ) → after_label label (label ++ rest) ≡ Some rest
unfolding after_label
label_again [] rest = refl
label_again (c ∷ label) rest = rw (eq-eqb c c refl) (label_again label rest)

label_step : (b c : ℕ) (label text rest : List ℕ) (t : Bool) (o : Option (List ℕ)) → (b == c) ≡ t → (o ≡ Some rest → text ≡ label ++ rest)
    → (if t then o else None) ≡ Some rest → b ∷ text ≡ c ∷ (label ++ rest)
label_step b c label text rest true o is further e = ap (λ x. x ∷ text) (same_byte b c is) ∙ ap (λ t. c ∷ t) (further e)
label_step b c label text rest false o is further e = absurd (cc)

pub label_read : (label text rest : List ℕ) → after_label label text ≡ Some rest → text ≡ label ++ rest
unfolding after_label
label_read [] text rest e = same_Some text rest e
label_read (c ∷ label) [] rest e = absurd (cc)
label_read (c ∷ label) (b ∷ text) rest e = label_step b c label text rest (b == c) (after_label label text) refl (λ h. label_read label text rest h) e

pub label_none : (label text : List ℕ) → ((rest : List ℕ) → text ≡ label ++ rest → ⊥) → after_label label text ≡ None
label_none label text none = go (after_label label text) refl
  where
    go : (o : Option (List ℕ)) → after_label label text ≡ o → after_label label text ≡ None
    go None e = e
    go (Some rest) e = absurd (none rest (label_read label text rest e))

pub label_of : (label text rest : List ℕ) → text ≡ label ++ rest → after_label label text ≡ Some rest
label_of label text rest e = rw e (label_again label rest)

-- ---- words

-- nothing follows, or a space
abbrev pub Ends : List ℕ → Type 0
Ends rest = (rest ≡ []) ⊎ ((more : List ℕ) × (rest ≡ 32 ∷ more))

space_again : (word rest : List ℕ) → IsFreeOf 32 word → Ends rest → before_space (word ++ rest) ≡ (word, rest)
unfolding before_space
space_again [] rest h (inl e) = rw e refl
space_again [] rest h (inr (more, e)) = rw e refl
space_again (b ∷ word) rest h ends = rw (ne_eqb b 32 h.0, space_again word rest h.1 ends) refl

pub word_again : (word rest : List ℕ) → IsFreeOf 32 word → Ends rest → word_at (32 ∷ (word ++ rest)) ≡ Some (word, rest)
unfolding word_at
word_again word rest h ends = rw (label_again (32 ∷ []) (word ++ rest), space_again word rest h ends) refl

abbrev space_then : ℕ → List ℕ → List ℕ × List ℕ → Bool → List ℕ × List ℕ
space_then b bs p true = ([], b ∷ bs)
space_then b bs p false = (b ∷ p.0, p.1)

space_step : (b : ℕ) (bs : List ℕ) (p : List ℕ × List ℕ) (t : Bool) → bs ≡ p.0 ++ p.1 → b ∷ bs ≡ (space_then b bs p t).0 ++ (space_then b bs p t).1
space_step b bs p true e = refl
space_step b bs p false e = ap (λ t. b ∷ t) e

space_is : (b : ℕ) (bs : List ℕ) (t : Bool) → (b == 32) ≡ t → before_space (b ∷ bs) ≡ space_then b bs (before_space bs) t
unfolding before_space
space_is b bs true e = rw e refl
space_is b bs false e = rw e refl

space_none : before_space [] ≡ ([], [])
unfolding before_space
space_none = refl

space_read : (text : List ℕ) → text ≡ (before_space text).0 ++ (before_space text).1
space_read [] = ap (λ (q : List ℕ × List ℕ). q.0 ++ q.1) (sym space_none)
space_read (b ∷ bs) =
    space_step b bs (before_space bs) (b == 32) (space_read bs)
    ∙ ap (λ (q : List ℕ × List ℕ). q.0 ++ q.1) (sym (space_is b bs (b == 32) refl))

pub word_read : (text : List ℕ) (p : List ℕ × List ℕ) → word_at text ≡ Some p → text ≡ 32 ∷ (p.0 ++ p.1)
unfolding word_at
word_read text p e = go (after_label (32 ∷ []) text) refl e
  where
    go : (o : Option (List ℕ)) → after_label (32 ∷ []) text ≡ o → option_map before_space o ≡ Some p → text ≡ 32 ∷ (p.0 ++ p.1)
    go None was at = absurd (cc)
    go (Some rest) was at =
        let same : before_space rest ≡ p = same_Some (before_space rest) p at in
        label_read (32 ∷ []) text rest was ∙ ap (λ t. 32 ∷ t) (space_read rest ∙ ap (λ (q : List ℕ × List ℕ). q.0 ++ q.1) same)

-- one more byte that is no space
pub free_more : (text : List ℕ) (i : ℕ) → i < length text → IsFreeOf 32 (take i text) → get_or text i 0 ≢ 32 → IsFreeOf 32 (take (i + 1) text)
free_more [] i l h ne = absurd (omega arith)
free_more (b ∷ text) zero l h ne = (ne, tt)
free_more (b ∷ text) (suc i) l h ne =
    let next : suc i + 1 ≡ suc (i + 1) = omega arith in
    subst (λ n. IsFreeOf 32 (take n (b ∷ text))) (sym next) (h.0, free_more text i (omega arith) h.1 ne)

pub spaced_at : (text : List ℕ) (i : ℕ) → i < length text → get_or text i 0 ≡ 32 → IsFreeOf 32 (take i text) → before_space text ≡ (take i text, take (length text - i) (drop i text))
spaced_at text i l e h =
    let rest : drop i text ≡ get_or text i 0 ∷ drop (i + 1) text = rw (drop-cons text i 0 l, add-one) refl in
    let whole : take (length text - i) (drop i text) ≡ drop i text = take_all (length text - i) (drop i text) (omega (arith, length-drop i text)) in
    rw whole (subst (λ (t : List ℕ). before_space t ≡ (take i text, drop i text)) (take-append-drop i text)
    (space_again (take i text) (drop i text) h (inr (drop (i + 1) text, rest ∙ ap (λ b. b ∷ drop (i + 1) text) e))))

pub spaced_none : (text more : List ℕ) (i : ℕ) → length text ≤ i → more ≡ [] → IsFreeOf 32 (take i text) → before_space text ≡ (text, more)
spaced_none text more i l e h =
    let free : IsFreeOf 32 text = subst (IsFreeOf 32) (take_all i text l) h in
    rw e (subst (λ (t : List ℕ). before_space t ≡ (text, [])) (append-nil text) (space_again text [] free (inl refl)))

-- nothing follows the whole text
pub past_end : (text : List ℕ) → take (length text - length text) (drop (length text) text) ≡ []
past_end text = let none : length text - length text ≡ 0 = omega arith in ap (λ n. take n (drop (length text) text)) none

pub ruleset space_rules = (free_more, spaced_at, spaced_none)

-- ---- flights

-- flights that stand before the others
abbrev pub flights_after : List ℕ → Option (List ℕ × List ℕ) → Option (List ℕ × List ℕ)
flights_after front r = option_map (λ p. (front ++ p.0, p.1)) r

pub flights_none : (r : Option (List ℕ × List ℕ)) → flights_after [] r ≡ r
flights_none None = refl
flights_none (Some p) = refl

after_push : (front : List ℕ) (f : ℕ) (r : Option (List ℕ × List ℕ)) → flights_after (front ++ f ∷ []) r ≡ flights_after front (option_map (λ p. (f ∷ p.0, p.1)) r)
after_push front f None = refl
after_push front f (Some p) = ap (λ t. Some (t, p.1)) (append_assoc front (f ∷ []) p.0)

flights_step : (n : ℕ) (text word more : List ℕ) (flight : ℕ) → word_at text ≡ Some (word, more) → number_in 4294967295 word ≡ Some flight
    → flights_in (suc n) text ≡ option_map (λ p. (flight ∷ p.0, p.1)) (flights_in n more)
unfolding flights_in
flights_step n text word more flight e h = rw (e, h) (last (flights_in n more))
  where
    last : (o : Option (List ℕ × List ℕ)) → option_and_then {U = List ℕ × List ℕ} (λ p. Some (flight ∷ p.0, p.1)) o ≡ option_map (λ p. (flight ∷ p.0, p.1)) o
    last None = refl
    last (Some p) = refl

one_less : (count i : ℕ) → i < count → count - i ≡ suc (count - (i + 1))
one_less count i h = omega arith

pub flights_more : (front : List ℕ) (flight : ℕ) (text word more start : List ℕ) (count i : ℕ) → i < count → word_at text ≡ Some (word, more) → number_in 4294967295 word ≡ Some flight
    → flights_after front (flights_in (count - i) text) ≡ flights_in count start → flights_after (front ++ flight ∷ []) (flights_in (count - (i + 1)) more) ≡ flights_in count start
flights_more front flight text word more start count i l e h so =
    after_push front flight (flights_in (count - (i + 1)) more)
    ∙ ap (flights_after front) (sym (flights_step (count - (i + 1)) text word more flight e h) ∙ ap (λ n. flights_in n text) (sym (one_less count i l))) ∙ so

flights_stop : (n : ℕ) (text : List ℕ) → word_at text ≡ None → flights_in (suc n) text ≡ None
unfolding flights_in
flights_stop n text e = rw e refl

flights_bad : (n : ℕ) (text word more : List ℕ) → word_at text ≡ Some (word, more) → number_in 4294967295 word ≡ None → flights_in (suc n) text ≡ None
unfolding flights_in
flights_bad n text word more e h = rw (e, h) refl

pub flights_no_word : (front text start : List ℕ) (count i : ℕ) → i < count → word_at text ≡ None → flights_after front (flights_in (count - i) text) ≡ flights_in count start → flights_in count start ≡ None
flights_no_word front text start count i l e so =
    sym so ∙ ap (flights_after front) (ap (λ n. flights_in n text) (one_less count i l) ∙ flights_stop (count - (i + 1)) text e)

pub flights_no_number : (front text word more start : List ℕ) (count i : ℕ) → i < count → word_at text ≡ Some (word, more) → number_in 4294967295 word ≡ None
    → flights_after front (flights_in (count - i) text) ≡ flights_in count start → flights_in count start ≡ None
flights_no_number front text word more start count i l e h so =
    sym so ∙ ap (flights_after front) (ap (λ n. flights_in n text) (one_less count i l) ∙ flights_bad (count - (i + 1)) text word more e h)

flights_end : (text : List ℕ) → flights_in 0 text ≡ Some ([], text)
unfolding flights_in
flights_end text = refl

pub flights_all : (front text start : List ℕ) (count i : ℕ) → count ≤ i → flights_after front (flights_in (count - i) text) ≡ flights_in count start → flights_in count start ≡ Some (front, text)
flights_all front text start count i l so =
    let none : count - i ≡ 0 = omega arith in
    sym so ∙ ap (λ n. flights_after front (flights_in n text)) none ∙ ap (flights_after front) (flights_end text) ∙ ap (λ t. Some (t, text)) (append-nil front)

-- what the loop keeps
pub flights_kept : (front new : List ℕ) (flight : ℕ) (text word more start : List ℕ) (count : ℕ) → new ≡ front ++ flight ∷ [] → length front < count
    → word_at text ≡ Some (word, more) → number_in 4294967295 word ≡ Some flight → flights_after front (flights_in (count - length front) text) ≡ flights_in count start
    → (length new ≤ count) × (flights_after new (flights_in (count - length new) more) ≡ flights_in count start)
flights_kept front new flight text word more start count is few e h so =
    let many : length new ≡ length front + 1 = ap length is ∙ length-append front (flight ∷ []) in (
      omega (arith, many),
      ap₂ (λ xs n. flights_after xs (flights_in (count - n) more)) is many ∙ flights_more front flight text word more start count (length front) few e h so,
    )

pub ruleset flight_rules = (flights_none, flights_more, flights_no_word, flights_no_number, flights_all)

-- ---- moves

abbrev pub moves_after : List Move → Option (List Move) → Option (List Move)
moves_after front r = option_map (λ ms. front ++ ms) r

pub moves_none : (r : Option (List Move)) → moves_after [] r ≡ r
moves_none None = refl
moves_none (Some ms) = refl

moves_push : (front : List Move) (m : Move) (r : Option (List Move)) → moves_after (front ++ m ∷ []) r ≡ moves_after front (option_map (λ ms. m ∷ ms) r)
moves_push front m None = refl
moves_push front m (Some ms) = ap Some (append_assoc front (m ∷ []) ms)

moves_step : (n : ℕ) (text more : List ℕ) (m : Move) → text ≢ [] → move_in text ≡ Some (m, more) → moves_in (suc n) text ≡ option_map (λ ms. m ∷ ms) (moves_in n more)
unfolding moves_in
moves_step n [] more m some e = absurd (some refl)
moves_step n (b ∷ text) more m some e = rw e (last (moves_in n more))
  where
    last : (o : Option (List Move)) → option_and_then (λ ms. Some (m ∷ ms)) o ≡ option_map (λ ms. m ∷ ms) o
    last None = refl
    last (Some ms) = refl

moves_stop : (n : ℕ) (text : List ℕ) → text ≢ [] → move_in text ≡ None → moves_in (suc n) text ≡ None
unfolding moves_in
moves_stop n [] some e = absurd (some refl)
moves_stop n (b ∷ text) some e = rw e refl

moves_end : (n : ℕ) → moves_in n [] ≡ Some []
unfolding moves_in
moves_end zero = refl
moves_end (suc n) = refl

moves_full : (text : List ℕ) → text ≢ [] → moves_in 0 text ≡ None
unfolding moves_in
moves_full [] some = absurd (some refl)
moves_full (b ∷ text) some = refl

filled : {X : Type 0} (text : List X) → (length text ≡ 0 → ⊥) → text ≢ []
filled text some e = some (ap length e)

pub moves_more : (front : List Move) (m : Move) (text more start : List ℕ) (i : ℕ) → i < MOST_COMPONENTS → (length text ≡ 0 → ⊥) → move_in text ≡ Some (m, more)
    → moves_after front (moves_in (MOST_COMPONENTS - i) text) ≡ moves_in MOST_COMPONENTS start → moves_after (front ++ m ∷ []) (moves_in (MOST_COMPONENTS - (i + 1)) more) ≡ moves_in MOST_COMPONENTS start
moves_more front m text more start i l some e so =
    moves_push front m (moves_in (MOST_COMPONENTS - (i + 1)) more)
    ∙ ap (moves_after front) (sym (moves_step (MOST_COMPONENTS - (i + 1)) text more m (filled text some) e) ∙ ap (λ n. moves_in n text) (sym (one_less MOST_COMPONENTS i l))) ∙ so

pub moves_bad : (front : List Move) (text start : List ℕ) (i : ℕ) → i < MOST_COMPONENTS → (length text ≡ 0 → ⊥) → move_in text ≡ None
    → moves_after front (moves_in (MOST_COMPONENTS - i) text) ≡ moves_in MOST_COMPONENTS start → None ≡ moves_in MOST_COMPONENTS start
moves_bad front text start i l some e so =
    sym (sym so ∙ ap (moves_after front) (ap (λ n. moves_in n text) (one_less MOST_COMPONENTS i l) ∙ moves_stop (MOST_COMPONENTS - (i + 1)) text (filled text some) e))

empty : (text : List ℕ) → length text ≡ 0 → text ≡ []
empty [] e = refl
empty (b ∷ text) e = absurd (omega (arith, e))

pub moves_done : (front : List Move) (text start : List ℕ) (n : ℕ) → length text ≡ 0
    → moves_after front (moves_in n text) ≡ moves_in MOST_COMPONENTS start → Some front ≡ moves_in MOST_COMPONENTS start
moves_done front text start n e so =
    sym (sym so ∙ ap (λ t. moves_after front (moves_in n t)) (empty text e) ∙ ap (moves_after front) (moves_end n) ∙ ap Some (append-nil front))

pub moves_past : (front : List Move) (text start : List ℕ) (i : ℕ) → MOST_COMPONENTS ≤ i → (length text ≡ 0 → ⊥)
    → moves_after front (moves_in (MOST_COMPONENTS - i) text) ≡ moves_in MOST_COMPONENTS start → None ≡ moves_in MOST_COMPONENTS start
moves_past front text start i l some so =
    let none : MOST_COMPONENTS - i ≡ 0 = omega arith in
    sym (sym so ∙ ap (λ n. moves_after front (moves_in n text)) none ∙ ap (moves_after front) (moves_full text (filled text some)))

pub moves_kept : (front new : List Move) (m : Move) (text more start : List ℕ) → new ≡ front ++ m ∷ [] → length front < MOST_COMPONENTS → (length text ≡ 0 → ⊥)
    → move_in text ≡ Some (m, more) → moves_after front (moves_in (MOST_COMPONENTS - length front) text) ≡ moves_in MOST_COMPONENTS start
    → (length new ≤ MOST_COMPONENTS) × (moves_after new (moves_in (MOST_COMPONENTS - length new) more) ≡ moves_in MOST_COMPONENTS start)
moves_kept front new m text more start is few some e so =
    let many : length new ≡ length front + 1 = ap length is ∙ length-append front (m ∷ []) in (
      omega (arith, many),
      ap₂ (λ xs n. moves_after xs (moves_in (MOST_COMPONENTS - n) more)) is many ∙ moves_more front m text more start (length front) few some e so,
    )

pub ruleset move_rules = (moves_none, moves_more, moves_bad, moves_done, moves_past)
