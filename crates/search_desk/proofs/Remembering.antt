-- What a desk remembers stays true as its watch sees more.
use Rattle.std.proofs.Common.{◌≡◌, ℕ, ◌≤◌, ◌+◌, List, [], ◌++◌, length, Option, Some, None, IfSome, IsSome, Result, Ok, Err, IsOk, OnOk, refl, ap, sym, subst, ◌∙◌, arith}
use Rattle.std.proofs.lemmas.Bool.{false≢true}
use Rattle.std.proofs.lemmas.List.{append-nil, length-append, nil_from_length}
use Rattle.fare_law.specs.Book.{Book}
use Rattle.fare_law.specs.Lists.{IsPrefix}
use Rattle.fare_law.specs.declared.filings.Filing.{Filing}
use Rattle.fare_law.specs.declared.requests.Request.{Request}
use Rattle.fare_versions.specs.Published.{Grows}
use Rattle.fare_versions.specs.Seen.{Sight, seen_by}
use Rattle.node_publish.specs.Homes.{Known}
use Rattle.search_desk.specs.declared.settled.Settled.{Settled}
use Rattle.search_desk.specs.Desks.{AllPublished}
use Rattle.search_desk.specs.Remembered.{IsRemembered, Remembers}

-- a longer list with as many elements is the same
no_more : (old new : List Filing) → IsPrefix old new → length new ≡ length old → new ≡ old
no_more old new (more, is) e =
    let long : length new ≡ length old + length more = ap length is ∙ length-append old more in
    let none : more ≡ [] = nil_from_length more (omega (arith, long, e)) in
    is ∙ ap (λ l. old ++ l) none ∙ append-nil old

no_shorter : (old new : List Filing) → IsPrefix old new → length old ≤ length new
no_shorter old new (more, is) = let long : length new ≡ length old + length more = ap length is ∙ length-append old more in omega (arith, long)

-- where as much was filed before, it is the version from before
same_book : (old new : Sight) → Grows (seen_by old) (seen_by new) → length new.book.entries ≡ length old.book.entries → old.book ≡ new.book
same_book old new g e =
    let entries = sym (no_more old.book.entries new.book.entries g.entries e) in
    let timetable = sym g.timetable in
    λ i. record { timetable = timetable i; entries = entries i }

one_stays : (old new : Sight) (p : Known) (s : Settled) → Grows (seen_by old) (seen_by new) → IsRemembered old p s → IsRemembered new p s
one_stays old new p s g h =
    let longer = no_shorter old.book.entries new.book.entries g.entries in
    record {
      seen = omega (arith, longer, h.seen);
      settled = λ e. subst (λ b. AllPublished p b s.request) (same_book old new g (omega (arith, longer, h.seen, e))) (h.settled (omega (arith, longer, h.seen, e)));
    }

-- what is remembered stays so as more is seen
pub remembers_still : (old new : Sight) (p : Known) (settled : Option Settled) → Grows (seen_by old) (seen_by new) → Remembers old p settled → Remembers new p settled
remembers_still old new p None g h = tt
remembers_still old new p (Some s) g h = one_stays old new p s g h

-- so it does where the book that was seen last is the same
pub remembers_same : (old new : Sight) (p : Known) (settled : Option Settled) → new.book ≡ old.book → Remembers old p settled → Remembers new p settled
remembers_same old new p None e h = tt
remembers_same old new p (Some s) e h = record {
  seen = subst (λ (b : Book). s.number ≤ length b.entries) (sym e) h.seen;
  settled = subst (λ (b : Book). s.number ≡ length b.entries → AllPublished p b s.request) (sym e) h.settled;
}

-- what is remembered of the version that was seen last is settled
pub known_settled : (w : Sight) (p : Known) (settled : Option Settled) (n : ℕ) (q : Request) → Remembers w p settled → IsSome settled → IfSome settled (λ s. (s.number ≡ n) × (s.request ≡ q)) → n ≡ length w.book.entries → AllPublished p w.book q
known_settled w p None n q h some same e = absurd (false≢true some)
known_settled w p (Some s) n q h some same e = subst (AllPublished p w.book) same.1 (h.settled (same.0 ∙ e))

-- what was searched is remembered, where it has an answer
pub remembers_now : {T E : Type 0} (w : Sight) (p : Known) (settled : Option Settled) (n : ℕ) (q : Request) (r : Result T E) → IfSome settled (λ s. (s.number ≡ n) × (s.request ≡ q)) → (IsSome settled → IsOk r) → OnOk r (AllPublished p w.book q) → n ≡ length w.book.entries → Remembers w p settled
remembers_now w p None n q r same answered h e = tt
remembers_now w p (Some s) n q (Ok x) same answered h e = record {
  seen = omega (arith, same.0, e);
  settled = λ _. subst (AllPublished p w.book) (sym same.1) h;
}
remembers_now w p (Some s) n q (Err x) same answered h e = absurd (false≢true (answered refl))
