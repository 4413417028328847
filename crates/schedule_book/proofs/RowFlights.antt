-- The flights of one row, day by day.
use Rattle.std.proofs.Common.{◌≡◌, ◌↔◌, ℕ, zero, suc, ℤ, pos, ◌+◌, ◌-◌, ◌+ℤ◌, ◌≤ℤ◌, ◌<ℤ◌, ◌≤◌, Bool, true, false, cond, List, [], ◌∷◌, ◌++◌, length, refl, sym, ap, ap₂, ◌∙◌, subst, inl, inr, arith, append_assoc, append-nil, length-append}
use Rattle.std.proofs.lemmas.Int.{ints, by_lt_z}
use Rattle.std.proofs.lemmas.Bool.{cases_Bool}
use Rattle.fare_law.specs.declared.flights.Flight.{Flight}
use Rattle.fare_law.specs.declared.rows.FlightRow.{FlightRow}
use Rattle.fare_law.specs.Flights.{Dated, instant}
use Rattle.fare_law.specs.Lists.{IsIn}
use Rattle.schedule_book.specs.Days.{names, named_of}
use Rattle.schedule_book.specs.Expansions.{AddsRow, HasNone, IsAmong, name_in, name_of, number_of}
use Rattle.schedule_book.proofs.RowDays.{names_told, named_true}
use Rattle.law_lemmas.proofs.Members.{in_either, in_left, in_right}

-- a row has one flight on a day
pub dated_one : (row : FlightRow) (f g : Flight) → Dated row f → Dated row g → f.day ≡ g.day → f ≡ g
dated_one row f g h k e =
    let a : f.carrier ≡ g.carrier = h.carrier ∙ sym k.carrier in
    let b : f.number ≡ g.number = h.number ∙ sym k.number in
    let x : f.from ≡ g.from = h.from ∙ sym k.from in
    let y : f.to ≡ g.to = h.to ∙ sym k.to in
    let m : f.minute ≡ g.minute = h.minute ∙ sym k.minute in
    let d : f.dep ≡ g.dep = h.departs ∙ ap (λ day. instant day row.dep row.dep_offset) e ∙ sym k.departs in
    let r : f.arr ≡ g.arr = h.arrives ∙ ap (λ day. instant (day +ℤ row.shift) row.arr row.arr_offset) e ∙ sym k.arrives in
    λ i. record { carrier = a i; number = b i; from = x i; to = y i; day = e i; minute = m i; dep = d i; arr = r i }

-- a flight of a row has the row's name
pub named_dated : (row : FlightRow) (f : Flight) → Dated row f → name_in (number_of f) ≡ name_of row
named_dated row f h = let a = h.carrier in let b = h.number in let x = h.from in λ i. record { carrier = a i; number = b i; from = x i }

dated_names : (row : FlightRow) (f : Flight) → Dated row f → names row f.day ≡ true
dated_names row f h = named_true row f.day (record { first = h.first; last = h.last; named = h.named })

-- the flights of the days before a day were added
pub record SoFar (row : FlightRow) (day : ℤ) (old new : List Flight) : Type 0 where
  pub count : ℕ
  pub day_is : day ≡ row.first +ℤ pos count
  pub more : List Flight
  pub joined : new ≡ old ++ more
  pub are : (f : Flight) → IsIn f more ↔ (Dated row f × (f.day <ℤ day))
  pub many : length more ≡ named_of row count

pub far_none : (row : FlightRow) (old : List Flight) → SoFar row row.first old old
far_none row old = record {
  count = 0;
  day_is = omega (arith, ints);
  more = [];
  joined = sym (append-nil old);
  are = λ f. (λ i. absurd i, λ h. before f h.0.first h.1);
  many = refl;
}
  where
    before : (f : Flight) → row.first ≤ℤ f.day → f.day <ℤ row.first → ⊥
    before f a b = omega (arith, ints)

next_day : (row : FlightRow) (day : ℤ) (count : ℕ) → day ≡ row.first +ℤ pos count → (day +ℤ pos 1) ≡ row.first +ℤ pos (suc count)
next_day row day count e = omega (arith, ints)

pub far_named : (row : FlightRow) (day : ℤ) (old new after : List Flight) (flight : Flight) → SoFar row day old new → names row day ≡ true → Dated row flight → flight.day ≡ day → after ≡ new ++ flight ∷ [] → SoFar row (day +ℤ pos 1) old after
far_named row day old new after flight h named dated day_is e = record {
  count = suc h.count;
  day_is = next_day row day h.count h.day_is;
  more = h.more ++ flight ∷ [];
  joined = e ∙ ap (λ xs. xs ++ flight ∷ []) h.joined ∙ append_assoc old h.more (flight ∷ []);
  are = λ f. (forth f, back f);
  many = length-append h.more (flight ∷ []) ∙ ap₂ (λ n b. n + cond b 1 0) h.many (sym (subst (λ d. names row d ≡ true) h.day_is named));
}
  where
    forth : (f : Flight) → IsIn f (h.more ++ flight ∷ []) → Dated row f × (f.day <ℤ (day +ℤ pos 1))
    forth f i = elim (in_either f h.more (flight ∷ []) i) [
      | inl l ↦ let r = (h.are f).0 l in (r.0, later f r.1)
      | inr s ↦ elim s [ inl q ↦ (subst (Dated row) (sym q) dated, now f (ap (λ x. x.day) q ∙ day_is)) | inr z ↦ absurd z ]
    ]
      where
        later : (f : Flight) → f.day <ℤ day → f.day <ℤ (day +ℤ pos 1)
        later f lt = omega (arith, ints)

        now : (f : Flight) → f.day ≡ day → f.day <ℤ (day +ℤ pos 1)
        now f q = omega (arith, ints)

    back : (f : Flight) → Dated row f × (f.day <ℤ (day +ℤ pos 1)) → IsIn f (h.more ++ flight ∷ [])
    back f k = by_lt_z f.day day (λ lt. in_left f h.more (flight ∷ []) ((h.are f).1 (k.0, lt)))
        (λ le. in_right f h.more (flight ∷ []) (inl (dated_one row f flight k.0 dated (day_same f k.1 le ∙ sym day_is))))
      where
        day_same : (f : Flight) → f.day <ℤ (day +ℤ pos 1) → day ≤ℤ f.day → f.day ≡ day
        day_same f lt le = omega (arith, ints)

pub far_unnamed : (row : FlightRow) (day : ℤ) (old new : List Flight) → SoFar row day old new → names row day ≡ false → SoFar row (day +ℤ pos 1) old new
far_unnamed row day old new h unnamed = record {
  count = suc h.count;
  day_is = next_day row day h.count h.day_is;
  more = h.more;
  joined = h.joined;
  are = λ f. (λ i. let r = (h.are f).0 i in (r.0, later f r.1), λ k. (h.are f).1 (k.0, before f k.0 k.1));
  many = h.many ∙ plus ∙ ap (λ b. named_of row h.count + cond b 1 0) (sym (subst (λ d. names row d ≡ false) h.day_is unnamed));
}
  where
    plus : named_of row h.count ≡ named_of row h.count + 0
    plus = omega arith

    later : (f : Flight) → f.day <ℤ day → f.day <ℤ (day +ℤ pos 1)
    later f lt = omega (arith, ints)

    before : (f : Flight) → Dated row f → f.day <ℤ (day +ℤ pos 1) → f.day <ℤ day
    before f d lt = by_lt_z f.day day (λ k. k) (λ le. absurd (clash (subst (λ x. names row x ≡ true) (same f lt le) (dated_names row f d)) unnamed))
      where
        same : (f : Flight) → f.day <ℤ (day +ℤ pos 1) → day ≤ℤ f.day → f.day ≡ day
        same f a b = omega (arith, ints)

        clash : {b : Bool} → b ≡ true → b ≡ false → ⊥
        clash p q = cc

named_rest : (row : FlightRow) (n k : ℕ) → row.last <ℤ (row.first +ℤ pos n) → named_of row (n + k) ≡ named_of row n
named_rest row n zero h = let e : n + 0 ≡ n = omega arith in ap (named_of row) e
named_rest row n (suc k) h = ap (named_of row) (shift n k) ∙ ap (λ b. named_of row (n + k) + cond b 1 0) (not_named (n + k) (omega arith)) ∙ plus (named_of row (n + k)) ∙ named_rest row n k h
  where
    shift : (a b : ℕ) → a + suc b ≡ suc (a + b)
    shift a b = omega arith

    plus : (a : ℕ) → a + 0 ≡ a
    plus a = omega arith

    not_named : (m : ℕ) → n ≤ m → names row (row.first +ℤ pos m) ≡ false
    not_named m le = elim (cases_Bool (names row (row.first +ℤ pos m))) [
      | inl t ↦ absurd (late (names_told row (row.first +ℤ pos m) t).last)
      | inr f ↦ f
    ]
      where
        late : (row.first +ℤ pos m) ≤ℤ row.last → ⊥
        late q = omega (arith, ints)

pub far_all : (row : FlightRow) (day : ℤ) (old new : List Flight) → row.first ≤ℤ row.last → row.last ≤ℤ (row.first +ℤ pos 365) → day ≡ row.last +ℤ pos 1 → SoFar row day old new → AddsRow row old new
far_all row day old new low high end h = record {
  more = h.more;
  joined = h.joined;
  are = λ f. (λ i. ((h.are f).0 i).0, λ d. (h.are f).1 (d, early f d.last));
  many = h.many ∙ sym (ap (named_of row) all ∙ named_rest row h.count (366 - h.count) past);
}
  where
    early : (f : Flight) → f.day ≤ℤ row.last → f.day <ℤ day
    early f le = omega (arith, ints)

    past : row.last <ℤ (row.first +ℤ pos h.count)
    past = omega (arith, ints, h.day_is)

    few : h.count ≤ 366
    few = omega (arith, ints, h.day_is)

    all : 366 ≡ h.count + (366 - h.count)
    all = omega (arith, few)

-- where the flight of a day has the number of one so far, that one is none of the row
pub far_repeated : (row : FlightRow) (day : ℤ) (old new : List Flight) (flight : Flight) → SoFar row day old new → flight.day ≡ day → IsAmong flight new → IsAmong flight old
far_repeated row day old new flight h e (f, i, s) = elim (in_either f old h.more (subst (IsIn f) h.joined i)) [
  | inl l ↦ (f, l, s)
  | inr r ↦ absurd (never (ap (λ x. x.day) s ∙ e) ((h.are f).0 r).1)
]
  where
    never : f.day ≡ day → f.day <ℤ day → ⊥
    never a b = omega (arith, ints)

-- where none before is of the row's name, none so far has the number of the flight of a day
pub far_new : (row : FlightRow) (day : ℤ) (old new : List Flight) (flight : Flight) → SoFar row day old new → HasNone (name_of row) old → Dated row flight → flight.day ≡ day → IsAmong flight new → ⊥
far_new row day old new flight h none dated e among =
    let (f, i, s) = far_repeated row day old new flight h e among in
    none f i (ap name_in s ∙ named_dated row flight dated)

pub far_first : (row : FlightRow) (old : List Flight) → SoFar row (row.first +ℤ pos 0) old old
far_first row old = subst (λ d. SoFar row d old old) same (far_none row old)
  where
    same : row.first ≡ row.first +ℤ pos 0
    same = omega (arith, ints)

pub far_next : (row : FlightRow) (offset : ℕ) (old new : List Flight) → SoFar row ((row.first +ℤ pos offset) +ℤ pos 1) old new → SoFar row (row.first +ℤ pos (offset + 1)) old new
far_next row offset old new h = subst (λ d. SoFar row d old new) same h
  where
    same : ((row.first +ℤ pos offset) +ℤ pos 1) ≡ row.first +ℤ pos (offset + 1)
    same = omega (arith, ints)

pub far_end : (row : FlightRow) (offset days : ℕ) (old new : List Flight) → row.first ≤ℤ row.last → row.last ≤ℤ (row.first +ℤ pos 365) → (row.first +ℤ pos days) ≡ (row.last +ℤ pos 1) → offset ≡ days → SoFar row (row.first +ℤ pos offset) old new → AddsRow row old new
far_end row offset days old new low high e s h = far_all row (row.first +ℤ pos offset) old new low high (ap (λ n. row.first +ℤ pos n) s ∙ e) h
