-- What a draft keeps of the seats, as those of a key are put or dropped.
use Rattle.std.proofs.Common.{◌≡◌, ◌-◌, ℕ, cond, List, Option, Some, None, Result, Ok, Err, IsSome, refl, sym, ap, subst, ◌∙◌, inl, inr}
use Rattle.fare_law.specs.declared.filings.SeatKey.{SeatKey}
use Rattle.fare_law.specs.Book.{same_seat_key}
use Rattle.fare_law.specs.Lists.{HasMany}
use Rattle.fare_book.specs.Counts.{AtMost}
use Rattle.fare_book.specs.Drafts.{SeatsKept}
use Rattle.fare_book.specs.Tables.{LiveSeats}
use Rattle.fare_book.proofs.Counting.{many_same, most_same}
use Rattle.fare_book.proofs.Updates.{at_key, either, few_new, few_old, most_less}
use Rattle.seat_classes.specs.declared.faults.SeatPut.{SeatPut}
use Rattle.seat_classes.specs.declared.faults.SeatPut.TheVariants.{Full}
use Rattle.seat_classes.specs.Held.{Changes, HasNoRoom, HasRow, seats_at}
use Rattle.fare_law.specs.declared.limits.TheConstants.{MOST_SEAT_ROWS}
use Rattle.law_lemmas.proofs.Names.{same_seats_tell}

pub none_some : {A G : Type 0} (o : Option A) → o ≡ None → IsSome o → G
none_some None e s = absurd (cc)
none_some (Some x) e s = absurd (cc)

module _ (f g : LiveSeats) (held new : List (SeatKey × List ℕ)) (k : SeatKey) (kept : SeatsKept f held) where
  are : (w : Option (List ℕ)) → Changes held new k w → ((q : SeatKey) → g q ≡ cond (same_seat_key q k) w (f q)) → (q : SeatKey) → seats_at new q ≡ g q
  are w changes step q = changes q ∙ ap (cond (same_seat_key q k) w) (kept.seats_are q) ∙ sym (step q)

  pub rows_live : (n : ℕ) → HasMany n (λ q. IsSome (f q)) → HasMany n (HasRow held)
  rows_live n many = many_same (λ q. IsSome (f q)) (HasRow held) (λ q s. subst IsSome (sym (kept.seats_are q)) s) n many

  pub live_rows : (n : ℕ) → HasMany n (HasRow held) → HasMany n (λ q. IsSome (f q))
  live_rows n many = many_same (HasRow held) (λ q. IsSome (f q)) (λ q s. subst IsSome (kept.seats_are q) s) n many

  pub seats_put : (v : List ℕ) → Changes held new k (Some v) → ((q : SeatKey) → g q ≡ cond (same_seat_key q k) (Some v) (f q)) → (HasNoRoom held k → ⊥) → SeatsKept g new
  seats_put v changes step room = record { seats_are = are (Some v) changes step; few = by (f k) refl }
    where
      by : (o : Option (List ℕ)) → f k ≡ o → AtMost MOST_SEAT_ROWS (λ q. IsSome (g q))
      by None e = few_new same_seat_key same_seats_tell f g k (Some v) step (MOST_SEAT_ROWS - 1) (most_less (λ q. IsSome (f q)) (MOST_SEAT_ROWS - 1) kept.few (λ many. room (kept.seats_are k ∙ e, rows_live MOST_SEAT_ROWS many)))
      by (Some o) e = few_old same_seat_key same_seats_tell f g k (Some v) step o MOST_SEAT_ROWS e kept.few

  pub seats_dropped : Changes held new k None → ((q : SeatKey) → g q ≡ cond (same_seat_key q k) None (f q)) → SeatsKept g new
  seats_dropped changes step = record { seats_are = are None changes step; few = most_same (λ q. IsSome (f q)) (λ q. IsSome (g q)) was MOST_SEAT_ROWS kept.few }
    where
      was : (q : SeatKey) → IsSome (g q) → IsSome (f q)
      was q s = elim (either same_seat_key same_seats_tell f g k None step q) [
        | inl e ↦ none_some (g q) (ap g e ∙ at_key same_seat_key same_seats_tell f g k None step) s
        | inr e ↦ subst IsSome e s
      ]

-- a put that is taken isn't refused
pub no_full : (u : Unit {0}) → ◌≡◌ {A = Result (Unit {0}) SeatPut} (Ok u) (Err Full) → ⊥
no_full u e = cc
