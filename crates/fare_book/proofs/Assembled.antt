-- A draft after an action, by the parts that the action leaves alone.
use Rattle.std.proofs.Common.{◌≡◌, ℕ, List, Global, Result, Ok, Err, sym, subst}
use Rattle.std.specs.Arc.{arc_value}
use Rattle.std.specs.declared.sync.Arc.{Arc}
use Rattle.fare_law.specs.declared.filings.Action.{Action}
use Rattle.fare_law.specs.declared.filings.SeatKey.{SeatKey}
use Rattle.fare_law.specs.Book.{Book, live_fare, live_rule, live_seats}
use Rattle.fare_book.specs.Drafts.{Acts, ActsOnSeats, Drafts, Follows, Keeping, SeatsKept, drafted_seats}
use Rattle.fare_book.specs.declared.draft.Draft.{Draft}
use Rattle.fare_book.specs.declared.draft.Stop.{Stop}
use Rattle.fare_book.specs.declared.draft.Stop.TheVariants.{Fault, Mem}

module _ (b next : Book) (new : Draft) where
  pub fares_alone : live_rule next ≡ live_rule b → live_seats next ≡ live_seats b → Keeping (live_fare next) (live_rule b) (live_seats b) new → Drafts next new
  fares_alone r s k = subst (λ x. Keeping (live_fare next) x (live_seats next) new) (sym r) (subst (λ x. Keeping (live_fare next) (live_rule b) x new) (sym s) k)

  pub rules_alone : live_fare next ≡ live_fare b → live_seats next ≡ live_seats b → Keeping (live_fare b) (live_rule next) (live_seats b) new → Drafts next new
  rules_alone f s k = subst (λ x. Keeping x (live_rule next) (live_seats next) new) (sym f) (subst (λ x. Keeping (live_fare b) (live_rule next) x new) (sym s) k)

  pub seats_alone : live_fare next ≡ live_fare b → live_rule next ≡ live_rule b → Keeping (live_fare b) (live_rule b) (live_seats next) new → Drafts next new
  seats_alone f r k = subst (λ x. Keeping x (live_rule next) (live_seats next) new) (sym f) (subst (λ x. Keeping (live_fare b) x (live_seats next) new) (sym r) k)

-- an action on seats leaves all else alone
pub seats_act : (action : Action) (old : Draft) (held : List (SeatKey × List ℕ)) (new : Arc (List (SeatKey × List ℕ)) Global) (r : Result (Unit {0}) Stop)
    → ((b next : Book) → Follows b action next → (live_fare next ≡ live_fare b) × (live_rule next ≡ live_rule b)) → drafted_seats old ≡ held → ActsOnSeats action held (arc_value new) r → Acts action old (record old { seats = new }) r
seats_act action old held new (Ok u) stay is acts = λ b next d f.
    let same = stay b next f in
    let done = acts b next (subst (SeatsKept (live_seats b)) is d.seats_kept) f in
    (seats_alone b next (record old { seats = new }) same.0 same.1 (record { fares_kept = d.fares_kept; rules_kept = d.rules_kept; seats_kept = done.0; stand = d.stand }), done.1)
seats_act action old held new (Err (Fault why)) stay is acts = λ b d. acts b (subst (SeatsKept (live_seats b)) is d.seats_kept)
seats_act action old held new (Err Mem) stay is acts = tt
