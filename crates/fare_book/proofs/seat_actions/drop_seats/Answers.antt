use Rattle.std.proofs.Common.{◌≡◌, inl, inr, refl, sym, ap, subst}
use Rattle.std.specs.Result.{is_ok}
use Rattle.fare_law.specs.declared.filings.Action.TheVariants.{DropSeats}
use Rattle.fare_law.specs.Book.{Book, live_fare, live_rule}
use Rattle.fare_book.specs.Drafts.{ActsOnSeats, Follows, drafted_seats}
use Rattle.fare_book.proofs.Assembled.{seats_act}
use Rattle.fare_book.proofs.Following.{fares_stay, rules_stay}
use Rattle.fare_book.proofs.seat_actions.drop_seats.Goals as goal

pub returns : goal.returns
returns c =
    let old = c.args.draft.now in
    let action = DropSeats c.args.key.now in
    let stay : (b next : Book) → Follows b action next → (live_fare next ≡ live_fare b) × (live_rule next ≡ live_rule b) = λ b next f. (fares_stay b next action (λ k. refl) f, rules_stay b next action (λ k n. refl) f) in
    let new = c.make_mut.follows.lender c.drop_from.new.held in
    let same : drafted_seats old ≡ c.in_ok-held.held.now = elim c.in_ok-held.ensures.value [ inl e ↦ sym e | inr e ↦ sym e ] in
    seats_act action old c.in_ok-held.held.now new c.drop_from.result stay same
    (subst (λ held. ActsOnSeats action c.in_ok-held.held.now held c.drop_from.result) (sym (c.make_mut.follows.holds c.drop_from.new.held (ap is_ok c.in_ok-held.was))) c.drop_from.ensures)
