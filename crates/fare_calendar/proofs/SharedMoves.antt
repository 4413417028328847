-- Requests that share their moves: for `least_price`.
use Rattle.std.proofs.Common.{◌≡◌, ◌↔◌, ◌∙◌, ℕ, zero, suc, ℤ, ◌⊎◌, ◌<◌, List, [], ◌∷◌, slice_get, Option, Some, None, refl, sym, ap, subst, inl, inr, ⊎_elim, arith}
use Rattle.fare_calendar.specs.Sharing.{AreAlike, IsFirst, IsPlaced, SharesMoves}
use Rattle.fare_law.specs.Book.{Book}
use Rattle.fare_law.specs.Journey.{InWindow}
use Rattle.fare_law.specs.Parts.{ComponentLawful, StandsFor}
use Rattle.fare_law.specs.declared.flights.Flight.{Flight}
use Rattle.fare_law.specs.declared.moves.Move.{Move}
use Rattle.fare_law.specs.declared.requests.Request.{Request}
use Rattle.fare_law.specs.declared.requests.Slice.{Slice}
use Rattle.fare_law.specs.declared.tickets.Piece.{Piece}
use Rattle.flight_paths.specs.declared.positions.Position.{Position}
use Rattle.open_unit.specs.declared.units.OpenUnit.{OpenUnit}
use Rattle.residual_keys.specs.Residuals.{Moves, State}
use Rattle.residual_keys.specs.Steps.{IsChosen, left_at}
use Rattle.residual_keys.specs.declared.parts.TicketPart.{TicketPart}
use Rattle.residual_keys.specs.declared.residual.Chosen.{Chosen}
use Rattle.residual_keys.specs.declared.residual.Next.{Next}
use Rattle.residual_keys.specs.declared.residual.Next.TheVariants.{At, Done}
use Rattle.residual_keys.proofs.Short.{move_goes_on}
use Rattle.law_lemmas.proofs.Options.{some_same}
use Rattle.fare_calendar.proofs.SharedPaths.{Beyond, Windowed, alike_back, beyond_windowed, path_as}

moves_as : (b : Book) (q r : Request) (x : State) (m : Move) (fs : List Flight) (p : Piece) (next : Option Position) (us : List OpenUnit) → q.sale ≡ r.sale → q.party ≡ r.party → AreAlike q.slices r.slices
    → Windowed b q.slices r.slices x.at → Moves b q x m fs p next us → Moves b r x m fs p next us
moves_as b q r x m fs p next us sale party a w h = record {
  path = path_as b q.slices r.slices x.at m.flights fs next a w h.path;
  stands = subst (λ (day : ℤ). StandsFor b day p.fare.key fs p) sale h.stands;
  carrier = h.carrier;
  basis = h.basis;
  lawful = subst (λ (n : ℕ). ComponentLawful b n fs p) party h.lawful;
  units = h.units;
  part = h.part;
  done = h.done;
}

chosen_as : (b : Book) (q r : Request) (x : State) (c : Chosen) → q.sale ≡ r.sale → q.party ≡ r.party → AreAlike q.slices r.slices → Windowed b q.slices r.slices x.at → IsChosen b q x c → IsChosen b r x c
chosen_as b q r x c sale party a w h = record {
  flights = h.flights;
  piece = h.piece;
  after = h.after;
  units = h.units;
  moves = moves_as b q r x c.mv h.flights h.piece h.after h.units sale party a w h.moves;
  costs = h.costs;
  left = h.left;
}

zero_or_more : (n : ℕ) → (n ≡ 0) ⊎ (n ≡ 0 → ⊥)
zero_or_more zero = inl refl
zero_or_more (suc n) = inr (λ e. absurd (omega (arith, e)))

-- the first position, or one behind it
placed : (b : Book) (r : Request) (at : Position) → IsPlaced b r at → ((at.slice ≡ 0) × IsFirst b r at) ⊎ Beyond at
placed b r at h = ⊎_elim (λ z. ⊎_elim (λ l. inl (z, h z l)) (λ l. inr (λ _ e. l e)) (zero_or_more at.leg)) (λ z. inr (λ e _. z e)) (zero_or_more at.slice)

here : (b : Book) (q r : Request) (at : Position) → SharesMoves b q r → IsPlaced b r at → Windowed b q.slices r.slices at
here b q r at h is = ⊎_elim
    (λ first s t n f es et k z.
    let e = first.0 in
    (h.windows at s t first.1 (ap (λ (i : ℕ). slice_get q.slices i) (sym e) ∙ es) (ap (λ (i : ℕ). slice_get r.slices i) (sym e) ∙ et) n f k.low k.high k.known k.departs).0 (k.window z))
    (λ beyond. beyond_windowed b q.slices r.slices at h.like.slices beyond) (placed b r at is)

back : (b : Book) (q r : Request) (at : Position) → SharesMoves b q r → IsPlaced b r at → Windowed b r.slices q.slices at
back b q r at h is = ⊎_elim
    (λ first s t n f es et k z.
    let e = first.0 in
    (h.windows at t s first.1 (ap (λ (i : ℕ). slice_get q.slices i) (sym e) ∙ et) (ap (λ (i : ℕ). slice_get r.slices i) (sym e) ∙ es) n f k.low k.high k.known k.departs).1 (k.window z))
    (λ beyond. beyond_windowed b r.slices q.slices at (alike_back q.slices r.slices h.like.slices) beyond) (placed b r at is)

pub chosen_shared : (b : Book) (q r : Request) → SharesMoves b q r → (x : State) → IsPlaced b r x.at → (c : Chosen) → IsChosen b q x c ↔ IsChosen b r x c
chosen_shared b q r h x is c = (
  chosen_as b q r x c (sym h.like.sale) (sym h.like.party) h.like.slices (here b q r x.at h is),
  chosen_as b r q x c h.like.sale h.like.party (alike_back q.slices r.slices h.like.slices) (back b q r x.at h is),
)

left_beyond : (b : Book) (q : Request) (x y : State) (m : Move) (fs : List Flight) (p : Piece) (after : Option Position) (us : List OpenUnit) (part : TicketPart) → Moves b q x m fs p after us → At y ≡ left_at after us part → Beyond y.at
left_beyond b q x y m fs p None us part h e = absurd (cc)
left_beyond b q x y m fs p (Some at) us part h e =
    let same : y ≡ record { at = at; units = us; part = part } = cc in
    let slice : y.at.slice ≡ at.slice = ap (λ z. z.at.slice) same in
    let leg : y.at.leg ≡ at.leg = ap (λ z. z.at.leg) same in
    λ z l. ⊎_elim (λ f. absurd (omega (arith, f, slice, z))) (λ f. let g = f.1 in absurd (omega (arith, g, leg, l))) (move_goes_on b q x m fs p at us h).0

pub left_placed : (b : Book) (q r : Request) (x y : State) (m : Move) (price : ℕ) → IsChosen b q x (record { mv = m; price = price; next = At y }) → IsPlaced b r y.at
left_placed b q r x y m price c z l = absurd (left_beyond b q x y m c.flights c.piece c.after c.units _ c.moves c.left z l)

-- a request shares its moves with itself
pub shares_self : (b : Book) (q : Request) → SharesMoves b q q
shares_self b q = record {
  like = record { sale = refl; party = refl; slices = alike q.slices };
  windows = λ at s t first es et n f low high known from. let same = some_same s t (sym es ∙ et) in (λ w. subst (λ (x : Slice). InWindow x f) same w, λ w. subst (λ (x : Slice). InWindow x f) (sym same) w);
}
  where
    alike : (ss : List Slice) → AreAlike ss ss
    alike [] = tt
    alike (s ∷ ss) = (refl, refl, refl)
