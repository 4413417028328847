-- A move that leaves a residual goes on to it, and no move that ends the journey goes on.
use Rattle.std.proofs.Common.{◌≡◌, ℕ, List, Option, Some, None, IfSome, IfNone, refl, ap}
use Rattle.certificate.specs.BoundCheck.{state_after}
use Rattle.certificate_check.specs.Fronts.{Priced}
use Rattle.fare_law.specs.declared.flights.Flight.{Flight}
use Rattle.fare_law.specs.declared.moves.Move.{Move}
use Rattle.fare_law.specs.declared.requests.Request.{Request}
use Rattle.fare_law.specs.declared.tickets.Piece.{Piece}
use Rattle.fare_law.specs.Book.{Book}
use Rattle.fare_law.specs.Parts.{price_of}
use Rattle.flight_paths.specs.declared.positions.Position.{Position}
use Rattle.open_unit.specs.declared.units.OpenUnit.{OpenUnit}
use Rattle.residual_keys.specs.declared.residual.Next.{Next}
use Rattle.residual_keys.specs.declared.residual.Next.TheVariants.{At, Done}
use Rattle.residual_keys.specs.Residuals.{Moves, State, begins, part_with}
use Rattle.residual_keys.specs.Steps.{StepsTo, left_at}
use Rattle.search_steps.specs.Leads.{state_of}
use Rattle.residual_keys.proofs.OneNext.{moves_one}
use Rattle.law_lemmas.proofs.Options.{some_same}
use Rattle.search_steps.proofs.Bridge.{not_at, not_done, same_at}

-- The move leads from the one state to the other, at this price.
pub record GoesOn (b : Book) (q : Request) (x : State) (m : Move) (y : State) (price : ℕ) : Type 0 where
  pub flights : List Flight
  pub piece : Piece
  pub at : Position
  pub units : List OpenUnit
  pub moves : Moves b q x m flights piece (Some at) units
  pub left : y ≡ state_after x m piece at units
  pub costs : price ≡ price_of flights piece

no_price : (m : ℕ) → None ≡ Some m → ⊥
no_price m e = cc

pub goes_to : (b : Book) (q : Request) (x : State) (m : Move) (y : State) (price : ℕ) → StepsTo b q x m (At y) → Priced b m (Some price) → GoesOn b q x m y price
goes_to b q x m y price (cost, h) told = by h.after h.moves h.left
  where
    by : (after : Option Position) → Moves b q x m h.flights h.piece after h.units → At y ≡ left_at after h.units (part_with x.part (begins m.role) h.piece) → GoesOn b q x m y price
    by None mv e = absurd (not_done y e)
    by (Some at) mv e = record {
      flights = h.flights;
      piece = h.piece;
      at = at;
      units = h.units;
      moves = mv;
      left = same_at y _ e;
      costs = some_same price (price_of h.flights h.piece) (told q x h.flights h.piece (Some at) h.units mv);
    }

pub steps_on : (b : Book) (q : Request) (x : State) (m : Move) (y : State) (price : ℕ) → GoesOn b q x m y price → StepsTo b q x m (At y)
steps_on b q x m y price g = (price_of g.flights g.piece, record { flights = g.flights; piece = g.piece; after = Some g.at; units = g.units; moves = g.moves; costs = refl; left = ap At g.left })

pub has_price : (b : Book) (q : Request) (x : State) (m : Move) (y : State) (price : ℕ) → GoesOn b q x m y price → Priced b m None → ⊥
has_price b q x m y price g told = no_price _ (told q x g.flights g.piece (Some g.at) g.units g.moves)

ends_not_on : (b : Book) (q : Request) (x : State) (m : Move) (y : State) → StepsTo b q x m Done → StepsTo b q x m (At y) → ⊥
ends_not_on b q x m y (cost, h) (price, g) = by h.after g.after h.moves g.moves h.left g.left
  where
    by : (after further : Option Position) → Moves b q x m h.flights h.piece after h.units → Moves b q x m g.flights g.piece further g.units → Done ≡ left_at after h.units (part_with x.part (begins m.role) h.piece)
        → At y ≡ left_at further g.units (part_with x.part (begins m.role) g.piece) → ⊥
    by after None mv nv e f = not_done y f
    by (Some at) (Some to) mv nv e f = not_at _ e
    by None (Some to) mv nv e f = let o = moves_one b q x m h.flights g.flights h.piece g.piece None (Some to) h.units g.units mv nv in let n = o.2 in cc

-- what is told of the residual that a step leaves, if it leaves one
pub on_some : (b : Book) (q : Request) (x : State) (m : Move) (next : Next) → StepsTo b q x m next → IfSome (state_of next) (λ after. StepsTo b q x m (At after))
on_some b q x m Done h = tt
on_some b q x m (At y) h = h

pub on_none : (b : Book) (q : Request) (x : State) (m : Move) (next : Next) → StepsTo b q x m next → IfNone (state_of next) ((after : State) → StepsTo b q x m (At after) → ⊥)
on_none b q x m Done h = λ after g. ends_not_on b q x m after h g
on_none b q x m (At y) h = tt

pub none_told : {X : Type 0} (o : Option X) (P : Type 0) → P → IfNone o P
none_told None P p = p
none_told (Some x) P p = tt
