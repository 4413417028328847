-- What a component leaves depends on its fare through carrier, rule number and kind alone. Given on to the crates above.
use Rattle.std.proofs.Common.{◌≡◌, ◌↔◌, ℕ, List, Option}
use Rattle.fare_law.specs.declared.fares.Fare.{Fare}
use Rattle.fare_law.specs.declared.moves.Role.{Role}
use Rattle.fare_law.specs.declared.moves.Role.TheVariants.{Alone, Opens, GoesOn, Closes}
use Rattle.fare_law.specs.declared.tickets.Piece.{Piece}
use Rattle.flight_paths.specs.declared.positions.Position.{Position}
use Rattle.open_unit.specs.declared.units.OpenUnit.{OpenUnit}
use Rattle.open_unit.proofs.OtherFares.{alone, closes, dressed, goes_on, opens}
use Rattle.residual_keys.specs.declared.residual.Next.{Next}
use Rattle.residual_keys.specs.Residuals.{State, UnitStep}
use Rattle.residual_keys.specs.Steps.{Leaves}

-- a fare of the piece's carrier, rule number and kind takes the place of its fare
pub dressed_fare : (p : Piece) (f : Fare) → p.fare.key.carrier ≡ f.key.carrier → p.fare.rule ≡ f.rule → p.fare.kind ≡ f.kind → (dressed p f).fare ≡ f
dressed_fare p f carrier number kind = λ i. record { key = record { carrier = carrier i; from = f.key.from; to = f.key.to; basis = f.key.basis }; class = f.class; kind = kind i; amount = f.amount; rule = number i }

-- a unit's step reads of the piece what another fare leaves as it is
step : (p : Piece) (f : Fare) (role : Role) (slot : ℕ) (us us' : List OpenUnit) → UnitStep role slot us p us' → UnitStep role slot us (dressed p f) us'
step p f Alone slot us us' h = (h.0, alone p f h.1, h.2)
step p f Opens slot us us' h = (h.0, opens p f h.1, h.2, h.3)
step p f GoesOn slot us us' h = (h.0, h.1, goes_on p f h.0 h.2, h.3)
step p f Closes slot us us' h = (h.0, h.1, (h.2.0, closes p f h.0 h.2.0 h.2.1), h.3)

leaves : (p : Piece) (f : Fare) (r : State) (after : Option Position) (role : Role) (slot : ℕ) (next : Next) → Leaves r after p role slot next → Leaves r after (dressed p f) role slot next
leaves p f r after role slot next l = record { units = l.units; step = step p f role slot r.units l.units l.step; part = l.part; done = l.done; left = l.left }

-- so the piece leaves what it leaves with another fare of its carrier, rule number and kind
pub leaves_same : (p : Piece) (f : Fare) (r : State) (after : Option Position) (role : Role) (slot : ℕ) (next : Next) → Leaves r after p role slot next ↔ Leaves r after (dressed p f) role slot next
leaves_same p f r after role slot next = (leaves p f r after role slot next, leaves (dressed p f) p.fare r after role slot next)
