-- The derived tests of slices and of moves tell whether they are equal.
use Rattle.std.proofs.Common.{◌≡◌, Decides, refl, ap}
use Rattle.std.specs.Cmp.Lexicographic.{bytes_decides}
use Rattle.std.proofs.lemmas.Bool.Decides.{Decides-like, Decides-and, Decides-eqb}
use Rattle.fare_law.specs.contracts.moves.MovePartialEq.TheImpl as move
use Rattle.fare_law.specs.contracts.moves.RolePartialEq.TheImpl as role
use Rattle.fare_law.specs.contracts.names.BasisPartialEq.TheImpl as basis
use Rattle.fare_law.specs.declared.moves.Move.{Move}
use Rattle.fare_law.specs.declared.moves.Role.{Role}
use Rattle.fare_law.specs.declared.moves.Role.TheVariants.{Alone, Opens, GoesOn, Closes}
use Rattle.fare_law.specs.declared.names.Basis.{Basis}
use Rattle.fare_law.proofs.SameNames.{carriers_tell}

bases_tell : (a b : Basis) → Decides (basis.ghosts.eq a b) (a ≡ b)
bases_tell a b = Decides-like _ (λ (e : a.0 ≡ b.0). whole e) (λ e. ap (λ x. x.0) e) (bytes_decides a.0 b.0)
  where
    whole : a.0 ≡ b.0 → a ≡ b
    whole e = λ i. record { 0 = e i }

roles_tell : (a b : Role) → Decides (role.ghosts.eq a b) (a ≡ b)
roles_tell Alone Alone = (λ h. refl, λ h. refl)
roles_tell Alone Opens = (λ h. absurd (cc), λ h. absurd (cc))
roles_tell Alone GoesOn = (λ h. absurd (cc), λ h. absurd (cc))
roles_tell Alone Closes = (λ h. absurd (cc), λ h. absurd (cc))
roles_tell Opens Alone = (λ h. absurd (cc), λ h. absurd (cc))
roles_tell Opens Opens = (λ h. refl, λ h. refl)
roles_tell Opens GoesOn = (λ h. absurd (cc), λ h. absurd (cc))
roles_tell Opens Closes = (λ h. absurd (cc), λ h. absurd (cc))
roles_tell GoesOn Alone = (λ h. absurd (cc), λ h. absurd (cc))
roles_tell GoesOn Opens = (λ h. absurd (cc), λ h. absurd (cc))
roles_tell GoesOn GoesOn = (λ h. refl, λ h. refl)
roles_tell GoesOn Closes = (λ h. absurd (cc), λ h. absurd (cc))
roles_tell Closes Alone = (λ h. absurd (cc), λ h. absurd (cc))
roles_tell Closes Opens = (λ h. absurd (cc), λ h. absurd (cc))
roles_tell Closes GoesOn = (λ h. absurd (cc), λ h. absurd (cc))
roles_tell Closes Closes = (λ h. refl, λ h. refl)

pub moves_tell : (a b : Move) → Decides (move.ghosts.eq a b) (a ≡ b)
moves_tell a b =
    Decides-like _ (λ e. whole e.0 e.1.0 e.1.1.0 e.1.1.1.0 e.1.1.1.1) (λ e. (ap (λ x. x.flights) e, (ap (λ x. x.carrier) e, (ap (λ x. x.basis) e, (ap (λ x. x.role) e, ap (λ x. x.slot) e)))))
    (Decides-and _ _ (bytes_decides a.flights b.flights) (Decides-and _ _ (carriers_tell a.carrier b.carrier) (Decides-and _ _ (bases_tell a.basis b.basis) (Decides-and _ _ (roles_tell a.role b.role) (Decides-eqb a.slot b.slot)))))
  where
    whole : a.flights ≡ b.flights → a.carrier ≡ b.carrier → a.basis ≡ b.basis → a.role ≡ b.role → a.slot ≡ b.slot → a ≡ b
    whole f c s r n = λ i. record { flights = f i; carrier = c i; basis = s i; role = r i; slot = n i }
