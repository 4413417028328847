-- The moves on a path: those filed forward and those in reverse, and no others. This file is given on to the crates above.
use Rattle.std.proofs.Common.{◌≡◌, ◌⊎◌, ℕ, Bool, true, false, List, [], slice_get, Option, Some, refl, ap, subst, ◌∙◌, inl, inr}
use Rattle.fare_law.specs.declared.flights.Flight.{Flight}
use Rattle.fare_law.specs.declared.moves.Role.{Role}
use Rattle.fare_law.specs.declared.moves.Role.TheVariants.{Alone, Opens, GoesOn, Closes}
use Rattle.fare_law.specs.declared.requests.Request.{Request}
use Rattle.fare_law.specs.Book.{Book}
use Rattle.fare_law.specs.Parts.{Numbers}
use Rattle.flight_paths.specs.declared.positions.Path.{Path}
use Rattle.open_unit.specs.declared.units.OpenUnit.{OpenUnit}
use Rattle.residual_keys.specs.declared.residual.Chosen.{Chosen}
use Rattle.residual_keys.specs.Gathered.{Adds, IsChosenFiled, IsChosenOn, IsPathOf}
use Rattle.residual_keys.specs.Residuals.{State, UnitStep, closes}
use Rattle.residual_keys.proofs.Adding.{adds_like, adds_then}
use Rattle.residual_keys.proofs.Runs.{flies_numbers}
use Rattle.law_lemmas.proofs.Tests.{true_false}

module _ (b : Book) (q : Request) (r : State) (ns : List ℕ) where
  -- where no unit is open, none is closed
  none_closes : r.units ≡ [] → (c : Chosen) → IsChosenOn b q r ns c → closes c.mv.role ≡ false
  none_closes e c h = go c.mv.role c.mv.slot r.units e (h.0).units (h.0).moves.units
    where
      go : (role : Role) (slot : ℕ) (us : List OpenUnit) → us ≡ [] → (us' : List OpenUnit) → UnitStep role slot us h.0.piece us' → closes role ≡ false
      go Alone slot us e us' k = refl
      go Opens slot us e us' k = refl
      go GoesOn slot us e us' k = refl
      go Closes slot us e us' k = absurd (nothing slot k.0 (subst (λ x. slice_get x slot ≡ Some k.0) e k.1))
        where
          nothing : (s : ℕ) (u : OpenUnit) → ◌≡◌ {A = Option OpenUnit} (slice_get [] s) (Some u) → ⊥
          nothing s u x = cc

  pub forward_alone : r.units ≡ [] → (old new : List Chosen) → Adds (IsChosenFiled b q r ns false) old new → Adds (IsChosenOn b q r ns) old new
  forward_alone e old new h = adds_like (IsChosenFiled b q r ns false) (IsChosenOn b q r ns) old new h (λ c. (λ k. k.0, λ k. (k, none_closes e c k)))

  pub both_ways : (a m c : List Chosen) → Adds (IsChosenFiled b q r ns false) a m → Adds (IsChosenFiled b q r ns true) m c → Adds (IsChosenOn b q r ns) a c
  both_ways a m c h k = adds_like (λ x. IsChosenFiled b q r ns false x ⊎ IsChosenFiled b q r ns true x) (IsChosenOn b q r ns) a c
      (adds_then (IsChosenFiled b q r ns false) (IsChosenFiled b q r ns true) a m c h k (λ x y i j e. true_false (ap (λ z. closes z.role) e ∙ j.1) i.1)) (λ x. (forth x, back x))
    where
      forth : (x : Chosen) → IsChosenFiled b q r ns false x ⊎ IsChosenFiled b q r ns true x → IsChosenOn b q r ns x
      forth x (inl i) = i.0
      forth x (inr i) = i.0

      back : (x : Chosen) → IsChosenOn b q r ns x → IsChosenFiled b q r ns false x ⊎ IsChosenFiled b q r ns true x
      back x i = of (closes x.mv.role) refl
        where
          of : (t : Bool) → closes x.mv.role ≡ t → IsChosenFiled b q r ns false x ⊎ IsChosenFiled b q r ns true x
          of true e = inr (i, e)
          of false e = inl (i, e)

pub path_numbers : (b : Book) (q : Request) (r : State) (path : Path) (fs : List Flight) → IsPathOf b q r path fs → Numbers b path.flights fs
path_numbers b q r path fs h = flies_numbers b q.slices (Some r.at) path.after path.flights fs h.flies
