-- A row's bound is right exactly where each outcome of the row allows it.
use Rattle.std.proofs.Common.{◌≡◌, ◌↔◌, ◌∙◌, ℕ, ◌+◌, ◌≤◌, Bool, IsTrue, List, Option, Some, None, sym, subst, arith}
use Rattle.certificate.specs.BoundCheck.{BoundRight, BoundWithin}
use Rattle.certificate.specs.declared.parts.CertRow.{CertRow}
use Rattle.certificate_check.specs.Bounds.{Allows, IsAllowed}
use Rattle.fare_law.specs.declared.flights.Flight.{Flight}
use Rattle.fare_law.specs.declared.moves.Move.{Move}
use Rattle.fare_law.specs.declared.requests.Request.{Request}
use Rattle.fare_law.specs.declared.tickets.Piece.{Piece}
use Rattle.fare_law.specs.Book.{Book}
use Rattle.fare_law.specs.Lists.{Each}
use Rattle.fare_law.specs.Parts.{price_of}
use Rattle.flight_paths.specs.declared.positions.Position.{Position}
use Rattle.graph_walk.specs.declared.outcome.Outcome.{Outcome}
use Rattle.graph_walk.specs.Steps.{AreOutcomes, outcomes_of}
use Rattle.open_unit.specs.declared.units.OpenUnit.{OpenUnit}
use Rattle.residual_keys.specs.Residuals.{Moves, State, begins, part_with}
use Rattle.residual_keys.specs.Steps.{left_at}
use Rattle.residual_table.specs.declared.key.ResidualKey.{ResidualKey}
use Rattle.search_steps.specs.Leads.{leads_of, next_of}
use Rattle.search_steps.proofs.Bridge.{move_ends, move_on, not_at, not_done, same_at}
use Rattle.law_lemmas.proofs.EachOne.{each_member, each_weaker}

within_more : (row : CertRow) (price more : ℕ) → price ≤ more → BoundWithin row price → BoundWithin row more
within_more row price more le h = let l = h.2 in (h.0, h.1, omega (arith, l, le))

allows_more : (rows : List CertRow) (row : CertRow) (left : Option State) (price more : ℕ) → price ≤ more → Allows rows row left price → Allows rows row left more
allows_more rows row None price more le h = within_more row price more le h
allows_more rows row (Some x) price more le h = (h.0, h.1, h.2, λ further f. within_more row (price + further) (more + further) (omega (arith, le)) (h.3 further f))

module _ (b : Book) (q : Request) (rows : List CertRow) (row : CertRow) where
  pub allowed_right : (before : List CertRow) → IsAllowed b q rows row → BoundRight b q rows before row
  allowed_right before h = (
    λ m fs p mv. h None (price_of fs p) (move_ends b q row.residual m fs p mv),
    λ m fs p at us mv. h (Some (record { at = at; units = us; part = part_with row.residual.part (begins m.role) p })) (price_of fs p) (move_on b q row.residual m fs p at us mv),
  )

  pub right_allowed : (before : List CertRow) → BoundRight b q rows before row → IsAllowed b q rows row
  right_allowed before h left price l = by left l.0 l.1.flights l.1.piece l.1.after l.1.units l.1.moves l.1.costs l.1.left
    where
      by : (left : Option State) (m : Move) (fs : List Flight) (p : Piece) (after : Option Position) (us : List OpenUnit) → Moves b q row.residual m fs p after us → price ≡ price_of fs p
          → next_of left ≡ left_at after us (part_with row.residual.part (begins m.role) p) → Allows rows row left price
      by None m fs p None us mv c e = subst (BoundWithin row) (sym c) (h.0 m fs p (subst (λ v. Moves b q row.residual m fs p None v) mv.done mv))
      by None m fs p (Some at) us mv c e = absurd (not_at _ e)
      by (Some y) m fs p None us mv c e = absurd (not_done y e)
      by (Some y) m fs p (Some at) us mv c e =
          let s = h.1 m fs p at us mv in
          (s.0, s.1, s.2 ∙ sym (same_at y _ e), λ further f. subst (λ z. BoundWithin row (z + further)) (sym c) (s.3 further f))

  -- each outcome allows it exactly where each move does
  pub each_allowed : (os : List (Outcome State)) → AreOutcomes (leads_of b q) row.residual os → Each (λ o. Allows rows row o.next o.price) os → IsAllowed b q rows row
  each_allowed os are h left price l =
      let c = are.covered left price l in
      allows_more rows row left c.0.price price c.3 (subst (λ n. Allows rows row n c.0.price) c.2 (each_member (λ o. Allows rows row o.next o.price) c.0 os h c.1))

  pub allowed_each : (os : List (Outcome State)) → AreOutcomes (leads_of b q) row.residual os → IsAllowed b q rows row → Each (λ o. Allows rows row o.next o.price) os
  allowed_each os are h = each_weaker (λ o. leads_of b q row.residual o.next o.price) (λ o. Allows rows row o.next o.price) (λ o l. h o.next o.price l) os are.attained

-- what the outcomes of a row's key tell
pub allowed_told : (state : ResidualKey → State) (b c : Book) (q r : Request) (rows : List CertRow) (row : CertRow) (x : State) (os ps : List (Outcome ResidualKey)) (result : Bool) → c ≡ b → r ≡ q → x ≡ row.residual → ps ≡ os
    → AreOutcomes (leads_of c r) x (outcomes_of state os) → IsTrue result ↔ Each (λ o. Allows rows row o.next o.price) (outcomes_of state ps) → IsTrue result ↔ IsAllowed b q rows row
allowed_told state b c q r rows row x os ps result eb eq ex eo are told =
    let here = subst (λ z. AreOutcomes (leads_of b q) z (outcomes_of state os)) ex (subst (λ z. AreOutcomes (leads_of b z) x (outcomes_of state os)) eq (subst (λ z. AreOutcomes (leads_of z r) x (outcomes_of state os)) eb are)) in (
      λ t. each_allowed b q rows row (outcomes_of state os) here (subst (λ z. Each (λ o. Allows rows row o.next o.price) (outcomes_of state z)) eo (told.0 t)),
      λ a. told.1 (subst (λ z. Each (λ o. Allows rows row o.next o.price) (outcomes_of state z)) (sym eo) (allowed_each b q rows row (outcomes_of state os) here a)),
    )

pub right_told : (b c : Book) (q r : Request) (rows before : List CertRow) (row : CertRow) (result : Bool) → c ≡ b → r ≡ q → IsTrue result ↔ IsAllowed c r rows row → IsTrue result ↔ BoundRight b q rows before row
right_told b c q r rows before row result eb eq told =
    let here = subst (λ z. IsTrue result ↔ IsAllowed b z rows row) eq (subst (λ z. IsTrue result ↔ IsAllowed z r rows row) eb told) in
    (λ t. allowed_right b q rows row before (here.0 t), λ h. here.1 (right_allowed b q rows row before h))
