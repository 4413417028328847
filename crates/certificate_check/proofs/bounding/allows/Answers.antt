use Rattle.std.proofs.Common.{◌≡◌, ◌↔◌, ◌∙◌, ℕ, IsTrue, Some, None, sym, refl, subst, IfSome}
use Rattle.certificate.specs.BoundCheck.{BoundWithin}
use Rattle.certificate_check.proofs.AllowedRows.{allows_free, allows_never, allows_told}
use Rattle.search_steps.specs.Keys.{live}
use Rattle.certificate_check.proofs.bounding.allows.Goals as goal

pub returns-in-Some-Some : goal.returns-in-Some-Some
returns-in-Some-Some c =
    let alive = subst (λ o. IfSome o (live c.args.steps.now)) c.in-Some.is c.requires.live in
    let found : c.get.result ≡ Some (Some c.in-Some-Some.further) = cc in
    allows_told _ _ _ c.keys_tell.ensures c.args.table.now.bounds c.args.table.now.rows.now c.requires.table.live c.requires.table.same c.requires.differ c.args.row.now c.args.outcome.now.next c.in-Some.key c.in-Some-Some.further
    c.args.outcome.now.price _ c.in-Some.is alive (sym c.get.ensures ∙ found) (subst (λ (z : ℕ). IsTrue c.is_within-in-Some-Some.result ↔ BoundWithin c.args.row.now z) c.total_of.ensures c.is_within-in-Some-Some.ensures)

pub returns-in-Some-None : goal.returns-in-Some-None
returns-in-Some-None c =
    let alive = subst (λ o. IfSome o (live c.args.steps.now)) c.in-Some.is c.requires.live in
    let found : c.get.result ≡ Some None = cc in (
      λ t. allows_free _ _ _ c.keys_tell.ensures c.args.table.now.bounds c.args.table.now.rows.now c.requires.table.live c.requires.table.same c.requires.differ c.args.row.now c.args.outcome.now.next c.in-Some.key c.args.outcome.now.price
          c.in-Some.is alive (sym c.get.ensures ∙ found),
      λ h. refl,
    )

pub returns-in-None : goal.returns-in-None
returns-in-None c =
    let alive = subst (λ o. IfSome o (live c.args.steps.now)) c.in-Some.is c.requires.live in
    let found : c.get.result ≡ None = cc in (
      λ t. absurd (cc),
      λ h. absurd (allows_never _ _ _ c.keys_tell.ensures c.args.table.now.bounds c.args.table.now.rows.now c.requires.table.live c.requires.table.same c.requires.differ c.args.row.now c.args.outcome.now.next c.in-Some.key c.args.outcome.now.price
          c.in-Some.is alive (sym c.get.ensures ∙ found) h),
    )
