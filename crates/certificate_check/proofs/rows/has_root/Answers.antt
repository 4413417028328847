use Rattle.std.proofs.Common.{◌≡◌, ◌∙◌, true, get_or, refl, sym, ap, inl, inr}
use Rattle.std.proofs.lemmas.Option.{get_or_from_slice_get, slice_get_within}
use Rattle.certificate_check.proofs.EachSoFar.{in_at, in_next}
use Rattle.certificate_check.proofs.RootAt.{root_at, root_row}
use Rattle.certificate.proofs.YesIsBest.{root_same}
use Rattle.certificate_check.proofs.rows.has_root.Goals as goal

pub returns-then-is_same : goal.returns-then-is_same
returns-then-is_same c =
    let so : c.is_same.result ≡ true = cc in
    let root = c.root-root.result in
    let rows = c.args.rows.now in
    let i = c.loop-place.place in
    let row = c.row.result in
    let is : row ≡ get_or rows i row = sym (get_or_from_slice_get rows i row row c.row.ensures) in (
      λ t. root_row c.args.book.now c.args.request.now root rows row (root_at c.args.book.now c.args.request.now root c.requires c.root-root.ensures.root) (in_at rows i row (slice_get_within rows i row c.row.ensures) is) (c.is_same.ensures.0 so),
      λ h. refl,
    )

pub loop-place-preserved : goal.loop-place-preserved
loop-place-preserved c =
    let rows = c.args.rows.now in
    let i = c.loop-place.place in
    let row = c.row.result in
    let is : row ≡ get_or rows i row = sym (get_or_from_slice_get rows i row row c.row.ensures) in
    λ h. elim (in_next rows i row h.0 (slice_get_within rows i row c.row.ensures) is h.1) [
      | inl k ↦ c.loop-place.invariant (h.0, k, h.2)
      | inr e ↦
          let at = root_at c.args.book.now c.args.request.now c.root-root.result c.requires c.root-root.ensures.root in
          let t = c.is_same.ensures.1 (ap (λ z. z.residual) (sym e) ∙ root_same c.args.book.now c.args.request.now h.0.residual c.root-root.result h.2 at) in
          cc
    ]
