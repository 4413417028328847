use Rattle.std.proofs.Common.{◌≡◌, ◌∙◌, ◌+◌, ℕ, Option, None, ap, sym, subst, arith}
use Rattle.atomic_table.specs.Seated.{TableId}
use Rattle.shared_board.specs.Holding.{SlotsView, Holds, PassView}
use Rattle.shared_board.proofs.Steps.{joins_it}
use Rattle.shared_board.proofs.slot_pass.SlotPass.join.Goals as goal

pub join_seat-requires : goal.join_seat-requires
join_seat-requires g c =
    let mine = ap (λ (v : PassView). v.of.board) c.self.view_is ∙ (ap (λ (z : SlotsView). z.board) c.requires.0 ∙ sym c.shared.ensures.same.0) in
    let words : c.shared.result.now.table_id.words ≡ c.args.board.now.board.slots + 1 = ap (λ (z : TableId). z.words) c.shared.ensures.same.0 ∙ c.shared.ensures.sizes.0 in
    let none : c.other.inside.held ≡ None = c.other.invariant.1 ∙ (ap (λ (v : PassView). v.held) c.other.view_is ∙ c.requires.2) in (
      mine,
      ap (λ (v : PassView). v.of.board) c.other.view_is ∙ (ap (λ (z : SlotsView). z.board) c.requires.1 ∙ sym c.shared.ensures.same.0),
      subst (λ (h : Option ℕ). Holds h c.other.inside.seat.me.1) none c.other.invariant.2,
      omega (arith, words),
      joins_it _ _ _ _ _,
    )
