use Rattle.std.proofs.Common.{◌≡◌, ◌∙◌, ◌+◌, ap, sym, arith}
use Rattle.atomic_table.specs.Seated.{TableId}
use Rattle.shared_board.specs.Holding.{SlotsView, PassView}
use Rattle.shared_board.proofs.Steps.{splits_it}
use Rattle.shared_board.proofs.slot_pass.SlotPass.split.Goals as goal

pub split_seat-requires : goal.split_seat-requires
split_seat-requires g c =
    let mine = ap (λ (v : PassView). v.of.board) c.self.view_is ∙ (ap (λ (z : SlotsView). z.board) c.requires ∙ sym c.shared.ensures.same.0) in
    let words : c.shared.result.now.table_id.words ≡ c.args.board.now.board.slots + 1 = ap (λ (z : TableId). z.words) c.shared.ensures.same.0 ∙ c.shared.ensures.sizes.0 in
    (mine, omega (arith, words), splits_it _ _ _)
