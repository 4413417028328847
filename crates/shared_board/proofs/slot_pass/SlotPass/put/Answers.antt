use Rattle.std.proofs.Common.{◌≡◌, ◌∙◌, ◌+◌, ap, sym, arith}
use Rattle.atomic_table.specs.Seated.{TableId}
use Rattle.shared_board.specs.Holding.{SlotsView, PassView}
use Rattle.shared_board.proofs.Steps.{gives_it}
use Rattle.shared_board.proofs.slot_pass.SlotPass.put.Goals as goal

pub store-requires : goal.store-requires
store-requires g c =
    let mine = c.exchange.ensures.0 ∙ (ap (λ (v : PassView). v.of.board) c.self.view_is ∙ (ap (λ (z : SlotsView). z.board) c.requires.0 ∙ sym c.shared-shared.ensures.same.0)) in
    let words : c.shared-shared.result.now.table_id.words ≡ c.args.board.now.board.slots + 1 = ap (λ (z : TableId). z.words) c.shared-shared.ensures.same.0 ∙ c.shared-shared.ensures.sizes.0 in
    let slots : c.shared-shared.result.now.table_id.slots ≡ c.args.board.now.board.slots = ap (λ (z : TableId). z.slots) c.shared-shared.ensures.same.0 in
    let held = ap (λ (v : PassView). v.held) c.self.view_is ∙ c.requires.2 in
    (mine, omega (arith, words, c.requires.1), gives_it _ _ _ _ _ _ _ _ (ap (λ m. m.0) c.exchange.ensures.3 ∙ c.self.invariant.0) held (ap (λ m. m.1) c.exchange.ensures.3) (omega (arith, slots, c.requires.1)))
