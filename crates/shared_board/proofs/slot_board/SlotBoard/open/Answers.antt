use Rattle.std.proofs.Common.{◌∙◌, ◌+◌, ℕ, List, Option, None, ap, sym, length, slice_index}
use Rattle.std.proofs.lemmas.List.{length-replicate}
use Rattle.shared_board.proofs.Steps.{opens}
use Rattle.shared_board.proofs.slot_board.SlotBoard.open.Goals as goal

pub vacant-requires : goal.vacant-requires
vacant-requires g c =
    let slots = length-replicate {A = Option g.row.T.Denot} c.args.count None in
    opens _ _ _ (ap length c.as_slice.ensures.value ∙ (c.in_ok-words.ensures.count ∙ ap (λ (k : ℕ). k + 1) (sym slots))) (ap (λ (ws : List ℕ). slice_index ws 0) c.as_slice.ensures.value ∙ c.in_ok-words.ensures.number)
