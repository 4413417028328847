-- A board is told by its numbers. For the calls of a pass that lend it to a source of offers.
use Rattle.std.proofs.Common.{◌≡◌, ◌∙◌, get_or, drop, None, sym}
use Rattle.shared_board.specs.Holding.{SlotsView, PassView}
use Rattle.shared_board.specs.Naming.{numbers_of}

one_board : (b c : SlotsView) → numbers_of b ≡ numbers_of c → b ≡ c
one_board b c e = λ i. record {
  board = record {
    words = get_or (e i) 1 0;
    slots = get_or (e i) 2 0;
    views_name = get_or (e i) 3 0;
    atom = get_or (e i) 4 0;
    block = get_or (e i) 5 0;
    offset = get_or (e i) 6 0;
    slot_names = drop 7 (e i);
  };
  number = get_or (e i) 0 0;
}

-- passes of one board that hold nothing are alike
pub same_pass : (p q : PassView) → numbers_of p.of ≡ numbers_of q.of → p.held ≡ None → q.held ≡ None → p ≡ q
same_pass p q e free other = λ i. record { of = one_board p.of q.of e i; held = (free ∙ sym other) i }
