use Rattle.std.proofs.Common.{List, Option, ℕ, ◌≤◌, length, subst}
use Rattle.cheap_moves.specs.declared.least.CountedMove.{CountedMove}
use Rattle.cheap_moves.specs.LeastMoves.{AreKept, CountsOn, IsSooner}
use Rattle.cheap_moves.proofs.Cutting.{cut_kept}
use Rattle.cheap_moves.proofs.Keeping.{counted_within}
use Rattle.cheap_moves.proofs.Sooner.{code_of}
use Rattle.cheap_moves.proofs.drawing.sink.Goals as goal

pub returns-then-is_same : goal.returns-then-is_same
returns-then-is_same g c = λ seen old.
    let s = c.args.draw.now.search.now in
    let bound = g.B.ResidualBounds.bound s.bounds.now in
    let trans : (x y z : CountedMove) → IsSooner x y → IsSooner y z → IsSooner x z = λ x y z h k. c.order_laws.ensures.before_trans x.total y.total z.total (code_of x) (code_of y) (code_of z) h k in
    let never : (x : CountedMove) → IsSooner x x → ⊥ = λ x h. c.order_laws.ensures.before_never x.total (code_of x) h in
    let Has = CountsOn s.book.now s.request.now s.residual.now bound s.limit seen in
    record {
      kept = subst (λ (l : Option ℕ). AreKept Has c.args.draw.now.wanted s.limit c.cut-limit.new.kept.items l) (c.is_same.ensures c.if-is_same.true) (cut_kept trans never Has c.args.draw.now.wanted s.limit (counted_within s.book.now s.request.now s.residual.now bound s.limit seen) c.args.drawn.now.kept.items c.args.drawn.now.limit old.kept c.cut-limit.new.kept.items c.cut-limit.ensures.first
          (subst (λ (ms : List CountedMove). c.args.draw.now.wanted ≤ length ms) c.as_slice.ensures.value (c.is_full.ensures c.if-not-is_full.false)) c.cut-limit.result c.cut-limit.ensures.limit);
      hopes = old.hopes;
    }

pub returns : goal.returns
returns g c = λ seen old.
    let s = c.args.draw.now.search.now in
    let bound = g.B.ResidualBounds.bound s.bounds.now in
    let trans : (x y z : CountedMove) → IsSooner x y → IsSooner y z → IsSooner x z = λ x y z h k. c.order_laws.ensures.before_trans x.total y.total z.total (code_of x) (code_of y) (code_of z) h k in
    let never : (x : CountedMove) → IsSooner x x → ⊥ = λ x h. c.order_laws.ensures.before_never x.total (code_of x) h in
    let Has = CountsOn s.book.now s.request.now s.residual.now bound s.limit seen in
    record {
      kept = cut_kept trans never Has c.args.draw.now.wanted s.limit (counted_within s.book.now s.request.now s.residual.now bound s.limit seen) c.args.drawn.now.kept.items c.args.drawn.now.limit old.kept c.cut-limit.new.kept.items c.cut-limit.ensures.first
          (subst (λ (ms : List CountedMove). c.args.draw.now.wanted ≤ length ms) c.as_slice.ensures.value (c.is_full.ensures c.if-not-is_full.false)) c.cut-limit.result c.cut-limit.ensures.limit;
      hopes = c.in_ok-hopes.ensures;
    }
