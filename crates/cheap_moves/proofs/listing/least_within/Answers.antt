use Rattle.std.proofs.Common.{subst, sym}
use Rattle.cheap_moves.specs.declared.least.CountedMove.{CountedMove}
use Rattle.cheap_moves.specs.LeastMoves.{Counts, IsSooner}
use Rattle.cheap_moves.proofs.Cutting.{first_least}
use Rattle.cheap_moves.proofs.Keeping.{all_within, kept_codes}
use Rattle.cheap_moves.proofs.Sooner.{code_of}
use Rattle.fare_law.specs.Lists.{KLeast}
use Rattle.cheap_moves.proofs.listing.least_within.Goals as goal

pub keep_first-requires : goal.keep_first-requires
keep_first-requires g c =
    let s = c.args.search.now in
    kept_codes s.book.now s.request.now s.residual.now c.book_limits.ensures.fares.keys (Counts s.book.now s.request.now s.residual.now (g.B.ResidualBounds.bound s.bounds.now) s.limit) (λ m k. k.0.0) c.codes_tell.ensures.parts s.limit c.args.wanted c.in_ok-drawn.drawn.kept.items c.in_ok-drawn.drawn.limit
    c.in_ok-drawn.ensures.drawn

pub returns-clause-least : goal.returns-clause-least
returns-clause-least g c =
    let s = c.args.search.now in
    let bound = g.B.ResidualBounds.bound s.bounds.now in
    let Has = Counts s.book.now s.request.now s.residual.now bound s.limit in
    let trans : (x y z : CountedMove) → IsSooner x y → IsSooner y z → IsSooner x z = λ x y z h k. c.order_laws.ensures.before_trans x.total y.total z.total (code_of x) (code_of y) (code_of z) h k in
    let never : (x : CountedMove) → IsSooner x x → ⊥ = λ x h. c.order_laws.ensures.before_never x.total (code_of x) h in
    subst (KLeast Has IsSooner c.args.wanted) (sym c.from_vec.ensures)
    (first_least trans never Has c.args.wanted s.limit (all_within s.book.now s.request.now s.residual.now bound s.limit) c.in_ok-drawn.drawn.kept.items c.in_ok-drawn.drawn.limit c.in_ok-drawn.ensures.drawn c.keep_first.new.kept.items c.keep_first.ensures)
