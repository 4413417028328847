use Rattle.std.proofs.Common.{◌≡◌, ◌≤◌, List, [], ◌∷◌, length, slice_get, Some, None, refl, sym, ap, subst, arith}
use Rattle.fare_law.specs.Book.{Book}
use Rattle.fare_law.specs.declared.requests.Slice.{Slice}
use Rattle.flight_paths.specs.declared.positions.Position.{Position}
use Rattle.flight_paths.specs.Positions.{before_slice, position_before}
use Rattle.residual_keys.specs.ResidualText.{IsWritten}
use Rattle.residual_keys.proofs.beginning.root.Goals as goal

first_position : (b : Book) (slices : List Slice) (at : Position) → 1 ≤ length slices → ((first : Slice) → slice_get slices 0 ≡ Some first → at ≡ position_before b 0 first None) → before_slice b 0 (slice_get slices 0) None ≡ Some at
first_position b [] at some is = absurd (omega arith)
first_position b (s ∷ slices) at some is = ap Some (sym (is s refl))

pub returns-clause-written : goal.returns-clause-written
returns-clause-written c = λ request.
    let b = c.args.book.now in
    let q = c.args.request.now in
    let at = c.root_position-at.result in
    let root = first_position b q.slices at c.requires (c.root_position-at.ensures.position b c.schedule_of.ensures) in
    subst IsWritten (sym c.new.ensures) (c.reached_is_written.ensures.root b q c.book_limits.ensures request at root)
