use Rattle.std.proofs.Common.{◌≡◌, ◌<◌, List, Option, Some, length, option_and_then, option_map, slice_get, sym, subst}
use Rattle.std.specs.Map.{lookup}
use Rattle.fare_law.specs.Book.{Book}
use Rattle.graph_walk.specs.Steps.{rows_of}
use Rattle.residual_keys.specs.Written.{InLimits}
use Rattle.residual_table.specs.contracts.key.ResidualKeyPartialEq.TheImpl as key
use Rattle.residual_table.specs.declared.key.ResidualKey.{ResidualKey}
use Rattle.search_steps.specs.Keys.{live, state}
use Rattle.search_steps.specs.LeastMoves.{BoundBy}
use Rattle.search_steps.specs.declared.least.LeastMove.{LeastMove}
use Rattle.fare_calendar.proofs.FirstMoves.{FirstLaws, goes_by_first, left_live, some_move}
use Rattle.fare_calendar.proofs.Rows.{by_rows, in_rows}
use Rattle.fare_calendar.proofs.first_runs.first_left.Goals as goal

pub left_by_first-requires : goal.left_by_first-requires
left_by_first-requires c =
    let old = c.args.steps.now in
    let es = c.args.rows.now.entries in
    let b = old.case.book.now in
    let q = old.case.request.now in
    let limits : InLimits b = subst InLimits c.case.ensures.book c.book_limits.ensures in
    let laws : FirstLaws b q = record {
      keys = limits.fares.keys;
      one = c.one_next.ensures.one b q;
      apart = c.codes_tell.ensures.apart;
      parts = c.codes_tell.ensures.parts;
      never = c.order_laws.ensures.less_never;
      first = λ v w x y a. (c.order_laws.ensures.less_first v w x y a).0;
      same = c.order_laws.ensures.before_never;
      further = c.order_laws.ensures.before_trans;
      total = c.order_laws.ensures.before_total;
      second = λ price m n u v w. (c.order_laws.ensures.before_second price m n u v w).0;
    } in
    let to = in_rows (live old) (state old) key.ghosts.eq c.keys_tell.ensures es c.requires.rows.alive in
    let from = by_rows (live old) (state old) key.ghosts.eq c.keys_tell.ensures es c.requires.rows.alive c.requires.rows.closed.once in
    subst (λ (ms : List (LeastMove ResidualKey)). 0 < length ms) (sym c.as_slice.ensures)
    (some_move b q (rows_of (state old) es) (BoundBy (live old) (state old) (λ k. option_and_then (λ bound. bound) (lookup (key.ghosts.eq k) es))) laws c.requires.rows.closed to from (state c.least_moves.new.self) (state old c.args.key) c.in_ok-least.least c.requires.run c.in_ok-least.ensures.least)

pub returns-clause-goes : goal.returns-clause-goes
returns-clause-goes c =
    let old = c.args.steps.now in
    let es = c.args.rows.now.entries in
    let b = old.case.book.now in
    let q = old.case.request.now in
    let limits : InLimits b = subst InLimits c.case.ensures.book c.book_limits.ensures in
    let laws : FirstLaws b q = record {
      keys = limits.fares.keys;
      one = c.one_next.ensures.one b q;
      apart = c.codes_tell.ensures.apart;
      parts = c.codes_tell.ensures.parts;
      never = c.order_laws.ensures.less_never;
      first = λ v w x y a. (c.order_laws.ensures.less_first v w x y a).0;
      same = c.order_laws.ensures.before_never;
      further = c.order_laws.ensures.before_trans;
      total = c.order_laws.ensures.before_total;
      second = λ price m n u v w. (c.order_laws.ensures.before_second price m n u v w).0;
    } in
    let to = in_rows (live old) (state old) key.ghosts.eq c.keys_tell.ensures es c.requires.rows.alive in
    let from = by_rows (live old) (state old) key.ghosts.eq c.keys_tell.ensures es c.requires.rows.alive c.requires.rows.closed.once in
    let next = subst (λ (ms : List (LeastMove ResidualKey)). option_map (λ m. m.next) (slice_get ms 0) ≡ Some c.left_by_first.result) c.as_slice.ensures c.left_by_first.ensures in
    goes_by_first b q (rows_of (state old) es) (BoundBy (live old) (state old) (λ k. option_and_then (λ bound. bound) (lookup (key.ghosts.eq k) es))) laws c.requires.rows.closed to from (state c.least_moves.new.self) (state old c.args.key) c.in_ok-least.least c.left_by_first.result c.requires.run next c.in_ok-least.ensures.least

pub returns-clause-live : goal.returns-clause-live
returns-clause-live c =
    let next = subst (λ (ms : List (LeastMove ResidualKey)). option_map (λ m. m.next) (slice_get ms 0) ≡ Some c.left_by_first.result) c.as_slice.ensures c.left_by_first.ensures in
    left_live (live c.least_moves.new.self) c.in_ok-least.least c.left_by_first.result next c.in_ok-least.ensures.live
