use Rattle.std.proofs.Common.{◌≡◌, ◌+◌, All, length, vec_len}
use Rattle.fare_law.specs.Lists.{Each}
use Rattle.fare_versions.specs.Seen.{HasSeen}
use Rattle.serve_desks.specs.Terms.{IsOf, terms_of}
use Rattle.serving.proofs.tellers.tellers_of.Given as goal

abbrev pub invariant-loop-watch : goal.invariant-loop-watch
invariant-loop-watch g l =
    All (HasSeen l.clerk) l.left.items
    × Each (IsOf (λ t. t.sight.house) (λ t. record { asks = t.asks; timetable = t.sight.book.timetable }) (λ t. t.wants) l.clerk.house (terms_of l.asks l.clerk.book)) l.tellers
    × (length l.tellers + vec_len l.left ≡ length l.initial.left.items)

abbrev pub decreases-loop-watch : goal.decreases-loop-watch
decreases-loop-watch g l = vec_len l.left
