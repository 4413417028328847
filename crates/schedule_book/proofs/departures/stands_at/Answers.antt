use Rattle.std.proofs.Common.{◌≡◌, ◌<◌, ℕ, arith}
use Rattle.std.proofs.lemmas.Bool.{leb-true}
use Rattle.schedule_book.proofs.Packing.{point_between}
use Rattle.schedule_book.proofs.departures.stands_at.Goals as goal

some : (n : ℕ) → (n ≡ 0 → ⊥) → 0 < n
some n ne = omega (arith, ne)

pub returns-clause-point : goal.returns-clause-point
returns-clause-point c = λ t.
    point_between c.args.keys.now c.args.key c.args.place 0 c.requires (some c.args.place c.if-place-eq0.false) c.if-keys-place.false c.if-key-keys.false (leb-true c.args.key _ t)
