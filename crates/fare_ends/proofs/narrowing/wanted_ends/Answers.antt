use Rattle.std.proofs.Common.{◌≡◌, false, [], ◌∷◌, ◌++◌, ◌+◌, subst, sym, take}
use Rattle.fare_ends.specs.Tails.{AreWanted}
use Rattle.fare_ends.specs.Reaches.{HasNoFares}
use Rattle.law_lemmas.proofs.Lists.{front_at}
use Rattle.law_lemmas.proofs.Pairs.{matched_more}
use Rattle.fare_ends.proofs.narrowing.wanted_ends.Goals as goal

pub loop-end-preserved : goal.loop-end-preserved
loop-end-preserved c =
    let b = c.args.book.now in
    let from = c.args.from in
    let ends = c.args.ends.now in
    let at = c.loop-end.end-index in
    let old = c.loop-end.wanted.items in
    let more = matched_more (λ end w. w ≡ false → HasNoFares b from end) (take at ends) old _ c.has_fare.result c.loop-end.invariant c.has_fare.ensures in
    subst (AreWanted b from (take (at + 1) ends)) (sym c.in_ok-push.ensures.items) (subst (λ xs. AreWanted b from xs (old ++ c.has_fare.result ∷ [])) (sym (front_at ends at _ c.loop-end-test.true)) more)
