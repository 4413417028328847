use Rattle.std.proofs.Common.{◌≡◌, ◌++◌, ◌∷◌, [], true, false, sym, ap, subst, ◌∙◌}
use Rattle.std.specs.Bool.{OnTrue, MatchBool}
use Rattle.std.specs.HashSet.{contains}
use Rattle.std.proofs.lemmas.Bool.{not-true, not-false}
use Rattle.schedule_book.specs.Expansions.{AllDiffer, IsAmong, StillSeen, number_of}
use Rattle.schedule_book.proofs.Numbers.{same, differ_key, seen_key, seen_among}
use Rattle.schedule_book.proofs.expansion.add_flight.Goals as goal

pub returns-in_ok-push-clause-differ : goal.returns-in_ok-push-clause-differ
returns-in_ok-push-clause-differ c =
    let f = c.args.flight in
    let none : contains same c.args.seen.now c.number_of.result ≡ false = not-true (contains same c.args.seen.now c.number_of.result) (sym c.in_ok-added.ensures.added ∙ c.if-added.true) in
    let more = differ_key c.args.flights.now.items f c.number_of.result c.args.seen.now c.insert.new.self c.number_of.ensures c.in_ok-added.ensures.updates.0 c.requires.differ c.requires.seen none in
    subst (λ b. OnTrue b (AllDiffer same c.push.new.self.items)) (sym c.if-added.true) (subst (AllDiffer same) (sym c.in_ok-push.ensures.items) more)

pub returns-in_ok-push-clause-seen : goal.returns-in_ok-push-clause-seen
returns-in_ok-push-clause-seen c =
    let f = c.args.flight in
    let old = c.args.flights.now.items in
    let more = seen_key old f c.number_of.result c.args.seen.now c.insert.new.self c.number_of.ensures c.in_ok-added.ensures.updates.0 in
    subst (λ b. OnTrue b (StillSeen same old c.args.seen.now c.push.new.self.items c.insert.new.self)) (sym c.if-added.true)
    (subst (λ fs. StillSeen same old c.args.seen.now fs c.insert.new.self) (sym c.in_ok-push.ensures.items) more)

pub returns-else-added-clause-added : goal.returns-else-added-clause-added
returns-else-added-clause-added c =
    let f = c.args.flight in
    let found : contains same c.args.seen.now (number_of f) ≡ true =
    ap (contains same c.args.seen.now) (sym c.number_of.ensures) ∙ not-false (contains same c.args.seen.now c.number_of.result) (sym c.in_ok-added.ensures.added ∙ c.if-added.false) in
    subst (λ b. MatchBool b (c.args.flights.now.items ≡ c.args.flights.now.items ++ f ∷ []) (IsAmong f c.args.flights.now.items)) (sym c.if-added.false)
    (seen_among c.args.flights.now.items f c.args.seen.now c.requires.seen found)
