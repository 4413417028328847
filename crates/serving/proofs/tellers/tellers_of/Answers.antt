use Rattle.std.proofs.Common.{Some, length, ap, sym, subst, arith}
use Rattle.std.proofs.lemmas.List.{length_push}
use Rattle.std.proofs.lemmas.List.Elements.{All-pop}
use Rattle.search_desk.specs.declared.teller.DeskTeller.{DeskTeller}
use Rattle.fare_law.specs.Lists.{Each}
use Rattle.fare_versions.specs.Seen.{HasSeen}
use Rattle.serve_desks.specs.Terms.{IsOf, terms_of}
use Rattle.serving.proofs.TellerSteps.{allowed_of, of_watch}
use Rattle.law_lemmas.proofs.EachOne.{each_more}
use Rattle.serving.proofs.tellers.tellers_of.Goals as goal

pub teller_of-requires : goal.teller_of-requires
teller_of-requires g c =
    let clerk = c.args.clerk.now in
    let popped = All-pop (HasSeen clerk) c.loop-watch.left.items c.pop.new.self.items (Some c.in-Some.watch) c.in-Some.ensures.items c.loop-watch.invariant.0 in
    allowed_of clerk c.in-Some.watch c.args.asks.now popped.1 c.requires.asks

pub loop-watch-preserved : goal.loop-watch-preserved
loop-watch-preserved g c =
    let clerk = c.args.clerk.now in
    let asks = c.args.asks.now in
    let tellers = c.loop-watch.tellers in
    let teller = c.in_ok-teller.teller in
    let so_far = c.loop-watch.invariant in
    let pushed = c.in_ok-push.ensures.items in
    let popped = All-pop (HasSeen clerk) c.loop-watch.left.items c.pop.new.self.items (Some c.in-Some.watch) c.in-Some.ensures.items so_far.0 in
    let one = of_watch clerk c.in-Some.watch asks teller popped.1 c.in_ok-teller.ensures in
    let more = each_more (IsOf {T = DeskTeller g.row.G.Denot} (λ t. t.sight.house) (λ t. record { asks = t.asks; timetable = t.sight.book.timetable }) (λ t. t.wants) clerk.house (terms_of asks clerk.book)) tellers teller so_far.1 one in (
      popped.0,
      subst (Each (IsOf {T = DeskTeller g.row.G.Denot} (λ t. t.sight.house) (λ t. record { asks = t.asks; timetable = t.sight.book.timetable }) (λ t. t.wants) clerk.house (terms_of asks clerk.book))) (sym pushed) more,
      omega (arith, so_far.2, ap length pushed, length_push tellers teller, c.in-Some.ensures.len),
    )
