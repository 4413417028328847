use Rattle.std.proofs.Common.{◌≤◌, ◌+◌, ◌∷◌, [], length, All, Some, sym, ap, subst, ◌∙◌, arith, length-append}
use Rattle.std.proofs.lemmas.List.Elements.{All-push}
use Rattle.fare_versions.specs.Published.{Published}
use Rattle.fare_versions.specs.Seen.{HasSeen}
use Rattle.fare_versions.specs.Writing.{shown}
use Rattle.fare_versions.proofs.opening.watches.Goals as goal

pub loop-preserved : goal.loop-preserved
loop-preserved c =
    let inv = c.loop.invariant in
    let e = c.in-Ok.ensures in
    let first = shown c.args.writer.now in
    let more = c.in_ok-push-in-Ok.ensures.items in
    let seen : HasSeen first c.in-Ok.watch = subst (λ (p : Published). HasSeen p c.in-Ok.watch) inv.1 e.watch in
    let few : length c.push.new.self ≤ c.loop.counter + 1 = omega (arith, ap length more, length-append c.loop.watches (c.in-Ok.watch ∷ []), inv.4) in (
      e.seen ∙ inv.0 ∙ ap Some (sym e.shown),
      e.shown ∙ inv.1,
      e.pending ∙ inv.2,
      subst (All (HasSeen first)) (sym more) (All-push (HasSeen first) c.loop.watches c.in-Ok.watch inv.3 seen),
      few,
    )
