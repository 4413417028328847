use Rattle.std.proofs.Common.{◌+◌, [], ◌∷◌, ◌++◌, Some, None, subst, refl, arith, sym, ap, length, ◌∙◌}
use Rattle.best_k.specs.declared.lattice.Derivation.{Derivation}
use Rattle.best_steps.specs.Runs.{IsAt}
use Rattle.best_steps.specs.Heaped.{opens}
use Rattle.best_steps.specs.Waiting.{Stands, StandsIn, Drawing, Searching, open_of, opened}
use Rattle.best_steps.proofs.Asks.{same_more}
use Rattle.best_steps.proofs.Paths.{price_within}
use Rattle.best_steps.proofs.Drawings.{takes_out, ends_here, found_more, goes_down, never_none}
use Rattle.best_steps.proofs.Transport.{kept_same, same_self, same_back, at_same, node_within, totals_small, taken, open_has}
use Rattle.best_steps.proofs.draws.draw.Goals as goal

pub down-init : goal.down-init
down-init g c =
    let has = g.S.Steps.has c.args.steps.now in
    let s = c.args.search.now in
    let b = c.in-Some.branch in
    let ws = opens c.pop.new.waiting in
    let d = takes_out has (g.S.Steps.nodes c.args.steps.now) (g.S.Steps.level c.args.steps.now) c.requires.laws s.root s.drawn (open_of b) (opens s.waiting) ws c.requires.search.searching c.in-Some.ensures.moves c.in-Some.ensures.first in
    record {
      same = same_self has;
      nodes = refl;
      level = λ n. refl;
      later = g.met.S.Steps.unasked c.args.steps.now;
      root = refl;
      drawn = refl;
      kept = c.requires.search.kept;
      drawing = subst (λ z. Drawing has s.root (length s.drawn) (StandsIn has (opens s.waiting)) (Stands has (opened b.cost z b.node b.place b.step)) (opened b.cost z b.node b.place b.step) ws) (sym c.cut-front.ensures) d;
    }

pub wait_at-requires-clause-ready : goal.wait_at-requires-clause-ready
wait_at-requires-clause-ready g c = g.met.S.Steps.still_ready c.args.steps.now c.down.steps c.down.invariant.later c.requires.ready

pub step_at-requires-clause-ready : goal.step_at-requires-clause-ready
step_at-requires-clause-ready g c =
    g.met.S.Steps.still_ready c.args.steps.now c.wait_at.new.steps (g.met.S.Steps.further c.args.steps.now c.down.steps c.wait_at.new.steps c.down.invariant.later c.wait_at.ensures.later) c.requires.ready

pub wait_at-requires-clause-node : goal.wait_at-requires-clause-node
wait_at-requires-clause-node g c =
    let inv = c.down.invariant in
    let o = opened c.down.cost c.down.front c.down.node c.down.place c.down.step in
    let h = node_within (g.S.Steps.has c.args.steps.now) (g.S.Steps.nodes c.args.steps.now) (g.S.Steps.level c.args.steps.now) c.requires.laws c.args.search.now.root (length c.args.search.now.drawn) o c.requires.root inv.drawing.held in
    omega (arith, h, inv.nodes)

pub wait_at-requires-clause-small : goal.wait_at-requires-clause-small
wait_at-requires-clause-small g c = λ step h.
    let inv = c.down.invariant in
    let o = opened c.down.cost c.down.front c.down.node c.down.place c.down.step in
    let t = totals_small (g.S.Steps.has c.args.steps.now) (g.S.Steps.nodes c.args.steps.now) (g.S.Steps.level c.args.steps.now) c.requires.laws c.args.search.now.root (length c.args.search.now.drawn) o inv.drawing.held step ((inv.same c.down.node step).1 h) in
    omega (arith, t)

pub wait_at-requires-clause-kept : goal.wait_at-requires-clause-kept
wait_at-requires-clause-kept g c =
    let inv = c.down.invariant in
    kept_same (g.S.Steps.has c.args.steps.now) (g.S.Steps.has c.down.steps) inv.same c.down.search.kept inv.kept

pub step_at-requires-clause-kept : goal.step_at-requires-clause-kept
step_at-requires-clause-kept g c =
    kept_same (g.S.Steps.has c.down.steps) (g.S.Steps.has c.wait_at.new.steps) c.wait_at.ensures.same c.wait_at.new.kept c.in_ok-wait_at.ensures.kept

pub overflow_add-cost : goal.overflow_add-cost
overflow_add-cost g c =
    let inv = c.down.invariant in
    let has = g.S.Steps.has c.args.steps.now in
    let o = opened c.down.cost c.down.front c.down.node c.down.place c.down.step in
    let here = open_has has c.args.search.now.root (length c.args.search.now.drawn) o inv.drawing.held in
    let t = totals_small has (g.S.Steps.nodes c.args.steps.now) (g.S.Steps.level c.args.steps.now) c.requires.laws c.args.search.now.root (length c.args.search.now.drawn) o inv.drawing.held o.step here in
    let p = price_within has (g.S.Steps.nodes c.args.steps.now) (g.S.Steps.level c.args.steps.now) c.requires.laws o.node o.step here in
    omega (arith, t, p)

pub code-word-requires : goal.code-word-requires
code-word-requires g c =
    let inv = c.down.invariant in
    let has = g.S.Steps.has c.args.steps.now in
    let nodes = g.S.Steps.nodes c.args.steps.now in
    let level = g.S.Steps.level c.args.steps.now in
    let laws = c.requires.laws in
    let s = c.args.search.now in
    let all = StandsIn has (opens s.waiting) in
    let o = opened c.down.cost c.down.front c.down.node c.down.place c.down.step in
    let ws = opens c.wait_at.new.waiting in
    let r : Derivation = record { price = c.down.cost + c.down.step.price; word = c.append.new.word } in
    let t = taken has (g.S.Steps.has c.down.steps) nodes level laws inv.same s.root (length s.drawn) all o (opens c.down.search.waiting) ws inv.drawing c.in_ok-wait_at.ensures.waits in
    let next = ends_here has nodes level laws s.root (length s.drawn) all o ws r t c.in-None.is refl c.in_ok-append.ensures in
    let e = next.run.3 in
    let h = laws.short s.root next.run.0 next.run.1 in
    omega (arith, ap (λ z. length z) e, h)

pub returns-in-None-clause-search : goal.returns-in-None-clause-search
returns-in-None-clause-search g c =
    let inv = c.down.invariant in
    let has = g.S.Steps.has c.args.steps.now in
    let nodes = g.S.Steps.nodes c.args.steps.now in
    let level = g.S.Steps.level c.args.steps.now in
    let laws = c.requires.laws in
    let s = c.args.search.now in
    let all = StandsIn has (opens s.waiting) in
    let o = opened c.down.cost c.down.front c.down.node c.down.place c.down.step in
    let ws = opens c.wait_at.new.waiting in
    let r : Derivation = record { price = c.down.cost + c.down.step.price; word = c.code-word.result } in
    let t = taken has (g.S.Steps.has c.down.steps) nodes level laws inv.same s.root (length s.drawn) all o (opens c.down.search.waiting) ws inv.drawing c.in_ok-wait_at.ensures.waits in
    let next = ends_here has nodes level laws s.root (length s.drawn) all o ws r t c.in-None.is refl (c.code-word.ensures ∙ c.in_ok-append.ensures) in
    let more = found_more has nodes level laws s.root s.drawn r (opens s.waiting) ws c.requires.search.searching next in
    let items = c.in_ok-push-in-None.ensures.items ∙ ap (λ z. z ++ r ∷ []) inv.drawn in
    record {
      searching = subst (λ z. Searching has z c.push.new.self ws) (sym inv.root) (subst (λ z. Searching has s.root z ws) (sym items) more);
      kept = kept_same (g.S.Steps.has c.down.steps) has (same_back has (g.S.Steps.has c.down.steps) inv.same) c.wait_at.new.kept c.in_ok-wait_at.ensures.kept;
    }

pub step_at-requires-clause-node : goal.step_at-requires-clause-node
step_at-requires-clause-node g c =
    let inv = c.down.invariant in
    let has = g.S.Steps.has c.args.steps.now in
    let o = opened c.down.cost c.down.front c.down.node c.down.place c.down.step in
    let here = open_has has c.args.search.now.root (length c.args.search.now.drawn) o inv.drawing.held in
    let h = c.requires.laws.within c.down.node c.in-Some-next.next c.down.step here c.in-Some-next.is in
    omega (arith, h, c.wait_at.ensures.nodes, inv.nodes)

pub down-smaller : goal.down-smaller
down-smaller g c =
    let inv = c.down.invariant in
    let has = g.S.Steps.has c.args.steps.now in
    let o = opened c.down.cost c.down.front c.down.node c.down.place c.down.step in
    let here = open_has has c.args.search.now.root (length c.args.search.now.drawn) o inv.drawing.held in
    let h = c.requires.laws.down c.down.node c.in-Some-next.next c.down.step here c.in-Some-next.is in
    omega (arith, h)

pub down-preserved : goal.down-preserved
down-preserved g c =
    let inv = c.down.invariant in
    let has = g.S.Steps.has c.args.steps.now in
    let nodes = g.S.Steps.nodes c.args.steps.now in
    let level = g.S.Steps.level c.args.steps.now in
    let laws = c.requires.laws in
    let s = c.args.search.now in
    let all = StandsIn has (opens s.waiting) in
    let o = opened c.down.cost c.down.front c.down.node c.down.place c.down.step in
    let ws = opens c.wait_at.new.waiting in
    let next = c.in-Some-next.next in
    let first = c.in-Some-2.first in
    let same = same_more has (g.S.Steps.has c.down.steps) (g.S.Steps.has c.wait_at.new.steps) inv.same c.wait_at.ensures.same in
    let t = taken has (g.S.Steps.has c.down.steps) nodes level laws inv.same s.root (length s.drawn) all o (opens c.down.search.waiting) ws inv.drawing c.in_ok-wait_at.ensures.waits in
    let found = subst (λ z. IsAt (g.S.Steps.has c.wait_at.new.steps next) 0 z) c.in-Some-2.is c.in_ok-first-in-Some-next.ensures.found in
    let d = goes_down has nodes level laws s.root (length s.drawn) all o next first ws t c.in-Some-next.is (at_same (g.S.Steps.has c.wait_at.new.steps) has (same_back has (g.S.Steps.has c.wait_at.new.steps) same) next 0 (Some first) found) in
    record {
      same = same_more has (g.S.Steps.has c.wait_at.new.steps) (g.S.Steps.has c.step_at.new.steps) same c.step_at.ensures.same;
      nodes = c.step_at.ensures.nodes ∙ c.wait_at.ensures.nodes ∙ inv.nodes;
      level = λ n. c.step_at.ensures.level n ∙ c.wait_at.ensures.level n ∙ inv.level n;
      later = g.met.S.Steps.further c.args.steps.now c.wait_at.new.steps c.step_at.new.steps (g.met.S.Steps.further c.args.steps.now c.down.steps c.wait_at.new.steps inv.later c.wait_at.ensures.later) c.step_at.ensures.later;
      root = inv.root;
      drawn = inv.drawn;
      kept = kept_same (g.S.Steps.has c.wait_at.new.steps) has (same_back has (g.S.Steps.has c.wait_at.new.steps) same) c.step_at.new.kept c.in_ok-first-in-Some-next.ensures.kept;
      drawing = subst (λ z. Drawing has s.root (length s.drawn) all (Stands has (opened (c.down.cost + c.down.step.price) z next 0 first)) (opened (c.down.cost + c.down.step.price) z next 0 first) ws) (sym c.in_ok-append.ensures) d;
    }

pub unreachable-requires : goal.unreachable-requires
unreachable-requires g c =
    let inv = c.down.invariant in
    let has = g.S.Steps.has c.args.steps.now in
    let o = opened c.down.cost c.down.front c.down.node c.down.place c.down.step in
    let next = c.in-Some-next.next in
    let here = open_has has c.args.search.now.root (length c.args.search.now.drawn) o inv.drawing.held in
    let same = same_more has (g.S.Steps.has c.down.steps) (g.S.Steps.has c.wait_at.new.steps) inv.same c.wait_at.ensures.same in
    let found = subst (λ z. IsAt (g.S.Steps.has c.wait_at.new.steps next) 0 z) c.in-None-2.is c.in_ok-first-in-Some-next.ensures.found in
    never_none has (g.S.Steps.nodes c.args.steps.now) (g.S.Steps.level c.args.steps.now) c.requires.laws o next here c.in-Some-next.is
    (at_same (g.S.Steps.has c.wait_at.new.steps) has (same_back has (g.S.Steps.has c.wait_at.new.steps) same) next 0 None found)
