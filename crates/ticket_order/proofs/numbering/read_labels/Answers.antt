use Rattle.std.proofs.Common.{◌≡◌, ◌+◌, ◌∙◌, ◌∷◌, [], true, false, length, length-set, drop, Some, sym, ap, subst, arith, length-append}
use Rattle.std.proofs.lemmas.List.{drop_all}
use Rattle.ticket_order.specs.Tickets.{begins}
use Rattle.ticket_order.proofs.ReadLabels.{Read, read_begin, read_go_on, read_lost, read_all, read_same}
use Rattle.ticket_order.proofs.TicketMoves.{rest_is}
use Rattle.ticket_order.proofs.numbering.read_labels.Goals as goal
use Rattle.ticket_order.proofs.numbering.read_labels.Goals.{then-begins, else-begins+in_ok-label}

pub returns-in_err-label : goal.returns-in_err-label
returns-in_err-label c = λ ls n a.
    let ms = c.args.moves.now in
    let i = c.loop-m.m-index in
    let m = c.m-item.result in
    let before = subst (λ x. Read ms c.loop-m.labels x c.loop-m.count c.loop-m.opened) (rest_is ms i m (omega arith) c.m-item.is) c.loop-m.invariant.reads in
    let goes : begins m.role ≡ false = sym c.begins.ensures ∙ c.if-begins.false in
    absurd (read_lost ms c.loop-m.labels m (drop (i + 1) ms) c.loop-m.count c.loop-m.opened before (omega arith) c.loop-m.invariant.long goes c.in_err-label.ensures.only ls n a)

pub loop-m-preserved : goal.loop-m-preserved
loop-m-preserved c = record {
  few = elim c.if-begins.branch [ then-begins w ↦ omega (arith, w.count-is) | else-begins+in_ok-label w ↦ omega (arith, w.count-is) ];
  each = omega (arith, ap length c.push.ensures, length-append c.loop-m.labels (c.if-begins.label ∷ []));
  long = simp length-set c.loop-m.invariant.long;
  reads =
      let ms = c.args.moves.now in
      let i = c.loop-m.m-index in
      let m = c.m-item.result in
      let before = subst (λ x. Read ms c.loop-m.labels x c.loop-m.count c.loop-m.opened) (rest_is ms i m (omega arith) c.m-item.is) c.loop-m.invariant.reads in
      elim c.if-begins.branch [
        | then-begins w ↦
            let begin : begins m.role ≡ true = sym c.begins.ensures ∙ w.if-begins.true in
            let label : c.if-begins.label ≡ c.loop-m.count + 1 = omega (arith, w.label-is, w.count-is) in
            read_same ms _ _ (drop (i + 1) ms) _ _ _ _
            (read_begin ms c.loop-m.labels m (drop (i + 1) ms) c.loop-m.count c.loop-m.opened before (omega arith) c.loop-m.invariant.long begin)
            (cc) (sym w.count-is) (cc)
        | else-begins+in_ok-label w ↦
            let goes : begins m.role ≡ false = sym c.begins.ensures ∙ w.if-begins.false in
            read_same ms _ _ (drop (i + 1) ms) _ _ _ _
            (read_go_on ms c.loop-m.labels m (drop (i + 1) ms) c.loop-m.count c.loop-m.opened w.in_ok-label.label before (omega arith) c.loop-m.invariant.long goes w.in_ok-label.ensures.only)
            (cc) (sym w.count-is) (cc)
      ];
}

pub returns : goal.returns
returns c = λ ls n a.
    let all = subst (λ x. Read c.args.moves.now c.loop-m.labels x c.loop-m.count c.loop-m.opened) (drop_all c.loop-m.m-index c.args.moves.now (omega arith)) c.loop-m.invariant.reads in
    ap Some (sym (read_all c.args.moves.now c.loop-m.labels c.loop-m.count c.loop-m.opened all ls n a))
