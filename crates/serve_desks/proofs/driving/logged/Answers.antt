use Rattle.std.proofs.Common.{◌∙◌, ℕ, length, map, replicate, slice_index_or, subst, sym, arith}
use Rattle.std.proofs.lemmas.List.{length-map}
use Rattle.std.specs.Arc.{arc_value}
use Rattle.serve_desks.specs.Lines.{IsOfDesks}
use Rattle.serve_desks.specs.Logs.{Replies}
use Rattle.serve_desks.specs.Terms.{Terms}
use Rattle.serve_desks.proofs.Judges.{counted, judged_length}
use Rattle.serve_desks.proofs.driving.logged.Goals as goal

pub replies_of-requires-clause-desks : goal.replies_of-requires-clause-desks
replies_of-requires-clause-desks g c k d less =
    let start = c.args.clerk.now.book in
    let f = c.in_ok-filings.filings in
    let count = judged_length start.timetable start.entries (map arc_value c.args.work.now.later) f.filed f.receipt.entries c.in_ok-filings.ensures.filed.judged in
    subst (λ (n : ℕ). IsOfDesks c.args.work.now.script.desks n (slice_index_or c.args.work.now.script.lines k d)) (sym (count ∙ length-map c.args.work.now.later arc_value)) (c.lines_fit.ensures.desks k d less)

pub replies_of-requires-clause-counted : goal.replies_of-requires-clause-counted
replies_of-requires-clause-counted g c =
    let start = c.args.clerk.now.book in
    let f = c.in_ok-filings.filings in
    let all = counted start.timetable start.entries (map arc_value c.args.work.now.later) f.filed f.receipt.entries c.in_ok-filings.ensures.filed.judged in
    omega (arith, all, c.in_ok-filings.ensures.filed.opening)

pub returns : goal.returns
returns g c =
    let start = c.args.clerk.now.book in
    let f = c.in_ok-filings.filings in
    let lines = c.args.work.now.script.lines in
    let desks = c.args.work.now.script.desks in
    record {
      filings = f.receipt.entries;
      judged = c.in_ok-filings.ensures.filed.judged;
      replied = subst (λ (t : Terms). Replies g.T.Teller.right t (length start.entries) f.filed f.receipt.entries (replicate desks (length start.entries)) lines c.in_ok-replies.replies) c.requires.terms
          (subst (λ (n : ℕ). Replies g.T.Teller.right g.H.House.terms n f.filed f.receipt.entries (replicate desks n) lines c.in_ok-replies.replies) c.in_ok-filings.ensures.filed.opening c.in_ok-replies.ensures);
    }
