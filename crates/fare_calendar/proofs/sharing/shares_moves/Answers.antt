use Rattle.std.proofs.Common.{sym, subst}
use Rattle.fare_calendar.specs.Sharing.{SameWindows}
use Rattle.fare_law.specs.Limits.{IsRequest}
use Rattle.law_lemmas.proofs.LawFacts.{said_of}
use Rattle.fare_calendar.proofs.sharing.shares_moves.Goals as goal

pub same_windows-requires-clause-shared : goal.same_windows-requires-clause-shared
same_windows-requires-clause-shared c = subst IsRequest (sym c.case-case.ensures.request) c.requires.steps

pub returns : goal.returns
returns c told =
    let s = c.args.steps.now in
    record {
      like = c.requires.like;
      windows = said_of (λ b q. SameWindows b q c.args.request.now) c.case-case.result.book.now s.case.book.now c.case-case.result.request.now s.case.request.now c.case-case.ensures.book c.case-case.ensures.request (c.same_windows.ensures told);
    }
