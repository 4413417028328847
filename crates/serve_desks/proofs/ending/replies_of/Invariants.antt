use Rattle.std.proofs.Common.{◌≡◌, List, ◌++◌, length, drop, vec_len}
use Rattle.serve_desks.specs.Logs.{AreLow, Replies}
use Rattle.serve_desks.specs.Settled.{AllAsked, AreGiven}
use Rattle.serve_desks.specs.declared.log.Reply.{Reply}
use Rattle.serve_desks.proofs.ending.replies_of.Given as goal

abbrev pub invariant-loop-line : goal.invariant-loop-line
invariant-loop-line g l =
    let filings = l.filings.receipt.entries in
    let right = g.T.Teller.right in
    let terms = g.H.House.terms in
    let told = Replies right terms l.filings.opening l.filings.filed filings in
    (length l.replied.floors.items ≡ l.script.desks) × AreLow (length filings) l.replied.floors.items
    × (vec_len l.settled.tellers ≡ vec_len l.initial.settled.tellers) × AllAsked g.T.Teller.terms g.T.Teller.wants terms l.settled.tellers.items
    × (vec_len l.settled.given ≡ length l.script.lines) × AreGiven right terms filings l.settled.given.items
    × (l.number ≡ l.line-index) × ((rest : List Reply) → told l.replied.floors.items (drop l.line-index l.script.lines) rest → told l.initial.replied.floors.items l.script.lines (l.replied.replies ++ rest))
