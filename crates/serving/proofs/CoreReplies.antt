-- The replies of a log are recorded by the core: for `logs_are_recorded`.
use Rattle.std.proofs.Common.{◌≤◌, List, [], ◌∷◌, length, take}
use Rattle.search_desk.specs.Events.{IsReplyOf}
use Rattle.search_desk.specs.Outcomes.{AnswersAsk}
use Rattle.fare_law.specs.Book.{Book}
use Rattle.fare_law.specs.Lists.{Matched}
use Rattle.fare_law.specs.declared.filings.Filing.{Filing}
use Rattle.script_text.specs.Script.{IsScript}
use Rattle.serve_desks.specs.Logs.{Logged}
use Rattle.serve_desks.specs.Terms.{terms_of}
use Rattle.serve_desks.specs.declared.log.Log.{Log}
use Rattle.serve_desks.specs.declared.log.Reply.{Reply}
use Rattle.serve_desks.specs.declared.workload.Ask.{Ask}
use Rattle.serve_desks.specs.declared.workload.Workload.{Workload}
use Rattle.serving.proofs.RepliesTold.{Answered, all_answered}
use Rattle.serving.specs.Recorded.{IsRecordedReply}
use Rattle.serving.specs.Replies.{searches_from}
use Rattle.serving.specs.declared.searches.SearchLine.{SearchLine}

-- a right reply to an ask is one that the core records
abbrev pub AreRecorded : Type 0
AreRecorded =
    (opening : Book) (filings : List Filing) (ask : Ask) (r : Reply) → r.number ≤ length filings → AnswersAsk ask opening.timetable (take r.number filings) r.body → IsReplyOf opening filings ask r

each_recorded : (start : Book) (asks : List Ask) (filings : List Filing) (searches : List SearchLine) (rs : List Reply) → AreRecorded
    → Matched (Answered (terms_of asks start) (length start.entries) filings) searches rs → Matched (IsRecordedReply start asks filings) searches rs
each_recorded start asks filings [] [] law h = tt
each_recorded start asks filings [] (r ∷ rs) law h = absurd h
each_recorded start asks filings (s ∷ ss) [] law h = absurd h
each_recorded start asks filings (s ∷ ss) (r ∷ rs) law h =
    let (ask, found, outcome) = h.0.right in
    (record { ask = ask; asked = found; recorded = law start filings ask r h.0.known outcome }, each_recorded start asks filings ss rs law h.1)

pub all_recorded : (start : Book) (work : Workload) (log : Log) (run : Logged AnswersAsk start work log) → IsScript (length work.later) (length work.asks) work.script → AreRecorded
    → Matched (IsRecordedReply start work.asks run.filings) (searches_from 1 work.script.lines) log.replies
all_recorded start work log run script law =
    each_recorded start work.asks run.filings (searches_from 1 work.script.lines) log.replies law
    (all_answered (terms_of work.asks start) (length start.entries) log.filed run.filings work.script.desks (length work.later) (length work.asks) work.script.lines log.replies script.lines run.replied)
