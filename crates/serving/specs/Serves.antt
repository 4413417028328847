-- What a serving run writes.
use Rattle.std.specs.Prelude.{◌≡◌, ℕ, List, ◌++◌, length}
use Rattle.search_desk.specs.Outcomes.{AnswersAsk}
use Rattle.fare_law.specs.Book.{Book}
use Rattle.serve_desks.specs.Logs.{Logged}
use Rattle.serve_desks.specs.Terms.{terms_of}
use Rattle.serve_desks.specs.declared.log.Log.{Log}
use Rattle.serve_desks.specs.declared.workload.Workload.{Workload}
use Rattle.serving.specs.Lines.{history_text}
use Rattle.serving.specs.Replies.{RepliesText, searches_from}

-- The text of a serving run. There is a log of it: a history, of which each later filing was judged in turn from the
-- opening book on, and a reply to each search of the script, the outcome of its ask on the version that it names, which
-- is none older than what its desk was answered from or waited for. The text is the history, then the replies in the
-- script's order.
pub record Serves (start : Book) (work : Workload) (text : List ℕ) : Type 0 where
  pub log : Log
  pub logged : Logged AnswersAsk start work log
  pub replies : List ℕ
  pub told : RepliesText (terms_of work.asks start) logged.filings (searches_from 1 work.script.lines) log.replies replies
  pub whole : text ≡ history_text (length start.entries) log.filed (length logged.filings) ++ replies
