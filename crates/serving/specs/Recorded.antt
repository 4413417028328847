-- What the replies of a run have to do with the core of events.
use Rattle.std.specs.Prelude.{◌≡◌, ◌-◌, List, slice_get, Some}
use Rattle.search_desk.specs.Events.{IsReplyOf}
use Rattle.fare_law.specs.Book.{Book}
use Rattle.fare_law.specs.declared.filings.Filing.{Filing}
use Rattle.serve_desks.specs.declared.log.Reply.{Reply}
use Rattle.serve_desks.specs.declared.workload.Ask.{Ask}
use Rattle.serving.specs.declared.searches.SearchLine.{SearchLine}

-- The reply to the ask of a search is what the core records for a desk that looked after the entries of the reply's version.
pub record IsRecordedReply (start : Book) (asks : List Ask) (filings : List Filing) (s : SearchLine) (r : Reply) : Type 0 where
  pub ask : Ask
  pub asked : slice_get asks (s.request - 1) ≡ Some ask
  pub recorded : IsReplyOf start filings ask r
