-- What a command makes it owes, and of one input it owes one status.
use Rattle.std.proofs.Common.{◌≡◌, ℕ, List, Option, None}
use Rattle.case_maker.specs.MadeCase.{made_case}
use Rattle.certificate.specs.Checks.{OneFailure}
use Rattle.certificate.specs.declared.parts.Certificate.{Certificate}
use Rattle.fare_law.specs.Book.{Book}
use Rattle.fare_law.specs.declared.requests.Request.{Request}
use Rattle.whole_case.specs.Cases.{calendar_case, check_case, search_case, verdict_case}
use Rattle.whole_case.specs.ServeCases.{serve_case}
use Rattle.whole_case.specs.Stages.{IsOne}
use Rattle.lowfare.specs.Makes.{Makes, Owes}
use Rattle.lowfare.specs.declared.status.Status.{Status}
use Rattle.program_words.specs.declared.commands.Command.{Command}
use Rattle.program_words.specs.declared.commands.Command.TheVariants.{Search, Check, Make, Serve, Calendar, Verdict}
use Rattle.lowfare.proofs.CalendarOwes.{calendar_made, calendar_owes_one}
use Rattle.lowfare.proofs.CheckOwes.{check_made, check_owes_one}
use Rattle.lowfare.proofs.MakeOwes.{make_made, make_owes_one}
use Rattle.lowfare.proofs.SearchOwes.{search_made, search_owes_one}
use Rattle.lowfare.proofs.ServeOwes.{serve_made, serve_owes_one}
use Rattle.lowfare.proofs.VerdictOwes.{verdict_made, verdict_owes_one}

-- what the layers below know of cases and certificates, as their law functions give it
pub record Known : Type 0 where
  pub search : (best at : Option ℕ) (bytes : List ℕ) → IsOne (search_case best at bytes)
  pub check : (best at : Option ℕ) (bytes : List ℕ) → IsOne (check_case best at bytes)
  pub serve : (best : Option ℕ) (bytes : List ℕ) → IsOne (serve_case best bytes)
  pub calendar : (outs backs : ℕ) (at : Option ℕ) (bytes : List ℕ) → IsOne (calendar_case outs backs at bytes)
  pub verdict : (at : Option ℕ) (bytes : List ℕ) → IsOne (verdict_case at bytes)
  pub failure : (c : Certificate) (b : Book) (q : Request) → OneFailure c b q

pub made_owed : (c : Command) (bytes : List ℕ) (status : Status) (text : List ℕ) → Makes c bytes status text → Owes c bytes status
made_owed (Search best budget at) bytes status text m = search_made best budget at bytes status text m
made_owed (Check best at) bytes status text m = check_made best at bytes status text m
made_owed (Make seed size is_summary) bytes status text m = make_made seed size bytes is_summary status text m
made_owed (Serve best budget) bytes status text m = serve_made best budget bytes status text m
made_owed (Calendar outs backs budget at) bytes status text m = calendar_made outs backs budget at bytes status text m
made_owed (Verdict at) bytes status text m = verdict_made at bytes status text m

pub owes_one : Known → (c : Command) (bytes : List ℕ) (status due : Status) → Owes c bytes status → Owes c bytes due → status ≡ due
owes_one k (Search best budget at) bytes status due h g = search_owes_one best budget at bytes (k.search best at bytes) status due h g
owes_one k (Check best at) bytes status due h g = check_owes_one best at bytes (k.check best at bytes) k.failure status due h g
owes_one k (Make seed size is_summary) bytes status due h g = make_owes_one seed size bytes (k.search None None (made_case seed size)) is_summary status due h g
owes_one k (Serve best budget) bytes status due h g = serve_owes_one best budget bytes (k.serve best bytes) status due h g
owes_one k (Calendar outs backs budget at) bytes status due h g = calendar_owes_one outs backs budget at bytes (k.calendar outs backs at bytes) status due h g
owes_one k (Verdict at) bytes status due h g = verdict_owes_one at bytes (k.verdict at bytes) status due h g
