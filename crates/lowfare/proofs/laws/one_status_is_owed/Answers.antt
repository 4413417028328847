use Rattle.lowfare.proofs.Owing.{owes_one}
use Rattle.lowfare.proofs.laws.one_status_is_owed.Goals as goal

pub returns : goal.returns
returns c = owes_one (record { search = c.one_search_case.ensures; check = c.one_check_case.ensures; serve = c.one_serve_case.ensures; calendar = c.one_calendar_case.ensures; verdict = c.one_verdict_case.ensures; failure = c.one_failure.ensures })
