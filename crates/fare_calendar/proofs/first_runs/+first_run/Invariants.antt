use Rattle.fare_calendar.proofs.first_runs.+first_run.Given as goal

abbrev pub decreases-first_run : goal.decreases-first_run
decreases-first_run l = l.more
