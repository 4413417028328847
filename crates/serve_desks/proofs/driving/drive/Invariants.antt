use Rattle.serve_desks.specs.Terms.{terms_of}
use Rattle.serve_desks.proofs.driving.drive.Given as goal

abbrev pub ghosts-logged : goal.ghosts-logged
ghosts-logged g a = record { name = a.clerk.now.house; terms = terms_of a.work.now.asks a.clerk.now.book }
