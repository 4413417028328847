use Rattle.std.proofs.Common.{refl, subst}
use Rattle.fare_law.specs.Parts.{Numbers}
use Rattle.flight_paths.specs.declared.positions.Path.{Path}
use Rattle.flight_paths.specs.Ways.{arrivals_of}
use Rattle.joint_paths.proofs.CallFacts.{mark_apart}
use Rattle.law_lemmas.proofs.Options.{some_one}
use Rattle.joint_paths.proofs.buckets.Bucket.calls_here.Goals as goal

pub returns-then-self-tail-eq0 : goal.returns-then-self-tail-eq0
returns-then-self-tail-eq0 c = λ path got fs m.
    let k = c.args.self.now in
    let t = c.args.tail.now in
    let tail = c.requires.tail in
    let own = subst (λ (p : Path). Numbers k.case.now.book.now p.flights fs) (some_one _ path tail.path got tail.stands) m in
    (λ e. mark_apart k.at.now.place k.mark t.mark (arrivals_of fs) c.requires.bucket.mark (tail.mark fs own) c.if-self-tail-eq0.true, λ each. refl)
