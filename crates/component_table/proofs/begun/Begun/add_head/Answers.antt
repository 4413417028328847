use Rattle.std.proofs.Common.{subst, inl}
use Rattle.component_table.proofs.HeadsAdded.{closed_path, crossing_none, landing_none}
use Rattle.fare_law.specs.Parts.{Numbers}
use Rattle.std.proofs.Common.{sym}
use Rattle.component_table.proofs.begun.Begun.add_head.Goals as goal

pub returns-then-classes-eq0-clause-added : goal.returns-then-classes-eq0-clause-added
returns-then-classes-eq0-clause-added c =
    let o = c.args.origin.now in
    let b = o.case.now.book.now in
    let q = o.case.now.request.now in
    let p = c.args.path.now in
    let classes = c.in_ok-classes.classes in
    let closed = closed_path b q p.path.now classes c.if-classes-eq0.true (λ fs n. c.in_ok-classes.ensures.classes fs (subst (λ ns. Numbers b ns fs) (sym c.as_slice.ensures.items) n)) in
    record {
      landed = landing_none o c.args.known.now.fares p c.args.self.now.landings.items (inl closed);
      crossed = crossing_none b q o.at.now p.path.now c.args.self.now.heads.items (λ opened tail f. closed opened);
    }
