-- The tails of a network as those that narrowing them asks for.
use Rattle.std.proofs.Common.{◌≡◌, ℕ, get_or, subst, sym, ◌∙◌}
use Rattle.cheap_moves.specs.Tails.{AreTailsOver as AreTailsFor}
use Rattle.component_table.specs.declared.networks.Network.{Network}
use Rattle.component_table.specs.declared.slice_tails.SliceTails.{SliceTails}
use Rattle.component_table.specs.Networks.{IsNetwork, TailsStand}
use Rattle.fare_ends.specs.Tails.{AreTailsOver}
use Rattle.fare_law.specs.declared.requests.Request.{Request}
use Rattle.fare_law.specs.Book.{Book}
use Rattle.law_lemmas.proofs.EachOne.{each_got}
use Rattle.law_lemmas.proofs.Lists.{got_is}

-- the tails that stand at a place are those of their slice
pub tails_there : (b : Book) (q : Request) (n : Network) (slice at : ℕ) (t : SliceTails) → IsNetwork b q n → TailsStand n.tails.items slice at → t ≡ get_or n.tails.items at t → AreTailsFor b q.slices slice t.paths
tails_there b q n slice at t h s is =
    let same : t ≡ s.kept = is ∙ got_is n.tails.items at t s.kept s.stands in
    let over = each_got (λ (x : SliceTails). AreTailsOver b q.slices x.slice x.paths) n.tails.items at s.kept h.tails s.stands in
    let there : AreTailsOver b q.slices slice t.paths = subst (λ (x : SliceTails). AreTailsOver b q.slices slice x.paths) (sym same) (subst (λ (i : ℕ). AreTailsOver b q.slices i s.kept.paths) s.slice_is over) in
    λ c plan. there c plan.places plan.flights
