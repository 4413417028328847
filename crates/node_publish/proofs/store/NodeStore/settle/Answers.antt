use Rattle.std.proofs.Common.{◌≡◌, Option, Some, Result, Ok, Err, ℕ, IfOk, OnErr, MatchResult, ap, ◌∙◌}
use Rattle.fare_component.specs.Keys.{Asked}
use Rattle.once_cell.specs.Once.{cell_name, Agrees}
use Rattle.node_publish.specs.Homes.{Known, Keeps, ReadsAt}
use Rattle.node_publish.proofs.Notes.{name_same, noted, settle_more}
use Rattle.node_publish.proofs.store.NodeStore.settle.Goals as goal

pub settle-requires : goal.settle-requires
settle-requires c =
    name_same cell_name (λ n. n.cell) c.self.inside.cells.items c.pass.inside.notes.items c.args.self.now c.args.at c.index.result.now c.index_mut.result.now c.self.view_is (ap (λ p. p.cells) c.pass.view_is ∙ c.requires.own) c.requires.within c.index.ensures c.index_mut.ensures.value

-- by what came back
each_ok : {R E : Type 0} (now : R → Asked) (o : Result R E) (old new : Option Asked) (before after : Known) (i : ℕ) → MatchResult o (λ r. (new ≡ Some (now r)) × Agrees old (now r)) (λ _. new ≡ old)
    → ((found : Option Asked) → ((k : Asked) → old ≡ Some k → new ≡ Some k) → new ≡ found → ReadsAt before after i found) → IfOk o (λ r. ReadsAt before after i (Some (now r)))
each_ok now (Ok r) old new before after i h use_it = use_it (Some (now r)) (settle_more (now r) old new h.0 h.1) h.0
each_ok now (Err e) old new before after i h use_it = tt

each_err : {R E : Type 0} (now : R → Asked) (o : Result R E) (old new : Option Asked) (before after : Known) (i : ℕ) → MatchResult o (λ r. (new ≡ Some (now r)) × Agrees old (now r)) (λ _. new ≡ old)
    → ((found : Option Asked) → ((k : Asked) → old ≡ Some k → new ≡ Some k) → new ≡ found → ReadsAt before after i found) → OnErr o (Keeps before after)
each_err now (Ok r) old new before after i h use_it = tt
each_err now (Err e) old new before after i h use_it = let r = use_it new (λ k e. h ∙ e) (λ j. new) in r.keeps

pub returns-clause-ok : goal.returns-clause-ok
returns-clause-ok c =
    each_ok (λ r. r.now) c.settle.result c.index_mut.result.now.known c.settle.new.note.known c.args.pass.now _ c.args.at c.settle.ensures.value
    (λ found more here. noted (λ n. n.cell) (λ n. n.known) c.pass.inside.notes.items c.args.at c.index_mut.result.now c.settle.new.note c.args.pass.now c.args.self.now found c.pass.view_is c.requires.own c.requires.within c.index_mut.ensures.value c.settle.ensures.cell more here)

pub returns-clause-err : goal.returns-clause-err
returns-clause-err c =
    each_err (λ r. r.now) c.settle.result c.index_mut.result.now.known c.settle.new.note.known c.args.pass.now _ c.args.at c.settle.ensures.value
    (λ found more here. noted (λ n. n.cell) (λ n. n.known) c.pass.inside.notes.items c.args.at c.index_mut.result.now c.settle.new.note c.args.pass.now c.args.self.now found c.pass.view_is c.requires.own c.requires.within c.index_mut.ensures.value c.settle.ensures.cell more here)
