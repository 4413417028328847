use Rattle.std.proofs.Common.{◌≡◌, true, get_or, refl, sym, subst, ◌∙◌}
use Rattle.std.specs.HashSet.{contains}
use Rattle.std.proofs.lemmas.Bool.{not-true}
use Rattle.std.proofs.lemmas.List.{take_all}
use Rattle.law_lemmas.proofs.Tests.{true_false}
use Rattle.schedule_book.specs.Expansions.{HasShared, name_of}
use Rattle.schedule_book.proofs.SharedNames.{Takes, names_next, no_row, one_name, takes_more, takes_one}
use Rattle.schedule_book.proofs.expansion.shared_names.Goals as goal
use Rattle.schedule_book.proofs.expansion.shared_names.Goals.{then-not-branch+in_ok-insert-2, else-not-branch}

pub loop-row-preserved : goal.loop-row-preserved
loop-row-preserved c =
    let rows = c.args.rows.now in
    let i = c.loop-row.row-index in
    let row = get_or rows i no_row in
    let name = c.name_of-name.result in
    let takes : Takes c.loop-row.names (name_of row) c.insert.new.self = subst (λ n. Takes c.loop-row.names n c.insert.new.self) c.name_of-name.ensures c.in_ok-insert.ensures.updates.0 in
    elim c.if-not-branch.branch [
      | then-not-branch+in_ok-insert-2 w ↦
          let grows : Takes c.loop-row.shared (name_of row) c.if-not-branch.shared = subst (λ s. Takes c.loop-row.shared (name_of row) s) (sym w.shared-is) (subst (λ n. Takes c.loop-row.shared n w.insert-then-not-branch.new.self) c.name_of-name.ensures w.in_ok-insert-2.ensures.updates.0) in
          names_next rows i no_row row c.loop-row-test.true refl c.loop-row.names c.insert.new.self c.loop-row.shared c.if-not-branch.shared c.loop-row.invariant takes (takes_more c.loop-row.shared c.if-not-branch.shared (name_of row) grows)
          (λ _. takes_one c.loop-row.shared c.if-not-branch.shared (name_of row) grows)
      | else-not-branch w ↦
          names_next rows i no_row row c.loop-row-test.true refl c.loop-row.names c.insert.new.self c.loop-row.shared c.if-not-branch.shared c.loop-row.invariant takes (λ q h. subst (λ s. contains one_name s q ≡ true) (sym w.shared-is) h)
          (λ t. absurd (true_false (subst (λ n. contains one_name c.loop-row.names n ≡ true) (sym c.name_of-name.ensures) t) (not-true (contains one_name c.loop-row.names c.name_of-name.result) (sym c.in_ok-insert.ensures.added ∙ w.if-not-branch.false))))
    ]

pub returns-clause-shared : goal.returns-clause-shared
returns-clause-shared c = subst (λ rs. HasShared one_name rs c.loop-row.shared) (take_all c.loop-row.row-index c.args.rows.now c.loop-row-test.false) c.loop-row.invariant.has
