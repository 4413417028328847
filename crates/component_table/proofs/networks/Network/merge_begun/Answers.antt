use Rattle.std.proofs.Common.{◌<◌, ◌∷◌, ◌++◌, [], List, OnOk, refl, subst, sym}
use Rattle.component_table.proofs.NetworkFacts.{network_merging}
use Rattle.fare_law.specs.Lists.{Each}
use Rattle.outline_tables.specs.declared.outline_numbers.Priced.{Priced}
use Rattle.outline_tables.specs.Merges.{IsLeastMerge}
use Rattle.component_table.proofs.networks.Network.merge_begun.Goals as goal

pub add-merged-requires-clause-within : goal.add-merged-requires-clause-within
add-merged-requires-clause-within c =
    subst (Each (λ (p : Priced). p.outline < c.len-count.result)) (sym c.as_slice.ensures.value)
    (subst (λ n. Each (λ (p : Priced). p.outline < n) c.args.self.now.room.begun.found.items) (sym c.len-count.ensures) c.requires.numbers)

pub returns-clause-merged : goal.returns-clause-merged
returns-clause-merged c =
    let old = c.args.self.now.room.merging.table.items in
    let new = c.add-merged.new.self.table.items in
    subst (λ (xs : List Priced). OnOk c.add-merged.result ((tables : List (List Priced)) → IsLeastMerge tables old → IsLeastMerge (tables ++ xs ∷ []) new)) c.as_slice.ensures.value c.add-merged.ensures.merged

pub returns-clause-network : goal.returns-clause-network
returns-clause-network c = λ b q h. network_merging b q c.args.self.now _ h refl refl refl refl refl refl c.add-merged.ensures.merging
