-- The merge in hand as outlines are put in.
use Rattle.std.proofs.Common.{◌≡◌, ◌≢◌, ℕ, [], ◌∷◌, ◌++◌, length, set, slice_get, Some, Vec, sym, ap, ◌∙◌, inl, inr, arith}
use Rattle.std.specs.declared.alloc.Global.{Global}
use Rattle.fare_ends.proofs.BitFacts.{same_or_not}
use Rattle.fare_law.specs.Lists.{IsIn}
use Rattle.law_lemmas.proofs.Lists.{got_last, got_left}
use Rattle.law_lemmas.proofs.Members.{in_got}
use Rattle.law_lemmas.proofs.Options.{some_one}
use Rattle.outline_tables.specs.declared.merging.Merging.{Merging}
use Rattle.outline_tables.specs.declared.merging.Stand.{Stand}
use Rattle.outline_tables.specs.declared.outline_numbers.Priced.{Priced}
use Rattle.outline_tables.specs.Merges.{IsMerging, StandsRightly}
use Rattle.outline_tables.proofs.Putting.{got_or_last, set_here, set_there}

abbrev pub stand_at : ℕ → ℕ → Stand
stand_at merge at = record { merge = merge; at = at }

-- room for one outline more
pub merging_room : (old new : Merging) (s : Stand) → IsMerging old → s.merge ≡ 0 → new.merge ≡ old.merge → new.table ≡ old.table → new.stands.items ≡ old.stands.items ++ s ∷ [] → IsMerging new
merging_room old new s m none merge table stands = record {
  some = let some = m.some in omega (arith, some, merge);
  said = λ outline t e. elim (got_or_last old.stands.items s outline t (ap (λ ss. slice_get ss outline) (sym stands) ∙ e)) [
    | inl h ↦ kept outline t (m.said outline t h)
    | inr h ↦
        let zero_is : t.merge ≡ 0 = ap (λ (t : Stand). t.merge) h.1 ∙ none in
        let some = m.some in
        (omega (arith, zero_is), λ same. absurd (omega (arith, same, zero_is, some, merge)))
  ];
  there = λ at p e.
      ap (λ ss. slice_get ss p.outline) stands
      ∙ got_left old.stands.items (s ∷ []) p.outline (stand_at old.merge at) (m.there at p (ap (λ (v : Vec Priced Global). slice_get v.items at) (sym table) ∙ e))
      ∙ ap (λ k. Some (stand_at k at)) (sym merge);
}
  where
    kept : (outline : ℕ) (t : Stand) → StandsRightly old outline t → StandsRightly new outline t
    kept outline t r = (let le = r.0 in omega (arith, le, merge), λ same. let h = r.1 (same ∙ merge) in (h.0, ap (λ (v : Vec Priced Global). slice_get v.items t.at) table ∙ h.1, h.2))

-- an outline whose number says that it isn't in the table isn't there
pub outline_absent : (m : Merging) (x : Priced) (stand : Stand) → IsMerging m → slice_get m.stands.items x.outline ≡ Some stand → stand.merge ≢ m.merge → (p : Priced) → IsIn p m.table.items → p.outline ≡ x.outline → ⊥
outline_absent m x stand h e other p i same =
    let at = in_got m.table.items p i in
    let said = h.there at.0 p at.1 in
    other (ap (λ (s : Stand). s.merge) (some_one (slice_get m.stands.items x.outline) stand (stand_at m.merge at.0) e (ap (slice_get m.stands.items) (sym same) ∙ said)))

-- and it is added
pub merging_last : (old new : Merging) (x : Priced) (stand : Stand) (place : ℕ) → place ≡ length old.table.items → IsMerging old → slice_get old.stands.items x.outline ≡ Some stand → stand.merge ≢ old.merge → new.merge ≡ old.merge → new.table.items ≡ old.table.items ++ x ∷ []
    → new.stands.items ≡ set old.stands.items x.outline (stand_at old.merge place) → IsMerging new
merging_last old new x stand place last m got other merge table stands = record {
  some = let some = m.some in omega (arith, some, merge);
  said = λ outline s e. elim (same_or_not outline x.outline) [
    | inl y ↦
        let own : s ≡ mine = some_one (slice_get new.stands.items outline) s mine e (ap (slice_get new.stands.items) y ∙ here) in (
          let le : s.merge ≡ old.merge = ap (λ (s : Stand). s.merge) own in omega (arith, le, merge),
          λ now. (x, ap (slice_get new.table.items) (ap (λ (s : Stand). s.at) own ∙ last) ∙ ap (λ ps. slice_get ps (length old.table.items)) table ∙ got_last old.table.items x, sym y),
        )
    | inr n ↦
        let r = m.said outline s (sym (set_there old.stands.items x.outline outline mine n) ∙ ap (λ ss. slice_get ss outline) (sym stands) ∙ e) in
        (let le = r.0 in omega (arith, le, merge), λ now. let h = r.1 (now ∙ merge) in (h.0, ap (λ ps. slice_get ps s.at) table ∙ got_left old.table.items (x ∷ []) s.at h.0 h.1, h.2))
  ];
  there = λ at p e. elim (got_or_last old.table.items x at p (ap (λ ps. slice_get ps at) (sym table) ∙ e)) [
    | inl h ↦ elim (same_or_not p.outline x.outline) [
      | inl y ↦ absurd (other (ap (λ (s : Stand). s.merge) (some_one (slice_get old.stands.items x.outline) stand (stand_at old.merge at) got (ap (slice_get old.stands.items) (sym y) ∙ m.there at p h))))
      | inr n ↦ ap (λ ss. slice_get ss p.outline) stands ∙ set_there old.stands.items x.outline p.outline mine n ∙ m.there at p h ∙ ap (λ k. Some (stand_at k at)) (sym merge)
    ]
    | inr h ↦ ap (slice_get new.stands.items) (ap (λ (z : Priced). z.outline) h.1) ∙ here ∙ ap (λ k. Some (stand_at k place)) (sym merge) ∙ ap (λ k. Some (stand_at new.merge k)) (last ∙ sym h.0)
  ];
}
  where
    mine : Stand
    mine = stand_at old.merge place

    here : slice_get new.stands.items x.outline ≡ Some mine
    here = ap (λ ss. slice_get ss x.outline) stands ∙ set_here old.stands.items x.outline stand mine got
