use Rattle.std.proofs.Common.{◌≡◌, ◌∙◌, Some, ap, subst, sym, ◌∷◌, [], ◌++◌, slice_get}
use Rattle.std.proofs.lemmas.Result.{on_ok_weaker}
use Rattle.certificate_text.specs.Lines.{bound_word}
use Rattle.certificate_text.specs.RowTexts.{beginning}
use Rattle.certificate_text.proofs.RowLemmas.{row_added, text_at}
use Rattle.residual_keys.specs.ResidualText.{part_text}
use Rattle.residual_table.specs.Keys.{units_of}
use Rattle.certificate_text.proofs.row_texts.push_row.Goals as goal

pub push_units-requires : goal.push_units-requires
push_units-requires c =
    let t = c.requires.0 in
    let live = c.requires.2 in (
      t.units,
      live.0.units,
      c.as_slice-3.ensures ∙ ap (λ x. x.units) c.requires.1,
      subst (λ k. units_of t.units k.first k.second ≡ Some live.0.units) (sym c.key-key.ensures) live.1.units,
    )

pub returns : goal.returns
returns c t texts live =
    let x = live.0 in
    let s = live.1 in
    let k = c.key-key.ensures in
    let begins : c.index-as_slice-key.result ≡ beginning x.at =
    text_at beginning t.positions c.as_slice.result.now c.key-key.result.position x.at c.index-as_slice-key.result c.index-as_slice-key.result
    (c.as_slice.ensures ∙ ap (λ x. x.beginnings) texts) (ap (λ k. slice_get t.positions k.position) k ∙ s.at) c.index-as_slice-key.is in
    on_ok_weaker c.push_bound.result
    (λ more.
    row_added t c.args.row.now x c.args.text.now.items c.extend_from_slice.new.self.items c.push_units.new.text.items c.push_part.new.text.items c.push_bound.new.text.items s
    (c.in_ok-extend_from_slice.ensures.items ∙ ap (λ w. c.args.text.now.items ++ w) (c.as_slice-2.ensures ∙ begins))
    (c.in_ok-push_units.ensures t.units x.units (c.as_slice-3.ensures ∙ ap (λ x. x.units) texts) (subst (λ k. units_of t.units k.first k.second ≡ Some x.units) (sym k) s.units))
    (c.in_ok-push_part.ensures ∙ ap (λ k. c.push_units.new.text.items ++ 32 ∷ part_text k.part) k)
    (more ∙ ap (λ b. c.push_part.new.text.items ++ 32 ∷ (bound_word b ++ 10 ∷ [])) c.bound.ensures))
    c.push_bound.ensures
