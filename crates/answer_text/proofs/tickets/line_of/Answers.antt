use Rattle.std.proofs.Common.{◌≡◌, ◌∙◌, Some, None, option_map, ap, refl, sym, subst}
use Rattle.fare_law.specs.Lawful.{unit_of}
use Rattle.fare_law.specs.Parts.{Part}
use Rattle.fare_law.specs.Units.{IsUnit}
use Rattle.ticket_whole.specs.Known.{parts_of}
use Rattle.answer_text.proofs.tickets.line_of.Goals as goal

some_same : {X : Type 0} (x y : X) → Some x ≡ Some y → x ≡ y
some_same x y e = cc

none_some : {X : Type 0} (x : X) → None ≡ Some x → ⊥
none_some x e = absurd (cc)

pub returns-in_err-component_price : goal.returns-in_err-component_price
returns-in_err-component_price c q part kind is found unit = absurd (none_some _ (c.in_err-component_price.ensures.part q part is))

pub returns : goal.returns
returns c q part kind is found unit = record {
  place = refl;
  label = sym is.unit;
  unit = subst (λ label. IsUnit c.in_ok-unit_kind.field-0 (unit_of label (parts_of c.args.book.now q.sale c.args.components.now))) (sym is.unit) (c.in_ok-unit_kind.ensures q.sale);
  reverse = some_same _ _ (c.in_ok-is_reverse.ensures q.sale ∙ ap (option_map (λ (p : Part). p.piece.reverse)) found);
  price = some_same _ _ (c.in_ok-component_price.ensures.part q part is);
}
