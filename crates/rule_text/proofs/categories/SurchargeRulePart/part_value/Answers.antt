use Rattle.std.proofs.Common.{◌∙◌, ap, rules}
use Rattle.rule_text.specs.Written.{surcharge_data}
use Rattle.rule_text.proofs.categories.SurchargeRulePart.part_value.Goals as goal

pub returns : goal.returns
returns c =
    let s = c.args.self.now in record {
      first = c.ascii_text.result.now;
      first_is = search rules;
      last = c.ascii_text-2.result.now;
      last_is = search rules;
      written = c.in_ok-surcharge_entry.ensures ∙ ap (λ t. surcharge_data s.amount t c.ascii_text.result.now s.high c.ascii_text-2.result.now s.low) c.carrier_text.ensures;
    }
