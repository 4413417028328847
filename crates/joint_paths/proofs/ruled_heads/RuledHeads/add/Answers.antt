use Rattle.std.proofs.Common.{ap, vec_items, ◌∷◌, ◌++◌, [], List, ◌∙◌}
use Rattle.joint_paths.specs.declared.ruled_heads.Ruled.{Ruled}
use Rattle.joint_paths.proofs.RuledFacts.{rules_more, rules_stay}
use Rattle.joint_paths.proofs.ruled_heads.RuledHeads.add.Goals as goal

pub returns-in_err-ruled-clause-known : goal.returns-in_err-ruled-clause-known
returns-in_err-ruled-clause-known c = λ rules number e named known. rules_stay c.args.bucket.now rules c.args.self.now.of.items _ c.args.self.now.charges.items c.charge_heads.new.self.charges.items (ap vec_items c.charge_heads.ensures.of) c.charge_heads.ensures.grows known

pub returns-in_err-put-clause-known : goal.returns-in_err-put-clause-known
returns-in_err-put-clause-known c = λ rules number e named known. rules_stay c.args.bucket.now rules c.args.self.now.of.items _ c.args.self.now.charges.items c.charge_heads.new.self.charges.items (ap vec_items c.charge_heads.ensures.of) c.charge_heads.ensures.grows known

pub returns-in_err-push-clause-known : goal.returns-in_err-push-clause-known
returns-in_err-push-clause-known c = λ rules number e named known. rules_stay c.args.bucket.now rules c.args.self.now.of.items _ c.args.self.now.charges.items c.charge_heads.new.self.charges.items (c.in_err-push.ensures.items ∙ ap vec_items c.charge_heads.ensures.of) c.charge_heads.ensures.grows known

pub returns-clause-known : goal.returns-clause-known
returns-clause-known c = λ rules number e named known. rules_more c.args.bucket.now rules c.args.self.now.of.items _ c.args.self.now.charges.items c.charge_heads.new.self.charges.items c.in_ok-ruled.ruled (c.in_ok-push.ensures.items ∙ ap (λ (xs : List Ruled). xs ++ c.in_ok-ruled.ruled ∷ []) (ap vec_items c.charge_heads.ensures.of)) c.charge_heads.ensures.grows (c.in_ok-ruled.ensures.named rules number e named) known
