-- What is written for a filing has no float, and is shallow.
use Rattle.std.proofs.Common.{◌≡◌, ◌≤◌, ◌+◌, ℕ, false, List, [], ◌∷◌, codes, refl, arith, sym, subst}
use Rattle.serde_json.specs.Data.{Data, Items, no_items, item, put, depth, items_depth, members_depth, number, unsigned, string}
use Rattle.serde_json.specs.Read.{max_depth}
use Rattle.serde_json.specs.Written.{has_float, items_have_float}
use Rattle.fare_law.specs.declared.filings.Action.{Action}
use Rattle.fare_law.specs.declared.filings.Action.TheVariants.{PutFare, DropFare, PutRule, DropRule, PutSeats, DropSeats}
use Rattle.fare_law.specs.declared.filings.Filing.{Filing}
use Rattle.fare_law.specs.declared.names.Carrier.{Carrier}
use Rattle.fare_law.specs.declared.rules.Rule.{Rule}
use Rattle.fare_law.specs.FilingLimits.{IsAction, IsFiling}
use Rattle.fare_law.specs.Lists.{Each}
use Rattle.fare_law.specs.RuleLimits.{IsRule}
use Rattle.rule_text.proofs.MemberLemmas.{depth_put, floats_put}
use Rattle.rule_text.proofs.SpelledLemmas.{rule_spelled}
use Rattle.fare_filing.specs.Text.{WritesAction, WritesActions, WritesFiling, WritesRule, sole}

-- no float, and so many levels at most
pub record IsPlain (levels : ℕ) (d : Data) : Type 0 where
  pub no_float : has_float d ≡ false
  pub nests : depth d ≤ levels

rule_plain : (carrier : Carrier) (n : ℕ) (rule : Rule) (d : Data) → IsRule rule → WritesRule carrier n rule d → IsPlain 4 d
rule_plain carrier n rule d h w =
    let spells = rule_spelled rule w.members w.rule_is h in
    let number_is = number (unsigned n) in
    let rest = put (codes "rule") number_is w.members in
    let shallow_members : members_depth w.members ≤ 3 = (let a = spells.nests in omega arith) in
    let more = depth_put 3 (codes "rule") number_is w.members (omega arith) shallow_members in
    let most = depth_put 3 (codes "carrier") (string carrier.0) rest (omega arith) more in
    subst (λ (x : Data). IsPlain 4 x) (sym w.written)
    (record {
      no_float = floats_put (codes "carrier") (string carrier.0) rest refl (floats_put (codes "rule") number_is w.members refl spells.no_float);
      nests = omega (arith, most);
    })

-- an object of one member nests one level deeper than the member
wrapped : (levels : ℕ) (name : List ℕ) (d : Data) → IsPlain levels d → IsPlain (levels + 1) (sole name d)
wrapped levels name d h = record { no_float = rw (h.no_float) refl; nests = let a = h.nests in omega arith }

pub action_plain : (a : Action) (d : Data) → IsAction a → WritesAction a d → IsPlain 5 d
action_plain (PutFare fare) d h e = subst (λ (x : Data). IsPlain 5 x) (sym e) (record { no_float = refl; nests = omega arith })
action_plain (DropFare key) d h e = subst (λ (x : Data). IsPlain 5 x) (sym e) (record { no_float = refl; nests = omega arith })
action_plain (PutRule carrier n rule) d h w =
    subst (λ (x : Data). IsPlain 5 x) (sym w.written) (wrapped 4 (codes "put_rule") w.inner (rule_plain carrier n rule w.inner h.2 w.formed))
action_plain (DropRule carrier n) d h e = subst (λ (x : Data). IsPlain 5 x) (sym e) (record { no_float = refl; nests = omega arith })
action_plain (PutSeats key seats) d h w =
    subst (λ (x : Data). IsPlain 5 x) (sym w.written) (wrapped 4 (codes "put_seats") w.inner
    (subst (λ (x : Data). IsPlain 4 x) (sym w.formed.written) (record { no_float = refl; nests = omega arith })))
action_plain (DropSeats key) d h w =
    subst (λ (x : Data). IsPlain 5 x) (sym w.written) (wrapped 4 (codes "drop_seats") w.inner
    (subst (λ (x : Data). IsPlain 4 x) (sym w.formed.written) (record { no_float = refl; nests = omega arith })))

no_floats : (actions : List Action) (ds : Items) → Each IsAction actions → WritesActions actions ds → items_have_float ds ≡ false
no_floats [] no_items h w = refl
no_floats [] (item d ds) h w = absurd w
no_floats (a ∷ actions) no_items h w = absurd w
no_floats (a ∷ actions) (item d ds) h w = rw ((action_plain a d h.0 w.0).no_float) (no_floats actions ds h.1 w.1)

each_nests : (actions : List Action) (ds : Items) → Each IsAction actions → WritesActions actions ds → items_depth ds ≤ 5
each_nests [] no_items h w = omega arith
each_nests [] (item d ds) h w = absurd w
each_nests (a ∷ actions) no_items h w = absurd w
each_nests (a ∷ actions) (item d ds) h w = let n = (action_plain a d h.0 w.0).nests in let k = each_nests actions ds h.1 w.1 in omega arith

pub no_float : (filing : Filing) (d : Data) → IsFiling filing → WritesFiling filing d → has_float d ≡ false
no_float filing d h w = subst (λ (x : Data). has_float x ≡ false) (sym w.written) (rw (no_floats filing.actions w.items h.each w.actions) refl)

pub shallow : (filing : Filing) (d : Data) → IsFiling filing → WritesFiling filing d → depth d ≤ max_depth
shallow filing d h w = subst (λ (x : Data). depth x ≤ max_depth) (sym w.written) (let n = each_nests filing.actions w.items h.each w.actions in omega arith)
