-- What a rule says of paths stays, as others are asked. Given on to the crates above.
use Rattle.std.proofs.Common.{◌≡◌, ◌≢◌, ◌⊎◌, ℕ, List, length, slice_get, Option, Some, None, sym, ap, subst, ◌∙◌, inl, inr}
use Rattle.std.proofs.lemmas.Bool.Decides.{eqb_tells}
use Rattle.fare_law.specs.Lists.{Each}
use Rattle.joint_paths.specs.declared.rule_charges.Charged.{Charged}
use Rattle.joint_paths.specs.declared.rule_charges.Charged.TheVariants.{NotAsked}
use Rattle.joint_paths.specs.declared.rule_charges.RuleCharges.{RuleCharges}
use Rattle.joint_paths.specs.Said.{AreSaid, IsSaid, PutsCharged, charged_of}
use Rattle.law_lemmas.proofs.EachOne.{each_got}
use Rattle.law_lemmas.proofs.Options.{none_some, some_same}

is_or_not : (o : Option ℕ) (n : ℕ) → (o ≡ Some n) ⊎ (o ≢ Some n)
is_or_not None n = inr (none_some n)
is_or_not (Some m) n = elim (eqb_tells m n) [ inl y ↦ inl (ap Some y.1) | inr z ↦ inr (λ e. z.1 (some_same m n e)) ]

module _ (says : ℕ → ℕ → Option ℕ → Type 0) (count : ℕ) where
  none_said : (rule : ℕ) (cs : List Charged) → Each (λ c. c ≡ NotAsked) cs → (at : ℕ) (c : Charged) → slice_get cs at ≡ Some c → IsSaid (says rule at) c
  none_said rule cs h at c e = subst (IsSaid (says rule at)) (sym (each_got (λ c. c ≡ NotAsked) cs at c h e)) tt

  pub said_turned : (rule : ℕ) (old new : RuleCharges) → (old.rule ≡ Some rule → new ≡ old) → (old.rule ≢ Some rule → (length new.of.items ≡ count) × Each (λ c. c ≡ NotAsked) new.of.items) → AreSaid says count old → AreSaid says count new
  said_turned rule old new stays anew h = elim (is_or_not old.rule rule) [
    | inl e ↦ subst (AreSaid says count) (sym (stays e)) h
    | inr n ↦ let a = anew n in λ other is. (a.0, none_said other new.of.items a.1)
  ]

  said_one : (rule at : ℕ) (charges : Option ℕ) → says rule at charges → IsSaid (says rule at) (charged_of charges)
  said_one rule at None h = h
  said_one rule at (Some c) h = h

  pub said_put : (at : ℕ) (charges : Option ℕ) (old new : RuleCharges) → new.rule ≡ old.rule → PutsCharged at charges old.of.items new.of.items → ((rule : ℕ) → old.rule ≡ Some rule → says rule at charges) → AreSaid says count old → AreSaid says count new
  said_put at charges old new same puts here h = λ rule is.
      let own = sym same ∙ is in
      let was = h rule own in (
        puts.many ∙ was.0,
        λ n c e. elim (puts.each n c e) [
          | inl o ↦ was.1 n c o
          | inr p ↦ subst (λ m. IsSaid (says rule m) c) (sym p.0) (subst (IsSaid (says rule at)) (sym p.1) (said_one rule at charges (here rule own)))
        ],
      )
